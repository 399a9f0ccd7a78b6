-- Which account's code a request carries if, at a gate, it asks for something under a clerk's number or on the console.
use Rattle.std.proofs.Common.{◌≡◌, ◌∙◌, ◌&&◌, Bool, true, false, List, [], ◌∷◌, ◌++◌, Option, Some, None, Result, Ok, Err, ap, arith, codes, inr, length, map, not, refl, subst, sym, ℕ}
use Rattle.std.specs.Prelude.{bytes_eq, if◌then◌else◌, is_some, option_and_then, option_map, slice_index}
use Rattle.std.specs.Char.{is_ascii_digit}
use Rattle.std.specs.List.{list_all, prefix_len}
use Rattle.std.proofs.lemmas.Bool.{and_parts}
use Rattle.std.proofs.Math.Seq.{take-append_seam}
use Rattle.httparse.specs.Spans.{name_and_value}
use Rattle.wire.specs.Requests.{AsksByHolder, HoldsCode, account_asked, asked_by, asked_for, asked_in, asked_of, let_in, ordered_in, verb_of, verb_text, wanted_by}
use Rattle.wire.specs.ConsoleOrders.{ConsoleOrderEntry, order_of}
use Rattle.wire.specs.declared.account.Account.{Account}
use Rattle.wire.specs.declared.account.Account.TheVariants.{Clerk, Office as Officer}
use Rattle.wire.specs.declared.target.OfficeTarget.TheVariants as office
use Rattle.wire.specs.Bodies.{KeyingEntry, body_in, keying_of}
use Rattle.wire.specs.Gates.{GateEntry, HttpSettingsEntry, PublicEntry, account_at, account_under, clerk_under, has_code, authentication_failure}
use Rattle.wire.specs.Gates.{authentication_failure_by, needs_office, needs_public, number_before, reading_account, sent_codes, served_at, shown_by}
use Rattle.wire.specs.Lengths.{NamedValue, body_length}
use Rattle.wire.specs.Origins.{is_foreign}
use Rattle.wire.specs.Numbers.{number_in}
use Rattle.wire.specs.OfficeTargets.{IsReadTarget}
use Rattle.wire.specs.Targets.{IsTargetOf, named_by, office_path}
use Rattle.wire.specs.declared.target.OfficeTarget.{OfficeTarget}
use Rattle.wire.specs.declared.request_error.RequestError.{RequestError}
use Rattle.wire.specs.declared.office_read.OfficeRead.{OfficeRead}
use Rattle.wire.specs.declared.office_read.OfficeRead.TheVariants as read
use Rattle.wire.specs.declared.target.Resource.TheVariants.{Candidates, Declaration, Keyed, Office as Reads, Sheet, Work}
use Rattle.wire.specs.declared.target.Target.{Target}
use Rattle.wire.specs.declared.target.Target.TheVariants.{Keying, Leave, Office, Page, Public, Resource}
use Rattle.wire.proofs.RequestLemmas.{AsksOneThing-all}
use Rattle.wire.proofs.OfficeTargetLemmas.{number-digits}
use Rattle.wire.proofs.PathLemmas.{NamesOnlyItsPath-all}

-- ---- the clerk at the start of a target

-- the number of digits before a slash
digits-before : (part rest : List ℕ) → list_all is_ascii_digit part ≡ true → prefix_len is_ascii_digit (part ++ (47 ∷ rest)) ≡ length part
digits-before [] rest digits = refl
digits-before (d ∷ part) rest digits =
    let both = and_parts (is_ascii_digit d) (list_all is_ascii_digit part) digits in
    let more = digits-before part rest both.1 in
    rw both.0 (omega (arith, more))

slash-behind : (part rest : List ℕ) → slice_index (part ++ (47 ∷ rest)) (length part) ≡ 47
slash-behind [] rest = refl
slash-behind (d ∷ part) rest = slash-behind part rest

-- a path that begins with a clerk's number belongs to that clerk
under-path : (part rest : List ℕ) (clerk : ℕ) → number_in part ≡ Some clerk → clerk_under (codes "/clerks/" ++ (part ++ (47 ∷ rest))) ≡ Some clerk
under-path part rest clerk own =
    ap (λ n. number_before n (part ++ (47 ∷ rest))) (digits-before part rest (number-digits part clerk own))
    ∙ rw (slash-behind part rest, take-append_seam part (47 ∷ rest)) own

-- the account whose code is needed for what a target names, if any
abbrev owner_of : Target → Option Account
owner_of (Keying clerk batch) = Some (Clerk clerk)
owner_of (Page clerk) = Some (Clerk clerk)
owner_of (Leave clerk) = Some (Clerk clerk)
owner_of (Resource what) = reading_account what
owner_of (Office what) = Some Officer
owner_of (Public what) = None

-- the account for a path that begins with a clerk's number
under-clerk : (own : Option (List ℕ)) (target part rest : List ℕ) (clerk : ℕ) (account : Account) → target ≡ codes "/clerks/" ++ (part ++ (47 ∷ rest)) → number_in part ≡ Some clerk
    → Some (Clerk clerk) ≡ Some account → account_under own target ≡ Some account
under-clerk own target part rest clerk account is numbered same = ap (account_under own) is ∙ ap (option_map (λ c. Clerk c)) (under-path part rest clerk numbered) ∙ same

-- the account for the console, if the office has a code
under-office : (own : Option (List ℕ)) (what : OfficeTarget) → (not (is_some own)) ≡ false → account_under own (office_path what) ≡ Some Officer
under-office None what has = let no : ⊥ = cc in absurd no
under-office (Some text) office.ConsolePage has = refl
under-office (Some text) office.Leave has = refl
under-office (Some text) office.Orders has = refl

-- the account for the console's reads, if the office has a code
under-read : (own : Option (List ℕ)) (target : List ℕ) (its : OfficeRead) → (not (is_some own)) ≡ false → IsReadTarget its target → account_under own target ≡ Some Officer
under-read None target its has is = let no : ⊥ = cc in absurd no
under-read (Some text) target read.Wards has is = ap (account_under (Some text)) is
under-read (Some text) target (read.Ward n) has (part, is, numbered) = ap (account_under (Some text)) is
under-read (Some text) target (read.Batches n) has (part, is, numbered) = ap (account_under (Some text)) is
under-read (Some text) target (read.Doubtful n) has (part, is, numbered) = ap (account_under (Some text)) is
under-read (Some text) target (read.Differences n) has (part, is, numbered) = ap (account_under (Some text)) is
under-read (Some text) target (read.Papers n) has (part, is, numbered) = ap (account_under (Some text)) is
under-read (Some text) target (read.Receipts None) has is = ap (account_under (Some text)) is
under-read (Some text) target (read.Receipts (Some actor)) has (part, is, numbered) = ap (account_under (Some text)) is

under-own : (own : Option (List ℕ)) (target : List ℕ) (there : Target) (account : Account) → (needs_office there && not (is_some own)) ≡ false → IsTargetOf there target
    → owner_of there ≡ Some account → account_under own target ≡ Some account
under-own own target (Keying c batch) account has (part, b, is, numbered, other) same = under-clerk own target part (codes "batches/" ++ (b ++ codes "/keying")) c account is numbered same
under-own own target (Page c) account has (part, is, numbered) same = under-clerk own target part [] c account is numbered same
under-own own target (Leave c) account has (part, is, numbered) same = under-clerk own target part (codes "leave") c account is numbered same
under-own own target (Resource (Work c)) account has (part, is, numbered) same = under-clerk own target part (codes "work") c account is numbered same
under-own own target (Resource (Candidates c batch)) account has (part, b, is, numbered, other) same =
    under-clerk own target part (codes "batches/" ++ (b ++ codes "/candidates")) c account is numbered same
under-own own target (Resource (Keyed c batch)) account has (part, b, is, numbered, other) same =
    under-clerk own target part (codes "batches/" ++ (b ++ codes "/keyed")) c account is numbered same
under-own own target (Resource (Sheet w)) account has is same = let no : ⊥ = cc in absurd no
under-own own target (Resource (Declaration w)) account has is same = let no : ⊥ = cc in absurd no
under-own own target (Resource (Reads its)) account has is same = under-read own target its has is ∙ same
under-own own target (Public what) account has is same = let no : ⊥ = cc in absurd no
under-own own target (Office what) account has is same = ap (account_under own) is ∙ under-office own what has ∙ same

-- ---- what isn't rejected

holds : (gate : GateEntry) (account : Account) (fields : List NamedValue) (values : List (List ℕ)) → sent_codes fields ≡ values → authentication_failure_by gate account values ≡ None
    → HoldsCode gate account fields
holds gate account fields [] sent none = let no : ⊥ = cc in absurd no
holds gate account fields (value ∷ other ∷ more) sent none = let no : ⊥ = cc in absurd no
holds gate account fields (value ∷ []) sent none = by (has_code gate account value) refl none
  where
    by : (b : Bool) → has_code gate account value ≡ b → authentication_failure_by gate account (value ∷ []) ≡ None → HoldsCode gate account fields
    by true is none = record { value = value; once = sent; is_its = is }
    by false is none =
        let turned = rw is at none in
        let no : ⊥ = cc in
        absurd no

-- anything that requires an account's code is requested at a target that belongs to that account
keying-own : (c batch : ℕ) (entry : Option KeyingEntry) (account : Account) → account_asked (asked_in c batch entry) ≡ Some account → Clerk c ≡ account
keying-own c batch None account is = let no : ⊥ = cc in absurd no
keying-own c batch (Some entry) account is = cc

order-own : (entry : Option ConsoleOrderEntry) (account : Account) → account_asked (ordered_in entry) ≡ Some account → Officer ≡ account
order-own None account is = let no : ⊥ = cc in absurd no
order-own (Some entry) account is = cc

own-asked : (gate : GateEntry) (hall : Option PublicEntry) (there : Target) (size : Result ℕ RequestError) (behind : List ℕ) (account : Account) → account_asked
    (asked_of (Some gate) hall (Ok there) size behind) ≡ Some account
    → owner_of there ≡ Some account
own-asked gate hall (Keying c batch) (Ok n) behind account is = ap Some (keying-own c batch (option_and_then keying_of (body_in n behind)) account is)
own-asked gate hall (Keying c batch) (Err why) behind account is = let no : ⊥ = cc in absurd no
own-asked gate hall (Page c) size behind account is = is
own-asked gate hall (Leave c) size behind account is = is
own-asked gate hall (Resource what) size behind account is = is
own-asked gate hall (Office office.ConsolePage) size behind account is = is
own-asked gate hall (Office office.Leave) size behind account is = is
own-asked gate hall (Office office.Orders) (Ok n) behind account is = ap Some (order-own (option_and_then order_of (body_in n behind)) account is)
own-asked gate hall (Office office.Orders) (Err why) behind account is = let no : ⊥ = cc in absurd no
own-asked gate None (Public what) size behind account is = let no : ⊥ = cc in absurd no
own-asked gate (Some its) (Public what) size behind account is = let no : ⊥ = cc in absurd no

-- at a gate, depending on what was found at the target
module _ (gate : GateEntry) (hall : Option PublicEntry) (fields : List NamedValue) (method target : List ℕ) (size : Result ℕ RequestError) (behind : List ℕ) (account : Account) where
  -- what is requested belongs to the account
  abbrev IsAskedAs : Option Target → Type 0
  IsAskedAs there = account_asked (asked_of (Some gate) hall (asked_for method there) size behind) ≡ Some account

  asked_served : (there : Target) → named_by target ≡ Some there → (needs_office there && not (is_some gate.office)) ≡ false → IsAskedAs (Some there) → account_under gate.office target ≡ Some account
  asked_served there named has is = by (bytes_eq method (verb_text (verb_of there))) refl is
    where
      by : (b : Bool) → bytes_eq method (verb_text (verb_of there)) ≡ b → IsAskedAs (Some there) → account_under gate.office target ≡ Some account
      by true same is = under-own gate.office target there account has ((NamesOnlyItsPath-all target there).0 named) (own-asked gate hall there size behind account (rw same at is))
      by false other is =
          let turned = rw other at is in
          let no : ⊥ = cc in
          absurd no

  asked_there : (there : Option Target) → named_by target ≡ there → IsAskedAs (served_at (Some gate) hall there) → account_under gate.office target ≡ Some account
  asked_there None named is = let no : ⊥ = cc in absurd no
  asked_there (Some there) named is = by (needs_office there && not (is_some gate.office)) refl is
    where
      open_to : (b : Bool) → (needs_public there && not (is_some hall)) ≡ b → (needs_office there && not (is_some gate.office)) ≡ false → IsAskedAs (if b then None else Some there)
          → account_under gate.office target ≡ Some account
      open_to true without has is = let no : ⊥ = cc in absurd no
      open_to false with has is = asked_served there named has is

      by : (b : Bool) → (needs_office there && not (is_some gate.office)) ≡ b → IsAskedAs (shown_by hall (if b then None else Some there)) → account_under gate.office target ≡ Some account
      by true without is = let no : ⊥ = cc in absurd no
      by false has is = open_to (needs_public there && not (is_some hall)) refl has is

  let_in-held : (why : Option RequestError) → authentication_failure (Some gate) (account_at (Some gate) target) fields ≡ why
      → account_asked (asked_of (Some gate) hall (let_in why method (served_at (Some gate) hall (named_by target))) size behind) ≡ Some account → HoldsCode gate account fields
  let_in-held (Some why) kept is = let no : ⊥ = cc in absurd no
  let_in-held None kept is =
      let under : account_under gate.office target ≡ Some account = asked_there (named_by target) refl is in
      holds gate account fields (sent_codes fields) refl (ap (λ a. authentication_failure (Some gate) a fields) (sym under) ∙ kept)

  wanted-held : (foreign : Bool) → account_asked (asked_of (Some gate) hall (wanted_by foreign (Some gate) hall fields method target) size behind) ≡ Some account → HoldsCode gate account fields
  wanted-held true is = let no : ⊥ = cc in absurd no
  wanted-held false is = let_in-held (authentication_failure (Some gate) (account_at (Some gate) target) fields) refl is

-- anything that requires an account's code is requested by the holder of that code
pub AsksByHolder-all : (settings : HttpSettingsEntry) (bytes : List ℕ) → AsksByHolder settings bytes
AsksByHolder-all settings bytes head behind begins asked asks account is gate there =
    let fields = map name_and_value head.fields in
    let one = AsksOneThing-all settings bytes asked (asked_by settings head behind) asks (inr (head, behind, begins, refl)) in
    let own : account_asked (asked_by settings head behind) ≡ Some account = ap account_asked (sym one) ∙ is in
    wanted-held gate settings.public fields head.method head.target (body_length fields) behind account (is_foreign settings.origin fields)
    (subst (λ (g : Option GateEntry). account_asked (asked_of g settings.public (wanted_by (is_foreign settings.origin fields) g settings.public fields head.method head.target)
    (body_length fields) behind) ≡ Some account) there own)

-- What a request lacks, what it asks for, and under whose number, as its parsed head shows.
use Rattle.std.proofs.Common.{◌≡◌, ◌∙◌, ◌<◌, ◌≤◌, ◌+◌, ◌-◌, ℕ, List, Option, None, Result, Ok, Err, [], ◌++◌, Some}
use Rattle.std.proofs.Common.{inl, inr, append_assoc, ap, arith, drop, length, map, min, option_map, refl, subst, sym, take}
use Rattle.std.proofs.Math.Seq.{drop-append_seam}
use Rattle.std.proofs.lemmas.Bool.{cases_lt, le-leb}
use Rattle.std.proofs.lemmas.List.{append-nil, length-append, length-take, nil_from_length, take-append-drop, take-append-le, take_all}
use Rattle.std.specs.Prelude.{◌^◌, IfOk, IfSome, option_and_then}
use Rattle.httparse.specs.Grammar.{HasNoRequest, MayBecomeRequest, RequestHead, print_request}
use Rattle.httparse.specs.Spans.{IsRequestOf, RequestOverflows, header_bytes, name_and_value, span_bytes}
use Rattle.httparse.specs.declared.spans.HeaderSpan.{HeaderSpan}
use Rattle.httparse.specs.declared.spans.RequestSpans.{RequestSpans}
use Rattle.wire.specs.Requests.{HttpRequestEntry, Asks, IsIncomplete, MissesBehind, MissesBytes, asked_by, http_request_entry, asked_in, asked_of, denied, ordered_in, reading, wanted}
use Rattle.wire.specs.declared.request.HttpRequest.{HttpRequest}
use Rattle.wire.specs.Bodies.{KeyingEntry, body_in, keying_of}
use Rattle.wire.specs.Gates.{GateEntry, HttpSettingsEntry, PublicEntry, IsAuthentication, authentication_at, authentication_entry}
use Rattle.wire.specs.Heads.{BeginsWith, HasNoHead, IsHeadIncomplete}
use Rattle.wire.specs.Completeness.{IsCompletenessOf, IsWhole}
use Rattle.wire.specs.Lengths.{NamedValue, most_body_bytes}
use Rattle.wire.specs.Parsing.{IsHeadOf, Says, needed, read_in}
use Rattle.wire.specs.declared.request_error.RequestError.{RequestError}
use Rattle.wire.specs.declared.request_error.RequestError.TheVariants.{BadRequest}
use Rattle.wire.specs.declared.completeness.Completeness.TheVariants.{AtLeast}
use Rattle.wire.specs.declared.parsed.Head.{Head}
use Rattle.wire.specs.declared.target.Resource.{Resource}
use Rattle.wire.specs.declared.target.Target.{Target}
use Rattle.wire.specs.declared.target.Target.TheVariants as target
use Rattle.wire.specs.declared.target.OfficeTarget.TheVariants as office
use Rattle.wire.specs.ConsoleOrders.{ConsoleOrderEntry, order_of}
use Rattle.wire.proofs.RequestLemmas.{AsksOneThing-all, begins}
use Rattle.wire.proofs.HeadLemmas.{HasOneHead-all, within}

-- ---- a head that was found

-- what was found at the start was parsed
pub headed : (settings : HttpSettingsEntry) (got : List ℕ) (n : ℕ) (headers : List HeaderSpan) (spans : RequestSpans) (head : Head) → IsRequestOf (take n got) headers spans
    → Says settings (map (header_bytes (take n got)) (take spans.headers headers)) (span_bytes (take n got) spans.method) (span_bytes (take n got) spans.path) spans.len head
    → n ≤ 8192 → length headers ≡ 32 → IsHeadOf settings got head
headed settings got n headers spans head (found, there) says small places =
    let front = take n got in
    let back = drop n got in
    let e : got ≡ front ++ back = sym (take-append-drop n got) in
    let fits : length front ≤ 8192 = omega (arith, small, length-take n got) in
    let fields = map name_and_value found.fields in
    record {
      found = found;
      behind = drop spans.len front ++ back;
      begins = begins got front back headers spans found there fits places e;
      says = subst (λ k. Says settings fields found.method found.target k head) there.len
          (subst (λ p. Says settings fields found.method p spans.len head) there.path
          (subst (λ m. Says settings fields m (span_bytes front spans.path) spans.len head) there.method
          (subst (λ (f : List NamedValue). Says settings f (span_bytes front spans.method) (span_bytes front spans.path) spans.len head) there.fields says)));
    }

-- more bytes follow the head
grown : (got more : List ℕ) (found : RequestHead) (behind : List ℕ) → BeginsWith got found behind → BeginsWith (got ++ more) found (behind ++ more)
grown got more found behind begun = record {
  is_head = begun.is_head;
  parts = ap (λ xs. xs ++ more) begun.parts ∙ append_assoc (print_request found) behind more;
  short = begun.short;
  few = begun.few;
}

-- the head stays parsed
pub head_lasts : (settings : HttpSettingsEntry) (got : List ℕ) (head : Head) → IsHeadOf settings got head → (more : List ℕ) → IsHeadOf settings (got ++ more) head
head_lasts settings got head is more = record { found = is.found; behind = is.behind ++ more; begins = grown got more is.found is.behind is.begins; says = is.says }

-- the size of the head, and what follows it
parts_of : (settings : HttpSettingsEntry) (got : List ℕ) (head : Head) (is : IsHeadOf settings got head) → length got ≡ head.size + length is.behind
parts_of settings got head is = ap length is.begins.parts ∙ length-append (print_request is.found) is.behind ∙ ap (λ n. n + length is.behind) (sym is.says.size)

-- ---- what follows a head

-- a body that is complete
body_stays : (n : ℕ) (behind more : List ℕ) → (length behind < n → ⊥) → body_in n (behind ++ more) ≡ body_in n behind
body_stays n behind more enough =
    elim (cases_lt (length behind) n) [
      | inl lt ↦ absurd (enough lt)
      | inr le ↦ rw (le-leb n (length (behind ++ more)) (omega (arith, le, length-append behind more)), le-leb n (length behind) le, take-append-le n behind more le) refl
    ]

-- what is requested at a target stays the same once no bytes are missing
asked_stays : (gate : Option GateEntry) (hall : Option PublicEntry) (t : Result Target RequestError) (size : Result ℕ RequestError) (behind more : List ℕ) → (MissesBytes t size behind → ⊥)
    → asked_of gate hall t size (behind ++ more) ≡ asked_of gate hall t size behind
asked_stays gate hall (Ok (target.Keying clerk batch)) (Ok n) behind more enough = ap (λ b. asked_in clerk batch (option_and_then keying_of b)) (body_stays n behind more enough)
asked_stays gate hall (Ok (target.Keying clerk batch)) (Err why) behind more enough = refl
asked_stays gate hall (Ok (target.Page clerk)) size behind more enough = refl
asked_stays gate hall (Ok (target.Leave clerk)) size behind more enough = refl
asked_stays gate hall (Ok (target.Resource what)) size behind more enough = refl
asked_stays gate hall (Ok (target.Office office.ConsolePage)) size behind more enough = refl
asked_stays gate hall (Ok (target.Office office.Leave)) size behind more enough = refl
asked_stays gate hall (Ok (target.Office office.Orders)) (Ok n) behind more enough = ap (λ b. ordered_in (option_and_then order_of b)) (body_stays n behind more enough)
asked_stays gate hall (Ok (target.Office office.Orders)) (Err why) behind more enough = refl
asked_stays gate hall (Ok (target.Public what)) size behind more enough = refl
asked_stays gate hall (Err why) size behind more enough = refl

-- a request that begins with a head and lacks no bytes after it
whole_behind : (settings : HttpSettingsEntry) (got : List ℕ) (head : RequestHead) (behind : List ℕ) → BeginsWith got head behind → (MissesBehind settings head behind → ⊥) → IsWhole settings got
whole_behind settings got head behind begun enough more asked asks =
    let one : asked ≡ asked_by settings head behind = AsksOneThing-all settings got asked (asked_by settings head behind) asks (inr (head, behind, begun, refl)) in
    inr (
      head,
      behind ++ more,
      record {
        is_head = begun.is_head;
        parts = ap (λ xs. xs ++ more) begun.parts ∙ append_assoc (print_request head) behind more;
        short = begun.short;
        few = begun.few;
      },
      one ∙ sym (asked_stays settings.gate settings.public _ _ behind more enough),
    )

-- ---- what is missing

-- fewer bytes than are needed don't determine what is requested
few_incomplete : (t : Result Target RequestError) (body : Result ℕ RequestError) (behind : List ℕ) → length behind < needed t body → MissesBytes t body behind
few_incomplete (Ok (target.Keying clerk batch)) (Ok n) behind few = few
few_incomplete (Ok (target.Keying clerk batch)) (Err why) behind few = absurd (omega (arith, few))
few_incomplete (Ok (target.Page clerk)) body behind few = absurd (omega (arith, few))
few_incomplete (Ok (target.Leave clerk)) body behind few = absurd (omega (arith, few))
few_incomplete (Ok (target.Resource what)) body behind few = absurd (omega (arith, few))
few_incomplete (Ok (target.Office office.ConsolePage)) body behind few = absurd (omega (arith, few))
few_incomplete (Ok (target.Office office.Leave)) body behind few = absurd (omega (arith, few))
few_incomplete (Ok (target.Office office.Orders)) (Ok n) behind few = few
few_incomplete (Ok (target.Office office.Orders)) (Err why) behind few = absurd (omega (arith, few))
few_incomplete (Ok (target.Public what)) body behind few = absurd (omega (arith, few))
few_incomplete (Err why) body behind few = absurd (omega (arith, few))

enough_complete : (t : Result Target RequestError) (body : Result ℕ RequestError) (behind : List ℕ) → needed t body ≤ length behind → MissesBytes t body behind → ⊥
enough_complete (Ok (target.Keying clerk batch)) (Ok n) behind enough completeness_of = omega (arith, enough, completeness_of)
enough_complete (Ok (target.Keying clerk batch)) (Err why) behind enough completeness_of = completeness_of
enough_complete (Ok (target.Page clerk)) body behind enough completeness_of = completeness_of
enough_complete (Ok (target.Leave clerk)) body behind enough completeness_of = completeness_of
enough_complete (Ok (target.Resource what)) body behind enough completeness_of = completeness_of
enough_complete (Ok (target.Office office.ConsolePage)) body behind enough completeness_of = completeness_of
enough_complete (Ok (target.Office office.Leave)) body behind enough completeness_of = completeness_of
enough_complete (Ok (target.Office office.Orders)) (Ok n) behind enough completeness_of = omega (arith, enough, completeness_of)
enough_complete (Ok (target.Office office.Orders)) (Err why) behind enough completeness_of = completeness_of
enough_complete (Ok (target.Public what)) body behind enough completeness_of = completeness_of
enough_complete (Err why) body behind enough completeness_of = completeness_of

-- the head lacks whatever the parsed head lacks
MissesBehind-parsed : (settings : HttpSettingsEntry) (got : List ℕ) (head : Head) (is : IsHeadOf settings got head) (behind : List ℕ)
    → MissesBytes head.wanted head.body behind → MissesBehind settings is.found behind
MissesBehind-parsed settings got head is behind completeness_of =
    subst (λ b. MissesBytes (wanted settings (map name_and_value is.found.fields) is.found.method is.found.target) b behind) is.says.body
    (subst (λ (t : Result Target RequestError). MissesBytes t head.body behind) is.says.wanted completeness_of)

MissesBehind-back : (settings : HttpSettingsEntry) (got : List ℕ) (head : Head) (is : IsHeadOf settings got head) (behind : List ℕ)
    → MissesBehind settings is.found behind → MissesBytes head.wanted head.body behind
MissesBehind-back settings got head is behind completeness_of =
    subst (λ (t : Result Target RequestError). MissesBytes t head.body behind) (sym is.says.wanted)
    (subst (λ b. MissesBytes (wanted settings (map name_and_value is.found.fields) is.found.method is.found.target) b behind) (sym is.says.body) completeness_of)

-- there are fewer bytes than the head needs
wanting_parsed : (settings : HttpSettingsEntry) (got more : List ℕ) (head : Head) → IsHeadOf settings got head → length (got ++ more) < head.size + needed head.wanted head.body
    → IsIncomplete settings (got ++ more)
wanting_parsed settings got more head is few =
    let long = parts_of settings got head is in
    let short : length (is.behind ++ more) < needed head.wanted head.body = omega (arith, few, long, length-append got more, length-append is.behind more) in
    inr (
      is.found,
      is.behind ++ more,
      grown got more is.found is.behind is.begins,
      MissesBehind-parsed settings got head is (is.behind ++ more)
          (few_incomplete head.wanted head.body (is.behind ++ more) short),
    )

pub lacks_bytes : (settings : HttpSettingsEntry) (got : List ℕ) (head : Head) → IsHeadOf settings got head → length got < head.size + needed head.wanted head.body
    → IsCompletenessOf settings got (AtLeast (head.size + needed head.wanted head.body))
lacks_bytes settings got head is few = (
  subst (IsIncomplete settings) (append-nil got) (wanting_parsed settings got [] head is (subst (λ (xs : List ℕ). length xs < head.size + needed head.wanted head.body) (sym (append-nil got)) few)),
  few,
  λ more less. wanting_parsed settings got more head is less,
)

-- the number of bytes needed is small
needed_small : (t : Result Target RequestError) (body : Result ℕ RequestError) → IfOk body (λ n. n ≤ most_body_bytes) → needed t body ≤ most_body_bytes
needed_small (Ok (target.Keying clerk batch)) (Ok n) fits = fits
needed_small (Ok (target.Keying clerk batch)) (Err why) fits = omega arith
needed_small (Ok (target.Page clerk)) body fits = omega arith
needed_small (Ok (target.Leave clerk)) body fits = omega arith
needed_small (Ok (target.Resource what)) body fits = omega arith
needed_small (Ok (target.Office office.ConsolePage)) body fits = omega arith
needed_small (Ok (target.Office office.Leave)) body fits = omega arith
needed_small (Ok (target.Office office.Orders)) (Ok n) fits = fits
needed_small (Ok (target.Office office.Orders)) (Err why) fits = omega arith
needed_small (Ok (target.Public what)) body fits = omega arith
needed_small (Err why) body fits = omega arith

pub whole_is : (settings : HttpSettingsEntry) (got : List ℕ) (head : Head) (whole : ℕ) → IsHeadOf settings got head → whole ≡ min (head.size + needed head.wanted head.body) (2 ^ 64 - 1)
    → whole ≡ head.size + needed head.wanted head.body
whole_is settings got head whole is small = omega (arith, small, needed_small head.wanted head.body is.says.fits, is.begins.short, is.says.size)

pub body_fits : (settings : HttpSettingsEntry) (got : List ℕ) (head : Head) (n : ℕ) → IsHeadOf settings got head → head.body ≡ Ok n → n ≤ most_body_bytes
body_fits settings got head n is own = subst (λ (b : Result ℕ RequestError). IfOk b (λ n. n ≤ most_body_bytes)) own is.says.fits

-- there are enough bytes
pub whole_parsed : (settings : HttpSettingsEntry) (got : List ℕ) (head : Head) → IsHeadOf settings got head → head.size + needed head.wanted head.body ≤ length got → IsWhole settings got
whole_parsed settings got head is enough =
    whole_behind settings got is.found is.behind is.begins
    (λ completeness_of. enough_complete head.wanted head.body is.behind (omega (arith, enough, parts_of settings got head is)) (MissesBehind-back settings got head is is.behind completeness_of))

-- no complete head has arrived yet, but one still may
pub lacks_head : (settings : HttpSettingsEntry) (got : List ℕ) → IsHeadIncomplete got → IsCompletenessOf settings got (AtLeast (length got + 1))
lacks_head settings got may = (
  inl may,
  omega arith,
  λ more less.
      let nothing : more ≡ [] = nil_from_length more (omega (arith, less, length-append got more)) in
      subst (IsIncomplete settings) (sym (ap (λ xs. got ++ xs) nothing ∙ append-nil got)) (inl may),
)

-- one more byte than has arrived
pub one_more : (got : List ℕ) (come next : ℕ) → length got ≡ come → IsHeadIncomplete got → next ≡ min (come + 1) (2 ^ 64 - 1) → next ≡ length got + 1
one_more got come next long may is = omega (arith, long, may.short, is)

-- ---- no head

-- whatever follows, there is no head
pub whole_none : (settings : HttpSettingsEntry) (got : List ℕ) → ((more : List ℕ) → HasNoHead (got ++ more)) → IsWhole settings got
whole_none settings got never more asked (inl (none, is)) = inl (never more, is)
whole_none settings got never more asked (inr (head, behind, begun, is)) = absurd (subst HasNoHead (append-nil got) (never []) head behind begun)

-- the buffer is full, and doesn't begin with a head
never_full : (front back : List ℕ) → length front ≡ 8192 → HasNoRequest front → (more : List ℕ) → HasNoHead ((front ++ back) ++ more)
never_full front back full none more head behind begun =
    let short = begun.short in
    let parts = sym (append_assoc front back more) ∙ begun.parts in
    none head _ (begun.is_head, within front (back ++ more) (print_request head) behind parts (omega (arith, short, full)))

pub none_full : (got : List ℕ) (n : ℕ) → length (take n got) ≡ 8192 → HasNoRequest (take n got) → (more : List ℕ) → HasNoHead (got ++ more)
none_full got n full none more = subst (λ (xs : List ℕ). HasNoHead (xs ++ more)) (take-append-drop n got) (never_full (take n got) (drop n got) full none more)

-- if there is a head, it has too many headers
never_over : (front back : List ℕ) (room : ℕ) → room ≡ 32 → RequestOverflows room front → (more : List ℕ) → HasNoHead ((front ++ back) ++ more)
never_over front back room is over more head behind begun =
    let many = over (back ++ more) head behind (begun.is_head, sym (append_assoc front back more) ∙ begun.parts) in
    let few = begun.few in
    absurd (omega (arith, is, many, few))

pub none_over : (got : List ℕ) (n room : ℕ) → room ≡ 32 → RequestOverflows room (take n got) → (more : List ℕ) → HasNoHead (got ++ more)
none_over got n room is over more = subst (λ (xs : List ℕ). HasNoHead (xs ++ more)) (take-append-drop n got) (never_over (take n got) (drop n got) room is over more)

-- no head has arrived yet
pub none_yet : (got : List ℕ) (n : ℕ) → length got ≤ n → length got < 8192 → HasNoRequest (take n got) → MayBecomeRequest (take n got) → IsHeadIncomplete got
none_yet got n all short none may =
    let same : take n got ≡ got = take_all n got all in
    let none_there : HasNoRequest got = subst HasNoRequest same none in
    record { none = λ head behind begun. none_there head behind (begun.is_head, begun.parts); may = subst MayBecomeRequest same may; short = short }

-- if no head can come, that remains so whatever follows
pub never_lasts : (got : List ℕ) → ((more : List ℕ) → HasNoHead (got ++ more)) → (more later : List ℕ) → HasNoHead ((got ++ more) ++ later)
never_lasts got never more later = subst HasNoHead (sym (append_assoc got more later)) (never (more ++ later))

-- if no head can come, none has arrived
pub none_came : (got : List ℕ) → ((more : List ℕ) → HasNoHead (got ++ more)) → HasNoHead got
none_came got never = subst HasNoHead (append-nil got) (never [])

-- ---- what is requested

pub asks_none : (settings : HttpSettingsEntry) (got : List ℕ) → HasNoHead got → Asks settings got (denied BadRequest)
asks_none settings got none = inl (none, refl)

asks_behind : (settings : HttpSettingsEntry) (got : List ℕ) (head : Head) (is : IsHeadOf settings got head) (asked : HttpRequestEntry)
    → asked ≡ asked_of settings.gate settings.public head.wanted head.body is.behind → Asks settings got asked
asks_behind settings got head is asked same = inr (
  is.found,
  is.behind,
  is.begins,
  same ∙ ap (λ (t : Result Target RequestError). asked_of settings.gate settings.public t head.body is.behind) is.says.wanted
      ∙ ap (λ b. asked_of settings.gate settings.public (wanted settings (map name_and_value is.found.fields) is.found.method is.found.target) b is.behind) is.says.body,
)

-- what is requested, given the bytes after the head
pub asks_parsed : (settings : HttpSettingsEntry) (got : List ℕ) (head : Head) (n : ℕ) (behind : List ℕ) (asked : HttpRequestEntry) → n ≡ min head.size (length got)
    → behind ≡ drop n got → IsHeadOf settings got head
    → asked ≡ asked_of settings.gate settings.public head.wanted head.body behind → Asks settings got asked
asks_parsed settings got head n behind asked small there is same =
    let long = parts_of settings got head is in
    let all : n ≡ length (print_request is.found) = omega (arith, small, long) ∙ is.says.size in
    let own : behind ≡ is.behind = there ∙ ap (λ k. drop k got) all ∙ ap (drop (length (print_request is.found))) is.begins.parts ∙ drop-append_seam (print_request is.found) is.behind in
    asks_behind settings got head is asked (same ∙ ap (asked_of settings.gate settings.public head.wanted head.body) own)

-- what is requested, as a result that may be a failed allocation
pub asks_result : {E : Type 0} (settings : HttpSettingsEntry) (got : List ℕ) (head : Head) (n : ℕ) (behind : List ℕ) (r : Result HttpRequest E)
    → n ≡ min head.size (length got) → behind ≡ drop n got → IsHeadOf settings got head
    → IfOk r (λ asked. http_request_entry asked ≡ asked_of settings.gate settings.public head.wanted head.body behind) → IfOk r (λ asked. Asks settings got (http_request_entry asked))
asks_result settings got head n behind (Err e) small there is same = tt
asks_result settings got head n behind (Ok asked) small there is same = asks_parsed settings got head n behind (http_request_entry asked) small there is same

-- a read
asks_reading : (settings : HttpSettingsEntry) (got : List ℕ) (head : Head) (what : Resource) → head.wanted ≡ Ok (target.Resource what) → IsHeadOf settings got head → Asks settings got (reading what)
asks_reading settings got head what reads is = asks_behind settings got head is (reading what)
    (sym (ap (λ (t : Result Target RequestError). asked_of settings.gate settings.public t head.body is.behind) reads))

-- what is read, if anything is
pub asks_read : (settings : HttpSettingsEntry) (got : List ℕ) (head : Head) (t : Result Target RequestError) → head.wanted ≡ t → IsHeadOf settings got head
    → IfSome (read_in t) (λ what. Asks settings got (reading what))
asks_read settings got head (Ok (target.Keying clerk batch)) same is = tt
asks_read settings got head (Ok (target.Page clerk)) same is = tt
asks_read settings got head (Ok (target.Leave clerk)) same is = tt
asks_read settings got head (Ok (target.Resource what)) same is = asks_reading settings got head what same is
asks_read settings got head (Ok (target.Office place)) same is = tt
asks_read settings got head (Ok (target.Public what)) same is = tt
asks_read settings got head (Err why) same is = tt

-- a keying isn't a read
no_keying : (clerk batch : ℕ) (what : Resource) (entry : Option KeyingEntry) → reading what ≡ asked_in clerk batch entry → ⊥
no_keying clerk batch what (Some entry) is = cc is
no_keying clerk batch what None is = cc is

-- an order isn't a read
no_order : (what : Resource) (entry : Option ConsoleOrderEntry) → reading what ≡ ordered_in entry → ⊥
no_order what (Some entry) is = cc is
no_order what None is = cc is

-- what is read is what the target names
read_of : (gate : Option GateEntry) (hall : Option PublicEntry) (t : Result Target RequestError) (size : Result ℕ RequestError) (behind : List ℕ) (what : Resource)
    → reading what ≡ asked_of gate hall t size behind → read_in t ≡ Some what
read_of gate hall (Ok (target.Keying clerk batch)) (Ok n) behind what is = absurd (no_keying clerk batch what (option_and_then keying_of (body_in n behind)) is)
read_of gate hall (Ok (target.Keying clerk batch)) (Err why) behind what is = absurd (cc is)
read_of None hall (Ok (target.Page clerk)) size behind what is = absurd (cc is)
read_of (Some gate) hall (Ok (target.Page clerk)) size behind what is = absurd (cc is)
read_of gate hall (Ok (target.Leave clerk)) size behind what is = absurd (cc is)
read_of None hall (Ok (target.Office office.ConsolePage)) size behind what is = absurd (cc is)
read_of (Some gate) hall (Ok (target.Office office.ConsolePage)) size behind what is = absurd (cc is)
read_of gate hall (Ok (target.Office office.Leave)) size behind what is = absurd (cc is)
read_of gate hall (Ok (target.Office office.Orders)) (Ok n) behind what is = absurd (no_order what (option_and_then order_of (body_in n behind)) is)
read_of gate hall (Ok (target.Office office.Orders)) (Err why) behind what is = absurd (cc is)
read_of gate hall (Ok (target.Resource there)) size behind what is = let same : there ≡ what = cc is in ap Some same
read_of gate None (Ok (target.Public there)) size behind what is = absurd (cc is)
read_of gate (Some its) (Ok (target.Public there)) size behind what is = absurd (cc is)
read_of gate hall (Err why) size behind what is = absurd (cc is)

-- if a request reads a resource, its parsed head says which
pub reads_each : (settings : HttpSettingsEntry) (got : List ℕ) (head : Head) (what : Resource) → IsHeadOf settings got head → Asks settings got (reading what) → read_in head.wanted ≡ Some what
reads_each settings got head what is asks =
    let asked = asked_of settings.gate settings.public head.wanted head.body is.behind in
    read_of settings.gate settings.public head.wanted head.body is.behind what (AsksOneThing-all settings got (reading what) asked asks (asks_behind settings got head is asked refl))

-- without a head nothing is read
pub reads_none : (settings : HttpSettingsEntry) (got : List ℕ) (what : Resource) → HasNoHead got → Asks settings got (reading what) → ⊥
reads_none settings got what none (inl (also, is)) = cc is
reads_none settings got what none (inr (head, behind, begun, is)) = none head behind begun

-- ---- under whose number something is requested

pub knocks_parsed : (settings : HttpSettingsEntry) (got : List ℕ) (head : Head) → IsHeadOf settings got head → IsAuthentication settings got (option_map authentication_entry head.authentication)
knocks_parsed settings got head is = record {
  headed = λ other behind it.
      let (same, rest) = HasOneHead-all got is.found other is.behind behind is.begins it in
      is.says.authentication ∙ ap (λ (h : RequestHead). authentication_at settings (map name_and_value h.fields) h.target) same;
  headless = λ none. absurd (none is.found is.behind is.begins);
}

pub knocks_none : (settings : HttpSettingsEntry) (got : List ℕ) → HasNoHead got → IsAuthentication settings got None
knocks_none settings got none = record { headed = λ head behind begun. absurd (none head behind begun); headless = λ _. refl }

-- What a request asks for, as the bytes read from it show.
use Rattle.std.proofs.Common.{◌≡◌, ◌∙◌, ◌≤◌, ◌-◌, subst, List, ◌++◌, Option, Some, None, Result, Ok, Err, drop, inl, inr, length, map, refl, sym, ap, take, arith, append_assoc, ℕ}
use Rattle.std.specs.Prelude.{IfErr, IfOk, IfSome}
use Rattle.std.specs.Io.KnownBytes.{Consumes}
use Rattle.std.proofs.KnownBytes.{Consumes-trans}
use Rattle.std.proofs.lemmas.List.{length-append, length-drop, length-map, length-take, take_all}
use Rattle.httparse.specs.Grammar.{RequestHead, print_request}
use Rattle.httparse.specs.Spans.{IsRequestAt, IsRequestOf, header_bytes, name_and_value, span_bytes}
use Rattle.httparse.specs.declared.spans.HeaderSpan.{HeaderSpan}
use Rattle.httparse.specs.declared.spans.RequestSpans.{RequestSpans}
use Rattle.wire.proofs.HeadLemmas.{HasOneHead-all}
use Rattle.wire.specs.Requests.{HttpRequestEntry, Asks, AsksOneThing, DeniesForeign, FailsAfter, IsIncomplete, MissesAt, MissesBehind, MissesBytes}
use Rattle.wire.specs.Requests.{MissesFound, DependsOnOwnBytes, asked_at, asked_by, http_request_entry, asked_of, denied, wanted, wanted_by}
use Rattle.wire.specs.Gates.{HttpSettingsEntry}
use Rattle.wire.specs.Heads.{BeginsWith, HasNoHead}
use Rattle.wire.specs.Lengths.{NamedValue, body_length}
use Rattle.wire.specs.Parsing.{Says}
use Rattle.wire.specs.declared.request.HttpRequest.{HttpRequest}
use Rattle.wire.specs.declared.request_error.RequestError.{RequestError}
use Rattle.wire.specs.declared.request_error.RequestError.TheVariants.{BadRequest}
use Rattle.wire.specs.declared.parsed.Head.{Head}
use Rattle.wire.specs.declared.target.Target.{Target}
use Rattle.wire.specs.declared.read_failure.ReadFailure.{ReadFailure}
use Rattle.wire.specs.declared.read_failure.ReadFailure.TheVariants.{Broken, Memory}

-- ---- only one thing is requested

pub AsksOneThing-all : (settings : HttpSettingsEntry) (bytes : List ℕ) → AsksOneThing settings bytes
AsksOneThing-all settings bytes one two (inl (none, is)) (inl (none_too, is_too)) = is ∙ sym is_too
AsksOneThing-all settings bytes one two (inl (none, is)) (inr (head, behind, begins, is_too)) = absurd (none head behind begins)
AsksOneThing-all settings bytes one two (inr (head, behind, begins, is)) (inl (none, is_too)) = absurd (none head behind begins)
AsksOneThing-all settings bytes one two (inr (head, behind, begins, is)) (inr (other, others, begins_too, is_too)) =
    let (same_head, same_rest) = HasOneHead-all bytes head other behind others begins begins_too in
    is ∙ ap (λ h. asked_by settings h behind) same_head ∙ ap (asked_by settings other) same_rest ∙ sym is_too

-- ---- a page from another site

pub DeniesForeign-all : (settings : HttpSettingsEntry) (bytes : List ℕ) → DeniesForeign settings bytes
DeniesForeign-all settings bytes head behind begins foreign asked asks =
    AsksOneThing-all settings bytes asked (asked_by settings head behind) asks (inr (head, behind, begins, refl))
    ∙ ap (λ b. asked_of settings.gate settings.public (wanted_by b settings.gate settings.public (map name_and_value head.fields) head.method head.target)
    (body_length (map name_and_value head.fields)) behind) foreign

pub DependsOnOwnBytes-all : (settings : HttpSettingsEntry) (bytes : List ℕ) → DependsOnOwnBytes settings bytes
DependsOnOwnBytes-all settings bytes head behind begins own asked asks =
    AsksOneThing-all settings bytes asked (asked_by settings head behind) asks (inr (head, behind, begins, refl))
    ∙ ap (λ b. asked_of settings.gate settings.public (wanted_by b settings.gate settings.public (map name_and_value head.fields) head.method head.target)
    (body_length (map name_and_value head.fields)) behind) own

-- ---- from what was read

-- there is no head
pub Asks-none : (settings : HttpSettingsEntry) (old : Option (List ℕ)) → IfSome old HasNoHead → IfSome old (λ bytes. Asks settings bytes (denied BadRequest))
Asks-none settings None none = tt
Asks-none settings (Some bytes) none = inl (none, refl)

-- a head, what was read after it, and what is left unread
pub begins : (bytes got left : List ℕ) (headers : List HeaderSpan) (spans : RequestSpans) (head : RequestHead) → IsRequestAt got headers spans head → length got ≤ 8192 → length headers ≡ 32
    → bytes ≡ got ++ left → BeginsWith bytes head (drop spans.len got ++ left)
begins bytes got left headers spans head is fits places e = record {
  is_head = is.reads.0;
  parts = e ∙ ap (λ l. l ++ left) is.reads.1 ∙ append_assoc (print_request head) (drop spans.len got) left;
  short = omega (arith, ap length is.reads.1, length-append (print_request head) (drop spans.len got));
  few = omega (arith, sym (length-map (take spans.headers headers) (header_bytes got)) ∙ ap length is.fields ∙ length-map head.fields name_and_value, length-take spans.headers headers);
}

-- what a head asks for, given what is left after it
Asks-entry : (settings : HttpSettingsEntry) (old mid : Option (List ℕ)) (got : List ℕ) (headers : List HeaderSpan) (spans : RequestSpans) → IsRequestOf got headers spans → (asked : HttpRequestEntry)
    → length got ≤ 8192 → length headers ≡ 32 → Consumes old mid got → IfSome mid (λ left. asked ≡ asked_at settings got headers spans left) → IfSome old (λ bytes. Asks settings bytes asked)
Asks-entry settings None mid got headers spans found asked fits places took is = tt
Asks-entry settings (Some bytes) None got headers spans found asked fits places took is = absurd took
Asks-entry settings (Some bytes) (Some left) got headers spans (head, there) asked fits places took is =
    let behind = drop spans.len got ++ left in
    let fields = map (header_bytes got) (take spans.headers headers) in
    inr (
      head,
      behind,
      begins bytes got left headers spans head there fits places took,
      is ∙ ap (λ m. asked_of settings.gate settings.public (wanted settings fields m (span_bytes got spans.path)) (body_length fields) behind) there.method
          ∙ ap (λ p. asked_of settings.gate settings.public (wanted settings fields head.method p) (body_length fields) behind) there.path
          ∙ ap (λ (f : List NamedValue). asked_of settings.gate settings.public (wanted settings f head.method head.target) (body_length f) behind) there.fields,
    )

pub Asks-head : {E : Type 0} (settings : HttpSettingsEntry) (old mid : Option (List ℕ)) (got : List ℕ) (headers : List HeaderSpan) (spans : RequestSpans)
    → IsRequestOf got headers spans → (r : Result HttpRequest E)
    → length got ≤ 8192 → length headers ≡ 32 → Consumes old mid got → IfSome mid (λ left. IfOk r (λ asked. http_request_entry asked ≡ asked_at settings got headers spans left))
    → IfSome old (λ bytes. IfOk r (λ asked. Asks settings bytes (http_request_entry asked)))
Asks-head settings None mid got headers spans found r fits places took is = tt
Asks-head settings (Some bytes) mid got headers spans found (Err e) fits places took is = tt
Asks-head settings (Some bytes) mid got headers spans found (Ok asked) fits places took is = Asks-entry settings (Some bytes) mid got headers spans found (http_request_entry asked) fits places took is

-- ---- bytes that don't yet determine what is requested

module _ (settings : HttpSettingsEntry) (got : List ℕ) (headers : List HeaderSpan) (spans : RequestSpans) where
  -- a head lacks bytes if the spans that were found for it do
  MissesBehind-of : (head : RequestHead) → IsRequestAt got headers spans head → (behind : List ℕ) → MissesFound settings got headers spans behind → MissesBehind settings head behind
  MissesBehind-of head there behind completeness_of =
      let fields = map (header_bytes got) (take spans.headers headers) in
      subst (λ (f : List NamedValue). MissesBytes (wanted settings f head.method head.target) (body_length f) behind) there.fields
      (subst (λ p. MissesBytes (wanted settings fields head.method p) (body_length fields) behind) there.path
      (subst (λ m. MissesBytes (wanted settings fields m (span_bytes got spans.path)) (body_length fields) behind) there.method completeness_of))

  -- bytes that begin with what was read don't determine what is requested if the head found in them needs more bytes
  pub IsIncomplete-found : (bytes left : List ℕ) → IsRequestOf got headers spans → length got ≤ 8192 → length headers ≡ 32 → bytes ≡ got ++ left
      → MissesFound settings got headers spans (drop spans.len got ++ left) → IsIncomplete settings bytes
  IsIncomplete-found bytes left (head, there) fits places e completeness_of =
      let behind = drop spans.len got ++ left in
      inr (head, behind, begins bytes got left headers spans head there fits places e, MissesBehind-of head there behind completeness_of)

-- the head is complete, but what it asks for isn't
pub FailsAfter-behind : (settings : HttpSettingsEntry) (old mid new : Option (List ℕ)) (got : List ℕ) (headers : List HeaderSpan) (spans : RequestSpans)
    → IsRequestOf got headers spans → (r : Result HttpRequest ReadFailure)
    → length got ≤ 8192 → length headers ≡ 32 → Consumes old mid got → IfErr r (FailsAfter mid new (MissesAt settings got headers spans)) → IfErr r (FailsAfter old new (IsIncomplete settings))
FailsAfter-behind settings old mid new got headers spans found (Ok asked) fits places took after = tt
FailsAfter-behind settings old mid new got headers spans found (Err Memory) fits places took after = tt
FailsAfter-behind settings old mid new got headers spans found (Err Broken) fits places took (more, then, completeness_of) =
    (got ++ more, Consumes-trans old mid new got more took then, IsIncomplete-found settings got headers spans (got ++ more) more found fits places refl completeness_of)

-- ---- what the parsed head shows

-- what follows a head, as a part of what was read
pub rest_of : (n : ℕ) (got : List ℕ) → take (length got - n) (drop n got) ≡ drop n got
rest_of n got = take_all (length got - n) (drop n got) (omega (arith, length-drop n got))

module _ (settings : HttpSettingsEntry) (got : List ℕ) (headers : List HeaderSpan) (spans : RequestSpans) (head : Head) where
  -- the head says what was found
  abbrev pub SaysFound : Type 0
  SaysFound = Says settings (map (header_bytes got) (take spans.headers headers)) (span_bytes got spans.method) (span_bytes got spans.path) spans.len head

  pub Asks-said : {E : Type 0} (old mid : Option (List ℕ)) → IsRequestOf got headers spans → SaysFound → (r : Result HttpRequest E) → length got ≤ 8192 → length headers ≡ 32 → Consumes old mid got
      → (behind : List ℕ) → behind ≡ drop spans.len got → IfSome mid
      (λ left. IfOk r (λ asked. http_request_entry asked ≡ asked_of settings.gate settings.public head.wanted head.body (behind ++ left)))
      → IfSome old (λ bytes. IfOk r (λ asked. Asks settings bytes (http_request_entry asked)))
  Asks-said old mid found says r fits places took behind there is =
      let fields = map (header_bytes got) (take spans.headers headers) in
      let target = wanted settings fields (span_bytes got spans.method) (span_bytes got spans.path) in
      Asks-head settings old mid got headers spans found r fits places took
      (subst (λ b. IfSome mid (λ left. IfOk r (λ asked. http_request_entry asked ≡ asked_of settings.gate settings.public target b (drop spans.len got ++ left)))) says.body
      (subst (λ (t : Result Target RequestError). IfSome mid (λ left. IfOk r (λ asked. http_request_entry asked ≡ asked_of settings.gate settings.public t head.body (drop spans.len got ++ left))))
      says.wanted
      (subst (λ (xs : List ℕ). IfSome mid (λ left. IfOk r (λ asked. http_request_entry asked ≡ asked_of settings.gate settings.public head.wanted head.body (xs ++ left)))) there is)))

  pub FailsAfter-said : (old mid new : Option (List ℕ)) → IsRequestOf got headers spans → SaysFound → (r : Result HttpRequest ReadFailure) → length got ≤ 8192
      → length headers ≡ 32 → Consumes old mid got
      → (behind : List ℕ) → behind ≡ drop spans.len got → IfErr r (FailsAfter mid new (λ more. MissesBytes head.wanted head.body (behind ++ more)))
      → IfErr r (FailsAfter old new (IsIncomplete settings))
  FailsAfter-said old mid new found says r fits places took behind there after =
      let fields = map (header_bytes got) (take spans.headers headers) in
      let target = wanted settings fields (span_bytes got spans.method) (span_bytes got spans.path) in
      FailsAfter-behind settings old mid new got headers spans found r fits places took
      (subst (λ b. IfErr r (FailsAfter mid new (λ more. MissesBytes target b (drop spans.len got ++ more)))) says.body
      (subst (λ (t : Result Target RequestError). IfErr r (FailsAfter mid new (λ more. MissesBytes t head.body (drop spans.len got ++ more)))) says.wanted
      (subst (λ (xs : List ℕ). IfErr r (FailsAfter mid new (λ more. MissesBytes head.wanted head.body (xs ++ more)))) there after)))

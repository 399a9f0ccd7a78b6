-- Tokens appended in order.
use Rattle.std.specs.Prelude.{OnOk}
use Rattle.std.proofs.Common.{◌≡◌, List, [], ◌++◌, Result, Ok, Err, sym, ap, ◌∙◌, append_assoc, append-nil}

-- what was appended first, and what was appended after it
pub then_ok : {X E T : Type 0} {mid : List T} (r : Result X E) (old new ts us : List T) → mid ≡ old ++ ts → OnOk r (new ≡ mid ++ us) → OnOk r (new ≡ old ++ (ts ++ us))
then_ok (Ok x) old new ts us first next = next ∙ ap (λ l. l ++ us) first ∙ append_assoc old ts us
then_ok (Err e) old new ts us first next = tt

-- nothing follows
pub last_ok : {X E T : Type 0} (r : Result X E) (old new us : List T) → OnOk r (new ≡ old ++ us) → OnOk r (new ≡ old ++ (us ++ []))
last_ok (Ok x) old new us next = next ∙ ap (λ l. old ++ l) (sym (append-nil us))
last_ok (Err e) old new us next = tt

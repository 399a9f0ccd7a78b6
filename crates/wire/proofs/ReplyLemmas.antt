-- The text that is written for each JSON value, character by character.
use Rattle.std.proofs.Common.{◌≡◌, ◌∷◌, false, ℕ, List, [], refl}
use Rattle.serde_json.specs.Written.{compact_text, has_float}
use Rattle.serde_json.specs.Data.{Data}
use Rattle.register.specs.Status.{BallotPaperEntry, WorkEntry}
use Rattle.serde_json.proofs.OnLiterals.{serde_json_on_literals}
use Rattle.store.specs.EarlierKeyings.{KeyedRoundEntry}
use Rattle.wire.specs.Replies.{candidate_data, clerk_data, fault_body, fault_data, keyed_data, list_data, marks_data, number_data, paper_data}
use Rattle.wire.specs.Replies.{refusal_body, refusal_data, reply_body, reply_data, work_data}

pub reply_body-written : (text : List ℕ) → compact_text (reply_data text) ≡ reply_body text
unfolding serde_json_on_literals
reply_body-written text = refl

pub refusal_body-written : (n : ℕ) (text : List ℕ) → compact_text (refusal_data n text) ≡ refusal_body n text
unfolding serde_json_on_literals
refusal_body-written n text = refl

pub fault_body-written : (n : ℕ) → compact_text (fault_data n) ≡ fault_body n
unfolding serde_json_on_literals
fault_body-written n = refl

-- a list of values without floats contains none
pub list-float : {X : Type 0} (value : X → Data) → ((x : X) → has_float (value x) ≡ false) → (xs : List X) → has_float (list_data value xs) ≡ false
list-float value each [] = refl
list-float value each (x ∷ xs) = rw (each x, list-float value each xs) refl

batch-float : (w : WorkEntry) → has_float (work_data w) ≡ false
batch-float w = rw (list-float number_data (λ _. refl) w.columns) refl

pub clerk-float : (clerk : ℕ) (work : List WorkEntry) → has_float (clerk_data clerk work) ≡ false
clerk-float clerk work = rw (list-float work_data batch-float work) refl

pub keyed-float : (batch : ℕ) (k : KeyedRoundEntry) → has_float (keyed_data batch k) ≡ false
keyed-float batch k = rw (list-float marks_data (λ _. refl) k.papers) refl

pub paper-float : (batch : ℕ) (p : BallotPaperEntry) → has_float (paper_data batch p) ≡ false
paper-float batch p = rw (list-float candidate_data (λ _. refl) p.candidates) refl

-- Requests that are all accepted.
use Rattle.std.proofs.Common.{Result, Ok, Err, IfOk, ◌≡◌, ◌∙◌, List, [], ◌∷◌, length, map, take, refl, sym, ap, arith}
use Rattle.std.specs.List.{list_all}
use Rattle.std.proofs.lemmas.List.{take_all}
use Rattle.std.proofs.lemmas.List.Folds.{list_all-map}
use Rattle.register.specs.declared.command.Request.{Request}
use Rattle.register.specs.Offices.{OfficeState}
use Rattle.register.specs.Machine.{Outcome, accepted, kept, refused, is_accepted}
use Rattle.office.specs.declared.answers.Answer.{Answer}
use Rattle.office.specs.Answers.{told, told_of, is_done}
use Rattle.office.specs.Runs.{outcomes, are_accepted}

-- an answer belongs to an accepted request if and only if the machine accepts the request
done_where_accepted : (o : Outcome) → is_done (told_of o) ≡ is_accepted o
done_where_accepted (accepted next reply) = refl
done_where_accepted (kept reply) = refl
done_where_accepted (refused why) = refl

all_done_where_accepted : (os : List Outcome) → list_all is_done (map told_of os) ≡ list_all is_accepted os
all_done_where_accepted [] = refl
all_done_where_accepted (o ∷ os) = rw (done_where_accepted o, all_done_where_accepted os) refl

-- if each request got the machine's answer, then all answers belong to accepted requests if and only if all requests are accepted
pub answers_done : (s : OfficeState) (rs : List Request) (answers : List Answer) → length answers ≡ length rs → map told answers ≡ map told_of (outcomes s (take (length answers) rs))
    → list_all (λ answer. is_done (told answer)) answers ≡ are_accepted s rs
answers_done s rs answers all same =
    sym (list_all-map is_done told answers)
    ∙ ap (list_all is_done) (same ∙ ap (λ l. map told_of (outcomes s l)) (take_all (length answers) rs (omega (arith, all)))) ∙ all_done_where_accepted (outcomes s rs)

-- if one property of values implies another, a result that has the first property also has the second
pub ok_then : {X E : Type 0} {P Q : X → Type 0} (r : Result X E) → ((x : X) → P x → Q x) → IfOk r P → IfOk r Q
ok_then (Ok x) follows p = follows x p
ok_then (Err e) follows p = tt

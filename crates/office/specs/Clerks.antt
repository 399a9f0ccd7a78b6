-- One clerk's requests and answers among those of many clerks.
use Rattle.std.specs.Prelude.{ℕ, Bool, not, ◌==◌, List, map}
use Rattle.std.specs.List.{filter, list_all, zip}
use Rattle.register.specs.declared.command.Request.{Request}
use Rattle.register.specs.Ranges.{is_office}
use Rattle.office.specs.declared.answers.Answer.{Answer}

-- no request is the office's own: each comes from a clerk, or from an actor with some other number
abbrev pub none_is_the_office : List Request → Bool
none_is_the_office requests = list_all (λ (r : Request). not (is_office r.actor)) requests

-- one clerk's requests
abbrev pub own_requests : ℕ → List Request → List Request
own_requests clerk requests = filter (λ (r : Request). r.actor == clerk) requests

-- one clerk's answers among the answers to the first requests in a list
abbrev pub own_answers : ℕ → List Request → List Answer → List Answer
own_answers clerk requests answers = map (λ (p : Request × Answer). p.1) (filter (λ (p : Request × Answer). p.0.actor == clerk) (zip requests answers))

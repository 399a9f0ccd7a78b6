-- The marks on a ballot paper.
use Rattle.std.specs.Prelude.{ℕ, ◌≤◌, ◌==◌, List, length, map}
use Rattle.std.specs.List.{filter, AllByRecursion}
use Rattle.paper.specs.Columns.{IsCandidateSet}

-- the marks on a paper, in ascending order of the candidates: each candidate's number with the number in the candidate's
-- field, or 0 if the field is empty
abbrev pub Marking : Type 0
Marking = List (ℕ × ℕ)

-- the candidates on a paper, in ascending order
abbrev pub candidates_of : Marking → List ℕ
candidates_of marking = map (λ m. m.0) marking

-- the number in each candidate's field, or 0 if the field is empty
abbrev pub marks_of : Marking → List ℕ
marks_of marking = map (λ m. m.1) marking

-- the candidates who have a given number in their fields
abbrev pub marked_with : ℕ → Marking → List ℕ
marked_with n marking = map (λ m. m.0) (filter (λ m. m.1 == n) marking)

-- the properties of the marks on any paper
pub record IsMarking (marking : Marking) : Type 0 where
  pub columns : IsCandidateSet (candidates_of marking)
  pub small : AllByRecursion (λ mark. mark ≤ 99) (marks_of marking)
  pub some : 1 ≤ length marking

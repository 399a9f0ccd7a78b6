-- The numbers of the candidates of a ward.
use Rattle.std.proofs.Common.{ℕ, ◌≤◌, List, [], ◌∷◌, map}
use Rattle.paper.proofs.ColumnSets.{Ascends, columns_from_ascends, ascends_from_columns}
use Rattle.sheet.specs.Wards.{Ascend, HasFewPapers, CanBePrinted}
use Rattle.votes.specs.Units.{max_seats}
use Rattle.sheet.specs.declared.ward.Ward.{Ward}

ascends_of : (low : ℕ) (cs : List ℕ) → Ascend low cs → Ascends low cs
ascends_of low [] up = tt
ascends_of low (c ∷ cs) up = (up.0, up.1, ascends_of c cs up.2)

ascend_of : (low : ℕ) (cs : List ℕ) → Ascends low cs → Ascend low cs
ascend_of low [] up = tt
ascend_of low (c ∷ cs) up = (up.0, up.1, ascend_of c cs up.2)

-- a ward that can be printed, given its parts
pub CanBePrinted-made : (ward : Ward) → 1 ≤ ward.seats → ward.seats ≤ max_seats → HasFewPapers ward.poll → Ascend 0 (map (λ candidate. candidate.0) ward.candidates.now) → CanBePrinted ward
CanBePrinted-made ward some few papers up = record {
  some_seats = some;
  few_seats = few;
  candidate_set = columns_from_ascends 0 _ (ascends_of 0 _ up);
  few_papers = papers;
}

pub CanBePrinted-ascends : (ward : Ward) → CanBePrinted ward → Ascend 0 (map (λ candidate. candidate.0) ward.candidates.now)
CanBePrinted-ascends ward printed = ascend_of 0 _ (ascends_from_columns _ printed.candidate_set)

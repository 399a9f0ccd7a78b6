-- Lists of rows are equal if and only if their entries are.
use Rattle.std.proofs.Common.{rules, ◌≡◌, ◌&&◌, ℕ, nat_eq, Bool, true, List, [], ◌∷◌, map, refl, sym, ap, ap₂, true≢false}
use Rattle.std.specs.Cmp.Lexicographic.{pointwise, pointwise_decides}
use Rattle.std.proofs.lemmas.Bool.{and_from, and_parts}
use Rattle.register.specs.Offices.{ward_entry, candidate_entry, batch_entry, third_entry, keyed_entry, judged_entry, lot_entry, receipt_entry}
use Rattle.register.specs.declared.wards.Ward.{Ward}
use Rattle.register.specs.declared.candidates.Candidate.{Candidate}
use Rattle.register.specs.declared.batches.Batch.{Batch}
use Rattle.register.specs.declared.batches.ThirdClerk.{ThirdClerk}
use Rattle.register.specs.declared.keyings.KeyedPaper.{KeyedPaper}
use Rattle.register.specs.declared.verdicts.JudgedPaper.{JudgedPaper}
use Rattle.register.specs.declared.counts.DrawnLot.{DrawnLot}
use Rattle.register.specs.declared.receipt.Receipt.{Receipt}
use Rattle.register.specs.contracts.wards.WardPartialEq.TheImpl as ward_eq
use Rattle.register.specs.contracts.candidates.CandidatePartialEq.TheImpl as candidate_eq
use Rattle.register.specs.contracts.batches.BatchPartialEq.TheImpl as batch_eq
use Rattle.register.specs.contracts.batches.ThirdClerkPartialEq.TheImpl as third_eq
use Rattle.register.specs.contracts.keyings.KeyedPaperPartialEq.TheImpl as keyed_eq
use Rattle.register.specs.contracts.verdicts.JudgedPaperPartialEq.TheImpl as judged_eq
use Rattle.register.specs.contracts.counts.DrawnLotPartialEq.TheImpl as lot_eq
use Rattle.register.specs.contracts.receipt.ReceiptPartialEq.TheImpl as receipt_eq

-- Let V be the type of the rows, X the type of their entries, and `is_one` a test of two rows.
module _ {V X : Type 0} (is_one : V → V → Bool) (entry : V → X) where
  -- the test accepts two rows only if their entries are equal
  pub entries_one : ((a b : V) → is_one a b ≡ true → entry a ≡ entry b) → (xs ys : List V) → pointwise is_one xs ys ≡ true → map entry xs ≡ map entry ys
  entries_one sound [] [] same = refl
  entries_one sound [] (y ∷ ys) same = absurd (true≢false (sym same))
  entries_one sound (x ∷ xs) [] same = absurd (true≢false (sym same))
  entries_one sound (x ∷ xs) (y ∷ ys) same =
      let both = and_parts (is_one x y) (pointwise is_one xs ys) same in
      ap₂ (λ z zs. z ∷ zs) (sound x y both.0) (entries_one sound xs ys both.1)

  -- the test accepts any two rows whose entries are equal
  pub rows_one : ((a b : V) → entry a ≡ entry b → is_one a b ≡ true) → (xs ys : List V) → map entry xs ≡ map entry ys → pointwise is_one xs ys ≡ true
  rows_one whole [] [] same = refl
  rows_one whole [] (y ∷ ys) same = absurd (cc same)
  rows_one whole (x ∷ xs) [] same = absurd (cc same)
  rows_one whole (x ∷ xs) (y ∷ ys) same = and_from (is_one x y) (pointwise is_one xs ys) (whole x y (head_one x y xs ys same)) (rows_one whole xs ys (tail_one x y xs ys same))
    where
      head_one : (x y : V) (xs ys : List V) → map entry (x ∷ xs) ≡ map entry (y ∷ ys) → entry x ≡ entry y
      head_one x y xs ys same = cc same

      tail_one : (x y : V) (xs ys : List V) → map entry (x ∷ xs) ≡ map entry (y ∷ ys) → map entry xs ≡ map entry ys
      tail_one x y xs ys same = cc same

-- two numbers are equal if and only if the test accepts them
number_decided : (m n : ℕ) → (nat_eq m n ≡ true → m ≡ n) × (m ≡ n → nat_eq m n ≡ true)
number_decided m n = search rules

-- two texts are equal if and only if the test accepts them
text_one : (xs ys : List ℕ) → pointwise nat_eq xs ys ≡ true → xs ≡ ys
text_one xs ys = (pointwise_decides number_decided xs ys).0

text_whole : (xs ys : List ℕ) → xs ≡ ys → pointwise nat_eq xs ys ≡ true
text_whole xs ys = (pointwise_decides number_decided xs ys).1

-- `==` accepts two rows of the same type if and only if their entries are equal
pub ward_one : (a b : Ward) → (ward_eq.ghosts).eq a b ≡ true → ward_entry a ≡ ward_entry b
ward_one a b same = search (rules, text_one)

pub ward_whole : (a b : Ward) → ward_entry a ≡ ward_entry b → (ward_eq.ghosts).eq a b ≡ true
ward_whole a b same = search (rules, text_whole)

pub candidate_one : (a b : Candidate) → (candidate_eq.ghosts).eq a b ≡ true → candidate_entry a ≡ candidate_entry b
candidate_one a b same = search (rules, text_one)

pub candidate_whole : (a b : Candidate) → candidate_entry a ≡ candidate_entry b → (candidate_eq.ghosts).eq a b ≡ true
candidate_whole a b same = search (rules, text_whole)

pub batch_one : (a b : Batch) → (batch_eq.ghosts).eq a b ≡ true → batch_entry a ≡ batch_entry b
batch_one a b same = search rules

pub batch_whole : (a b : Batch) → batch_entry a ≡ batch_entry b → (batch_eq.ghosts).eq a b ≡ true
batch_whole a b same = search rules

pub third_one : (a b : ThirdClerk) → (third_eq.ghosts).eq a b ≡ true → third_entry a ≡ third_entry b
third_one a b same = search rules

pub third_whole : (a b : ThirdClerk) → third_entry a ≡ third_entry b → (third_eq.ghosts).eq a b ≡ true
third_whole a b same = search rules

pub keyed_one : (a b : KeyedPaper) → (keyed_eq.ghosts).eq a b ≡ true → keyed_entry a ≡ keyed_entry b
keyed_one a b same = search (rules, text_one)

pub keyed_whole : (a b : KeyedPaper) → keyed_entry a ≡ keyed_entry b → (keyed_eq.ghosts).eq a b ≡ true
keyed_whole a b same = search (rules, text_whole)

pub judged_one : (a b : JudgedPaper) → (judged_eq.ghosts).eq a b ≡ true → judged_entry a ≡ judged_entry b
judged_one a b same = search (rules, text_one)

pub judged_whole : (a b : JudgedPaper) → judged_entry a ≡ judged_entry b → (judged_eq.ghosts).eq a b ≡ true
judged_whole a b same = search (rules, text_whole)

pub lot_one : (a b : DrawnLot) → (lot_eq.ghosts).eq a b ≡ true → lot_entry a ≡ lot_entry b
lot_one a b same = search rules

pub lot_whole : (a b : DrawnLot) → lot_entry a ≡ lot_entry b → (lot_eq.ghosts).eq a b ≡ true
lot_whole a b same = search rules

pub receipt_one : (a b : Receipt) → (receipt_eq.ghosts).eq a b ≡ true → receipt_entry a ≡ receipt_entry b
receipt_one a b same = search (rules, text_one)

pub receipt_whole : (a b : Receipt) → receipt_entry a ≡ receipt_entry b → (receipt_eq.ghosts).eq a b ≡ true
receipt_whole a b same = search (rules, text_whole)

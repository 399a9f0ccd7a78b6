-- The laws of a count hold for every book, and a book that advances remains a book.
use Rattle.std.proofs.Common.{◌≡◌, ℕ, ◌<◌, List, [], ◌∷◌, length, reverse, Option, arith, subst, sym, Some}
use Rattle.std.proofs.lemmas.List.{length-reverse}
use Rattle.paper.proofs.ColumnSets.{length_columns}
use Rattle.count.specs.Law.Contest.{Contest, History}
use Rattle.count.specs.Law.Due.{drawn, due_after}
use Rattle.count.specs.Law.Right.{IsNext, IsRightByItself, candidate_of}
use Rattle.count.specs.Advance.{Adds, Advances, IsDue}
use Rattle.count.specs.Law.Laws.{IsConserved, IsShort, FillsSeats, OnlyCandidatesHaveVotes, IsAmongSeveral}
use Rattle.count.specs.Inside.BookInvariants.{AreHeld, IsBook}
use Rattle.count.specs.declared.stages.Action.{Action}
use Rattle.count.specs.declared.stages.Stage.{Stage}
use Rattle.count.specs.declared.stages.Due.TheVariants.{Finished}
use Rattle.count.specs.declared.parcel.Holding.{Holding}
use Rattle.count.proofs.Law.ActionLemmas.{stages-bound}
use Rattle.count.proofs.Law.ConservedLemmas.{all-conserved}
use Rattle.count.proofs.Law.LengthLemmas.{stages-few}
use Rattle.count.proofs.Law.FinishLemmas.{finished-elected, lots-several}
use Rattle.count.proofs.Law.VotelessLemmas.{others-voteless}
use Rattle.count.proofs.Law.OwnLotLemmas.{drawn-own}

by_itself : History → Stage → Option ℕ
by_itself before s = candidate_of s.action

-- the stage numbers of a book fit in one byte
pub book-few : (contest : Contest) (stages : List Stage) (holdings : List Holding) → IsBook contest (reverse stages) holdings → length stages < 255
unfolding by_itself
book-few contest stages holdings book =
    omega (arith, stages-bound contest by_itself (reverse stages) book.fair book.right, length-reverse stages, length_columns contest.candidates book.fair.candidate_set)

-- the laws of a count hold for a book
pub book-conserved : (contest : Contest) (history : History) (holdings : List Holding) → IsBook contest history holdings → IsConserved contest history
unfolding by_itself
book-conserved contest [] holdings book = tt
book-conserved contest (s ∷ before) holdings book = all-conserved contest by_itself (s ∷ before) book.fair book.right book.held.1

pub book-short : (contest : Contest) (history : History) (holdings : List Holding) → IsBook contest history holdings → IsShort contest history
unfolding by_itself
book-short contest [] holdings book = omega arith
book-short contest (s ∷ before) holdings book = stages-few contest by_itself (s ∷ before) book.fair book.held.1 book.right

pub book-others : (contest : Contest) (history : History) (holdings : List Holding) → IsBook contest history holdings → OnlyCandidatesHaveVotes contest history
unfolding by_itself
book-others contest history holdings book = others-voteless contest by_itself history book.fair book.right

pub book-several : (contest : Contest) (history : History) (holdings : List Holding) → IsBook contest history holdings → IsAmongSeveral (due_after contest history)
unfolding by_itself
book-several contest history holdings book = lots-several contest by_itself history book.fair book.right

pub book-filled : (contest : Contest) (history : History) (holdings : List Holding) → IsBook contest history holdings → due_after contest history ≡ Finished → FillsSeats contest history
unfolding by_itself
book-filled contest history holdings book h = finished-elected contest by_itself history book.fair book.right h

-- a stage whose action was decided by a given lot is next for that lot, and for the lot that the action itself names
adds-next : (contest : Contest) (before : History) (lot : Option ℕ) (action : Action) (after : History) → drawn contest before lot (due_after contest before) ≡ Some action →
    (adds : Adds contest before action after) → IsNext contest before lot adds.stage
adds-next contest before lot action after was adds =
    record { was_due = subst (λ (a : Action). drawn contest before lot (due_after contest before) ≡ Some a) (sym adds.of_action) was; tells = adds.tells }

pub adds-advances : (contest : Contest) (before : History) (lot : Option ℕ) (action : Action) (after : History) → drawn contest before lot (due_after contest before) ≡ Some action →
    Adds contest before action after → Advances contest before lot after
adds-advances contest before lot action after was adds = record { stage = adds.stage; one_more = adds.one_more; next = adds-next contest before lot action after was adds }

-- and the history remains correct for the lots that its own actions name
pub adds-right : (contest : Contest) (before : History) (lot : Option ℕ) (action : Action) (after : History) → IsRightByItself contest before →
    drawn contest before lot (due_after contest before) ≡ Some action →
    Adds contest before action after → IsRightByItself contest after
adds-right contest before lot action after right was adds =
    let s : Stage = adds.stage in
    let here : drawn contest before lot (due_after contest before) ≡ Some s.action = subst (λ (a : Action). drawn contest before lot (due_after contest before) ≡ Some a) (sym adds.of_action) was in
    subst (λ (h : History). IsRightByItself contest h) (sym adds.one_more)
    (right, record { was_due = drawn-own contest before lot (due_after contest before) s.action here; tells = adds.tells })

pub adds-book : (contest : Contest) (before : History) (lot : Option ℕ) (action : Action) (after : History) (old new : List Holding) → IsBook contest before old →
    drawn contest before lot (due_after contest before) ≡ Some action →
    Adds contest before action after → AreHeld contest after new → IsBook contest after new
adds-book contest before lot action after old new book was adds held =
    record { fair = book.fair; right = adds-right contest before lot action after book.right was adds; held = held }

pub drawn-due : (contest : Contest) (stages : History) (lot : Option ℕ) (action : Action) → drawn contest stages lot (due_after contest stages) ≡ Some action → IsDue contest stages action
drawn-due contest stages lot action h = record { lot = lot; is = h }

pub ruleset book_laws = (book-conserved, book-others, book-short)

pub ruleset book_facts = (book-few, book-several, book-filled, adds-advances, drawn-due)

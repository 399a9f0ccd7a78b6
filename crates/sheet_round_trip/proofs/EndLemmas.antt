-- A count with the recorded lots ends, if each of these names one of the candidates tied at its stage: it is finished, or it is waiting for a lot.
use Rattle.std.proofs.Common.{◌≡◌, ◌⊎◌, inl, inr, ℕ, zero, suc, ◌+◌, ◌-◌, ◌*◌, ◌==◌, nat_eq, Bool, true, false, cond, List, [], ◌∷◌, ◌++◌, length, reverse}
use Rattle.std.proofs.Common.{Option, Some, None, refl, sym, ap, subst, ◌∙◌, arith}
use Rattle.std.specs.Prelude.{take}
use Rattle.std.specs.List.{find, list_all, list_any}
use Rattle.std.specs.Option.{option_map}
use Rattle.std.proofs.lemmas.Bool.{and_parts, eqb-true}
use Rattle.std.proofs.lemmas.List.{length-reverse, reverse-append, take-append-drop}
use Rattle.std.proofs.Math.Seq.{take-append_seam}
use Rattle.count.specs.Advance.{end_after, end_of}
use Rattle.count.specs.Law.Contest.{Contest, History, IsContest}
use Rattle.count.specs.Law.Count.{stages_to, with_stage}
use Rattle.count.specs.Law.Due.{action_on, drawn, due_after, lot_for, next_action}
use Rattle.count.specs.Law.Right.{IsBeginning, IsRight}
use Rattle.count.specs.declared.count_to_end.CountEnd.{CountEnd}
use Rattle.count.specs.declared.count_to_end.CountEnd.TheVariants as end
use Rattle.count.specs.declared.stages.Action.{Action}
use Rattle.count.specs.declared.stages.Due.{Due}
use Rattle.count.specs.declared.stages.Due.TheVariants.{Act, Lot, Finished}
use Rattle.count.proofs.Law.ActionLemmas.{length-right}
use Rattle.count.proofs.Law.CountLemmas.{stages_only, stages_right}
use Rattle.checker.specs.Folders.{MayEnd}
use Rattle.register.specs.Elections.{is_tied}

-- ---- the last stage

-- there are as many stages as requested, or no action is next
as_many : (contest : Contest) (lots : List (ℕ × ℕ)) (k : ℕ) → (length (stages_to contest lots k) ≡ k) ⊎ (next_action contest lots (stages_to contest lots k) ≡ None)
unfolding stages_to
as_many contest lots zero = inl refl
as_many contest lots (suc k) = go (stages_to contest lots k) (next_action contest lots (stages_to contest lots k)) refl (as_many contest lots k)
  where
    go : (before : History) (o : Option Action) → next_action contest lots before ≡ o → (length before ≡ k) ⊎ (next_action contest lots before ≡ None)
        → (length (with_stage contest before o) ≡ suc k) ⊎ (next_action contest lots (with_stage contest before o) ≡ None)
    go before None none earlier = inr none
    go before (Some action) some (inl many) = inl (omega (arith, many))
    go before (Some action) some (inr none) = absurd (let same : Some action ≡ None = sym some ∙ none in cc)

-- so after as many stages as a count can have, no action is next
abbrev most : Contest → ℕ
most contest = 2 * length contest.candidates + 2

none_next : (contest : Contest) (lots : List (ℕ × ℕ)) → IsContest contest → next_action contest lots (stages_to contest lots (most contest)) ≡ None
none_next contest lots fair = elim (as_many contest lots (most contest)) [
  | inl many ↦ absurd (omega (arith, many, length-right contest lots (stages_to contest lots (most contest)) fair (stages_right contest lots (most contest))))
  | inr none ↦ none
]

-- ---- the reason

-- the reason why a count ends, given the lot and what is due: it is finished, or no lot is recorded
record IsEnd (lot : Option ℕ) (due : Due) : Type 0 where
  why : CountEnd
  is : end_of lot due ≡ Some why
  may : MayEnd false why

-- if there is no action, and the recorded lot names one of the tied candidates, the count ends for such a reason
end_for : (contest : Contest) (stages : History) (lot : Option ℕ) (due : Due) → drawn contest stages lot due ≡ None → ((c : ℕ) → lot ≡ Some c → is_tied due c ≡ true) → IsEnd lot due
end_for contest stages lot (Act action) none tied = absurd (cc)
end_for contest stages None Finished none tied = record { why = end.Finished; is = refl; may = tt }
end_for contest stages (Some c) Finished none tied = record { why = end.Finished; is = refl; may = tt }
end_for contest stages None (Lot stage kind among) none tied = record { why = end.LotNeeded stage among; is = refl; may = refl }
end_for contest stages (Some c) (Lot stage kind among) none tied = go (list_any (nat_eq c) among) (tied c refl) none
  where
    go : (b : Bool) → b ≡ true → cond b (Some (action_on contest stages kind c)) None ≡ None → IsEnd (Some c) (Lot stage kind among)
    go true is no_action = absurd (cc)
    go false is no_action = absurd (cc)

-- the lot for a stage has the properties of all lots
lot_among : (p : ℕ × ℕ → Bool) (lots : List (ℕ × ℕ)) (stage c : ℕ) → list_all p lots ≡ true → lot_for lots stage ≡ Some c → p (stage, c) ≡ true
lot_among p [] stage c all is = absurd (cc)
lot_among p (lot ∷ lots) stage c all is = go (lot.0 == stage) refl is (lot_among p lots stage c parts.1)
  where
    parts : (p lot ≡ true) × (list_all p lots ≡ true)
    parts = and_parts (p lot) (list_all p lots) all

    go : (b : Bool) → (lot.0 == stage) ≡ b → option_map (λ (l : ℕ × ℕ). l.1) (cond b (Some lot) (find (λ (l : ℕ × ℕ). l.0 == stage) lots)) ≡ Some c
        → (lot_for lots stage ≡ Some c → p (stage, c) ≡ true) → p (stage, c) ≡ true
    go true here is_c later =
        let own : lot.1 ≡ c = cc in
        let at : lot.0 ≡ stage = eqb-true lot.0 stage here in
        subst (λ n. p (n, c) ≡ true) at (subst (λ d. p (lot.0, d) ≡ true) own parts.0)
    go false other is_c later = later is_c

-- ---- the whole count

-- a lot names one of the candidates who are tied at its stage
abbrev pub names_tied : Contest → List (ℕ × ℕ) → (ℕ × ℕ) → Bool
names_tied contest lots lot = is_tied (due_after contest (stages_to contest lots (lot.0 - 1))) lot.1

-- the stages with which a count ends, and the reason
pub record HasEnd (contest : Contest) (lots : List (ℕ × ℕ)) : Type 0 where
  pub stages : History
  pub why : CountEnd
  pub right : IsRight contest lots stages
  pub ended : end_after contest lots stages ≡ Some why
  pub may : MayEnd false why

pub has_end : (contest : Contest) (lots : List (ℕ × ℕ)) → IsContest contest → list_all (names_tied contest lots) lots ≡ true → HasEnd contest lots
has_end contest lots fair tied =
    let last : History = stages_to contest lots (most contest) in
    let right : IsRight contest lots last = stages_right contest lots (most contest) in
    let again : stages_to contest lots (length last + 1 - 1) ≡ last = ap (stages_to contest lots) (omega arith) ∙ sym (stages_only contest lots last right) in
    let own = λ (c : ℕ) (is : lot_for lots (length last + 1) ≡ Some c). subst (λ (h : History). is_tied (due_after contest h) c ≡ true) again
    (lot_among (names_tied contest lots) lots (length last + 1) c tied is) in
    let end : IsEnd (lot_for lots (length last + 1)) (due_after contest last) = end_for contest last (lot_for lots (length last + 1)) (due_after contest last)
    (none_next contest lots fair) own in
    record { stages = last; why = end.why; right = right; ended = end.is; may = end.may }

-- ---- first stages

-- the stages of a prefix, in order, are the first ones of the whole
pub first_of : (stages whole : History) → IsBeginning stages whole → reverse stages ≡ take (length stages) (reverse whole)
first_of stages whole begins =
    let n : ℕ = length whole - length stages in
    let rest : History = take n whole in
    let parts : rest ++ stages ≡ whole = ap (λ (h : History). rest ++ h) (sym begins.is) ∙ take-append-drop n whole in
    let turned : reverse whole ≡ reverse stages ++ reverse rest = ap (λ (h : History). reverse h) (sym parts) ∙ reverse-append rest stages in
    sym (
    ap (take (length stages)) turned
    ∙ ap (λ (k : ℕ). take k (reverse stages ++ reverse rest)) (sym (length-reverse stages))
    ∙ take-append_seam (reverse stages) (reverse rest))

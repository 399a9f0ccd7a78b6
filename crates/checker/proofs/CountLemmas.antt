-- The count of a contest that has ended.
use Rattle.std.proofs.Common.{◌≡◌, ◌∙◌, ℕ, List, reverse, sym, ap, subst}
use Rattle.std.specs.Prelude.{Option, Some, None}
use Rattle.std.proofs.lemmas.List.{reverse-reverse}
use Rattle.std.proofs.lemmas.List.Sorted.{IsPermutation-refl}
use Rattle.count.specs.Bundles.{Bundle}
use Rattle.count.specs.Advance.{end_after}
use Rattle.count.specs.Law.Contest.{Contest, History}
use Rattle.count.specs.Law.Elected.{elected_after}
use Rattle.count.specs.Law.Right.{IsWholeCount}
use Rattle.count.specs.declared.count_to_end.CountEnd.{CountEnd}
use Rattle.count.specs.declared.count_to_end.CountEnd.TheVariants as end
use Rattle.count.specs.declared.stages.Due.{Due}
use Rattle.count.specs.declared.stages.Stage.{Stage}
use Rattle.checker.specs.Checks.{EndsAt, dues_of, undrawn_by}
use Rattle.checker.specs.Counts.{IsCountBy, IsWardCount, undrawn_at}
use Rattle.sheet.specs.Entries.{SheetEntry}
use Rattle.sheet.specs.declared.ward.Poll.{Poll}
use Rattle.checker.specs.declared.counting.WardCount.{WardCount}

-- a whole count ends at its stages
pub ends_at : (contest : Contest) (lots : List (ℕ × ℕ)) (stages : List Stage) (history : History) (why : CountEnd) → reverse stages ≡ history → IsWholeCount contest lots history →
    end_after contest lots history ≡ Some why → EndsAt contest lots stages why
ends_at contest lots stages history why is whole ended = record {
  whole = subst (IsWholeCount contest lots) (sym is) whole;
  ended = ap (end_after contest lots) is ∙ ended;
}

-- a lot that isn't drawn, in a count that has ended
pub undrawn_so : (why : CountEnd) (dues : List Due) (lots : List (ℕ × ℕ)) (stage : ℕ) → Some stage ≡ undrawn_at why dues lots → undrawn_by dues lots ≡ Some stage
undrawn_so end.Finished dues lots stage is = sym is
undrawn_so (end.LotNeeded k among) dues lots stage is = sym is
undrawn_so (end.LotNotAmong k) dues lots stage is = absurd (cc is)

-- the count of a contest, given its history
pub count_by : (contest held : Contest) (lots : List (ℕ × ℕ)) (count : WardCount) (stages : List Stage) (history : History) (dues : List Due) → held ≡ contest →
    count.stages.items ≡ stages → reverse stages ≡ history → IsWholeCount held lots history → end_after held lots history ≡ Some count.end →
    count.elected ≡ elected_after held history → dues ≡ dues_of contest lots → None ≡ undrawn_at count.end dues lots → IsCountBy contest lots count
count_by contest held lots count stages history dues same kept is whole ended chosen due none =
    let back : reverse count.stages.items ≡ history = ap (λ (ss : List Stage). reverse ss) kept ∙ is in
    record {
      counted = subst (λ c. EndsAt c lots count.stages.items count.end) same (ends_at held lots count.stages.items history count.end back whole ended);
      chosen = subst (λ c. count.elected ≡ elected_after c (reverse count.stages.items)) same (chosen ∙ ap (elected_after held) (sym back));
      drawn = ap (λ d. undrawn_at count.end d lots) (sym due) ∙ sym none;
    }

-- ---- there is one count only

-- two counts have the same stages, elected candidates and end
pub record AreSameCount (one other : WardCount) : Type 0 where
  pub stages : one.stages.items ≡ other.stages.items
  pub elected : one.elected ≡ other.elected
  pub end : one.end ≡ other.end

whole_once : (contest : Contest) (lots : List (ℕ × ℕ)) (one other : History) → IsWholeCount contest lots one → IsWholeCount contest lots other → one ≡ other
whole_once contest lots one other is also = also.equals_each contest.papers one (IsPermutation-refl contest.papers) is.ended

end_once : (contest : Contest) (lots : List (ℕ × ℕ)) (one other : History) (why end : CountEnd) → one ≡ other → end_after contest lots one ≡ Some why
    → end_after contest lots other ≡ Some end → why ≡ end
end_once contest lots one other why end same is also = some_once (sym is ∙ (ap (end_after contest lots) same ∙ also))
  where
    some_once : {x y : CountEnd} → Some x ≡ Some y → x ≡ y
    some_once e = cc

count_once : (contest : Contest) (lots : List (ℕ × ℕ)) (one other : WardCount) → IsCountBy contest lots one → IsCountBy contest lots other → AreSameCount one other
count_once contest lots one other is also =
    let same : reverse one.stages.items ≡ reverse other.stages.items = whole_once contest lots (reverse one.stages.items) (reverse other.stages.items) is.counted.whole also.counted.whole in
    record {
      stages = sym (reverse-reverse one.stages.items) ∙ (ap (λ (ss : List Stage). reverse ss) same ∙ reverse-reverse other.stages.items);
      elected = is.chosen ∙ (ap (elected_after contest) same ∙ sym also.chosen);
      end = end_once contest lots (reverse one.stages.items) (reverse other.stages.items) one.end other.end same is.counted.ended also.counted.ended;
    }

pub ward_once : (poll : Option Poll) (ward : SheetEntry) (bundles : List Bundle) (lots : List (ℕ × ℕ)) (one other : WardCount) → IsWardCount poll ward bundles lots one
    → IsWardCount poll ward bundles lots other → AreSameCount one other
ward_once None ward bundles lots one other is also = record {
  stages = is.none ∙ sym also.none;
  elected = is.chosen ∙ sym also.chosen;
  end = is.finished ∙ sym also.finished;
}
ward_once (Some poll) ward bundles lots one other is also = count_once _ lots one other is.by_lots also.by_lots

-- a recorded lot that isn't drawn prevents a count
pub undrawn_never : (contest held : Contest) (lots : List (ℕ × ℕ)) (history : History) (why : CountEnd) (dues : List Due) (stage : ℕ) (count : WardCount) → held ≡ contest
    → IsWholeCount held lots history → end_after held lots history ≡ Some why → dues ≡ dues_of contest lots → Some stage ≡ undrawn_at why dues lots → IsCountBy contest lots count → ⊥
undrawn_never contest held lots history why dues stage count same whole ended due some is =
    let own = subst (λ c. IsWholeCount c lots history) same whole in
    let end = end_once contest lots history (reverse count.stages.items) why count.end (whole_once contest lots history (reverse count.stages.items) own is.counted.whole)
    (subst (λ c. end_after c lots history ≡ Some why) same ended) is.counted.ended in
    none_some stage (sym is.drawn ∙ (ap (λ d. undrawn_at count.end d lots) (sym due) ∙ (ap (λ e. undrawn_at e dues lots) (sym end) ∙ sym some)))
  where
    none_some : (n : ℕ) → None ≡ Some n → ⊥
    none_some n e = absurd (cc)

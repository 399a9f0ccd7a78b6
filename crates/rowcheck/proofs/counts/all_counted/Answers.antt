-- Proof that `all_counted` meets its contract.
use Rattle.std.proofs.Common.{◌≡◌, Option, Some, None, Result, Ok, Err, is_some, ap, refl, sym, ◌∙◌, IfOk, IfSome, subst}
use Rattle.std.specs.List.{list_all}
use Rattle.std.proofs.lemmas.List.Folds.{list_all-map}
use Rattle.register.specs.declared.wards.Ward.{Ward}
use Rattle.register.specs.declared.counts.DrawnLot.{DrawnLot}
use Rattle.register.specs.Offices.{LotEntry, ward_entry, lot_entry, ward_at}
use Rattle.register.specs.Elections.{election_of, is_counted_right}
use Rattle.register.specs.StateConditions.{all_counted}
use Rattle.register.specs.declared.tabulations.Tabulation.{Tabulation}
use Rattle.register.specs.Tabulated.{tabulation_entries}
use Rattle.rowcheck.specs.States.{state_of}
use Rattle.rowcheck.proofs.FairLemmas.{lots_in_range, all_fair, by_ward}
use Rattle.rowcheck.proofs.CountedBookLemmas.{tabulation-by_ward}
use Rattle.rowcheck.proofs.counts.all_counted.Goals as goal

pub returns-then-not-are_of_wards-clause-is : goal.returns-then-not-are_of_wards-clause-is
unfolding all_counted
returns-then-not-are_of_wards-clause-is c =
    let s = state_of c.args.rows.now in
    rw (
      list_all-map (λ (l : LotEntry). is_some (ward_at s l.ward)) lot_entry c.args.rows.now.lots.items,
      sym c.deref.ensures.value,
      sym c.are_of_wards.ensures,
      c.if-not-are_of_wards.true,
    )
    refl

pub tabulation_in-requires-clause-in_range : goal.tabulation_in-requires-clause-in_range
tabulation_in-requires-clause-in_range c = lots_in_range (state_of c.args.rows.now) c.requires.in_range

pub tabulation_in-requires-clause-fair : goal.tabulation_in-requires-clause-fair
tabulation_in-requires-clause-fair c =
    rw c.deref-2.ensures.value (
    all_fair c.args.rows.now c.requires.rise.wards (λ w there contested. c.elections_are_fair.ensures.fair
    (state_of c.args.rows.now) w c.requires.in_range c.requires.keyed c.requires.rise there contested)
    )

pub returns-clause-is : goal.returns-clause-is
returns-clause-is c =
    let rows = c.args.rows.now in
    let placed = ap (list_all (λ (l : DrawnLot). is_some (ward_at (state_of rows) l.ward))) (sym c.deref.ensures.value) ∙ (sym c.are_of_wards.ensures ∙ c.if-not-are_of_wards.false) in
    let whole : all_counted (state_of rows) ≡ list_all (λ (w : Ward). is_counted_right (election_of (state_of rows) (ward_entry w))) c.deref-2.result.now =
    by_ward rows placed ∙ ap (list_all (λ (w : Ward). is_counted_right (election_of (state_of rows) (ward_entry w)))) (sym c.deref-2.ensures.value) in
    subst (λ b. IfOk c.tabulation_in.result (λ (found : Option Tabulation). is_some found ≡ b)) (sym whole) c.tabulation_in.ensures.is

both_some : {T E : Type 0} {P Q R : T → Type 0} (r : Result (Option T) E) → ((t : T) → P t → Q t → R t) → IfOk r (λ found. IfSome found P) → IfOk r (λ found. IfSome found Q)
    → IfOk r (λ found. IfSome found R)
both_some (Ok None) join p q = tt
both_some (Ok (Some t)) join p q = join t p q
both_some (Err e) join p q = tt

pub returns-clause-counted : goal.returns-clause-counted
returns-clause-counted c =
    both_some c.tabulation_in.result (λ t bundles figures. tabulation-by_ward c.args.rows.now
    (tabulation_entries t) c.deref-2.result.now c.deref-2.ensures.value bundles figures) c.tabulation_in.ensures.bundles c.tabulation_in.ensures.figures

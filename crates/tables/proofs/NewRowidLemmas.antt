-- Rowids still identify the rows after rows have been inserted.
use Rattle.std.proofs.Common.{◌≡◌, inl, inr, List, [], ◌∷◌, true, false, sym, ap, subst, ◌∙◌, true≢false}
use Rattle.std.specs.Ordering.{is_eq}
use Rattle.std.proofs.lemmas.Bool.{and_parts, not-true}
use Rattle.std.proofs.lemmas.Cmp.{tied_itself}
use Rattle.sqlite_value.proofs.OrderLemmas.{value_cmp_total}
use Rattle.sqlite_rules.specs.Lists.{Has}
use Rattle.sqlite_rules.proofs.ListLemmas.{some_from}
use Rattle.sqlite_rules.proofs.TableLemmas.{put_has}
use Rattle.sqlite.specs.Order.{Row, value_cmp}
use Rattle.sqlite.specs.View.{is_int}
use Rattle.sqlite.specs.Tree.{rowid, put_row}
use Rattle.sqlite.specs.Edit.{put_all, is_taken, are_fresh, have_rowids}
use Rattle.tables.specs.Rows.{Keyed}

keyed_put : (new : Row) (rows : List Row) → Keyed rows → is_int (rowid new) ≡ true → is_taken rows new ≡ false → Keyed (put_row new rows)
keyed_put new rows keyed int free = record {
  ints = λ r h. elim (put_has new rows r h) [ inl same ↦ subst (λ x. is_int (rowid x) ≡ true) (sym same) int | inr was ↦ keyed.ints r was ];
  once = λ a b h k e. elim (put_has new rows a h) [
    | inl first ↦ elim (put_has new rows b k) [
      | inl second ↦ first ∙ sym second
      | inr old ↦ absurd (never b old (sym e ∙ ap rowid first))
    ]
    | inr was ↦ elim (put_has new rows b k) [
      | inl second ↦ absurd (never a was (e ∙ ap rowid second))
      | inr old ↦ keyed.once a b was old e
    ]
  ];
}
  where
    never : (b : Row) → Has rows b → rowid b ≡ rowid new → ⊥
    never b old same =
        true≢false (sym (some_from (λ r. is_eq (value_cmp (rowid r) (rowid new))) rows b old
        (ap (λ v. is_eq (value_cmp v (rowid new))) same ∙ ap is_eq (tied_itself value_cmp_total (rowid new)))) ∙ free)

pub keyed_put_all : (news rows : List Row) → Keyed rows → have_rowids news ≡ true → are_fresh rows news ≡ true → Keyed (put_all rows news)
keyed_put_all [] rows keyed ints fresh = keyed
keyed_put_all (n ∷ news) rows keyed ints fresh =
    let i = and_parts _ _ ints in
    let f = and_parts _ _ fresh in
    keyed_put_all news (put_row n rows) (keyed_put n rows keyed i.0 (not-true _ f.0)) i.1 f.1

-- Proof that `rows_in` meets its contract.
use Rattle.std.proofs.Common.{◌≡◌, ◌∙◌, ◌++◌, ap, drop, map, sym, subst, false, ◌+◌, Some, None}
use Rattle.std.specs.Prelude.{codes, option_copied, option_map}
use Rattle.std.proofs.lemmas.List.{take_rest}
use Rattle.checker.specs.IndexPage.{begins, behind, row_at, row_entry, rows_in, with_row}
use Rattle.checker.proofs.IndexPlaces.{rows_more, rows_pass, rows_pushed}
use Rattle.checker.proofs.FolderLemmas.{map-push}
use Rattle.checker.proofs.folder_index.rows_in.Goals as goal

pub loop-i-preserved-in_default : goal.loop-i-preserved-in_default
loop-i-preserved-in_default c =
    let page = c.args.page.now in
    let rest = take_rest page c.loop-i.i in
    let on = subst (λ t. begins (codes "</tbody>") t ≡ false) rest (sym c.begins.ensures ∙ c.if-begins.false) in
    let none = subst (λ t. behind (codes "<tr><th scope=\"row\">") t ≡ None) rest (sym c.behind.ensures ∙ ap option_copied c.in_default.is) in
    ap (option_map (λ others. map row_entry c.loop-i.rows.items ++ others)) (sym (rows_pass page c.loop-i.i c.loop-i-test.true on none)) ∙ c.loop-i.invariant

pub returns-in_default-row_at : goal.returns-in_default-row_at
returns-in_default-row_at c =
    let page = c.args.page.now in
    let rest = take_rest page c.loop-i.i in
    let on = subst (λ t. begins (codes "</tbody>") t ≡ false) rest (sym c.begins.ensures ∙ c.if-begins.false) in
    let some = subst (λ t. behind (codes "<tr><th scope=\"row\">") t ≡ Some c.in-Some.after.now) rest (sym c.behind.ensures ∙ ap option_copied c.in-Some.is) in
    let none : row_at c.in-Some.after.now ≡ None = sym c.row_at.ensures ∙ ap (option_map row_entry) c.in_default-row_at.is in
    let whole = rows_more page c.in-Some.after.now c.loop-i.i c.loop-i-test.true on some ∙ ap (λ row. with_row row (rows_in (drop (c.loop-i.i + 1) page))) none in
    sym (ap (option_map (λ others. map row_entry c.loop-i.rows.items ++ others)) whole) ∙ c.loop-i.invariant

pub loop-i-preserved : goal.loop-i-preserved
loop-i-preserved c =
    let page = c.args.page.now in
    let rest = take_rest page c.loop-i.i in
    let row = c.in-Some-row_at.row in
    let on = subst (λ t. begins (codes "</tbody>") t ≡ false) rest (sym c.begins.ensures ∙ c.if-begins.false) in
    let some = subst (λ t. behind (codes "<tr><th scope=\"row\">") t ≡ Some c.in-Some.after.now) rest (sym c.behind.ensures ∙ ap option_copied c.in-Some.is) in
    let read : row_at c.in-Some.after.now ≡ Some (row_entry row) = sym c.row_at.ensures ∙ ap (option_map row_entry) c.in-Some-row_at.is in
    let whole = rows_more page c.in-Some.after.now c.loop-i.i c.loop-i-test.true on some ∙ ap (λ r. with_row r (rows_in (drop (c.loop-i.i + 1) page))) read in
    let more = ap (map row_entry) c.in_ok-push.ensures.items ∙ map-push row_entry c.loop-i.rows.items row in
    rows_pushed (map row_entry c.loop-i.rows.items) (map row_entry c.push.new.self.items) (row_entry row) (rows_in (drop (c.loop-i.i + 1) page)) more
    ∙ (sym (ap (option_map (λ others. map row_entry c.loop-i.rows.items ++ others)) whole) ∙ c.loop-i.invariant)

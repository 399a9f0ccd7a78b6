-- Parts of the proof of `with` that are done by hand.
use Rattle.std.proofs.Common.{length, sym, ap, ◌∙◌, arith}
use Rattle.paper.specs.Columns.{with_column}
use Rattle.paper.specs.Padded.{listed}
use Rattle.paper.proofs.ColumnSets.{with_column-IsCandidateSet, with_column-present, with_column-last, with_column-room, listed-padded_columns, parts-made, stands}
use Rattle.paper.proofs.columns.Columns.with.Goals as goal

pub inserted-requires : goal.inserted-requires
inserted-requires c =
    let absent = sym c.has.ensures.is ∙ c.if-has.false in
    omega (
      arith,
      with_column-room c.args.self c.args.c c.requires.some c.requires.few c.as_slice-list.ensures.set absent,
      c.split_at.ensures.back_len,
      c.split_at.ensures.front_len,
      ap length c.as_slice-list.ensures.is,
    )

pub returns-then-has-clause-is : goal.returns-then-has-clause-is
returns-then-has-clause-is c = sym (with_column-present c.args.self c.args.c c.as_slice-list.ensures.set (sym c.has.ensures.is ∙ c.if-has.true))

pub returns-then-has-clause-last : goal.returns-then-has-clause-last
returns-then-has-clause-last c = λ last.
    sym (with_column-present c.args.self c.args.c c.as_slice-list.ensures.set (sym c.has.ensures.is ∙ c.if-has.true)) ∙ with_column-last c.args.self c.args.c last

pub invariant_of-result : goal.invariant_of-result
invariant_of-result c =
    let absent = sym c.has.ensures.is ∙ c.if-has.false in
    let made = parts-made c.args.self c.as_slice-list.result.now _ _ c.inserted.result c.args.c c.count_below.result c.as_slice-list.ensures.set absent
    c.as_slice-list.ensures.is c.count_below.ensures.is c.split_at.ensures.front c.split_at.ensures.back c.inserted.ensures in
    let set = with_column-IsCandidateSet c.args.self c.args.c c.requires.some c.requires.few c.as_slice-list.ensures.set in
    stands c.inserted.result (with_column c.args.self c.args.c) set made

pub returns-clause-is : goal.returns-clause-is
returns-clause-is c =
    let absent = sym c.has.ensures.is ∙ c.if-has.false in
    let made = parts-made c.args.self c.as_slice-list.result.now _ _ c.inserted.result c.args.c c.count_below.result c.as_slice-list.ensures.set absent
    c.as_slice-list.ensures.is c.count_below.ensures.is c.split_at.ensures.front c.split_at.ensures.back c.inserted.ensures in
    let set = with_column-IsCandidateSet c.args.self c.args.c c.requires.some c.requires.few c.as_slice-list.ensures.set in
    ap listed made ∙ listed-padded_columns (with_column c.args.self c.args.c) set

pub returns-clause-set : goal.returns-clause-set
returns-clause-set c =
    let absent = sym c.has.ensures.is ∙ c.if-has.false in
    let made = parts-made c.args.self c.as_slice-list.result.now _ _ c.inserted.result c.args.c c.count_below.result c.as_slice-list.ensures.set absent
    c.as_slice-list.ensures.is c.count_below.ensures.is c.split_at.ensures.front c.split_at.ensures.back c.inserted.ensures in
    let set = with_column-IsCandidateSet c.args.self c.args.c c.requires.some c.requires.few c.as_slice-list.ensures.set in
    (stands c.inserted.result (with_column c.args.self c.args.c) set made).1

pub returns-clause-last : goal.returns-clause-last
returns-clause-last c = λ last.
    let absent = sym c.has.ensures.is ∙ c.if-has.false in
    let made = parts-made c.args.self c.as_slice-list.result.now _ _ c.inserted.result c.args.c c.count_below.result c.as_slice-list.ensures.set absent
    c.as_slice-list.ensures.is c.count_below.ensures.is c.split_at.ensures.front c.split_at.ensures.back c.inserted.ensures in
    let set = with_column-IsCandidateSet c.args.self c.args.c c.requires.some c.requires.few c.as_slice-list.ensures.set in
    ap listed made ∙ listed-padded_columns (with_column c.args.self c.args.c) set ∙ with_column-last c.args.self c.args.c last

-- Parts of the proof of `read` that are done by hand.
use Rattle.std.proofs.Common.{◌≡◌, false, length, take, codes, bytes_eq, Ok, sym, ap, ◌∙◌}
use Rattle.paper.specs.Padded.{padded}
use Rattle.paper.specs.MarksText.{spelling}
use Rattle.paper.specs.declared.marked.Keyed.TheVariants.{Marked}
use Rattle.paper.proofs.Spelling.{text_read}
use Rattle.paper.proofs.marks.Marks.read.Goals as goal

pub new-requires-clause-columns : goal.new-requires-clause-columns
new-requires-clause-columns c =
    let plain : bytes_eq c.args.text.now (codes "D") ≡ false = ap (bytes_eq c.args.text.now) (sym c.as_slice.ensures) ∙ sym c.eq.ensures ∙ c.if-eq.false in
    let same = ap length c.as_slice-count.ensures.is in
    let read = text_read c.args.columns c.args.text.now c.in_ok-marks.marks c.as_slice-count.ensures.set plain
    (sym c.count_fields.ensures ∙ c.if-count_fields-count.false ∙ same) (c.in_ok-marks.ensures.ok ∙ ap (λ n. Ok (take n c.in_ok-marks.marks)) same)
    (ap (λ n. padded (take n c.in_ok-marks.marks)) (sym same) ∙ c.in_ok-marks.ensures.behind) in
    read.columns_are

pub new-requires-clause-marks : goal.new-requires-clause-marks
new-requires-clause-marks c =
    let plain : bytes_eq c.args.text.now (codes "D") ≡ false = ap (bytes_eq c.args.text.now) (sym c.as_slice.ensures) ∙ sym c.eq.ensures ∙ c.if-eq.false in
    let same = ap length c.as_slice-count.ensures.is in
    let read = text_read c.args.columns c.args.text.now c.in_ok-marks.marks c.as_slice-count.ensures.set plain
    (sym c.count_fields.ensures ∙ c.if-count_fields-count.false ∙ same) (c.in_ok-marks.ensures.ok ∙ ap (λ n. Ok (take n c.in_ok-marks.marks)) same)
    (ap (λ n. padded (take n c.in_ok-marks.marks)) (sym same) ∙ c.in_ok-marks.ensures.behind) in
    read.marks_are

pub new-requires-clause-marking : goal.new-requires-clause-marking
new-requires-clause-marking c =
    let plain : bytes_eq c.args.text.now (codes "D") ≡ false = ap (bytes_eq c.args.text.now) (sym c.as_slice.ensures) ∙ sym c.eq.ensures ∙ c.if-eq.false in
    let same = ap length c.as_slice-count.ensures.is in
    let read = text_read c.args.columns c.args.text.now c.in_ok-marks.marks c.as_slice-count.ensures.set plain
    (sym c.count_fields.ensures ∙ c.if-count_fields-count.false ∙ same) (c.in_ok-marks.ensures.ok ∙ ap (λ n. Ok (take n c.in_ok-marks.marks)) same)
    (ap (λ n. padded (take n c.in_ok-marks.marks)) (sym same) ∙ c.in_ok-marks.ensures.behind) in
    read.marking

pub returns-clause-is : goal.returns-clause-is
returns-clause-is c =
    let plain : bytes_eq c.args.text.now (codes "D") ≡ false = ap (bytes_eq c.args.text.now) (sym c.as_slice.ensures) ∙ sym c.eq.ensures ∙ c.if-eq.false in
    let same = ap length c.as_slice-count.ensures.is in
    let read = text_read c.args.columns c.args.text.now c.in_ok-marks.marks c.as_slice-count.ensures.set plain
    (sym c.count_fields.ensures ∙ c.if-count_fields-count.false ∙ same) (c.in_ok-marks.ensures.ok ∙ ap (λ n. Ok (take n c.in_ok-marks.marks)) same)
    (ap (λ n. padded (take n c.in_ok-marks.marks)) (sym same) ∙ c.in_ok-marks.ensures.behind) in
    ap (λ ms. Ok (Marked ms)) c.new.ensures ∙ sym read.reads

pub returns-clause-spelled : goal.returns-clause-spelled
returns-clause-spelled c =
    let plain : bytes_eq c.args.text.now (codes "D") ≡ false = ap (bytes_eq c.args.text.now) (sym c.as_slice.ensures) ∙ sym c.eq.ensures ∙ c.if-eq.false in
    let same = ap length c.as_slice-count.ensures.is in
    let read = text_read c.args.columns c.args.text.now c.in_ok-marks.marks c.as_slice-count.ensures.set plain
    (sym c.count_fields.ensures ∙ c.if-count_fields-count.false ∙ same) (c.in_ok-marks.ensures.ok ∙ ap (λ n. Ok (take n c.in_ok-marks.marks)) same)
    (ap (λ n. padded (take n c.in_ok-marks.marks)) (sym same) ∙ c.in_ok-marks.ensures.behind) in
    ap (λ ms. spelling (Marked ms)) c.new.ensures ∙ read.spells

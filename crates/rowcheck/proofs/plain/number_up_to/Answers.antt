use Rattle.std.proofs.Common.{◌≡◌, ◌+◌, ◌*◌, ◌-◌, true, get_or, drop, arith, sym, ◌∙◌}
use Rattle.std.specs.Char.{is_ascii_digit}
use Rattle.std.proofs.lemmas.List.{at_drop_more}
use Rattle.rowcheck.proofs.PlainLemmas.{up_to, up_to-digit, up_to-past}
use Rattle.rowcheck.proofs.plain.number_up_to.Goals as goal

pub returns-then-next-most : goal.returns-then-next-most
returns-then-next-most c =
    let l = c.loop-digit in
    let ds = c.args.digits.now in
    let most = c.args.most in
    let d = get_or ds l.digit-index 0 in
    let digit : is_ascii_digit d ≡ true = sym c.is_ascii_digit.ensures.value ∙ c.if-not-is_ascii_digit.false in
    let past = c.if-next-most.true in
    let last = c.from.ensures in
    sym (l.invariant.told ∙ (at_drop_more (up_to most l.so_far) ds l.digit-index 0 c.loop-digit-test.true
    ∙ (up_to-digit most l.so_far d (drop (l.digit-index + 1) ds) digit ∙ up_to-past most (l.so_far * 10 + (d - 48)) (drop (l.digit-index + 1) ds) (omega (arith, past, last)))))

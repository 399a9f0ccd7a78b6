-- Proof that `write_withdrawn_line` meets its contract.
use Rattle.std.proofs.Common.{rules, arith, ◌≡◌, ◌<◌, ◌+◌, ◌≤◌, true, false, refl, ap, sym, ◌∙◌, append-nil}
use Rattle.sheet.specs.Entries.{shown}
use Rattle.sheet.specs.Ballots.{highest_number, withdrawn, withdrawn_line}
use Rattle.sheet.proofs.Withdrawn.{is_none_yet, is_missing, so_far, so_far-more, so_far-all, none_more, joined_none, line_of_none, line_of_some, Writes-withdrawn, Writes-withdrawn_cut}
use Rattle.sheet.proofs.Writing.{Writes-none, Writes-then}
use Rattle.sheet.proofs.ballots.write_withdrawn_line.Goals as goal

pub loop-below-init : goal.loop-below-init
loop-below-init g c = record { text = Writes-none _ _; first = refl }

pub loop-below-preserved-then-not-is_missing : goal.loop-below-preserved-then-not-is_missing
loop-below-preserved-then-not-is_missing g c =
    let ward = shown c.args.ward.now in
    let n = c.loop-below.below in
    let within : n < highest_number ward.candidates = omega (arith, c.highest_number-below-end.ensures, c.loop-below-test.true) in
    let there : is_missing ward (n + 1) ≡ false = search rules in
    let same : so_far ward (n + 1) ≡ so_far ward n = so_far-more ward n false within there ∙ append-nil (so_far ward n) in
    rw same c.loop-below.invariant

pub loop-below-preserved : goal.loop-below-preserved
loop-below-preserved g c =
    let ward = shown c.args.ward.now in
    let n = c.loop-below.below in
    let within : n < highest_number ward.candidates = omega (arith, c.highest_number-below-end.ensures, c.loop-below-test.true) in
    let missing : is_missing ward (n + 1) ≡ true = search rules in
    record {
      text = Writes-withdrawn ward n _ within missing c.loop-below.invariant.text (rw c.loop-below.invariant.first at c.in_ok-write_withdrawn_number.ensures);
      first = sym (ap is_none_yet (so_far-more ward n true within missing) ∙ none_more (so_far ward n) (n + 1));
    }

pub returns-in_err-write_withdrawn_number : goal.returns-in_err-write_withdrawn_number
returns-in_err-write_withdrawn_number g c =
    let ward = shown c.args.ward.now in
    let n = c.loop-below.below in
    let within : n < highest_number ward.candidates = omega (arith, c.highest_number-below-end.ensures, c.loop-below-test.true) in
    let missing : is_missing ward (n + 1) ≡ true = search rules in
    Writes-withdrawn_cut ward n c.from_residual.result within missing c.loop-below.invariant.text (rw c.loop-below.invariant.first at c.in_err-write_withdrawn_number.ensures) c.from_residual.ensures.0

pub returns-then-is_first : goal.returns-then-is_first
returns-then-is_first g c =
    let ward = shown c.args.ward.now in
    let above : highest_number ward.candidates ≤ c.loop-below.below = omega (arith, c.highest_number-below-end.ensures, c.loop-below-test.false) in
    let all : so_far ward c.loop-below.below ≡ withdrawn ward = so_far-all ward c.loop-below.below above in
    let none : is_none_yet (so_far ward c.loop-below.below) ≡ true = sym c.loop-below.invariant.first ∙ c.if-is_first.true in
    rw (ap withdrawn_line (sym all) ∙ line_of_none _ none) (rw (joined_none _ none) at c.loop-below.invariant.text)

pub returns : goal.returns
returns g c =
    let ward = shown c.args.ward.now in
    let above : highest_number ward.candidates ≤ c.loop-below.below = omega (arith, c.highest_number-below-end.ensures, c.loop-below-test.false) in
    let all : so_far ward c.loop-below.below ≡ withdrawn ward = so_far-all ward c.loop-below.below above in
    let some : is_none_yet (so_far ward c.loop-below.below) ≡ false = sym c.loop-below.invariant.first ∙ c.if-is_first.false in
    rw (ap withdrawn_line (sym all) ∙ line_of_some _ some) (Writes-then _ c.loop-below.invariant.text c.write_text.ensures)

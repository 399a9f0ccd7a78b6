-- Proof that `write_candidate_names` meets its contract.
use Rattle.std.proofs.Common.{arith, ◌<◌, ◌≤◌}
use Rattle.std.proofs.lemmas.List.{take_all}
use Rattle.sheet.specs.Ballots.{highest_number, name_line, numbers_of}
use Rattle.sheet.specs.Entries.{shown}
use Rattle.sheet.proofs.Withdrawn.{number_at, number_within, all_within}
use Rattle.sheet.proofs.Writing.{Writes-none, Writes-item, Writes-item_cut}
use Rattle.sheet.proofs.ballots.write_candidate_names.Goals as goal

pub loop-below-init : goal.loop-below-init
loop-below-init g c = Writes-none _ _

pub loop-below-preserved : goal.loop-below-preserved
loop-below-preserved g c =
    let ward = shown c.args.ward.now in
    let within : c.loop-below.below < highest_number ward.candidates = omega (arith, c.highest_number-below-end.ensures, c.loop-below-test.true) in
    Writes-item (name_line ward.candidates) (numbers_of ward) c.loop-below.below _ _ (number_within ward _ within) (number_at ward _ _ within) c.loop-below.invariant c.in_ok-write_name_line.ensures

pub returns-in_err-write_name_line : goal.returns-in_err-write_name_line
returns-in_err-write_name_line g c =
    let ward = shown c.args.ward.now in
    let within : c.loop-below.below < highest_number ward.candidates = omega (arith, c.highest_number-below-end.ensures, c.loop-below-test.true) in
    Writes-item_cut (name_line ward.candidates) (numbers_of ward) c.loop-below.below _ c.from_residual.result (number_within ward _ within)
    (number_at ward _ _ within) c.loop-below.invariant c.in_err-write_name_line.ensures c.from_residual.ensures.0

pub returns : goal.returns
returns g c =
    let ward = shown c.args.ward.now in
    let above : highest_number ward.candidates ≤ c.loop-below.below = omega (arith, c.highest_number-below-end.ensures, c.loop-below-test.false) in
    rw (take_all c.loop-below.below (numbers_of ward) (all_within ward c.loop-below.below above)) at c.loop-below.invariant

-- Proof that `parse` meets its contract.
use Rattle.std.proofs.Common.{rules}
use Rattle.wire.specs.Gates.{settings_entry}
use Rattle.wire.proofs.ParsedLemmas.{head_lasts, headed, never_lasts, none_full, none_over, none_yet}
use Rattle.wire.proofs.parsed.parse.Goals as goal

pub returns-in-Ok-Complete-clause-is : goal.returns-in-Ok-Complete-clause-is
returns-in-Ok-Complete-clause-is c =
    headed (settings_entry c.args.settings) c.args.got.now c.min.result _ c.in-Ok-Complete.spans c.found.result (rw c.in-Ok-Complete.field-0-is at c.in-Ok-Complete.ensures.complete) c.found.ensures
    (search rules) (search rules)

pub returns-in-Ok-Complete-clause-lasts : goal.returns-in-Ok-Complete-clause-lasts
returns-in-Ok-Complete-clause-lasts c = λ full.
    head_lasts (settings_entry c.args.settings) c.args.got.now c.found.result
    (headed (settings_entry c.args.settings) c.args.got.now c.min.result _ c.in-Ok-Complete.spans c.found.result (rw c.in-Ok-Complete.field-0-is at c.in-Ok-Complete.ensures.complete) c.found.ensures
    (search rules) (search rules))

pub returns-in-Ok-Partial-clause-is : goal.returns-in-Ok-Partial-clause-is
returns-in-Ok-Partial-clause-is c =
    none_yet c.args.got.now c.min.result (search rules) (search rules) (rw c.in-Ok-Partial.field-0-is at c.in-Ok-Partial.ensures.partial)
    (rw c.in-Ok-Partial.field-0-is at c.in-Ok-Partial.ensures.unfinished)

pub returns-in-Ok-Partial-2-clause-is : goal.returns-in-Ok-Partial-2-clause-is
returns-in-Ok-Partial-2-clause-is c = none_full c.args.got.now c.min.result (search rules) (rw c.in-Ok-Partial.field-0-is at c.in-Ok-Partial.ensures.partial)

pub returns-in-Ok-Partial-2-clause-lasts : goal.returns-in-Ok-Partial-2-clause-lasts
returns-in-Ok-Partial-2-clause-lasts c = λ full.
    never_lasts c.args.got.now (none_full c.args.got.now c.min.result (search rules) (rw c.in-Ok-Partial.field-0-is at c.in-Ok-Partial.ensures.partial))

pub returns-in-Err-clause-is : goal.returns-in-Err-clause-is
returns-in-Err-clause-is c = none_over c.args.got.now c.min.result _ (search rules) c.in-Err.ensures.no_room

pub returns-in-Err-clause-lasts : goal.returns-in-Err-clause-lasts
returns-in-Err-clause-lasts c = λ full. never_lasts c.args.got.now (none_over c.args.got.now c.min.result _ (search rules) c.in-Err.ensures.no_room)

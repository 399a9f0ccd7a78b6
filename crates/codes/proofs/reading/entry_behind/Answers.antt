-- Why `entry_behind` keeps its promise.
use Rattle.std.proofs.Common.{◌∙◌, sym}
use Rattle.codes.specs.Files.{code_entry, file_entry}
use Rattle.codes.proofs.FileLemmas.{clerk_among, clerk_once, clerk_twice, code_twice}
use Rattle.codes.proofs.reading.entry_behind.Goals as goal

pub returns-then-has_clerk-clause-err : goal.returns-then-has_clerk-clause-err
returns-then-has_clerk-clause-err c =
    clerk_twice (file_entry c.args.before.now) (code_entry c.in_ok-found.found) _ c.in_ok-found.ensures.ok
    (clerk_among _ _ c.in_ok-found.found.clerk _ _ c.as_slice.ensures.value c.has_clerk.ensures c.if-has_clerk.true)

pub returns-then-has_code-clause-err : goal.returns-then-has_code-clause-err
returns-then-has_code-clause-err c =
    code_twice (file_entry c.args.before.now) (code_entry c.in_ok-found.found) _ c.in_ok-found.ensures.ok
    (clerk_among _ _ c.in_ok-found.found.clerk _ _ c.as_slice.ensures.value c.has_clerk.ensures c.if-has_clerk.false)
    (sym c.has_code.ensures ∙ c.if-has_code.true)

pub returns-clause-ok : goal.returns-clause-ok
returns-clause-ok c =
    clerk_once (file_entry c.args.before.now) (code_entry c.in_ok-found.found) _ c.in_ok-found.ensures.ok
    (clerk_among _ _ c.in_ok-found.found.clerk _ _ c.as_slice.ensures.value c.has_clerk.ensures c.if-has_clerk.false)
    (sym c.has_code.ensures ∙ c.if-has_code.false)

-- Proof that `line_behind` meets its contract.
use Rattle.std.proofs.Common.{◌∙◌, ap, subst, sym}
use Rattle.std.specs.Str.{IsUtf8}
use Rattle.checker.specs.Differences.{behind_lines, first_line}
use Rattle.checker.proofs.DifferenceLemmas.{line_text}
use Rattle.checker.proofs.differences.line_behind.Goals as goal

pub unwrap-requires : goal.unwrap-requires
unwrap-requires c =
    let line = c.first_line-line.ensures ∙ ap first_line (c.behind_lines.ensures ∙ ap (behind_lines c.args.lines) c.as_bytes.ensures.value) in
    c.from_utf8.ensures.succeeds (subst IsUtf8 (sym (c.in_ok-bytes.ensures.items ∙ line)) (line_text c.args.lines c.args.text.now c.utf8.text))

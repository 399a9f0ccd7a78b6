-- Proof that `line_of` meets its contract.
use Rattle.std.proofs.Common.{◌∙◌, ◌++◌, ap, subst, sym}
use Rattle.desk.specs.Orders.{sent_as}
use Rattle.desk.specs.RequestLines.{IsLineOf, line_text}
use Rattle.desk.proofs.request_lines.line_of.Goals as goal

-- the line was parsed again, and sends the request
pub returns-then-branch-clause-says : goal.returns-then-branch-clause-says
returns-then-branch-clause-says c = subst (λ text. IsLineOf text c.args.request.now) c.as_str.ensures.value (c.in_ok-is_line_of.ensures.sends c.if-branch.true)

-- or it doesn't
pub returns-else-branch-clause-none : goal.returns-else-branch-clause-none
returns-else-branch-clause-none c line =
    let written = line_text (sent_as c.args.request.now) in
    let same = c.as_str.ensures.value ∙ (c.in_ok-put_request.ensures ∙ ap (λ front. front ++ written) c.new-line.ensures.bytes) in
    c.in_ok-is_line_of.ensures.other c.if-branch.false (subst (λ text. IsLineOf text c.args.request.now) (sym same) line)

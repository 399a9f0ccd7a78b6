-- Parts of the proof of `text` that are done by hand.
use Rattle.std.proofs.Common.{sym, subst}
use Rattle.paper.specs.MarksText.{ReadsBack}
use Rattle.paper.proofs.Spelling.{marked_reads_back}
use Rattle.paper.proofs.marked.Keyed.text.Goals as goal

pub returns-in-Marked-clause-reads_back : goal.returns-in-Marked-clause-reads_back
returns-in-Marked-clause-reads_back c = subst ReadsBack (sym c.in-Marked.is) (marked_reads_back _ c.text.ensures.marking)

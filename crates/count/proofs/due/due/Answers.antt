-- Parts of the proof of `due` that are done by hand.
use Rattle.std.proofs.Common.{◌∙◌, ap, sym, nat_lt, reverse}
use Rattle.std.specs.List.{filter}
use Rattle.count.specs.Law.Contest.{Contest, History, votes_at}
use Rattle.count.specs.Books.{contest_of}
use Rattle.count.specs.Law.Due.{due_for}
use Rattle.count.proofs.ColumnLemmas.{reverse-newest}
use Rattle.count.proofs.Law.DueLemmas.{due-ended, due-open}
use Rattle.count.proofs.due.due.Goals as goal

pub returns-then-vacancies-eq0 : goal.returns-then-vacancies-eq0
returns-then-vacancies-eq0 c = λ papers.
    due-ended (contest_of c.args.terms.now papers) (reverse c.args.stages.now) (reverse c.in-Some.field-0-1.now) c.in-Some.newest.now
    (reverse-newest c.args.stages.now c.in-Some.field-0-1.now c.in-Some.newest.now c.in-Some.ensures.cases.0)
    (sym c.vacancies.ensures ∙ c.if-vacancies-eq0.true)

pub returns-else-vacancies-eq0 : goal.returns-else-vacancies-eq0
returns-else-vacancies-eq0 c = λ papers.
    let contest : Contest = contest_of c.args.terms.now papers in
    let stages : History = reverse c.args.stages.now in
    c.due_for.ensures
    ∙ ap (due_for contest stages) (c.with_surplus-group.ensures ∙ ap (filter (λ x. nat_lt c.args.terms.now.quota (votes_at c.in-Some.newest.now x))) c.elected.ensures)
    ∙ due-open contest stages (reverse c.in-Some.field-0-1.now) c.in-Some.newest.now (reverse-newest c.args.stages.now c.in-Some.field-0-1.now c.in-Some.newest.now c.in-Some.ensures.cases.0)
    (λ none. c.if-vacancies-eq0.false (c.vacancies.ensures ∙ none))

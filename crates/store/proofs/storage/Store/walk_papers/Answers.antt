-- Proof that `walk_papers` meets its contract.
use Rattle.std.proofs.Common.{◌≡◌, List, map, refl, subst}
use Rattle.register.specs.declared.keyings.KeyedPaper.{KeyedPaper}
use Rattle.register.specs.Offices.{KeyedEntry, batch_entry, keyed_entry, judged_entry, keying_of}
use Rattle.register.specs.Polls.{lower_clerk}
use Rattle.store.specs.declared.views.settled.SettledPapers.{SettledPapers}
use Rattle.store.specs.EntryRows.{row_of_keyed}
use Rattle.store.specs.Settled.{CountAfter}
use Rattle.store.proofs.StateLemmas.{keyed_in, keyed_back}
use Rattle.store.proofs.FindLemmas.{keying_listed}
use Rattle.store.proofs.FitLemmas.{keyings_fit}
use Rattle.store.proofs.LoadsLemmas.{loads_as, loads_failed, loads_walked, loads_unwalked}
use Rattle.store.proofs.SettledLemmas.{count_none}
use Rattle.store.proofs.storage.Store.walk_papers.Given as given
use Rattle.store.proofs.storage.Store.walk_papers.Goals as goal

-- the counter has counted these papers
abbrev HasCounted : (g : given.Over) → SettledPapers g.row.P.Denot g.row.B.Denot → List KeyedPaper → Type 0
HasCounted g counter papers =
    (counter.columns ≡ g.B.Start.columns) × (map judged_entry counter.verdicts.items ≡ g.B.Start.verdicts)
    × CountAfter g.P.KeepsPapers.holds g.B.Start.were_counted g.B.Start.columns g.B.Start.verdicts counter.ballots (map keyed_entry papers)

pub returns : goal.returns
returns g c =
    let e = c.in_ok-counted.ensures in
    let b = c.args.batch.now in
    rw (← c.self.view_is) (loads_as {x = c.in_ok-counted.counted}
    (loads_walked {visitor = record { ballots = c.args.ballots; columns = c.args.columns; verdicts = c.args.verdicts; start = _ }}
    (HasCounted g) keyed_entry row_of_keyed keyed_in keyed_back (λ s. keying_of s b.number b.round (lower_clerk (batch_entry b)))
    (λ s is. keying_listed s is b.number b.round (lower_clerk (batch_entry b)))
    (rw (c.number.ensures, c.number-2.ensures, c.number-3.ensures, c.lower_clerk.ensures) at e.finds) e.opens e.reads
    (c.requires.columns, c.requires.verdicts, count_none g.P.KeepsPapers.holds g.B.Start.were_counted g.B.Start.columns g.B.Start.verdicts c.args.ballots c.requires.start))
    (λ s is told.
    let entries = subst (λ (ks : List KeyedEntry). CountAfter g.P.KeepsPapers.holds g.B.Start.were_counted g.B.Start.columns g.B.Start.verdicts c.in_ok-counted.counted.ballots ks) told.1 told.2.2 in
    rw (c.requires.columns, c.requires.verdicts) entries))

pub returns-in_err-counted : goal.returns-in_err-counted
returns-in_err-counted g c =
    let e = c.in_err-counted.ensures in
    rw (← c.self.view_is) (loads_failed c.from_residual.ensures.1
    (loads_unwalked {X = Unit {0}} {P = λ s x. Unit {0}} keyings_fit (rw (c.number.ensures, c.number-2.ensures, c.number-3.ensures) at e.cause) refl e.reads))

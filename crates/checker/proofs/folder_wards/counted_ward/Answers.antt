-- Proof that `counted_ward` meets its contract.
use Rattle.std.proofs.Common.{◌≡◌, ◌∙◌, ap, rules}
use Rattle.checker.specs.declared.folder_wards.WardFault.TheVariants.{Ballots}
use Rattle.checker.specs.declared.problem.Problem.TheVariants as problem
use Rattle.sheet.specs.Entries.{shown}
use Rattle.checker.specs.Counts.{lots_in}
use Rattle.checker.specs.Folders.{texts_as}
use Rattle.checker.proofs.CountLemmas.{ward_once}
use Rattle.checker.proofs.FolderLemmas.{shown_alike}
use Rattle.checker.proofs.folder_wards.counted_ward.Goals as goal

pub returns-in-Ok-listed_ward-clause-ok : goal.returns-in-Ok-listed_ward-clause-ok
returns-in-Ok-listed_ward-clause-ok c =
    let e = c.args.election.now in
    let title = c.args.title.now in
    let stages = c.in_ok-stages.stages.now in
    let elected = c.in-Ok.count.elected in
    let is_declared = c.args.progress.is_declared in
    record {
      count = c.in-Ok.count;
      stages = stages;
      counted = c.in-Ok.ensures.ok;
      ends = c.in_ok-stages.ensures.may.ends;
      shows = c.in_ok-stages.ensures.shows;
      drawn = c.in_ok-stages.ensures.may.drawn;
      texts_are = c.in-Ok-sealed_texts.ensures
          ∙ (ap (λ lots. texts_as title (shown e.ward) e.bundles.now lots stages c.deref.result.now elected is_declared) c.lots_in.ensures
          ∙ ap (λ groups. texts_as title (shown e.ward) e.bundles.now (lots_in e.ward.poll e.lots.now) stages groups elected is_declared)
          (c.deref.ensures.value ∙ c.in-Ok-surpluses_in.ensures));
      listed_is = c.in-Ok-listed_ward.ensures;
    }

pub returns-in_err-stages-clause-only : goal.returns-in_err-stages-clause-only
returns-in_err-stages-clause-only c = λ count stages is may sheet_is.
    let e = c.args.election.now in
    let same = ward_once e.ward.poll (shown e.ward) e.bundles.now e.lots.now c.in-Ok.count count c.in-Ok.ensures.ok is in
    let here = shown_alike (lots_in e.ward.poll e.lots.now) c.args.progress.is_declared c.in-Ok.count count stages same may in
    let so : c.in_err-stages.field-0.0 ≡ Ballots problem.Memory = c.in_err-stages.ensures.only stages here sheet_is in
    search rules

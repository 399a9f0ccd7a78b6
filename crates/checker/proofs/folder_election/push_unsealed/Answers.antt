-- Proof that `push_unsealed` meets its contract.
use Rattle.std.proofs.Common.{◌∙◌, ap, map, subst, sym}
use Rattle.sheet.specs.Index.{listed}
use Rattle.checker.specs.Folders.{is_unsealed, listed_of}
use Rattle.checker.specs.FolderWards.{AreWardsMade, told_texts}
use Rattle.checker.proofs.FolderLemmas.{unsealed_pushed}
use Rattle.checker.proofs.OfficeFolders.{listed_pushed, texts_kept}
use Rattle.checker.proofs.folder_election.push_unsealed.Goals as goal

pub returns-in-Ok-clause-made : goal.returns-in-Ok-clause-made
returns-in-Ok-clause-made c = λ title made.
    let old = c.args.election.now in
    let new = c.push_listed.new.election in
    subst (λ sealed. AreWardsMade title (map listed new.listed.items) (map told_texts sealed.items)) (sym c.in-Ok.ensures.sealed)
    (unsealed_pushed title old.listed.items new.listed.items c.in_ok-ward.ward (map told_texts old.sealed.items) c.in-Ok.ensures.listed c.in_ok-ward.ensures.made made)

pub returns-in-Ok-clause-again : goal.returns-in-Ok-clause-again
returns-in-Ok-clause-again c = λ title ward text row keying. record {
  listed_are = listed_pushed c.args.election.now.listed.items c.push_listed.new.election.listed.items c.in_ok-ward.ward (listed_of (is_unsealed ward)) c.in-Ok.ensures.listed
      (c.in_ok-ward.ensures.again ward text row keying);
  texts_are = ap (λ ts. map told_texts ts.items) c.in-Ok.ensures.sealed ∙ texts_kept (map told_texts c.args.election.now.sealed.items);
}

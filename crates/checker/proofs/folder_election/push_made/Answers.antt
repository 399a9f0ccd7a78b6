-- Proof that `push_made` meets its contract.
use Rattle.checker.specs.Folders.{is_sealed, listed_of, texts_of}
use Rattle.checker.proofs.FolderLemmas.{sealed_pushed}
use Rattle.checker.proofs.OfficeFolders.{listed_pushed, texts_pushed}
use Rattle.checker.proofs.folder_election.push_made.Goals as goal

pub returns-clause-made : goal.returns-clause-made
returns-clause-made c = λ title is made.
    sealed_pushed title c.args.election.now.listed.items c.push.new.self.items c.args.election.now.sealed.items c.push-2.new.self.items c.args.made c.in_ok-push.ensures.items
    c.in_ok-push-2.ensures.items is made

pub returns-clause-again : goal.returns-clause-again
returns-clause-again c = λ title ward is. record {
  listed_are = listed_pushed c.args.election.now.listed.items c.push.new.self.items c.args.made.listed (listed_of (is_sealed ward)) c.in_ok-push.ensures.items is.listed_is;
  texts_are = texts_pushed c.args.election.now.sealed.items c.push-2.new.self.items c.args.made.texts (texts_of title ward) c.in_ok-push-2.ensures.items is.texts_are;
}

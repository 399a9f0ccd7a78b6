-- Proof that `NamesByNumber::new` meets its contract.
use Rattle.std.proofs.Common.{map}
use Rattle.register.specs.Offices.{candidate_entry}
use Rattle.desk.specs.CandidateNames.{name_of}
use Rattle.desk.proofs.PaperLemmas.{name_more}
use Rattle.desk.proofs.candidate_names.NamesByNumber.new.Goals as goal

pub loop-number-preserved : goal.loop-number-preserved
loop-number-preserved c =
    name_more (name_of (map candidate_entry c.args.candidates.now)) c.loop-number.places.items c.push.new.self.items c.name_of.result c.loop-number.number
    c.in_ok-push.ensures.items c.name_of.ensures c.loop-number.invariant

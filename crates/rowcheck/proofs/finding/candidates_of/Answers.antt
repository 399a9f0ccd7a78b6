use Rattle.std.proofs.Common.{◌==◌}
use Rattle.std.specs.Ordering.{nat_cmp, on, is_eq}
use Rattle.std.specs.Cmp.{unsigned_tied}
use Rattle.register.specs.declared.candidates.Candidate.{Candidate}
use Rattle.register.specs.Offices.{CandidateEntry, candidate_entry, candidate_cmp}
use Rattle.rowcheck.proofs.FindingLemmas.{entries_found, follows, stand_in_order}
use Rattle.rowcheck.proofs.finding.candidates_of.Goals as goal

pub run_of-requires : goal.run_of-requires
run_of-requires c =
    rw c.deref.ensures.value (stand_in_order candidate_entry candidate_cmp (λ (x : CandidateEntry). nat_cmp x.ward c.args.ward)
    (follows (λ (x : CandidateEntry). x.ward) c.args.ward (on (λ (x : CandidateEntry). x.number) nat_cmp)) c.args.rows.now.candidates.items c.requires.candidates)

pub returns : goal.returns
returns c =
    rw (c.run_of.ensures, c.deref.ensures.value)
    (entries_found candidate_entry (λ (x : CandidateEntry). x.ward == c.args.ward) (λ (x : Candidate). is_eq (nat_cmp x.ward c.args.ward))
    (λ x. unsigned_tied x.ward c.args.ward) c.args.rows.now.candidates.items)

use Rattle.std.proofs.Common.{◌==◌, arith, ◌∙◌, ap, drop}
use Rattle.std.proofs.lemmas.List.Sums.{prefix_len-le-length}
use Rattle.register.specs.declared.candidates.Candidate.{Candidate}
use Rattle.rowcheck.proofs.SideBySideLemmas.{drop_front}
use Rattle.rowcheck.proofs.nominations.split_run.Goals as goal

pub split_at-requires : goal.split_at-requires
split_at-requires c = let short = prefix_len-le-length (λ (r : Candidate). r.ward == c.args.ward) c.args.candidates.now in omega (arith, c.run_length.ensures, short)

pub returns-clause-rest : goal.returns-clause-rest
returns-clause-rest c = c.split_at.ensures.back ∙ (ap (λ n. drop n c.args.candidates.now) c.run_length.ensures ∙ drop_front (λ (r : Candidate). r.ward == c.args.ward) c.args.candidates.now)

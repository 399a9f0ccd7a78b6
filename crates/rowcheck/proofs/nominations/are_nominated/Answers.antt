use Rattle.std.proofs.Common.{map, refl, sym, ◌∙◌}
use Rattle.register.specs.declared.wards.Ward.{Ward}
use Rattle.register.specs.declared.candidates.Candidate.{Candidate}
use Rattle.register.specs.Offices.{ward_entry, candidate_entry}
use Rattle.register.specs.Nominations.{are_enough}
use Rattle.rowcheck.proofs.SideBySideLemmas.{by_run_more}
use Rattle.rowcheck.proofs.nominations.are_nominated.Goals as goal

pub returns-then-not-are_enough : goal.returns-then-not-are_enough
returns-then-not-are_enough c =
    let more =
    by_run_more (λ (w : Ward). w.number) (λ (r : Candidate). r.ward)
    (λ w candidates. are_enough w.phase (ward_entry w) (map candidate_entry candidates)) c.args.wards.now c.loop-ward.left.now c.loop-ward.ward-index c.ward-item.result c.loop-ward-test.true
    (sym c.ward-item.is)
    in
    sym (c.loop-ward.invariant ∙ (more ∙ rw (sym c.split_run.ensures.run, sym c.are_enough.ensures, c.if-not-are_enough.true) refl))

pub loop-ward-preserved : goal.loop-ward-preserved
loop-ward-preserved c =
    let more =
    by_run_more (λ (w : Ward). w.number) (λ (r : Candidate). r.ward)
    (λ w candidates. are_enough w.phase (ward_entry w) (map candidate_entry candidates)) c.args.wards.now c.loop-ward.left.now c.loop-ward.ward-index c.ward-item.result c.loop-ward-test.true
    (sym c.ward-item.is)
    in
    c.loop-ward.invariant ∙ (more ∙ rw (sym c.split_run.ensures.run, sym c.are_enough.ensures, c.if-not-are_enough.false, sym c.split_run.ensures.rest) refl)

-- Proof that `read_rows` meets its contract.
use Rattle.std.proofs.Common.{◌≡◌, ◌+◌, ℕ, map, refl, subst, arith}
use Rattle.csv.specs.Reading.{reader_source}
use Rattle.keyfile.specs.Files.{fault_at}
use Rattle.keyfile.specs.Inside.{StandsAt}
use Rattle.keyfile.specs.declared.fault.Flaw.TheVariants.{Memory}
use Rattle.keyfile.proofs.StandLemmas.{passed-on, stands-stopped}
use Rattle.keyfile.proofs.format.read_rows.Goals as goal

pub returns-in_err-row-clause-fault : goal.returns-in_err-row-clause-fault
returns-in_err-row-clause-fault g c =
    let format = g.F.FileFormat.format c.args.format.now in
    let bytes = g.R.Read.remaining (reader_source c.args.file.now) in
    let told = c.in_err-row.ensures.err bytes (map g.F.FileFormat.entry c.loop-number.rows.items) c.loop-number.invariant in
    passed-on format bytes c.from_residual-in_err-row.result c.in_err-row.field-0.0 c.from_residual-in_err-row.ensures.1 told

pub returns-in_default-clause-rows : goal.returns-in_default-clause-rows
returns-in_default-clause-rows g c =
    rw c.in_default.is at (c.in_ok-row.ensures.whole (g.R.Read.remaining (reader_source c.args.file.now)) (map g.F.FileFormat.entry c.loop-number.rows.items) c.loop-number.invariant)

pub returns-then-is_err-clause-fault : goal.returns-then-is_err-clause-fault
returns-then-is_err-clause-fault g c =
    stands-stopped (g.F.FileFormat.format c.args.format.now) g.R.Read.remaining (g.R.Read.remaining (reader_source c.args.file.now)) c.loop-number.number
    (map g.F.FileFormat.entry c.loop-number.rows.items)
    c.loop-number.file c.loop-number.invariant (fault_at c.loop-number.number Memory) refl refl

pub returns-in_err-check_end-clause-fault : goal.returns-in_err-check_end-clause-fault
returns-in_err-check_end-clause-fault g c =
    let format = g.F.FileFormat.format c.args.format.now in
    let bytes = g.R.Read.remaining (reader_source c.args.file.now) in
    let rows = map g.F.FileFormat.entry c.loop-number.rows.items in
    let past : c.loop-number.number ≡ c.most-most.result + 1 = omega (arith, c.loop-number-test.false, c.loop-number.auto.number-end) in
    let stands = subst (λ (n : ℕ). StandsAt g.R.Read.remaining bytes format n rows c.loop-number.file) past c.loop-number.invariant in
    let told = c.in_err-check_end.ensures.err bytes rows stands in
    passed-on format bytes c.from_residual-in_err-check_end.result c.in_err-check_end.field-0.0 c.from_residual-in_err-check_end.ensures.1 told

pub returns-clause-rows : goal.returns-clause-rows
returns-clause-rows g c =
    let format = g.F.FileFormat.format c.args.format.now in
    let bytes = g.R.Read.remaining (reader_source c.args.file.now) in
    let rows = map g.F.FileFormat.entry c.loop-number.rows.items in
    let past : c.loop-number.number ≡ c.most-most.result + 1 = omega (arith, c.loop-number-test.false, c.loop-number.auto.number-end) in
    let stands = subst (λ (n : ℕ). StandsAt g.R.Read.remaining bytes format n rows c.loop-number.file) past c.loop-number.invariant in
    c.in_ok-check_end.ensures.whole bytes rows stands

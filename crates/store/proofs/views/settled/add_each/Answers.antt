-- Proof that `add_each` meets its contract.
use Rattle.std.proofs.Common.{map}
use Rattle.register.specs.Offices.{judged_entry}
use Rattle.store.proofs.SettledLemmas.{count_none}
use Rattle.store.proofs.views.settled.add_each.Goals as goal

pub loop-keyed-init : goal.loop-keyed-init
loop-keyed-init g c = count_none g.P.KeepsPapers.holds _ c.args.columns (map judged_entry c.args.verdicts.now) _ (λ js same. same)

use Rattle.std.proofs.lemmas.List.Folds.{list_all-map}
use Rattle.register.specs.Offices.{WardEntry, ward_entry}
use Rattle.register.specs.Elections.{election_of, is_agreed}
use Rattle.register.specs.StateConditions.{all_agreed}
use Rattle.rowcheck.specs.States.{state_of}
use Rattle.rowcheck.proofs.polls.all_agreed.Goals as goal

pub returns : goal.returns
unfolding all_agreed
returns c = rw (c.are_agreed.ensures, c.deref.ensures.value, list_all-map (λ (w : WardEntry). is_agreed (election_of (state_of c.args.rows.now) w)) ward_entry c.args.rows.now.wards.items)

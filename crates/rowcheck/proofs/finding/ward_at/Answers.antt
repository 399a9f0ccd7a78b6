use Rattle.std.specs.Ordering.{nat_cmp, is_eq}
use Rattle.register.specs.declared.wards.Ward.{Ward}
use Rattle.register.specs.Offices.{WardEntry, ward_entry, ward_cmp}
use Rattle.rowcheck.proofs.FindingLemmas.{equal_either_way, first_found, follows_key, stand_in_order}
use Rattle.rowcheck.proofs.finding.ward_at.Goals as goal

pub run_of-requires : goal.run_of-requires
run_of-requires c =
    rw c.deref.ensures.value (stand_in_order ward_entry ward_cmp (λ (x : WardEntry). nat_cmp x.number c.args.number)
    (follows_key (λ (x : WardEntry). x.number) c.args.number) c.args.rows.now.wards.items c.requires.wards)

pub returns : goal.returns
returns c =
    rw (c.first.ensures.value, c.run_of.ensures, c.deref.ensures.value)
    (first_found ward_entry (λ (x : WardEntry). is_eq (nat_cmp c.args.number x.number)) (λ (x : Ward). is_eq (nat_cmp x.number c.args.number))
    (λ x. equal_either_way x.number c.args.number) c.args.rows.now.wards.items)

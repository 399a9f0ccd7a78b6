use Rattle.std.proofs.Common.{map, sym}
use Rattle.register.specs.Offices.{keyed_entry}
use Rattle.rowcheck.proofs.RoundLemmas.{whole_if_keyed}
use Rattle.rowcheck.proofs.keyings.are_whole.Goals as goal

pub returns : goal.returns
returns c =
    let k = c.args.keyings.now in
    rw (c.is_whole_if_keyed-first.ensures, c.is_whole_if_keyed-second.ensures, c.is_whole_if_keyed.ensures)
    (sym (whole_if_keyed c.args.size (map keyed_entry k.first.now) (map keyed_entry k.second.now) (map keyed_entry k.third.now)))

-- Proof that `put_masked` meets its contract: a prefix of what is shown is what is shown of a prefix.
use Rattle.std.proofs.Common.{arith, ◌≡◌, ◌≤◌, ◌∙◌, ap, subst, take, length}
use Rattle.std.proofs.lemmas.List.{length-take}
use Rattle.std.specs.Io.KnownBytes.{Appends}
use Rattle.count_office.specs.Screens.{masked}
use Rattle.count_office.proofs.ScreenLemmas.{take_masked, take_within}
use Rattle.count_office.proofs.screen.Screen.put_masked.Goals as goal

pub returns-clause-shown : goal.returns-clause-shown
returns-clause-shown g c =
    let first = c.args.self.now.first in
    let second = c.args.self.now.second in
    let count = c.in_ok-count.count in
    let part = take c.min.result c.args.bytes.now in
    let within : count ≤ c.min.result =
    omega (arith, c.in_ok-count.ensures.within, length-take (length part) c.mask-room.result, length-take c.min.result c.args.bytes.now) in
    let same = take_within count c.min.result c.args.bytes.now within in
    let shown : take count (take (length part) c.mask-room.result) ≡ masked first second (take count c.args.bytes.now) =
    ap (take count) c.mask-room.ensures ∙ take_masked count first second part ∙ ap (masked first second) same in
    subst (Appends (g.S.Sink.taken c.args.self.now.stream) (g.S.Sink.taken c.put.new.self)) shown c.in_ok-count.ensures.took

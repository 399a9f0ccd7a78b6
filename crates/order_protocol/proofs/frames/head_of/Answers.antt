-- Why `head_of` keeps its promise.
use Rattle.std.proofs.Common.{◌≡◌, Some, arith, rules}
use Rattle.order_protocol.specs.Reading.{head_in}
use Rattle.order_protocol.specs.declared.frames.FrameHead.{FrameHead}
use Rattle.order_protocol.proofs.HeadLemmas.{found_so}
use Rattle.order_protocol.proofs.frames.head_of.Goals as goal

pub returns-in-Some-clause-found : goal.returns-in-Some-clause-found
returns-in-Some-clause-found c =
    let head : FrameHead = record { kind = c.in-Some.kind; len = c.from_be_bytes-len.result } in
    let is : Some head ≡ head_in c.args.bytes.now = search rules in
    found_so c.args.bytes.now head c.requires (λ i. omega (arith, c.type_inv.bytes i)) is

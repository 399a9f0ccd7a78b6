-- Proof that `routed_by` meets its contract.
use Rattle.std.proofs.Common.{◌∙◌, sym}
use Rattle.std.proofs.lemmas.Str.{IsUtf8-from_ascii}
use Rattle.wire.proofs.TargetLemmas.{route-found}
use Rattle.wire.proofs.target.Routes.routed_by.Goals as goal

pub returns-in_default : goal.returns-in_default
returns-in_default c = absurd (c.in_default.ensures.cases.0 (IsUtf8-from_ascii c.args.target.now c.if-not-is_ascii.ensures.cases))

pub named_at-requires : goal.named_at-requires
named_at-requires c =
    (route-found c.args.self.now.router c.args.target.now c.in-Ok.text.now _ _ c.if-not-is_ascii.ensures.cases c.in-Ok.ensures.cases.0 c.in-Ok-at.ensures.path
    c.args.self.now.eight c.in-Ok-at.ensures.found).0

pub returns-in-Ok-at : goal.returns-in-Ok-at
returns-in-Ok-at c =
    c.named_at.ensures
    ∙ sym
    (route-found c.args.self.now.router c.args.target.now c.in-Ok.text.now _ _ c.if-not-is_ascii.ensures.cases c.in-Ok.ensures.cases.0 c.in-Ok-at.ensures.path
    c.args.self.now.eight c.in-Ok-at.ensures.found).1

-- Proof that `read_request` meets its contract.
use Rattle.wire.specs.Gates.{settings_entry}
use Rattle.wire.proofs.RequestLemmas.{AsksOneThing-all, DeniesForeign-all, DependsOnOwnBytes-all}
use Rattle.wire.proofs.GateLemmas.{AsksByHolder-all}
use Rattle.wire.proofs.PathLemmas.{NamesOnlyItsPath-all}
use Rattle.wire.proofs.PublicRequestLemmas.{AsksInPublic-all}
use Rattle.wire.proofs.ServingLemmas.{IsConsoleAlike-all, IsDeniedAlike-all, IsShownAlike-all}
use Rattle.wire.proofs.request.read_request.Goals as goal

pub returns-clause-one : goal.returns-clause-one
returns-clause-one g c = AsksOneThing-all (settings_entry c.args.settings)

pub returns-clause-foreign : goal.returns-clause-foreign
returns-clause-foreign g c = DeniesForeign-all

pub returns-clause-others : goal.returns-clause-others
returns-clause-others g c = DependsOnOwnBytes-all

pub returns-clause-alike : goal.returns-clause-alike
returns-clause-alike g c = IsDeniedAlike-all

pub returns-clause-targets : goal.returns-clause-targets
returns-clause-targets g c = NamesOnlyItsPath-all

pub returns-clause-held : goal.returns-clause-held
returns-clause-held g c = AsksByHolder-all

pub returns-clause-shown : goal.returns-clause-shown
returns-clause-shown g c = IsShownAlike-all

pub returns-clause-console : goal.returns-clause-console
returns-clause-console g c = IsConsoleAlike-all

pub returns-clause-public : goal.returns-clause-public
returns-clause-public g c = AsksInPublic-all

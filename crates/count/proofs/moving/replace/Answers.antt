-- Parts of the proof of `replace` that are done by hand.
use Rattle.std.proofs.Common.{rules, ◌≡◌, ◌++◌}
use Rattle.count.proofs.TransferLemmas.{kept-append}
use Rattle.count.proofs.moving.replace.Goals as goal

pub returns : goal.returns
returns c = λ f.
    let all : c.append.new.self.items ≡ c.leave_out.new.holdings.items ++ c.args.moved.items = search rules in
    kept-append f c.args.action.now _ _ _ _ c.leave_out.ensures.kept all

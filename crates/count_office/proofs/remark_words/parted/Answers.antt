-- Proof that `parted` meets its contract.
use Rattle.std.proofs.Common.{◌+◌, Some, None, length, sym, arith}
use Rattle.std.proofs.lemmas.List.{drop_all, take_all}
use Rattle.std.proofs.lemmas.Str.Pattern.{split_once_first}
use Rattle.count_office.proofs.remark_words.parted.Goals as goal

pub returns-in-Some : goal.returns-in-Some
returns-in-Some c =
    let parts = split_once_first c.args.mark c.args.text.now (Some (c.in-Some.before, c.in-Some.behind)) c.in-Some.ensures.cases c.requires in
    record { before = parts.1; behind = parts.2 }

pub returns-in-None : goal.returns-in-None
returns-in-None c =
    let lacks = split_once_first c.args.mark c.args.text.now None c.in-None.ensures.cases c.requires in
    record {
      before = rw lacks (sym (take_all (length c.args.text.now) c.args.text.now (omega arith)));
      behind = rw lacks (sym (drop_all (length c.args.text.now + 1) c.args.text.now (omega arith)));
    }

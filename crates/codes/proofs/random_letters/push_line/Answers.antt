-- Why `push_line` keeps its promise.
use Rattle.std.proofs.Common.{drop}
use Rattle.codes.proofs.LetterLemmas.{each_drop, each_take}
use Rattle.codes.proofs.random_letters.push_line.Goals as goal

pub push_letters-requires : goal.push_letters-requires
push_letters-requires c = each_take 4 c.args.letters.now c.requires.ascii

pub push_letters-requires-2 : goal.push_letters-requires-2
push_letters-requires-2 c = each_take 4 (drop 4 c.args.letters.now) (each_drop 4 c.args.letters.now c.requires.ascii)

pub push_letters-requires-3 : goal.push_letters-requires-3
push_letters-requires-3 c = each_take _ (drop 8 c.args.letters.now) (each_drop 8 c.args.letters.now c.requires.ascii)

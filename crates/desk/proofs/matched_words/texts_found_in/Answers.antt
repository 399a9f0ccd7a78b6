-- Proof that `texts_found_in` meets its contract: what `clap` returns is what the rows of its matches contain.
use Rattle.std.proofs.Common.{◌∙◌}
use Rattle.clap.proofs.WalkLemmas.{raw_values-rows}
use Rattle.clap.specs.Words.{found_of}
use Rattle.desk.proofs.matched_words.texts_found_in.Goals as goal

pub returns : goal.returns
returns c = c.get_strs.ensures ∙ raw_values-rows (found_of c.args.matches.now) c.args.word.name.now

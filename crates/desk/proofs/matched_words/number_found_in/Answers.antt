use Rattle.std.proofs.Common.{ap, refl, ◌∙◌, ◌≡◌, List, ℕ, Option, Some, None}
use Rattle.std.specs.Str.Parse.{ParsesUnsigned, ExplainsUnsignedError, HasUnsignedDigitsIfOk}
use Rattle.clap.proofs.WalkLemmas.{one_text-rows}
use Rattle.clap.specs.Words.{found_of, one_text}
use Rattle.std.specs.Prelude.{option_and_then}
use Rattle.desk.specs.Numbers.{number_in}
use Rattle.desk.proofs.NumbersRead.{read_number}
use Rattle.desk.proofs.matched_words.number_found_in.Goals as goal

pub returns : goal.returns
returns c = by (one_text (found_of c.args.matches.now) c.args.word.name.now) refl ∙ ap (option_and_then number_in) (one_text-rows (found_of c.args.matches.now) c.args.word.name.now)
  where
    by : (o : Option (List ℕ)) → one_text (found_of c.args.matches.now) c.args.word.name.now ≡ o
        → c.get_one.result ≡ option_and_then number_in (one_text (found_of c.args.matches.now) c.args.word.name.now)
    by None e = rw (e, c.get_one.ensures.none e) refl
    by (Some t) e = rw e (read_number _ (λ bs r. ParsesUnsigned 32 10 bs r × ExplainsUnsignedError 10 bs r × HasUnsignedDigitsIfOk bs r)
        t c.get_one.result (λ u x g. g.0) (c.get_one.ensures.value t e))

-- The invariant of the loop in `texts_of`: all words so far are UTF-8.
use Rattle.std.proofs.Common.{◌≡◌, ◌∷◌, true, map, take}
use Rattle.std.specs.Prelude.{codes}
use Rattle.std.specs.List.{list_all}
use Rattle.std.specs.Str.{is_utf8}
use Rattle.desk.proofs.scripts.texts_of.Given as goal

abbrev pub invariant-loop-word : goal.invariant-loop-word
invariant-loop-word l = record {
  same : map (λ text. text.now) l.texts.items ≡ codes "DB" ∷ map (λ w. w.items) (take l.word-index l.words);
  text : list_all is_utf8 (map (λ w. w.items) (take l.word-index l.words)) ≡ true;
}

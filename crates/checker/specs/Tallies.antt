-- Counting equal papers together while a file is read.
use Rattle.std.specs.Prelude.{List, [], ◌∷◌}
use Rattle.count.specs.Bundles.{Bundle, with_papers}

-- bundles, with the papers of further ones added one after another
abbrev pub settled : List Bundle → List Bundle → List Bundle
settled bundles [] = bundles
settled bundles (more ∷ others) = settled (with_papers bundles more.0 more.1) others

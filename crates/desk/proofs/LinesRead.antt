-- Computed examples of splitting a text into lines.
use Rattle.std.proofs.Common.{◌≡◌, [], ◌∷◌, refl}
use Rattle.std.specs.Prelude.{codes}
use Rattle.desk.specs.Scripts.{lines_of}

two_lines : lines_of (codes "close 7\nseal 7") ≡ codes "close 7" ∷ codes "seal 7" ∷ []
two_lines = refl

nothing : lines_of [] ≡ [] ∷ []
nothing = refl

-- a byte order mark is skipped at the beginning, and nowhere else
mark_at_the_front : lines_of (239 ∷ 187 ∷ 191 ∷ codes "close 7\nseal 7") ≡ codes "close 7" ∷ codes "seal 7" ∷ []
mark_at_the_front = refl

mark_alone : lines_of (239 ∷ 187 ∷ 191 ∷ []) ≡ [] ∷ []
mark_alone = refl

second_mark : lines_of (239 ∷ 187 ∷ 191 ∷ 239 ∷ 187 ∷ 191 ∷ []) ≡ (239 ∷ 187 ∷ 191 ∷ []) ∷ []
second_mark = refl

mark_of_the_second_line : lines_of (10 ∷ 239 ∷ 187 ∷ 191 ∷ []) ≡ [] ∷ (239 ∷ 187 ∷ 191 ∷ []) ∷ []
mark_of_the_second_line = refl

mark_cut_off : lines_of (239 ∷ 187 ∷ []) ≡ (239 ∷ 187 ∷ []) ∷ []
mark_cut_off = refl

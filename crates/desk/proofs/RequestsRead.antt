-- Computed examples: the line that is written for a request, split into words, and what they mean.
use Rattle.std.proofs.Common.{◌≡◌, List, [], ◌∷◌, Ok, Some, map, refl}
use Rattle.std.specs.Prelude.{codes}
use Rattle.std.specs.Char.{encode_utf8}
use Rattle.std.specs.Fmt.{digits}
use Rattle.std.specs.Str.{chars, is_utf8}
use Rattle.clap.proofs.OnLiterals.{clap_on_literals}
use Rattle.clap.specs.Words.{Text, subcommand_of}
use Rattle.desk.specs.Orders.{Sent, by_clerk, by_office, candidate_to_withdraw, keying_to_keep, orders, send, ward_to_add}
use Rattle.desk.specs.RequestLines.{id_words, keying_line, line_text, line_with, named_line, quoted}
use Rattle.desk.specs.Scripts.{Typed, script_lines}
use Rattle.desk.specs.Words.{meaning, office_words}

-- the line of a request is read as these words, which mean the request
abbrev IsReadBack : Sent → List Text → Type 0
IsReadBack sent words =
    (map (λ (line : Typed). line.words) (script_lines (line_text sent)) ≡ Ok (codes "DB" ∷ words) ∷ []) × (meaning (subcommand_of office_words (codes "DB" ∷ words)) ≡ Some (send sent))

a_withdrawal : IsReadBack (by_office (codes "w1") (candidate_to_withdraw 7 2)) (codes "withdraw" ∷ codes "7" ∷ codes "2" ∷ codes "--id" ∷ codes "w1" ∷ [])
unfolding office_words orders clap_on_literals line_with id_words digits is_utf8 chars encode_utf8
a_withdrawal = (refl, refl)

-- a name with a quote, and an id that begins with a hyphen
a_ward : IsReadBack (by_office (codes "-w") (ward_to_add 7 3 (codes "Old \"Town\""))) (codes "ward" ∷ codes "7" ∷ codes "3" ∷ codes "Old \"Town\"" ∷ codes "--id=-w" ∷ [])
unfolding office_words orders clap_on_literals named_line quoted id_words digits is_utf8 chars encode_utf8
a_ward = (refl, refl)

a_keying : IsReadBack (by_clerk 4 (codes "k1") (keying_to_keep 12 1 (codes ",1," ∷ codes "D" ∷ [])))
    (codes "key" ∷ codes "4" ∷ codes "12" ∷ codes "1" ∷ codes "--id" ∷ codes "k1" ∷ codes ",1," ∷ codes "D" ∷ [])
unfolding office_words orders clap_on_literals keying_line id_words digits is_utf8 chars encode_utf8
a_keying = (refl, refl)

-- Computed examples: the meaning of words with several texts, a flag or an optional number.
use Rattle.std.proofs.Common.{◌≡◌, [], ◌∷◌, true, false, refl}
use Rattle.std.specs.Prelude.{codes, Some, None}
use Rattle.clap.proofs.OnLiterals.{clap_on_literals}
use Rattle.clap.specs.Words.{subcommand_of}
use Rattle.desk.specs.Orders.{key, orders, replay, serve}
use Rattle.desk.specs.Words.{meaning, office_words}

-- the marks of three papers, one of them empty, before and after the id
a_keying : meaning (subcommand_of office_words (codes "DB" ∷ codes "key" ∷ codes "4" ∷ codes "12" ∷ codes "1" ∷ codes ",1," ∷ [] ∷ codes "--id" ∷ codes "k1" ∷ codes "D" ∷ []))
    ≡ Some (key 4 12 1 (codes ",1," ∷ [] ∷ codes "D" ∷ []) (codes "k1"))
unfolding office_words orders clap_on_literals
a_keying = refl

no_papers : meaning (subcommand_of office_words (codes "DB" ∷ codes "key" ∷ codes "4" ∷ codes "12" ∷ codes "1" ∷ codes "--id" ∷ codes "k1" ∷ [])) ≡ Some (key 4 12 1 [] (codes "k1"))
unfolding office_words orders clap_on_literals
no_papers = refl

past_refusals : meaning (subcommand_of office_words (codes "DB" ∷ codes "replay" ∷ codes "a.txt" ∷ codes "--keep-going" ∷ [])) ≡ Some (replay (codes "a.txt") true false)
unfolding office_words orders clap_on_literals
past_refusals = refl

up_to_a_refusal : meaning (subcommand_of office_words (codes "DB" ∷ codes "replay" ∷ codes "a.txt" ∷ [])) ≡ Some (replay (codes "a.txt") false false)
unfolding office_words orders clap_on_literals
up_to_a_refusal = refl

whole_lines_alone : meaning (subcommand_of office_words (codes "DB" ∷ codes "replay" ∷ codes "--cut" ∷ codes "a.txt" ∷ [])) ≡ Some (replay (codes "a.txt") false true)
unfolding office_words orders clap_on_literals
whole_lines_alone = refl

without_a_limit : meaning (subcommand_of office_words (codes "DB" ∷ codes "serve" ∷ codes "8080" ∷ [])) ≡ Some (serve 8080 None None None None)
unfolding office_words orders clap_on_literals
without_a_limit = refl

with_a_limit : meaning (subcommand_of office_words (codes "DB" ∷ codes "serve" ∷ codes "8080" ∷ codes "1000000" ∷ [])) ≡ Some (serve 8080 (Some 1000000) None None None)
unfolding office_words orders clap_on_literals
with_a_limit = refl

-- Computed examples of words that aren't an order.
use Rattle.std.proofs.Common.{◌≡◌, [], ◌∷◌, refl}
use Rattle.std.specs.Prelude.{codes}
use Rattle.clap.proofs.OnLiterals.{clap_on_literals}
use Rattle.clap.specs.declared.error.kind.ErrorKind.TheVariants.{DisplayHelp, DisplayHelpOnMissingArgumentOrSubcommand, DisplayVersion, InvalidSubcommand}
use Rattle.clap.specs.declared.error.kind.ErrorKind.TheVariants.{MissingRequiredArgument, UnknownArgument, ValueValidation}
use Rattle.desk.specs.Orders.{orders}
use Rattle.desk.specs.Words.{office_words, wrong_with}

an_order : wrong_with (codes "DB" ∷ codes "close" ∷ codes "7" ∷ codes "--id" ∷ codes "n1" ∷ []) ≡ []
unfolding office_words orders clap_on_literals
an_order = refl

help : wrong_with (codes "DB" ∷ codes "close" ∷ codes "--help" ∷ []) ≡ DisplayHelp ∷ []
unfolding office_words orders clap_on_literals
help = refl

version : wrong_with (codes "DB" ∷ codes "--version" ∷ []) ≡ DisplayVersion ∷ []
unfolding office_words orders clap_on_literals
version = refl

version_for_short : wrong_with (codes "DB" ∷ codes "-V" ∷ []) ≡ DisplayVersion ∷ []
unfolding office_words orders clap_on_literals
version_for_short = refl

no_words : wrong_with (codes "DB" ∷ []) ≡ DisplayHelpOnMissingArgumentOrSubcommand ∷ []
unfolding office_words orders clap_on_literals
no_words = refl

no_such_order : wrong_with (codes "DB" ∷ codes "wrad" ∷ codes "7" ∷ []) ≡ UnknownArgument ∷ InvalidSubcommand ∷ []
unfolding office_words orders clap_on_literals
no_such_order = refl

a_word_too_few : wrong_with (codes "DB" ∷ codes "close" ∷ codes "7" ∷ []) ≡ MissingRequiredArgument ∷ []
unfolding office_words orders clap_on_literals
a_word_too_few = refl

a_number_past_its_range : wrong_with (codes "DB" ∷ codes "serve" ∷ codes "65536" ∷ codes "1" ∷ []) ≡ ValueValidation ∷ []
unfolding office_words orders clap_on_literals
a_number_past_its_range = refl

no_connections : wrong_with (codes "DB" ∷ codes "serve" ∷ codes "8080" ∷ codes "0" ∷ []) ≡ ValueValidation ∷ []
unfolding office_words orders clap_on_literals
no_connections = refl

connections_left_out : wrong_with (codes "DB" ∷ codes "serve" ∷ codes "8080" ∷ []) ≡ []
unfolding office_words orders clap_on_literals
connections_left_out = refl

-- Words that the office's command accepts name one of its orders.
use Rattle.std.proofs.Common.{◌≡◌, ◌∙◌, Bool, List, Option, Some, None, [], ◌∷◌, true, false, refl, sym, ap}
use Rattle.std.specs.Prelude.{Box, find, is_some, option_map}
use Rattle.std.specs.Box.{box_value}
use Rattle.std.specs.List.{list_all}
use Rattle.clap.specs.Words.{App, HasMatchesOf, IsParsedFrom, Row, Shape, Text, app_of, found_of, rows_of, has_subcommand, is_simple, built, subcommand_of, subcommand_rows, subcommand_rows_of}
use Rattle.clap.specs.Matches.{subcommand_name_of}
use Rattle.clap.specs.Simple.{argument_words, entered, label_of, names_of, rows_at}
use Rattle.clap.specs.Walk.{answers_to, stop_after}
use Rattle.clap.specs.declared.builder.command.Command.{Command}
use Rattle.clap.specs.declared.builder.command.Command.TheViews.{out-Command}
use Rattle.clap.specs.declared.parser.matches.ArgMatches.{ArgMatches}
use Rattle.clap.specs.declared.parser.matches.ArgMatches.TheViews.{out-ArgMatches, out-SubCommand}
use Rattle.clap.specs.declared.parser.matches.SubCommand.{SubCommand}
use Rattle.clap.proofs.OnLiterals.{clap_on_literals}
use Rattle.clap.proofs.CallerLemmas.{subcommand_required}
use Rattle.clap.proofs.WalkLemmas.{both}
use Rattle.desk.specs.Orders.{orders}
use Rattle.desk.specs.Words.{is_order_name, names_order, office_words}

office_is_simple : is_simple office_words ≡ true
unfolding office_words orders clap_on_literals
office_is_simple = refl

subcommands_are_orders : list_all (λ (s : Shape). is_order_name s.name) (built office_words).subs ≡ true
unfolding office_words orders clap_on_literals
subcommands_are_orders = refl

an_order_is_required : office_words.top.subcommand_required ≡ true
unfolding office_words orders
an_order_is_required = refl

-- if all subcommands are orders, the one that is found is an order
found_is_order : (p : Shape → Bool) (w : List Text) (subs : List Shape) → list_all (λ (s : Shape). is_order_name s.name) subs ≡ true
    → is_some (find p subs) ≡ true → names_order (option_map (λ s. rows_at s w) (find p subs)) ≡ true
found_is_order p w [] all there = cc
found_is_order p w (s ∷ rest) all there = by (p s) refl (both (is_order_name s.name) _ all) (found_is_order p w rest)
  where
    by : (b : Bool) → p s ≡ b → (is_order_name s.name ≡ true) × (list_all (λ (s : Shape). is_order_name s.name) rest ≡ true)
        → (list_all (λ (s : Shape). is_order_name s.name) rest ≡ true → is_some (find p rest) ≡ true → names_order (option_map (λ s. rows_at s w) (find p rest)) ≡ true)
        → names_order (option_map (λ s. rows_at s w) (find p (s ∷ rest))) ≡ true
    by true e parts more = rw e parts.0
    by false e parts more = rw e (more parts.1 (rw e at there))

mapped_is_there : {X Y : Type 0} (f : X → Y) (o : Option X) → is_some (option_map f o) ≡ is_some o
mapped_is_there f None = refl
mapped_is_there f (Some x) = refl

entered_is_order : (stop : Option (Text × List Text)) → is_some (entered (built office_words) stop) ≡ true → names_order (entered (built office_words) stop) ≡ true
entered_is_order None there = cc
entered_is_order (Some p) there = found_is_order (λ s. answers_to p.0 (label_of s)) p.1 (built office_words).subs subcommands_are_orders
    (sym (mapped_is_there (λ s. rows_at s p.1) _) ∙ there)

-- the matched subcommand is the one that the specification finds in the words
pub matches_are_the_words : (c : Command) (m : ArgMatches) (words : List Text) → app_of c ≡ office_words → HasMatchesOf (app_of c) words m
    → subcommand_rows_of m ≡ subcommand_of office_words words
matches_are_the_words c m words app has = (has (ap is_simple app ∙ office_is_simple)).1 ∙ ap (λ a. subcommand_of a words) app

rows_are_there : (m : ArgMatches) → has_subcommand m ≡ true → is_some (subcommand_rows_of m) ≡ true
rows_are_there m e = by (out-ArgMatches m).subcommand e
  where
    by : {Z : Type 0} (o : Option (Box SubCommand Z)) → is_some o ≡ true → is_some (subcommand_rows o) ≡ true
    by None h = cc
    by (Some b) h = refl

pub matches_name_an_order : (c : Command) (m : ArgMatches) (words : List Text) → app_of c ≡ office_words → (out-Command c).has_globals ≡ false
    → HasMatchesOf (app_of c) words m → IsParsedFrom c m → names_order (subcommand_rows_of m) ≡ true
matches_name_an_order c m words app local has parsed =
    let same = matches_are_the_words c m words app has in
    let needs : (out-Command c).subcommand_required ≡ true = ap (λ (a : App). a.top.subcommand_required) app ∙ an_order_is_required in
    let there = rows_are_there m (subcommand_required c m parsed local needs) in
    ap names_order same ∙ entered_is_order (stop_after (built office_words).top.rules (names_of (built office_words)) (argument_words office_words words)) (ap is_some (sym same) ∙ there)

both_given : {B : Type 0} (f : B → Text) (h : B → List Row) (o : Option B) (name : Text) (rows : List Row) → Some name ≡ option_map f o
    → Some rows ≡ option_map (λ (p : Text × List Row). p.1) (option_map {U = Text × List Row} (λ b. (f b, h b)) o)
    → option_map {U = Text × List Row} (λ b. (f b, h b)) o ≡ Some (name, rows)
both_given f h None name rows a b = absurd (cc a)
both_given f h (Some x) name rows a b = cc

-- the name and rows of the matched subcommand
pub rows_given : (name : Text) (rows : List Row) (m : ArgMatches) → Some name ≡ subcommand_name_of m → Some rows ≡ option_map (λ (p : Text × List Row). p.1) (subcommand_rows_of m)
    → subcommand_rows_of m ≡ Some (name, rows)
rows_given name rows m a b = both_given (λ x. (out-SubCommand (box_value x)).name.now) (λ x. rows_of (found_of (out-SubCommand (box_value x)).matches)) (out-ArgMatches m).subcommand name rows a b

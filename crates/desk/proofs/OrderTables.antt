-- The concatenation of two tables of orders is the table of all orders.
use Rattle.std.proofs.Common.{◌≡◌, ◌∙◌, ◌++◌, ◌∷◌, [], ℕ, List, Result, Ok, Err, map, take, drop, refl, sym, ap}
use Rattle.std.specs.Prelude.{IfOk}
use Rattle.std.proofs.lemmas.List.{map-append, take-append-drop}
use Rattle.clap.specs.Words.{App, app_of, with_subcommand}
use Rattle.clap.specs.declared.builder.command.Command.{Command}
use Rattle.desk.specs.Orders.{OrderEntry, OrderWords, orders}
use Rattle.desk.specs.Words.{office_words, order_words, start_words, with_orders}

orders_behind : (app : App) (xs ys : List OrderWords) → with_orders app (xs ++ ys) ≡ with_orders (with_orders app xs) ys
orders_behind app [] ys = refl
orders_behind app (x ∷ xs) ys = orders_behind (with_subcommand app (order_words x).top) xs ys

-- the first n orders and the remaining ones make up all orders
parts_are_all : (n : ℕ) (all : List OrderEntry) → map (λ (e : OrderEntry). e.typed) (take n all) ++ map (λ (e : OrderEntry). e.typed) (drop n all) ≡ map (λ (e : OrderEntry). e.typed) all
parts_are_all n all = sym (map-append (λ (e : OrderEntry). e.typed) (take n all) (drop n all)) ∙ ap (map (λ (e : OrderEntry). e.typed)) (take-append-drop n all)

-- a command with the first n orders and the remaining ones added has all orders
pub has_all : {E : Type 0} (r : Result Command E) (app : App) (n : ℕ) (front back : List OrderWords) → front ≡ map (λ (e : OrderEntry). e.typed) (take n orders)
    → back ≡ map (λ (e : OrderEntry). e.typed) (drop n orders)
    → app ≡ with_orders start_words front → IfOk r (λ c. app_of c ≡ with_orders app back) → IfOk r (λ c. app_of c ≡ office_words)
unfolding office_words
has_all (Ok c) app n front back front_is back_is one two =
    two ∙ (ap (λ (a : App). with_orders a back) one ∙ (sym (orders_behind start_words front back)
    ∙ ap (with_orders start_words) (ap (λ (xs : List OrderWords). xs ++ back) front_is ∙
    (ap (λ (ys : List OrderWords). map (λ (e : OrderEntry). e.typed) (take n orders) ++ ys) back_is ∙ parts_are_all n orders))))
has_all (Err e) app n front back front_is back_is one two = tt

-- What a target names: the route found is one of ours, and the values of its parameters are valid text.
use Rattle.std.proofs.Common.{◌≡◌, ◌∙◌, ◌-◌, ◌==◌, ◌&&◌, zero, suc, ℕ, Bool, true, false, cond, List, [], ◌∷◌, Option, Some, None, drop, leb, length, ltb, refl, subst, sym, ap, take}
use Rattle.std.specs.Prelude.{IfSome, ⊤}
use Rattle.std.specs.Char.{is_ascii}
use Rattle.std.specs.List.{list_all}
use Rattle.std.specs.Str.{IsAscii}
use Rattle.std.proofs.lemmas.Bool.{and_parts, lt-ltb, ltb-true}
use Rattle.std.proofs.lemmas.Str.{IsAscii-drop, IsAscii-take, IsUtf8-from_ascii}
use Rattle.std.proofs.lemmas.Str.Ascii.{IsAscii-cons, IsAscii-nil}
use Rattle.matchit.specs.Params.{AllText, part_of, walk}
use Rattle.matchit.specs.Router.{RouteOf}
use Rattle.matchit.specs.Rows.{RowsOf, param_token, catch_all_token}
use Rattle.matchit.specs.Seek.{first, has_slash, longest_suffix, or_else, own, param_step, same_text, seek, segment, step, with_suffix}
use Rattle.matchit.proofs.OnLiterals.{matchit_on_literals}
use Rattle.wire.specs.Targets.{named_at, routed_by, office_routes}
use Rattle.wire.specs.declared.target.RouteTarget.{RouteTarget}

-- ---- the route found belongs to one of the rows

-- the route of each row satisfies the given predicate
abbrev pub AllRoutes : {K : Type 0} → (K → Type 0) → RowsOf K → Type 0
AllRoutes P [] = ⊤
AllRoutes P ((t, key) ∷ others) = P key × AllRoutes P others

module _ {K : Type 0} (P : K → Type 0) where
  own-kind : (rows : RowsOf K) → AllRoutes P rows → IfSome (own rows) P
  own-kind [] all = tt
  own-kind (([], key) ∷ others) all = all.0
  own-kind ((x ∷ t, key) ∷ others) all = own-kind others all.1

  kept_or_not : (b : Bool) (row : List ℕ × K) (rows : RowsOf K) → P row.1 → AllRoutes P rows → AllRoutes P (cond b (row ∷ rows) rows)
  kept_or_not true row rows one all = (one, all)
  kept_or_not false row rows one all = all

  step-kind : (b : ℕ) (rows : RowsOf K) → AllRoutes P rows → AllRoutes P (step b rows)
  step-kind b [] all = tt
  step-kind b (([], key) ∷ others) all = step-kind b others all.1
  step-kind b ((x ∷ t, key) ∷ others) all = kept_or_not (x == b) (t, key) (step b others) all.0 (step-kind b others all.1)

  with_suffix-kind : (suffix : List ℕ) (rows : RowsOf K) → AllRoutes P rows → AllRoutes P (with_suffix suffix rows)
  with_suffix-kind suffix [] all = tt
  with_suffix-kind suffix ((t, key) ∷ others) all = kept_or_not (same_text (segment t) suffix) (t, key) (with_suffix suffix others) all.0 (with_suffix-kind suffix others all.1)

  one_of_three : (b c : Bool) (m n : ℕ) (x y : RowsOf K) → AllRoutes P x → AllRoutes P y → AllRoutes P (cond {A = ℕ × RowsOf K} b (m, x) (cond {A = ℕ × RowsOf K} c (0, []) (n, y))).1
  one_of_three true c m n x y one two = one
  one_of_three false true m n x y one two = tt
  one_of_three false false m n x y one two = two

  param_step-kind : (rows : RowsOf K) (path : List ℕ) → AllRoutes P rows → AllRoutes P (param_step rows path).1
  unfolding param_step
  param_step-kind rows path all =
      one_of_three (ltb 0 (length (longest_suffix (segment path) rows))) (has_slash path) _ _ _ rows (with_suffix-kind (longest_suffix (segment path) rows) rows all) all

  pub or_else-kind : (one other : Option K) → IfSome one P → IfSome other P → IfSome (or_else one other) P
  or_else-kind None other a b = b
  or_else-kind (Some key) other a b = a

  pub seek-kind : (skip : ℕ) (rows : RowsOf K) (path : List ℕ) → AllRoutes P rows → IfSome (seek skip rows path) P
  unfolding seek
  seek-kind zero rows [] all = own-kind rows all
  seek-kind (suc skip) rows [] all = own-kind rows all
  seek-kind (suc skip) rows (b ∷ path) all = seek-kind skip rows path all
  seek-kind zero rows (b ∷ path) all =
      or_else-kind _ _ (seek-kind 0 (step b rows) path (step-kind b rows all))
      (or_else-kind _ _
      (seek-kind _ (param_step (step param_token rows) (b ∷ path)).1 path (param_step-kind (step param_token rows) (b ∷ path) (step-kind param_token rows all)))
      (own-kind (step catch_all_token rows) (step-kind catch_all_token rows all)))

-- ---- the values of its parameters are valid text

pub ascii_told : (bs : List ℕ) → IsAscii bs → list_all is_ascii bs ≡ true
ascii_told [] all = refl
ascii_told (b ∷ bs) all = rw (lt-ltb b 128 (all 0)) (ascii_told bs (λ i. all (suc i)))

pub IsAscii-told : (bs : List ℕ) → list_all is_ascii bs ≡ true → IsAscii bs
IsAscii-told [] told = IsAscii-nil
IsAscii-told (b ∷ bs) told =
    let both = and_parts (is_ascii b) (list_all is_ascii bs) told in
    IsAscii-cons b bs (ltb-true b 128 both.0) (IsAscii-told bs both.1)

IsAscii-part : (bytes : List ℕ) (start end : ℕ) → IsAscii bytes → IsAscii (part_of bytes start end)
IsAscii-part bytes start end all = either (leb start end && leb end (length bytes))
  where
    either : (b : Bool) → IsAscii (cond b (take (end - start) (drop start bytes)) [])
    either true = IsAscii-take (drop start bytes) (end - start) (IsAscii-drop bytes start all)
    either false = IsAscii-nil

pub walk-text : (pattern text path : List ℕ) (names : List (ℕ × ℕ)) (token at : ℕ) → IsAscii text → IsAscii path → AllText (walk pattern text path names token at)
walk-text pattern text path [] token at own_text own_path = tt
walk-text pattern text path (name ∷ names) token at own_text own_path = (
  IsUtf8-from_ascii _ (IsAscii-part text name.0 name.1 own_text),
  IsUtf8-from_ascii _ (IsAscii-part path _ _ own_path),
  walk-text pattern text path names _ _ own_text own_path,
)

-- a route whose own text is ASCII
abbrev pub HasAsciiText : RouteOf RouteTarget → Type 0
HasAsciiText route = list_all is_ascii route.text ≡ true

pub office_routes-ascii : AllRoutes HasAsciiText office_routes
unfolding matchit_on_literals
office_routes-ascii = (refl, (refl, (refl, (refl, (refl, (refl, (refl, (refl, tt))))))))

-- the parameter values for the route found
pub taken-text : (target : List ℕ) (route : RouteOf RouteTarget) → IsAscii target → first office_routes target ≡ Some route → AllText (walk route.pattern route.text target route.names 0 0)
taken-text target route own_target found =
    let text : HasAsciiText route = subst (λ o. IfSome o HasAsciiText) found (seek-kind HasAsciiText 0 office_routes target office_routes-ascii) in
    walk-text route.pattern route.text target route.names 0 0 (IsAscii-told route.text text) own_target

-- what a target names according to the route that was found
pub routed_by-found : (target : List ℕ) (route : RouteOf RouteTarget) → IsAscii target → first office_routes target ≡ Some route
    → routed_by target ≡ named_at route.value (walk route.pattern route.text target route.names 0 0)
routed_by-found target route own_target found = rw (ascii_told target own_target, found) refl

-- what our routes find: the text of the parameters, and what the target names
pub route-found : (routes : RowsOf (RouteOf RouteTarget)) (target text path : List ℕ) (route : RouteOf RouteTarget) → IsAscii target → text ≡ target → path ≡ text → routes ≡ office_routes
    → first routes text ≡ Some route
    → AllText (walk route.pattern route.text path route.names 0 0) × (routed_by target ≡ named_at route.value (walk route.pattern route.text path route.names 0 0))
route-found routes target text path route own_target same there ours found =
    let own_found : first office_routes target ≡ Some route = ap (λ r. first r target) (sym ours) ∙ ap (first routes) (sym same) ∙ found in
    let own_path : target ≡ path = sym same ∙ sym there in (
      subst (λ p. AllText (walk route.pattern route.text p route.names 0 0)) own_path (taken-text target route own_target own_found),
      routed_by-found target route own_target own_found ∙ ap (λ p. named_at route.value (walk route.pattern route.text p route.names 0 0)) own_path,
    )

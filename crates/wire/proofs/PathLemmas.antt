-- A target names something if and only if the target is its path.
use Rattle.std.proofs.Common.{◌≡◌, ◌∙◌, ◌-◌, ◌+◌, ℕ, Bool, true, false, List, [], ◌∷◌, ◌++◌, Option, Some, None, append_assoc, codes, drop, length, ltb, refl, subst, sym, ap, arith}
use Rattle.std.specs.Prelude.{IfSome, bytes_eq, if◌then◌else◌, option_and_then, option_map}
use Rattle.std.specs.Char.{is_ascii}
use Rattle.std.specs.List.{list_all}
use Rattle.std.proofs.lemmas.Bool.{ne_eqb}
use Rattle.std.proofs.lemmas.List.{length-append}
use Rattle.std.proofs.lemmas.List.Folds.{list_all-append}
use Rattle.std.proofs.lemmas.Slice.Eq.{bytes_eq-Decides}
use Rattle.matchit.specs.Params.{part_of, walk, wild_stop}
use Rattle.matchit.specs.Router.{RouteOf}
use Rattle.matchit.specs.Rows.{RowsOf, param_token}
use Rattle.matchit.specs.Seek.{first, segment, step}
use Rattle.matchit.specs.Route.{scan}
use Rattle.wire.proofs.OfficeTargetLemmas.{read-named, read-own}
use Rattle.wire.proofs.PublicTargetLemmas.{declaration-routed, public-named, public-own, sheet-routed}
use Rattle.wire.proofs.RowLemmas.{Fits, Gives, GoBySlash, HasNoSlash, seek-end, seek-gives, seek-part, seek-word, steps}
use Rattle.wire.specs.Numbers.{number_in}
use Rattle.wire.specs.OfficeTargets.{read_by}
use Rattle.wire.specs.PublicTargets.{public_by}
use Rattle.wire.specs.Targets.{IsTargetOf, NamesOnlyItsPath, named_at, named_by, named_in, office_by, office_path, office_routes, public_or_routed, read_or_other, routed_by}
use Rattle.wire.specs.declared.office_read.OfficeRead.{OfficeRead}
use Rattle.wire.specs.declared.public_target.PublicTarget.{PublicTarget}
use Rattle.wire.specs.declared.target.OfficeTarget.{OfficeTarget}
use Rattle.wire.specs.declared.target.OfficeTarget.TheVariants as office
use Rattle.wire.specs.declared.target.RouteTarget.{RouteTarget}
use Rattle.wire.specs.declared.target.RouteTarget.TheVariants as place
use Rattle.wire.specs.declared.target.Resource.TheVariants.{Candidates, Declaration, Keyed, Office as Reads, Sheet, Work}
use Rattle.wire.specs.declared.target.Target.{Target}
use Rattle.wire.specs.declared.target.Target.TheVariants.{Keying, Leave, Office, Page, Public, Resource}
use Rattle.wire.proofs.PartLemmas.{IsNumeric, numeric, one-part, one-taken, two-parts, walk-part, with_taken}

-- ---- a target of one of the routes names something

-- a route with one parameter leads to a place, and names it by the number in the parameter
pub record OneRoute : Type 0 where
  pub word : List ℕ
  pub rest : List ℕ
  pub text : List ℕ
  pub name : ℕ × ℕ
  pub to : RouteTarget
  pub kind : ℕ → Target

-- the path of a route, given the text of its parameter
abbrev path_of : OneRoute → List ℕ → List ℕ
path_of r part = r.word ++ (part ++ (47 ∷ r.rest))

abbrev route_of_one : OneRoute → RouteOf RouteTarget
route_of_one r = record { pattern = r.word ++ (param_token ∷ (47 ∷ r.rest)); text = r.text; names = r.name ∷ []; value = r.to }

-- what is computed for such a route
pub record IsOneRoute (r : OneRoute) : Type 0 where
  pub word_bytes : list_all (λ x. ltb x param_token) r.word ≡ true
  pub rest_bytes : list_all (λ x. ltb x param_token) (47 ∷ r.rest) ≡ true
  pub word_low : list_all is_ascii r.word ≡ true
  pub rest_low : list_all is_ascii (47 ∷ r.rest) ≡ true
  pub stops : (path : List ℕ) (from : ℕ) → wild_stop (r.word ++ (param_token ∷ (47 ∷ r.rest))) (length r.word) path from ≡ from + length (segment (drop from path)) - 1
  pub names : (part : List ℕ) → named_at r.to (with_taken (part_of r.text r.name.0 r.name.1) part []) ≡ option_map r.kind (number_in part)
  pub own : (target part : List ℕ) (n : ℕ) → target ≡ path_of r part → number_in part ≡ Some n → IsTargetOf (r.kind n) target

-- whatever a route names for a target has that target as its path
abbrev NamesOwn : List ℕ → RouteOf RouteTarget → Type 0
NamesOwn target route = (there : Target) → named_at route.value (walk route.pattern route.text target route.names 0 0) ≡ Some there → IsTargetOf there target

read-back : (target part : List ℕ) (kind : ℕ → Target) (there : Target) → ((n : ℕ) → number_in part ≡ Some n → IsTargetOf (kind n) target) → option_map kind (number_in part) ≡ Some there
    → IsTargetOf there target
read-back target part kind there own named = by (number_in part) refl named
  where
    by : (o : Option ℕ) → number_in part ≡ o → option_map kind o ≡ Some there → IsTargetOf there target
    by None is named = let no : ⊥ = cc in absurd no
    by (Some n) is named = let same : kind n ≡ there = cc in subst (λ t. IsTargetOf t target) same (own n is)

one-own : (r : OneRoute) → IsOneRoute r → (target : List ℕ) → Fits (r.word ++ (param_token ∷ (47 ∷ r.rest))) target → NamesOwn target (route_of_one r)
one-own r is target fits = λ there named.
    let path = one-part r.word (47 ∷ r.rest) target is.word_bytes is.rest_bytes fits in
    let taken = one-taken r.word r.rest r.text target path.part r.name is.word_bytes path.is path.whole (is.stops target) in
    read-back target path.part r.kind there (λ n own. is.own target path.part n path.is own) (sym (is.names path.part) ∙ sym (ap (named_at r.to) taken) ∙ named)

low-path : (word part end : List ℕ) → list_all is_ascii word ≡ true → list_all is_ascii part ≡ true → list_all is_ascii end ≡ true → list_all is_ascii (word ++ (part ++ end)) ≡ true
low-path word part end one two three = list_all-append is_ascii word (part ++ end) ∙ rw (one, list_all-append is_ascii part end, two, three) refl

named-found : (target : List ℕ) (route : RouteOf RouteTarget) → list_all is_ascii target ≡ true → first office_routes target ≡ Some route
    → routed_by target ≡ named_at route.value (walk route.pattern route.text target route.names 0 0)
named-found target route low found = rw (low, found) refl

one-named : (r : OneRoute) → IsOneRoute r → (part : List ℕ) (n : ℕ) → number_in part ≡ Some n → first office_routes (path_of r part) ≡ Some (route_of_one r)
    → routed_by (path_of r part) ≡ Some (r.kind n)
one-named r is part n own found =
    let numbered = numeric part n own in
    named-found (path_of r part) (route_of_one r) (low-path r.word part (47 ∷ r.rest) is.word_low numbered.low is.rest_low) found
    ∙ ap (named_at r.to) (one-taken r.word r.rest r.text (path_of r part) part r.name is.word_bytes refl numbered.whole (is.stops (path_of r part)))
    ∙ is.names part ∙ ap (option_map r.kind) own

-- ---- our routes

work : OneRoute
work = record { word = codes "/clerks/"; rest = codes "work"; text = codes "/clerks/{c}/work"; name = (9, 10); to = place.Work; kind = λ n. Resource (Work n) }

page : OneRoute
page = record { word = codes "/clerks/"; rest = []; text = codes "/clerks/{c}/"; name = (9, 10); to = place.Page; kind = λ n. Page n }

leaving : OneRoute
leaving = record { word = codes "/clerks/"; rest = codes "leave"; text = codes "/clerks/{c}/leave"; name = (9, 10); to = place.Leave; kind = λ n. Leave n }

sheet : OneRoute
sheet = record { word = codes "/wards/"; rest = codes "sheet"; text = codes "/wards/{w}/sheet"; name = (8, 9); to = place.Sheet; kind = λ n. Resource (Sheet n) }

declaration : OneRoute
declaration = record { word = codes "/wards/"; rest = codes "result"; text = codes "/wards/{w}/result"; name = (8, 9); to = place.Declaration; kind = λ n. Resource (Declaration n) }

is-work : IsOneRoute work
unfolding work
is-work = record { word_bytes = refl; rest_bytes = refl; word_low = refl; rest_low = refl; stops = λ path from. refl; names = λ part. refl; own = λ target part n is own. (part, is, own) }

is-page : IsOneRoute page
unfolding page
is-page = record { word_bytes = refl; rest_bytes = refl; word_low = refl; rest_low = refl; stops = λ path from. refl; names = λ part. refl; own = λ target part n is own. (part, is, own) }

is-leaving : IsOneRoute leaving
unfolding leaving
is-leaving = record { word_bytes = refl; rest_bytes = refl; word_low = refl; rest_low = refl; stops = λ path from. refl; names = λ part. refl; own = λ target part n is own. (part, is, own) }

is-sheet : IsOneRoute sheet
unfolding sheet
is-sheet = record { word_bytes = refl; rest_bytes = refl; word_low = refl; rest_low = refl; stops = λ path from. refl; names = λ part. refl; own = λ target part n is own. (part, is, own) }

is-declaration : IsOneRoute declaration
unfolding declaration
is-declaration = record { word_bytes = refl; rest_bytes = refl; word_low = refl; rest_low = refl; stops = λ path from. refl; names = λ part. refl; own = λ target part n is own. (part, is, own) }

-- ---- the routes with two parameters: a keying, the candidates, and an earlier keying

-- a route with two parameters: what follows its final slash, its text, where it leads, and what it names given two numbers
pub record TwoRoute : Type 0 where
  pub end : List ℕ
  pub text : List ℕ
  pub to : RouteTarget
  pub kind : ℕ → ℕ → Target

abbrev pattern_of : TwoRoute → List ℕ
pattern_of r = codes "/clerks/" ++ (param_token ∷ (codes "/batches/" ++ (param_token ∷ (47 ∷ r.end))))

abbrev two_path : TwoRoute → List ℕ → List ℕ → List ℕ
two_path r c b = codes "/clerks/" ++ (c ++ (codes "/batches/" ++ (b ++ (47 ∷ r.end))))

abbrev route_of_two : TwoRoute → RouteOf RouteTarget
route_of_two r = record { pattern = pattern_of r; text = r.text; names = (9, 10) ∷ (21, 22) ∷ []; value = r.to }

-- what two numbers name
abbrev pub kind_by : TwoRoute → Option ℕ → Option ℕ → Option Target
kind_by r clerk batch = option_and_then (λ c. option_map (λ b. r.kind c b) batch) clerk

-- what is computed for such a route
pub record IsTwoRoute (r : TwoRoute) : Type 0 where
  pub end_bytes : list_all (λ x. ltb x param_token) (47 ∷ r.end) ≡ true
  pub end_low : list_all is_ascii (47 ∷ r.end) ≡ true
  pub clerk : part_of r.text 9 10 ≡ codes "c"
  pub batch : part_of r.text 21 22 ≡ codes "b"
  pub stops_one : (path : List ℕ) (from : ℕ) → wild_stop (pattern_of r) 8 path from ≡ from + length (segment (drop from path)) - 1
  pub stops_two : (path : List ℕ) (from : ℕ) → wild_stop (pattern_of r) 18 path from ≡ from + length (segment (drop from path)) - 1
  pub names : (c b : List ℕ) → named_at r.to (with_taken (codes "c") c (with_taken (codes "b") b [])) ≡ kind_by r (number_in c) (number_in b)
  pub own : (target c b : List ℕ) (clerk batch : ℕ) → target ≡ two_path r c b → number_in c ≡ Some clerk → number_in b ≡ Some batch → IsTargetOf (r.kind clerk batch) target

two-taken : (r : TwoRoute) → IsTwoRoute r → (target c b : List ℕ) → target ≡ two_path r c b → HasNoSlash c → HasNoSlash b
    → walk (pattern_of r) r.text target ((9, 10) ∷ (21, 22) ∷ []) 0 0 ≡ with_taken (codes "c") c (with_taken (codes "b") b [])
two-taken r is target c b at c_whole b_whole =
    walk-part (pattern_of r) r.text target (9, 10) ((21, 22) ∷ []) (codes "/clerks/") (codes "/batches/" ++ (param_token ∷ (47 ∷ r.end))) [] c
    (codes "batches/" ++ (b ++ (47 ∷ r.end))) 0 0 refl refl refl at c_whole (is.stops_one target)
    ∙ ap (λ n. with_taken n c (walk (pattern_of r) r.text target ((21, 22) ∷ []) 9 (8 + length c))) is.clerk
    ∙ ap (with_taken (codes "c") c)
    (walk-part (pattern_of r) r.text target (21, 22) [] (codes "/batches/") (47 ∷ r.end) (codes "/clerks/" ++ c) b r.end 9 (8 + length c)
    (sym (length-append (codes "/clerks/") c)) refl refl (at ∙ sym (append_assoc (codes "/clerks/") c (codes "/batches/" ++ (b ++ (47 ∷ r.end))))) b_whole (is.stops_two target)
    ∙ ap (λ n. with_taken n b []) is.batch)

two-own : (r : TwoRoute) → IsTwoRoute r → (target : List ℕ) → Fits (pattern_of r) target → NamesOwn target (route_of_two r)
two-own r is target fits = λ there named.
    let path = two-parts (codes "/clerks/") (codes "/batches/") (47 ∷ r.end) target refl refl is.end_bytes fits in
    let taken = two-taken r is target path.one path.two path.is path.one_whole path.two_whole in
    by there path.one path.two path.is (number_in path.one) (number_in path.two) refl refl (sym (is.names path.one path.two) ∙ sym (ap (named_at r.to) taken) ∙ named)
  where
    by : (there : Target) (c b : List ℕ) → target ≡ two_path r c b → (clerk batch : Option ℕ) → number_in c ≡ clerk → number_in b ≡ batch → kind_by r clerk batch ≡ Some there
        → IsTargetOf there target
    by there c b at None batch own other named = let no : ⊥ = cc in absurd no
    by there c b at (Some clerk) None own other named = let no : ⊥ = cc in absurd no
    by there c b at (Some clerk) (Some batch) own other named = let same : r.kind clerk batch ≡ there = cc in subst (λ t. IsTargetOf t target) same (is.own target c b clerk batch at own other)

keyings : TwoRoute
keyings = record { end = codes "keying"; text = codes "/clerks/{c}/batches/{b}/keying"; to = place.Keying; kind = λ c b. Keying c b }

candidates : TwoRoute
candidates = record { end = codes "candidates"; text = codes "/clerks/{c}/batches/{b}/candidates"; to = place.Candidates; kind = λ c b. Resource (Candidates c b) }

keyed : TwoRoute
keyed = record { end = codes "keyed"; text = codes "/clerks/{c}/batches/{b}/keyed"; to = place.Keyed; kind = λ c b. Resource (Keyed c b) }

is-keyings : IsTwoRoute keyings
unfolding keyings
is-keyings = record {
  end_bytes = refl;
  end_low = refl;
  clerk = refl;
  batch = refl;
  stops_one = λ path from. refl;
  stops_two = λ path from. refl;
  names = λ c b. refl;
  own = λ target c b clerk batch at own other. (c, b, at, own, other);
}

is-candidates : IsTwoRoute candidates
unfolding candidates
is-candidates = record {
  end_bytes = refl;
  end_low = refl;
  clerk = refl;
  batch = refl;
  stops_one = λ path from. refl;
  stops_two = λ path from. refl;
  names = λ c b. refl;
  own = λ target c b clerk batch at own other. (c, b, at, own, other);
}

is-keyed : IsTwoRoute keyed
unfolding keyed
is-keyed = record {
  end_bytes = refl;
  end_low = refl;
  clerk = refl;
  batch = refl;
  stops_one = λ path from. refl;
  stops_two = λ path from. refl;
  names = λ c b. refl;
  own = λ target c b clerk batch at own other. (c, b, at, own, other);
}

two-named : (r : TwoRoute) → IsTwoRoute r → (c b : List ℕ) (clerk batch : ℕ) → number_in c ≡ Some clerk → number_in b ≡ Some batch
    → first office_routes (two_path r c b) ≡ Some (route_of_two r) → routed_by (two_path r c b) ≡ Some (r.kind clerk batch)
two-named r is c b clerk batch own other found =
    let is_c = numeric c clerk own in
    let is_b = numeric b batch other in
    let low = low-path (codes "/clerks/") c (codes "/batches/" ++ (b ++ (47 ∷ r.end))) refl is_c.low (low-path (codes "/batches/") b (47 ∷ r.end) refl is_b.low is.end_low) in
    named-found (two_path r c b) (route_of_two r) low found
    ∙ ap (named_at r.to) (two-taken r is (two_path r c b) c b refl is_c.whole is_b.whole)
    ∙ is.names c b ∙ ap (λ n. kind_by r n (number_in b)) own ∙ ap (kind_by r (Some clerk)) other

-- ---- what the routes match

clerk_rows : RowsOf (RouteOf RouteTarget)
clerk_rows = steps (codes "/clerks/") office_routes

batch_rows : RowsOf (RouteOf RouteTarget)
batch_rows = steps (codes "/batches/") (step param_token clerk_rows)

ward_rows : RowsOf (RouteOf RouteTarget)
ward_rows = steps (codes "/wards/") office_routes

clerks-go : GoBySlash clerk_rows
unfolding clerk_rows scan
clerks-go = record { misses = λ d few. rw (ne_eqb 256 d (λ e. omega arith)) refl; cut = λ seg cut. rw cut refl; keeps = refl }

batches-go : GoBySlash batch_rows
unfolding batch_rows clerk_rows scan
batches-go = record { misses = λ d few. rw (ne_eqb 256 d (λ e. omega arith)) refl; cut = λ seg cut. rw cut refl; keeps = refl }

wards-go : GoBySlash ward_rows
unfolding ward_rows scan
wards-go = record { misses = λ d few. rw (ne_eqb 256 d (λ e. omega arith)) refl; cut = λ seg cut. rw cut refl; keeps = refl }

work-found : (part : List ℕ) → IsNumeric part → first office_routes (path_of work part) ≡ Some (route_of_one work)
unfolding work clerk_rows scan
work-found part is =
    seek-word (codes "/clerks/") office_routes (part ++ codes "/work") (route_of_one work)
    (seek-part clerk_rows part (codes "work") (route_of_one work) clerks-go is.some is.whole is.below
    (seek-word (codes "/work") (step param_token clerk_rows) [] (route_of_one work) (seek-end _ _ refl)))

sheet-found : (part : List ℕ) → IsNumeric part → first office_routes (path_of sheet part) ≡ Some (route_of_one sheet)
unfolding sheet ward_rows scan
sheet-found part is =
    seek-word (codes "/wards/") office_routes (part ++ codes "/sheet") (route_of_one sheet)
    (seek-part ward_rows part (codes "sheet") (route_of_one sheet) wards-go is.some is.whole is.below
    (seek-word (codes "/sheet") (step param_token ward_rows) [] (route_of_one sheet) (seek-end _ _ refl)))

declaration-found : (part : List ℕ) → IsNumeric part → first office_routes (path_of declaration part) ≡ Some (route_of_one declaration)
unfolding declaration ward_rows scan
declaration-found part is =
    seek-word (codes "/wards/") office_routes (part ++ codes "/result") (route_of_one declaration)
    (seek-part ward_rows part (codes "result") (route_of_one declaration) wards-go is.some is.whole is.below
    (seek-word (codes "/result") (step param_token ward_rows) [] (route_of_one declaration) (seek-end _ _ refl)))

page-found : (part : List ℕ) → IsNumeric part → first office_routes (path_of page part) ≡ Some (route_of_one page)
unfolding page clerk_rows scan
page-found part is =
    seek-word (codes "/clerks/") office_routes (part ++ codes "/") (route_of_one page)
    (seek-part clerk_rows part [] (route_of_one page) clerks-go is.some is.whole is.below
    (seek-word (codes "/") (step param_token clerk_rows) [] (route_of_one page) (seek-end _ _ refl)))

leaving-found : (part : List ℕ) → IsNumeric part → first office_routes (path_of leaving part) ≡ Some (route_of_one leaving)
unfolding leaving clerk_rows scan
leaving-found part is =
    seek-word (codes "/clerks/") office_routes (part ++ codes "/leave") (route_of_one leaving)
    (seek-part clerk_rows part (codes "leave") (route_of_one leaving) clerks-go is.some is.whole is.below
    (seek-word (codes "/leave") (step param_token clerk_rows) [] (route_of_one leaving) (seek-end _ _ refl)))

keyings-found : (c b : List ℕ) → IsNumeric c → IsNumeric b → first office_routes (two_path keyings c b) ≡ Some (route_of_two keyings)
unfolding keyings batch_rows clerk_rows scan
keyings-found c b is_c is_b =
    seek-word (codes "/clerks/") office_routes (c ++ (codes "/batches/" ++ (b ++ codes "/keying"))) (route_of_two keyings)
    (seek-part clerk_rows c (codes "batches/" ++ (b ++ codes "/keying")) (route_of_two keyings) clerks-go is_c.some is_c.whole is_c.below
    (seek-word (codes "/batches/") (step param_token clerk_rows) (b ++ codes "/keying") (route_of_two keyings)
    (seek-part batch_rows b (codes "keying") (route_of_two keyings) batches-go is_b.some is_b.whole is_b.below
    (seek-word (codes "/keying") (step param_token batch_rows) [] (route_of_two keyings) (seek-end _ _ refl)))))

candidates-found : (c b : List ℕ) → IsNumeric c → IsNumeric b → first office_routes (two_path candidates c b) ≡ Some (route_of_two candidates)
unfolding candidates batch_rows clerk_rows scan
candidates-found c b is_c is_b =
    seek-word (codes "/clerks/") office_routes (c ++ (codes "/batches/" ++ (b ++ codes "/candidates"))) (route_of_two candidates)
    (seek-part clerk_rows c (codes "batches/" ++ (b ++ codes "/candidates")) (route_of_two candidates) clerks-go is_c.some is_c.whole is_c.below
    (seek-word (codes "/batches/") (step param_token clerk_rows) (b ++ codes "/candidates") (route_of_two candidates)
    (seek-part batch_rows b (codes "candidates") (route_of_two candidates) batches-go is_b.some is_b.whole is_b.below
    (seek-word (codes "/candidates") (step param_token batch_rows) [] (route_of_two candidates) (seek-end _ _ refl)))))

keyed-found : (c b : List ℕ) → IsNumeric c → IsNumeric b → first office_routes (two_path keyed c b) ≡ Some (route_of_two keyed)
unfolding keyed batch_rows clerk_rows scan
keyed-found c b is_c is_b =
    seek-word (codes "/clerks/") office_routes (c ++ (codes "/batches/" ++ (b ++ codes "/keyed"))) (route_of_two keyed)
    (seek-part clerk_rows c (codes "batches/" ++ (b ++ codes "/keyed")) (route_of_two keyed) clerks-go is_c.some is_c.whole is_c.below
    (seek-word (codes "/batches/") (step param_token clerk_rows) (b ++ codes "/keyed") (route_of_two keyed)
    (seek-part batch_rows b (codes "keyed") (route_of_two keyed) batches-go is_b.some is_b.whole is_b.below
    (seek-word (codes "/keyed") (step param_token batch_rows) [] (route_of_two keyed) (seek-end _ _ refl)))))

-- ---- both directions

routes-own : (target : List ℕ) → Gives (NamesOwn target) office_routes target
unfolding keyings candidates keyed work page leaving sheet declaration scan
routes-own target = (
  two-own candidates is-candidates target,
  (
    two-own keyed is-keyed target,
    (
      two-own keyings is-keyings target,
      (
        one-own leaving is-leaving target,
        (one-own work is-work target, (one-own page is-page target, (one-own declaration is-declaration target, (one-own sheet is-sheet target, tt)))),
      ),
    ),
  ),
)

routed-own : (target : List ℕ) (there : Target) → routed_by target ≡ Some there → IsTargetOf there target
routed-own target there named = by (list_all is_ascii target) (first office_routes target) (seek-gives (NamesOwn target) 0 office_routes target (routes-own target)) named
  where
    by : (low : Bool) (found : Option (RouteOf RouteTarget)) → IfSome found (NamesOwn target)
        → option_and_then (λ (route : RouteOf RouteTarget). named_at route.value (walk route.pattern route.text target route.names 0 0)) (if low then found else None) ≡ Some there
        → IsTargetOf there target
    by false found own named = let no : ⊥ = cc in absurd no
    by true None own named = let no : ⊥ = cc in absurd no
    by true (Some route) own named = own there named

-- ---- the console

office-own : (target : List ℕ) (what : OfficeTarget) → office_by target ≡ Some what → target ≡ office_path what
office-own target what named = console (bytes_eq target (office_path office.ConsolePage)) refl named
  where
    orders : (b : Bool) → bytes_eq target (office_path office.Orders) ≡ b → (if b then Some office.Orders else None) ≡ Some what → target ≡ office_path what
    orders true same named =
        let one : office.Orders ≡ what = cc in
        (bytes_eq-Decides target (office_path office.Orders)).0 same ∙ ap office_path one
    orders false other named = let no : ⊥ = cc in absurd no

    leave : (b : Bool) → bytes_eq target (office_path office.Leave) ≡ b
        → (if b then Some office.Leave else (if bytes_eq target (office_path office.Orders) then Some office.Orders else None)) ≡ Some what → target ≡ office_path what
    leave true same named =
        let one : office.Leave ≡ what = cc in
        (bytes_eq-Decides target (office_path office.Leave)).0 same ∙ ap office_path one
    leave false other named = orders (bytes_eq target (office_path office.Orders)) refl named

    console : (b : Bool) → bytes_eq target (office_path office.ConsolePage) ≡ b
        → (if b then Some office.ConsolePage
        else (if bytes_eq target (office_path office.Leave) then Some office.Leave else (if bytes_eq target (office_path office.Orders) then Some office.Orders else None))) ≡ Some what
        → target ≡ office_path what
    console true same named =
        let one : office.ConsolePage ≡ what = cc in
        (bytes_eq-Decides target (office_path office.ConsolePage)).0 same ∙ ap office_path one
    console false other named = leave (bytes_eq target (office_path office.Leave)) refl named

-- ---- all of them

named-own : (target : List ℕ) (there : Target) → named_by target ≡ Some there → IsTargetOf there target
named-own target there named = by (office_by target) refl named
  where
    shown : (found : Option PublicTarget) → public_by target ≡ found → public_or_routed found target ≡ Some there → IsTargetOf there target
    shown None found named = routed-own target there named
    shown (Some what) found named =
        let same : Public what ≡ there = cc in
        subst (λ t. IsTargetOf t target) same (public-own target what found)

    read : (found : Option OfficeRead) → read_by target ≡ found → read_or_other found target ≡ Some there → IsTargetOf there target
    read None found named = shown (public_by target) refl named
    read (Some its) found named =
        let same : Resource (Reads its) ≡ there = cc in
        subst (λ t. IsTargetOf t target) same (read-own target its found)

    by : (found : Option OfficeTarget) → office_by target ≡ found → named_in found target ≡ Some there → IsTargetOf there target
    by None found named = read (read_by target) refl named
    by (Some what) found named =
        let same : Office what ≡ there = cc in
        subst (λ t. IsTargetOf t target) same (office-own target what found)

own-named : (target : List ℕ) (there : Target) → IsTargetOf there target → named_by target ≡ Some there
unfolding work page leaving sheet declaration keyings candidates keyed
own-named target (Page n) (part, is, own) = ap named_by is ∙ one-named page is-page part n own (page-found part (numeric part n own))
own-named target (Leave n) (part, is, own) = ap named_by is ∙ one-named leaving is-leaving part n own (leaving-found part (numeric part n own))
own-named target (Resource (Work n)) (part, is, own) = ap named_by is ∙ one-named work is-work part n own (work-found part (numeric part n own))
own-named target (Resource (Sheet n)) (part, is, own) =
    ap named_by is ∙ sheet-routed part n own ∙ one-named sheet is-sheet part n own (sheet-found part (numeric part n own))
own-named target (Resource (Declaration n)) (part, is, own) =
    ap named_by is ∙ declaration-routed part n own ∙ one-named declaration is-declaration part n own (declaration-found part (numeric part n own))
own-named target (Resource (Candidates clerk batch)) (c, b, is, own, other) =
    ap named_by is ∙ two-named candidates is-candidates c b clerk batch own other (candidates-found c b (numeric c clerk own) (numeric b batch other))
own-named target (Resource (Keyed clerk batch)) (c, b, is, own, other) =
    ap named_by is ∙ two-named keyed is-keyed c b clerk batch own other (keyed-found c b (numeric c clerk own) (numeric b batch other))
own-named target (Keying clerk batch) (c, b, is, own, other) =
    ap named_by is ∙ two-named keyings is-keyings c b clerk batch own other (keyings-found c b (numeric c clerk own) (numeric b batch other))
own-named target (Resource (Reads read)) is = read-named target read is
own-named target (Public what) is = public-named target what is
own-named target (Office office.ConsolePage) is = ap named_by is
own-named target (Office office.Leave) is = ap named_by is
own-named target (Office office.Orders) is = ap named_by is

pub NamesOnlyItsPath-all : (target : List ℕ) → NamesOnlyItsPath target
NamesOnlyItsPath-all target there = (named-own target there, own-named target there)

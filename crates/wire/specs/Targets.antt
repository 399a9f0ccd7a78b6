-- What the targets of requests name: eight routes that contain numbers, matched against the whole target as `matchit` does.
use Rattle.std.specs.Prelude.{◌≡◌, ◌↔◌, ◌++◌, List, [], Option, Some, None, Result, Ok, Err, bytes_eq, codes, if◌then◌else◌, option_and_then, option_map, ℕ}
use Rattle.std.specs.Char.{is_ascii}
use Rattle.std.specs.List.{list_all}
use Rattle.matchit.specs.Order.{placed}
use Rattle.matchit.specs.Params.{named, walk}
use Rattle.matchit.specs.Route.{Scan, parse_route}
use Rattle.matchit.specs.Router.{RouteOf, route_from}
use Rattle.matchit.specs.Rows.{RowsOf}
use Rattle.matchit.specs.Seek.{first}
use Rattle.matchit.specs.declared.error.InsertError.{InsertError}
use Rattle.matchit.specs.declared.params.Params.{Params}
use Rattle.wire.specs.Numbers.{number_in}
use Rattle.wire.specs.OfficeTargets.{IsReadTarget, read_by}
use Rattle.wire.specs.PublicTargets.{IsPublicTarget, public_by}
use Rattle.wire.specs.declared.office_read.OfficeRead.{OfficeRead}
use Rattle.wire.specs.declared.public_target.PublicTarget.{PublicTarget}
use Rattle.wire.specs.declared.target.OfficeTarget.{OfficeTarget}
use Rattle.wire.specs.declared.target.OfficeTarget.TheVariants as office
use Rattle.wire.specs.declared.target.RouteTarget.{RouteTarget}
use Rattle.wire.specs.declared.target.RouteTarget.TheVariants as place
use Rattle.wire.specs.declared.target.Resource.TheVariants.{Candidates, Declaration, Keyed, Office as Reads, Sheet, Work}
use Rattle.wire.specs.declared.target.Target.{Target}
use Rattle.wire.specs.declared.target.Target.TheVariants.{Keying, Leave, Office, Page, Public, Resource}

-- the routes, with another one added
abbrev pub with_scanned : Result Scan InsertError → RouteTarget → RowsOf (RouteOf RouteTarget) → RowsOf (RouteOf RouteTarget)
with_scanned (Ok scan) value routes = placed (scan.pattern, route_from scan value) routes
with_scanned (Err e) value routes = routes

abbrev pub with_route : List ℕ → RouteTarget → RowsOf (RouteOf RouteTarget) → RowsOf (RouteOf RouteTarget)
with_route text value routes = with_scanned (parse_route text) value routes

-- the eight routes
abbrev pub office_routes : RowsOf (RouteOf RouteTarget)
office_routes =
    with_route (codes "/wards/{w}/result") place.Declaration
    (with_route (codes "/wards/{w}/sheet") place.Sheet
    (with_route (codes "/clerks/{c}/leave") place.Leave
    (with_route (codes "/clerks/{c}/") place.Page
    (with_route (codes "/clerks/{c}/batches/{b}/keyed") place.Keyed
    (with_route (codes "/clerks/{c}/batches/{b}/candidates") place.Candidates
    (with_route (codes "/clerks/{c}/work") place.Work
    (with_route (codes "/clerks/{c}/batches/{b}/keying") place.Keying [])))))))

-- the parameters of a route in a target, with their names
abbrev pub Taken : Type 0
Taken = List (List ℕ × List ℕ)

abbrev pub taken_by : Params → Taken
taken_by params = walk params.pattern.now params.text.now params.path.now params.names.now 0 0

-- the number in the parameter with the given name
abbrev pub parameter : List ℕ → Taken → Option ℕ
parameter name taken = option_and_then number_in (named name taken)

-- what a target names, given its route and its parameters
abbrev pub named_at : RouteTarget → Taken → Option Target
named_at place.Keying taken =
    option_and_then (λ clerk. option_map (λ batch. Keying clerk batch) (parameter (codes "b") taken)) (parameter (codes "c") taken)
named_at place.Candidates taken =
    option_and_then (λ clerk. option_map (λ batch. Resource (Candidates clerk batch)) (parameter (codes "b") taken)) (parameter (codes "c") taken)
named_at place.Keyed taken =
    option_and_then (λ clerk. option_map (λ batch. Resource (Keyed clerk batch)) (parameter (codes "b") taken)) (parameter (codes "c") taken)
named_at place.Page taken = option_map (λ clerk. Page clerk) (parameter (codes "c") taken)
named_at place.Leave taken = option_map (λ clerk. Leave clerk) (parameter (codes "c") taken)
named_at place.Work taken = option_map (λ clerk. Resource (Work clerk)) (parameter (codes "c") taken)
named_at place.Sheet taken = option_map (λ ward. Resource (Sheet ward)) (parameter (codes "w") taken)
named_at place.Declaration taken = option_map (λ ward. Resource (Declaration ward)) (parameter (codes "w") taken)

-- the route of a target; the routes are ASCII, and so is any target that matches one
abbrev pub route_of : List ℕ → Option (RouteOf RouteTarget)
route_of target = if list_all is_ascii target then first office_routes target else None

-- what a target names according to its route
abbrev pub routed_by : List ℕ → Option Target
routed_by target = option_and_then (λ (route : RouteOf RouteTarget). named_at route.value (walk route.pattern route.text target route.names 0 0)) (route_of target)

-- the targets of the officer's console
abbrev pub office_path : OfficeTarget → List ℕ
office_path office.ConsolePage = codes "/office/"
office_path office.Leave = codes "/office/leave"
office_path office.Orders = codes "/office/orders"

-- the part of the console that a target names
abbrev pub office_by : List ℕ → Option OfficeTarget
office_by target =
    if bytes_eq target (office_path office.ConsolePage) then Some office.ConsolePage
    else (if bytes_eq target (office_path office.Leave) then Some office.Leave
    else (if bytes_eq target (office_path office.Orders) then Some office.Orders else None))

-- what a target outside the console names: what is shown in public, or what its route leads to
abbrev pub public_or_routed : Option PublicTarget → List ℕ → Option Target
public_or_routed (Some what) target = Some (Public what)
public_or_routed None target = routed_by target

-- what a target other than the console itself names: what the console reads, or what is outside the console
abbrev pub read_or_other : Option OfficeRead → List ℕ → Option Target
read_or_other (Some read) target = Some (Resource (Reads read))
read_or_other None target = public_or_routed (public_by target) target

-- what a target names
abbrev pub named_in : Option OfficeTarget → List ℕ → Option Target
named_in (Some place) target = Some (Office place)
named_in None target = read_or_other (read_by target) target

abbrev pub named_by : List ℕ → Option Target
named_by target = named_in (office_by target) target

-- ---- the targets in plain words

-- the target of something that is served: its path, with each number written in 1 to 5 digits, without leading zeros
abbrev pub IsTargetOf : Target → List ℕ → Type 0
IsTargetOf (Keying clerk batch) target =
    (c b : List ℕ) × (target ≡ codes "/clerks/" ++ (c ++ (codes "/batches/" ++ (b ++ codes "/keying")))) × (number_in c ≡ Some clerk) × (number_in b ≡ Some batch)
IsTargetOf (Resource (Candidates clerk batch)) target =
    (c b : List ℕ) × (target ≡ codes "/clerks/" ++ (c ++ (codes "/batches/" ++ (b ++ codes "/candidates")))) × (number_in c ≡ Some clerk) × (number_in b ≡ Some batch)
IsTargetOf (Resource (Keyed clerk batch)) target =
    (c b : List ℕ) × (target ≡ codes "/clerks/" ++ (c ++ (codes "/batches/" ++ (b ++ codes "/keyed")))) × (number_in c ≡ Some clerk) × (number_in b ≡ Some batch)
IsTargetOf (Page clerk) target = (c : List ℕ) × (target ≡ codes "/clerks/" ++ (c ++ codes "/")) × (number_in c ≡ Some clerk)
IsTargetOf (Leave clerk) target = (c : List ℕ) × (target ≡ codes "/clerks/" ++ (c ++ codes "/leave")) × (number_in c ≡ Some clerk)
IsTargetOf (Resource (Work clerk)) target = (c : List ℕ) × (target ≡ codes "/clerks/" ++ (c ++ codes "/work")) × (number_in c ≡ Some clerk)
IsTargetOf (Resource (Sheet ward)) target = (w : List ℕ) × (target ≡ codes "/wards/" ++ (w ++ codes "/sheet")) × (number_in w ≡ Some ward)
IsTargetOf (Office place) target = target ≡ office_path place
IsTargetOf (Public what) target = IsPublicTarget what target
IsTargetOf (Resource (Reads read)) target = IsReadTarget read target
IsTargetOf (Resource (Declaration ward)) target = (w : List ℕ) × (target ≡ codes "/wards/" ++ (w ++ codes "/result")) × (number_in w ≡ Some ward)

-- a target names something if and only if the target is its path, so no other target names it
abbrev pub NamesOnlyItsPath : List ℕ → Type 0
NamesOnlyItsPath target = (there : Target) → (named_by target ≡ Some there) ↔ IsTargetOf there target

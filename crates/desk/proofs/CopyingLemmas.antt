-- Copying the office.
use Rattle.std.proofs.Common.{◌≡◌, ◌⊎◌, inl, refl, ap, arith}
use Rattle.sqlite.specs.Effect.{Database}
use Rattle.sqlite.specs.State.{State, HasCleanDisk}
use Rattle.sqlite.specs.Tree.{Trees}
use Rattle.register.specs.Offices.{OfficeState}
use Rattle.tables.specs.declared.fault.Fault.TheVariants as fault
use Rattle.store.specs.Copies.{IsToldInCopying, IsUnbegun, StopsInCopying}
use Rattle.store.specs.declared.copying.CopyFault.{CopyFault}
use Rattle.store.specs.declared.copying.CopyFault.TheVariants.{Office, Taken, Copy}
use Rattle.tables.specs.Reading.{OnlyReads}
use Rattle.store.specs.StateTables.{IsAt, StoresState}
use Rattle.store.specs.Openings.{HoldsNoState, IsBlank}
use Rattle.desk.specs.Copying.{EndsCopying, HoldsCopy, IsNoneCopied, state_behind}
use Rattle.desk.specs.declared.copying.CopyState.{CopyState}
use Rattle.desk.specs.declared.copying.CopyState.TheVariants.{Whole, Untouched, Unknown}
use Rattle.desk.specs.Pages.{Page, failed, failure_of}

-- the reason why a copy of an existing office wasn't made is one of the allowed ones
pub ends_copying : (why : CopyFault) (old new : State) → StopsInCopying old new why → EndsCopying old new (failure_of why)
ends_copying (Office f) old new stops = stops
ends_copying Taken old new stops = absurd stops
ends_copying (Copy fault.Memory) old new stops = inl refl
ends_copying (Copy fault.Store) old new stops = tt
ends_copying (Copy fault.Damaged) old new stops = tt
ends_copying (Copy fault.Closed) old new stops = tt
ends_copying (Copy fault.WrongDatabase) old new stops = tt
ends_copying (Copy fault.NewerSchema) old new stops = tt
ends_copying (Copy fault.OlderSchema) old new stops = tt

-- if there is no office, the fault from opening is reported, and copying wasn't started
pub none_copied : (db : Database) (why : CopyFault) (old new : State) → HoldsNoState db → IsToldInCopying db old new why → IsNoneCopied db (failed (failure_of why)) (state_behind why) old new
none_copied db (Office f) old new none told = record { fault = f; told = refl; given = told.0; cause = told.1; untouched = refl }
none_copied db Taken old new none told = absurd told
none_copied db (Copy f) old new none told = absurd (none told.1.0 told.1.1)

-- what is reported about the other database is true
pub holds_behind : (why : CopyFault) (copy_old copy_new : State) → (IsUnbegun why → OnlyReads copy_old copy_new)
    → (HasCleanDisk copy_new → IsBlank copy_old → (trees : Trees) → copy_new.may_leave trees → copy_old.may_leave trees ⊎ ((s : OfficeState) × StoresState s trees))
    → HoldsCopy (state_behind why) (failed (failure_of why)) copy_old copy_new
holds_behind (Office f) copy_old copy_new untouched whole = (failure_of (Office f), refl, untouched tt)
holds_behind Taken copy_old copy_new untouched whole = (failure_of Taken, refl, untouched tt)
holds_behind (Copy f) copy_old copy_new untouched whole = (failure_of (Copy f), refl, whole)

-- if the other database is reported as untouched, copying wasn't started
pub unbegun_behind : (why : CopyFault) → state_behind why ≡ Untouched → IsUnbegun why
unbegun_behind (Office f) same = tt
unbegun_behind Taken same = tt
unbegun_behind (Copy f) same = absurd (cc same)

-- if the status is 0, the copy is complete
pub whole_told : (left : CopyState) (page : Page) (copy_old copy_new : State) → page.status ≡ 0 → HoldsCopy left page copy_old copy_new
    → (left ≡ Whole) × (HasCleanDisk copy_new → IsBlank copy_old → (s : OfficeState) × IsAt s copy_new)
whole_told Whole page copy_old copy_new zero it = (refl, λ honest blank. let made = it.2 honest blank in (made.0, made.2))
whole_told Untouched page copy_old copy_new zero it = let three : page.status ≡ 3 = ap (λ (p : Page). p.status) it.1 in absurd (omega arith)
whole_told Unknown page copy_old copy_new zero it = let three : page.status ≡ 3 = ap (λ (p : Page). p.status) it.1 in absurd (omega arith)

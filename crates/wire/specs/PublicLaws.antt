-- What can change what is shown in public: until a ward is sealed, nothing that is nominated, given out, keyed or judged in it.
use Rattle.std.specs.Prelude.{◌≡◌, List, false, true, ℕ}
use Rattle.std.specs.List.{All}
use Rattle.register.specs.Elections.{election_of, is_counted}
use Rattle.register.specs.Offices.{OfficeState}
use Rattle.register.specs.StateConditions.{IsState}
use Rattle.store.specs.Overviews.{ward_views}
use Rattle.wire.specs.Gates.{PublicEntry}
use Rattle.wire.specs.PublicReplies.{screen_data, screen_of, screen_ward_data}
use Rattle.wire.specs.Serving.{public_response}
use Rattle.wire.specs.declared.public_target.PublicTarget.{PublicTarget}

-- Two offices look alike in public: they have the same wards and, for each sealed ward, the same election.
pub record AreAlikeInPublic (s t : OfficeState) : Type 0 where
  pub wards : t.wards ≡ s.wards
  pub sealed : All (λ w. is_counted w.phase ≡ true → election_of t w ≡ election_of s w) s.wards

-- The law: both show the same things.
abbrev pub AlikeShowAlike : Type 0
AlikeShowAlike = (its : PublicEntry) (what : PublicTarget) (s t : OfficeState) → AreAlikeInPublic s t → public_response t its what ≡ public_response s its what

-- The law for the list of wards: it depends only on the table of wards, whatever has been counted.
abbrev pub RestsOnWards : List ℕ → Type 0
RestsOnWards title = (s : OfficeState) → screen_of title (ward_views s) ≡ screen_data title s.wards

-- The law for an unsealed ward: none of its stages has been counted, so the list has only its number, its name and its phase.
abbrev pub ListsUnsealed : Type 0
ListsUnsealed = (s : OfficeState) → IsState s → All (λ w. is_counted w.phase ≡ false → screen_ward_data w ≡ screen_ward_data (record w { done = 0 })) s.wards

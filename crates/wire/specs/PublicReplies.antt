-- What is shown in public: the list of wards for the screen in the hall, and the pages that orders print.
use Rattle.std.specs.Prelude.{List, Option, Some, None, Result, Ok, Err, codes, if◌then◌else◌, map, ℕ}
use Rattle.serde_json.specs.Data.{Data, member, no_members, object, string}
use Rattle.register.specs.Elections.{election_of, is_counted}
use Rattle.register.specs.Offices.{OfficeState, WardEntry, ward_at}
use Rattle.register.specs.Ranges.{is_ward_number}
use Rattle.register.specs.declared.refusal.Reason.{Reason}
use Rattle.register.specs.declared.refusal.Reason.TheVariants.{NoSuchWard, NumberOutOfRange, WrongPhase}
use Rattle.store.specs.Overviews.{WardView}
use Rattle.office.specs.Sheets.{result_page_of}
use Rattle.wire.specs.OfficeReplies.{phase_word}
use Rattle.wire.specs.Replies.{list_data, number_data}

-- ---- the wards

-- a ward: its name, its phase, the number of its counted stages, and its number
abbrev pub screen_ward_data : WardEntry → Data
screen_ward_data w = object
    (member (codes "name") (string w.name)
    (member (codes "phase") (string (phase_word w.phase))
    (member (codes "stages") (number_data w.done)
    (member (codes "ward") (number_data w.number) no_members))))

-- the title of the election, and all wards
abbrev pub screen_data : List ℕ → List WardEntry → Data
screen_data title wards = object (member (codes "title") (string title) (member (codes "wards") (list_data screen_ward_data wards) no_members))

-- this value, made from the views of the wards; the list contains nothing else from them
abbrev pub screen_of : List ℕ → List WardView → Data
screen_of title views = screen_data title (map (λ v. v.ward) views)

-- ---- the page of a ward

-- the page of the ward that was found, once the ward is sealed
abbrev pub page_found : List ℕ → OfficeState → Option WardEntry → Result (List ℕ) Reason
page_found title s None = Err NoSuchWard
page_found title s (Some w) = if is_counted w.phase then Ok (result_page_of title (election_of s w)) else Err WrongPhase

-- the answer to a request for the page of the ward with the given number
abbrev pub page_told : List ℕ → OfficeState → ℕ → Result (List ℕ) Reason
page_told title s ward = if is_ward_number ward then page_found title s (ward_at s ward) else Err NumberOutOfRange

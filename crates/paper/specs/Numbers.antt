-- The numbers that identify faults and rejections.
use Rattle.std.specs.Prelude.{ℕ}
use Rattle.paper.specs.declared.marks.MarkFault.{MarkFault}
use Rattle.paper.specs.declared.marks.MarkFault.TheVariants.{FieldCount, NotANumber, TooLarge}
use Rattle.paper.specs.declared.validity.Rejection.{Rejection}
use Rattle.paper.specs.declared.validity.Rejection.TheVariants.{NoFirstPreference, SeveralFirstPreferences, NoOfficialMark, VoterIdentifiable, VoidForUncertainty}

-- the number of a mark fault
abbrev pub fault_number : MarkFault → ℕ
fault_number FieldCount = 1
fault_number NotANumber = 2
fault_number TooLarge = 3

-- the code of a rejection
abbrev pub rejection_code : Rejection → ℕ
rejection_code NoFirstPreference = 1
rejection_code SeveralFirstPreferences = 2
rejection_code NoOfficialMark = 3
rejection_code VoterIdentifiable = 4
rejection_code VoidForUncertainty = 5

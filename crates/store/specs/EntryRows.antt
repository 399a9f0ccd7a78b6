-- The rows that represent entries.
use Rattle.std.specs.Prelude.{◌≡◌, pos, ℕ, [], ◌∷◌}
use Rattle.sqlite.specs.declared.types.Value.{Value}
use Rattle.sqlite.specs.declared.types.Value.TheVariants.{Int, Text, Blob}
use Rattle.sqlite.specs.Order.{Row, column}
use Rattle.register.specs.declared.phase.Phase.{Phase}
use Rattle.register.specs.Phases.{phase_number}
use Rattle.register.specs.Offices.{WardEntry, CandidateEntry, BatchEntry, ThirdEntry, KeyedEntry, JudgedEntry, LotEntry, ReceiptEntry}
use Rattle.register.specs.Tabulated.{PlacedEntry, FigureEntry}
use Rattle.tables.specs.RowValues.{IsNumber, IsAmount, IsText, IsBytes}

-- the value is a phase's number
abbrev pub IsPhase : Value → Type 0
IsPhase v = (p : Phase) × (v ≡ Int (pos (phase_number p)))

-- the schema version of this program's offices
abbrev pub this_version : ℕ
this_version = 2

-- the row of the office, with the given schema version
abbrev pub office_row : ℕ → Row
office_row version = Int (pos 1) ∷ Int (pos version) ∷ []

-- the row of a ward
abbrev pub row_of_ward : WardEntry → Row
row_of_ward w = Int (pos w.number) ∷ Int (pos w.seats) ∷ Int (pos (phase_number w.phase)) ∷ Int (pos w.done) ∷ Text w.name ∷ []

-- a row that represents a ward
abbrev pub IsWardRow : Row → Type 0
IsWardRow r = IsNumber (column r 0) × IsNumber (column r 1) × IsPhase (column r 2) × IsNumber (column r 3) × IsText (column r 4)

-- the row of a candidate
abbrev pub row_of_candidate : CandidateEntry → Row
row_of_candidate c = Int (pos c.ward) ∷ Int (pos c.number) ∷ Text c.name ∷ []

-- a row that represents a candidate
abbrev pub IsCandidateRow : Row → Type 0
IsCandidateRow r = IsNumber (column r 0) × IsNumber (column r 1) × IsText (column r 2)

-- the row of a batch
abbrev pub row_of_batch : BatchEntry → Row
row_of_batch b = Int (pos b.number) ∷ Int (pos b.ward) ∷ Int (pos b.size) ∷ Int (pos b.first_clerk) ∷ Int (pos b.second_clerk) ∷ Int (pos b.round) ∷ []

-- a row that represents a batch
abbrev pub IsBatchRow : Row → Type 0
IsBatchRow r = IsNumber (column r 0) × IsNumber (column r 1) × IsNumber (column r 2) × IsNumber (column r 3) × IsNumber (column r 4) × IsNumber (column r 5)

-- the row of a third clerk
abbrev pub row_of_third : ThirdEntry → Row
row_of_third t = Int (pos t.batch) ∷ Int (pos t.clerk) ∷ []

-- a row that represents a third clerk
abbrev pub IsThirdRow : Row → Type 0
IsThirdRow r = IsNumber (column r 0) × IsNumber (column r 1)

-- the row of a keyed paper
abbrev pub row_of_keyed : KeyedEntry → Row
row_of_keyed k = Int (pos k.batch) ∷ Int (pos k.round) ∷ Int (pos k.clerk) ∷ Int (pos k.paper) ∷ Text k.marks ∷ []

-- a row that represents a keyed paper
abbrev pub IsKeyedRow : Row → Type 0
IsKeyedRow r = IsNumber (column r 0) × IsNumber (column r 1) × IsNumber (column r 2) × IsNumber (column r 3) × IsText (column r 4)

-- the row of a judged paper
abbrev pub row_of_judged : JudgedEntry → Row
row_of_judged j = Int (pos j.batch) ∷ Int (pos j.paper) ∷ Int (pos j.code) ∷ Text j.marks ∷ []

-- a row that represents a judged paper
abbrev pub IsJudgedRow : Row → Type 0
IsJudgedRow r = IsNumber (column r 0) × IsNumber (column r 1) × IsNumber (column r 2) × IsText (column r 3)

-- the row of a lot
abbrev pub row_of_lot : LotEntry → Row
row_of_lot l = Int (pos l.ward) ∷ Int (pos l.stage) ∷ Int (pos l.candidate) ∷ []

-- a row that represents a lot
abbrev pub IsLotRow : Row → Type 0
IsLotRow r = IsNumber (column r 0) × IsNumber (column r 1) × IsNumber (column r 2)

-- the row of a receipt
abbrev pub row_of_receipt : ReceiptEntry → Row
row_of_receipt r = Int (pos r.actor) ∷ Text r.id ∷ Text r.subject ∷ Text r.reply ∷ []

-- a row that represents a receipt
abbrev pub IsReceiptRow : Row → Type 0
IsReceiptRow r = IsNumber (column r 0) × IsText (column r 1) × IsText (column r 2) × IsText (column r 3)

-- the row of a bundle and its place
abbrev pub row_of_placed : PlacedEntry → Row
row_of_placed b = Int (pos b.ward) ∷ Blob b.list ∷ Int (pos b.papers) ∷ Int (pos b.holder) ∷ Int (pos b.value) ∷ []

-- a row that represents a bundle and its place
abbrev pub IsPlacedRow : Row → Type 0
IsPlacedRow r = IsNumber (column r 0) × IsBytes (column r 1) × IsNumber (column r 2) × IsNumber (column r 3) × IsAmount (column r 4)

-- the row of a figure
abbrev pub row_of_figure : FigureEntry → Row
row_of_figure f = Int (pos f.ward) ∷ Int (pos f.stage) ∷ Int (pos f.candidate) ∷ Int (pos f.units) ∷ Int (pos f.mark) ∷ []

-- a row that represents a figure
abbrev pub IsFigureRow : Row → Type 0
IsFigureRow r = IsNumber (column r 0) × IsNumber (column r 1) × IsNumber (column r 2) × IsAmount (column r 3) × IsNumber (column r 4)

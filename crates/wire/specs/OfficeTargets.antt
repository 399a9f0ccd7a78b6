-- The targets of the console's reads.
use Rattle.std.specs.Prelude.{◌≡◌, ◌++◌, ◌==◌, List, [], Option, Some, None, bytes_eq, codes, drop, if◌then◌else◌, nat_eq, option_and_then, option_map, take, ℕ}
use Rattle.std.specs.Char.{is_ascii_digit}
use Rattle.std.specs.List.{prefix_len, starts_with}
use Rattle.wire.specs.Numbers.{number_in}
use Rattle.wire.specs.declared.office_read.OfficeRead.{OfficeRead}
use Rattle.wire.specs.declared.office_read.OfficeRead.TheVariants.{Wards, Ward, Batches, Doubtful, Differences, Papers, Receipts}

-- the number at the start of a text, and what follows its digits
abbrev pub leading_number : List ℕ → Option ℕ
leading_number text = number_in (take (prefix_len is_ascii_digit text) text)

abbrev pub after_digits : List ℕ → List ℕ
after_digits text = drop (prefix_len is_ascii_digit text) text

-- the read of a ward, given the part of the target after its number
abbrev pub of_ward : List ℕ → ℕ → Option OfficeRead
of_ward rest ward =
    if bytes_eq rest [] then Some (Ward ward)
    else (if bytes_eq rest (codes "/batches") then Some (Batches ward)
    else (if bytes_eq rest (codes "/doubtful") then Some (Doubtful ward) else None))

-- the read of a batch, given the part of the target after its number
abbrev pub of_batch : List ℕ → ℕ → Option OfficeRead
of_batch rest batch =
    if bytes_eq rest (codes "/differences") then Some (Differences batch)
    else (if bytes_eq rest (codes "/papers") then Some (Papers batch) else None)

-- the read of a ward or of a batch, given everything after `/office/wards/` or `/office/batches/`
abbrev pub ward_read : List ℕ → Option OfficeRead
ward_read behind = option_and_then (of_ward (after_digits behind)) (leading_number behind)

abbrev pub batch_read : List ℕ → Option OfficeRead
batch_read behind = option_and_then (of_batch (after_digits behind)) (leading_number behind)

-- an actor: 0, which is the office itself, or a number
abbrev pub actor_in : List ℕ → Option ℕ
actor_in text = if bytes_eq text (codes "0") then Some 0 else number_in text

-- the read at a target that contains a number
abbrev pub numbered_read : List ℕ → Option OfficeRead
numbered_read target =
    if starts_with nat_eq target (codes "/office/wards/") then ward_read (drop 14 target)
    else (if starts_with nat_eq target (codes "/office/batches/") then batch_read (drop 16 target)
    else (if starts_with nat_eq target (codes "/office/receipts?actor=") then option_map (λ actor. Receipts (Some actor)) (actor_in (drop 23 target)) else None))

-- the console's read at a target
abbrev pub read_by : List ℕ → Option OfficeRead
read_by target =
    if bytes_eq target (codes "/office/wards") then Some Wards
    else (if bytes_eq target (codes "/office/receipts") then Some (Receipts None) else numbered_read target)

-- ---- the targets in plain words

-- the target of a read: its path, with the number written in 1 to 5 digits, without leading zeros
abbrev pub IsReadTarget : OfficeRead → List ℕ → Type 0
IsReadTarget Wards target = target ≡ codes "/office/wards"
IsReadTarget (Ward ward) target = (w : List ℕ) × (target ≡ codes "/office/wards/" ++ w) × (number_in w ≡ Some ward)
IsReadTarget (Batches ward) target = (w : List ℕ) × (target ≡ codes "/office/wards/" ++ (w ++ codes "/batches")) × (number_in w ≡ Some ward)
IsReadTarget (Doubtful ward) target = (w : List ℕ) × (target ≡ codes "/office/wards/" ++ (w ++ codes "/doubtful")) × (number_in w ≡ Some ward)
IsReadTarget (Differences batch) target = (b : List ℕ) × (target ≡ codes "/office/batches/" ++ (b ++ codes "/differences")) × (number_in b ≡ Some batch)
IsReadTarget (Papers batch) target = (b : List ℕ) × (target ≡ codes "/office/batches/" ++ (b ++ codes "/papers")) × (number_in b ≡ Some batch)
IsReadTarget (Receipts None) target = target ≡ codes "/office/receipts"
IsReadTarget (Receipts (Some actor)) target = (a : List ℕ) × (target ≡ codes "/office/receipts?actor=" ++ a) × (actor_in a ≡ Some actor)

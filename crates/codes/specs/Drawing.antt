-- The bytes that are drawn for new codes for a range of clerks, with or without one for the office; and why no codes were made.
use Rattle.std.specs.Prelude.{◌≡◌, ◌⊎◌, ◌∷◌, ◌++◌, ◌+◌, ◌*◌, ◌<◌, ◌==◌, ◌&&◌, Bool, false, true, List, [], Option, length, not, ℕ}
use Rattle.std.specs.List.{concat, list_all}
use Rattle.std.specs.Io.KnownBytes.{append_known}
use Rattle.codes.specs.Files.{file_in}
use Rattle.codes.specs.Making.{is_file_for, letters_drawn, letters_with, text_with}
use Rattle.codes.specs.declared.fault.CodesFault.TheVariants.{BadRandom, NoRandom}
use Rattle.codes.specs.declared.fault.CodesError.{CodesError}
use Rattle.codes.specs.declared.fault.CodesError.TheVariants.{Fault, Memory}
use Rattle.codes.specs.declared.range.ClerkRange.{ClerkRange}

-- the maximum number of bytes that are drawn per letter
abbrev pub most_bytes : ℕ
most_bytes = 100

-- the maximum number of files that are drawn
abbrev pub most_files : ℕ
most_files = 100

-- ---- files

-- whether bytes yield exactly the letters for the given codes, but their text isn't a codes file, for example because it contains a code twice
abbrev pub is_vain : ClerkRange → Bool → List ℕ → Bool
is_vain clerks office bytes = (length (letters_drawn bytes) == letters_with clerks office) && not (is_file_for clerks office (file_in (text_with clerks office (letters_drawn bytes))))

-- A text was made from the bytes drawn, that is, from all the letters that they select, in order, and from nothing else.
pub record IsDrawn (clerks : ClerkRange) (office : Bool) (old new : Option (List ℕ)) (text : List ℕ) : Type 0 where
  pub own : List ℕ
  pub drew : new ≡ append_known old own
  pub enough : length (letters_drawn own) ≡ letters_with clerks office
  pub is : text ≡ text_with clerks office (letters_drawn own)

-- A text was made this way from the last bytes drawn, and the bytes drawn before them didn't yield a codes file.
pub record IsMadeByDraws (clerks : ClerkRange) (office : Bool) (old new : Option (List ℕ)) (text : List ℕ) : Type 0 where
  pub earlier : List (List ℕ)
  pub own : List ℕ
  pub drew : new ≡ append_known old (concat earlier ++ own)
  pub vain : list_all (is_vain clerks office) earlier ≡ true
  pub enough : length (letters_drawn own) ≡ letters_with clerks office
  pub is : text ≡ text_with clerks office (letters_drawn own)

-- the same holds for a file without a code for the office
abbrev pub IsMadeOf : ClerkRange → Option (List ℕ) → Option (List ℕ) → List ℕ → Type 0
IsMadeOf clerks old new text = IsMadeByDraws clerks false old new text

-- ---- letters

-- a byte was drawn, and the letter that it selects, if any, was appended
pub record IsDraw (old new : Option (List ℕ)) (before after : List ℕ) : Type 0 where
  pub byte : ℕ
  pub drew : new ≡ append_known old (byte ∷ [])
  pub letters : after ≡ before ++ letters_drawn (byte ∷ [])

-- bytes were drawn that yield exactly the given letters, as many as the codes have
pub record AreDrawn (clerks : ClerkRange) (office : Bool) (old new : Option (List ℕ)) (letters : List ℕ) : Type 0 where
  pub own : List ℕ
  pub drew : new ≡ append_known old own
  pub are : letters ≡ letters_drawn own
  pub enough : length letters ≡ letters_with clerks office

-- the maximum number of bytes was drawn, and they yield too few letters
pub record AreTooFew (clerks : ClerkRange) (office : Bool) (bytes : List ℕ) : Type 0 where
  pub many : length bytes ≡ most_bytes * letters_with clerks office
  pub few : length (letters_drawn bytes) < letters_with clerks office

-- ---- why there are no codes

-- the reason why no letter was appended: an allocation failed, or no byte could be drawn
abbrev pub IsUndrawn : ℕ → ℕ → CodesError → Type 0
IsUndrawn failed failed_then Memory = failed_then ≡ failed
IsUndrawn failed failed_then (Fault NoRandom) = failed_then ≡ failed + 1
IsUndrawn failed failed_then (Fault other) = ⊥

-- too few letters were drawn
pub record IsShort (clerks : ClerkRange) (office : Bool) (old new : Option (List ℕ)) : Type 0 where
  pub own : List ℕ
  pub drew : new ≡ append_known old own
  pub few : AreTooFew clerks office own

-- the reason why no text was made: an allocation or a draw failed, or too few letters were drawn
abbrev pub IsUnwritten : ClerkRange → Bool → ℕ → ℕ → Option (List ℕ) → Option (List ℕ) → CodesError → Type 0
IsUnwritten clerks office failed failed_then old new Memory = failed_then ≡ failed
IsUnwritten clerks office failed failed_then old new (Fault NoRandom) = failed_then ≡ failed + 1
IsUnwritten clerks office failed failed_then old new (Fault BadRandom) = (failed_then ≡ failed) × IsShort clerks office old new
IsUnwritten clerks office failed failed_then old new (Fault other) = ⊥

-- Bytes were drawn but yielded no codes: either the last of them yield too few letters, or the maximum number of texts was tried and none of them is a codes file.
pub record IsInVain (clerks : ClerkRange) (office : Bool) (old new : Option (List ℕ)) : Type 0 where
  pub earlier : List (List ℕ)
  pub own : List ℕ
  pub drew : new ≡ append_known old (concat earlier ++ own)
  pub vain : list_all (is_vain clerks office) earlier ≡ true
  pub ends : ((length earlier ≡ most_files) × (own ≡ [])) ⊎ AreTooFew clerks office own

-- the reason why no codes were made: an allocation or a draw failed, or the bytes drawn yielded no codes
abbrev pub IsUnmadeByDraws : ClerkRange → Bool → ℕ → ℕ → Option (List ℕ) → Option (List ℕ) → CodesError → Type 0
IsUnmadeByDraws clerks office failed failed_then old new Memory = failed_then ≡ failed
IsUnmadeByDraws clerks office failed failed_then old new (Fault NoRandom) = failed_then ≡ failed + 1
IsUnmadeByDraws clerks office failed failed_then old new (Fault BadRandom) = (failed_then ≡ failed) × IsInVain clerks office old new
IsUnmadeByDraws clerks office failed failed_then old new (Fault other) = ⊥

-- the same reason, without a code for the office
abbrev pub IsUnmade : ClerkRange → ℕ → ℕ → Option (List ℕ) → Option (List ℕ) → CodesError → Type 0
IsUnmade clerks failed failed_then old new why = IsUnmadeByDraws clerks false failed failed_then old new why

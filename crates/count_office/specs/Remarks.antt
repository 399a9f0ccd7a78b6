-- The remarks on orders, for a person at a terminal: what is found in printed texts, and the words of each remark.
use Rattle.std.specs.Prelude.{ℕ, List, [], ◌∷◌, ◌++◌, ◌+◌, ◌-◌, ◌==◌, nat_lt, if◌then◌else◌, Option, Some, None, codes, option_and_then, option_map}
use Rattle.std.specs.Fmt.{decimal}
use Rattle.std.specs.List.{after_first, before_first, count_by}
use Rattle.std.specs.Str.{trim_start}
use Rattle.std.specs.Str.Lines.{lines}
use Rattle.paper.specs.Digits.{plain_number_in}
use Rattle.desk.specs.Verdicts.{behind}

-- ---- what is found in a text

-- the first of two texts, or the second if there is no first one
abbrev pub or_else : Option (List ℕ) → Option (List ℕ) → Option (List ℕ)
or_else (Some text) other = Some text
or_else None other = other

-- what follows the given words on the first of the given lines that begins with them
abbrev pub after_words_in : List ℕ → List (List ℕ) → Option (List ℕ)
after_words_in words [] = None
after_words_in words (line ∷ others) = or_else (behind words line) (after_words_in words others)

-- what follows the given words on the first line of a text that begins with them
abbrev pub after_words : List ℕ → List ℕ → Option (List ℕ)
after_words words text = after_words_in words (lines text)

-- the number of fields between commas
abbrev pub field_count : List ℕ → ℕ
field_count text = count_by (λ b. b == 44) text + 1

-- the number before the first space of a text
abbrev pub first_number : List ℕ → Option ℕ
first_number text = plain_number_in (before_first (λ b. b == 32) text)

-- ---- marks that were refused

-- the first paper with a mark fault, and the fault's number
abbrev pub paper_and_fault : Option ℕ → Option ℕ → Option (ℕ × ℕ)
paper_and_fault (Some paper) (Some fault) = Some (paper, fault)
paper_and_fault paper fault = None

-- these two, after `refused 18: bad marks on paper `: `37, fault 1`
abbrev pub fault_found : List ℕ → Option (ℕ × ℕ)
fault_found text =
    paper_and_fault (plain_number_in (before_first (λ b. b == 44) text)) (option_and_then plain_number_in (behind (codes " fault ") (after_first (λ b. b == 44) text)))

-- these two, if a text says that marks were refused
abbrev pub fault_in : List ℕ → Option (ℕ × ℕ)
fault_in text = option_and_then fault_found (after_words (codes "refused 18: bad marks on paper ") text)

-- the beginning of the line of `fields`, up to the number of fields
unfoldable pub fields_front : ℕ → List ℕ
fields_front batch = codes "batch " ++ (decimal batch ++ codes " has ")

-- the number of fields that the marks of a batch's papers have, in what `fields` prints
abbrev pub fields_told : ℕ → List ℕ → Option ℕ
fields_told batch text = option_and_then first_number (after_words (fields_front batch) text)

-- the words about marks with another number of fields
unfoldable pub fields_words : ℕ → ℕ → List ℕ
fields_words wanted given = codes "wanted: " ++ (decimal wanted ++ (codes " fields, of these " ++ (decimal given ++ codes " were given")))

-- the remark on marks with another number of fields than the batch's papers have, given what `fields` prints
abbrev pub fields_remark : ℕ → List ℕ → List ℕ → Option (List ℕ)
fields_remark batch marks text = option_map (λ wanted. fields_words wanted (field_count marks)) (fields_told batch text)

-- ---- how a paper counts

-- the beginning of a paper's line
unfoldable pub paper_front : ℕ → ℕ → List ℕ
paper_front batch paper = codes "batch " ++ (decimal batch ++ (codes " paper " ++ (decimal paper ++ codes ": ")))

-- the remark on a verdict: the paper's line in what `papers` prints
abbrev pub paper_remark : ℕ → ℕ → List ℕ → Option (List ℕ)
paper_remark batch paper text = option_map (λ rest. paper_front batch paper ++ rest) (after_words (paper_front batch paper) text)

-- ---- a lot

-- the beginning of the reply to a lot, up to the number of the candidate
unfoldable pub lot_front : ℕ → ℕ → List ℕ
lot_front ward stage = codes "lot at ward " ++ (decimal ward ++ (codes " stage " ++ (decimal stage ++ codes ": candidate ")))

-- the candidate whom the reply to a lot gives
abbrev pub drawn_in : ℕ → ℕ → List ℕ → Option ℕ
drawn_in ward stage reply = option_and_then plain_number_in (after_words (lot_front ward stage) reply)

-- a space that aligns a number of one digit
abbrev pub aligning : ℕ → List ℕ
aligning number = if nat_lt number 10 then codes " " else []

-- the beginning of a candidate's line on a sheet: the number, right-aligned in two places
unfoldable pub candidate_front : ℕ → List ℕ
candidate_front candidate = aligning candidate ++ (decimal candidate ++ codes " ")

-- the name that follows the votes and the letter on a candidate's line
abbrev pub name_behind : List ℕ → List ℕ
name_behind rest = after_first (λ b. b == 32) (after_first (λ b. b == 32) (trim_start rest))

-- a candidate's name on a sheet
abbrev pub name_on_sheet : ℕ → List ℕ → Option (List ℕ)
name_on_sheet candidate sheet = option_map name_behind (after_words (candidate_front candidate) sheet)

-- the words about a lot, with the candidate's name after the number
unfoldable pub lot_words : ℕ → ℕ → ℕ → List ℕ → List ℕ
lot_words ward stage candidate name =
    codes "lot at ward " ++ (decimal ward ++ (codes " stage " ++ (decimal stage ++ (codes ": " ++ (decimal candidate ++ (codes " " ++ name))))))

-- the same for a candidate whose name is on the given sheet
abbrev pub lot_named : ℕ → ℕ → List ℕ → ℕ → Option (List ℕ)
lot_named ward stage sheet candidate = option_map (lot_words ward stage candidate) (name_on_sheet candidate sheet)

-- the remark on a lot, given its reply and the ward's sheet
abbrev pub lot_remark : ℕ → ℕ → List ℕ → List ℕ → Option (List ℕ)
lot_remark ward stage reply sheet = option_and_then (lot_named ward stage sheet) (drawn_in ward stage reply)

-- ---- seats that stay empty

-- the beginning of a declared ward's line, and of the reply to its declaration
unfoldable pub declared_front : ℕ → List ℕ
declared_front ward = codes "ward " ++ (decimal ward ++ codes " declared: ")

-- how many candidates the reply to a declaration gives
abbrev pub elected_in : ℕ → List ℕ → Option ℕ
elected_in ward reply = option_map field_count (after_words (declared_front ward) reply)

-- how many seats a declared ward has, in what `wards` prints
abbrev pub seats_in : ℕ → List ℕ → Option ℕ
seats_in ward text = option_and_then first_number (after_words (declared_front ward) text)

-- the verb for a number of seats
abbrev pub stay_word : ℕ → List ℕ
stay_word empty = if empty == 1 then codes "stays" else codes "stay"

-- the words about seats that stay empty
unfoldable pub vacancy_words : ℕ → ℕ → ℕ → List ℕ
vacancy_words ward seats empty =
    codes "ward " ++ (decimal ward ++ (codes ": " ++ (decimal empty ++ (codes " of its " ++ (decimal seats ++ (codes " seats " ++ (stay_word empty ++ codes " empty")))))))

-- these words, if fewer candidates are elected than there are seats
abbrev pub vacancy_of : ℕ → Option ℕ → Option ℕ → Option (List ℕ)
vacancy_of ward (Some seats) (Some elected) = if nat_lt elected seats then Some (vacancy_words ward seats (seats - elected)) else None
vacancy_of ward seats elected = None

-- the remark on a declaration, given its reply and what `wards` prints
abbrev pub vacancy_remark : ℕ → List ℕ → List ℕ → Option (List ℕ)
vacancy_remark ward reply text = vacancy_of ward (seats_in ward text) (elected_in ward reply)

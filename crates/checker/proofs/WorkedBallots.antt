-- The definitions of reading, evaluated on example lines and an example file.
use Rattle.std.proofs.Common.{◌≡◌, ℕ, List, [], ◌∷◌, ◌++◌, refl, Ok, Err, Some, None}
use Rattle.std.specs.Prelude.{codes, Result}
use Rattle.checker.specs.BallotsComments.{Remarks, with_comment}
use Rattle.checker.specs.Differences.{behind_lines, first_line, nearer, same_lines}
use Rattle.checker.specs.Names.{name_in}
use Rattle.checker.specs.Outcomes.{and_then}
use Rattle.checker.specs.Numbers.{number_in}
use Rattle.checker.specs.Papers.{PapersEntry, with_bundle, with_size, with_withdrawn}
use Rattle.checker.specs.Tokens.{kind_of, lines_of, words_of}
use Rattle.checker.specs.Ranks.{named_in}
use Rattle.checker.specs.Reading.{ReaderEntry, nothing_told, read, with_line, words_before_comment}
use Rattle.checker.proofs.NameLemmas.{ascii_text}
use Rattle.checker.specs.declared.tokens.LineKind.TheVariants.{Comment, Empty}
use Rattle.checker.specs.declared.problem.BallotsFlaw.{BallotsFlaw}
use Rattle.checker.specs.declared.problem.BallotsFlaw.TheVariants as flaw
use Rattle.checker.specs.declared.file_content.NextLine.TheVariants as place

-- ---- lines and words

behind_mark : lines_of (239 ∷ 187 ∷ 191 ∷ codes "3 2\n\n0") ≡ codes "3 2" ∷ [] ∷ codes "0" ∷ []
behind_mark = refl

blanks_part : words_of (codes " 4  1 2" ++ 9 ∷ codes "0" ++ 13 ∷ []) ≡ codes "4" ∷ codes "1" ∷ codes "2" ∷ codes "0" ∷ []
blanks_part = refl

comment_behind : words_before_comment (codes "1 2 0 # alone") ≡ Ok (codes "1" ∷ codes "2" ∷ codes "0" ∷ [])
comment_behind = refl

ours_behind : words_before_comment (codes "1 2 0 #Rejected 1: 0") ≡ Err flaw.Astray
ours_behind = refl

nothing_there : kind_of (codes "  " ++ 13 ∷ []) ≡ Empty
nothing_there = refl

comment_there : kind_of (codes "  # 1 2 0") ≡ Comment
comment_there = refl

-- ---- numbers

greatest : number_in 255 (codes "255") ≡ Ok 255
greatest = refl

past_range : number_in 255 (codes "256") ≡ Err flaw.TooLarge
past_range = refl

far_past_range : number_in 255 (codes "18446744073709551617") ≡ Err flaw.TooLarge
far_past_range = refl

noughts_before : number_in 255 (codes "007") ≡ Ok 7
noughts_before = refl

no_number : number_in 255 (codes "1x") ≡ Err flaw.NotNumber
no_number = refl

-- ---- candidates, seats and papers

abbrev three : PapersEntry
three = record { highest = 3; seats = 2; withdrawn = 2 ∷ []; bundles = [] }

sizes : with_size three (codes "4" ∷ codes "1" ∷ []) ≡ Ok (record { highest = 4; seats = 1; withdrawn = 2 ∷ []; bundles = [] })
sizes = refl

no_seats : with_size three (codes "4" ∷ codes "0" ∷ []) ≡ Err flaw.NoSeat
no_seats = refl

gone : with_withdrawn three (codes "-3" ∷ codes "-1" ∷ []) ≡ Ok (record { highest = 3; seats = 2; withdrawn = 1 ∷ 2 ∷ 3 ∷ []; bundles = [] })
gone = refl

shared_rank : named_in 4 [] (codes "1" ∷ codes "2" ∷ codes "3=4" ∷ codes "1" ∷ codes "0" ∷ []) ≡ Ok (1 ∷ 2 ∷ [])
shared_rank = refl

shared_with_the_withdrawn : named_in 4 (3 ∷ []) (codes "1" ∷ codes "3=2" ∷ codes "4" ∷ codes "0" ∷ []) ≡ Ok (1 ∷ 3 ∷ 2 ∷ 4 ∷ [])
shared_with_the_withdrawn = refl

no_rank_behind : named_in 4 [] (codes "1" ∷ codes "3=4" ∷ codes "2x" ∷ codes "0" ∷ []) ≡ Err flaw.NotNumber
no_rank_behind = refl

twice : named_in 4 [] (codes "1" ∷ codes "2" ∷ codes "1" ∷ codes "0" ∷ []) ≡ Err flaw.CandidateTwice
twice = refl

nobody : named_in 4 [] (codes "5" ∷ codes "0" ∷ []) ≡ Err flaw.NoSuchCandidate
nobody = refl

unended : named_in 4 [] (codes "1" ∷ codes "2" ∷ []) ≡ Err flaw.NoZero
unended = refl

passed_over : with_bundle three (codes "5" ∷ codes "2" ∷ codes "1" ∷ codes "0" ∷ []) ≡ Ok (record { highest = 3; seats = 2; withdrawn = 2 ∷ []; bundles = (1 ∷ [], 5) ∷ [] })
passed_over = refl

none_left : with_bundle three (codes "5" ∷ codes "2" ∷ codes "0" ∷ []) ≡ Err flaw.NoPreference
none_left = refl

-- ---- our own comments

abbrev nothing : Remarks
nothing = record { ward = None; rejected = None; lots = [] }

ward_number : with_comment nothing (codes "# Ward 7") ≡ Ok (record { ward = Some 7; rejected = None; lots = [] })
ward_number = refl

rejected_papers : with_comment nothing (codes "# Rejected 1: 1, 2: 20, 3: 0, 4: 4, 5: 50") ≡ Ok (record { ward = None; rejected = Some (1 ∷ 20 ∷ 0 ∷ 4 ∷ 50 ∷ []); lots = [] })
rejected_papers = refl

a_lot : with_comment nothing (codes "# Lot at stage 3: 2") ≡ Ok (record { ward = None; rejected = None; lots = (3, 2) ∷ [] })
a_lot = refl

of_another : with_comment nothing (codes "# the ward of Harbour") ≡ Ok nothing
of_another = refl

without_blank : with_comment nothing (codes "#Rejected 1: 1") ≡ Err flaw.Astray
without_blank = refl

in_small_letters : with_comment nothing (codes "# lot at stage 3: 2") ≡ Err flaw.Astray
in_small_letters = refl

other_word : with_comment nothing (codes "# Wards: 7") ≡ Ok nothing
other_word = refl

-- ---- names, and a file

escaped_name : name_in (codes " \"A \\\"B\\\" \\\\ C\" # who") ≡ Ok (codes "A \"B\" \\ C")
escaped_name = rw (ascii_text (codes "A \"B\" \\ C") refl) refl

ours_behind_name : name_in (codes "\"Ann\" # Ward 7") ≡ Err flaw.Astray
ours_behind_name = refl

open_name : name_in (codes "\"Ann\\\"") ≡ Err flaw.OpenQuote
open_name = refl

-- the content of the given lines
abbrev told_by : ReaderEntry → List (List ℕ) → Result ReaderEntry BallotsFlaw
told_by reading [] = Ok reading
told_by reading (line ∷ lines) = and_then (with_line reading line) (λ more. told_by more lines)

above_names : told_by nothing_told (lines_of (codes "3 1 # three\n# Ward 7\n-2\n\n2 3 1 0\n1 1 3=2 0\n1 3 1 0\n0")) ≡ Ok (record {
  place = place.CandidateNames;
  papers = record { highest = 3; seats = 1; withdrawn = 2 ∷ []; bundles = (1 ∷ 3 ∷ [], 1) ∷ (3 ∷ 1 ∷ [], 3) ∷ [] };
  names = record { names = []; ward = [] };
  remarks = record { ward = Some 7; rejected = None; lots = [] };
})
above_names = refl

cut_off : read (codes "3 1\n\n2 3 1 0\n") ≡ Err (4, flaw.NoEnd)
cut_off = refl

second_line : read (codes "3 1\n2 4 1 0\n") ≡ Err (2, flaw.NoSuchCandidate)
second_line = refl

-- ---- texts that differ

third_line : same_lines (codes "a\nb\nx\n") (codes "a\nb\nc\nd\n") ≡ 2
third_line = refl

as_it_should_be : first_line (behind_lines 2 (codes "a\nb\nc\nd\n")) ≡ codes "c\n"
as_it_should_be = refl

should_have_ended : first_line (behind_lines 2 (codes "a\nb\n")) ≡ []
should_have_ended = refl

like_the_declaration : nearer (codes "Ward 1 A\nElected\n 2") (codes "Ward 1 A\nSeats") (codes "Ward 1 A\nElected\n 1") ≡ codes "Ward 1 A\nElected\n 1"
like_the_declaration = refl

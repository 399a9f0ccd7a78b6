-- The candidates, the seats and the papers of a file of ballots.
use Rattle.std.specs.Prelude.{ℕ, ◌+◌, ◌==◌, nat_le, if◌then◌else◌, List, [], ◌∷◌, length, Result, Ok, Err}
use Rattle.paper.specs.Columns.{max_candidates, with_column}
use Rattle.votes.specs.Units.{max_papers, max_seats}
use Rattle.count.specs.Bundles.{Bundle, papers_of, with_papers}
use Rattle.checker.specs.Outcomes.{and_then}
use Rattle.checker.specs.Numbers.{candidate_in, number_in}
use Rattle.checker.specs.Tokens.{Text}
use Rattle.checker.specs.Ranks.{named_in, without}
use Rattle.checker.specs.declared.problem.BallotsFlaw.{BallotsFlaw}
use Rattle.checker.specs.declared.problem.BallotsFlaw.TheVariants.{NoPapers, NoPreference, NoSeat, NotNumber, Size, TooManyPapers}

-- the content of the parts of a file: the highest candidate number, the seats, the numbers of withdrawn candidates, and the papers in bundles
pub record PapersEntry : Type 0 where
  pub highest : ℕ
  pub seats : ℕ
  pub withdrawn : List ℕ
  pub bundles : List Bundle

-- the number of seats, which is at least 1
abbrev pub some_seats : ℕ → Result ℕ BallotsFlaw
some_seats seats = if seats == 0 then Err NoSeat else Ok seats

abbrev pub seats_in : Text → Result ℕ BallotsFlaw
seats_in word = and_then (number_in max_seats word) some_seats

-- `4 2`: the highest candidate number, and the seats
abbrev pub with_size : PapersEntry → List Text → Result PapersEntry BallotsFlaw
with_size told [] = Err Size
with_size told (highest ∷ []) = Err Size
with_size told (highest ∷ seats ∷ []) =
    and_then (number_in max_candidates highest) (λ h. and_then (seats_in seats) (λ s. Ok (record { highest = h; seats = s; withdrawn = told.withdrawn; bundles = told.bundles })))
with_size told (highest ∷ seats ∷ other ∷ words) = Err Size

-- `-3`: a withdrawn candidate
abbrev pub withdrawn_in : ℕ → Text → Result ℕ BallotsFlaw
withdrawn_in highest [] = Err NotNumber
withdrawn_in highest (byte ∷ bytes) = if byte == 45 then candidate_in highest bytes else Err NotNumber

-- a set, with the withdrawn candidates in the given words added
abbrev pub withdrawn_from : ℕ → List ℕ → List Text → Result (List ℕ) BallotsFlaw
withdrawn_from highest withdrawn [] = Ok withdrawn
withdrawn_from highest withdrawn (word ∷ words) = and_then (withdrawn_in highest word) (λ c. withdrawn_from highest (with_column withdrawn c) words)

-- `-3 -5`
abbrev pub with_withdrawn : PapersEntry → List Text → Result PapersEntry BallotsFlaw
with_withdrawn told words =
    and_then (withdrawn_from told.highest told.withdrawn words) (λ withdrawn. Ok (record { highest = told.highest; seats = told.seats; withdrawn = withdrawn; bundles = told.bundles }))

-- the number of papers, which is at least 1
abbrev pub some_papers : ℕ → Result ℕ BallotsFlaw
some_papers papers = if papers == 0 then Err NoPapers else Ok papers

abbrev pub papers_in : Text → Result ℕ BallotsFlaw
papers_in word = and_then (number_in max_papers word) some_papers

-- the papers read so far, with one or more papers added that have the same preferences
abbrev pub with_list : PapersEntry → ℕ → List ℕ → Result PapersEntry BallotsFlaw
with_list told papers [] = Err NoPreference
with_list told papers (c ∷ list) =
    if nat_le (length (papers_of told.bundles) + papers) max_papers
    then Ok (record { highest = told.highest; seats = told.seats; withdrawn = told.withdrawn; bundles = with_papers told.bundles (c ∷ list) papers })
    else Err TooManyPapers

-- `12 1 2 4 0`: the number of papers, and their preferences; those for withdrawn candidates are skipped
abbrev pub with_bundle : PapersEntry → List Text → Result PapersEntry BallotsFlaw
with_bundle told [] = Err NoPapers
with_bundle told (weight ∷ words) =
    and_then (papers_in weight) (λ papers. and_then (named_in told.highest told.withdrawn words) (λ named. with_list told papers (without told.withdrawn named)))

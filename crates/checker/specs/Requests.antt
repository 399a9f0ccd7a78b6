-- The words of a request to count ballots: the path of the ballots, the text to print, and lots.
use Rattle.std.specs.Prelude.{ℕ, ◌==◌, ◌&&◌, ◌||◌, nat_le, nat_lt, length, Bool, false, if◌then◌else◌, List, [], ◌∷◌, ◌++◌, codes, Option, Some, None, is_some, Result, Ok, Err}
use Rattle.std.specs.Option.{option_and_then}
use Rattle.paper.specs.Columns.{max_candidates}
use Rattle.votes.specs.Units.{max_seats}
use Rattle.checker.specs.BallotsComments.{is_word, small_in}
use Rattle.checker.specs.Counts.{TextEntry, sheet_asked, declaration_asked, page_asked, table_asked, results_asked, ballots_asked}
use Rattle.checker.specs.Names.{max_name}
use Rattle.checker.specs.Records.{WardEntry}
use Rattle.checker.specs.Tokens.{Text, pieces_of}
use Rattle.checker.specs.declared.tokens.Separator.TheVariants.{Colon}
use Rattle.checker.specs.declared.requests.NextWord.{NextWord}
use Rattle.checker.specs.declared.requests.NextWord.TheVariants as next
use Rattle.checker.specs.declared.requests.TextOption.{TextOption}
use Rattle.checker.specs.declared.requests.TextOption.TheVariants as option
use Rattle.checker.specs.declared.requests.WordsFlaw.{WordsFlaw}
use Rattle.checker.specs.declared.requests.WordsFlaw.TheVariants as flaw

-- the request so far, and the meaning of its next word
pub record WordsEntry : Type 0 where
  pub next : NextWord
  pub ballots : Option Text
  pub text : Option TextOption
  pub title : Option Text
  pub lots : List (ℕ × ℕ)
  pub seats : Option ℕ
  pub name : Option Text
  pub candidates : List Text

-- the form of the ballots: a BLT file, or cast-vote records for a ward
pub data FormEntry : Type 0 where
  blt : FormEntry
  records : WardEntry → FormEntry

-- a complete request
pub record CountEntry : Type 0 where
  pub ballots : Text
  pub form : FormEntry
  pub text : TextEntry
  pub lots : List (ℕ × ℕ)

-- the request before its first word
abbrev pub nothing_asked : WordsEntry
nothing_asked = record { next = next.Any; ballots = None; text = None; title = None; lots = []; seats = None; name = None; candidates = [] }

-- `--declaration`: the text that an option requests
abbrev pub text_option : Text → Option TextOption
text_option word =
    if is_word (codes "--declaration") word then Some option.Declaration else (
    if is_word (codes "--page") word then Some option.Page else (
    if is_word (codes "--table") word then Some option.Table else (
    if is_word (codes "--results") word then Some option.Results else (
    if is_word (codes "--ballots") word then Some option.Ballots else None))))

-- `3:4`: the stage and the candidate of a lot
abbrev pub lot_of : List Text → Option (ℕ × ℕ)
lot_of [] = None
lot_of (stage ∷ []) = None
lot_of (stage ∷ candidate ∷ []) = option_and_then (λ k. option_and_then (λ c. Some (k, c)) (small_in candidate)) (small_in stage)
lot_of (stage ∷ candidate ∷ other ∷ words) = None

abbrev pub lot_in_word : Text → Option (ℕ × ℕ)
lot_in_word word = lot_of (pieces_of Colon [] word)

-- whether a word begins with a hyphen and isn't just a hyphen
abbrev pub is_option : Text → Bool
is_option [] = false
is_option (byte ∷ []) = false
is_option (byte ∷ other ∷ bytes) = byte == 45

-- the request with a text, a path, a title, or a lot
abbrev pub with_text : WordsEntry → TextOption → Result WordsEntry WordsFlaw
with_text words text =
    if is_some words.text then Err flaw.SecondText
    else Ok (record { next = next.Any; ballots = words.ballots; text = Some text; title = words.title; lots = words.lots; seats = words.seats; name = words.name; candidates = words.candidates })

abbrev pub with_ballots : WordsEntry → Text → Result WordsEntry WordsFlaw
with_ballots words path =
    if is_option path then Err flaw.UnknownOption else (
    if is_some words.ballots then Err flaw.SecondBallots
    else Ok (record { next = next.Any; ballots = Some path; text = words.text; title = words.title; lots = words.lots; seats = words.seats; name = words.name; candidates = words.candidates }))

abbrev pub with_title : WordsEntry → Text → Result WordsEntry WordsFlaw
with_title words title =
    if is_some words.title then Err flaw.SecondTime
    else Ok (record { next = next.Any; ballots = words.ballots; text = words.text; title = Some title; lots = words.lots; seats = words.seats; name = words.name; candidates = words.candidates })

abbrev pub with_lot : WordsEntry → Option (ℕ × ℕ) → Result WordsEntry WordsFlaw
with_lot words None = Err flaw.Lot
with_lot words (Some lot) = Ok (record {
  next = next.Any;
  ballots = words.ballots;
  text = words.text;
  title = words.title;
  lots = words.lots ++ lot ∷ [];
  seats = words.seats;
  name = words.name;
  candidates = words.candidates;
})

-- the request with the seats or with the name of the ward
abbrev pub with_seats_of : WordsEntry → Option ℕ → Result WordsEntry WordsFlaw
with_seats_of words None = Err flaw.Seats
with_seats_of words (Some seats) = Ok (record {
  next = next.Any;
  ballots = words.ballots;
  text = words.text;
  title = words.title;
  lots = words.lots;
  seats = Some seats;
  name = words.name;
  candidates = words.candidates;
})

abbrev pub with_seats : WordsEntry → Text → Result WordsEntry WordsFlaw
with_seats words word = if is_some words.seats then Err flaw.SecondTime else with_seats_of words (small_in word)

abbrev pub with_name : WordsEntry → Text → Result WordsEntry WordsFlaw
with_name words name =
    if is_some words.name then Err flaw.SecondTime
    else Ok (record { next = next.Any; ballots = words.ballots; text = words.text; title = words.title; lots = words.lots; seats = words.seats; name = Some name; candidates = words.candidates })

-- the request with another candidate, whose name has a length in range
abbrev pub with_candidate : WordsEntry → Text → Result WordsEntry WordsFlaw
with_candidate words name =
    if length name == 0 || nat_lt max_name (length name) then Err flaw.Candidates
    else Ok (record {
      next = next.Any;
      ballots = words.ballots;
      text = words.text;
      title = words.title;
      lots = words.lots;
      seats = words.seats;
      name = words.name;
      candidates = words.candidates ++ name ∷ [];
    })

-- the request after an option whose value is the next word
abbrev pub with_next : WordsEntry → NextWord → WordsEntry
with_next words next = record { next = next; ballots = words.ballots; text = words.text; title = words.title; lots = words.lots; seats = words.seats; name = words.name; candidates = words.candidates }

-- the request with an option for a text, or otherwise with the path of the ballots
abbrev pub with_text_or_ballots : WordsEntry → Option TextOption → Text → Result WordsEntry WordsFlaw
with_text_or_ballots words (Some text) word = with_text words text
with_text_or_ballots words None word = with_ballots words word

abbrev pub with_any : WordsEntry → Text → Result WordsEntry WordsFlaw
with_any words word =
    if is_word (codes "--lot") word then Ok (with_next words next.Lot) else (
    if is_word (codes "--title") word then Ok (with_next words next.Title) else (
    if is_word (codes "--seats") word then Ok (with_next words next.Seats) else (
    if is_word (codes "--name") word then Ok (with_next words next.Name) else (
    if is_word (codes "--candidate") word then Ok (with_next words next.Candidate)
    else with_text_or_ballots words (text_option word) word))))

-- the request with another word
abbrev pub with_word_at : NextWord → WordsEntry → Text → Result WordsEntry WordsFlaw
with_word_at next.Any words word = with_any words word
with_word_at next.Title words word = with_title words word
with_word_at next.Lot words word = with_lot words (lot_in_word word)
with_word_at next.Seats words word = with_seats words word
with_word_at next.Name words word = with_name words word
with_word_at next.Candidate words word = with_candidate words word

abbrev pub with_word : WordsEntry → Text → Result WordsEntry WordsFlaw
with_word words word = with_word_at words.next words word

-- the text that a request asks for; only a page may have a title
abbrev pub text_asked : Option TextOption → Option Text → Result TextEntry WordsFlaw
text_asked None None = Ok sheet_asked
text_asked (Some option.Declaration) None = Ok declaration_asked
text_asked (Some option.Page) None = Ok (page_asked [])
text_asked (Some option.Table) None = Ok table_asked
text_asked (Some option.Results) None = Ok results_asked
text_asked (Some option.Ballots) None = Ok ballots_asked
text_asked None (Some title) = Err flaw.TitleAlone
text_asked (Some option.Declaration) (Some title) = Err flaw.TitleAlone
text_asked (Some option.Page) (Some title) = Ok (page_asked title)
text_asked (Some option.Table) (Some title) = Err flaw.TitleAlone
text_asked (Some option.Results) (Some title) = Err flaw.TitleAlone
text_asked (Some option.Ballots) (Some title) = Err flaw.TitleAlone

-- the form of the ballots; only cast-vote records need a number of seats, at most as many as a ward can have, and a name
abbrev pub form_asked : Option ℕ → Option Text → List Text → Result FormEntry WordsFlaw
form_asked None None [] = Ok blt
form_asked None None (candidate ∷ candidates) = Err flaw.HalfWard
form_asked (Some seats) (Some name) candidates =
    if nat_le 1 seats && nat_le seats max_seats
    then (if nat_lt max_candidates (length candidates) then Err flaw.Candidates else Ok (records (record { seats = seats; name = name; candidates = candidates })))
    else Err flaw.Seats
form_asked (Some seats) None candidates = Err flaw.HalfWard
form_asked None (Some name) candidates = Err flaw.HalfWard

abbrev pub with_all : List (ℕ × ℕ) → Option Text → Result TextEntry WordsFlaw → Result FormEntry WordsFlaw → Result CountEntry WordsFlaw
with_all lots None text form = Err flaw.NoBallots
with_all lots (Some ballots) (Err why) form = Err why
with_all lots (Some ballots) (Ok text) (Err why) = Err why
with_all lots (Some ballots) (Ok text) (Ok form) = Ok (record { ballots = ballots; form = form; text = text; lots = lots })

-- the request after its last word
abbrev pub request_at : NextWord → WordsEntry → Result CountEntry WordsFlaw
request_at next.Any words = with_all words.lots words.ballots (text_asked words.text words.title) (form_asked words.seats words.name words.candidates)
request_at next.Title words = Err flaw.NoValue
request_at next.Lot words = Err flaw.NoValue
request_at next.Seats words = Err flaw.NoValue
request_at next.Name words = Err flaw.NoValue
request_at next.Candidate words = Err flaw.NoValue

abbrev pub request_of : Result WordsEntry WordsFlaw → Result CountEntry WordsFlaw
request_of (Ok words) = request_at words.next words
request_of (Err why) = Err why

-- the request so far, with more words
abbrev pub with_words : Result WordsEntry WordsFlaw → List Text → Result WordsEntry WordsFlaw
with_words (Err why) more = Err why
with_words (Ok words) [] = Ok words
with_words (Ok words) (word ∷ more) = with_words (with_word words word) more

-- the request made up of the given words
abbrev pub count_request : List Text → Result CountEntry WordsFlaw
count_request words = request_of (with_words (Ok nothing_asked) words)

-- another value if a word was understood
abbrev pub done_as : {X Y : Type 0} → Result X WordsFlaw → Y → Result Y WordsFlaw
done_as (Ok x) y = Ok y
done_as (Err why) y = Err why

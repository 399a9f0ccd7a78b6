-- The words of a request to count ballots, and the request, as the specification sees them.
use Rattle.std.specs.Prelude.{◌≡◌, map, option_map, Option, Some, None, Result, Ok, Err}
use Rattle.checker.specs.Counts.{text_of}
use Rattle.checker.specs.RecordViews.{ward_told}
use Rattle.checker.specs.Requests.{CountEntry, FormEntry, WordsEntry, blt, records}
use Rattle.checker.specs.declared.records_ward.RecordsWard.{RecordsWard}
use Rattle.checker.specs.declared.requests.CountRequest.{CountRequest}
use Rattle.checker.specs.declared.requests.CountWords.{CountWords}
use Rattle.checker.specs.declared.requests.WordsFlaw.{WordsFlaw}

-- the request so far
abbrev pub words_told : CountWords → WordsEntry
words_told words = record {
  next = words.next;
  ballots = option_map (λ w. w.now) words.ballots;
  text = words.text;
  title = option_map (λ w. w.now) words.title;
  lots = words.lots.items;
  seats = words.seats;
  name = option_map (λ w. w.now) words.name;
  candidates = map (λ w. w.now) words.candidates.items;
}

-- the form of the ballots
abbrev pub form_told : Option RecordsWard → FormEntry
form_told None = blt
form_told (Some ward) = records (ward_told ward)

-- a complete request
abbrev pub request_told : CountRequest → CountEntry
request_told request = record { ballots = request.ballots.now; form = form_told request.ward; text = text_of request.text; lots = request.lots.items }

-- the request made up of the given words, or the reason why they aren't understood
abbrev pub IsRequest : Result CountEntry WordsFlaw → Result CountRequest WordsFlaw → Type 0
IsRequest told (Ok request) = told ≡ Ok (request_told request)
IsRequest told (Err why) = told ≡ Err why

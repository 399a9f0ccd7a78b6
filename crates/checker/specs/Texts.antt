-- The messages for the flaws of ballots and for the problems that prevent a check.
use Rattle.std.specs.Prelude.{List, [], ◌∷◌, ◌++◌, codes}
use Rattle.std.specs.Fmt.{decimal}
use Rattle.checker.specs.Tokens.{Text}
use Rattle.checker.specs.declared.problem.BallotsFlaw.{BallotsFlaw}
use Rattle.checker.specs.declared.problem.BallotsFlaw.TheVariants as flaw
use Rattle.checker.specs.declared.problem.Problem.{Problem}
use Rattle.checker.specs.declared.problem.Problem.TheVariants as problem

-- pieces of text, joined in order
abbrev pub joined : List Text → Text
joined [] = []
joined (piece ∷ []) = piece
joined (piece ∷ next ∷ pieces) = piece ++ joined (next ∷ pieces)

-- the message for the flaw in a line
abbrev pub flaw_text : BallotsFlaw → Text
flaw_text flaw.Size = codes "not the highest number of a candidate, and the seats"
flaw_text flaw.NoSeat = codes "no seats"
flaw_text flaw.NotNumber = codes "a word is not a number"
flaw_text flaw.TooLarge = codes "a number is too large"
flaw_text flaw.NoPapers = codes "no papers"
flaw_text flaw.NoSuchCandidate = codes "no such candidate"
flaw_text flaw.CandidateTwice = codes "a candidate twice"
flaw_text flaw.NoPreference = codes "no first preference"
flaw_text flaw.NoZero = codes "no 0 at the end"
flaw_text flaw.TooManyPapers = codes "too many papers"
flaw_text flaw.NoName = codes "not a name in quotation marks"
flaw_text flaw.OpenQuote = codes "a quotation mark is not closed"
flaw_text flaw.LongName = codes "a name is too long"
flaw_text flaw.NotUtf8 = codes "a name is not UTF-8"
flaw_text flaw.BehindName = codes "a line behind the ward's name"
flaw_text flaw.Ward = codes "not the number of a ward"
flaw_text flaw.Rejected = codes "not the rejected papers of each code"
flaw_text flaw.Lot = codes "not the lot of a stage"
flaw_text flaw.Astray = codes "a comment that begins with Ward, Rejected or Lot, but is not written as ours are"
flaw_text flaw.Twice = codes "given a second time"
flaw_text flaw.NoSize = codes "the file ends before the candidates and seats"
flaw_text flaw.NoEnd = codes "the file ends before the line 0 behind the papers"
flaw_text flaw.NamesWanting = codes "the file ends before the ward's name"
flaw_text flaw.Field = codes "a field is not in quotation marks as a whole"
flaw_text flaw.NoColumns = codes "the file ends before the line of its columns"
flaw_text flaw.LoneColumn = codes "a single column"
flaw_text flaw.NoColumnName = codes "a column has no name"
flaw_text flaw.NotCandidateColumn = codes "a column may be of something other than a candidate"
flaw_text flaw.NotNextRank = codes "a column is not that of the next rank"
flaw_text flaw.TooManyColumns = codes "too many columns"
flaw_text flaw.FieldCount = codes "another number of fields than columns"
flaw_text flaw.NotRank = codes "a field is not a rank"
flaw_text flaw.NotCandidate = codes "a field names no candidate"
flaw_text flaw.SeveralCandidates = codes "a field may name several candidates"

-- the message for the problem that prevents a check
abbrev pub problem_text : Problem → Text
problem_text (problem.Line line flaw) = joined (codes "line " ∷ decimal line ∷ codes " of the ballots: " ∷ flaw_text flaw ∷ [])
problem_text problem.NoContest = codes "no more candidates than seats"
problem_text (problem.LotNeeded stage among) = joined (codes "no lot is recorded for stage " ∷ decimal stage ∷ [])
problem_text (problem.LotNotAmong stage) = joined (codes "the lot for stage " ∷ decimal stage ∷ codes " names none of the tied" ∷ [])
problem_text (problem.LotNotNeeded stage) = joined (codes "a lot is recorded for stage " ∷ decimal stage ∷ codes ", and none is drawn there" ∷ [])
problem_text problem.Memory = codes "out of memory"

-- What to do about ballots that can't be counted, as a line in brackets.
use Rattle.std.specs.Prelude.{[], codes}
use Rattle.checker.specs.Tokens.{Text}
use Rattle.checker.specs.declared.problem.BallotsFlaw.{BallotsFlaw}
use Rattle.checker.specs.declared.problem.BallotsFlaw.TheVariants as flaw
use Rattle.checker.specs.declared.problem.Problem.{Problem}
use Rattle.checker.specs.declared.problem.Problem.TheVariants as problem

-- what to do about the flaw in a line
abbrev pub flaw_remedy : BallotsFlaw → Text
flaw_remedy flaw.Size = codes "(give the highest number of a candidate and the seats, such as 4 2)\n"
flaw_remedy flaw.NoSeat = codes "(give the seats of the ward, 1 to 15)\n"
flaw_remedy flaw.NotNumber = codes "(write digits alone; only before the number of a withdrawn candidate there is a minus)\n"
flaw_remedy flaw.TooLarge = codes "(a ward has at most 30 candidates, 15 seats and 4999500 papers)\n"
flaw_remedy flaw.NoPapers = codes "(say how many papers have this list, or remove the line)\n"
flaw_remedy flaw.NoSuchCandidate = codes "(give numbers of candidates, from 1 to the highest in the first line of numbers)\n"
flaw_remedy flaw.CandidateTwice = codes "(name each candidate once: look at the paper)\n"
flaw_remedy flaw.NoPreference = codes "(remove the line: a paper without a single first preference is not valid)\n"
flaw_remedy flaw.NoZero = codes "(end the line with 0, and write nothing after it)\n"
flaw_remedy flaw.TooManyPapers = codes "(a ward has at most 4999500 papers)\n"
flaw_remedy flaw.NoName = codes "(write the name in quotation marks, and nothing else on its line)\n"
flaw_remedy flaw.OpenQuote = codes "(write a quotation mark after the name)\n"
flaw_remedy flaw.LongName = codes "(shorten the name to 1000 bytes)\n"
flaw_remedy flaw.NotUtf8 = codes "(save the file as UTF-8)\n"
flaw_remedy flaw.BehindName = codes "(remove the line, or put a # before it)\n"
flaw_remedy flaw.Ward = codes "(write the number of the ward, such as # Ward 7)\n"
flaw_remedy flaw.Rejected = codes "(write the papers of each code, such as # Rejected 1: 0, 2: 0, 3: 0, 4: 0, 5: 0)\n"
flaw_remedy flaw.Lot = codes "(write a stage and a candidate, such as # Lot at stage 3: 4)\n"
flaw_remedy flaw.Astray = codes "(write it as ours are, such as # Ward 7, or begin it with another word)\n"
flaw_remedy flaw.Twice = codes "(remove one of the two lines)\n"
flaw_remedy flaw.NoSize = codes "(begin with the highest number of a candidate and the seats, such as 4 2)\n"
flaw_remedy flaw.NoEnd = codes "(write a line 0 after the papers)\n"
flaw_remedy flaw.NamesWanting = codes "(write a name for each number, and then the ward's)\n"
flaw_remedy flaw.Field = codes "(put the whole field in quotation marks, and two for one within it)\n"
flaw_remedy flaw.NoColumns = codes "(begin with the names of the columns, such as count,Ann,Bob,Cy)\n"
flaw_remedy flaw.LoneColumn = codes "(add a column count: an empty line may be a paper without a mark, or no paper)\n"
flaw_remedy flaw.NoColumnName = codes "(write the name of its candidate in the first line)\n"
flaw_remedy flaw.NotCandidateColumn = codes "(if there is a rank in each column, add --candidate with the name of each candidate; numbers of papers are in a first column count)\n"
flaw_remedy flaw.NotNextRank = codes "(with --candidate the columns are rank1, rank2, .., after count if there are numbers of papers)\n"
flaw_remedy flaw.TooManyColumns = codes "(a ward has at most 30 candidates, and a paper as many ranks)\n"
flaw_remedy flaw.FieldCount = codes "(write as many fields as the first line has; an empty one has no rank or no candidate)\n"
flaw_remedy flaw.NotRank = codes "(write a rank from 1 to 99 in digits, or nothing)\n"
flaw_remedy flaw.NotCandidate = codes "(write the number or the name of a candidate, as given by --candidate, or nothing)\n"
flaw_remedy flaw.SeveralCandidates = codes "(write the number of the candidate; no name may be the number of another one)\n"

-- what to do about a problem; empty if the description of the problem already says it
abbrev pub remedy : Problem → Text
remedy (problem.Line line flaw) = flaw_remedy flaw
remedy problem.NoContest = codes "(remove the papers and the line of rejected ones, or correct the seats)\n"
remedy (problem.LotNeeded stage among) = []
remedy (problem.LotNotAmong stage) = codes "(correct the lot; without it the tied candidates are printed)\n"
remedy (problem.LotNotNeeded stage) = codes "(leave the lot out)\n"
remedy problem.Memory = []

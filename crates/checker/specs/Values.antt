-- The values of the program, as the specification sees them.
use Rattle.std.specs.Prelude.{◌≡◌, ℕ, map, string_bytes, Result, Err, ⊤}
use Rattle.checker.specs.Reading.{Named, ReaderEntry}
use Rattle.checker.specs.BallotsComments.{Remarks}
use Rattle.checker.specs.Names.{Quoting}
use Rattle.checker.specs.Papers.{PapersEntry}
use Rattle.checker.specs.Ranks.{Ranked}
use Rattle.checker.specs.declared.names.Quoted.{Quoted}
use Rattle.checker.specs.declared.problem.BallotsFlaw.{BallotsFlaw}
use Rattle.checker.specs.declared.problem.Problem.{Problem}
use Rattle.checker.specs.declared.problem.Problem.TheVariants as problem
use Rattle.checker.specs.declared.ranks.Ranks.{Ranks}
use Rattle.checker.specs.declared.file_content.Comments.{Comments}
use Rattle.checker.specs.declared.file_content.CandidateNames.{CandidateNames}
use Rattle.checker.specs.declared.file_content.PaperTotals.{PaperTotals}
use Rattle.checker.specs.declared.file_content.Reader.{Reader}
use Rattle.checker.specs.declared.file_content.WardBallots.{WardBallots}

-- the candidates in a line so far
abbrev pub ranks_of : Ranks → Ranked
ranks_of ranks = record { named = ranks.named.items; next = ranks.next }

-- the candidates, the seats and the papers in a file
abbrev pub told_of : PaperTotals → PapersEntry
told_of papers = record { highest = papers.highest; seats = papers.seats; withdrawn = papers.withdrawn; bundles = papers.bundles }

-- the name read so far
abbrev pub quoting_of : Quoted → Quoting
quoting_of quoted = record { name = quoted.name.items; comment = quoted.comment.items; within = quoted.within }

-- the content of our own comments
abbrev pub remarks_of : Comments → Remarks
remarks_of comments = record { ward = comments.ward; rejected = comments.rejected; lots = comments.lots.items }

-- the names in a file
abbrev pub named_of : CandidateNames → Named
named_of names = record { names = map string_bytes names.names.items; ward = string_bytes names.ward }

-- the content of a file so far
abbrev pub reading_of : Reader → ReaderEntry
reading_of reader = record { place = reader.place; papers = told_of reader.papers; names = named_of reader.names; remarks = remarks_of reader.comments }

-- the content of a file that has been read
abbrev pub ballots_of : WardBallots → ReaderEntry
ballots_of ballots = record {
  place = ballots.place;
  papers = record { highest = ballots.highest; seats = ballots.seats; withdrawn = ballots.withdrawn; bundles = ballots.bundles };
  names = named_of ballots.names;
  remarks = remarks_of ballots.comments;
}

-- the flaw in a line, if there is one; or a failed allocation
abbrev pub IsFlawOf : {X : Type 0} → Result X (ℕ × BallotsFlaw) → Problem → Type 0
IsFlawOf told (problem.Line line flaw) = told ≡ Err (line, flaw)
IsFlawOf told problem.Memory = ⊤
IsFlawOf told problem.NoContest = ⊥
IsFlawOf told (problem.LotNeeded stage among) = ⊥
IsFlawOf told (problem.LotNotAmong stage) = ⊥
IsFlawOf told (problem.LotNotNeeded stage) = ⊥

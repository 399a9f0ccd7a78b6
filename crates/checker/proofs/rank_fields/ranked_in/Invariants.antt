-- The invariant of the loop in `ranked_in`: the remaining bytes, after those read so far, determine the paper.
use Rattle.std.proofs.Common.{◌≡◌, Ok, drop, map}
use Rattle.std.specs.Prelude.{fold, string_bytes}
use Rattle.checker.specs.Fields.{begun, with_byte}
use Rattle.checker.specs.RankFields.{nothing_ranked, with_rank_field}
use Rattle.checker.specs.RankViews.{reader_told}
use Rattle.checker.proofs.rank_fields.ranked_in.Given as goal

abbrev pub invariant-loop-byte : goal.invariant-loop-byte
invariant-loop-byte l = fold (with_byte (with_rank_field (map string_bytes l.names) l.ranks)) (reader_told l.reader) (drop l.byte-index l.line)
    ≡ fold (with_byte (with_rank_field (map string_bytes l.names) l.ranks)) (begun (Ok nothing_ranked)) l.line

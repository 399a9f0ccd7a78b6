-- The invariant of the loop in `field_count`: one more than the commas so far, and the remaining ones, are all the fields.
use Rattle.std.proofs.Common.{◌≡◌, ◌+◌, ◌==◌, take}
use Rattle.std.specs.List.{count_by}
use Rattle.count_office.proofs.remark_words.field_count.Given as goal

abbrev pub invariant-loop-byte : goal.invariant-loop-byte
invariant-loop-byte l = l.count ≡ count_by (λ b. b == 44) (take l.byte-index l.byte-items) + 1

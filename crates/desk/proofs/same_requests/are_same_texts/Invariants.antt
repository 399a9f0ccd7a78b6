-- The invariant of the loop in `are_same_texts`: the texts so far are the same.
use Rattle.std.proofs.Common.{◌≡◌, map, string_bytes, take}
use Rattle.desk.proofs.same_requests.are_same_texts.Given as goal

abbrev pub invariant-loop-place : goal.invariant-loop-place
invariant-loop-place l = map string_bytes (take l.place l.texts) ≡ map string_bytes (take l.place l.others)

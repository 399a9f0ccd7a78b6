-- The invariant of the loop in `elected_in`: the elected candidates so far, followed by those among the remaining ones, are all elected candidates.
use Rattle.std.proofs.Common.{◌≡◌, ◌++◌, drop, map, nat_eq}
use Rattle.std.specs.List.{filter, list_any}
use Rattle.sheet.specs.Entries.{candidates_shown}
use Rattle.sheet.specs.Index.{elected_shown}
use Rattle.checker.proofs.folder_texts.elected_in.Given as goal

abbrev pub invariant-loop-c : goal.invariant-loop-c
invariant-loop-c l = map elected_shown l.names.items ++ filter (λ candidate. list_any (nat_eq candidate.0) l.elected) (candidates_shown (drop l.c-index l.c-items))
    ≡ filter (λ candidate. list_any (nat_eq candidate.0) l.elected) (candidates_shown l.c-items)

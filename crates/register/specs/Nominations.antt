-- The result of nominations in a ward: whether its election is contested, and which candidates each phase requires.
use Rattle.std.specs.Prelude.{Bool, true, not, ◌==◌, nat_lt, List, length}
use Rattle.register.specs.declared.phase.Phase.{Phase}
use Rattle.register.specs.declared.phase.Phase.TheVariants.{Nominations, Keying, Sealed, Declared}
use Rattle.register.specs.Offices.{WardEntry, CandidateEntry}

-- an election is contested if there are more candidates than seats; otherwise all candidates are elected without a poll
abbrev pub is_contested : WardEntry → List CandidateEntry → Bool
is_contested w candidates = nat_lt w.seats (length candidates)

-- there is at least one candidate
abbrev pub is_stood_in : List CandidateEntry → Bool
is_stood_in candidates = not (length candidates == 0)

-- which candidates each phase requires of a ward: more candidates than seats during keying, at least one candidate once the
-- ward is sealed
abbrev pub are_enough : Phase → WardEntry → List CandidateEntry → Bool
are_enough Nominations w candidates = true
are_enough Keying w candidates = is_contested w candidates
are_enough Sealed w candidates = is_stood_in candidates
are_enough Declared w candidates = is_stood_in candidates

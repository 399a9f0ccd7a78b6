-- The conditions that the batches of a state, their keyings and their verdicts must meet.
use Rattle.std.specs.Prelude.{ℕ, ◌+◌, Bool, true, false, not, ◌&&◌, ◌||◌, ◌==◌, nat_le, List, [], ◌∷◌, length, Option, Some, None}
use Rattle.std.specs.List.{list_all, range_with_len}
use Rattle.register.specs.Phases.{phase_number}
use Rattle.register.specs.declared.phase.Phase.TheVariants.{Nominations}
use Rattle.register.specs.Offices.{WardEntry, CandidateEntry, BatchEntry, ThirdEntry, KeyedEntry, JudgedEntry, OfficeState, ward_at, candidates_of, third_at}
use Rattle.register.specs.Nominations.{is_contested}
use Rattle.register.specs.Marks.{columns_of, is_readable, is_valid}
use Rattle.register.specs.Agreement.{differ, has_doubtful, is_its_clerk, keyings_in, taken_papers}
use Rattle.register.specs.Verdicts.{is_rejection_code}

-- ---- batches

-- a ward exists, is past nominations, and is contested
abbrev pub is_polled : Option WardEntry → List CandidateEntry → Bool
is_polled None candidates = false
is_polled (Some w) candidates = not (phase_number w.phase == phase_number Nominations) && is_contested w candidates

-- a batch has two different clerks and belongs to a contested ward that is past nominations
abbrev pub is_given_out : OfficeState → BatchEntry → Bool
is_given_out s b = not (b.first_clerk == b.second_clerk) && is_polled (ward_at s b.ward) (candidates_of s b.ward)

-- a third clerk belongs to an existing batch and is neither of its two clerks
abbrev pub is_third_for : ThirdEntry → Option BatchEntry → Bool
is_third_for t None = false
is_third_for t (Some b) = not (t.clerk == b.first_clerk) && not (t.clerk == b.second_clerk)

-- ---- keyings

-- the columns used to read a batch's papers
abbrev pub columns_for : OfficeState → BatchEntry → List ℕ
columns_for s b = columns_of (candidates_of s b.ward)

-- a paper is keyed in a round no later than the batch's current one, by one of the batch's clerks, with marks that can be
-- read with the batch's columns
abbrev pub is_keyed_for : OfficeState → KeyedEntry → Option BatchEntry → Bool
is_keyed_for s k None = false
is_keyed_for s k (Some b) = nat_le k.round b.round && (is_its_clerk k.clerk b (third_at s b.number) && is_readable (columns_for s b) k.marks)

-- papers are numbered consecutively from the given number
unfoldable pub are_numbered : ℕ → List KeyedEntry → Bool
are_numbered paper [] = true
are_numbered paper (k ∷ ks) = (k.paper == paper) && are_numbered (paper + 1) ks

-- a keying consists of exactly the papers from 1 to the given number, in order
abbrev pub is_whole : ℕ → List KeyedEntry → Bool
is_whole size keying = (length keying == size) && are_numbered 1 keying

-- a round of a batch is valid: every keying is complete and, if the round is an earlier one, it has at least two keyings, no two
-- of which are equal
abbrev pub is_round_of : OfficeState → BatchEntry → ℕ → Bool
is_round_of s b round = list_all (is_whole b.size) (keyings_in s b round) && (nat_le b.round round || differ (keyings_in s b round))

-- every round from the first to the given one is valid
unfoldable pub are_rounds_to : OfficeState → BatchEntry → ℕ → Bool
are_rounds_to s b rounds = list_all (is_round_of s b) (range_with_len 1 rounds)

-- ---- verdicts

-- a verdict is on a doubtful paper of a keying: it either accepts the paper with marks that make it valid, or rejects it
-- without marks
abbrev pub is_verdict_on : List ℕ → List KeyedEntry → JudgedEntry → Bool
is_verdict_on columns keying v = has_doubtful keying v.paper && (((v.code == 0) && is_valid columns v.marks) || (is_rejection_code v.code && (length v.marks == 0)))

-- a verdict is on a doubtful paper among a batch's agreed papers; a batch that isn't taken has no verdicts
abbrev pub is_verdict_for : OfficeState → BatchEntry → JudgedEntry → Bool
is_verdict_for s b v = is_verdict_on (columns_for s b) (taken_papers s b) v

-- all the given verdicts are on doubtful papers among the batch's agreed papers
abbrev pub is_judged : OfficeState → BatchEntry → List JudgedEntry → Bool
is_judged s b verdicts = list_all (is_verdict_for s b) verdicts

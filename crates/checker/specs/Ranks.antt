-- The preferences on a line of papers. A paper is read up to the first rank shared by several candidates who haven't withdrawn, as the Order requires.
use Rattle.std.specs.Prelude.{ℕ, ◌+◌, Bool, not, ◌==◌, nat_eq, nat_lt, if◌then◌else◌, List, [], ◌∷◌, ◌++◌, Result, Ok, Err, codes}
use Rattle.std.specs.List.{filter, list_any}
use Rattle.std.specs.Cmp.Lexicographic.{pointwise}
use Rattle.checker.specs.Outcomes.{and_then}
use Rattle.checker.specs.Numbers.{candidate_in}
use Rattle.checker.specs.Tokens.{Text, pieces_of}
use Rattle.checker.specs.declared.tokens.Separator.TheVariants.{Equals}
use Rattle.checker.specs.declared.problem.BallotsFlaw.{BallotsFlaw}
use Rattle.checker.specs.declared.problem.BallotsFlaw.TheVariants.{CandidateTwice, NoZero}
use Rattle.checker.specs.declared.ranks.NextWord.{NextWord}
use Rattle.checker.specs.declared.ranks.NextWord.TheVariants.{Preference, BehindShared, BehindZero}

-- the candidates in a line so far, and the position of its next word
pub record Ranked : Type 0 where
  pub named : List ℕ
  pub next : NextWord

-- `0`, which ends a line
abbrev pub is_zero : Text → Bool
is_zero word = pointwise nat_eq word (codes "0")

-- the same line, with another position for the next word
abbrev pub at_next : NextWord → Ranked → Ranked
at_next next ranks = record { named = ranks.named; next = next }

-- another candidate, who must not have appeared before
abbrev pub with_named : Ranked → ℕ → Result Ranked BallotsFlaw
with_named ranks c =
    if list_any (λ d. d == c) ranks.named then Err CandidateTwice else Ok (record { named = ranks.named ++ c ∷ []; next = ranks.next })

-- the candidate whose number is in the given word
abbrev pub with_candidate : ℕ → Ranked → Text → Result Ranked BallotsFlaw
with_candidate highest ranks word = and_then (candidate_in highest word) (with_named ranks)

-- several candidates in order
abbrev pub with_each : ℕ → Ranked → List Text → Result Ranked BallotsFlaw
with_each highest ranks [] = Ok ranks
with_each highest ranks (word ∷ words) = and_then (with_candidate highest ranks word) (λ more. with_each highest more words)

-- `3`, or `3=4`: the numbers of the candidates who share a rank
abbrev pub sharers : Text → List Text
sharers word = pieces_of Equals [] word

-- the number of candidates who haven't withdrawn, once c is included
abbrev pub standing_with : List ℕ → ℕ → ℕ → ℕ
standing_with withdrawn standing c = if list_any (nat_eq c) withdrawn then standing else standing + 1

-- how many of the candidates in the given words haven't withdrawn, added to the number of earlier ones
abbrev pub standing_from : ℕ → List ℕ → ℕ → List Text → Result ℕ BallotsFlaw
standing_from highest withdrawn standing [] = Ok standing
standing_from highest withdrawn standing (word ∷ words) =
    and_then (candidate_in highest word) (λ c. standing_from highest withdrawn (standing_with withdrawn standing c) words)

-- another rank, given how many of its candidates haven't withdrawn. If there are several, no preference is read after it. Otherwise all its
-- candidates become preferences, since all but at most one have withdrawn and are skipped.
abbrev pub with_rank : NextWord → ℕ → Ranked → List Text → ℕ → Result Ranked BallotsFlaw
with_rank Preference highest ranks words standing = if nat_lt 1 standing then Ok (at_next BehindShared ranks) else with_each highest ranks words
with_rank BehindShared highest ranks words standing = Ok ranks
with_rank BehindZero highest ranks words standing = Err NoZero

-- the word for a rank
abbrev pub with_rank_word : ℕ → List ℕ → Ranked → Text → Result Ranked BallotsFlaw
with_rank_word highest withdrawn ranks word = and_then (standing_from highest withdrawn 0 (sharers word)) (with_rank ranks.next highest ranks (sharers word))

-- another word: 0 ends the line, and any other word must be a rank, even after a shared one
abbrev pub with_word_at : NextWord → ℕ → List ℕ → Ranked → Text → Result Ranked BallotsFlaw
with_word_at BehindZero highest withdrawn ranks word = Err NoZero
with_word_at next highest withdrawn ranks word = if is_zero word then Ok (at_next BehindZero ranks) else with_rank_word highest withdrawn ranks word

abbrev pub with_word : ℕ → List ℕ → Ranked → Text → Result Ranked BallotsFlaw
with_word highest withdrawn ranks word = with_word_at ranks.next highest withdrawn ranks word

-- the word for a rank that isn't shared, which is a number; the result is the same, by the law `alone_word`
abbrev pub with_alone : NextWord → ℕ → Ranked → Text → Result Ranked BallotsFlaw
with_alone Preference highest ranks word = with_candidate highest ranks word
with_alone BehindShared highest ranks word = and_then (candidate_in highest word) (λ c. Ok ranks)
with_alone BehindZero highest ranks word = Err NoZero

-- the candidates in a complete line
abbrev pub named_at : NextWord → List ℕ → Result (List ℕ) BallotsFlaw
named_at Preference named = Err NoZero
named_at BehindShared named = Err NoZero
named_at BehindZero named = Ok named

abbrev pub named_of : Ranked → Result (List ℕ) BallotsFlaw
named_of ranks = named_at ranks.next ranks.named

-- the candidates in the given words, after earlier ones
abbrev pub named_from : ℕ → List ℕ → Ranked → List Text → Result (List ℕ) BallotsFlaw
named_from highest withdrawn ranks [] = named_of ranks
named_from highest withdrawn ranks (word ∷ words) = and_then (with_word highest withdrawn ranks word) (λ more. named_from highest withdrawn more words)

-- the candidates in the words that follow a number of papers, in order, up to a shared rank or the 0
abbrev pub named_in : ℕ → List ℕ → List Text → Result (List ℕ) BallotsFlaw
named_in highest withdrawn words = named_from highest withdrawn (record { named = []; next = Preference }) words

-- the candidates who haven't withdrawn
abbrev pub without : List ℕ → List ℕ → List ℕ
without withdrawn named = filter (λ c. not (list_any (nat_eq c) withdrawn)) named

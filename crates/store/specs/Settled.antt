-- The ballots of a batch's papers, added to those counted before.
use Rattle.std.specs.Prelude.{ℕ, List, ◌++◌}
use Rattle.register.specs.declared.polls.Judgement.{Judgement}
use Rattle.register.specs.declared.polls.Ballots.{Ballots}
use Rattle.register.specs.Offices.{KeyedEntry, JudgedEntry}
use Rattle.register.specs.Polls.{StandFor, judgements_on, ballots_by}

-- whichever judgements were counted before, those on these papers are counted after them
abbrev pub CountAfter : {P : Type 0} → (P → List (List ℕ) → Type 0) → (List Judgement → Type 0) → List ℕ → List JudgedEntry → Ballots P → List KeyedEntry → Type 0
CountAfter holds were_counted columns verdicts ballots papers = (js : List Judgement) → were_counted js → StandFor holds ballots (ballots_by (js ++ judgements_on columns verdicts papers))

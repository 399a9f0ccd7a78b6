-- The verdict that a word denotes.
use Rattle.std.specs.Prelude.{ℕ, nat_eq, drop, length, Option, Some, None, codes, if◌then◌else◌, option_map, string_bytes}
use Rattle.std.specs.List.{starts_with}
use Rattle.clap.specs.Words.{Text}
use Rattle.register.specs.declared.verdicts.Verdict.{Verdict}
use Rattle.register.specs.declared.verdicts.Verdict.TheVariants as verdict
use Rattle.desk.specs.Numbers.{number_in}

-- a verdict on a doubtful paper: it counts with the given marks, or it is rejected for the reason with the given code
pub data Judgement : Type 0 where
  accepted : Text → Judgement
  rejected : ℕ → Judgement

-- the verdict of a command
abbrev pub judgement_given : Verdict → Judgement
judgement_given (verdict.Accept marks) = accepted (string_bytes marks)
judgement_given (verdict.Reject code) = rejected code

-- the text after a prefix; None if the text doesn't begin with it
abbrev pub behind : Text → Text → Option Text
behind front t = if starts_with nat_eq t front then Some (drop (length front) t) else None

-- a rejection, given the text after `reject:`
abbrev pub rejection_in : Option Text → Option Judgement
rejection_in None = None
rejection_in (Some code) = option_map rejected (number_in code)

-- a verdict, given the text after `accept:` if there is one, and otherwise the text after `reject:`
abbrev pub judged_by : Option Text → Option Text → Option Judgement
judged_by (Some marks) code = Some (accepted marks)
judged_by None code = rejection_in code

-- the verdict that a word denotes: `accept:` followed by a marks text, or `reject:` followed by a number
abbrev pub judgement_in : Text → Option Judgement
judgement_in t = judged_by (behind (codes "accept:") t) (behind (codes "reject:") t)

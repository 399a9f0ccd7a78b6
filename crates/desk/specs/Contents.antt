-- What a command asks for, in one form for all commands: its kind, up to five numbers, a text, and texts of papers. The form says all of it.
use Rattle.std.specs.Prelude.{ℕ, List, [], Option, Some, None, map, option_map, string_bytes}
use Rattle.clap.specs.Words.{Text}
use Rattle.desk.specs.Orders.{Asked, batch_for_third_clerk, batch_to_add, batch_to_key_again, candidate_to_add, candidate_to_withdraw, keying_to_keep, lot_to_record}
use Rattle.desk.specs.Orders.{paper_to_judge, stage_to_count, ward_to_add, ward_to_close, ward_to_declare, ward_to_seal}
use Rattle.desk.specs.Verdicts.{accepted, rejected}
use Rattle.desk.specs.declared.same_requests.Content.{Content}
use Rattle.desk.specs.declared.same_requests.Numbers.{Numbers}

-- the mathematical value of such a form
pub record ContentEntry : Type 0 where
  pub kind : ℕ
  pub numbers : Numbers
  pub text : Text
  pub papers : Option (List Text)

abbrev pub content_entry : Content → ContentEntry
content_entry c = record { kind = c.kind; numbers = c.numbers; text = c.text.now; papers = option_map (λ papers. map string_bytes papers.now) c.papers }

-- up to three numbers, or five
abbrev pub three : ℕ → ℕ → ℕ → Numbers
three a b c = record { first = a; second = b; third = c; fourth = 0; fifth = 0 }

abbrev pub five : ℕ → ℕ → ℕ → ℕ → ℕ → Numbers
five a b c d e = record { first = a; second = b; third = c; fourth = d; fifth = e }

-- a form with nothing but numbers
abbrev pub plain : ℕ → Numbers → ContentEntry
plain kind numbers = record { kind = kind; numbers = numbers; text = []; papers = None }

-- a form with a text, or with papers
abbrev pub with_text : ℕ → Numbers → Text → ContentEntry
with_text kind numbers text = record { kind = kind; numbers = numbers; text = text; papers = None }

abbrev pub with_papers : ℕ → Numbers → List Text → ContentEntry
with_papers kind numbers papers = record { kind = kind; numbers = numbers; text = []; papers = Some papers }

-- what a command asks for, in this form
abbrev pub content_of : Asked → ContentEntry
content_of (ward_to_add ward seats name) = with_text 0 (three ward seats 0) name
content_of (ward_to_close ward) = plain 1 (three ward 0 0)
content_of (candidate_to_add ward candidate name) = with_text 2 (three ward candidate 0) name
content_of (candidate_to_withdraw ward candidate) = plain 3 (three ward candidate 0)
content_of (batch_to_add batch ward size first_clerk second_clerk) = plain 4 (five batch ward size first_clerk second_clerk)
content_of (batch_to_key_again batch) = plain 5 (three batch 0 0)
content_of (batch_for_third_clerk batch clerk) = plain 6 (three batch clerk 0)
content_of (keying_to_keep batch round papers) = with_papers 7 (three batch round 0) papers
content_of (paper_to_judge batch paper (accepted marks)) = with_text 8 (three batch paper 0) marks
content_of (paper_to_judge batch paper (rejected code)) = plain 9 (three batch paper code)
content_of (ward_to_seal ward) = plain 10 (three ward 0 0)
content_of (stage_to_count ward) = plain 11 (three ward 0 0)
content_of (lot_to_record ward stage candidate) = plain 12 (three ward stage candidate)
content_of (ward_to_declare ward) = plain 13 (three ward 0 0)

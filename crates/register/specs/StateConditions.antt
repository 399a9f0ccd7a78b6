-- The conditions that maps must meet to form a state: they are checked one by one when an office is opened, and every step preserves them.
use Rattle.std.specs.Prelude.{◌≡◌, Bool, true, ◌&&◌, ◌||◌, List, ℕ, nat_le, is_some}
use Rattle.std.specs.List.{list_all}
use Rattle.std.specs.Str.{is_utf8}
use Rattle.register.specs.Ranges.{is_office, is_clerk, is_ward_number, is_seat_number, is_candidate_number, is_batch_number, is_paper_number, is_lot_stage, is_round, is_name, is_id, is_reply}
use Rattle.register.specs.Subjects.{is_office_subject, is_clerk_subject}
use Rattle.register.specs.Offices.{WardEntry, CandidateEntry, BatchEntry, ThirdEntry, KeyedEntry, JudgedEntry, LotEntry, ReceiptEntry, OfficeState, ward_at, candidates_of, batch_at}
use Rattle.register.specs.Offices.{verdicts_of, MapsAreSorted}
use Rattle.register.specs.Nominations.{are_enough}
use Rattle.register.specs.Elections.{election_of, is_agreed, is_counted_right}
use Rattle.register.specs.BatchConditions.{is_given_out, is_third_for, is_keyed_for, are_rounds_to, is_judged}

-- a ward whose number, seats and name are in range
unfoldable pub is_ward : WardEntry → Bool
is_ward w = is_ward_number w.number && (is_seat_number w.seats && is_name w.name)

-- a candidate whose ward, number and name are in range
unfoldable pub is_candidate : CandidateEntry → Bool
is_candidate c = is_ward_number c.ward && (is_candidate_number c.number && is_name c.name)

-- a batch whose numbers are in range
unfoldable pub is_batch : BatchEntry → Bool
is_batch b = is_batch_number b.number && (is_ward_number b.ward && (is_paper_number b.size && (is_clerk b.first_clerk && (is_clerk b.second_clerk && is_round b.round))))

-- a third clerk whose numbers are in range
unfoldable pub is_third : ThirdEntry → Bool
is_third t = is_batch_number t.batch && is_clerk t.clerk

-- a keyed paper whose numbers are in range
unfoldable pub is_keyed_paper : KeyedEntry → Bool
is_keyed_paper k = is_batch_number k.batch && (is_round k.round && (is_clerk k.clerk && (is_paper_number k.paper && is_utf8 k.marks)))

-- a judged paper whose numbers are in range
unfoldable pub is_judged_paper : JudgedEntry → Bool
is_judged_paper v = is_batch_number v.batch && (is_paper_number v.paper && (nat_le v.code 5 && is_utf8 v.marks))

-- a lot whose numbers are in range
unfoldable pub is_lot : LotEntry → Bool
is_lot l = is_ward_number l.ward && (is_lot_stage l.stage && is_candidate_number l.candidate)

-- a subject that the actor's receipts may have: the subject of an office command if the actor is the office, or of a clerk's command if the actor is a clerk
abbrev pub is_about : ℕ → List ℕ → Bool
is_about actor subject = (is_office actor && is_office_subject subject) || (is_clerk actor && is_clerk_subject subject)

-- a receipt for the office or for a clerk, with a subject that is permitted for that actor
unfoldable pub is_receipt : ReceiptEntry → Bool
is_receipt r = is_about r.actor r.subject && (is_utf8 r.subject && (is_id r.id && is_reply r.reply))

-- the first condition: numbers, names, ids, phases, subjects and replies are in range
abbrev pub all_in_range : OfficeState → Bool
all_in_range s =
    list_all is_ward s.wards
    && (list_all is_candidate s.candidates && (list_all is_batch s.batches && (list_all is_third s.thirds
    && (list_all is_keyed_paper s.keyings && (list_all is_judged_paper s.verdicts && (list_all is_lot s.lots && list_all is_receipt s.receipts))))))

-- the second condition: every candidate belongs to an existing ward, and every ward has the candidates that its phase requires
abbrev pub all_nominated : OfficeState → Bool
all_nominated s = list_all (λ c. is_some (ward_at s c.ward)) s.candidates && list_all (λ w. are_enough w.phase w (candidates_of s w.number)) s.wards

-- the third condition: every batch belongs to a contested ward that is past nominations and has two different clerks; every third clerk belongs to an
-- existing batch and is neither of its two clerks
abbrev pub all_given_out : OfficeState → Bool
all_given_out s = list_all (is_given_out s) s.batches && list_all (λ t. is_third_for t (batch_at s t.batch)) s.thirds

-- the fourth condition: every keyed paper belongs to an existing batch, one of its rounds and one of its clerks, and its marks can be read; keyings are
-- whole; and the keyings of each earlier round differ
abbrev pub all_keyed : OfficeState → Bool
all_keyed s = list_all (λ k. is_keyed_for s k (batch_at s k.batch)) s.keyings && list_all (λ b. are_rounds_to s b b.round) s.batches

-- the fifth condition: every verdict belongs to an existing batch that is taken, and is on one of its doubtful papers
abbrev pub all_judged : OfficeState → Bool
all_judged s = list_all (λ v. is_some (batch_at s v.batch)) s.verdicts && list_all (λ b. is_judged s b (verdicts_of s b.number)) s.batches

-- the sixth condition: in every contested ward that has been sealed, every batch is taken and every doubtful paper has a verdict
unfoldable pub all_agreed : OfficeState → Bool
all_agreed s = list_all (λ w. is_agreed (election_of s w)) s.wards

-- the seventh condition: every lot belongs to an existing ward; the completed stages and the lots are those of the count, and there are none before the
-- count begins
unfoldable pub all_counted : OfficeState → Bool
all_counted s = list_all (λ l. is_some (ward_at s l.ward)) s.lots && list_all (λ w. is_counted_right (election_of s w)) s.wards

-- the maps of an office: their entries meet every condition and are in key order
pub record IsState (s : OfficeState) : Type 0 where
  pub in_range : all_in_range s ≡ true
  pub nominated : all_nominated s ≡ true
  pub given_out : all_given_out s ≡ true
  pub keyed : all_keyed s ≡ true
  pub judged : all_judged s ≡ true
  pub agreed : all_agreed s ≡ true
  pub counted : all_counted s ≡ true
  pub rise : MapsAreSorted s

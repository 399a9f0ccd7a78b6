-- The example office, checked by computation.
use Rattle.std.proofs.Common.{◌≡◌, true, false, codes, refl}
use Rattle.std.specs.Fmt.{digits}
use Rattle.std.specs.Char.{encode_utf8}
use Rattle.std.specs.Str.{chars, is_utf8}
use Rattle.register.specs.Ranges.{is_name, is_id}
use Rattle.register.specs.Texts.{listed}
use Rattle.register.specs.Agreement.{same_marks}
use Rattle.register.specs.Marks.{first_bad_marks}
use Rattle.register.specs.Wards as wards
use Rattle.register.specs.Candidates as candidates
use Rattle.register.specs.Batches as batches
use Rattle.register.specs.Keyings as keyings
use Rattle.register.specs.Verdicts as verdicts
use Rattle.register.specs.Counts as counts
use Rattle.register.specs.Machine.{step, decided}
use Rattle.register.specs.Repeats.{has_texts}
use Rattle.register.specs.WorkedOffice.{WardRows, NominationRows, KeyedRows, ThirdRows, UncontestedRows, RepeatRows}

-- ---- names

name_harbour : is_name (codes "Harbour") ≡ true
unfolding is_name is_utf8 chars encode_utf8
name_harbour = refl

name_quay : is_name (codes "Quay") ≡ true
unfolding is_name is_utf8 chars encode_utf8
name_quay = refl

name_pier : is_name (codes "Pier") ≡ true
unfolding is_name is_utf8 chars encode_utf8
name_pier = refl

name_dee : is_name (codes "Dee") ≡ true
unfolding is_name is_utf8 chars encode_utf8
name_dee = refl

pub name_eve : is_name (codes "Eve") ≡ true
unfolding is_name is_utf8 chars encode_utf8
name_eve = refl

name_fay : is_name (codes "Fay") ≡ true
unfolding is_name is_utf8 chars encode_utf8
name_fay = refl

pub nameless : is_name (codes "") ≡ false
unfolding is_name is_utf8 chars encode_utf8
nameless = refl

-- ---- rows

pub ward_rows : WardRows
unfolding step decided is_id wards.subject_of wards.reply_to digits
ward_rows =
    record {
      added = λ name is. simp (is, name_harbour) refl;
      again = λ name is. refl;
      id_used = λ name is. refl;
      id_of_capitals = λ name is. refl;
      no_ward_zero = λ name is. refl;
      there_already = λ name is. simp (is, name_pier) refl;
    }

pub nomination_rows : NominationRows
unfolding step decided is_id wards.subject_of wards.reply_to candidates.subject_of candidates.reply_to batches.subject_of batches.reply_to digits
nomination_rows =
    record {
      dee_stands = λ name is. simp (is, name_dee) refl;
      eve_stands = λ name is. simp (is, name_eve) refl;
      fay_stands = λ name is. simp (is, name_fay) refl;
      polled = refl;
      batch_given_out = refl;
      other_given_out = refl;
    }

pub keyed_rows : KeyedRows
unfolding step decided is_id keyings.subject_of keyings.reply_to keyings.papers_from first_bad_marks batches.subject_of batches.reply_to verdicts.subject_of
    verdicts.reply_to counts.subject_of same_marks digits
keyed_rows =
    record {
      first_clerk = λ papers are. simp are refl;
      kept_whatever = λ papers. refl;
      id_used = λ papers. refl;
      keyed_already = λ papers. refl;
      second_clerk = λ papers are. simp are refl;
      taken = refl;
      paper_accepted = λ marks is. simp is refl;
      not_doubtful = refl;
      second_otherwise = λ papers are. simp are refl;
      differs = refl;
      not_ready = refl;
      open_again = refl;
    }

pub third_rows : ThirdRows
unfolding step decided is_id keyings.subject_of keyings.reply_to keyings.papers_from first_bad_marks batches.subject_of batches.reply_to same_marks digits
third_rows =
    record {
      not_his_yet = λ papers. refl;
      one_of_two = refl;
      not_where_they_agree = refl;
      not_before_both = refl;
      set = refl;
      set_already = refl;
      keyed_by_him = λ papers are. simp are refl;
      taken = refl;
      papers = refl;
      taken_otherwise = refl;
      none_agree = refl;
      no_difference = refl;
    }

pub uncontested_rows : UncontestedRows
unfolding step decided is_id wards.subject_of wards.reply_to candidates.subject_of candidates.reply_to counts.subject_of counts.reply_to listed digits
uncontested_rows =
    record {
      added = λ name is. simp (is, name_quay) refl;
      dee_stands = λ name is. simp (is, name_dee) refl;
      eve_stands = λ name is. simp (is, name_eve) refl;
      uncontested = refl;
      nothing_to_count = refl;
      all_elected = refl;
    }

pub repeat_rows : RepeatRows
unfolding has_texts candidates.subject_of digits
repeat_rows =
    record {
      same_ward = λ name is. simp is refl;
      other_seats = λ name is. refl;
      other_name = λ name is. simp is refl;
      same_candidate = λ name is. simp is refl;
      other_candidate = λ name is. simp is refl;
      withdrawn = λ name is. refl;
      given_again = λ name is. simp is refl;
      same_batch = refl;
      other_size = refl;
      same_third = refl;
      other_third = refl;
      same_papers = λ papers are. simp are refl;
      other_papers = λ papers are. simp are refl;
      same_verdict = λ marks is. simp is refl;
      other_verdict = refl;
      opened_again = refl;
    }

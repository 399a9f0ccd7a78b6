-- The form of what a command asks for says all of it.
use Rattle.std.proofs.Common.{◌≡◌, ◌∙◌, ℕ, Bool, List, [], ap, refl, sym}
use Rattle.std.specs.Prelude.{◌==◌, if◌then◌else◌, unwrap_or}
use Rattle.desk.specs.Contents.{ContentEntry, content_of}
use Rattle.desk.specs.Orders.{Asked, batch_for_third_clerk, batch_to_add, batch_to_key_again, candidate_to_add, candidate_to_withdraw, keying_to_keep, lot_to_record}
use Rattle.desk.specs.Orders.{paper_to_judge, stage_to_count, ward_to_add, ward_to_close, ward_to_declare, ward_to_seal}
use Rattle.desk.specs.Verdicts.{accepted, rejected}

-- what is asked for, read from its form
abbrev asked_in : ContentEntry → Asked
asked_in c =
    if c.kind == 0 then ward_to_add c.numbers.first c.numbers.second c.text else (
    if c.kind == 1 then ward_to_close c.numbers.first else (
    if c.kind == 2 then candidate_to_add c.numbers.first c.numbers.second c.text else (
    if c.kind == 3 then candidate_to_withdraw c.numbers.first c.numbers.second else (
    if c.kind == 4 then batch_to_add c.numbers.first c.numbers.second c.numbers.third c.numbers.fourth c.numbers.fifth else (
    if c.kind == 5 then batch_to_key_again c.numbers.first else (
    if c.kind == 6 then batch_for_third_clerk c.numbers.first c.numbers.second else (
    if c.kind == 7 then keying_to_keep c.numbers.first c.numbers.second (unwrap_or c.papers []) else (
    if c.kind == 8 then paper_to_judge c.numbers.first c.numbers.second (accepted c.text) else (
    if c.kind == 9 then paper_to_judge c.numbers.first c.numbers.second (rejected c.numbers.third) else (
    if c.kind == 10 then ward_to_seal c.numbers.first else (
    if c.kind == 11 then stage_to_count c.numbers.first else (
    if c.kind == 12 then lot_to_record c.numbers.first c.numbers.second c.numbers.third else ward_to_declare c.numbers.first))))))))))))

read_back : (a : Asked) → asked_in (content_of a) ≡ a
read_back (ward_to_add ward seats name) = refl
read_back (ward_to_close ward) = refl
read_back (candidate_to_add ward candidate name) = refl
read_back (candidate_to_withdraw ward candidate) = refl
read_back (batch_to_add batch ward size first_clerk second_clerk) = refl
read_back (batch_to_key_again batch) = refl
read_back (batch_for_third_clerk batch clerk) = refl
read_back (keying_to_keep batch round papers) = refl
read_back (paper_to_judge batch paper (accepted marks)) = refl
read_back (paper_to_judge batch paper (rejected code)) = refl
read_back (ward_to_seal ward) = refl
read_back (stage_to_count ward) = refl
read_back (lot_to_record ward stage candidate) = refl
read_back (ward_to_declare ward) = refl

-- two that have the same form are the same
pub same_form : (a b : Asked) → content_of a ≡ content_of b → a ≡ b
same_form a b same = sym (read_back a) ∙ (ap asked_in same ∙ read_back b)

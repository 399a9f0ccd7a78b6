-- The texts of a small ward, written by hand: two papers, a withdrawn number, a name with quotation marks, and a lot.
use Rattle.std.proofs.Common.{◌≡◌, ◌++◌, true, [], ◌∷◌, refl}
use Rattle.std.specs.Fmt.{digits}
use Rattle.std.specs.List.Sorted.{IsStrictlySortedBy}
use Rattle.std.specs.Char.{encode_utf8}
use Rattle.std.specs.Prelude.{codes}
use Rattle.std.specs.Str.{chars, is_utf8}
use Rattle.count.specs.Law.Count.{stages_to}
use Rattle.sheet.specs.Lines.{joined, line}
use Rattle.publication.specs.Files.{names}
use Rattle.register.specs.StateConditions.{IsState, is_batch, is_candidate, is_judged_paper, is_keyed_paper, is_lot, is_ward, all_agreed, all_counted}
use Rattle.register.specs.BatchConditions.{are_numbered, are_rounds_to}
use Rattle.register.specs.Ranges.{is_name}
use Rattle.register.specs.Offices.{OfficeState, WardEntry, empty_office}
use Rattle.register.specs.Agreement.{same_marks}
use Rattle.register.specs.Elections.{election_of}
use Rattle.register.specs.declared.phase.Phase.TheVariants.{Declared}
use Rattle.register.specs.WorkedOffice.{batch_in, keyed}
use Rattle.paper.specs.Preferences.{preferences_from}
use Rattle.office.specs.declared.sheets.WardText.TheVariants.{Ballots, Declaration, Sheet}
use Rattle.published_office.specs.OfficeFolder.{published_of}
use Rattle.sheet_round_trip.specs.OwnTexts.{IsFinished, IsTold, IsWardOf}

-- Harbour has two seats and three candidates; number 2 withdrew. Two clerks keyed its two papers identically, the second as doubtful,
-- which was accepted. At stage 3 the remaining two were tied, and the lot fell on 4.
abbrev harbour : WardEntry
harbour = record { number = 7; seats = 2; phase = Declared; done = 3; name = codes "Harbour" }

abbrev worked : OfficeState
worked = record empty_office {
  wards = harbour ∷ [];
  candidates =
      record { ward = 7; number = 1; name = codes "Dee" } ∷ record { ward = 7; number = 3; name = codes "Eve \"Bo\"" } ∷ record { ward = 7; number = 4; name = codes "Fay" } ∷ [];
  batches = batch_in 1 ∷ [];
  keyings = keyed 4 (codes "1,2,") ++ keyed 9 (codes "1,2,");
  verdicts = record { batch = 12; paper = 2; code = 0; marks = codes "1,,2" } ∷ [];
  lots = record { ward = 7; stage = 3; candidate = 4 } ∷ [];
}

finished : IsFinished (election_of worked harbour)
unfolding stages_to same_marks preferences_from
finished = refl

is_state : IsState worked
unfolding stages_to same_marks preferences_from is_ward is_candidate is_batch is_keyed_paper is_judged_paper is_lot is_name is_utf8 chars encode_utf8
    are_rounds_to are_numbered all_agreed all_counted IsStrictlySortedBy
is_state = record {
  in_range = refl;
  nominated = refl;
  given_out = refl;
  keyed = refl;
  judged = refl;
  agreed = refl;
  counted = refl;
  rise = record {
    wards = (tt, tt);
    candidates = ((refl, (refl, tt)), ((refl, tt), (tt, tt)));
    batches = (tt, tt);
    thirds = tt;
    keyings =
        ((refl, (refl, (refl, tt))), ((refl, (refl, tt)), ((refl, tt), (tt, tt))));
    verdicts = (tt, tt);
    lots = (tt, tt);
    receipts = tt;
  };
}

its_ward : IsWardOf worked harbour
its_ward = record { state = is_state; there = refl }

ballots_told : IsTold worked harbour Ballots
    (codes "4 2\n-2\n1 1 3 0\n1 1 4 0\n0\n\"Dee\"\n\"withdrawn\"\n\"Eve \\\"Bo\\\"\"\n\"Fay\"\n\"Harbour\"\n# Ward 7\n# Rejected 1: 0, 2: 0, 3: 0, 4: 0, 5: 0\n# Lot at stage 3: 4\n")
unfolding same_marks preferences_from line digits
ballots_told = refl

declaration_told : IsTold worked harbour Declaration (codes "Ward 7 Harbour\nElected\n 1 Dee\n 3 Eve \"Bo\"\n")
unfolding stages_to same_marks preferences_from line digits
declaration_told = refl

sheet_told : IsTold worked harbour Sheet
    (codes "Ward 7 Harbour\nSeats 2, valid 2, quota 1.00000\nRejected 1: 0, 2: 0, 3: 0, 4: 0, 5: 0\n"
    ++ codes "Stage 1: first preferences\n 1       2.00000 E Dee\n 3       0.00000 - Eve \"Bo\"\n 4       0.00000 - Fay\n         0.00000 non-transferable\n         0.00000 lost by fractions\n"
    ++ codes "Stage 2: surplus of 1\n 1       1.00000 e Dee\n 3       0.50000 - Eve \"Bo\"\n 4       0.50000 - Fay\n         0.00000 non-transferable\n         0.00000 lost by fractions\n"
    ++ codes "Stage 3: exclusion of 4, last vacancies\n 1       1.00000 e Dee\n 3       0.50000 E Eve \"Bo\"\n 4       0.50000 x Fay\n         0.00000 non-transferable\n         0.00000 lost by fractions\n")
unfolding stages_to same_marks preferences_from line digits
sheet_told = refl

-- the files that are published of it with the ballots
files_published : names (published_of (codes "Council") true worked) ≡
    codes "index.html" ∷ codes "ward-7.html" ∷ codes "ward-7-sheet.txt" ∷ codes "ward-7-declaration.txt" ∷ codes "ward-7-table.csv" ∷ codes "ward-7-ballots.txt"
    ∷ codes "results.json" ∷ codes "check.html" ∷ codes "SHA256SUMS" ∷ []
unfolding digits joined
files_published = refl

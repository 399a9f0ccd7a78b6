-- Computed examples of import files: their rows and their faults.
use Rattle.std.proofs.Common.{◌≡◌, ℕ, List, [], ◌∷◌, ◌++◌, codes, Result, Ok, Err, refl}
use Rattle.std.specs.Str.{chars, is_utf8}
use lib.Utf8.{encode}
use Rattle.csv.specs.Machine.{next_record}
use Rattle.csv.specs.Reading.{records_from, strip_bom}
use Rattle.keyfile.specs.Batches.{BatchRowEntry, batches}
use Rattle.keyfile.specs.Candidates.{CandidateEntry, candidates}
use Rattle.keyfile.specs.Files.{fault_at, file_rows}
use Rattle.keyfile.specs.Keying.{keying}
use Rattle.keyfile.specs.Records.{file_records}
use Rattle.keyfile.specs.declared.fault.FileFault.{FileFault}
use Rattle.keyfile.specs.declared.fault.Flaw.TheVariants.{Header, RecordLength, Number, PaperOrder, Marks, NotUtf8, OtherKeying}

-- clerk 4's keying of batch 12, whose papers have the columns 1, 2 and 3
abbrev keying_of : List ℕ → Result (List (List ℕ)) FileFault
keying_of bytes = file_rows (keying (1 ∷ 2 ∷ 3 ∷ []) 12 4) (file_records bytes)

-- that keying, given the records after its header
abbrev papers_of : List ℕ → Result (List (List ℕ)) FileFault
papers_of bytes = keying_of (codes "paper,1,2,3" ++ 10 ∷ bytes)

abbrev candidates_of : List ℕ → Result (List CandidateEntry) FileFault
candidates_of bytes = file_rows candidates (file_records (codes "ward,candidate,name" ++ 10 ∷ bytes))

abbrev batches_of : List ℕ → Result (List BatchRowEntry) FileFault
batches_of bytes = file_rows batches (file_records (codes "batch,ward,size,first clerk,second clerk" ++ 10 ∷ bytes))

two_papers : papers_of (codes "1,1,2," ++ 10 ∷ codes "2,D,," ++ 10 ∷ []) ≡ Ok (codes "1,2," ∷ codes "D" ∷ [])
unfolding chars encode is_utf8 next_record records_from strip_bom
two_papers = refl

cut_in_a_record : papers_of (codes "1,1,2," ++ 10 ∷ codes "2,D") ≡ Err (fault_at 2 RecordLength)
unfolding chars encode is_utf8 next_record records_from strip_bom
cut_in_a_record = refl

cut_between_records : papers_of (codes "1,1,2," ++ 10 ∷ []) ≡ Ok (codes "1,2," ∷ [])
unfolding chars encode is_utf8 next_record records_from strip_bom
cut_between_records = refl

empty_file : keying_of [] ≡ Err (fault_at 0 Header)
unfolding chars encode is_utf8 next_record records_from strip_bom
empty_file = refl

columns_not_ascending : keying_of (codes "paper,1,3,2") ≡ Err (fault_at 0 Header)
unfolding chars encode is_utf8 next_record records_from strip_bom
columns_not_ascending = refl

byte_order_mark : keying_of (239 ∷ 187 ∷ 191 ∷ codes "paper,1,2,3") ≡ Ok []
unfolding chars encode is_utf8 next_record records_from strip_bom
byte_order_mark = refl

own_batch_and_clerk : keying_of (codes "paper 12/4,1,2,3" ++ 10 ∷ codes "1,1,2,") ≡ Ok (codes "1,2," ∷ [])
unfolding chars encode is_utf8 next_record records_from strip_bom
own_batch_and_clerk = refl

another_batch : keying_of (codes "paper 13/4,1,2,3") ≡ Err (fault_at 0 (OtherKeying 13 4))
unfolding chars encode is_utf8 next_record records_from strip_bom
another_batch = refl

another_clerk : keying_of (codes "paper 12/9,1,2,3") ≡ Err (fault_at 0 (OtherKeying 12 9))
unfolding chars encode is_utf8 next_record records_from strip_bom
another_clerk = refl

-- a file for a batch from another ward has other columns, but what is reported is the batch that it names
another_ward : keying_of (codes "paper 13/9,1,2") ≡ Err (fault_at 0 (OtherKeying 13 9))
unfolding chars encode is_utf8 next_record records_from strip_bom
another_ward = refl

another_ward_longer : keying_of (codes "paper 13/4,1,3,2,4") ≡ Err (fault_at 0 (OtherKeying 13 4))
unfolding chars encode is_utf8 next_record records_from strip_bom
another_ward_longer = refl

no_columns : keying_of (codes "paper 12/9") ≡ Err (fault_at 0 (OtherKeying 12 9))
unfolding chars encode is_utf8 next_record records_from strip_bom
no_columns = refl

-- if the header names neither batch nor clerk, or names this batch and clerk, the columns decide
own_with_other_columns : keying_of (codes "paper 12/4,1,2") ≡ Err (fault_at 0 Header)
unfolding chars encode is_utf8 next_record records_from strip_bom
own_with_other_columns = refl

nobody_with_other_columns : keying_of (codes "paper,1,2,3,4") ≡ Err (fault_at 0 Header)
unfolding chars encode is_utf8 next_record records_from strip_bom
nobody_with_other_columns = refl

own_without_papers : keying_of (codes "paper 12/4,1,2,3") ≡ Ok []
unfolding chars encode is_utf8 next_record records_from strip_bom
own_without_papers = refl

nobody_without_papers : keying_of (codes "paper,1,2,3") ≡ Ok []
unfolding chars encode is_utf8 next_record records_from strip_bom
nobody_without_papers = refl

-- a first field that names a batch and a clerk in any other spelling isn't a header
mistyped_with_other_columns : keying_of (codes "paper 13/09,1,2") ≡ Err (fault_at 0 Header)
unfolding chars encode is_utf8 next_record records_from strip_bom
mistyped_with_other_columns = refl

column_that_is_no_text : keying_of (codes "paper 13/9," ++ 255 ∷ []) ≡ Err (fault_at 0 Header)
unfolding chars encode is_utf8 next_record records_from strip_bom
column_that_is_no_text = refl

no_such_batch : keying_of (codes "paper 10000/4,1,2,3") ≡ Err (fault_at 0 Header)
unfolding chars encode is_utf8 next_record records_from strip_bom
no_such_batch = refl

clerk_left_out : keying_of (codes "paper 12,1,2,3") ≡ Err (fault_at 0 Header)
unfolding chars encode is_utf8 next_record records_from strip_bom
clerk_left_out = refl

short_record : papers_of (codes "1,1,2") ≡ Err (fault_at 1 RecordLength)
unfolding chars encode is_utf8 next_record records_from strip_bom
short_record = refl

leading_zero : papers_of (codes "01,1,2,") ≡ Err (fault_at 1 Number)
unfolding chars encode is_utf8 next_record records_from strip_bom
leading_zero = refl

second_paper_first : papers_of (codes "2,1,2,") ≡ Err (fault_at 1 PaperOrder)
unfolding chars encode is_utf8 next_record records_from strip_bom
second_paper_first = refl

comma_in_a_mark : papers_of (codes "1,\"1,2\",,") ≡ Err (fault_at 1 Marks)
unfolding chars encode is_utf8 next_record records_from strip_bom
comma_in_a_mark = refl

no_text : papers_of (codes "1," ++ 255 ∷ codes ",,") ≡ Err (fault_at 1 NotUtf8)
unfolding chars encode is_utf8 next_record records_from strip_bom
no_text = refl

letter_beside_a_mark : papers_of (codes "1,D,1,") ≡ Ok (codes "D,1," ∷ [])
unfolding chars encode is_utf8 next_record records_from strip_bom
letter_beside_a_mark = refl

quoted_name : candidates_of (codes "7,1,Ann" ++ 10 ∷ codes "7,2,\"Bob, jr\"") ≡ Ok ((7, 1, codes "Ann") ∷ (7, 2, codes "Bob, jr") ∷ [])
unfolding chars encode is_utf8 next_record records_from strip_bom
quoted_name = refl

a_batch : batches_of (codes "12,7,50,4,9") ≡ Ok (record { batch = 12; ward = 7; size = 50; first_clerk = 4; second_clerk = 9 } ∷ [])
unfolding chars encode is_utf8 next_record records_from strip_bom
a_batch = refl

a_clerk_is_missing : batches_of (codes "12,7,50,4,") ≡ Err (fault_at 1 Number)
unfolding chars encode is_utf8 next_record records_from strip_bom
a_clerk_is_missing = refl

-- Computed examples of codes files: what is read from them, which credentials are accepted, and which file is made.
use Rattle.std.proofs.Common.{◌≡◌, ℕ, true, false, List, [], ◌∷◌, codes, None, Some, Ok, Err, refl}
use Rattle.std.specs.Fmt.{digits}
use Rattle.base64.specs.Rfc4648.{encode_symbols}
use Rattle.codes.specs.Codes.{is_of, is_office}
use Rattle.codes.specs.Files.{file_in, holders_by, office_held, office_in}
use Rattle.codes.specs.Making.{is_file_for, letters_drawn, text_with}
use Rattle.codes.specs.declared.fault.CodeFlaw.TheVariants.{BadCode, CodeTwice, NoEntry, OfficeTwice, ShortOffice}
use Rattle.codes.specs.declared.fault.CodesFault.TheVariants.{Line}
use Rattle.codes.specs.declared.range.ClerkRange.{ClerkRange}

-- ---- what is read

clerks_alone : file_in (codes "4 kf7m-2wxt\n\n9 w3hd-4psn\n") ≡ Ok (record {
  clerks = record { clerk = 4; code = codes "kf7m-2wxt" } ∷ record { clerk = 9; code = codes "w3hd-4psn" } ∷ [];
  office = None;
})
clerks_alone = refl

between_clerks : file_in (codes "4 kf7m-2wxt\noffice abcd-efgh-jkmn-prst\r\n9 w3hd-4psn") ≡ Ok (record {
  clerks = record { clerk = 4; code = codes "kf7m-2wxt" } ∷ record { clerk = 9; code = codes "w3hd-4psn" } ∷ [];
  office = Some (codes "abcd-efgh-jkmn-prst");
})
between_clerks = refl

-- sixteen bytes other than hyphens are enough, with or without hyphens, and punctuation counts
sixteen : office_in (codes "office abcdefghjkmnprst") ≡ Some (codes "abcdefghjkmnprst")
sixteen = refl

twelve_and_signs : office_in (codes "office kf7m-2wxt-h4dn!?+*") ≡ Some (codes "kf7m-2wxt-h4dn!?+*")
twelve_and_signs = refl

fifteen : file_in (codes "office abcd-efgh-jkmn-prs") ≡ Err (Line 1 ShortOffice)
fifteen = refl

-- a code made for a clerk is too short for the office
twelve : file_in (codes "4 kf7m-2wxt\noffice kf7m-2wxt-h4dn\n") ≡ Err (Line 2 ShortOffice)
twelve = refl

no_code : file_in (codes "office") ≡ Err (Line 1 BadCode)
no_code = refl

two_blanks : file_in (codes "office  abcd-efgh-jkmn-prst") ≡ Err (Line 1 BadCode)
two_blanks = refl

seven_letters : file_in (codes "office kf7m-2w") ≡ Err (Line 1 BadCode)
seven_letters = refl

office_twice : file_in (codes "office abcd-efgh-jkmn-prst\n4 kf7m-2wxt\noffice jkmn-prst-abcd-efgh\n") ≡ Err (Line 3 OfficeTwice)
office_twice = refl

a_clerks_code : file_in (codes "4 abcd-efgh-jkmn-prst\noffice abcd-efgh-jkmn-prst\n") ≡ Err (Line 2 CodeTwice)
a_clerks_code = refl

the_offices_code : file_in (codes "office abcd-efgh-jkmn-prst\n4 abcd-efgh-jkmn-prst\n") ≡ Err (Line 2 CodeTwice)
the_offices_code = refl

in_capitals : file_in (codes "Office abcd-efgh-jkmn-prst") ≡ Err (Line 1 NoEntry)
in_capitals = refl

behind_a_blank : file_in (codes " office abcd-efgh-jkmn-prst") ≡ Err (Line 1 NoEntry)
behind_a_blank = refl

longer : file_in (codes "offices abcd-efgh-jkmn-prst") ≡ Err (Line 1 NoEntry)
longer = refl

-- ---- which credentials are accepted

abbrev both : List ℕ
both = codes "4 kf7m-2wxt\noffice abcd-efgh-jkmn-prst\n"

abbrev clerk_4_sends : List ℕ
clerk_4_sends = codes "Basic NDprZjdtLTJ3eHQ="

abbrev office_sends : List ℕ
office_sends = codes "Basic b2ZmaWNlOmFiY2QtZWZnaC1qa21uLXByc3Q="

own_code : is_office (office_held (office_in both)) office_sends ≡ true
unfolding encode_symbols
own_code = refl

clerks_code : is_office (office_held (office_in both)) clerk_4_sends ≡ false
unfolding encode_symbols
clerks_code = refl

-- the office's code with clerk 4's name
under_clerks_name : is_office (office_held (office_in both)) (codes "Basic NDphYmNkLWVmZ2gtamttbi1wcnN0") ≡ false
unfolding encode_symbols
under_clerks_name = refl

none_without_line : is_office (office_held (office_in (codes "4 kf7m-2wxt\n"))) office_sends ≡ false
none_without_line = refl

offices_code_for_clerk : is_of (holders_by (record { clerk = 4; code = codes "kf7m-2wxt" } ∷ [])) 4 office_sends ≡ false
unfolding digits encode_symbols
offices_code_for_clerk = refl

-- ---- which file is made

abbrev four_and_five : ClerkRange
four_and_five = record { first = 4; last = 5 }

-- the seventh byte selects no letter
abbrev bytes : List ℕ
bytes =
    0 ∷ 1 ∷ 2 ∷ 3 ∷ 24 ∷ 239 ∷ 240 ∷ 5 ∷ 6 ∷ 20 ∷ 21 ∷ 22 ∷ 23 ∷ 8 ∷ 9 ∷ 10 ∷ 11 ∷ 12 ∷ 13 ∷ 14 ∷ 15 ∷ 16 ∷ 17 ∷ 18 ∷ 19
    ∷ 0 ∷ 0 ∷ 0 ∷ 0 ∷ 1 ∷ 1 ∷ 1 ∷ 1 ∷ 2 ∷ 2 ∷ 2 ∷ 2 ∷ 3 ∷ 3 ∷ 3 ∷ 3 ∷ []

made_for_clerks_and_office : text_with four_and_five true (letters_drawn bytes) ≡ codes "4 abcd-a7fg-2347\n5 jkmn-prst-uwxy\noffice aaaa-bbbb-cccc-dddd\n"
unfolding digits
made_for_clerks_and_office = refl

it_is_such_a_file : is_file_for four_and_five true (file_in (text_with four_and_five true (letters_drawn bytes))) ≡ true
unfolding digits
it_is_such_a_file = refl

-- The page that says how to check the folder.
use Rattle.std.specs.Prelude.{ℕ, List, [], ◌∷◌, ◌++◌, codes}
use Rattle.sheet.specs.Lines.{joined, plain}

-- the page up to the title of the election
unfoldable pub before_title : List ℕ
before_title =
    codes "<!DOCTYPE html>\n" ++ (
    codes "<html lang=\"en\">\n" ++ (
    codes "<head>\n" ++ (
    codes "<meta charset=\"utf-8\">\n" ++ (
    codes "<meta name=\"viewport\" content=\"width=device-width, initial-scale=1\">\n" ++ (
    codes "<title>How to check these files</title>\n" ++ (
    codes "<style>\n" ++ (
    codes "body { color: #000; background: #fff; font: 1rem/1.4 sans-serif; max-width: 44rem; margin: 1rem auto; padding: 0 1rem; overflow-wrap: anywhere; }\n" ++ (
    codes "h1 { font-size: 2.2rem; line-height: 1.2; margin: .2rem 0 .4rem; }\n" ++ (
    codes "h2 { font-size: 1.2rem; margin: 1.4rem 0 .4rem; }\n" ++ (
    codes "pre { border: 1px solid #888; padding: .4rem .6rem; white-space: pre-wrap; }\n" ++ (
    codes "</style>\n" ++ (
    codes "</head>\n" ++ (
    codes "<body>\n" ++ (
    codes "<p dir=\"auto\">"))))))))))))))

-- the page after the title
unfoldable pub after_title : List ℕ
after_title =
    codes "</p>\n" ++ (
    codes "<h1>How to check these files</h1>\n" ++ (
    codes "<p>Download the whole folder, and open a terminal in it.</p>\n" ++ (
    codes "<h2>Are the files complete and unchanged?</h2>\n" ++ (
    codes "<pre>sha256sum -c SHA256SUMS</pre>\n" ++ (
    codes "<p>It prints the name of each file, followed by OK if the file has the digest that SHA256SUMS lists for it.\n" ++ (
    codes "Anyone who changes a file can change SHA256SUMS too.\n" ++ (
    codes "So compare the digest of SHA256SUMS itself with that of somebody else's copy:</p>\n" ++ (
    codes "<pre>sha256sum SHA256SUMS</pre>\n" ++ (
    codes "<h2>Do the ballots give these results?</h2>\n" ++ (
    codes "<p>If the ballots are published, the folder has a file of them for each ward with a poll, such as ward-7-ballots.txt.\n" ++ (
    codes "The program count-office counts them again, and compares each sheet, declaration, page and table with what results:</p>\n" ++ (
    codes "<pre>count-office - check .</pre>\n" ++ (
    codes "<p>It needs nothing but this folder. It compares a single sheet or declaration like this:</p>\n" ++ (
    codes "<pre>count-office - check ward-7-ballots.txt ward-7-sheet.txt</pre>\n" ++ (
    codes "<p>This doesn't prove that these are the voters' ballots: compare the numbers of valid and rejected papers with those that were announced when the ward was sealed.</p>\n" ++ (
    codes "<h2>By hand</h2>\n" ++ (
    codes "<p>A stage sheet can be checked with a pocket calculator:</p>\n" ++ (
    codes "<ul>\n" ++ (
    codes "<li>The quota is the number of valid papers, divided by one more than the number of seats; the whole part of that, plus 1.</li>\n" ++ (
    codes "<li>At every stage, the votes of all candidates, the non-transferable votes and those lost by fractions add up to the number of valid papers.</li>\n" ++ (
    codes "<li>A surplus is the candidate's votes minus the quota.\n" ++ (
    codes "A paper's transfer value is the surplus, times the value at which the candidate received the paper, divided by the candidate's votes, cut off after the fifth decimal.</li>\n" ++ (
    codes "<li>If nobody has a surplus and a seat is left, the candidate with the fewest votes is excluded, and those papers keep their values.</li>\n" ++ (
    codes "</ul>\n" ++ (
    codes "<p><a href=\"index.html\">all wards</a></p>\n" ++ (
    codes "</body>\n" ++ (
    codes "</html>\n")))))))))))))))))))))))))))

-- the page, with the title of the election
abbrev pub check_page : List ℕ → List ℕ
check_page title = joined (before_title ∷ plain title ∷ after_title ∷ [])

-- The reasons why codes aren't accepted or weren't made: a number, a text, and a line.
use Rattle.std.specs.Prelude.{List, Option, Some, None, codes, ℕ}
use Rattle.codes.specs.declared.fault.CodesFault.{CodesFault}
use Rattle.codes.specs.declared.fault.CodesFault.TheVariants.{BadRandom, Line, NoClerks, NoRandom, OpenToOthers, Unmade, Unread}
use Rattle.codes.specs.declared.fault.CodeFlaw.{CodeFlaw}
use Rattle.codes.specs.declared.fault.CodeFlaw.TheVariants.{BadCode, ClerkTwice, CodeTwice, NoEntry, OfficeTwice, ShortOffice}

abbrev pub flaw_number : CodeFlaw → ℕ
flaw_number NoEntry = 1
flaw_number BadCode = 2
flaw_number ClerkTwice = 3
flaw_number CodeTwice = 4
flaw_number OfficeTwice = 11
flaw_number ShortOffice = 12

abbrev pub flaw_text : CodeFlaw → List ℕ
flaw_text NoEntry = codes "no clerk and code"
flaw_text BadCode = codes "bad code"
flaw_text ClerkTwice = codes "clerk twice"
flaw_text CodeTwice = codes "code twice"
flaw_text OfficeTwice = codes "office twice"
flaw_text ShortOffice = codes "office code too short"

abbrev pub fault_number : CodesFault → ℕ
fault_number (Line number flaw) = flaw_number flaw
fault_number OpenToOthers = 5
fault_number Unread = 6
fault_number Unmade = 7
fault_number NoRandom = 8
fault_number NoClerks = 9
fault_number BadRandom = 10

abbrev pub fault_text : CodesFault → List ℕ
fault_text (Line number flaw) = flaw_text flaw
fault_text OpenToOthers = codes "file open to others"
fault_text Unread = codes "file not read"
fault_text Unmade = codes "file not made"
fault_text NoRandom = codes "no random bytes"
fault_text NoClerks = codes "no clerks, as 1-40"
fault_text BadRandom = codes "random bytes make no codes"

-- the line number of a fault, if it concerns a line
abbrev pub fault_line : CodesFault → Option ℕ
fault_line (Line number flaw) = Some number
fault_line other = None

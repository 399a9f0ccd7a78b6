-- What is printed about orders that are left out or replaced.
use Rattle.std.specs.Prelude.{ℕ, List, ◌++◌, codes, string_bytes}
use Rattle.std.specs.Fmt.{decimal}
use Rattle.register.specs.Machine.{subject_of}
use Rattle.register.specs.Reasons.{reason_number, reason_text}
use Rattle.register.specs.declared.command.Request.{Request}
use Rattle.register.specs.declared.refusal.Reason.{Reason}
use Rattle.mending.specs.Names.{order_name}
use Rattle.mending.specs.declared.changes.Flaw.{Flaw}
use Rattle.mending.specs.declared.changes.Flaw.TheVariants.{NoSuchOrder, NotOne, Several}
use Rattle.mending.specs.declared.reports.Cause.{Cause}
use Rattle.mending.specs.declared.reports.Cause.TheVariants.{Asked, Changed, Refused, Unaccepted, Repeated}

-- the text of a refusal
unfoldable pub refusal_words : Reason → List ℕ
refusal_words why = codes "refused " ++ (decimal (reason_number why) ++ (codes ": " ++ reason_text why))

-- the text that says why an order is left out
unfoldable pub cause_words : Cause → List ℕ
cause_words Asked = codes "as asked"
cause_words (Changed ward) = codes "ward " ++ (decimal ward ++ codes " changed before it")
cause_words (Refused why) = refusal_words why
cause_words (Unaccepted why) = codes "the order in its place is " ++ refusal_words why
cause_words Repeated = codes "its id was used before it"

-- the name and the subject of an order
unfoldable pub order_words : Request → List ℕ
order_words r = order_name r ++ (codes ", " ++ subject_of r.command)

-- the line for an order that is left out
unfoldable pub left_line : Request → Cause → List ℕ
left_line r cause = codes "left out " ++ (order_words r ++ (codes ": " ++ (cause_words cause ++ codes "\n")))

-- the line for an order that is replaced by another
unfoldable pub replaced_line : Request → Request → List ℕ
replaced_line r other = codes "replaced " ++ (order_words r ++ (codes ": by " ++ (order_name other ++ codes "\n")))

-- the last line: how many orders were kept, replaced and left out
unfoldable pub end_line : ℕ → ℕ → ℕ → List ℕ
end_line kept replaced left_out =
    codes "mended: " ++ (decimal kept ++ (codes " orders kept, " ++ (decimal replaced ++ (codes " replaced, " ++ (decimal left_out ++ codes " left out\n")))))

-- the line that says what is wrong with a number of orders
unfoldable pub count_text : ℕ → List ℕ → List ℕ → List ℕ
count_text count words subject = codes "not mended: " ++ (decimal count ++ (codes " orders " ++ (words ++ (subject ++ codes "\n"))))

-- the line that says why the changes can't be made
unfoldable pub flaw_text : Flaw → List ℕ
flaw_text (NoSuchOrder name) = codes "not mended: no order has the name " ++ (string_bytes name ++ codes "\n")
flaw_text (NotOne count subject) = count_text count (codes "can be replaced, not just one: ") (string_bytes subject)
flaw_text (Several count subject) = count_text count (codes "are to take one place: ") (string_bytes subject)

-- What all forms share: escaped texts, names whose writing direction is isolated, and the page that contains a form.
use Rattle.std.specs.Prelude.{◌≡◌, ℕ, Bool, true, not, ◌==◌, ◌||◌, if◌then◌else◌, List, ◌++◌, codes}
use Rattle.std.specs.Char.{encode_utf8}
use Rattle.std.specs.Fmt.{decimal}
use Rattle.std.specs.List.{flat_map, list_all}
use Rattle.std.specs.Str.{chars}

-- a text, as its bytes
abbrev pub Text : Type 0
Text = List ℕ

-- a character of a text on a page: an entity for each of the five that could be markup (`&`, `<`, `>`, `"`, `'`), and otherwise the character itself
abbrev pub escaped_character : ℕ → Text
escaped_character c =
    if c == 38 then codes "&amp;" else (
    if c == 60 then codes "&lt;" else (
    if c == 62 then codes "&gt;" else (
    if c == 34 then codes "&quot;" else (
    if c == 39 then codes "&#39;" else encode_utf8 c))))

-- a text on a page, escaped so that it is never treated as markup
abbrev pub escaped : Text → Text
escaped text = flat_map escaped_character (chars text)

-- an ASCII text on a page, escaped in the same way
abbrev pub escaped_ascii : Text → Text
escaped_ascii text = flat_map escaped_character text

-- whether a byte can begin or end a tag or an attribute: `<`, `>`, `"` or `'`
abbrev pub is_markup : ℕ → Bool
is_markup byte = byte == 60 || (byte == 62 || (byte == 34 || byte == 39))

-- no byte of the text is markup
abbrev pub HasNoMarkup : Text → Type 0
HasNoMarkup text = list_all (λ byte. not (is_markup byte)) text ≡ true

-- a number and a name, such as `7 <bdi>Harbour</bdi>`; the writing direction of the name doesn't affect the surrounding text
unfoldable pub named : ℕ → Text → Text
named number name = decimal number ++ (codes " <bdi>" ++ (escaped name ++ codes "</bdi>"))

-- the style sheet of a form: A4, black on white, without external resources
unfoldable pub style : Text
style =
    codes "@page { size: A4; margin: 15mm; }\n" ++ (
    codes "body { color: #000; background: #fff; font: 12pt/1.4 sans-serif; margin: 0 1pt; }\n" ++ (
    codes "h1 { font-size: 26pt; line-height: 1.2; margin: 0 0 4mm; }\n" ++ (
    codes "h1, p, li, td { overflow-wrap: anywhere; }\n" ++ (
    codes ".sheet { break-after: page; }\n" ++ (
    codes ".sheet:last-child { break-after: auto; }\n" ++ (
    codes ".large { font-size: 20pt; margin: 0 0 4mm; }\n" ++ (
    codes "table { border-collapse: collapse; width: 100%; }\n" ++ (
    codes "th, td { border: 1pt solid #000; padding: 2mm 3mm; text-align: left; vertical-align: top; }\n" ++ (
    codes "th { font-weight: normal; }\n" ++ (
    codes "tr { break-inside: avoid; }\n" ++ (
    codes ".rounds td { height: 16mm; width: 28%; }\n" ++ (
    codes ".verdicts td { height: 11mm; }\n" ++ (
    codes ".verdicts .marks { width: 45%; }\n" ++ (
    codes "ul { font-size: 16pt; list-style: none; padding: 0; }\n" ++ (
    codes "li { break-inside: avoid; }\n" ++ (
    codes ".names { font-size: 11pt; columns: 3; }\n" ++ (
    codes ".slips { display: grid; grid-template-columns: 1fr 1fr; }\n" ++ (
    codes ".slip { border: 1pt dashed #000; padding: 6mm; break-inside: avoid; }\n" ++ (
    codes ".slip p { margin: 0 0 2mm; }\n" ++ (
    codes ".code { font: bold 15pt monospace; }\n" ++ (
    codes ".line { border-bottom: 1pt solid #000; margin: 0; padding: 11mm 0 1mm; break-inside: avoid; }\n")))))))))))))))))))))

-- a page that contains a form, with a title for the browser
unfoldable pub page : Text → Text → Text
page title body =
    codes "<!DOCTYPE html>\n<html lang=\"en\">\n<head>\n<meta charset=\"utf-8\">\n<title>" ++ (title ++ (codes "</title>\n<style>\n" ++ (style ++ (
    codes "</style>\n</head>\n<body>\n" ++ (body ++ codes "</body>\n</html>\n")))))

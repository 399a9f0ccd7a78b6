-- The whole lines of a text, read byte by byte.
use Rattle.std.proofs.Common.{◌≡◌, ◌≢◌, ◌∙◌, ℕ, ◌+◌, ◌<◌, ◌≤◌, true, false, [], ◌∷◌, ◌++◌, length, get_or, take, drop, refl, sym, ap, arith}
use Rattle.std.specs.Prelude.{◌==◌}
use Rattle.std.proofs.lemmas.Bool.{eq-eqb, ne_eqb}
use Rattle.std.proofs.lemmas.List.{append-nil, append_assoc, at_drop_all, at_drop_more, take_more}
use Rattle.clap.specs.Words.{Text}
use Rattle.desk.specs.Scripts.{whole_lines, whole_lines_from}

-- The first `i` bytes of a text have been read. The whole lines among them end at `end`, and the line after them has begun with the rest.
pub record AreRead (text : Text) (end i : ℕ) : Type 0 where
  pub line : Text
  pub within : end ≤ i
  pub begins : take end text ++ line ≡ take i text
  pub whole : take end text ++ whole_lines_from line (drop i text) ≡ whole_lines text

pub none_read : (text : Text) → AreRead text 0 0
none_read text = record { line = []; within = omega arith; begins = refl; whole = refl }

at_end : (line : Text) (byte : ℕ) (rest : Text) → (byte == 10) ≡ true → whole_lines_from line (byte ∷ rest) ≡ line ++ byte ∷ whole_lines_from [] rest
at_end line byte rest e = rw e refl

within_line : (line : Text) (byte : ℕ) (rest : Text) → (byte == 10) ≡ false → whole_lines_from line (byte ∷ rest) ≡ whole_lines_from (line ++ byte ∷ []) rest
within_line line byte rest e = rw e refl

-- the next byte ends a line
pub line_read : (text : Text) (end i : ℕ) → i < length text → get_or text i 0 ≡ 10 → AreRead text end i → AreRead text (i + 1) (i + 1)
line_read text end i here ends read =
    let byte = get_or text i 0 in
    let rest = whole_lines_from [] (drop (i + 1) text) in
    record {
      line = [];
      within = omega arith;
      begins = append-nil (take (i + 1) text);
      whole =
          ap (λ (t : Text). t ++ rest) (take_more text i 0 here ∙ ap (λ (t : Text). t ++ byte ∷ []) (sym read.begins))
          ∙ append_assoc (take end text ++ read.line) (byte ∷ []) rest
          ∙ append_assoc (take end text) read.line (byte ∷ rest)
          ∙ ap (λ (t : Text). take end text ++ t) (sym (at_drop_more (whole_lines_from read.line) text i 0 here ∙ at_end read.line byte (drop (i + 1) text) (eq-eqb byte 10 ends)))
          ∙ read.whole;
    }

-- the next byte continues a line
pub byte_read : (text : Text) (end i : ℕ) → i < length text → get_or text i 0 ≢ 10 → AreRead text end i → AreRead text end (i + 1)
byte_read text end i here other read =
    let byte = get_or text i 0 in
    let low = read.within in
    record {
      line = read.line ++ byte ∷ [];
      within = omega (arith, low);
      begins = sym (append_assoc (take end text) read.line (byte ∷ [])) ∙ (ap (λ (t : Text). t ++ byte ∷ []) read.begins ∙ sym (take_more text i 0 here));
      whole =
          ap (λ (t : Text). take end text ++ t) (sym (at_drop_more (whole_lines_from read.line) text i 0 here ∙ within_line read.line byte (drop (i + 1) text) (ne_eqb byte 10 other)))
          ∙ read.whole;
    }

-- all bytes have been read
pub all_read : (text : Text) (end i : ℕ) → length text ≤ i → AreRead text end i → take end text ≡ whole_lines text
all_read text end i all read = sym (append-nil (take end text)) ∙ (ap (λ (t : Text). take end text ++ t) (sym (at_drop_all (whole_lines_from read.line) text i all)) ∙ read.whole)

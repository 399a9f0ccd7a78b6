-- The effect of a writer on its sink.
use Rattle.std.specs.Prelude.{◌≡◌, ℕ, ◌+◌, List, Option, Result, OnOk, OnErr}
use Rattle.std.specs.Io.KnownBytes.{Appends}
use Rattle.std.specs.Str.{IsUtf8}
use Rattle.streams.specs.Streams.{AppendsBeginning}

-- a text in UTF-8 was written completely, and the failure count is unchanged; or, on an error, a prefix of the text was written, and the failure count is one higher
pub record Writes {W X E : Type 0} (taken : W → Option (List ℕ)) (failed : W → ℕ) (old new : W) (text : List ℕ) (result : Result X E) : Type 0 where
  pub written : OnOk result (Appends (taken old) (taken new) text)
  pub utf8 : OnOk result (IsUtf8 text)
  pub ok : OnOk result (failed new ≡ failed old)
  pub cut_off : OnErr result (AppendsBeginning (taken old) (taken new) text)
  pub err : OnErr result (failed new ≡ failed old + 1)

-- bytes were written completely, and the failure count is unchanged; or, on an error, a prefix of the bytes was written, and the failure count is one higher
pub record Puts {W X E : Type 0} (taken : W → Option (List ℕ)) (failed : W → ℕ) (old new : W) (bytes : List ℕ) (result : Result X E) : Type 0 where
  pub all : OnOk result (Appends (taken old) (taken new) bytes)
  pub ok : OnOk result (failed new ≡ failed old)
  pub cut_off : OnErr result (AppendsBeginning (taken old) (taken new) bytes)
  pub err : OnErr result (failed new ≡ failed old + 1)

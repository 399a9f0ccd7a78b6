-- The invariant of the loop in `words_of`: splitting the remaining bytes, starting from the current state, results in the words of the line.
use Rattle.std.proofs.Common.{◌≡◌, [], drop}
use Rattle.std.specs.Prelude.{fold}
use Rattle.desk.specs.Lexing.{lexer_entry}
use Rattle.desk.specs.Scripts.{cut_byte}
use Rattle.desk.specs.declared.lexer.LexerState.TheVariants.{Between}
use Rattle.desk.proofs.lexer.words_of.Given as goal

abbrev pub invariant-loop-byte : goal.invariant-loop-byte
invariant-loop-byte l = fold cut_byte (lexer_entry l.cutter) (drop l.byte-index l.line) ≡ fold cut_byte (record { words = []; word = []; place = Between }) l.line

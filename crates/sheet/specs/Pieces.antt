-- The texts of the pieces of a line.
use Rattle.std.specs.Prelude.{ℕ, List, decimal}
use Rattle.votes.specs.Text.{votes_text}
use Rattle.count.specs.Actions.{action_text}
use Rattle.sheet.specs.Lines.{number_column, value_column, span, preferences, quoted, plain, named, action_named}
use Rattle.sheet.specs.declared.line.Piece.{Piece}
use Rattle.sheet.specs.declared.line.Piece.TheVariants.{Text, Number, Value, NumberColumn, ValueColumn, Span, Done, DoneWith, Preferences, Quoted, Escaped, Named, Listed}

-- the text of a piece of a line
abbrev pub piece_text : Piece → List ℕ
piece_text (Text text) = text.now
piece_text (Number number) = decimal number
piece_text (Value units) = votes_text units
piece_text (NumberColumn c) = number_column c
piece_text (ValueColumn units) = value_column units
piece_text (Span first last) = span first last
piece_text (Done action) = action_text action
piece_text (DoneWith action name) = action_named action name.now
piece_text (Preferences list) = preferences list.now
piece_text (Quoted text) = quoted text.now
piece_text (Escaped text) = plain text.now
piece_text (Named number name) = named number name.now
piece_text (Listed number name) = named number name.now

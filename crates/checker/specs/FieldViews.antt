-- The fields of a line, as the specification sees them.
use Rattle.std.specs.Prelude.{List, map}
use Rattle.checker.specs.Fields.{FieldsEntry}
use Rattle.checker.specs.Tokens.{Text}
use Rattle.checker.specs.declared.fields.Fields.{Fields}

abbrev pub fields_told : Fields → FieldsEntry (List Text)
fields_told fields = record { done = map (λ field. field.items) fields.done.items; field = fields.field.items; place = fields.place }

-- A text that is a SELECT isn't a write that returns rows, under any schema.
use Rattle.std.proofs.Common.{◌≡◌, inl, inr, ℕ, ◌+◌, List, Bool, true, false, cond, None, Ok, Err, Result, refl, sym, ap, true≢false}
use Rattle.std.proofs.lemmas.Bool.{cases_Bool}
use Rattle.sqlite_ast.specs.declared.Statement.{Statement}
use Rattle.sqlite_ast.specs.declared.Statement.TheVariants as written
use Rattle.sqlite_syntax.specs.declared.statement.Parsed.{Parsed}
use Rattle.sqlite_schema.specs.declared.command.Command.{Command}
use Rattle.sqlite_resolve.specs.declared.compiled.Compiled.{Compiled}
use Rattle.sqlite_resolve.specs.declared.error.CompileError.TheVariants.{NoSuchTable}
use Rattle.sqlite_resolve.specs.Lowering.{Checked, and_then}
use Rattle.sqlite_resolve.specs.Compile.{first, compiled, planned, meaning, returning, command, with_command, timed, small}
use Rattle.sqlite.specs.Schema.{Schema}
use Rattle.tables.specs.Reading.{is_query, is_query_text, IsQuery}
use Rattle.sqlite.specs.Listing.{understood, reads_listing, if_select, is_select, listing_schema}

none_shown : (s : Schema) (base : ℕ) (st : Statement) → is_query st ≡ true → returning s base st ≡ Ok None
unfolding returning
none_shown s base (written.Select x) h = refl
none_shown s base _ h = absurd (true≢false (sym h))

same_ok : {X E : Type 0} {a b : X} → ◌≡◌ {A = Result X E} (Ok a) (Ok b) → a ≡ b
same_ok e = cc

commanded : (p : Parsed) (formats : List (List ℕ)) (found : Checked Command) (c : Compiled)
    → and_then (and_then (and_then found (λ k. Ok (k, None))) (λ it. Ok (formats, it))) (λ plan. Ok (with_command p plan)) ≡ Ok c → c.returning ≡ None
commanded p formats (Err e) c is = absurd cc
commanded p formats (Ok k) c is = ap (λ (d : Compiled). d.returning) (sym (same_ok is))

compiled_none : (s : Schema) (sql : List ℕ) (c : Compiled) → is_query_text (first sql) ≡ true → compiled s sql ≡ Ok c → c.returning ≡ None
unfolding compiled planned meaning
compiled_none s sql c query is = go (first sql) query is
  where
    go : (r : Checked Parsed) → is_query_text r ≡ true → and_then r (λ p. and_then (planned s p) (λ plan. Ok (with_command p plan))) ≡ Ok c → c.returning ≡ None
    go (Err e) h is = absurd (true≢false (sym h))
    go (Ok p) h is =
        let formats = timed s p.formats p.statement in
        let base = small p.names + small formats in
        commanded p formats (command s p.formats base p.statement) c (rw (none_shown s base p.statement h) at is)

if_selected : (r : Checked Compiled) (c : Compiled) → if_select r ≡ Ok c → r ≡ Ok c
if_selected (Err e) c is = absurd cc
if_selected (Ok d) c is = go (is_select d.command) is
  where
    go : (b : Bool) → cond b (Ok d) (Err NoSuchTable) ≡ Ok c → ◌≡◌ {A = Checked Compiled} (Ok d) (Ok c)
    go true h = h
    go false h = absurd cc

pub query_text : (sql : List ℕ) → is_query_text (first sql) ≡ true → IsQuery sql
unfolding understood
query_text sql query s c is = elim (cases_Bool (reads_listing s sql)) [
  | inl lists ↦ compiled_none listing_schema sql c query (if_selected (compiled listing_schema sql) c (rw lists at is))
  | inr plain ↦ compiled_none s sql c query (rw plain at is)
]

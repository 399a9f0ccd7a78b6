-- What remains in effect after an order, and what a connection at rest leaves in the database.
use Rattle.std.proofs.Common.{◌≡◌, ◌≢◌, ◌⊎◌, ◌≤◌, ◌+◌, ◌∙◌, inl, inr, ℕ, Bool, true, false, List, [], ◌∷◌, Option, None, length, take, IsTrue, refl, sym, ap, subst, arith, suc}
use Rattle.sqlite.specs.Tree.{Trees}
use Rattle.sqlite.specs.Schema.{Schema}
use Rattle.sqlite.specs.Effect.{Database}
use Rattle.sqlite.specs.State.{State, HasCleanDisk}
use Rattle.sqlite_schema.specs.Names.{same_name}
use Rattle.register.specs.Offices.{OfficeState}
use Rattle.register.specs.Machine.{after, after_one}
use Rattle.register.specs.declared.command.Request.{Request}
use Rattle.tables.specs.Contents.{Contents, IsOffice, RestsAt, Stores}
use Rattle.tables.specs.Presence.{has_some_table, has_every_table, tables_present, IsOlderSchema}
use Rattle.tables.specs.declared.presence.TablesPresent.TheVariants.{Whole, WithoutThird, WithoutCounts}
use Rattle.tables.specs.Reading.{OnlyReads}
use Rattle.tables.specs.Schema.{IsOfficeSchema, no_schema}
use Rattle.tables.specs.declared.fault.Fault.{Fault}
use Rattle.tables.specs.declared.fault.Fault.TheVariants.{Memory, Store, Damaged, Closed, WrongDatabase, NewerSchema, OlderSchema}
use Rattle.store.specs.StateTables.{LeavesState, tables_of}
use Rattle.store.specs.Openings.{IsBlank, IsLeftAt}
use Rattle.store.specs.Migrations.{IsToldInMigration}
use Rattle.store.proofs.ReopenLemmas.{left_holds, left_told}
use Rattle.office.specs.Answers.{IsMemoryOrStore, Told}
use Rattle.office.proofs.RunLemmas.{beginning}
use Rattle.desk.specs.Folders.{Folder}
use Rattle.desk.specs.Headline.{Course, IsAnswered, IsAnsweredBy, IsBegunBy, IsDone, IsDoneBy, IsPerformed, IsPlayedBy, IsSentBy, IsStopped}
use Rattle.desk.specs.Headline.{IsUnrecorded, IsUnsent, IsUntouched, Performs, PerformsBy, answer, ended, told_above}
use Rattle.desk.specs.Pages.{Cut, uncut, IsShown, Outputs, Page, cut_below, empty_page, fronted, goes_on}
use Rattle.desk.specs.Scripts.{keeps_going}
use Rattle.desk.specs.Parts.{ComesTo}
use Rattle.desk.specs.Told.{IsTold, page_answered}
use Rattle.desk.specs.declared.orders.Job.{Job}
use Rattle.desk.specs.declared.orders.Task.{Task}
use Rattle.desk.specs.declared.orders.Task.TheVariants as task
use Rattle.desk.specs.declared.scripts.ScriptStep.{ScriptStep}
use Rattle.desk.proofs.CourseLemmas.{split_answer}
use Rattle.desk.proofs.PageLemmas.{fronted_status}
use Rattle.desk.proofs.TellingLemmas.{goes_after_zero, shown_zero, whole_below, zero_last}

-- ---- a connection at rest

-- what a connection at rest leaves is exactly the contents of its database
pub rests_leaves : (s : OfficeState) (db : Database) (st : State) → ((trees : Trees) → IsTrue st.is_open → st.may_leave trees → trees ≡ st.committed.trees) → RestsAt db st → IsLeftAt s db
    → LeavesState st (λ x. x ≡ s)
rests_leaves s db st settled rests left trees may =
    let same : db.trees ≡ trees = sym (settled trees rests.is_open may ∙ ap (λ (d : Database). d.trees) rests.committed) in
    (s, refl, record { is = left.is; stores = subst (Stores (tables_of s)) same left.stores })

-- the same holds after reads
pub read_leaves : (s : OfficeState) (db : Database) (old new : State) → ((trees : Trees) → IsTrue old.is_open → old.may_leave trees → trees ≡ old.committed.trees) → OnlyReads old new
    → HasCleanDisk new → RestsAt db old
    → IsLeftAt s db → LeavesState new (λ x. x ≡ s)
read_leaves s db old new settled reads clean rests left trees may = rests_leaves s db old settled rests left trees (reads.leaves clean trees may)

office_begins : (c : Contents) (db : Database) → IsOffice c db → IsOfficeSchema db.schema
unfolding IsOffice
office_begins c db office = office.begins

some_there : (s : Schema) → IsOfficeSchema s → has_some_table s ≡ true
unfolding same_name
some_there s h = subst (λ (x : Schema). has_some_table x ≡ true) (sym h.is) refl

-- an office has every table, so it isn't an older one
all_there : (s : Schema) → IsOfficeSchema s → has_every_table s ≡ true
unfolding same_name
all_there s h = subst (λ (x : Schema). has_every_table x ≡ true) (sym h.is) refl

whole_form : (s : Schema) → has_every_table s ≡ true → tables_present s ≡ Whole
whole_form s every = rw every refl

whole_only : (s : Schema) → tables_present s ≡ Whole → IsOlderSchema s
whole_only s whole = record {
  without_third = λ is. let bad : Whole ≡ WithoutThird = sym whole ∙ is in absurd (cc bad);
  without_counts = λ is. let bad : Whole ≡ WithoutCounts = sym whole ∙ is in absurd (cc bad);
}

pub left_older : (s : OfficeState) (db : Database) → IsLeftAt s db → IsOlderSchema db.schema
left_older s db left =
    whole_only db.schema (whole_form db.schema (all_there db.schema (office_begins (tables_of s) db (left_holds s db left).office)))

-- migrating an office that already has this version can only fail with Memory or Store
pub migration_told : (s : OfficeState) (db : Database) (fault : Fault) → IsLeftAt s db → IsToldInMigration db fault → IsMemoryOrStore fault
migration_told s db Memory left told = inl refl
migration_told s db Store left told = inr refl
migration_told s db Damaged left told = absurd (told.no_state s (left_holds s db left))
migration_told s db Closed left told = absurd told
migration_told s db WrongDatabase left told = left_told s db WrongDatabase left told
migration_told s db NewerSchema left told = left_told s db NewerSchema left told
migration_told s db OlderSchema left told = absurd told

-- a table that exists in the database at rest exists in the current schema
pub table_rests : (db : Database) (st : State) → RestsAt db st → has_some_table db.schema ≡ true → has_some_table st.now.schema ≡ true
table_rests db st rests there = subst (λ (d : Database). has_some_table d.schema ≡ true) (sym rests.now) there

-- an office has a table with one of our names
pub has_tables : (s : OfficeState) (db : Database) (st : State) → RestsAt db st → IsLeftAt s db → has_some_table st.now.schema ≡ true
has_tables s db st rests left =
    table_rests db st rests (some_there db.schema (office_begins (tables_of s) db (left_holds s db left).office))

-- an empty database contains no office table, so creating an office there can only fail with Memory or Store
pub blank_told : {P : Type 0} (st : State) (fault : Fault) → IsBlank st → (fault ≡ Memory) ⊎ ((fault ≡ Store) ⊎ ((fault ≡ WrongDatabase) × (has_some_table st.now.schema ≡ true) × P))
    → IsMemoryOrStore fault
blank_told st fault blank (inl memory) = inl memory
blank_told st fault blank (inr (inl failing)) = inr failing
blank_told st fault blank (inr (inr there)) =
    let none : has_some_table no_schema ≡ false = refl in
    let bad : true ≡ false = sym there.1 ∙ ap has_some_table blank.schema ∙ none in
    absurd (cc bad)

-- creating an office failed with WrongDatabase, so the alternative for that fault holds
pub wrong_same : {T P : Type 0} (fault : Fault) → fault ≡ WrongDatabase → (fault ≡ Memory) ⊎ ((fault ≡ Store) ⊎ ((fault ≡ WrongDatabase) × T × P)) → P
wrong_same fault wrong (inl memory) = let bad : WrongDatabase ≡ Memory = sym wrong ∙ memory in absurd (cc bad)
wrong_same fault wrong (inr (inl failing)) = let bad : WrongDatabase ≡ Store = sym wrong ∙ failing in absurd (cc bad)
wrong_same fault wrong (inr (inr there)) = there.2

-- ---- what remains in effect

-- the state is the one after a prefix of the requests: the answered ones, and at most one more
abbrev pub IsAfterSome : OfficeState → List Request → ℕ → OfficeState → Type 0
IsAfterSome s rs n x = (k : ℕ) × (n ≤ k) × (k ≤ n + 1) × (k ≤ length rs) × (x ≡ after s (take k rs))

-- the page of an outcome has status 0, and no output failed
abbrev pub IsGood : Course → Type 0
IsGood c = (c.page.status ≡ 0) × (c.cut ≡ uncut)

-- what remains in effect after requests were sent, starting from the given state
pub record Kept (s : OfficeState) (c : Course) (st : State) : Type 0 where
  pub within : c.answered ≤ length c.requests
  pub leaves : LeavesState st (IsAfterSome s c.requests c.answered)
  pub all : IsGood c → c.answered ≡ length c.requests

-- nothing was sent
pub kept_none : (s : OfficeState) (line : Option ℕ) (page : Page) (cut : Cut) (st : State) → LeavesState st (λ x. x ≡ s) → Kept s (ended line [] 0 page cut) st
kept_none s line page cut st leaves = record {
  within = omega arith;
  leaves = λ trees may. let it = leaves trees may in (it.0, (0, omega arith, omega arith, omega arith, it.1), it.2);
  all = λ fine. refl;
}

-- another request was sent before the others
kept_more : (s : OfficeState) (r : Request) (page : Page) (rest : Course) (st : State) → Kept (after_one s r) rest st → Kept s (told_above (r ∷ []) page rest) st
kept_more s r page rest st kept =
    let low = kept.within in
    record {
      within = omega (arith, low);
      leaves = λ trees may. let it = kept.leaves trees may in let (k, least, most, inside, is) = it.1 in (it.0, (suc k, omega (arith, least), omega (arith, most), omega (arith, inside), is), it.2);
      all = λ fine. let same : rest.answered ≡ length rest.requests = kept.all (
        zero_last page.status rest.page.status fine.0,
        whole_below page.out (cut_below page.out rest.cut) rest.cut refl fine.1,
      ) in omega (arith, same);
    }

-- a page that belongs to no request was printed before the rest
kept_above : (s : OfficeState) (page : Page) (rest : Course) (st : State) → Kept s rest st → Kept s (told_above [] page rest) st
kept_above s page rest st kept =
    let low = kept.within in
    record {
      within = omega (arith, low);
      leaves = λ trees may. let it = kept.leaves trees may in let (k, least, most, inside, is) = it.1 in (it.0, (k, omega (arith, least), omega (arith, most), inside, is), it.2);
      all = λ fine. let same : rest.answered ≡ length rest.requests = kept.all (
        zero_last page.status rest.page.status fine.0,
        whole_below page.out (cut_below page.out rest.cut) rest.cut refl fine.1,
      ) in omega (arith, same);
    }

-- the last request that was sent
kept_last : (recorded : Bool) (old : State) (closed : Bool) (st : State) (keep : Bool) (line : Option ℕ) (tells : OfficeState → Request → Told → Page) (s : OfficeState)
    (r : Request) (rs : List Request) (answered : ℕ) (page : Page) (cut : Cut)
    → (goes_on keep page.status ≡ true → cut ≢ uncut) → IsAnsweredBy old closed st recorded tells s r answered page
    → Kept s (ended line (r ∷ rs) answered page cut) st
kept_last recorded old closed st keep line tells s r rs answered page cut ends met =
    let it = split_answer recorded old closed st tells s r answered page met in
    record {
      within = by it;
      leaves = leaves it;
      all = λ fine. absurd (ends (goes_after_zero keep page.status (sym (fronted_status line page) ∙ fine.0)) fine.1);
    }
  where
    by : IsAnswered old closed st tells s r answered page ⊎ ((recorded ≡ true) × IsUnrecorded old closed st s r answered page) → answered ≤ suc (length rs)
    by (inl (inl told)) = let one = told.0 in omega (arith, one)
    by (inl (inr met)) = let none = met.0 in omega (arith, none)
    by (inr (is, missed)) = let none = missed.0 in omega (arith, none)

    leaves : IsAnswered old closed st tells s r answered page ⊎ ((recorded ≡ true) × IsUnrecorded old closed st s r answered page) → LeavesState st (IsAfterSome s (r ∷ rs) answered)
    leaves (inl (inl told)) = λ trees may. let x = told.2.at.leaves trees may in let one = told.0 in (x.0, (1, omega (arith, one), omega (arith, one), omega arith, x.1), x.2)
    leaves (inl (inr (none, (fault, is, (cause, inl stays))))) = λ trees may. let x = stays.open_at.at.leaves trees may in (x.0, (0, omega (arith, none), omega (arith, none), omega arith, x.1), x.2)
    leaves (inl (inr (none, (fault, is, (cause, inr shut))))) = λ trees may. let x = shut.leaves trees may in elim x.1 [
      | inl before ↦ (x.0, (0, omega (arith, none), omega (arith, none), omega arith, before), x.2)
      | inr next ↦ (x.0, (1, omega (arith, none), omega (arith, none), omega arith, next), x.2)
    ]
    leaves (inr (is, (none, told, inl (accepted, here)))) = λ trees may. let x = here.at.leaves trees may in (x.0, (1, omega (arith, none), omega (arith, none), omega arith, x.1), x.2)
    leaves (inr (is, (none, told, inr here))) = λ trees may. let x = here.at.leaves trees may in (x.0, (0, omega (arith, none), omega (arith, none), omega arith, x.1), x.2)

kept_sent : {Then : OfficeState → Course → Type 0} (recorded : Bool) (old : State) (closed : Bool) (st : State) (keep : Bool) (line : Option ℕ) (tells : OfficeState → Request → Told → Page)
    → ((x : OfficeState) (e : Course) → Then x e → Kept x e st)
    → (s : OfficeState) (rs : List Request) (c : Course)
    → IsSentBy recorded old closed st keep line tells Then s rs c → Kept s c st
kept_sent recorded old closed st keep line tells so s [] c sent = so s c sent
kept_sent recorded old closed st keep line tells so s (r ∷ rs) c (inl (rest, goes, is, more)) =
    subst (λ e. Kept s e st) (sym is) (kept_more s r (fronted line (answer tells s r)) rest st (kept_sent recorded old closed st keep line tells so (after_one s r) rs rest more))
kept_sent recorded old closed st keep line tells so s (r ∷ rs) c (inr (answered, page, cut, is, ends, it)) =
    subst (λ e. Kept s e st) (sym is) (kept_last recorded old closed st keep line tells s r rs answered page cut ends it)

stopped_leaves : (old : State) (closed : Bool) (st : State) (s : OfficeState) (page : Page) → IsStopped old closed st s page → LeavesState st (λ x. x ≡ s)
stopped_leaves old closed st s page (fault, is, (cause, inl stays)) = stays.open_at.at.leaves
stopped_leaves old closed st s page (fault, is, (cause, inr shut)) = shut.leaves

kept_unsent : {Then : Course → Type 0} (old : State) (closed : Bool) (st : State) (keep : Bool) (line : Option ℕ) (Tells : Page → Type 0) (s : OfficeState) (c : Course)
    → ((e : Course) → Then e → Kept s e st) → IsUnsent old closed st keep line Tells Then s c → Kept s c st
kept_unsent old closed st keep line Tells s c so (inl (page, rest, told, goes, is, later)) = subst (λ e. Kept s e st) (sym is) (kept_above s (fronted line page) rest st (so rest later))
kept_unsent old closed st keep line Tells s c so (inr (page, cut, is, ends, inl told)) = subst (λ e. Kept s e st) (sym is) (kept_none s line page cut st told.1.at.leaves)
kept_unsent old closed st keep line Tells s c so (inr (page, cut, is, ends, inr stopped)) = subst (λ e. Kept s e st) (sym is)
    (kept_none s line page cut st (stopped_leaves old closed st s page stopped))

kept_played : (recorded : Bool) (old : State) (closed : Bool) (st : State) (keep : Bool) (folder : Folder) (s : OfficeState) (turns : List ScriptStep) (c : Course)
    → IsPlayedBy recorded old closed st keep folder s turns c → Kept s c st
kept_played recorded old closed st keep folder s [] c played = subst (λ e. Kept s e st) (sym played.0) (kept_none s None empty_page uncut st played.1.at.leaves)
kept_played recorded old closed st keep folder s (turn ∷ turns) c (file, found, inl (own, sends, sent)) =
    kept_sent recorded old closed st keep turn.line (page_answered turn.errand) (λ x e more. kept_played recorded old closed st keep folder x turns e more) s own c sent
kept_played recorded old closed st keep folder s (turn ∷ turns) c (file, found, inr unsent) =
    kept_unsent old closed st keep turn.line (IsTold s turn.errand file) s c (λ e more. kept_played recorded old closed st keep folder s turns e more) unsent

kept_begun : (recorded : Bool) (old : State) (closed : Bool) (st : State) (left_out keep : Bool) (folder : Folder) (s : OfficeState) (turns : List ScriptStep) (c : Course)
    → IsBegunBy recorded old closed st left_out keep folder s turns c → Kept s c st
kept_begun recorded old closed st false keep folder s turns c begun = kept_played recorded old closed st keep folder s turns c begun
kept_begun recorded old closed st true keep folder s turns c begun =
    kept_unsent old closed st false None _ s c (λ e more. kept_played recorded old closed st keep folder s turns e more) begun

-- a job was done in an open office, with a second record or with none
pub kept_done_by : (recorded : Bool) (old : State) (closed : Bool) (st : State) (folder : Folder) (s : OfficeState) (job : Job) (c : Course) → IsDoneBy recorded old closed st folder s job c
    → Kept s c st
kept_done_by recorded old closed st folder s job c (inl (turns, left_out, are, begun)) = kept_begun recorded old closed st left_out (keeps_going job) folder s turns c begun
kept_done_by recorded old closed st folder s job c (inr unsent) = kept_unsent old closed st false None _ s c (λ e never. absurd never) unsent

-- a job was done in an open office
pub kept_done : (old : State) (closed : Bool) (st : State) (folder : Folder) (s : OfficeState) (job : Job) (c : Course) → IsDone old closed st folder s job c → Kept s c st
kept_done old closed st folder s job c done = kept_done_by false old closed st folder s job c done

kept_untouched : (Tells : Page → Type 0) (s : OfficeState) (c : Course) (st : State) → IsUntouched Tells s c st → Kept s c st
kept_untouched Tells s c st (page, cut, is, told, leaves) = subst (λ e. Kept s e st) (sym is) (kept_none s None page cut st leaves)

pub kept_performed : (recorded : Bool) (folder : Folder) (s : OfficeState) (task : Task) (c : Course) (old new : State) → PerformsBy recorded folder s task c old new → Kept s c new
kept_performed recorded folder s task.Init c old new it = kept_untouched _ s c new it
kept_performed recorded folder s task.Migrate c old new it = kept_untouched _ s c new it
kept_performed recorded folder s (task.InOffice job) c old new (inr it) = kept_untouched _ s c new it
kept_performed recorded folder s (task.InOffice job) c old new (inl (closed, done)) = kept_done_by recorded old closed new folder s job c done

-- ---- the contract

pub performed : (folder : Folder) (s : OfficeState) (task : Task) (cut : Cut) (before then : Outputs) (page : Page) (ends : ℕ) (old new : State) → IsShown cut before then page ends
    → ComesTo cut page (λ course. Performs folder s task course old new) → IsPerformed folder s task cut page ends old new
performed folder s task cut before then page ends old new shown (requests, answered, comes) =
    let kept = kept_performed false folder s task (record { requests = requests; answered = answered; page = page; cut = cut }) old new comes in
    record {
      requests = requests;
      answered = answered;
      comes = comes;
      keeps = λ earlier is trees may.
          let x = kept.leaves trees may in
          let (k, low, high, within, there) = x.1 in
          (x.0, beginning earlier requests answered k low high within x.0 (there ∙ ap (λ y. after y (take k requests)) is), x.2);
      all = λ zero. let fine = shown_zero cut before then page ends shown zero in kept.all (fine.1, fine.0);
    }

-- the contract holds if nothing was sent
pub untouched : (Tells : Page → Type 0) (s : OfficeState) (cut : Cut) (page : Page) (st : State) → Tells page → LeavesState st (λ x. x ≡ s) → ComesTo cut page (λ course. IsUntouched Tells s course st)
untouched Tells s cut page st tells leaves = ([], 0, (page, cut, refl, tells, leaves))

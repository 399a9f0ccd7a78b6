-- Reading what is published of an office, and putting it into a folder.
use Rattle.std.proofs.Common.{◌≡◌, ◌⊎◌, ◌∙◌, ◌++◌, ◌<◌, ◌≤◌, ◌+◌, ℕ, suc, Bool, true, false, true≢false, List, [], ◌∷◌, Option, Some, None, Result, Ok, Err, IfOk}
use Rattle.std.proofs.Common.{drop, get_or, length, map}
use Rattle.std.proofs.Common.{inl, inr, refl, sym, ap, arith, subst, cond, add-one, append_assoc, append-nil, drop-cons}
use Rattle.std.specs.Prelude.{◌&&◌, IfErr, IfSome, IsSomeAnd, OnOk, if◌then◌else◌, option_map}
use Rattle.std.specs.List.{AllByRecursion, filter, flat_map}
use Rattle.std.specs.Result.{IsErrAnd}
use Rattle.std.proofs.lemmas.Bool.{and_parts}
use Rattle.std.proofs.lemmas.List.{drop_all, length-map}
use Rattle.clap.specs.Words.{Text}
use Rattle.sqlite.specs.Held.{Held}
use Rattle.sqlite.specs.State.{State}
use Rattle.register.specs.Elections.{ElectionEntry, election_of, is_counted, is_declared}
use Rattle.register.specs.Offices.{OfficeState, WardEntry, ward_at, ward_compared}
use Rattle.register.specs.Ranges.{is_ward_number, is_seat_number, is_name}
use Rattle.register.specs.StateConditions.{IsState, is_ward}
use Rattle.register.specs.declared.phase.Phase.{Phase}
use Rattle.register.specs.declared.phase.Phase.TheVariants.{Nominations, Keying, Sealed, Declared}
use Rattle.register.specs.declared.refusal.Reason.{Reason}
use Rattle.register.proofs.MapLemmas.{found_passes}
use Rattle.tables.specs.Reading.{OnlyReads}
use Rattle.tables.specs.declared.fault.Fault.{Fault}
use Rattle.tables.specs.declared.fault.Fault.TheVariants as fault
use Rattle.tables.proofs.ListLemmas.{mapped_itself, mapped_twice}
use Rattle.tables.proofs.ReadLemmas.{only_reads_itself, only_reads_then}
use Rattle.store.specs.Overviews.{WardView, ward_view, ward_view_of, ward_views}
use Rattle.store.specs.declared.overviews.wards.WardOverview.{WardOverview}
use Rattle.store.proofs.DoneLemmas.{wards_there}
use Rattle.store.proofs.OverviewLemmas.{each_there}
use Rattle.office.specs.Answers.{IsKeptOpen, IsMemoryOrStore, IsOpenAt, IsReadAt, WhenOpenAt}
use Rattle.office.specs.Index.{index_of}
use Rattle.office.specs.Reads.{IsClosedReading}
use Rattle.office.specs.Sheets.{is_printable_in, text_answer, text_shown}
use Rattle.office.specs.Values.{OfficeValue}
use Rattle.office.specs.declared.sheets.WardText.{WardText}
use Rattle.publication.specs.Election.{ElectionEntry as PublishedEntry, WardEntry as PublishedWard}
use Rattle.publication.specs.Files.{FileEntry, file}
use Rattle.publication.specs.Folder.{published}
use Rattle.published_office.specs.OfficeFolder.{election_published, published_of, sealed_wards, texts_of, wards_published}
use Rattle.desk.specs.Pages.{Page, failed, replied}
use Rattle.desk.specs.Publications.{EndsPublishing, FailsFolder, FolderEntry, GoesPublic, HoldsPublished, IsPublishTold, IsPublished, IsPublishedAs, IsTextIf, IsUnmade, Publishes, PutsFile}
use Rattle.desk.specs.Publications.{PutsFiles, Reads, StopsReading, can_be_published, folder_failure, published_page, published_text, ward_of_overview, ward_published}
use Rattle.desk.specs.declared.lines.Failure.{Failure}
use Rattle.desk.specs.declared.lines.Failure.TheVariants.{Office}
use Rattle.desk.specs.declared.orders.PublishOrder.{PublishOrder}
use Rattle.desk.specs.declared.publishing.FolderFault.{FolderFault}
use Rattle.desk.specs.declared.publishing.FolderFault.TheVariants as folder

-- ---- one read after another

-- a read that met a fault leaves the office open, or closed and unchanged
stopped_at : (s : OfficeState) (f : Fault) (closed : Bool) (st : State) → IsKeptOpen s f closed st ⊎ IsClosedReading s f closed st → IsReadAt s closed st
stopped_at s f closed st (inl stays) = inl stays.open_at
stopped_at s f closed st (inr shut) = inr (shut.is_closed, shut.leaves)

-- an allocation or the store failed
stopped_by : (s : OfficeState) (f : Fault) (closed : Bool) (st : State) → IsKeptOpen s f closed st ⊎ IsClosedReading s f closed st → IsMemoryOrStore f
stopped_by s f closed st (inl stays) = inl stays.memory
stopped_by s f closed st (inr shut) = inr shut.fault

module _ {S : Type 0} {state_of : Held S → State} where
  -- nothing has been read yet
  pub reads_none : {X : Type 0} {P : OfficeState → X → Type 0} {office : OfficeValue S} {x : X} → ((s : OfficeState) → IsState s → P s x) → Reads state_of office office (Ok x) P
  reads_none {office = office} told = record {
    shows = λ clean is_open s at. told s at.is;
    opens = λ clean is_open s at. record { is_open = is_open; at = at };
    stays = λ clean is_open s at. inl (record { is_open = is_open; at = at });
    fails = λ clean is_open s at. tt;
    reads = only_reads_itself (state_of office.held);
  }

  -- the result of a read, restated
  pub reads_as : {X Y : Type 0} {P : OfficeState → X → Type 0} {Q : OfficeState → Y → Type 0} {old new : OfficeValue S} {x : X} {y : Y} → Reads state_of old new (Ok x) P
      → ((s : OfficeState) → IsState s → P s x → Q s y) → Reads state_of old new (Ok y) Q
  reads_as one told = record { shows = λ clean is_open s at. told s at.is (one.shows clean is_open s at); opens = one.opens; stays = one.stays; fails = λ clean is_open s at. tt; reads = one.reads }

  -- one read, followed by another
  pub reads_both : {X Y : Type 0} {P : OfficeState → X → Type 0} {Q : OfficeState → Y → Type 0} {old mid new : OfficeValue S} {x : X} {y : Y} → Reads state_of old mid (Ok x) P
      → Reads state_of mid new (Ok y) Q → Reads state_of old new (Ok y) (λ s v. P s x × Q s v)
  reads_both {old = old} {mid = mid} {new = new} one two = record {
    shows = λ clean is_open s at.
        let before = two.reads.clean clean in
        let here = one.opens before is_open s at in
        (one.shows before is_open s at, two.shows clean here.is_open s here.at);
    opens = λ clean is_open s at. let here = one.opens (two.reads.clean clean) is_open s at in two.opens clean here.is_open s here.at;
    stays = λ clean is_open s at. let here = one.opens (two.reads.clean clean) is_open s at in two.stays clean here.is_open s here.at;
    fails = λ clean is_open s at. tt;
    reads = only_reads_then (state_of old.held) (state_of mid.held) (state_of new.held) one.reads two.reads;
  }

  -- whatever a read returned, a failure after it
  pub reads_stopped : {X Y : Type 0} {P : OfficeState → X → Type 0} {Q : OfficeState → Y → Type 0} {old new : OfficeValue S} {r : Result X Fault} {f : Fault} → IsMemoryOrStore f
      → Reads state_of old new r P → Reads state_of old new (Err f) Q
  reads_stopped why one =
      record { shows = λ clean is_open s at. tt; opens = λ clean is_open s at. tt; stays = one.stays; fails = λ clean is_open s at. why; reads = one.reads }

  -- the result of a read, and then a call that can only fail for want of memory
  pub reads_last : {X Y K : Type 0} {P : OfficeState → X → Type 0} {Q : OfficeState → Y → Type 0} {old new : OfficeValue S} {x : X} (r : Result Y Fault) → Reads state_of old new (Ok x) P
      → IfErr r (λ f. f ≡ fault.Memory) → OnOk r K → (K → (y : Y) (s : OfficeState) → IsState s → P s x → Q s y) → Reads state_of old new r Q
  reads_last (Ok y) one failed kept told = reads_as one (told kept y)
  reads_last (Err f) one failed kept told = reads_stopped (inl failed) one

  -- a failure of a read that is passed on
  pub reads_failed : {X Y : Type 0} {P : OfficeState → X → Type 0} {Q : OfficeState → Y → Type 0} {old new : OfficeValue S} {f : Fault} {r : Result Y Fault} → IsErrAnd r (λ e. e ≡ f)
      → Reads state_of old new (Err f) P → Reads state_of old new r Q
  reads_failed {r = Ok y} is failed = absurd is
  reads_failed {r = Err e} is failed = record {
    shows = λ clean is_open s at. tt;
    opens = λ clean is_open s at. tt;
    stays = failed.stays;
    fails = λ clean is_open s at. subst IsMemoryOrStore (sym is) (failed.fails clean is_open s at);
    reads = failed.reads;
  }

  -- a failure of a read that follows another, passed on
  pub reads_cut : {X Y Z : Type 0} {P : OfficeState → X → Type 0} {Q : OfficeState → Y → Type 0} {R : OfficeState → Z → Type 0} {old mid new : OfficeValue S} {x : X} {f : Fault}
      {r : Result Z Fault} → IsErrAnd r (λ e. e ≡ f) → Reads state_of old mid (Ok x) P → Reads state_of mid new (Err f) Q → Reads state_of old new r R
  reads_cut {r = Ok z} is one failed = absurd is
  reads_cut {old = old} {mid = mid} {new = new} {r = Err e} is one failed = record {
    shows = λ clean is_open s at. tt;
    opens = λ clean is_open s at. tt;
    stays = λ clean is_open s at. let here = one.opens (failed.reads.clean clean) is_open s at in failed.stays clean here.is_open s here.at;
    fails = λ clean is_open s at. let here = one.opens (failed.reads.clean clean) is_open s at in subst IsMemoryOrStore (sym is) (failed.fails clean here.is_open s here.at);
    reads = only_reads_then (state_of old.held) (state_of mid.held) (state_of new.held) one.reads failed.reads;
  }

  -- a value that the office returned
  pub read_ok : {X Y : Type 0} {view : Y → X} {answer : OfficeState → Result X Reason} {old new : OfficeValue S} {y : Y} → OnlyReads (state_of old.held) (state_of new.held)
      → WhenOpenAt state_of old new (λ s. (answer s ≡ Ok (view y)) × IsOpenAt s new.closed (state_of new.held)) → Reads state_of old new (Ok y) (λ s z. answer s ≡ Ok (view z))
  read_ok reads told = record {
    shows = λ clean is_open s at. (told clean is_open s at).0;
    opens = λ clean is_open s at. (told clean is_open s at).1;
    stays = λ clean is_open s at. inl (told clean is_open s at).1;
    fails = λ clean is_open s at. tt;
    reads = reads;
  }

  -- the office returned a fault
  pub read_failed : {Z : Type 0} {P : OfficeState → Z → Type 0} {f : Fault} {old new : OfficeValue S} → OnlyReads (state_of old.held) (state_of new.held)
      → WhenOpenAt state_of old new (λ s. IsKeptOpen s f new.closed (state_of new.held) ⊎ IsClosedReading s f new.closed (state_of new.held))
      → Reads state_of old new (Err f) P
  read_failed {old = old} {new = new} reads told = record {
    shows = λ clean is_open s at. tt;
    opens = λ clean is_open s at. tt;
    stays = λ clean is_open s at. stopped_at s _ new.closed (state_of new.held) (told clean is_open s at);
    fails = λ clean is_open s at. stopped_by s _ new.closed (state_of new.held) (told clean is_open s at);
    reads = reads;
  }

  -- the office refused the request
  pub read_refused : {Z : Type 0} {P : OfficeState → Z → Type 0} {Told : OfficeState → Type 0} {old new : OfficeValue S} → OnlyReads (state_of old.held) (state_of new.held)
      → WhenOpenAt state_of old new (λ s. Told s × IsOpenAt s new.closed (state_of new.held)) → Reads state_of old new (Err fault.Store) P
  read_refused reads told = record {
    shows = λ clean is_open s at. tt;
    opens = λ clean is_open s at. tt;
    stays = λ clean is_open s at. inl (told clean is_open s at).1;
    fails = λ clean is_open s at. inr refl;
    reads = reads;
  }

-- ---- the texts of a sealed ward

-- the value of a result
abbrev value_in : {X E : Type 0} → X → Result X E → X
value_in other (Ok x) = x
value_in other (Err e) = other

-- an answer has one value
pub told_value : {X E : Type 0} {x y : X} {r : Result X E} → r ≡ Ok x → r ≡ Ok y → y ≡ x
told_value {x = x} one other = ap (value_in x) (sym other ∙ one)

ward_in_range : (s : OfficeState) (w : WardEntry) → IsState s → ward_at s w.number ≡ Some w → is_ward_number w.number ≡ true
unfolding is_ward
ward_in_range s w is there =
    let wards = and_parts _ _ is.in_range in
    (and_parts (is_ward_number w.number) (is_seat_number w.seats && is_name w.name) (found_passes (ward_compared w.number) is_ward w s.wards wards.0 there)).0

-- a text that was returned is the text of the ward's election
pub text_there : (s : OfficeState) (w : WardEntry) (text : WardText) (told : Text) → IsState s → ward_at s w.number ≡ Some w → is_printable_in text w.phase ≡ true
    → text_answer text s w.number ≡ Ok told → told ≡ text_shown text (election_of s w)
text_there s w text told is there printable answer =
    let shown : Ok (text_shown text (election_of s w)) ≡ Ok told = rw (ward_in_range s w is there, there, printable) at answer in
    sym (ap (value_in told) shown)

-- a text that was returned if it was wanted
pub text_if_there : (s : OfficeState) (w : WardEntry) (text : WardText) (wanted : Bool) (told : Option Text) → IsState s → ward_at s w.number ≡ Some w
    → (wanted ≡ true → is_printable_in text w.phase ≡ true) → IsTextIf wanted (text_answer text s w.number) told
    → told ≡ (if wanted then Some (text_shown text (election_of s w)) else None)
text_if_there s w text true (Some own) is there printable answer = ap (λ t. Some t) (text_there s w text own is there (printable refl) answer)
text_if_there s w text true None is there printable answer = absurd answer
text_if_there s w text false told is there printable answer = answer

-- two wards with the same texts are equal
pub same_texts : (x y : PublishedWard) → x.number ≡ y.number → x.name ≡ y.name → x.page ≡ y.page → x.sheet ≡ y.sheet → x.declaration ≡ y.declaration → x.table ≡ y.table
    → x.results ≡ y.results → x.ballots ≡ y.ballots → x ≡ y
same_texts x y number name page sheet declaration table results ballots =
    ap (λ v. record x { number = v }) number
    ∙ ap (λ v. record x { number = y.number; name = v }) name
    ∙ ap (λ v. record x { number = y.number; name = y.name; page = v }) page
    ∙ ap (λ v. record x { number = y.number; name = y.name; page = y.page; sheet = v }) sheet
    ∙ ap (λ v. record y { declaration = v; table = x.table; results = x.results; ballots = x.ballots }) declaration
    ∙ ap (λ v. record y { table = v; results = x.results; ballots = x.ballots }) table
    ∙ ap (λ v. record y { results = v; ballots = x.ballots }) results
    ∙ ap (λ v. record y { ballots = v }) ballots

-- a declared ward has been sealed
pub declared_counted : (w : WardEntry) → is_declared w.phase ≡ true → is_counted w.phase ≡ true
declared_counted w is = by w.phase is
  where
    by : (phase : Phase) → is_declared phase ≡ true → is_counted phase ≡ true
    by Nominations is = absurd cc
    by Keying is = absurd cc
    by Sealed is = refl
    by Declared is = refl

-- ---- ward by ward

-- the wards of the overviews are those of the state
pub overviews_are : (s : OfficeState) (os : List WardOverview) → ward_views s ≡ map ward_view os → map ward_of_overview os ≡ s.wards
overviews_are s os same =
    sym (mapped_twice ward_view (λ (v : WardView). v.ward) os)
    ∙ (ap (map (λ (v : WardView). v.ward)) (sym same) ∙ (mapped_twice (ward_view_of s) (λ (v : WardView). v.ward) s.wards ∙ mapped_itself s.wards))

-- a ward of a state is the one found by its number
pub overview_there : (s : OfficeState) → IsState s → (os : List WardOverview) → map ward_of_overview os ≡ s.wards → (k : ℕ) (o : WardOverview) → k < length os → o ≡ get_or os k o
    → ward_at s o.ward.number ≡ Some (ward_of_overview o)
overview_there s is os are k o within at =
    each_there (λ (e : WardEntry). ward_at s e.number ≡ Some e) ward_of_overview os k o (subst (AllByRecursion (λ (e : WardEntry). ward_at s e.number ≡ Some e))
    (sym are) (wards_there s.wards is.rise.wards)) within at

-- if what is published of the wards so far, followed by that of the remaining ones, is all that is published, then this still holds after the next ward
pub published_more : {A B C : Type 0} (f : B → List C) (view : A → B) (xs : List A) (k : ℕ) (x : A) (before after all : List C) → k < length xs → x ≡ get_or xs k x
    → after ≡ before ++ f (view x) → before ++ flat_map f (map view (drop k xs)) ≡ all → after ++ flat_map f (map view (drop (k + 1) xs)) ≡ all
published_more {A = A} {C = C} f view xs k x before after all within is grown so_far =
    let rest : List C = flat_map f (map view (drop (k + 1) xs)) in
    let left : drop k xs ≡ x ∷ drop (k + 1) xs = rw add-one (drop-cons xs k x within ∙ ap (λ (y : A). y ∷ drop (suc k) xs) (sym is)) in
    ap (λ (cs : List C). cs ++ rest) grown
    ∙ append_assoc before (f (view x)) rest
    ∙ ap (λ (ys : List A). before ++ flat_map f (map view ys)) (sym left)
    ∙ so_far

-- and after the last ward
pub published_all : {A B C : Type 0} (f : B → List C) (view : A → B) (xs : List A) (k : ℕ) (before all : List C) → length xs ≤ k
    → before ++ flat_map f (map view (drop k xs)) ≡ all → before ≡ all
published_all {A = A} f view xs k before all past so_far =
    sym (append-nil before) ∙ (sym (ap (λ (ys : List A). before ++ flat_map f (map view ys)) (drop_all k xs past)) ∙ so_far)

-- what is published of all wards is what is published of the sealed ones
one_by_one : (title : Text) (with_ballots : Bool) (s : OfficeState) (ws : List WardEntry) → flat_map (ward_published title with_ballots s) ws
    ≡ map (λ (w : WardEntry). texts_of title with_ballots (election_of s w)) (filter (λ (w : WardEntry). is_counted w.phase) ws)
one_by_one title with_ballots s [] = refl
one_by_one title with_ballots s (w ∷ ws) = by (is_counted w.phase) (one_by_one title with_ballots s ws)
  where
    texts : WardEntry → PublishedWard
    texts v = texts_of title with_ballots (election_of s v)

    by : (b : Bool) → flat_map (ward_published title with_ballots s) ws ≡ map texts (filter (λ (v : WardEntry). is_counted v.phase) ws)
        → (if b then texts w ∷ [] else []) ++ flat_map (ward_published title with_ballots s) ws
        ≡ map texts (if b then w ∷ filter (λ (v : WardEntry). is_counted v.phase) ws else filter (λ (v : WardEntry). is_counted v.phase) ws)
    by true more = ap (λ rest. texts w ∷ rest) more
    by false more = more

pub published_wards : (title : Text) (with_ballots : Bool) (s : OfficeState) → flat_map (ward_published title with_ballots s) s.wards ≡ wards_published title with_ballots s
published_wards title with_ballots s = one_by_one title with_ballots s s.wards

-- an election with this title, this page of all wards, and these wards
abbrev pub entry_with : Text → Text → List PublishedWard → PublishedEntry
entry_with title index wards = record { title = title; index = index; wards = wards }

-- what was read is all that is published
pub read_whole : (title : Text) (with_ballots : Bool) (s : OfficeState) (index : Text) (wards : List PublishedWard) → index ≡ index_of title s → wards ≡ wards_published title with_ballots s
    → entry_with title index wards ≡ election_published title with_ballots s
read_whole title with_ballots s index wards index_is wards_are =
    ap (λ (i : Text). entry_with title i wards) index_is ∙ ap (λ (ws : List PublishedWard). entry_with title (index_of title s) ws) wards_are

-- ---- the folder

-- no file has been put into it yet
pub puts_none : (held : Option FolderEntry) → PutsFiles held held []
puts_none None = tt
puts_none (Some f) = λ private. ap (λ (files : List FileEntry). Some (record f { files = files })) (sym (append-nil f.files))

-- files, and one more
pub puts_more : (old mid new : Option FolderEntry) (files : List FileEntry) (name text : Text) → PutsFiles old mid files → PutsFile mid new name text
    → PutsFiles old new (files ++ file name text ∷ [])
puts_more None mid new files name text so_far one = tt
puts_more (Some f) mid new files name text so_far one = λ private.
    let put : new ≡ Some (record f { files = (f.files ++ files) ++ file name text ∷ [] }) = (subst (λ held. PutsFile held new name text) (so_far private) one) private in
    put ∙ ap (λ (all : List FileEntry). Some (record f { files = all })) (append_assoc f.files files (file name text ∷ []))

-- files, and then the folder became public
pub puts_all : (old mid new : Option FolderEntry) (files : List FileEntry) → PutsFiles old mid files → GoesPublic mid new → Publishes old new files
puts_all None mid new files so_far public = tt
puts_all (Some f) mid new files so_far public = λ private. (subst (λ held. GoesPublic held new) (so_far private) public) private

-- files, and then a call that failed
pub puts_stopped : (old mid new : Option FolderEntry) (files : List FileEntry) (why : FolderFault) → PutsFiles old mid files → FailsFolder mid new why → FailsFolder old new why
puts_stopped None mid new files why so_far stopped = tt
puts_stopped (Some f) mid new files why so_far stopped = λ private. (subst (λ held. FailsFolder held new why) (so_far private) stopped) private

-- files, and then a call that makes the folder public, or fails
pub puts_end : {X : Type 0} (r : Result X FolderFault) (old mid new : Option FolderEntry) (files : List FileEntry) → PutsFiles old mid files → OnOk r (GoesPublic mid new)
    → OnOk r (Publishes old new files)
puts_end (Ok x) old mid new files so_far last = puts_all old mid new files so_far last
puts_end (Err why) old mid new files so_far last = tt

pub puts_fail : {X : Type 0} (r : Result X FolderFault) (old mid new : Option FolderEntry) (files : List FileEntry) → PutsFiles old mid files → IfErr r (FailsFolder mid new)
    → IfErr r (FailsFolder old new)
puts_fail (Ok x) old mid new files so_far last = tt
puts_fail (Err why) old mid new files so_far last = puts_stopped old mid new files why so_far last

-- a failure that is passed on
pub fails_on : {X : Type 0} (r : Result X FolderFault) (old new : Option FolderEntry) (why : FolderFault) → IsErrAnd r (λ e. e ≡ why) → FailsFolder old new why → IfErr r (FailsFolder old new)
fails_on (Ok x) old new why is failed = absurd is
fails_on (Err e) old new why is failed = subst (FailsFolder old new) (sym is) failed

-- if the files so far, followed by the remaining ones, are all files, then this still holds after the next file
pub files_more : {A : Type 0} (view : A → FileEntry) (xs : List A) (k : ℕ) (x : A) (before : List FileEntry) → k < length xs → x ≡ get_or xs k x → before ++ map view (drop k xs) ≡ map view xs
    → (before ++ view x ∷ []) ++ map view (drop (k + 1) xs) ≡ map view xs
files_more {A = A} view xs k x before within is so_far =
    let left : drop k xs ≡ x ∷ drop (k + 1) xs = rw add-one (drop-cons xs k x within ∙ ap (λ (y : A). y ∷ drop (suc k) xs) (sym is)) in
    append_assoc before (view x ∷ []) (map view (drop (k + 1) xs)) ∙ ap (λ (ys : List A). before ++ map view ys) (sym left) ∙ so_far

-- and after the last one
pub files_all : {A : Type 0} (view : A → FileEntry) (xs : List A) (k : ℕ) (before : List FileEntry) → length xs ≤ k → before ++ map view (drop k xs) ≡ map view xs → before ≡ map view xs
files_all {A = A} view xs k before past so_far = sym (append-nil before) ∙ ap (λ (ys : List A). before ++ map view ys) (sym (drop_all k xs past)) ∙ so_far

-- ---- the outcome

-- what is reported is true for any office
pub holds_published : (Why : Failure → Type 0) (text : Text) (files : List FileEntry) (page : Page) (old new : Option FolderEntry) → IsPublishedAs Why (replied text) files page old new
    → HoldsPublished page old new
holds_published Why text files page old new (inl it) = inl (text, files, it.0, it.1)
holds_published Why text files page old new (inr (inl it)) = inr (inl (it.0, it.1, tt, it.3))
holds_published Why text files page old new (inr (inr it)) = inr (inr it)

-- a failure of the folder can end an order to publish
pub folder_ends : (why : FolderFault) → EndsPublishing (folder_failure why)
folder_ends folder.Taken = tt
folder_ends folder.Memory = inl refl
folder_ends folder.Unwritten = tt

-- the page of an office that was published at a state
pub publish_told : (s : OfficeState) (p : PublishOrder) (page : Page) (old new : Option FolderEntry) → IsPublished s p page old new → IsPublishTold s p page
publish_told s p page old new (inl it) = inl it.0
publish_told s p page old new (inr (inl it)) = let why = it.2 in inr (Office why.0, it.1 ∙ ap failed why.1, why.2)
publish_told s p page old new (inr (inr it)) = inr (folder_failure it.0, it.1, folder_ends it.0)

-- with status 0 it was published
pub published_at_zero : (Why : Failure → Type 0) (reply : Page) (files : List FileEntry) (page : Page) (old new : Option FolderEntry) → page.status ≡ 0
    → IsPublishedAs Why reply files page old new → Publishes old new files
published_at_zero Why reply files page old new zero (inl it) = it.1
published_at_zero Why reply files page old new zero (inr (inl it)) = let three : page.status ≡ 3 = ap (λ (p : Page). p.status) it.1 in absurd (omega (arith, three, zero))
published_at_zero Why reply files page old new zero (inr (inr it)) = let three : page.status ≡ 3 = ap (λ (p : Page). p.status) it.1 in absurd (omega (arith, three, zero))

-- what can be published isn't made only if an allocation failed
unmade_unread : (e : PublishedEntry) (failure : Failure) → can_be_published e ≡ true → IsUnmade e failure → StopsReading failure
unmade_unread e failure can (inl memory) = (fault.Memory, memory, inl refl)
unmade_unread e failure can (inr unfit) = absurd (true≢false (sym can ∙ unfit.1))

published_so : (e : PublishedEntry) (reply : Page) (files : List FileEntry) (page : Page) (old new : Option FolderEntry) → can_be_published e ≡ true
    → IsPublishedAs (IsUnmade e) reply files page old new → IsPublishedAs StopsReading reply files page old new
published_so e reply files page old new can (inl it) = inl it
published_so e reply files page old new can (inr (inl it)) = inr (inl (it.0, it.1, unmade_unread e it.0 can it.2, it.3))
published_so e reply files page old new can (inr (inr it)) = inr (inr it)

-- what was read at a state was published
pub published_at : (title : Text) (with_ballots : Bool) (s : OfficeState) (found : PublishedEntry) (page : Page) (old new : Option FolderEntry)
    → found ≡ election_published title with_ballots s → can_be_published (election_published title with_ballots s) ≡ true
    → IsPublishedAs (IsUnmade found) (replied (published_text (length found.wards) (length (published found)))) (published found) page old new
    → IsPublishedAs StopsReading (published_page title with_ballots s) (published_of title with_ballots s) page old new
published_at title with_ballots s found page old new same can it =
    let all : PublishedEntry = election_published title with_ballots s in
    let P : PublishedEntry → Type 0 = λ e. IsPublishedAs (IsUnmade e) (replied (published_text (length e.wards) (length (published e)))) (published e) page old new in
    let Q : ℕ → Type 0 = λ n. IsPublishedAs (IsUnmade all) (replied (published_text n (length (published all)))) (published all) page old new in
    let count : length all.wards ≡ length (sealed_wards s) = length-map (sealed_wards s) (λ (w : WardEntry). texts_of title with_ballots (election_of s w)) in
    published_so all (published_page title with_ballots s) (published all) page old new can (subst Q count (subst P same it))

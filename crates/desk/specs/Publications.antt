-- The folder in which the office publishes, what is read of the office for that, and what the order to publish prints.
use Rattle.std.specs.Prelude.{◌≡◌, ◌⊎◌, ◌++◌, ◌∷◌, ◌&&◌, ⊤, ℕ, Bool, false, true, List, [], Option, Some, None, Result, Ok, IfErr, IfOk, IfSome, IsSomeAnd, OnOk}
use Rattle.std.specs.Prelude.{codes, if◌then◌else◌, length, map, option_map, string_bytes}
use Rattle.std.specs.Fmt.{decimal}
use Rattle.clap.specs.Words.{Text}
use Rattle.sqlite.specs.Held.{Held}
use Rattle.sqlite.specs.State.{State}
use Rattle.register.specs.Elections.{election_of, is_counted}
use Rattle.register.specs.Offices.{OfficeState, WardEntry, ward_entry}
use Rattle.register.specs.declared.refusal.Reason.{Reason}
use Rattle.tables.specs.Reading.{OnlyReads}
use Rattle.tables.specs.declared.fault.Fault.{Fault}
use Rattle.tables.specs.declared.fault.Fault.TheVariants as fault
use Rattle.store.specs.declared.overviews.wards.WardOverview.{WardOverview}
use Rattle.office.specs.Answers.{IsMemoryOrStore, IsOpenAt, IsReadAt, WhenOpenAt}
use Rattle.office.specs.Values.{OfficeValue}
use Rattle.publication.specs.Election.{ElectionEntry as PublishedEntry, WardEntry as PublishedWard, are_in_order}
use Rattle.publication.specs.Files.{FileEntry, file}
use Rattle.publication.specs.Pages.{are_pages}
use Rattle.publication.specs.declared.fault.PublishFault.{PublishFault}
use Rattle.publication.specs.declared.fault.PublishFault.TheVariants as unmade
use Rattle.published_office.specs.OfficeFolder.{published_of, sealed_wards, texts_of}
use Rattle.desk.specs.Pages.{Page, failed, replied}
use Rattle.desk.specs.declared.lines.Failure.{Failure}
use Rattle.desk.specs.declared.lines.Failure.TheVariants.{Office, Output, CopyTaken, CopyFailed, BeingServed, FileGone, SecondRecord}
use Rattle.desk.specs.declared.orders.PublishOrder.{PublishOrder}
use Rattle.desk.specs.declared.publishing.FolderFault.{FolderFault}
use Rattle.desk.specs.declared.publishing.FolderFault.TheVariants as folder
use Rattle.desk.specs.declared.publishing.ReadElection.{ReadElection}
use Rattle.desk.specs.declared.publishing.SealedWard.{SealedWard}

-- ---- the folder

-- A folder: the files that were put into it, in order; whether it is public; and the fault of the last call on it that failed, if one did.
pub record FolderEntry : Type 0 where
  pub files : List FileEntry
  pub is_public : Bool
  pub fault : Option FolderFault

-- a file with the given name and text was put into the folder, which wasn't public
abbrev pub PutsFile : Option FolderEntry → Option FolderEntry → Text → Text → Type 0
PutsFile old new name text = IfSome old (λ f. f.is_public ≡ false → new ≡ Some (record f { files = f.files ++ file name text ∷ [] }))

-- the given files were put into the folder, which wasn't public
abbrev pub PutsFiles : Option FolderEntry → Option FolderEntry → List FileEntry → Type 0
PutsFiles old new files = IfSome old (λ f. f.is_public ≡ false → new ≡ Some (record f { files = f.files ++ files }))

-- the folder, which wasn't public, became public, with its files and no others
abbrev pub GoesPublic : Option FolderEntry → Option FolderEntry → Type 0
GoesPublic old new = IfSome old (λ f. f.is_public ≡ false → new ≡ Some (record f { is_public = true }))

-- the given files were put into the folder, which wasn't public, and then it became public
abbrev pub Publishes : Option FolderEntry → Option FolderEntry → List FileEntry → Type 0
Publishes old new files = IfSome old (λ f. f.is_public ≡ false → new ≡ Some (record f { files = f.files ++ files; is_public = true }))

-- a call on the folder, which wasn't public, failed with the given fault, and the folder still isn't public
abbrev pub FailsFolder : Option FolderEntry → Option FolderEntry → FolderFault → Type 0
FailsFolder old new fault = IfSome old (λ f. f.is_public ≡ false → IsSomeAnd new (λ g. (g.is_public ≡ false) × (g.fault ≡ Some fault)))

-- ---- reading the office

-- A read of an office. If the office was open at a state, the result is true of that state, and the office is still open at it unless the read failed, because an allocation
-- or the store did. The office is only read.
pub record Reads {S X : Type 0} (state_of : Held S → State) (old new : OfficeValue S) (result : Result X Fault) (IsTold : OfficeState → X → Type 0) : Type 0 where
  pub shows : WhenOpenAt state_of old new (λ s. IfOk result (IsTold s))
  pub opens : WhenOpenAt state_of old new (λ s. OnOk result (IsOpenAt s new.closed (state_of new.held)))
  pub stays : WhenOpenAt state_of old new (λ s. IsReadAt s new.closed (state_of new.held))
  pub fails : WhenOpenAt state_of old new (λ s. IfErr result IsMemoryOrStore)
  pub reads : OnlyReads (state_of old.held) (state_of new.held)

-- a text that was read if it was wanted, given the answer to the request for it
abbrev pub IsTextIf : Bool → Result Text Reason → Option Text → Type 0
IsTextIf true answer told = IsSomeAnd told (λ text. answer ≡ Ok text)
IsTextIf false answer told = told ≡ None

-- the ward of an overview
abbrev pub ward_of_overview : WardOverview → WardEntry
ward_of_overview o = ward_entry o.ward

-- the texts of a sealed ward as they were read
abbrev pub sealed_entry : SealedWard → PublishedWard
sealed_entry w = record {
  number = w.number;
  name = string_bytes w.name;
  page = string_bytes w.page;
  sheet = string_bytes w.sheet;
  declaration = option_map string_bytes w.declaration;
  table = string_bytes w.table;
  results = string_bytes w.results;
  ballots = option_map string_bytes w.ballots;
}

-- what is published of a ward, if it is sealed
abbrev pub ward_published : Text → Bool → OfficeState → WardEntry → List PublishedWard
ward_published title with_ballots s w = if is_counted w.phase then texts_of title with_ballots (election_of s w) ∷ [] else []

-- what is published of an office, as it was read, with this title
abbrev pub election_read : Text → ReadElection → PublishedEntry
election_read title found = record { title = title; index = string_bytes found.index; wards = map sealed_entry found.wards.items }

-- ---- what is printed

-- the line that says how many wards and files were published
unfoldable pub published_text : ℕ → ℕ → Text
published_text wards files = codes "published " ++ (decimal wards ++ (codes " wards, " ++ (decimal files ++ codes " files")))

-- the failure that is reported if the folder can't be written or made public
abbrev pub folder_failure : FolderFault → Failure
folder_failure folder.Taken = CopyTaken
folder_failure folder.Memory = Office fault.Memory
folder_failure folder.Unwritten = CopyFailed

-- the failure that is reported if the files can't be made
abbrev pub unmade_failure : PublishFault → Failure
unmade_failure unmade.Memory = Office fault.Memory
unmade_failure unmade.NotAPage = CopyFailed
unmade_failure unmade.WardOrder = CopyFailed

-- whether what was read can be published: each page ends as pages do, and the wards are in order
abbrev pub can_be_published : PublishedEntry → Bool
can_be_published e = are_pages e && are_in_order e.wards

-- why files aren't made of what was read: an allocation failed, or it can't be published
abbrev pub IsUnmade : PublishedEntry → Failure → Type 0
IsUnmade e failure = (failure ≡ Office fault.Memory) ⊎ ((failure ≡ CopyFailed) × (can_be_published e ≡ false))

-- why an open office can't be read: an allocation or the store failed
abbrev pub StopsReading : Failure → Type 0
StopsReading failure = (fault : Fault) × (failure ≡ Office fault) × IsMemoryOrStore fault

-- Nothing was published, and the page reports why. The reason is one of those given, and nothing was done to the folder. Or a call on the folder failed, which still
-- isn't public.
abbrev pub IsUnpublished : (Failure → Type 0) → Page → Option FolderEntry → Option FolderEntry → Type 0
IsUnpublished Why page old new =
    ((failure : Failure) × (page ≡ failed failure) × Why failure × (new ≡ old))
    ⊎ ((fault : FolderFault) × (page ≡ failed (folder_failure fault)) × FailsFolder old new fault)

-- The given files were put into the folder, which became public, and the page is the given one. Or nothing was published, for one of the given reasons or because of the folder.
abbrev pub IsPublishedAs : (Failure → Type 0) → Page → List FileEntry → Page → Option FolderEntry → Option FolderEntry → Type 0
IsPublishedAs Why reply files page old new = ((page ≡ reply) × Publishes old new files) ⊎ IsUnpublished Why page old new

-- What is reported about the folder is true for any office. It became public, and the page is a reply. Or nothing was published, and the page reports why.
abbrev pub HoldsPublished : Page → Option FolderEntry → Option FolderEntry → Type 0
HoldsPublished page old new =
    ((text : Text) × (files : List FileEntry) × (page ≡ replied text) × Publishes old new files) ⊎ IsUnpublished (λ failure. ⊤) page old new

-- the page for an office published at a state, with the numbers of its sealed wards and of the files
abbrev pub published_page : Text → Bool → OfficeState → Page
published_page title with_ballots s = replied (published_text (length (sealed_wards s)) (length (published_of title with_ballots s)))

-- The office at a state was published: the folder gained exactly the files of that state, and became public; and the page says so. Or the page reports a failure, and the
-- folder isn't public: an allocation or the store failed while the office was being read, or a call on the folder failed.
abbrev pub IsPublished : OfficeState → PublishOrder → Page → Option FolderEntry → Option FolderEntry → Type 0
IsPublished s p = IsPublishedAs StopsReading (published_page p.title.now p.with_ballots s) (published_of p.title.now p.with_ballots s)

-- the failures that can end an order to publish an open office: an allocation or the store failed, something has the folder's name, or the folder can't be written
abbrev pub EndsPublishing : Failure → Type 0
EndsPublishing (Office fault) = IsMemoryOrStore fault
EndsPublishing CopyTaken = ⊤
EndsPublishing CopyFailed = ⊤
EndsPublishing Output = ⊥
EndsPublishing BeingServed = ⊥
EndsPublishing FileGone = ⊥
EndsPublishing SecondRecord = ⊥

-- the page of an order to publish the office at a state
abbrev pub IsPublishTold : OfficeState → PublishOrder → Page → Type 0
IsPublishTold s p page = (page ≡ published_page p.title.now p.with_ballots s) ⊎ ((failure : Failure) × (page ≡ failed failure) × EndsPublishing failure)

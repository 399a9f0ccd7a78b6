-- A sealed ward of a state, as the checker makes it from the ward's own ballots: it is counted, and it has the texts and the row that the office publishes of it.
use Rattle.std.proofs.Common.{◌≡◌, ℕ, nat_eq, nat_lt, Bool, true, false, cond, List, [], ◌∷◌, length, map, filter, reverse, Option, Some, None, Ok, refl, sym, ap, subst, ◌∙◌}
use Rattle.std.specs.List.{list_any}
use Rattle.std.proofs.lemmas.List.{length-map}
use Rattle.count.specs.Bundles.{Bundle, bundled}
use Rattle.count.specs.declared.stages.Stage.{Stage}
use Rattle.sheet.specs.Ballots.{ballots}
use Rattle.sheet.specs.Entries.{SheetEntry}
use Rattle.sheet.specs.Index.{ListedEntry}
use Rattle.sheet.specs.Sheet.{declaration, sheet}
use Rattle.sheet.specs.Surpluses.{surpluses_of}
use Rattle.sheet.specs.declared.index.WardStanding.{WardStanding}
use Rattle.sheet.specs.declared.index.WardStanding.TheVariants as standing
use Rattle.sheet.specs.declared.surpluses.PassedOn.{PassedOn}
use Rattle.sheet.specs.declared.ward.Poll.{Poll}
use Rattle.publication.specs.Election.{WardEntry as PublishedWard}
use Rattle.checker.specs.BallotsRoundTrip.{IsReadBack}
use Rattle.checker.specs.Counts.{IsWardCount, lots_in, surpluses_in}
use Rattle.checker.specs.Folders.{IsSealed, SealedEntry, early_lot, is_sealed, listed_as, listed_of, texts_as, texts_of}
use Rattle.checker.specs.Reading.{ReaderEntry, read}
use Rattle.checker.specs.Wards.{ward_told}
use Rattle.register.specs.declared.phase.Phase.{Phase}
use Rattle.register.specs.declared.phase.Phase.TheVariants.{Nominations, Keying, Sealed, Declared}
use Rattle.register.specs.Marks.{columns_of}
use Rattle.register.specs.Offices.{CandidateEntry, OfficeState, WardEntry, candidates_of}
use Rattle.register.specs.Elections.{ElectionEntry, elected_of, election_of, has_count, is_counted, is_declared, stages_of}
use Rattle.store.specs.Overviews.{ward_view_of}
use Rattle.office.specs.Index.{is_among_elected, listed_shown, standing_in}
use Rattle.office.specs.Sheets.{bundles_shown, candidate_shown, election_shown, lots_shown, poll_shown, sheet_of, stages_shown, surpluses_shown}
use Rattle.published_office.specs.OfficeFolder.{texts_of as office_texts}
use Rattle.sheet_round_trip.proofs.CountedLemmas.{HasCount, shown_by}

-- what holds of a ward, its bundles and its lots holds of what is read back
read_as : (ward : SheetEntry) (bundles : List Bundle) (lots : List (ℕ × ℕ)) (back : IsReadBack ward bundles lots) (P : SheetEntry → List Bundle → List (ℕ × ℕ) → Type 0)
    → P ward bundles lots → P (ward_told back.reading) back.reading.papers.bundles back.reading.remarks.lots
read_as ward bundles lots back P is =
    subst (λ (w : SheetEntry). P w back.reading.papers.bundles back.reading.remarks.lots) (sym back.ward_is)
    (subst (λ (bs : List Bundle). P ward bs back.reading.remarks.lots) (sym back.bundles_are) (subst (P ward bundles) (sym back.lots_are) is))

-- ---- the row

-- the elected candidates, as shown
filter_shown : (elected : List ℕ) (cs : List CandidateEntry)
    → filter (λ (candidate : ℕ × List ℕ). list_any (nat_eq candidate.0) elected) (map candidate_shown cs) ≡ map candidate_shown (filter (is_among_elected (Some elected)) cs)
filter_shown elected [] = refl
filter_shown elected (c ∷ cs) = go (list_any (nat_eq c.number) elected) (filter_shown elected cs)
  where
    go : (b : Bool) → filter (λ (candidate : ℕ × List ℕ). list_any (nat_eq candidate.0) elected) (map candidate_shown cs) ≡ map candidate_shown (filter (is_among_elected (Some elected)) cs)
        → cond b (candidate_shown c ∷ filter (λ (candidate : ℕ × List ℕ). list_any (nat_eq candidate.0) elected) (map candidate_shown cs))
        (filter (λ (candidate : ℕ × List ℕ). list_any (nat_eq candidate.0) elected) (map candidate_shown cs))
        ≡ map candidate_shown (cond b (c ∷ filter (is_among_elected (Some elected)) cs) (filter (is_among_elected (Some elected)) cs))
    go true later = ap (λ (shown : List (ℕ × List ℕ)). candidate_shown c ∷ shown) later
    go false later = later

-- the elected candidates of a ward, once it is declared
same_elected : (cs : List CandidateEntry) (elected own : List ℕ) (declared : Bool) → (declared ≡ true → elected ≡ own)
    → cond declared (filter (λ (candidate : ℕ × List ℕ). list_any (nat_eq candidate.0) elected) (map candidate_shown cs)) []
    ≡ map candidate_shown (filter (is_among_elected (cond declared (Some own) None)) (cond declared cs []))
same_elected cs elected own true same = ap (λ (es : List ℕ). filter (λ (candidate : ℕ × List ℕ). list_any (nat_eq candidate.0) es) (map candidate_shown cs)) (same refl) ∙ filter_shown own cs
same_elected cs elected own false same = refl

-- the standing of a sealed ward
same_standing : (phase : Phase) → is_counted phase ≡ true → cond (is_declared phase) standing.Declared standing.Sealed ≡ standing_in phase
same_standing Nominations sealed = absurd (cc)
same_standing Keying sealed = absurd (cc)
same_standing Sealed sealed = refl
same_standing Declared sealed = refl

-- a sealed ward is listed as the office lists it
same_listed : (s : OfficeState) (w : WardEntry) (elected : List ℕ) → is_counted w.phase ≡ true → (is_declared w.phase ≡ true → elected ≡ elected_of (election_of s w))
    → listed_as (election_shown (election_of s w)) elected (is_declared w.phase) ≡ listed_shown (ward_view_of s w)
same_listed s w elected sealed same =
    let cs : List CandidateEntry = candidates_of s w.number in
    let own : ListedEntry = listed_as (election_shown (election_of s w)) elected (is_declared w.phase) in
    ap (λ (is : WardStanding). record own { standing = is }) (same_standing w.phase sealed)
    ∙ ap (λ (contested : Bool). record own { standing = standing_in w.phase; is_contested = contested }) (ap (nat_lt w.seats) (length-map cs candidate_shown))
    ∙ ap (λ (chosen : List (ℕ × List ℕ)). record own { standing = standing_in w.phase; is_contested = nat_lt w.seats (length cs); elected = chosen })
    (same_elected cs elected (elected_of (election_of s w)) (is_declared w.phase) same)

-- ---- the texts

module _ (e : ElectionEntry) where
  -- the lots that the texts show
  own_lots : lots_in (poll_shown e) (lots_shown e) ≡ lots_shown e
  own_lots = go (has_count e)
    where
      go : (b : Bool) → lots_in (cond b (Some (let p : Poll = record { valid = length e.ballots.papers; rejected = e.ballots.rejected } in p)) None) (cond b e.lots []) ≡ cond b e.lots []
      go true = refl
      go false = refl

  -- the papers that passed on with each surplus
  own_surpluses : map (λ (candidate : ℕ × List ℕ). candidate.0) (map candidate_shown e.candidates) ≡ columns_of e.candidates
      → surpluses_in (poll_shown e) (election_shown e) (bundles_shown e) (lots_shown e) (length (stages_shown e)) ≡ surpluses_shown e
  own_surpluses own = go (has_count e)
    where
      go : (b : Bool)
          → surpluses_in (shown_by e b).poll (shown_by e b) (cond b (bundled e.ballots.papers) []) (cond b e.lots []) (length (cond b (reverse (stages_of e)) []))
          ≡ cond b (surpluses_of (columns_of e.candidates) e.ward.seats (cond b (bundled e.ballots.papers) []) (cond b e.lots []) (length (cond b (reverse (stages_of e)) []))) []
      go true = ap (λ (cs : List ℕ). surpluses_of cs e.ward.seats (bundled e.ballots.papers) e.lots (length (reverse (stages_of e)))) own
      go false = refl

  -- the stages, of which an uncontested ward has none
  own_stages : (has_count e ≡ false → stages_of e ≡ []) → stages_shown e ≡ reverse (stages_of e)
  own_stages none = go (has_count e) refl
    where
      go : (b : Bool) → has_count e ≡ b → cond b (reverse (stages_of e)) [] ≡ reverse (stages_of e)
      go true contested = refl
      go false uncontested = ap (λ (h : List Stage). reverse h) (sym (none uncontested))

  -- the declaration, once the ward is declared
  own_declaration : (elected : List ℕ) (declared : Bool) → (declared ≡ true → elected ≡ elected_of e)
      → cond declared (Some (declaration (election_shown e) elected)) None ≡ cond declared (Some (declaration (election_shown e) (elected_of e))) None
  own_declaration elected true same = ap (λ (es : List ℕ). Some (declaration (election_shown e) es)) (same refl)
  own_declaration elected false same = refl

  -- the texts of a sealed ward are those that the office publishes
  same_texts : (title elected : List ℕ) → map (λ (candidate : ℕ × List ℕ). candidate.0) (map candidate_shown e.candidates) ≡ columns_of e.candidates
      → (has_count e ≡ false → stages_of e ≡ []) → (is_declared e.ward.phase ≡ true → elected ≡ elected_of e)
      → texts_as title (election_shown e) (bundles_shown e) (lots_in (poll_shown e) (lots_shown e)) (stages_shown e)
      (surpluses_in (poll_shown e) (election_shown e) (bundles_shown e) (lots_shown e) (length (stages_shown e))) elected (is_declared e.ward.phase)
      ≡ office_texts title true e
  same_texts title elected own none same =
      let ward : SheetEntry = election_shown e in
      let passed : List PassedOn = surpluses_in (poll_shown e) ward (bundles_shown e) (lots_shown e) (length (stages_shown e)) in
      let made : PublishedWard = texts_as title ward (bundles_shown e) (lots_shown e) (stages_shown e) (surpluses_shown e) elected (is_declared e.ward.phase) in
      ap (λ (lots : List (ℕ × ℕ)). texts_as title ward (bundles_shown e) lots (stages_shown e) passed elected (is_declared e.ward.phase)) own_lots
      ∙ ap (λ (surpluses : List PassedOn). texts_as title ward (bundles_shown e) (lots_shown e) (stages_shown e) surpluses elected (is_declared e.ward.phase)) (own_surpluses own)
      ∙ ap (λ (text : List ℕ). record made { sheet = text }) (ap (sheet ward) (own_stages none))
      ∙ ap (λ (text : Option (List ℕ)). record made { sheet = sheet_of e; declaration = text }) (own_declaration elected (is_declared e.ward.phase) same)

-- ---- the ward

-- a sealed ward of a state, as the checker makes it
pub record IsMadeOf (title : List ℕ) (s : OfficeState) (w : WardEntry) : Type 0 where
  pub ward : SealedEntry
  pub so : IsSealed ward
  pub texts_are : texts_of title ward ≡ office_texts title true (election_of s w)
  pub listed_is : listed_of (is_sealed ward) ≡ listed_shown (ward_view_of s w)

pub made_of : (title : List ℕ) (s : OfficeState) (w : WardEntry) → is_counted w.phase ≡ true
    → IsReadBack (election_shown (election_of s w)) (bundles_shown (election_of s w)) (lots_shown (election_of s w))
    → map (λ (candidate : ℕ × List ℕ). candidate.0) (map candidate_shown (candidates_of s w.number)) ≡ columns_of (candidates_of s w.number)
    → (has_count (election_of s w) ≡ false → stages_of (election_of s w) ≡ [])
    → HasCount (election_of s w) (has_count (election_of s w)) (is_declared w.phase) → IsMadeOf title s w
made_of title s w sealed back own none counted =
    let e : ElectionEntry = election_of s w in
    let declared : Bool = is_declared w.phase in
    let of = read_as (election_shown e) (bundles_shown e) (lots_shown e) back in
    let reading : ReaderEntry = back.reading in
    let ward : SealedEntry = record { reading = reading; count = counted.ward.count; stages = stages_shown e; is_declared = declared } in
    let so : IsSealed ward = record {
      understood = of (λ shown bs ls. read (ballots shown bs (lots_in shown.poll ls)) ≡ Ok reading)
          (ap (λ (ls : List (ℕ × ℕ)). read (ballots (election_shown e) (bundles_shown e) ls)) (own_lots e) ∙ back.understood);
      counted = of (λ shown bs ls. IsWardCount shown.poll shown bs ls counted.ward.count) counted.is;
      ends = counted.ends;
      shows = counted.shows;
      drawn = of (λ shown bs ls. early_lot (stages_shown e) (lots_in shown.poll ls) ≡ None) (ap (early_lot (stages_shown e)) (own_lots e) ∙ counted.drawn);
    } in
    record {
      ward = ward;
      so = so;
      texts_are = of (λ shown bs ls. texts_as title shown bs (lots_in shown.poll ls) (stages_shown e) (surpluses_in shown.poll shown bs ls (length (stages_shown e)))
          counted.ward.count.elected declared ≡ office_texts title true e) (same_texts e title counted.ward.count.elected own none counted.elects);
      listed_is = of (λ shown bs ls. listed_as shown counted.ward.count.elected declared ≡ listed_shown (ward_view_of s w)) (same_listed s w counted.ward.count.elected sealed counted.elects);
    }

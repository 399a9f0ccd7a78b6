-- The cache of an open office: what it keeps in memory about its batches.
use Rattle.std.specs.Prelude.{◌≡◌, ℕ, ◌+◌, ◌*◌, ◌%◌, ◌^◌, ◌==◌, ◌&&◌, not, if◌then◌else◌, Bool, true, false, List, map, fold, Option, Some, None, IfSome, option_map, IsTrue}
use Rattle.std.specs.List.{AllByRecursion, filter, list_any}
use Rattle.std.specs.Global.{Vec}
use Rattle.sqlite.specs.State.{State, HasCleanDisk}
use Rattle.register.specs.Offices.{WardEntry, BatchEntry, KeyedEntry, OfficeState, batch_entry, ward_at}
use Rattle.register.specs.Agreement.{batches_of}
use Rattle.register.specs.Effects.{EffectEntry, ward_added, ward_moved, candidate_added, candidate_withdrawn, batch_added, batch_reopened, third_set, papers_keyed, paper_judged}
use Rattle.register.specs.Effects.{stage_counted, lot_drawn}
use Rattle.store.specs.declared.overviews.batches.BatchStanding.{BatchStanding}
use Rattle.store.specs.declared.overviews.batches.BatchStanding.TheVariants.{Taken, Differing, Waiting}
use Rattle.store.specs.declared.status.Tally.{Tally}
use Rattle.store.specs.declared.batch_cache.CachedBatch.{CachedBatch}
use Rattle.store.specs.declared.batch_cache.AffectedBatches.{AffectedBatches}
use Rattle.store.specs.declared.batch_cache.AffectedBatches.TheVariants.{Nothing, Batch, Ward, All}
use Rattle.store.specs.StateTables.{IsAt}
use Rattle.store.specs.Overviews.{BatchView, WardView, batch_view, batch_view_of, batch_view_with, pile_in, ward_view, ward_view_of}

-- ---- checksums

-- adds another byte of a text to a checksum
abbrev pub mixed : ℕ → ℕ → ℕ
mixed sum byte = ((sum * 1099511628211) % 2 ^ 64 + byte) % 2 ^ 64

-- the checksum of a text, which distinguishes most pairs of different texts
unfoldable pub checksum : List ℕ → ℕ
checksum text = fold mixed 14695981039346656037 text

-- ---- the cache entry of a batch

-- the overview of a batch without its twin; and, if the batch is taken, the checksum of its papers
pub record KnownView : Type 0 where
  pub view : BatchView
  pub pile : Option ℕ

abbrev pub known_of : OfficeState → BatchEntry → KnownView
known_of s b = record { view = batch_view_with s b None; pile = option_map checksum (pile_in s b) }

abbrev pub known_view : CachedBatch → KnownView
known_view k = record { view = batch_view k.overview; pile = k.pile }

-- the row of a cache entry's batch
abbrev pub row_of : CachedBatch → BatchEntry
row_of k = batch_entry k.overview.batch

-- a cache entry is correct in a state: it equals what the state determines for a batch with the entry's row
abbrev pub IsKnown : OfficeState → CachedBatch → Type 0
IsKnown s k = known_view k ≡ known_of s (row_of k)

abbrev pub AreKnown : OfficeState → List CachedBatch → Type 0
AreKnown s ks = AllByRecursion (IsKnown s) ks

-- the cache has a correct entry for every batch of a state, and the entries are ordered by number
abbrev pub KnowsAll : OfficeState → List CachedBatch → Type 0
KnowsAll s ks = map known_view ks ≡ map (known_of s) s.batches

-- both checksums exist, and they are equal
abbrev pub same_sum : Option ℕ → Option ℕ → Bool
same_sum (Some a) (Some b) = a == b
same_sum (Some a) None = false
same_sum None b = false

-- whether two batches may be twins, judging by their cache entries
abbrev pub may_be_twin : CachedBatch → CachedBatch → Bool
may_be_twin k c = not (c.overview.batch.number == k.overview.batch.number) && same_sum k.pile c.pile

-- the overview of a batch with its twin, if the batch belongs to the given ward
abbrev pub batch_view_in : OfficeState → ℕ → BatchEntry → Option BatchView
batch_view_in s ward b = if b.ward == ward then Some (batch_view_of s b) else None

-- ---- what an effect concerns

-- whether an effect may change the cache entry of a batch
abbrev pub is_about : EffectEntry → BatchEntry → Bool
is_about (ward_added w) b = false
is_about (ward_moved ward phase) b = false
is_about (candidate_added c) b = b.ward == c.ward
is_about (candidate_withdrawn ward candidate) b = b.ward == ward
is_about (batch_added c) b = false
is_about (batch_reopened batch round) b = false
is_about (third_set t) b = b.number == t.batch
is_about (papers_keyed papers) b = list_any (λ (k : KeyedEntry). b.number == k.batch) papers
is_about (paper_judged v) b = b.number == v.batch
is_about (stage_counted ward done) b = false
is_about (lot_drawn l) b = false

-- whether a batch is in the given set, which includes every batch that the effect concerns
abbrev pub concerns : AffectedBatches → BatchEntry → Bool
concerns Nothing b = false
concerns (Batch number) b = b.number == number
concerns (Ward ward) b = b.ward == ward
concerns All b = true

-- ---- a store with a cache

-- While the connection is open, it keeps a state in which all cache entries are correct.
pub record Remembers (st : State) (ks : List CachedBatch) : Type 0 where
  pub state : OfficeState
  pub at : IsAt state st
  pub known : AreKnown state ks

-- a read keeps the cache entries correct, in any state that the store keeps
abbrev pub StaysKnown : State → State → List CachedBatch → List CachedBatch → Type 0
StaysKnown old new before after = HasCleanDisk new → (s : OfficeState) → IsAt s old → AreKnown s before → AreKnown s after

-- the invariant of a store that may have a cache
abbrev pub IsTied : State → Option (Vec CachedBatch) → Type 0
IsTied st memory = IfSome memory (λ known. HasCleanDisk st → IsTrue st.is_open → Remembers st known.items)

-- ---- the batches of a ward

-- the overviews of the given batches, without their twins
abbrev pub views_of : OfficeState → List BatchEntry → List BatchView
views_of s bs = map (λ (b : BatchEntry). batch_view_with s b None) bs

-- the overviews of a ward's batches, from the cache
abbrev pub views_in : List CachedBatch → ℕ → List BatchView
views_in ks ward = map (λ (k : CachedBatch). batch_view k.overview) (filter (λ (k : CachedBatch). k.overview.batch.ward == ward) ks)

-- the tally of a batch with the given standing and the given number of doubtful papers without a verdict
abbrev pub tally_at : BatchStanding → ℕ → Tally
tally_at Taken doubtful_open = record { taken = 1; differing = 0; doubtful_open = doubtful_open }
tally_at Differing doubtful_open = record { taken = 0; differing = 1; doubtful_open = doubtful_open }
tally_at Waiting doubtful_open = record { taken = 0; differing = 0; doubtful_open = doubtful_open }

-- The batches of a ward and their tally, from the cache entries of all batches.
use Rattle.std.proofs.Common.{◌≡◌, ℕ, ◌+◌, ◌-◌, ◌^◌, ◌<◌, ◌≤◌, ◌&&◌, ◌==◌, not, min, nat_le, Bool, true, false, cond}
use Rattle.std.proofs.Common.{None, List, [], ◌∷◌, ◌++◌, map, filter, length, get_or, take, refl, sym, ap, subst, ◌∙◌, arith}
use Rattle.std.proofs.Math.Bool.{and-false}
use Rattle.std.proofs.lemmas.Bool.{true≢false}
use Rattle.std.proofs.lemmas.List.{take_more, take_all}
use Rattle.tables.proofs.ListLemmas.{get_mapped, mapped_length}
use Rattle.register.specs.Offices.{BatchEntry, OfficeState, batch_entry}
use Rattle.register.specs.Agreement.{are_taken, differ, keyings_now, is_taken, is_differing, open_in, batches_of}
use Rattle.store.specs.declared.batch_cache.CachedBatch.{CachedBatch}
use Rattle.store.specs.declared.overviews.batches.BatchOverview.{BatchOverview}
use Rattle.store.specs.declared.overviews.batches.BatchStanding.{BatchStanding}
use Rattle.store.specs.declared.overviews.batches.BatchStanding.TheVariants.{Taken, Differing, Waiting}
use Rattle.store.specs.declared.status.Tally.{Tally}
use Rattle.store.specs.Overviews.{BatchView, WardView, batch_view, batch_view_with, standing_of}
use Rattle.store.specs.Memories.{KnownView, KnowsAll, known_of, known_view, views_in, views_of, tally_at}
use Rattle.store.specs.Tallies.{IsTally}
use Rattle.store.proofs.TallyLemmas.{one_there, open_there, more_tally}

-- ---- the batches of a ward

-- the cached overviews of a ward's batches, if the cache has every batch
pub views_told : (s : OfficeState) (ward : ℕ) (ks : List CachedBatch) → KnowsAll s ks → views_in ks ward ≡ views_of s (batches_of s ward)
views_told s ward ks all = each ks s.batches all
  where
    first : {x y : KnownView} {xs ys : List KnownView} → x ∷ xs ≡ y ∷ ys → x ≡ y
    first e = cc

    rest : {x y : KnownView} {xs ys : List KnownView} → x ∷ xs ≡ y ∷ ys → xs ≡ ys
    rest e = cc

    each : (ks : List CachedBatch) (bs : List BatchEntry) → map known_view ks ≡ map (known_of s) bs → views_in ks ward ≡ views_of s (filter (λ (b : BatchEntry). b.ward == ward) bs)
    each [] [] are = refl
    each [] (b ∷ bs) are = absurd cc
    each (k ∷ ks) [] are = absurd cc
    each (k ∷ ks) (b ∷ bs) are = go (b.ward == ward) (ap (λ (v : KnownView). v.view.batch.ward == ward) (first are)) (ap (λ (v : KnownView). v.view) (first are)) (each ks bs (rest are))
      where
        own : List CachedBatch
        own = filter (λ (j : CachedBatch). j.overview.batch.ward == ward) ks

        others : List BatchEntry
        others = filter (λ (c : BatchEntry). c.ward == ward) bs

        go : (q : Bool) → (k.overview.batch.ward == ward) ≡ q → batch_view k.overview ≡ batch_view_with s b None → views_in ks ward ≡ views_of s others
            → map (λ (j : CachedBatch). batch_view j.overview) (cond (k.overview.batch.ward == ward) (k ∷ own) own) ≡ views_of s (cond q (b ∷ others) others)
        go true is one later = rw is (ap (λ (v : BatchView). v ∷ views_in ks ward) one ∙ ap (λ (vs : List BatchView). batch_view_with s b None ∷ vs) later)
        go false is one later = rw is later

-- ---- tallies

-- the tally of a batch, from its overview
pub tally_viewed : (s : OfficeState) (b : BatchEntry) (v : BatchView) → v ≡ batch_view_with s b None → IsTally s (b ∷ []) (tally_at v.standing v.doubtful_open)
tally_viewed s b v is = subst (λ (x : BatchView). IsTally s (b ∷ []) (tally_at x.standing x.doubtful_open)) (sym is) (go (is_taken s b) refl (is_differing s b) refl)
  where
    stands : (taken differs : Bool) → is_taken s b ≡ taken → is_differing s b ≡ differs → standing_of s b ≡ cond taken Taken (cond differs Differing Waiting)
    stands taken differs one two =
        ap (λ (q : Bool). cond q Taken (cond (is_differing s b) Differing Waiting)) one ∙ ap (λ (q : Bool). cond taken Taken (cond q Differing Waiting)) two

    whole : (st : BatchStanding) (taken differs : Bool) → standing_of s b ≡ st → is_taken s b ≡ taken → is_differing s b ≡ differs
        → (tally_at st (open_in s b)).taken ≡ length (cond taken (b ∷ []) []) → (tally_at st (open_in s b)).differing ≡ length (cond differs (b ∷ []) [])
        → (tally_at st (open_in s b)).doubtful_open ≡ open_in s b → IsTally s (b ∷ []) (tally_at (standing_of s b) (open_in s b))
    whole st taken differs standing one two first second third =
        subst (λ (x : BatchStanding). IsTally s (b ∷ []) (tally_at x (open_in s b))) (sym standing) (record {
          taken = λ few. first ∙ ap (λ (q : Bool). length (cond q (b ∷ []) [])) (sym one);
          differing = λ few. second ∙ ap (λ (q : Bool). length (cond q (b ∷ []) [])) (sym two);
          doubtful_open = λ few. third ∙ open_there s b;
        })

    go : (taken : Bool) → is_taken s b ≡ taken → (differs : Bool) → is_differing s b ≡ differs → IsTally s (b ∷ []) (tally_at (standing_of s b) (open_in s b))
    go true one true two =
        let none : is_differing s b ≡ false = ap (λ (q : Bool). nat_le 2 (length (keyings_now s b)) && not q) one ∙ and-false (nat_le 2 (length (keyings_now s b))) in
        absurd (true≢false (sym two ∙ none))
    go true one false two = whole Taken true false (stands true false one two) one two refl refl refl
    go false one true two = whole Differing false true (stands false true one two) one two refl refl refl
    go false one false two = whole Waiting false false (stands false false one two) one two refl refl refl

-- the tally of several batches and another
pub tally_next : (s : OfficeState) (bs : List BatchEntry) (os : List BatchOverview) (k : ℕ) (o : BatchOverview) (some one sum : Tally) → map batch_view os ≡ views_of s bs → k < length os
    → o ≡ get_or os k o
    → IsTally s (take k bs) some → one ≡ tally_at o.standing o.doubtful_open
    → (sum.taken ≡ min (some.taken + one.taken) (2 ^ 64 - 1)) × (sum.differing ≡ min (some.differing + one.differing) (2 ^ 64 - 1)) ×
    (sum.doubtful_open ≡ min (some.doubtful_open + one.doubtful_open) (2 ^ 64 - 1)) → IsTally s (take (k + 1) bs) sum
tally_next s bs os k o some one sum are within is so_far here sums =
    let view = λ (b : BatchEntry). batch_view_with s b None in
    let d = batch_entry o.batch in
    let b = get_or bs k d in
    let same : length os ≡ length bs = sym (mapped_length batch_view os) ∙ ap length are ∙ mapped_length view bs in
    let near : k < length bs = omega (arith, within, same) in
    let its : batch_view o ≡ view b =
    ap batch_view is ∙ sym (get_mapped batch_view os k (batch_view o) o within) ∙ ap (λ (vs : List BatchView). get_or vs k (batch_view o)) are ∙ get_mapped view bs k (batch_view o) d near in
    let own : IsTally s (b ∷ []) one = subst (IsTally s (b ∷ [])) (sym here) (tally_viewed s b (batch_view o) its) in
    subst (λ (cs : List BatchEntry). IsTally s cs sum) (sym (take_more bs k d near)) (more_tally s (take k bs) b some one sum so_far own sums)

-- the tally of all batches
pub tally_whole : (s : OfficeState) (bs : List BatchEntry) (os : List BatchOverview) (k : ℕ) (tally : Tally) → map batch_view os ≡ views_of s bs → length os ≤ k → IsTally s (take k bs) tally
    → IsTally s bs tally
tally_whole s bs os k tally are past so_far =
    let view = λ (b : BatchEntry). batch_view_with s b None in
    let same : length os ≡ length bs = sym (mapped_length batch_view os) ∙ ap length are ∙ mapped_length view bs in
    subst (λ (cs : List BatchEntry). IsTally s cs tally) (take_all k bs (omega (arith, past, same))) so_far

-- there are as many overviews as batches
pub as_many : (s : OfficeState) (bs : List BatchEntry) (os : List BatchOverview) → map batch_view os ≡ views_of s bs → length os ≡ length bs
as_many s bs os are = sym (mapped_length batch_view os) ∙ ap length are ∙ mapped_length (λ (b : BatchEntry). batch_view_with s b None) bs

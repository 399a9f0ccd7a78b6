-- Proof that the work that is read is the clerk's work.
use Rattle.std.proofs.Common.{◌≡◌, ℕ, Bool, true, false, cond, List, [], ◌∷◌, ◌++◌, map, filter, Option, Some, None, is_some, option_map, refl, sym, ap, ◌∙◌}
use Rattle.std.proofs.lemmas.List.{map-append}
use Rattle.std.proofs.lemmas.List.Elements.{filter-append}
use Rattle.std.specs.Option.{option_to_list}
use Rattle.register.specs.declared.status.Work.{Work}
use Rattle.register.specs.Offices.{BatchEntry, OfficeState}
use Rattle.register.specs.Status.{WorkEntry, work_entry, is_work, work_on}

-- ---- one batch

-- values of `WorkEntry` with the same fields are equal
pub same_work : (x y : WorkEntry) → x.batch ≡ y.batch → x.ward ≡ y.ward → x.columns ≡ y.columns → x.size ≡ y.size → x.round ≡ y.round → x.keyed ≡ y.keyed → x ≡ y
same_work x y batch ward columns size round keyed =
    ap (λ v. record x { batch = v }) batch
    ∙ ap (λ v. record x { batch = y.batch; ward = v }) ward
    ∙ ap (λ v. record x { batch = y.batch; ward = y.ward; columns = v }) columns
    ∙ ap (λ v. record y { size = v; round = x.round; keyed = x.keyed }) size
    ∙ ap (λ v. record y { round = v; keyed = x.keyed }) round
    ∙ ap (λ v. record y { keyed = v }) keyed

-- a value is found if and only if its entry is
pub found_alike : {V X : Type 0} (entry : V → X) (v : Option V) (x : Option X) → option_map entry v ≡ x → is_some v ≡ is_some x
found_alike entry None x is = ap is_some is
found_alike entry (Some v) x is = ap is_some is

-- ---- several batches

-- a clerk's work among several batches
abbrev pub work_among : OfficeState → ℕ → List BatchEntry → List WorkEntry
work_among s clerk bs = map (work_on s clerk) (filter (is_work s clerk) bs)

-- the work found in another batch, appended to the work found in the batches before it
pub more_work : (s : OfficeState) (clerk : ℕ) (bs : List BatchEntry) (b : BatchEntry) (before : List Work) (found : Option Work) → map work_entry before ≡ work_among s clerk bs
    → option_map work_entry found ≡ cond (is_work s clerk b) (Some (work_on s clerk b)) None → map work_entry (before ++ option_to_list found) ≡ work_among s clerk (bs ++ b ∷ [])
more_work s clerk bs b before found among one =
    map-append work_entry before (option_to_list found)
    ∙ ap (λ ws. ws ++ map work_entry (option_to_list found)) among
    ∙ ap (λ ws. work_among s clerk bs ++ ws) (as_list found ∙ ap option_to_list one ∙ last (is_work s clerk b))
    ∙ sym (ap (map (work_on s clerk)) (filter-append (is_work s clerk) bs (b ∷ [])) ∙ map-append (work_on s clerk) (filter (is_work s clerk) bs) (filter (is_work s clerk) (b ∷ [])))
  where
    as_list : (w : Option Work) → map work_entry (option_to_list w) ≡ option_to_list (option_map work_entry w)
    as_list None = refl
    as_list (Some w) = refl

    last : (q : Bool) → option_to_list (cond q (Some (work_on s clerk b)) None) ≡ map (work_on s clerk) (cond q (b ∷ []) [])
    last true = refl
    last false = refl

-- Prefixes of bytes, accepted one after another.
use Rattle.std.proofs.Common.{ℕ, ◌+◌, min, List, ◌++◌, length, take, drop, Option, sym, ◌∙◌, subst, arith}
use Rattle.std.proofs.Math.Seq.{take-add, take-append-add}
use Rattle.std.proofs.lemmas.List.{take_min, take-append-le}
use Rattle.std.proofs.KnownBytes.{Appends-trans}
use Rattle.std.specs.Io.KnownBytes.{Appends}
use Rattle.streams.specs.Streams.{AppendsBeginning}

-- an accepted prefix, followed by the bytes accepted next, is a longer prefix
pub Appends-take_more : (old mid new : Option (List ℕ)) (bs : List ℕ) (at n : ℕ) →
    Appends old mid (take at bs) → Appends mid new (take n (drop at bs)) → Appends old new (take (at + n) bs)
Appends-take_more old mid new bs at n first next =
    subst (Appends old new) (sym (take-add at n bs)) (Appends-trans old mid new _ _ first next)

-- a prefix of the front is a prefix of the whole
pub AppendsBeginning-front : (old new : Option (List ℕ)) (xs ys : List ℕ) → AppendsBeginning old new xs → AppendsBeginning old new (xs ++ ys)
AppendsBeginning-front old new xs ys cut_off =
    let n = min cut_off.count (length xs) in
    let same = take-append-le n xs ys (omega arith) ∙ take_min cut_off.count xs in
    record { count = n; appends = subst (Appends old new) (sym same) cut_off.appends }

-- the front, followed by a prefix of the rest, is a prefix of the whole
pub AppendsBeginning-behind : (old mid new : Option (List ℕ)) (xs ys : List ℕ) →
    Appends old mid xs → AppendsBeginning mid new ys → AppendsBeginning old new (xs ++ ys)
AppendsBeginning-behind old mid new xs ys front cut_off = record {
  count = length xs + cut_off.count;
  appends = subst (Appends old new) (sym (take-append-add xs ys cut_off.count)) (Appends-trans old mid new _ _ front cut_off.appends);
}

pub ruleset beginnings = (Appends-trans, AppendsBeginning-front, AppendsBeginning-behind)

-- What a walk over the rows of a router finds: the path matches the pattern of the row found. Also, what is found if a path matches a pattern.
use Rattle.std.proofs.Common.{◌≡◌, ◌∙◌, ◌⊎◌, ◌-◌, ◌+◌, ◌<◌, ◌==◌, zero, suc, ℕ, Bool, true, false, cond, List, [], ◌∷◌}
use Rattle.std.proofs.Common.{◌++◌, Option, Some, None, append-nil, drop, inl, inr, length, ltb, refl, subst, sym, ap, take, arith}
use Rattle.std.specs.Prelude.{IfSome, ⊤}
use Rattle.std.proofs.lemmas.Bool.{lt-ltb}
use Rattle.std.proofs.lemmas.Bool.Decides.{nat_tests}
use Rattle.std.proofs.lemmas.List.{length-append, take-append-drop}
use Rattle.std.proofs.Math.Seq.{drop-append_seam}
use Rattle.matchit.specs.Rows.{RowsOf, param_token, catch_all_token}
use Rattle.matchit.specs.Seek.{better, cuts, has_slash, longest_from, longest_suffix, own, param_step, same_text, seek, segment, step, with_suffix}
use Rattle.matchit.proofs.ParamLemmas.{better-short, drop-length, one_less}
use Rattle.wire.proofs.TargetLemmas.{or_else-kind, seek-kind}

-- ---- a path matches a pattern

-- none of the bytes is a slash
abbrev pub HasNoSlash : List ℕ → Type 0
HasNoSlash [] = ⊤
HasNoSlash (b ∷ bytes) = ((b == 47) ≡ false) × HasNoSlash bytes

-- the path begins with the given byte, and the rest satisfies the given predicate
pub record BeginsBy (b : ℕ) (path : List ℕ) (GoesOn : List ℕ → Type 0) : Type 0 where
  pub rest : List ℕ
  pub is : path ≡ b ∷ rest
  pub goes_on : GoesOn rest

-- the path begins with bytes other than slashes, and the rest satisfies the given predicate
pub record BeginsByPart (path : List ℕ) (GoesOn : List ℕ → Type 0) : Type 0 where
  pub part : List ℕ
  pub rest : List ℕ
  pub whole : HasNoSlash part
  pub is : path ≡ part ++ rest
  pub goes_on : GoesOn rest

-- the path is an instance of the pattern
abbrev pub Fits : List ℕ → List ℕ → Type 0
Fits [] path = path ≡ []
Fits (x ∷ t) path = BeginsBy x path (Fits t) ⊎ (((x ≡ param_token) × BeginsByPart path (Fits t)) ⊎ (x ≡ catch_all_token))

pub same_number : (x y : ℕ) → (x == y) ≡ true → x ≡ y
same_number x y is = grind (arith, nat_tests)

front-whole : (path : List ℕ) (k : ℕ) → k < length (segment path) → HasNoSlash (take k path)
front-whole [] k few = absurd (omega arith)
front-whole (x ∷ path) zero few = tt
front-whole (x ∷ path) (suc k) few = by (x == 47) refl few (front-whole path k)
  where
    by : (v : Bool) → (x == 47) ≡ v → suc k < length (cond v (x ∷ []) (x ∷ segment path)) → (k < length (segment path) → HasNoSlash (take k path)) → HasNoSlash (take (suc k) (x ∷ path))
    by true is few later = absurd (omega arith)
    by false is few later = (is, later (omega arith))

no_slash-whole : (path : List ℕ) → has_slash path ≡ false → HasNoSlash path
no_slash-whole [] none = tt
no_slash-whole (x ∷ path) none = by (x == 47) refl none (no_slash-whole path)
  where
    by : (v : Bool) → (x == 47) ≡ v → cond v true (has_slash path) ≡ false → (has_slash path ≡ false → HasNoSlash path) → HasNoSlash (x ∷ path)
    by true is none later = let no : ⊥ = cc in absurd no
    by false is none later = (is, later none)

-- the segment formed by the bytes before a slash
pub segment-part : (part rest : List ℕ) → HasNoSlash part → segment (part ++ (47 ∷ rest)) ≡ part ++ (47 ∷ [])
segment-part [] rest whole = refl
segment-part (x ∷ part) rest whole = rw whole.0 (ap (λ s. x ∷ s) (segment-part part rest whole.1))

length-after : (part : List ℕ) → length (part ++ (47 ∷ [])) ≡ length part + 1
length-after part = length-append part (47 ∷ [])

-- ---- whatever is found matches

module _ {K : Type 0} (G : K → Type 0) where
  -- if the path matches the rest of a row's pattern, what is claimed about the row's key holds
  abbrev pub Gives : RowsOf K → List ℕ → Type 0
  Gives [] path = ⊤
  Gives ((t, key) ∷ others) path = (Fits t path → G key) × Gives others path

  own-gives : (rows : RowsOf K) → Gives rows [] → IfSome (own rows) G
  own-gives [] all = tt
  own-gives (([], key) ∷ others) all = all.0 refl
  own-gives ((x ∷ t, key) ∷ others) all = own-gives others all.1

  caught : (v : Bool) (x : ℕ) (t : List ℕ) (key : K) (rows : RowsOf K) → (x == catch_all_token) ≡ v → (x ≡ catch_all_token → G key) → IfSome (own rows) G
      → IfSome (own (cond v ((t, key) ∷ rows) rows)) G
  caught true x [] key rows is one others = one (same_number x catch_all_token is)
  caught true x (y ∷ t) key rows is one others = others
  caught false x t key rows is one others = others

  caught-gives : (rows : RowsOf K) (path : List ℕ) → Gives rows path → IfSome (own (step catch_all_token rows)) G
  caught-gives [] path all = tt
  caught-gives (([], key) ∷ others) path all = caught-gives others path all.1
  caught-gives ((x ∷ t, key) ∷ others) path all = caught (x == catch_all_token) x t key (step catch_all_token others) refl (λ is. all.0 (inr (inr is))) (caught-gives others path all.1)

  stepped : (v : Bool) (b x : ℕ) (t : List ℕ) (key : K) (rows : RowsOf K) (path : List ℕ) → (x == b) ≡ v → (Fits (x ∷ t) (b ∷ path) → G key) → Gives rows path
      → Gives (cond v ((t, key) ∷ rows) rows) path
  stepped true b x t key rows path is one others = (λ fits. one (inl (record { rest = path; is = ap (λ y. y ∷ path) (sym (same_number x b is)); goes_on = fits })), others)
  stepped false b x t key rows path is one others = others

  step-gives : (b : ℕ) (rows : RowsOf K) (path : List ℕ) → Gives rows (b ∷ path) → Gives (step b rows) path
  step-gives b [] path all = tt
  step-gives b (([], key) ∷ others) path all = step-gives b others path all.1
  step-gives b ((x ∷ t, key) ∷ others) path all = stepped (x == b) b x t key (step b others) path refl all.0 (step-gives b others path all.1)

  parted : (v : Bool) (x : ℕ) (t : List ℕ) (key : K) (rows : RowsOf K) (path part rest : List ℕ) → HasNoSlash part → path ≡ part ++ rest → (x == param_token) ≡ v
      → (Fits (x ∷ t) path → G key) → Gives rows rest → Gives (cond v ((t, key) ∷ rows) rows) rest
  parted true x t key rows path part rest whole parts is one others =
      (λ fits. one (inr (inl (same_number x param_token is, record { part = part; rest = rest; whole = whole; is = parts; goes_on = fits }))), others)
  parted false x t key rows path part rest whole parts is one others = others

  parted-gives : (rows : RowsOf K) (path part rest : List ℕ) → HasNoSlash part → path ≡ part ++ rest → Gives rows path → Gives (step param_token rows) rest
  parted-gives [] path part rest whole parts all = tt
  parted-gives (([], key) ∷ others) path part rest whole parts all = parted-gives others path part rest whole parts all.1
  parted-gives ((x ∷ t, key) ∷ others) path part rest whole parts all =
      parted (x == param_token) x t key (step param_token others) path part rest whole parts refl all.0 (parted-gives others path part rest whole parts all.1)

  suffix-gives : (suffix : List ℕ) (rows : RowsOf K) (path : List ℕ) → Gives rows path → Gives (with_suffix suffix rows) path
  suffix-gives suffix [] path all = tt
  suffix-gives suffix ((t, key) ∷ others) path all = by (same_text (segment t) suffix) (suffix-gives suffix others path all.1)
    where
      by : (v : Bool) → Gives (with_suffix suffix others) path → Gives (cond v ((t, key) ∷ with_suffix suffix others) (with_suffix suffix others)) path
      by true later = (all.0, later)
      by false later = later

  longest-short : (seg best : List ℕ) (rows : RowsOf K) → (length best ≡ 0) ⊎ (length best < length seg)
      → (length (longest_from seg best rows) ≡ 0) ⊎ (length (longest_from seg best rows) < length seg)
  longest-short seg best [] short = short
  longest-short seg best ((t, key) ∷ others) short = longest-short seg (better seg best (segment t)) others (better-short seg best (segment t) short)

  drop-less : (k b : ℕ) (path : List ℕ) → 0 < k → drop k (b ∷ path) ≡ drop (k - 1) path
  drop-less zero b path some = absurd (omega arith)
  drop-less (suc k) b path some = rw (one_less k) refl

  shorter : (n m : ℕ) → (n ≡ 0) ⊎ (n < m) → 0 < n → n < m
  shorter n m (inl none) some = omega arith
  shorter n m (inr fewer) some = fewer

  -- what a parameter leaves, depending on whether a suffix ends the segment, and whether a slash does
  abbrev left_by : RowsOf K → List ℕ → Bool → Bool → ℕ × RowsOf K
  left_by rows path v u =
      cond v (length (segment path) - length (longest_suffix (segment path) rows), with_suffix (longest_suffix (segment path) rows) rows)
      (cond u (0, []) (length path, rows))

  left-gives : (rows : RowsOf K) (b : ℕ) (path : List ℕ) (v u : Bool) → Gives rows (b ∷ path)
      → ltb 0 (length (longest_suffix (segment (b ∷ path)) (step param_token rows))) ≡ v → has_slash (b ∷ path) ≡ u
      → Gives (left_by (step param_token rows) (b ∷ path) v u).1 (drop ((left_by (step param_token rows) (b ∷ path) v u).0 - 1) path)
  left-gives rows b path false true all is slash = tt
  left-gives rows b path false false all is slash =
      rw (one_less (length path), drop-length path) (parted-gives rows (b ∷ path) (b ∷ path) [] (no_slash-whole (b ∷ path) slash) (sym (append-nil (b ∷ path))) all)
  left-gives rows b path true u all is slash =
      let long = longest_suffix (segment (b ∷ path)) (step param_token rows) in
      let some : 0 < length long = grind (arith, nat_tests) in
      let few : length long < length (segment (b ∷ path)) = shorter _ _ (longest-short (segment (b ∷ path)) [] (step param_token rows) (inl refl)) some in
      let k = length (segment (b ∷ path)) - length long in
      let there : 0 < k = omega arith in
      let fewer : k < length (segment (b ∷ path)) = omega arith in
      subst (λ rest. Gives (with_suffix long (step param_token rows)) rest) (drop-less k b path there)
      (suffix-gives long (step param_token rows) (drop k (b ∷ path))
      (parted-gives rows (b ∷ path) (take k (b ∷ path)) (drop k (b ∷ path)) (front-whole (b ∷ path) k fewer) (sym (take-append-drop k (b ∷ path))) all))

  param-gives : (rows : RowsOf K) (b : ℕ) (path : List ℕ) → Gives rows (b ∷ path)
      → Gives (param_step (step param_token rows) (b ∷ path)).1 (drop ((param_step (step param_token rows) (b ∷ path)).0 - 1) path)
  unfolding param_step
  param-gives rows b path all = left-gives rows b path _ _ all refl refl

  pub seek-gives : (skip : ℕ) (rows : RowsOf K) (path : List ℕ) → Gives rows (drop skip path) → IfSome (seek skip rows path) G
  unfolding seek
  seek-gives zero rows [] all = own-gives rows all
  seek-gives (suc skip) rows [] all = own-gives rows all
  seek-gives (suc skip) rows (b ∷ path) all = seek-gives skip rows path all
  seek-gives zero rows (b ∷ path) all =
      or_else-kind G _ _ (seek-gives 0 (step b rows) path (step-gives b rows path all))
      (or_else-kind G _ _ (seek-gives _ (param_step (step param_token rows) (b ∷ path)).1 path (param-gives rows b path all)) (caught-gives rows (b ∷ path) all))

-- ---- whatever matches is found

slash-cuts : (part : List ℕ) → 0 < length part → cuts (part ++ (47 ∷ [])) (47 ∷ []) ≡ true
slash-cuts part some =
    let more : ltb 1 (length (part ++ (47 ∷ []))) ≡ true = lt-ltb 1 (length (part ++ (47 ∷ []))) (omega (arith, length-after part)) in
    let less : length (part ++ (47 ∷ [])) - 1 ≡ length part = omega (arith, length-after part) in
    rw (more, less, drop-append_seam part (47 ∷ [])) refl

-- each row continues with a parameter and a slash
pub record GoBySlash {K : Type 0} (rows : RowsOf K) : Type 0 where
  pub misses : (d : ℕ) → d < 256 → step d rows ≡ []
  pub cut : (seg : List ℕ) → cuts seg (47 ∷ []) ≡ true → longest_suffix seg (step param_token rows) ≡ 47 ∷ []
  pub keeps : with_suffix (47 ∷ []) (step param_token rows) ≡ step param_token rows

module _ {K : Type 0} where
  -- the rows that continue with the given bytes, with those bytes removed
  abbrev pub steps : List ℕ → RowsOf K → RowsOf K
  steps [] rows = rows
  steps (b ∷ word) rows = steps word (step b rows)

  seek-byte : (rows : RowsOf K) (b : ℕ) (path : List ℕ) (key : K) → seek 0 (step b rows) path ≡ Some key → seek 0 rows (b ∷ path) ≡ Some key
  unfolding seek
  seek-byte rows b path key found = rw found refl

  pub seek-word : (word : List ℕ) (rows : RowsOf K) (path : List ℕ) (key : K) → seek 0 (steps word rows) path ≡ Some key → seek 0 rows (word ++ path) ≡ Some key
  seek-word [] rows path key found = found
  seek-word (b ∷ word) rows path key found = seek-byte rows b (word ++ path) key (seek-word word (step b rows) path key found)

  nothing : (o : Option K) → IfSome o (λ key. ⊥) → o ≡ None
  nothing None none = refl
  nothing (Some key) none = absurd none

  seek-none : (path : List ℕ) → seek {K = K} 0 [] path ≡ None
  seek-none path = nothing _ (seek-kind {K = K} (λ key. ⊥) 0 [] path tt)

  pub seek-end : (rows : RowsOf K) (key : K) → own rows ≡ Some key → seek 0 rows [] ≡ Some key
  unfolding seek
  seek-end rows key found = found

  seek-skip : (part : List ℕ) (rows : RowsOf K) (rest : List ℕ) → seek (length part) rows (part ++ rest) ≡ seek 0 rows rest
  unfolding seek
  seek-skip [] rows rest = refl
  seek-skip (x ∷ part) rows rest = seek-skip part rows rest

  param-found : (rows : RowsOf K) (path : List ℕ) (n : ℕ) → longest_suffix (segment path) rows ≡ 47 ∷ [] → with_suffix (47 ∷ []) rows ≡ rows → length (segment path) ≡ n + 1
      → param_step rows path ≡ (n, rows)
  unfolding param_step
  param-found rows path n longest keeps long =
      let less : length (segment path) - 1 ≡ n = omega arith in
      rw (longest, keeps, less) refl

  pub seek-part : (rows : RowsOf K) (part rest : List ℕ) (key : K) → GoBySlash rows → 0 < length part → HasNoSlash part → ((d : ℕ) (ds : List ℕ) → part ≡ d ∷ ds → d < 256)
      → seek 0 (step param_token rows) (47 ∷ rest) ≡ Some key → seek 0 rows (part ++ (47 ∷ rest)) ≡ Some key
  unfolding seek
  seek-part rows [] rest key go some whole below found = absurd (omega arith)
  seek-part rows (d ∷ ds) rest key go some whole below found =
      let path = ds ++ (47 ∷ rest) in
      let seg = segment-part (d ∷ ds) rest whole in
      let longest : longest_suffix (segment (d ∷ path)) (step param_token rows) ≡ 47 ∷ [] = go.cut (segment (d ∷ path)) (subst (λ s. cuts s (47 ∷ []) ≡ true) (sym seg) (slash-cuts (d ∷ ds) some)) in
      let long : length (segment (d ∷ path)) ≡ suc (length ds) + 1 = ap length seg ∙ length-after (d ∷ ds) in
      let step_by = param-found (step param_token rows) (d ∷ path) (suc (length ds)) longest go.keeps long in
      let missed = ap (λ r. seek 0 r path) (go.misses d (below d ds refl)) ∙ seek-none path in
      let later : seek (suc (length ds) - 1) (step param_token rows) path ≡ Some key = rw (one_less (length ds)) (seek-skip ds (step param_token rows) (47 ∷ rest) ∙ found) in
      rw (missed, step_by, later) refl

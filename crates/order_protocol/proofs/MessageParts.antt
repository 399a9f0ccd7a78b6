-- The two laws: whatever is decoded has this encoding, and whatever has this encoding is decoded.
use Rattle.std.proofs.Common.{◌≡◌, ℕ, zero, suc, ◌^◌, Bool, true, false, cond, eqb, List, [], ◌∷◌, ◌++◌, length, All, Result, Ok, Err, refl, sym, ap, subst, ◌∙◌, append_assoc, arith}
use Rattle.std.specs.Prelude.{IfOk}
use Rattle.std.specs.List.{flat_map, AllByRecursion}
use Rattle.std.specs.Int.{w32, w64, to_be_bytes}
use Rattle.std.proofs.lemmas.Bool.{eqb-true}
use Rattle.std.proofs.lemmas.List.{append-nil, nil_from_length}
use Rattle.std.proofs.lemmas.List.Elements.{All-from_recursion}
use Rattle.std.proofs.lemmas.List.Concat.{flat_map-cons}
use Rattle.order_protocol.specs.declared.fault.FormatError.{FormatError}
use Rattle.order_protocol.specs.declared.fault.FormatError.TheVariants.{Trailing}
use Rattle.order_protocol.specs.declared.fault.DecodeError.{DecodeError}
use Rattle.order_protocol.specs.declared.order_message.OrderMessage.{OrderMessage}
use Rattle.order_protocol.specs.declared.order_message.MessagePart.{MessagePart}
use Rattle.order_protocol.specs.Messages.{Fits, OrderMessageEntry, MessagePartEntry, PieceFits, PiecesFit, order_message_entry, optional}
use Rattle.order_protocol.specs.Messages.{piece, message_part_entries, message_part_entry, pieces, encoding_of, string}
use Rattle.order_protocol.specs.Reading.{◌>>=◌, Gives, order_message_in, list_at, number_at, optional_at, piece_at, pieces_at, string_at}
use Rattle.order_protocol.proofs.Fields.{IsBytes, bind_ok, ok_is, Takes, Takes-then, wide32, wide64, number_takes, number_again, string_takes, string_again, optional_takes, optional_again}

guard_ended : {A : Type 0} (b : Bool) (d : FormatError) (x y : A) → cond b (Ok x) (Err d) ≡ Ok y → (b ≡ true) × (x ≡ y)
guard_ended true d x y e = (refl, cc)
guard_ended false d x y e = absurd cc

-- ---- a piece

piece_takes : (bytes : List ℕ) (x : MessagePartEntry × List ℕ) → IsBytes bytes → piece_at bytes ≡ Ok x → Takes bytes (piece x.0) x.1 × PieceFits x.0
unfolding piece_at
piece_takes bytes x fits e =
    let a = bind_ok (string_at bytes) (λ name. optional_at name.1 >>= λ own. Ok (record { name = name.0; bytes = own.0 }, own.1)) x e in
    let b = bind_ok (optional_at a.0.1) (λ own. Ok (record { name = a.0.0; bytes = own.0 }, own.1)) x a.2 in
    let t0 = string_takes bytes a.0.0 a.0.1 fits a.1 in
    let t1 = optional_takes a.0.1 b.0.0 b.0.1 t0.0.rest_fits b.1 in
    let both = Takes-then bytes (string a.0.0) a.0.1 (optional b.0.0) b.0.1 t0.0 t1.0 in
    let made : MessagePartEntry × List ℕ = (record { name = a.0.0; bytes = b.0.0 }, b.0.1) in
    subst (λ (y : MessagePartEntry × List ℕ). Takes bytes (piece y.0) y.1 × PieceFits y.0) (ok_is made x b.2) (both, record { name = t0.1; bytes = t1.1 })

piece_again : (p : MessagePartEntry) (rest : List ℕ) → PieceFits p → piece_at (piece p ++ rest) ≡ Ok (p, rest)
unfolding piece_at
piece_again p rest fits =
    let regrouped : piece p ++ rest ≡ string p.name ++ (optional p.bytes ++ rest) = append_assoc (string p.name) (optional p.bytes) rest in
    ap piece_at regrouped ∙ rw (string_again p.name (optional p.bytes ++ rest) fits.name, optional_again p.bytes rest fits.bytes) refl

-- ---- pieces

pieces_take : (n : ℕ) (bytes : List ℕ) (x : List MessagePartEntry × List ℕ) → IsBytes bytes → pieces_at n bytes ≡ Ok x
    → Takes bytes (flat_map piece x.0) x.1 × (length x.0 ≡ n) × AllByRecursion PieceFits x.0
unfolding pieces_at
pieces_take zero bytes x fits e =
    subst (λ (y : List MessagePartEntry × List ℕ). Takes bytes (flat_map piece y.0) y.1 × (length y.0 ≡ 0) × AllByRecursion PieceFits y.0) (ok_is ([], bytes) x e)
    (record { parts = refl; rest_fits = fits }, refl, tt)
pieces_take (suc n) bytes x fits e =
    let a = bind_ok (piece_at bytes) (λ first. pieces_at n first.1 >>= λ others. Ok (first.0 ∷ others.0, others.1)) x e in
    let b = bind_ok (pieces_at n a.0.1) (λ others. Ok (a.0.0 ∷ others.0, others.1)) x a.2 in
    let first = piece_takes bytes a.0 fits a.1 in
    let second = pieces_take n a.0.1 b.0 first.0.rest_fits b.1 in
    let both = Takes-then bytes (piece a.0.0) a.0.1 (flat_map piece b.0.0) b.0.1 first.0 second.0 in
    let made : List MessagePartEntry × List ℕ = (a.0.0 ∷ b.0.0, b.0.1) in
    subst (λ (y : List MessagePartEntry × List ℕ). Takes bytes (flat_map piece y.0) y.1 × (length y.0 ≡ suc n) × AllByRecursion PieceFits y.0) (ok_is made x b.2)
    (rw flat_map-cons both, ap suc second.1, (first.1, second.2))

pieces_again : (ps : List MessagePartEntry) (rest : List ℕ) → AllByRecursion PieceFits ps → pieces_at (length ps) (flat_map piece ps ++ rest) ≡ Ok (ps, rest)
unfolding pieces_at
pieces_again [] rest fits = refl
pieces_again (p ∷ ps) rest fits =
    let regrouped : flat_map piece (p ∷ ps) ++ rest ≡ piece p ++ (flat_map piece ps ++ rest) =
    ap (λ (x : List ℕ). x ++ rest) (flat_map-cons piece p ps) ∙ append_assoc (piece p) (flat_map piece ps) rest in
    ap (pieces_at (suc (length ps))) regrouped ∙ rw (piece_again p (flat_map piece ps ++ rest) fits.0, pieces_again ps rest fits.1) refl

-- ---- a list of pieces, preceded by their number

list_takes : (bytes : List ℕ) (x : List MessagePartEntry × List ℕ) → IsBytes bytes → list_at bytes ≡ Ok x → Takes bytes (pieces x.0) x.1 × PiecesFit x.0
unfolding list_at
list_takes bytes x fits e =
    let a = bind_ok (number_at w32 bytes) (λ n. pieces_at n.0 n.1) x e in
    let first = number_takes w32 (2 ^ 32) wide32 bytes a.0.0 a.0.1 fits a.1 in
    let second = pieces_take a.0.0 a.0.1 x first.0.rest_fits a.2 in
    let both = Takes-then bytes (to_be_bytes w32 a.0.0) a.0.1 (flat_map piece x.0) x.1 first.0 second.0 in
    (subst (λ (k : ℕ). Takes bytes (to_be_bytes w32 k ++ flat_map piece x.0) x.1) (sym second.1) both, (omega (arith, second.1, first.1), second.2))

list_again : (ps : List MessagePartEntry) (rest : List ℕ) → PiecesFit ps → list_at (pieces ps ++ rest) ≡ Ok (ps, rest)
unfolding list_at
list_again ps rest fits =
    let regrouped : pieces ps ++ rest ≡ to_be_bytes w32 (length ps) ++ (flat_map piece ps ++ rest) = append_assoc (to_be_bytes w32 (length ps)) (flat_map piece ps) rest in
    ap list_at regrouped ∙ rw (number_again w32 (2 ^ 32) wide32 (length ps) (flat_map piece ps ++ rest) fits.0) (pieces_again ps rest fits.1)

-- ---- the whole message

pub handed_takes : (bytes : List ℕ) (h : OrderMessageEntry) → IsBytes bytes → order_message_in bytes ≡ Ok h → Fits h × (bytes ≡ encoding_of h)
unfolding order_message_in
handed_takes bytes h fits e =
    let a = bind_ok (string_at bytes) _ h e in
    let b = bind_ok (number_at w64 a.0.1) _ h a.2 in
    let c = bind_ok (number_at w64 b.0.1) _ h b.2 in
    let d = bind_ok (string_at c.0.1) _ h c.2 in
    let f = bind_ok (list_at d.0.1) _ h d.2 in
    let k = bind_ok (list_at f.0.1) _ h f.2 in
    let made : OrderMessageEntry = record { version = a.0.0; device = b.0.0; inode = c.0.0; folder = d.0.0; words = f.0.0; files = k.0.0 } in
    let g = guard_ended (eqb (length k.0.1) 0) Trailing made h k.2 in
    let ta = string_takes bytes a.0.0 a.0.1 fits a.1 in
    let tb = number_takes w64 (2 ^ 64) wide64 a.0.1 b.0.0 b.0.1 ta.0.rest_fits b.1 in
    let tc = number_takes w64 (2 ^ 64) wide64 b.0.1 c.0.0 c.0.1 tb.0.rest_fits c.1 in
    let td = string_takes c.0.1 d.0.0 d.0.1 tc.0.rest_fits d.1 in
    let tf = list_takes d.0.1 f.0 td.0.rest_fits f.1 in
    let tk = list_takes f.0.1 k.0 tf.0.rest_fits k.1 in
    let nothing : k.0.1 ≡ [] = nil_from_length k.0.1 (eqb-true _ _ g.0) in
    let lists = Takes-then d.0.1 (pieces f.0.0) f.0.1 (pieces k.0.0) k.0.1 tf.0 tk.0 in
    let from_folder = Takes-then c.0.1 (string d.0.0) d.0.1 _ k.0.1 td.0 lists in
    let from_inode = Takes-then b.0.1 (to_be_bytes w64 c.0.0) c.0.1 _ k.0.1 tc.0 from_folder in
    let from_device = Takes-then a.0.1 (to_be_bytes w64 b.0.0) b.0.1 _ k.0.1 tb.0 from_inode in
    let whole = Takes-then bytes (string a.0.0) a.0.1 _ k.0.1 ta.0 from_device in
    let spelled : bytes ≡ encoding_of made = whole.parts ∙ ap (λ (r : List ℕ). encoding_of made ++ r) nothing ∙ append-nil (encoding_of made) in
    subst (λ (x : OrderMessageEntry). Fits x × (bytes ≡ encoding_of x)) g.1 (record { version = ta.1; device = tb.1; inode = tc.1; folder = td.1; words = tf.1; files = tk.1 }, spelled)

pub handed_again : (h : OrderMessageEntry) → Fits h → order_message_in (encoding_of h) ≡ Ok h
unfolding order_message_in
handed_again h fits =
    let last : list_at (pieces h.files) ≡ Ok (h.files, []) = ap list_at (sym (append-nil (pieces h.files))) ∙ list_again h.files [] fits.files in
    rw (
      string_again h.version (to_be_bytes w64 h.device ++ (to_be_bytes w64 h.inode ++ (string h.folder ++ (pieces h.words ++ pieces h.files)))) fits.version,
      number_again w64 (2 ^ 64) wide64 h.device (to_be_bytes w64 h.inode ++ (string h.folder ++ (pieces h.words ++ pieces h.files))) fits.device,
      number_again w64 (2 ^ 64) wide64 h.inode (string h.folder ++ (pieces h.words ++ pieces h.files)) fits.inode,
      string_again h.folder (pieces h.words ++ pieces h.files) fits.folder,
      list_again h.words (pieces h.files) fits.words,
      last,
    ) refl

pub is_found : (bytes : List ℕ) (r : Result OrderMessage DecodeError) → IsBytes bytes → Gives order_message_entry r (order_message_in bytes)
    → IfOk r (λ h. Fits (order_message_entry h) × (bytes ≡ encoding_of (order_message_entry h)))
is_found bytes (Ok h) fits given = handed_takes bytes (order_message_entry h) fits given
is_found bytes (Err e) fits given = tt

-- ---- pieces that fit, at each position

each_fits : (ps : List MessagePart) → AllByRecursion PieceFits (message_part_entries ps) → AllByRecursion (λ p. PieceFits (message_part_entry p)) ps
each_fits [] fits = tt
each_fits (p ∷ ps) fits = (fits.0, each_fits ps fits.1)

pub all_fit : (ps : List MessagePart) → PiecesFit (message_part_entries ps) → All (λ p. PieceFits (message_part_entry p)) ps
all_fit ps fits = All-from_recursion (λ p. PieceFits (message_part_entry p)) ps (each_fits ps fits.1)

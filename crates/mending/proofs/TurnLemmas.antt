-- The orders in turn: each order that is sent and accepted is in the list, and every order has a turn with its reason.
use Rattle.std.proofs.Common.{◌≡◌, ◌+◌, ℕ, Bool, true, false, cond, List, [], ◌∷◌, ◌++◌, Option, Some, None, map, refl, sym, ap, subst, ◌∙◌, arith, inl, inr}
use Rattle.std.proofs.lemmas.List.{append-nil, append_assoc}
use Rattle.std.proofs.lemmas.List.Concat.{flat_map-append}
use Rattle.std.proofs.lemmas.List.Sums.{fold_push, sum_by-append}
use Rattle.std.specs.List.{count_by, flat_map}
use Rattle.register.specs.Machine.{Outcome, accepted, kept, refused, accepted_of, after, after_one, is_accepted, state_after, step_of}
use Rattle.register.specs.Offices.{OfficeState, empty_office}
use Rattle.register.specs.declared.command.Request.{Request}
use Rattle.mending.specs.Changes.{in_place_of, is_named, names_of, ward_changed, wards_about}
use Rattle.mending.specs.Mending.{MendPoint, after_other, after_sent, by_turn, mend_all, mend_one, mended, moved, sent_of, start}
use Rattle.mending.specs.Accounts.{AreJust, Fate, IsDue, IsJust, IsMended, Turn, goes, is_kept, is_left_out, is_replaced, lines_on, list_of}
use Rattle.mending.specs.Accounts.{makes_way, orders_from, state_of, stays, text_of, wards_changed, wards_of}
use Rattle.mending.specs.declared.changes.Changes.{Changes}
use Rattle.mending.specs.Reports.{left_line}
use Rattle.mending.specs.declared.reports.Cause.{Cause}
use Rattle.mending.specs.declared.reports.Cause.TheVariants.{Asked, Changed, Refused, Unaccepted, Repeated}

-- ---- one more turn

flat_push : {A : Type 0} (f : Turn → List A) (turns : List Turn) (t : Turn) → flat_map f (turns ++ t ∷ []) ≡ flat_map f turns ++ f t
flat_push f turns t = flat_map-append f turns (t ∷ []) ∙ ap (λ x. flat_map f turns ++ x) (append-nil (f t))

accepted_push : (s : OfficeState) (rs : List Request) (r : Request) → is_accepted (step_of (after s rs) r) ≡ true → accepted_of s (rs ++ r ∷ []) ≡ accepted_of s rs ++ r ∷ []
accepted_push s [] r is = rw is refl
accepted_push s (x ∷ rs) r is = go (is_accepted (step_of s x)) (accepted_push (after_one s x) rs r is)
  where
    go : (b : Bool) → accepted_of (after_one s x) (rs ++ r ∷ []) ≡ accepted_of (after_one s x) rs ++ r ∷ []
        → cond b (x ∷ accepted_of (after_one s x) (rs ++ r ∷ [])) (accepted_of (after_one s x) (rs ++ r ∷ []))
        ≡ cond b (x ∷ accepted_of (after_one s x) rs) (accepted_of (after_one s x) rs) ++ r ∷ []
    go true later = ap (λ l. x ∷ l) later
    go false later = later

-- these turns lead to this point
record IsSo (changes : Changes) (turns : List Turn) (p : MendPoint) : Type 0 where
  sent : p.sent ≡ list_of turns
  accepted : accepted_of empty_office p.sent ≡ p.sent
  leads : p.state ≡ after empty_office p.sent
  told : p.told ≡ text_of turns
  changed : p.changed ≡ wards_of changes.orders.now turns
  kept_orders : p.kept_orders ≡ count_by (λ (t : Turn). is_kept t.fate) turns
  replaced_orders : p.replaced_orders ≡ count_by (λ (t : Turn). is_replaced t.fate) turns
  left_orders : p.left_orders ≡ count_by (λ (t : Turn). is_left_out t.fate) turns

-- the state of a point is that of its turns
at_turns : (changes : Changes) (turns : List Turn) (p : MendPoint) → IsSo changes turns p → p.state ≡ state_of turns
at_turns changes turns p so = so.leads ∙ ap (after empty_office) so.sent

count_push : (test : Turn → Bool) (turns : List Turn) (t : Turn) → count_by test (turns ++ t ∷ []) ≡ count_by test turns + cond (test t) 1 0
count_push test turns t = sum_by-append (λ (x : Turn). cond (test x) 1 0) turns (t ∷ []) ∙ omega arith

-- one more turn, given what it adds
so_push : (changes : Changes) (turns : List Turn) (p q : MendPoint) (r : Request) (fate : Fate) → IsSo changes turns p
    → q.sent ≡ p.sent ++ orders_from r fate → accepted_of empty_office q.sent ≡ q.sent → q.state ≡ after empty_office q.sent → q.told ≡ p.told ++ lines_on r fate
    → q.changed ≡ p.changed ++ wards_changed changes.orders.now r fate → q.kept_orders ≡ p.kept_orders + cond (is_kept fate) 1 0
    → q.replaced_orders ≡ p.replaced_orders + cond (is_replaced fate) 1 0 → q.left_orders ≡ p.left_orders + cond (is_left_out fate) 1 0
    → IsSo changes (turns ++ (record { order = r; fate = fate }) ∷ []) q
so_push changes turns p q r fate so sent taken leads told changed kept_orders replaced_orders left_orders =
    let t : Turn = record { order = r; fate = fate } in
    record {
      sent = sent ∙ ap (λ l. l ++ orders_from r fate) so.sent ∙ sym (flat_push (λ (x : Turn). orders_from x.order x.fate) turns t);
      accepted = taken;
      leads = leads;
      told = told ∙ ap (λ l. l ++ lines_on r fate) so.told ∙ sym (flat_push (λ (x : Turn). lines_on x.order x.fate) turns t);
      changed = changed ∙ ap (λ l. l ++ wards_changed changes.orders.now r fate) so.changed
          ∙ sym (flat_push (λ (x : Turn). wards_changed changes.orders.now x.order x.fate) turns t);
      kept_orders = kept_orders ∙ ap (λ n. n + cond (is_kept fate) 1 0) so.kept_orders ∙ sym (count_push (λ (x : Turn). is_kept x.fate) turns t);
      replaced_orders = replaced_orders ∙ ap (λ n. n + cond (is_replaced fate) 1 0) so.replaced_orders ∙ sym (count_push (λ (x : Turn). is_replaced x.fate) turns t);
      left_orders = left_orders ∙ ap (λ n. n + cond (is_left_out fate) 1 0) so.left_orders ∙ sym (count_push (λ (x : Turn). is_left_out x.fate) turns t);
    }

-- the turn of an order, with its reason
record HasTurn (changes : Changes) (turns : List Turn) (r : Request) (q : MendPoint) : Type 0 where
  fate : Fate
  just : IsJust changes turns r fate
  so : IsSo changes (turns ++ (record { order = r; fate = fate }) ∷ []) q

-- the outcome of the machine at a point is its outcome at the state of the point's turns
at_state : (changes : Changes) (turns : List Turn) (p : MendPoint) (r : Request) (o : Outcome) → IsSo changes turns p → step_of p.state r ≡ o → step_of (state_of turns) r ≡ o
at_state changes turns p r o so is = ap (λ x. step_of x r) (sym (at_turns changes turns p so)) ∙ is

-- with one more accepted order, the list is still accepted, and it leads to the next state
accepted_more : (changes : Changes) (turns : List Turn) (p : MendPoint) (r : Request) (next : OfficeState) (reply : List ℕ) → IsSo changes turns p → step_of p.state r ≡ accepted next reply
    → accepted_of empty_office (p.sent ++ r ∷ []) ≡ p.sent ++ r ∷ []
accepted_more changes turns p r next reply so is =
    accepted_push empty_office p.sent r (ap (λ x. is_accepted (step_of x r)) (sym so.leads) ∙ ap is_accepted is) ∙ ap (λ l. l ++ r ∷ []) so.accepted

leads_more : (changes : Changes) (turns : List Turn) (p : MendPoint) (r : Request) (next : OfficeState) (reply : List ℕ) → IsSo changes turns p → step_of p.state r ≡ accepted next reply
    → next ≡ after empty_office (p.sent ++ r ∷ [])
leads_more changes turns p r next reply so is =
    sym (fold_push after_one empty_office p.sent r ∙ ap (λ x. state_after x (step_of x r)) (sym so.leads) ∙ ap (state_after p.state) is)

-- if an order is left out, the list and its state stay the same
so_left : (changes : Changes) (turns : List Turn) (p q : MendPoint) (r : Request) (cause : Cause) → IsSo changes turns p → q.sent ≡ p.sent → q.state ≡ p.state
    → q.told ≡ p.told ++ left_line r cause → q.changed ≡ p.changed ++ wards_about changes.orders.now r.command → q.kept_orders ≡ p.kept_orders
    → q.replaced_orders ≡ p.replaced_orders → q.left_orders ≡ p.left_orders + 1 → IsSo changes (turns ++ (record { order = r; fate = goes cause }) ∷ []) q
so_left changes turns p q r cause so sent state told changed kept_orders replaced_orders left_orders =
    so_push changes turns p q r (goes cause) so (sent ∙ sym (append-nil p.sent)) (ap (accepted_of empty_office) sent ∙ so.accepted ∙ sym sent)
    (state ∙ so.leads ∙ ap (after empty_office) (sym sent)) told changed (kept_orders ∙ omega arith) (replaced_orders ∙ omega arith) left_orders

-- ---- the turn of an order

so_sent : (changes : Changes) (turns : List Turn) (p : MendPoint) (r : Request) (o : Outcome) → step_of p.state r ≡ o → IsDue changes turns r → IsSo changes turns p
    → HasTurn changes turns r (after_sent changes.orders.now (moved p o) r (sent_of o))
so_sent changes turns p r (accepted next reply) is due so = record {
  fate = stays;
  just = (due, ap is_accepted (at_state changes turns p r (accepted next reply) so is));
  so = so_push changes turns p (after_sent changes.orders.now (moved p (accepted next reply)) r (sent_of (accepted next reply))) r stays so refl
      (accepted_more changes turns p r next reply so is) (leads_more changes turns p r next reply so is) (sym (append-nil p.told)) (sym (append-nil p.changed)) refl (omega arith) (omega arith);
}
so_sent changes turns p r (kept reply) is due so = record {
  fate = goes Repeated;
  just = inl (due, (reply, at_state changes turns p r (kept reply) so is));
  so = so_left changes turns p (after_sent changes.orders.now (moved p (kept reply)) r (sent_of (kept reply))) r Repeated so refl refl refl refl refl refl refl;
}
so_sent changes turns p r (refused why) is due so = record {
  fate = goes (Refused why);
  just = (due, at_state changes turns p r (refused why) so is);
  so = so_left changes turns p (after_sent changes.orders.now (moved p (refused why)) r (sent_of (refused why))) r (Refused why) so refl refl refl refl refl refl refl;
}

so_other : (changes : Changes) (turns : List Turn) (p : MendPoint) (r other : Request) (o : Outcome) → step_of p.state other ≡ o → in_place_of changes.instead.now r ≡ Some other
    → IsSo changes turns p → HasTurn changes turns r (after_other changes.orders.now (moved p o) r other (sent_of o))
so_other changes turns p r other (accepted next reply) is placed so = record {
  fate = makes_way other;
  just = (placed, ap is_accepted (at_state changes turns p other (accepted next reply) so is));
  so = so_push changes turns p (after_other changes.orders.now (moved p (accepted next reply)) r other (sent_of (accepted next reply))) r (makes_way other) so refl
      (accepted_more changes turns p other next reply so is) (leads_more changes turns p other next reply so is) refl
      (append_assoc p.changed (wards_about changes.orders.now r.command) (wards_about changes.orders.now other.command)) (omega arith) refl (omega arith);
}
so_other changes turns p r other (kept reply) is placed so = record {
  fate = goes Repeated;
  just = inr (other, placed, (reply, at_state changes turns p other (kept reply) so is));
  so = so_left changes turns p (after_other changes.orders.now (moved p (kept reply)) r other (sent_of (kept reply))) r Repeated so refl refl refl refl refl refl refl;
}
so_other changes turns p r other (refused why) is placed so = record {
  fate = goes (Unaccepted why);
  just = (other, placed, at_state changes turns p other (refused why) so is);
  so = so_left changes turns p (after_other changes.orders.now (moved p (refused why)) r other (sent_of (refused why))) r (Unaccepted why) so refl refl refl refl refl refl refl;
}

so_turn : (changes : Changes) (turns : List Turn) (p : MendPoint) (r : Request) (found : Option Request) (named : Bool) (ward : Option ℕ) → in_place_of changes.instead.now r ≡ found
    → is_named (names_of changes) r ≡ named → ward_changed p.changed r.command ≡ ward → IsSo changes turns p → HasTurn changes turns r (by_turn changes.orders.now p r found named ward)
so_turn changes turns p r (Some other) named ward placed asked counted so = so_other changes turns p r other (step_of p.state other) refl placed so
so_turn changes turns p r None true ward placed asked counted so = record {
  fate = goes Asked;
  just = (placed, asked);
  so = so_left changes turns p (by_turn changes.orders.now p r None true ward) r Asked so refl refl refl refl refl refl refl;
}
so_turn changes turns p r None false (Some ward) placed asked counted so = record {
  fate = goes (Changed ward);
  just = (placed, ap (λ l. ward_changed l r.command) (sym so.changed) ∙ counted);
  so = so_left changes turns p (by_turn changes.orders.now p r None false (Some ward)) r (Changed ward) so refl refl refl refl refl refl refl;
}
so_turn changes turns p r None false None placed asked counted so =
    so_sent changes turns p r (step_of p.state r) refl (record { unplaced = placed; unnamed = asked; unchanged = ap (λ l. ward_changed l r.command) (sym so.changed) ∙ counted }) so

so_one : (changes : Changes) (turns : List Turn) (p : MendPoint) (r : Request) → IsSo changes turns p → HasTurn changes turns r (mend_one changes p r)
unfolding mend_one
so_one changes turns p r so =
    so_turn changes turns p r (in_place_of changes.instead.now r) (is_named (names_of changes) r) (ward_changed p.changed r.command) refl refl refl so

-- ---- all

-- the turns of several orders
record HaveTurns (changes : Changes) (before : List Turn) (rs : List Request) (q : MendPoint) : Type 0 where
  turns : List Turn
  each : map (λ (t : Turn). t.order) turns ≡ rs
  just : AreJust changes before turns
  so : IsSo changes (before ++ turns) q

so_all : (changes : Changes) (rs : List Request) (before : List Turn) (p : MendPoint) → IsSo changes before p → HaveTurns changes before rs (mend_all changes p rs)
so_all changes [] before p so = record { turns = []; each = refl; just = tt; so = subst (λ (l : List Turn). IsSo changes l p) (sym (append-nil before)) so }
so_all changes (r ∷ rs) before p so =
    let one = so_one changes before p r so in
    let t : Turn = record { order = r; fate = one.fate } in
    let rest = so_all changes rs (before ++ t ∷ []) (mend_one changes p r) one.so in
    record {
      turns = t ∷ rest.turns;
      each = ap (λ l. r ∷ l) rest.each;
      just = (one.just, rest.just);
      so = subst (λ (l : List Turn). IsSo changes l (mend_all changes p (r ∷ rs))) (append_assoc before (t ∷ []) rest.turns) rest.so;
    }

-- the result of mending a list is accounted for
pub mended_is : (changes : Changes) → IsMended changes (mended changes)
mended_is changes =
    let begun : IsSo changes [] (start empty_office) =
    record { sent = refl; accepted = refl; leads = refl; told = refl; changed = refl; kept_orders = refl; replaced_orders = refl; left_orders = refl } in
    let all = so_all changes changes.orders.now [] (start empty_office) begun in
    record {
      turns = all.turns;
      each = all.each;
      just = all.just;
      sent = all.so.sent;
      accepted = all.so.accepted;
      leads = all.so.leads;
      told = all.so.told;
      kept_orders = all.so.kept_orders;
      replaced_orders = all.so.replaced_orders;
      left_orders = all.so.left_orders;
    }

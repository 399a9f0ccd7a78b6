-- Which of the connections that count has been waiting longest, among the first ones and after adding another.
use Rattle.std.proofs.Common.{◌≡◌, ◌<◌, ◌≤◌, ◌∙◌, ◌++◌, ◌∷◌, ℕ, Bool, true, false, List, [], Option, None, Some, IfSome, add-one, ap, arith, get_or, length, refl, subst, sym}
use Rattle.std.proofs.Common.{◌+◌, cond, nat_le, take}
use Rattle.std.proofs.Math.Seq.{take-suc}
use Rattle.std.proofs.lemmas.Bool.{leb-false, leb-true}
use Rattle.std.specs.List.{All}
use Rattle.std.proofs.lemmas.List.{take_all, get_or_append_left, get_or_push, length-take-le, length_push}
use Rattle.std.proofs.lemmas.List.Elements.{All-push, All-weaker}
use Rattle.connections.specs.declared.client.Client.{Client}
use Rattle.connections.specs.Tables.{AreUnseen, HasWaitedLongest, earlier, is_among}

-- no connection that counts has a time limit that began before the given time
abbrev IsFirst : {L : Type 0} → Bool → List (Client L) → ℕ → Type 0
IsFirst orders_too clients since = All (λ other. is_among orders_too other.listener ≡ true → since ≤ other.since) clients

-- the connection found counts and is at the given place, its time limit began at the given time, and no other began earlier; or no connection counts
abbrev pub IsFound : {L : Type 0} → Bool → List (Client L) → Option (ℕ × ℕ) → Type 0
IsFound orders_too clients None = AreUnseen orders_too clients
IsFound {L} orders_too clients (Some it) =
    (it.0 < length clients) × ((c : Client L) → ((get_or clients it.0 c).since ≡ it.1) × (is_among orders_too (get_or clients it.0 c).listener ≡ true))
    × All (λ other. is_among orders_too other.listener ≡ true → it.1 ≤ other.since) clients

module _ {L : Type 0} (orders_too : Bool) where
  -- another connection, which doesn't count
  pub found_past : (clients : List (Client L)) (found : Option (ℕ × ℕ)) (c : Client L) → is_among orders_too c.listener ≡ false → IsFound orders_too clients found
      → IsFound orders_too (clients ++ c ∷ []) found
  found_past clients None c unseen none = All-push (λ (o : Client L). is_among orders_too o.listener ≡ false) clients c none unseen
  found_past clients (Some it) c unseen found =
      let long = length_push clients c in
      (omega (arith, long, found.0), λ d. still d, All-push (λ (o : Client L). is_among orders_too o.listener ≡ true → it.1 ≤ o.since) clients c found.2 (λ seen. absurd (cc (seen, unseen))))
    where
      still : (d : Client L) → ((get_or (clients ++ c ∷ []) it.0 d).since ≡ it.1) × (is_among orders_too (get_or (clients ++ c ∷ []) it.0 d).listener ≡ true)
      still d = subst (λ (x : Client L). (x.since ≡ it.1) × (is_among orders_too x.listener ≡ true)) (sym (get_or_append_left clients (c ∷ []) d it.0 found.0)) (found.1 d)

  -- another connection, which hasn't been waiting longer
  pub found_kept : (clients : List (Client L)) (it : ℕ × ℕ) (c : Client L) → IsFound orders_too clients (Some it) → it.1 ≤ c.since → IsFound orders_too (clients ++ c ∷ []) (Some it)
  found_kept clients it c found le =
      let long = length_push clients c in
      (omega (arith, long, found.0), λ d. still d, All-push (λ (o : Client L). is_among orders_too o.listener ≡ true → it.1 ≤ o.since) clients c found.2 (λ seen. le))
    where
      still : (d : Client L) → ((get_or (clients ++ c ∷ []) it.0 d).since ≡ it.1) × (is_among orders_too (get_or (clients ++ c ∷ []) it.0 d).listener ≡ true)
      still d = subst (λ (x : Client L). (x.since ≡ it.1) × (is_among orders_too x.listener ≡ true)) (sym (get_or_append_left clients (c ∷ []) d it.0 found.0)) (found.1 d)

  -- another connection, which has been waiting at least as long as any other
  found_at_end : (clients : List (Client L)) (c : Client L) → is_among orders_too c.listener ≡ true → IsFirst orders_too clients c.since
      → IsFound orders_too (clients ++ c ∷ []) (Some (length clients, c.since))
  found_at_end clients c seen all =
      let long = length_push clients c in
      (omega (arith, long), λ d. there d, All-push (λ (o : Client L). is_among orders_too o.listener ≡ true → c.since ≤ o.since) clients c all (λ same. omega arith))
    where
      there : (d : Client L) → ((get_or (clients ++ c ∷ []) (length clients) d).since ≡ c.since) × (is_among orders_too (get_or (clients ++ c ∷ []) (length clients) d).listener ≡ true)
      there d = subst (λ (x : Client L). (x.since ≡ c.since) × (is_among orders_too x.listener ≡ true)) (sym (get_or_push clients c d (length clients) refl)) (refl, seen)

  pub found_new : (clients : List (Client L)) (found : Option (ℕ × ℕ)) (c : Client L) → is_among orders_too c.listener ≡ true → IsFound orders_too clients found → IfSome found (λ it. c.since < it.1)
      → IsFound orders_too (clients ++ c ∷ []) (Some (length clients, c.since))
  found_new clients None c seen none lt =
      found_at_end clients c seen (All-weaker (λ (o : Client L). is_among orders_too o.listener ≡ false) (λ (o : Client L). is_among orders_too o.listener ≡ true
      → c.since ≤ o.since) (λ o unseen is. absurd (cc (unseen, is))) clients none)
  found_new clients (Some it) c seen found lt =
      found_at_end clients c seen (All-weaker (λ (o : Client L). is_among orders_too o.listener ≡ true → it.1 ≤ o.since) (λ (o : Client L). is_among orders_too o.listener ≡ true → c.since ≤ o.since)
      (λ o le is. let below = le is in omega (arith, lt, below)) clients found.2)

  pub found_on : (clients : List (Client L)) (found : Option (ℕ × ℕ)) (c : Client L) (place : ℕ) → length clients ≡ place → is_among orders_too c.listener ≡ true → IsFound orders_too clients found
      → IsFound orders_too (clients ++ c ∷ []) (earlier found true place c.since)
  found_on clients None c place is seen found = subst (λ (n : ℕ). IsFound orders_too (clients ++ c ∷ []) (Some (n, c.since))) is (found_new clients None c seen found tt)
  found_on clients (Some it) c place is seen found = by (nat_le it.1 c.since) refl
    where
      by : (b : Bool) → nat_le it.1 c.since ≡ b → IsFound orders_too (clients ++ c ∷ []) (cond b (Some it) (Some (place, c.since)))
      by true e = found_kept clients it c found (leb-true it.1 c.since e)
      by false e = subst (λ (n : ℕ). IsFound orders_too (clients ++ c ∷ []) (Some (n, c.since))) is (found_new clients (Some it) c seen found (leb-false it.1 c.since e))

  one_more_of : (clients : List (Client L)) (place : ℕ) (c : Client L) → place < length clients → c ≡ get_or clients place c → take (place + 1) clients ≡ take place clients ++ c ∷ []
  one_more_of clients place c lt is =
      ap (λ (n : ℕ). take n clients) (add-one place) ∙ take-suc clients place c lt ∙ ap (λ (x : Client L). take place clients ++ x ∷ []) (sym is)

  -- another connection in the table
  pub found_at : (clients : List (Client L)) (place : ℕ) (c : Client L) (found : Option (ℕ × ℕ)) → place < length clients → c ≡ get_or clients place c → is_among orders_too c.listener ≡ true
      → IsFound orders_too (take place clients) found → IsFound orders_too (take (place + 1) clients) (earlier found true place c.since)
  found_at clients place c found lt is seen it =
      subst (λ (cs : List (Client L)). IsFound orders_too cs (earlier found true place c.since)) (sym (one_more_of clients place c lt is))
      (found_on (take place clients) found c place (length-take-le place clients (omega (arith, lt))) seen it)

  pub found_by : (clients : List (Client L)) (place : ℕ) (c : Client L) (found : Option (ℕ × ℕ)) → place < length clients → c ≡ get_or clients place c → is_among orders_too c.listener ≡ false
      → IsFound orders_too (take place clients) found → IsFound orders_too (take (place + 1) clients) found
  found_by clients place c found lt is unseen it =
      subst (λ (cs : List (Client L)). IsFound orders_too cs found) (sym (one_more_of clients place c lt is)) (found_past (take place clients) found c unseen it)

  pub found_next : (clients : List (Client L)) (place : ℕ) (c : Client L) (found : Option (ℕ × ℕ)) (b : Bool) → place < length clients → c ≡ get_or clients place c → b ≡ is_among orders_too c.listener
      → IsFound orders_too (take place clients) found → IsFound orders_too (take (place + 1) clients) (earlier found b place c.since)
  found_next clients place c found true lt is seen it = found_at clients place c found lt is (sym seen) it
  found_next clients place c None false lt is seen it = found_by clients place c None lt is (sym seen) it
  found_next clients place c (Some one) false lt is seen it = found_by clients place c (Some one) lt is (sym seen) it

  -- the connection found among all of them
  pub longest_is : (clients : List (Client L)) (it : ℕ × ℕ) → IsFound orders_too clients (Some it)
      → (it.0 < length clients) × ((c : Client L) → HasWaitedLongest orders_too clients (get_or clients it.0 c))
  longest_is clients it found = (found.0, λ c. record { among = (found.1 c).1; first = λ k d lt is. subst (λ (n : ℕ). n ≤ (get_or clients k d).since) (sym (found.1 c).0) (found.2 k d lt is) })

  -- all connections have been examined
  pub found_all : (clients : List (Client L)) (place : ℕ) (found : Option (ℕ × ℕ)) → length clients ≤ place → IsFound orders_too (take place clients) found → IsFound orders_too clients found
  found_all clients place found all it = subst (λ (cs : List (Client L)). IsFound orders_too cs found) (take_all place clients all) it

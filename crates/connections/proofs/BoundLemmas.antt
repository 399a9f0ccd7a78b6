-- The table stays within its limits, whichever connections are accepted, serviced or closed.
use Rattle.std.proofs.Common.{◌≡◌, ◌≤◌, ◌<◌, ◌+◌, ◌∙◌, ◌∷◌, ◌++◌, ℕ, List, [], Option, ap, arith, insert, length, remove, subst, sym}
use Rattle.std.specs.List.{FoldsTo}
use Rattle.std.proofs.lemmas.List.{length_push}
use Rattle.std.proofs.lemmas.List.Edits.{length-insert, length-remove}
use Rattle.std.proofs.lemmas.List.Sums.{sum_by-remove, sum_by_push}
use Rattle.connections.specs.Clients.{IsNew}
use Rattle.connections.specs.Tables.{NetworkEntry, answer_bytes, bytes_held, bytes_of, most_bytes, most_clients}
use Rattle.connections.specs.declared.client.PendingResponse.{PendingResponse}
use Rattle.connections.specs.declared.client.Client.{Client}
use Rattle.connections.specs.declared.client.Accepted.{Accepted}
use Rattle.connections.specs.declared.connection_table.ConnectionTable.{ConnectionTable}
use Rattle.connections.specs.declared.removed.Removed.{Removed}
use Rattle.connections.specs.Closing.{AreClosedByRule, IsWithin}
use Rattle.connections.proofs.ClosingLemmas.{Outs}

module _ {L : Type 0} where
  -- there are at most as many connections, and they hold at most as many bytes, as the limits allow
  abbrev pub IsWithinOf : List (Client L) → Type 0
  IsWithinOf clients = (length clients ≤ most_clients) × (bytes_held clients ≤ most_bytes)

  -- one connection was closed
  pub one_less : (clients : List (Client L)) (place : ℕ) (d : Client L) → place < length clients → IsWithinOf clients → IsWithinOf (remove clients place)
  one_less clients place d within was =
      let fewer = length-remove clients place within in
      let less = sum_by-remove bytes_of clients place d within in
      (omega (arith, fewer, was.0), omega (arith, less, was.1))

  -- a connection was taken out of its place and put back
  pub few_back : (clients taken back : List (Client L)) (place : ℕ) (new : Client L) → place < length clients → length clients ≤ most_clients
      → taken ≡ remove clients place → back ≡ insert taken place new → length back ≤ most_clients
  few_back clients taken back place new within few out is =
      let fewer = length-remove clients place within in
      let more = length-insert (remove clients place) place new (omega (arith, fewer, within)) in
      subst (λ (cs : List (Client L)). length cs ≤ most_clients) (sym (is ∙ ap (λ (cs : List (Client L)). insert cs place new) out)) (omega (arith, fewer, more, few))

  -- while a connection is out of its place, there is room for it
  pub place_left : (clients taken : List (Client L)) (place : ℕ) → place < length clients → length clients ≤ most_clients → taken ≡ remove clients place
      → (place ≤ length taken) × (length taken < most_clients)
  place_left clients taken place within few out =
      let fewer = length-remove clients place within in
      let same = ap (λ (cs : List (Client L)). length cs) out in
      (omega (arith, fewer, same, within), omega (arith, fewer, same, few))

  module _ (Goes : List (Client L) → Removed L → List (Client L) → Type 0) (outs : Outs Goes) where
    let_go : (gone : List (Removed L)) (old new : List (Client L)) → FoldsTo Goes old gone new → IsWithinOf old → IsWithinOf new
    let_go [] old new same was = subst (λ (cs : List (Client L)). IsWithinOf cs) same was
    let_go (removed ∷ gone) old new (mid, goes, others) was = let_go gone mid new others (left old mid goes was)
      where
        left : (clients rest : List (Client L)) → Goes clients removed rest → IsWithinOf clients → IsWithinOf rest
        left [] rest go is = let out = outs [] removed rest go in absurd (omega (arith, out.out.within))
        left (c ∷ cs) rest go is =
            let out = outs (c ∷ cs) removed rest go in
            subst (λ (xs : List (Client L)). IsWithinOf xs) (sym out.out.left) (one_less (c ∷ cs) out.place c out.out.within is)

    -- connections were closed
    pub within_still : (before later : NetworkEntry L) (old new : ConnectionTable L) → AreClosedByRule Goes before later old new → IsWithin old → IsWithin new
    within_still before later old new it was = let_go it.gone old.clients.items new.clients.items it.each was

    few_still : (gone : List (Removed L)) (old new : List (Client L)) → FoldsTo Goes old gone new → length new ≤ length old
    few_still [] old new same = omega (arith, ap (λ (cs : List (Client L)). length cs) same)
    few_still (removed ∷ gone) old new (mid, goes, others) =
        let out = outs old removed mid goes in
        let fewer = length-remove old out.place out.out.within in
        let left = ap (λ (cs : List (Client L)). length cs) out.out.left in
        let rest = few_still gone mid new others in
        omega (arith, fewer, left, rest)

    -- connections were closed until the bytes in memory were within the limit
    pub within_again : (before later : NetworkEntry L) (old new : ConnectionTable L) → length old.clients.items ≤ most_clients → AreClosedByRule Goes before later old new
        → bytes_held new.clients.items ≤ most_bytes → IsWithin new
    within_again before later old new few it bytes = (omega (arith, few, few_still it.gone old.clients.items new.clients.items it.each), bytes)

  -- no connection is open
  pub within_none : (table : ConnectionTable L) → table.clients.items ≡ [] → IsWithin table
  within_none table none = subst (λ (cs : List (Client L)). IsWithinOf cs) (sym none) (omega arith, omega arith)

  -- a connection for which there was room was accepted
  pub within_more : (old new : ConnectionTable L) (accepted : Accepted L) (now : ℕ) (P : Client L → Type 0) → length old.clients.items < most_clients → bytes_held old.clients.items ≤ most_bytes
      → (client : Client L) × (new.clients.items ≡ old.clients.items ++ client ∷ []) × IsNew accepted old.came now client × P client → IsWithin new
  within_more old new accepted now P few bytes (client, is, is_new, own) =
      let clients = old.clients.items in
      let none : bytes_of client ≡ 0 =
      ap (λ (bs : List ℕ). length bs + answer_bytes client.answer) is_new.unheard ∙ ap (λ (a : Option PendingResponse). 0 + answer_bytes a) is_new.unanswered in
      let more = sum_by_push bytes_of clients client in
      let long = length_push clients client in
      subst (λ (cs : List (Client L)). IsWithinOf cs) (sym is) (omega (arith, few, long), omega (arith, more, none, bytes))

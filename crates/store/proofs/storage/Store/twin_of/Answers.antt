-- Proof that `twin_of` meets its contract.
use Rattle.std.proofs.Common.{◌≡◌, true, List, Option, None, find, map, option_map, sym, ap, ◌∙◌}
use Rattle.std.proofs.lemmas.Bool.{cond-true, cond-false}
use Rattle.register.specs.Offices.{BatchEntry}
use Rattle.register.specs.Agreement.{is_taken}
use Rattle.store.specs.Overviews.{is_twin}
use Rattle.store.specs.Memories.{row_of}
use Rattle.store.proofs.MemoryLemmas.{all_right, all_rows}
use Rattle.store.proofs.TwinLemmas.{untaken, has_sum}
use Rattle.store.proofs.LoadsLemmas.{loads_none, loads_told}
use Rattle.store.proofs.storage.Store.twin_of.Goals as goal

pub returns-in-None : goal.returns-in-None
returns-in-None g c =
    loads_none c.requires
    (λ s is. λ all own.
    let b = row_of c.args.one.now in
    sym (cond-false (is_taken s b) (option_map (λ (x : BatchEntry). x.number) (find (is_twin s b) s.batches)) None (untaken s c.args.one.now own c.in-None.is)))

pub returns-in-Some : goal.returns-in-Some
returns-in-Some g c =
    loads_told c.find_twin.ensures
    (λ s twin told. λ all own.
    let b = row_of c.args.one.now in
    let taken : is_taken s b ≡ true = has_sum s c.args.one.now own _ c.in-Some.is in
    told own taken (all_right s c.args.known.now s.batches all)
    ∙ ap (λ (bs : List BatchEntry). option_map (λ (x : BatchEntry). x.number) (find (is_twin s b) bs)) (all_rows s c.args.known.now s.batches all)
    ∙ sym (cond-true (is_taken s b) (option_map (λ (x : BatchEntry). x.number) (find (is_twin s b) s.batches)) None taken))

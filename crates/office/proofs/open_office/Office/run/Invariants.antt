use Rattle.std.proofs.Common.{◌≡◌, ◌≤◌, length, map, take, vec_len, vec_capacity}
use Rattle.sqlite.specs.State.{HasCleanDisk}
use Rattle.sqlite.specs.Held.{state}
use Rattle.register.specs.Machine.{after}
use Rattle.store.specs.StateTables.{KeepsConnection}
use Rattle.office.specs.Answers.{WhenOpenAt, IsOpenAt, told, told_of}
use Rattle.office.specs.Runs.{outcomes}
use Rattle.office.proofs.open_office.Office.run.Given as goal

abbrev pub invariant-loop-request : goal.invariant-loop-request
invariant-loop-request g l = record {
  count : vec_len l.answers ≡ l.request-index;
  room : length l.requests ≤ vec_capacity l.answers;
  clean : HasCleanDisk (state g.S.Store l.self.held) → HasCleanDisk (state g.S.Store l.initial.self.held);
  keeps_connection : KeepsConnection (state g.S.Store l.initial.self.held) (state g.S.Store l.self.held);
  open_at : WhenOpenAt (state g.S.Store) l.initial.self l.self (λ s. IsOpenAt (after s (take l.request-index l.requests)) l.self.closed (state g.S.Store l.self.held));
  answers : WhenOpenAt (state g.S.Store) l.initial.self l.self (λ s. map told l.answers.items ≡ map told_of (outcomes s (take l.request-index l.requests)));
}

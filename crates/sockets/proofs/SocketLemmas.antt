-- Reads from and writes to a stream about whose bytes nothing is known.
use Rattle.std.proofs.Common.{◌≡◌, ◌⊎◌, inl, inr, ◌<◌, ◌≤◌, ℕ, Bool, List, None, Option, Some, Ok, Err, Result, length, refl, subst, suc, sym, true, arith, zero}
use Rattle.std.specs.Prelude.{IfOk}
use Rattle.streams.specs.declared.streams.Broken.{Broken}
use Rattle.connections.specs.declared.stream.Received.{Received}
use Rattle.connections.specs.declared.stream.Received.TheVariants.{Bytes, Nothing, End}
use Rattle.connections.specs.declared.network.AcceptOutcome.{AcceptOutcome}
use Rattle.connections.specs.declared.network.AcceptOutcome.TheVariants.{One, Nobody, NotNow, Full}
use Rattle.connections.specs.Streams.{Gives, Takes, failed_after, idle_after_read, idle_after_write}
use Rattle.connections.specs.Tables.{IsUnsent, IsWanted, MayCome, after_accept, after_look, after_ready, after_wait}
use Rattle.connections.specs.declared.client.Listener.{Listener}
use Rattle.connections.specs.declared.client.Listener.TheVariants.{Clients, Orders}
use Rattle.sockets.specs.Pollers.{ComesByListener, FitsListener, IsAtListener, unknown}
use Rattle.sockets.specs.declared.socket.Socket.{Socket}

-- what was read fits in the buffer
pub gives_untold : {E : Type 0} (read : Result ℕ E) (room : List ℕ) (r : Result Received Broken) → IfOk read (λ n. n ≤ length room) → ((n : ℕ) → r ≡ Ok (Bytes n) → (0 < n) × (read ≡ Ok n))
    → Gives None None room r
gives_untold read room (Ok (Bytes n)) within told =
    let it = told n refl in
    (it.0, subst (λ x. IfOk x (λ m. m ≤ length room)) it.1 within, tt)
gives_untold read room (Ok Nothing) within told = tt
gives_untold read room (Ok End) within told = (tt, tt)
gives_untold read room (Err broken) within told = tt

-- no more bytes were written than there were
pub takes_untold : {E : Type 0} (written : Result ℕ E) (bytes : List ℕ) (r : Result ℕ Broken) → IfOk written (λ n. n ≤ length bytes)
    → IfOk r (λ n. (n ≡ 0) ⊎ (written ≡ Ok n)) → Takes None None bytes r
takes_untold written bytes (Ok n) within (inl none) = (omega (arith, none), refl)
takes_untold written bytes (Ok n) within (inr is) = (subst (λ x. IfOk x (λ m. m ≤ length bytes)) is within, refl)
takes_untold written bytes (Err broken) within told = refl

-- nothing has been sent to a connection accepted over a stream about which nothing is known
pub fresh_untold : {L : Type 0} (a : AcceptOutcome L) → IsUnsent (λ (l : L). None) a
fresh_untold (One accepted) = tt
fresh_untold Nobody = tt
fresh_untold NotNow = tt
fresh_untold Full = tt

-- orders may always be accepted
pub order_wanted : (clients_too : Bool) (a : AcceptOutcome Socket) → IsAtListener Orders a → IsWanted clients_too a
order_wanted clients_too (One accepted) at = subst (MayCome clients_too) (sym at.0) tt
order_wanted clients_too Nobody at = tt
order_wanted clients_too NotNow at = tt
order_wanted clients_too Full at = tt

-- and clients may be accepted if they are allowed
pub client_wanted : (clients_too : Bool) (a : AcceptOutcome Socket) → IsAtListener Clients a → clients_too ≡ true → IsWanted clients_too a
client_wanted clients_too (One accepted) at wanted = subst (MayCome clients_too) (sym at.0) wanted
client_wanted clients_too Nobody at wanted = tt
client_wanted clients_too NotNow at wanted = tt
client_wanted clients_too Full at wanted = tt

-- a connection's socket is of the kind that its listener accepts
pub comes_by_door : (listener : Listener) (a : AcceptOutcome Socket) → IsAtListener listener a → ComesByListener a
comes_by_door listener (One accepted) at = subst (λ d. FitsListener d accepted.stream) (sym at.0) at.1
comes_by_door listener Nobody at = tt
comes_by_door listener NotNow at = tt
comes_by_door listener Full at = tt

-- what is unknown stays unknown

pub still_unknown_in : {L : Type 0} (a : AcceptOutcome L) → unknown ≡ after_accept a unknown
still_unknown_in (One accepted) = refl
still_unknown_in Nobody = refl
still_unknown_in NotNow = refl
still_unknown_in Full = refl

pub still_unknown_now : {L : Type 0} (result : Result ℕ Broken) → unknown {L = L} ≡ after_look result unknown
still_unknown_now (Ok now) = refl
still_unknown_now (Err broken) = refl

pub still_unknown_ready : {L : Type 0} (result : Option ℕ) → unknown {L = L} ≡ after_ready result unknown
still_unknown_ready (Some number) = refl
still_unknown_ready None = refl

pub still_unknown_then : {L : Type 0} (result : Result (Unit {0}) Broken) → unknown {L = L} ≡ after_wait result unknown
still_unknown_then (Ok value) = refl
still_unknown_then (Err broken) = refl

pub still_none : {A : Type 0} (result : Result A Broken) → None ≡ failed_after result None
still_none (Ok value) = refl
still_none (Err broken) = refl

pub still_idle_read : (result : Result Received Broken) → None ≡ idle_after_read result None
still_idle_read (Ok (Bytes n)) = refl
still_idle_read (Ok Nothing) = refl
still_idle_read (Ok End) = refl
still_idle_read (Err broken) = refl

pub still_idle_write : (result : Result ℕ Broken) → None ≡ idle_after_write result None
still_idle_write (Ok zero) = refl
still_idle_write (Ok (suc n)) = refl
still_idle_write (Err broken) = refl

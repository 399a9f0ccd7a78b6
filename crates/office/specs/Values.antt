-- The part of an office that contracts refer to: the connection of its store, and whether a fault closed it.
use Rattle.std.specs.Prelude.{Bool, refl}
use Rattle.std.specs.Coded.{Coded, code_by, coded×, coded_bool}
use Rattle.sqlite.specs.Held.{Held, held_code}

pub record OfficeValue (S : Type 0) : Type 0 where
  pub held : Held S
  pub closed : Bool

abbrev pub office_code : {S : Type 0} → Coded S → Coded (OfficeValue S)
office_code {S} store = code_by (Held S × Bool) (coded× (held_code store) coded_bool) (λ o. (o.held, o.closed)) (λ p. record { held = p.0; closed = p.1 }) (λ _. refl)

-- Proof that `keyings_are_by_clerks` meets its contract.
use Rattle.std.proofs.Common.{◌≡◌, ℕ, ◌∷◌, map, filter, Option, Some, None, refl, ap, ◌∙◌}
use Rattle.register.specs.declared.agreement.Clerks.{Clerks}
use Rattle.register.specs.Offices.{OfficeState, keying_of}
use Rattle.register.specs.Agreement.{is_keyed, of_three, third_listed, clerk_list, keying_by}
use Rattle.register.proofs.agreement.keyings_are_by_clerks.Goals as goal

-- the keyings of some clerks, one by one, are the keyings of all of them
each : (s : OfficeState) (batch round : ℕ) (c : Clerks)
    → of_three (keying_of s batch round c.first) (keying_of s batch round c.second) (keying_by s batch round c.third) ≡ filter is_keyed (map (keying_of s batch round) (clerk_list c))
each s batch round c = go c.third
  where
    go : (third : Option ℕ)
        → of_three (keying_of s batch round c.first) (keying_of s batch round c.second) (keying_by s batch round third)
        ≡ filter is_keyed (map (keying_of s batch round) (c.first ∷ c.second ∷ third_listed third))
    go None = refl
    go (Some clerk) = refl

pub returns : goal.returns
returns c s b round clerks are = each s b.number round clerks ∙ ap (λ cs. filter is_keyed (map (keying_of s b.number round) cs)) are

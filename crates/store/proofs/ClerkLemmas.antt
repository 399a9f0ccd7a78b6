-- The keyings read for a batch are those of its clerks.
use Rattle.std.proofs.Common.{◌≡◌, ℕ, List, ◌∷◌, map, filter, Option, Some, None, refl, ap, ◌∙◌}
use Rattle.register.specs.declared.agreement.Clerks.{Clerks}
use Rattle.register.specs.Offices.{BatchEntry, ThirdEntry, KeyedEntry, OfficeState, third_at, keying_of}
use Rattle.register.specs.Agreement.{is_keyed, of_three, clerks, third_listed, clerk_list, keyings_now}
use Rattle.store.specs.Keyings.{keying_for}

-- two or three keyings are those of the listed clerks
listed : (s : OfficeState) (batch round : ℕ) (c : Clerks)
    → of_three (keying_of s batch round c.first) (keying_of s batch round c.second) (keying_for s batch round c.third) ≡ filter is_keyed (map (keying_of s batch round) (clerk_list c))
listed s batch round c = go c.third
  where
    go : (third : Option ℕ)
        → of_three (keying_of s batch round c.first) (keying_of s batch round c.second) (keying_for s batch round third) ≡ filter is_keyed
        (map (keying_of s batch round) (c.first ∷ c.second ∷ third_listed third))
    go None = refl
    go (Some clerk) = refl

-- the keyings of three clerks, the third of whom may be missing, are those of the batch
pub keyings_read : (s : OfficeState) (b : BatchEntry) (third : Option ThirdEntry) (c : Clerks) (one two three : List KeyedEntry)
    → one ≡ keying_of s b.number b.round c.first → two ≡ keying_of s b.number b.round c.second → three ≡ keying_for s b.number b.round c.third
    → clerk_list c ≡ clerks b third → third ≡ third_at s b.number → of_three one two three ≡ keyings_now s b
keyings_read s b third c one two three is_first is_second is_third are same =
    let keying = keying_of s b.number b.round in
    ap (λ ks. of_three ks two three) is_first
    ∙ ap (λ ks. of_three (keying c.first) ks three) is_second
    ∙ ap (of_three (keying c.first) (keying c.second)) is_third
    ∙ listed s b.number b.round c
    ∙ ap (λ cs. filter is_keyed (map keying cs)) (are ∙ ap (clerks b) same)

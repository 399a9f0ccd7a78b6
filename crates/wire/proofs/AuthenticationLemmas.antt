-- Whose code a request needs, and whose code it carries.
use Rattle.std.proofs.Common.{◌≡◌, ◌<◌, ◌+◌, ◌∷◌, Bool, true, false, List, [], Some, arith, cond, get_or, length, refl, subst, suc, take, zero, ℕ}
use Rattle.std.specs.Prelude.{IsUtf8}
use Rattle.std.specs.Char.{is_ascii_digit}
use Rattle.std.specs.List.{list_all, prefix_len}
use Rattle.std.proofs.lemmas.Bool.{and_parts}
use Rattle.std.proofs.lemmas.Bool.Decides.{nat_tests}
use Rattle.wire.proofs.DigitLemmas.{digits-utf8}
use Rattle.wire.specs.Gates.{GateEntry, authentication_failure_by}
use Rattle.wire.specs.declared.account.Account.{Account}
use Rattle.wire.specs.declared.request_error.RequestError.TheVariants.{WrongCode}

-- ---- the code of an account

-- several values count as a wrong code
pub several-wrong : (gate : GateEntry) (account : Account) (values : List (List ℕ)) → 1 < length values → authentication_failure_by gate account values ≡ Some (WrongCode account)
several-wrong gate account [] many = absurd (omega (arith, many))
several-wrong gate account (value ∷ []) many = absurd (omega (arith, many))
several-wrong gate account (value ∷ other ∷ more) many = refl

prefix-digits : (xs : List ℕ) → list_all is_ascii_digit (take (prefix_len is_ascii_digit xs) xs) ≡ true
prefix-digits [] = refl
prefix-digits (x ∷ xs) = by (is_ascii_digit x) refl (prefix-digits xs)
  where
    by : (b : Bool) → is_ascii_digit x ≡ b → list_all is_ascii_digit (take (prefix_len is_ascii_digit xs) xs) ≡ true
        → list_all is_ascii_digit (take (cond b (1 + prefix_len is_ascii_digit xs) 0) (x ∷ xs)) ≡ true
    by true is rest =
        let one : suc (prefix_len is_ascii_digit xs) ≡ 1 + prefix_len is_ascii_digit xs = omega arith in
        subst (λ n. list_all is_ascii_digit (take n (x ∷ xs)) ≡ true) one (rw is rest)
    by false is rest = refl

-- the digits at the start of a list of bytes are valid text
pub digits-text : (behind : List ℕ) → IsUtf8 (take (prefix_len is_ascii_digit behind) behind)
digits-text behind =
    digits-utf8 (take (prefix_len is_ascii_digit behind) behind) (prefix-digits behind)

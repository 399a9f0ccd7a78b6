-- Fields that are written one after another.
use Rattle.std.proofs.Common.{◌≡◌, ◌∙◌, ◌++◌, ℕ, List, [], ap, append_assoc}

-- six pieces were appended to an empty text
pub six_written : (v0 v1 v2 v3 v4 v5 v6 a b c d e f : List ℕ) → v0 ≡ [] → v1 ≡ v0 ++ a → v2 ≡ v1 ++ b → v3 ≡ v2 ++ c → v4 ≡ v3 ++ d → v5 ≡ v4 ++ e → v6 ≡ v5 ++ f
    → v6 ≡ a ++ (b ++ (c ++ (d ++ (e ++ f))))
six_written v0 v1 v2 v3 v4 v5 v6 a b c d e f p0 p1 p2 p3 p4 p5 p6 =
    let w1 : v1 ≡ a = p1 ∙ ap (λ (x : List ℕ). x ++ a) p0 in
    let w5 : v5 ≡ (((v1 ++ b) ++ c) ++ d) ++ e = p5 ∙ ap (λ (x : List ℕ). x ++ e) (p4 ∙ ap (λ (x : List ℕ). x ++ d) (p3 ∙ ap (λ (x : List ℕ). x ++ c) p2)) in
    p6 ∙ ap (λ (x : List ℕ). x ++ f) w5 ∙ append_assoc (((v1 ++ b) ++ c) ++ d) e f ∙ append_assoc ((v1 ++ b) ++ c) d (e ++ f) ∙ append_assoc (v1 ++ b) c (d ++ (e ++ f))
    ∙ append_assoc v1 b (c ++ (d ++ (e ++ f))) ∙ ap (λ (x : List ℕ). x ++ (b ++ (c ++ (d ++ (e ++ f))))) w1

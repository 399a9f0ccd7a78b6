-- The inputs of commands, field by field.
use Rattle.std.proofs.Common.{◌≡◌, ap, ◌∙◌}
use Rattle.register.specs.CommandInputs.{CommandInputEntries}

-- inputs with the same fields are equal
pub same_part : (x y : CommandInputEntries) → x.ward ≡ y.ward → x.candidate ≡ y.candidate → x.candidates ≡ y.candidates → x.batch ≡ y.batch → x.third ≡ y.third
    → x.own ≡ y.own → x.keyings ≡ y.keyings → x.verdict ≡ y.verdict → x.poll ≡ y.poll → x.due ≡ y.due → x.elected ≡ y.elected → x ≡ y
same_part x y ward candidate candidates batch third own keyings verdict poll due elected =
    ap (λ v. record x { ward = v }) ward
    ∙ ap (λ v. record x { ward = y.ward; candidate = v }) candidate
    ∙ ap (λ v. record x { ward = y.ward; candidate = y.candidate; candidates = v }) candidates
    ∙ ap (λ v. record x { ward = y.ward; candidate = y.candidate; candidates = y.candidates; batch = v }) batch
    ∙ ap (λ v. record x { ward = y.ward; candidate = y.candidate; candidates = y.candidates; batch = y.batch; third = v }) third
    ∙ ap (λ v. record y { own = v; keyings = x.keyings; verdict = x.verdict; poll = x.poll; due = x.due; elected = x.elected }) own
    ∙ ap (λ v. record y { keyings = v; verdict = x.verdict; poll = x.poll; due = x.due; elected = x.elected }) keyings
    ∙ ap (λ v. record y { verdict = v; poll = x.poll; due = x.due; elected = x.elected }) verdict
    ∙ ap (λ v. record y { poll = v; due = x.due; elected = x.elected }) poll
    ∙ ap (λ v. record y { due = v; elected = x.elected }) due
    ∙ ap (λ v. record y { elected = v }) elected

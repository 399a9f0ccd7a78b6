-- Proof that `push_ward` meets its contract.
use Rattle.std.proofs.Common.{◌≡◌, ◌∙◌, ◌++◌, [], ◌∷◌, ap, map, true}
use Rattle.register.specs.Elections.{is_counted}
use Rattle.publication.specs.Election.{WardEntry}
use Rattle.desk.specs.Publications.{sealed_entry}
use Rattle.desk.proofs.PublishLemmas.{reads_last}
use Rattle.desk.proofs.publishing.push_ward.Goals as goal

pub returns : goal.returns
returns g c =
    let before = map sealed_entry c.args.wards.now.items in
    let sealed : is_counted c.args.overview.now.ward.phase ≡ true = cc in
    reads_last c.keep_ward.result c.in_ok-ward.ensures c.keep_ward.ensures.err c.keep_ward.ensures.ok
    (λ (kept : map sealed_entry c.keep_ward.new.wards.items ≡ before ++ sealed_entry c.in_ok-ward.ward ∷ []) y s is told. λ state there.
    rw sealed (kept ∙ ap (λ (e : WardEntry). before ++ e ∷ []) (told state there sealed)))

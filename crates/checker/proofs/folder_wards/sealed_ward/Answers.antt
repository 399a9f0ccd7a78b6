-- Proof that `sealed_ward` meets its contract.
use Rattle.std.proofs.Common.{◌≡◌, rules, true}
use Rattle.std.specs.Prelude.{bytes_eq, option_copied, string_bytes}
use Rattle.checker.specs.Values.{ballots_of}
use Rattle.checker.proofs.FolderLemmas.{made_from, ward_made}
use Rattle.checker.proofs.NumberLaws.{pointwise_same}
use Rattle.checker.proofs.folder_wards.sealed_ward.Goals as goal

pub returns-then-are_bytes-clause-ok : goal.returns-then-are_bytes-clause-ok
returns-then-are_bytes-clause-ok c =
    let made = c.in_ok-made.made in
    let same : bytes_eq (string_bytes made.texts.ballots) c.args.ballots.now ≡ true = search rules in
    ward_made c.args.title.now c.args.ballots.now c.args.progress.is_declared (option_copied c.args.progress.sheet) (ballots_of c.in-Ok.told) made c.in-Ok.ensures.ok
    c.in_ok-made.ensures.ok (pointwise_same (string_bytes made.texts.ballots) c.args.ballots.now same)

pub returns-then-are_bytes-clause-again : goal.returns-then-are_bytes-clause-again
returns-then-are_bytes-clause-again c = λ ward from.
    made_from c.args.title.now c.args.ballots.now c.args.progress.is_declared (option_copied c.args.progress.sheet) (ballots_of c.in-Ok.told) c.in_ok-made.made ward c.in-Ok.ensures.ok
    c.in_ok-made.ensures.ok from

-- Proof that `behind` meets its contract.
use denote.Ref.{Bor}
use Rattle.std.proofs.Common.{◌≡◌, List, ℕ, Option, Some, None}
use Rattle.std.specs.Prelude.{MatchOption, option_map}
use Rattle.std.specs.Str.Pattern.{FindsTextPrefix, StripsPrefix}
use Rattle.desk.specs.Verdicts.{behind}
use Rattle.count_office.proofs.RemarkLemmas.{stripped_is_behind}
use Rattle.count_office.proofs.remark_words.behind.Goals as goal

pub returns : goal.returns
returns c = by c.strip_prefix.result c.strip_prefix.ensures.cases
  where
    by : (r : Option (Bor (List ℕ))) → MatchOption r (FindsTextPrefix c.args.front.now c.args.text.now None) (λ x. StripsPrefix (FindsTextPrefix c.args.front.now) c.args.text.now x.now)
        → option_map (λ t. t.now) r ≡ behind c.args.front.now c.args.text.now
    by None lacks = stripped_is_behind c.args.front.now c.args.text.now None lacks
    by (Some x) strips = stripped_is_behind c.args.front.now c.args.text.now (Some x.now) strips

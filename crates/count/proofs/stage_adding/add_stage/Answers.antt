-- Parts of the proof of `add_stage` that are done by hand.
use Rattle.std.proofs.Common.{rules, ◌≡◌, ◌∙◌, ℕ, not, nat_eq, List, [], ◌∷◌, ◌++◌, length, get_or, reverse, ap, sym, subst}
use Rattle.std.specs.List.{list_any, filter}
use Rattle.std.proofs.Math.ListN.{set}
use Rattle.std.proofs.Math.Seq.{get_or-append_seam}
use Rattle.count.specs.Law.Contest.{Contest}
use Rattle.count.specs.Law.Elected.{elected_after}
use Rattle.count.specs.Books.{contest_of}
use Rattle.count.specs.Inside.BookInvariants.{with_newly_elected, IsAdded}
use Rattle.count.specs.declared.stages.Stage.{Stage}
use Rattle.count.proofs.RecordLemmas.{added}
use Rattle.count.proofs.stage_adding.add_stage.Goals as goal

pub returns : goal.returns
returns c =
    let K : Contest = contest_of c.args.terms.now [] in
    let old : List Stage = c.args.stages.now.items in
    let bare : Stage = c.args.bare in
    let pushed : c.push.new.self.items ≡ old ++ bare ∷ [] = search rules in
    let at : c.len-newest.result ≡ length old = search rules in
    let here : c.index_mut.result.now ≡ bare =
    c.index_mut.ensures.value
    ∙ ap (λ (n : ℕ). get_or c.push.new.self.items n c.index_mut.result.now) at
    ∙ ap (λ (l : List Stage). get_or l (length old) c.index_mut.result.now) pushed
    ∙ get_or-append_seam old bare [] c.index_mut.result.now in
    let before : c.elected-before.result ≡ elected_after K (reverse old) = c.elected-before.ensures ∙ ap (λ (l : List Stage). elected_after K (reverse l)) c.deref.ensures.value in
    let after : c.elected-after.result ≡ elected_after K (reverse c.push.new.self.items) = c.elected-after.ensures ∙ ap (λ (l : List Stage). elected_after K (reverse l)) c.deref-2.ensures.value in
    let newly : c.without.result ≡ filter (λ x. not (list_any (nat_eq x) (elected_after K (reverse old)))) (elected_after K (reverse c.push.new.self.items)) =
    c.without.ensures
    ∙ ap (λ (others : List ℕ). filter (λ x. not (list_any (nat_eq x) others)) c.elected-after.result) before
    ∙ ap (filter (λ x. not (list_any (nat_eq x) (elected_after K (reverse old))))) after in
    let done : IsAdded c.args.terms.now (reverse old) bare (reverse (set c.push.new.self.items (length old) (with_newly_elected bare c.without.result))) =
    added c.args.terms.now old c.push.new.self.items bare c.without.result pushed newly in
    subst (λ (n : ℕ). IsAdded c.args.terms.now (reverse old) bare (reverse (set c.push.new.self.items n (with_newly_elected c.index_mut.result.now c.without.result)))) (sym at)
    (subst (λ (s : Stage). IsAdded c.args.terms.now (reverse old) bare (reverse (set c.push.new.self.items (length old) (with_newly_elected s c.without.result)))) (sym here) done)

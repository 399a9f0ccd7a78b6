-- Recording a stage.
use Rattle.std.proofs.Common.{◌≡◌, ℕ, ◌+◌, not, nat_eq, List, [], ◌∷◌, ◌++◌, length, set, map, reverse, ap, ◌∙◌}
use Rattle.std.specs.List.{list_any, filter}
use Rattle.std.proofs.Math.Seq.{set-append_seam}
use Rattle.count.specs.Law.Contest.{Contest, History, numbers}
use Rattle.count.specs.Law.Elected.{elected_after, is_elected}
use Rattle.count.specs.Inside.Holdings.{votes_with, worth_to, newest_non_transferable, lost_with}
use Rattle.count.specs.Books.{contest_of}
use Rattle.count.specs.Inside.BookInvariants.{with_newly_elected, IsAdded, Records}
use Rattle.count.specs.declared.terms.Terms.{Terms}
use Rattle.count.specs.declared.parcel.Holding.{Holding}
use Rattle.count.specs.declared.stages.Action.{Action}
use Rattle.count.specs.declared.stages.Stage.{Stage}
use Rattle.count.proofs.ColumnLemmas.{reverse-newest}
use Rattle.count.proofs.Law.NewlyLemmas.{newly-elected}

last_set : (old pushed : List Stage) (bare full : Stage) → pushed ≡ old ++ bare ∷ [] → reverse (set pushed (length old) full) ≡ full ∷ reverse old
last_set old pushed bare full is =
    reverse-newest (set pushed (length old) full) old full (ap (λ (l : List Stage). set l (length old) full) is ∙ set-append_seam old bare [] full)

-- a bare stage is appended, and then its newly elected candidates are filled in
pub added : (terms : Terms) (old pushed : List Stage) (bare : Stage) (newly : List ℕ) → pushed ≡ old ++ bare ∷ [] →
    newly ≡ filter (λ c. not (list_any (nat_eq c) (elected_after (contest_of terms []) (reverse old)))) (elected_after (contest_of terms []) (reverse pushed)) →
    IsAdded terms (reverse old) bare (reverse (set pushed (length old) (with_newly_elected bare newly)))
added terms old pushed bare newly is elected =
    let K : Contest = contest_of terms [] in
    record {
      newly = newly;
      one_more = last_set old pushed bare (with_newly_elected bare newly) is;
      newly_is =
          elected
          ∙ newly-elected K (reverse old) (reverse pushed)
          ∙ ap (λ (after : History). filter (λ c. not (is_elected K (reverse old) c)) (elected_after K after)) (reverse-newest pushed old bare is);
    }

-- the result of an action is recorded
pub recorded : (terms : Terms) (old new : History) (action : Action) (moved : List Holding) (bare : Stage) → IsAdded terms old bare new →
    bare.action ≡ action → bare.votes ≡ map (votes_with terms.quota old action moved) numbers →
    bare.non_transferable ≡ newest_non_transferable old + worth_to 0 moved → bare.lost ≡ lost_with terms.quota old action moved → Records terms old action moved new
recorded terms old new action moved bare is_added of votes nt lost = record {
  stage = with_newly_elected bare is_added.newly;
  one_more = is_added.one_more;
  of_action = of;
  votes_are = votes;
  elected_are = is_added.newly_is;
  non_transferable_is = nt;
  lost_is = lost;
}

-- An election whose papers are collected in bundles has the same poll and the same count.
use Rattle.std.proofs.Common.{◌≡◌, ℕ, Bool, List, length, refl, sym, subst, ap, ◌∙◌}
use Rattle.votes.specs.Units.{quota_of}
use Rattle.count.specs.Bundles.{Bundle, papers_of, bundled}
use Rattle.count.specs.Law.Contest.{Contest, contest_for, IsContest}
use Rattle.count.specs.Law.Due.{due_after}
use Rattle.count.specs.Law.Count.{stages_to}
use Rattle.count.specs.Law.Right.{reordered}
use Rattle.count.proofs.OrderLemmas.{bundled-length, contest-bundled, contest-reordered, stages-bundled}
use Rattle.register.specs.Marks.{columns_of}
use Rattle.register.specs.Polls.{PollEntry, poll_of}
use Rattle.register.specs.Elections.{ElectionEntry, contest_of}

-- the poll computed from bundles is the poll of their papers
pub poll-alike : (e : ElectionEntry) (valid seats quota : ℕ) (bundles : List Bundle) (rejected : List ℕ) (settled : Bool) → bundles ≡ bundled e.ballots.papers → valid ≡ length (papers_of bundles) →
    rejected ≡ e.ballots.rejected → settled ≡ e.ballots.settled → seats ≡ e.ward.seats → quota ≡ quota_of valid seats →
    (let told : PollEntry = record { valid = valid; rejected = rejected; quota = quota; settled = settled } in told) ≡ poll_of e.ward.seats e.ballots
poll-alike e valid seats quota bundles rejected settled held number were was sat least =
    let papers : valid ≡ length e.ballots.papers = number ∙ ap (λ bs. length (papers_of bs)) held ∙ bundled-length e.ballots.papers in
    let limit : quota ≡ quota_of (length e.ballots.papers) e.ward.seats = least ∙ ap (λ n. quota_of n seats) papers ∙ ap (quota_of (length e.ballots.papers)) sat in
    same valid (length e.ballots.papers) rejected e.ballots.rejected quota (quota_of (length e.ballots.papers) e.ward.seats) settled e.ballots.settled papers were limit was
  where
    same : (v w : ℕ) (r s : List ℕ) (q p : ℕ) (t u : Bool) → v ≡ w → r ≡ s → q ≡ p → t ≡ u →
        (let one : PollEntry = record { valid = v; rejected = r; quota = q; settled = t } in one) ≡ record { valid = w; rejected = s; quota = p; settled = u }
    same v w r s q p t u a b c d = rw (a, b, c, d) refl

-- The contest with the papers that an election's bundles contain.
module _ (e : ElectionEntry) (candidates : List ℕ) (seats : ℕ) (bundles : List Bundle) (columns : candidates ≡ columns_of e.candidates) (sat : seats ≡ e.ward.seats)
    (held : bundles ≡ bundled e.ballots.papers) where
  -- the contest with these papers
  on_bundles : contest_for candidates seats (papers_of bundles) ≡ contest_for (columns_of e.candidates) e.ward.seats (papers_of (bundled e.ballots.papers))
  on_bundles = rw (columns, sat, held) refl

  -- the contest with the bundles can be held if the contest with the papers can
  pub fair-alike : IsContest (contest_of e) → IsContest (contest_for candidates seats (papers_of bundles))
  fair-alike fair = subst IsContest (sym on_bundles) (contest-bundled (columns_of e.candidates) e.ward.seats e.ballots.papers fair)

  module _ (lots : List (ℕ × ℕ)) (drawn : lots ≡ e.lots) (contest : Contest) (on : contest ≡ contest_for candidates seats (papers_of bundles)) where
    pub other_order : contest ≡ reordered (contest_of e) (papers_of (bundled e.ballots.papers))
    other_order = on ∙ on_bundles ∙ sym (contest-reordered (columns_of e.candidates) e.ward.seats e.ballots.papers)

    -- the contest with the bundles has the same stages
    pub stages-alike : (k : ℕ) → stages_to contest lots k ≡ stages_to (contest_of e) e.lots k
    stages-alike k =
        ap (λ (c : Contest). stages_to c lots k) (on ∙ on_bundles)
        ∙ ap (λ ls. stages_to (contest_for (columns_of e.candidates) e.ward.seats (papers_of (bundled e.ballots.papers))) ls k) drawn
        ∙ stages-bundled (columns_of e.candidates) e.ward.seats e.ballots.papers e.lots k

    -- what is due after each stage is the same
    pub due-alike : (k : ℕ) → due_after contest (stages_to contest lots k) ≡ due_after (contest_of e) (stages_to (contest_of e) e.lots k)
    due-alike k = ap (λ (c : Contest). due_after c (stages_to contest lots k)) other_order ∙ ap (due_after (contest_of e)) (stages-alike k)

-- A stored count is a count of the papers of its bundles.
use Rattle.std.proofs.Common.{◌≡◌, ℕ, ◌+◌, ◌*◌, ◌≤◌, List, [], ◌∷◌, length, map, reverse, Some, refl, sym, ap, ◌∙◌, arith, subst}
use Rattle.std.specs.List.{AllByRecursion}
use Rattle.std.specs.List.Sorted.{IsPermutation}
use Rattle.std.proofs.lemmas.List.{length-reverse, reverse-reverse}
use Rattle.std.proofs.lemmas.List.Sorted.{IsPermutation-sym}
use Rattle.votes.specs.Units.{one_vote, quota_of}
use Rattle.count.specs.Books.{contest_of, placed}
use Rattle.count.specs.Bundles.{Bundle, papers_of, bundled, AreBundles}
use Rattle.count.specs.Advance.{Adds}
use Rattle.count.specs.StoredCounts.{StoredCountEntry, IsStoredCountOf, places_after}
use Rattle.count.specs.Law.Contest.{Contest, History, IsContest, contest_for}
use Rattle.count.specs.Law.Count.{stage_of, with_stage, with_next}
use Rattle.count.specs.Law.Due.{next_action, lot_for}
use Rattle.count.specs.Law.Laws.{IsConserved}
use Rattle.count.specs.Law.Places.{place}
use Rattle.count.specs.Law.Right.{IsRightForSome, reordered}
use Rattle.count.specs.Inside.Holdings.{newest_lost}
use Rattle.count.specs.Inside.Placing.{contest_on, IsBundled, IsDueInBook, IsSound, nowhere}
use Rattle.count.specs.Inside.Resuming.{IsInRange}
use Rattle.count.specs.declared.placed.Placed.{Placed}
use Rattle.count.specs.declared.stages.Action.{Action}
use Rattle.count.specs.declared.stages.Stage.{Stage}
use Rattle.count.specs.declared.terms.Terms.{Terms}
use Rattle.count.proofs.BundleBookLemmas.{some-own, bundled-conserved, bundled-short, book-sound}
use Rattle.count.proofs.OrderLemmas.{bundled-length, bundled-permutation, contest-bundled}
use Rattle.count.proofs.Law.CountLemmas.{next_reordered}
use Rattle.count.proofs.Law.RightLemmas.{is_told, same_place, right_reordered}

-- the contest with the papers of the bundles
on_bundles : Contest → List Bundle → Contest
on_bundles contest bundles = reordered contest (papers_of bundles)

fair-on : (contest : Contest) (bundles : List Bundle) → IsContest contest → bundles ≡ bundled contest.papers → IsContest (reordered contest (papers_of bundles))
fair-on contest bundles fair are =
    let same : contest ≡ contest_for contest.candidates contest.seats contest.papers =
    ap (λ q. let it : Contest = record { candidates = contest.candidates; seats = contest.seats; quota = q; papers = contest.papers } in it) fair.quota_is in
    let told = contest-bundled contest.candidates contest.seats contest.papers (subst IsContest same fair) in
    subst (λ bs. IsContest (reordered contest (papers_of bs))) (sym are) (record {
      candidate_set = fair.candidate_set;
      some_seats = fair.some_seats;
      few_seats = fair.few_seats;
      contested = fair.contested;
      few_papers = told.few_papers;
      for_candidates = told.for_candidates;
      quota_is = fair.quota_is ∙ ap (λ n. quota_of n contest.seats) (sym (bundled-length contest.papers));
    })

for-on : (contest : Contest) (candidates : List ℕ) (seats : ℕ) (bundles : List Bundle) → IsContest contest → candidates ≡ contest.candidates → seats ≡ contest.seats →
    bundles ≡ bundled contest.papers →
    contest_for candidates seats (papers_of bundles) ≡ reordered contest (papers_of bundles)
for-on contest candidates seats bundles fair candidates_are seats_are are =
    let quota_same : quota_of (length (papers_of bundles)) contest.seats ≡ contest.quota =
    ap (λ (bs : List Bundle). quota_of (length (papers_of bs)) contest.seats) are ∙ ap (λ n. quota_of n contest.seats) (bundled-length contest.papers) ∙ sym fair.quota_is in
    ap (λ cs. contest_for cs seats (papers_of bundles)) candidates_are
    ∙ ap (λ s. contest_for contest.candidates s (papers_of bundles)) seats_are
    ∙ ap (λ q. let it : Contest = record { candidates = contest.candidates; seats = contest.seats; quota = q; papers = papers_of bundles } in it) quota_same

-- the stored data as fields
abbrev pub kept_of : Terms → List Bundle → List Placed → List Stage → StoredCountEntry
kept_of terms bundles places stages = record { candidates = terms.candidates; seats = terms.seats; bundles = bundles; places = places; stages = stages }

-- the terms are those of the contest
pub kept-terms : (contest : Contest) (history : History) (terms : Terms) (bundles : List Bundle) (places : List Placed) (stages : List Stage) → IsInRange terms bundles places stages →
    IsStoredCountOf contest history (kept_of terms bundles places stages) →
    contest_on terms bundles ≡ reordered contest (papers_of bundles)
kept-terms contest history terms bundles places stages range kept =
    let same = for-on contest terms.candidates terms.seats bundles kept.fair kept.candidates_are kept.seats_are kept.bundles_are in
    range.quota_is (subst IsContest (sym same) (fair-on contest bundles kept.fair kept.bundles_are)) ∙ same

-- what the terms and stages of a stored count determine for any papers is the same for its contest
pub kept-tells : {X : Type 0} (tell : Contest → History → X) (x : X) (terms : Terms) (bundles : List Bundle) (places : List Placed) (stages lent : List Stage)
    (seen : StoredCountEntry) (contest : Contest) (history : History) →
    kept_of terms bundles places stages ≡ seen → lent ≡ stages → IsInRange terms bundles places stages → ((papers : List (List ℕ)) → x ≡ tell (contest_of terms papers) (reverse lent))
    → IsStoredCountOf contest history seen → x ≡ tell contest history
kept-tells tell x terms bundles places stages lent seen contest history view same range told kept =
    let own : IsStoredCountOf contest history (kept_of terms bundles places stages) = subst (IsStoredCountOf contest history) (sym view) kept in
    let stages_are : reverse lent ≡ history = ap reverse (same ∙ own.stages_are) ∙ reverse-reverse history in
    told contest.papers
    ∙ ap (λ (k : Contest). tell (reordered k contest.papers) (reverse lent)) (kept-terms contest history terms bundles places stages range own)
    ∙ ap (tell contest) stages_are

places-same : (contest : Contest) (papers : List (List ℕ)) (history : History) (bundles : List Bundle) → places_after (reordered contest papers) history bundles ≡ places_after contest history bundles
places-same contest papers history [] = refl
places-same contest papers history (b ∷ bs) =
    ap (λ at. placed at ∷ places_after (reordered contest papers) history bs) (same_place contest papers history b.0)
    ∙ ap (λ l. placed (place contest history b.0) ∷ l) (places-same contest papers history bs)

right-on : (contest : Contest) (history : History) (bundles : List Bundle) → bundles ≡ bundled contest.papers → IsRightForSome contest history →
    IsRightForSome (reordered contest (papers_of bundles)) history
right-on contest history bundles are right =
    let order : IsPermutation (papers_of bundles) contest.papers =
    subst (λ (bs : List Bundle). IsPermutation (papers_of bs) contest.papers) (sym are) (IsPermutation-sym contest.papers (papers_of (bundled contest.papers)) (bundled-permutation contest.papers)) in
    record { lots = right.lots; right = right_reordered (reordered contest (papers_of bundles)) right.lots contest.papers history order right.right }

-- a stored count is a book on the papers of its bundles
pub kept-bundled : (contest : Contest) (history : History) (kept : StoredCountEntry) → AreBundles kept.bundles → IsStoredCountOf contest history kept →
    IsBundled (reordered contest (papers_of kept.bundles)) history kept.bundles kept.places
kept-bundled contest history kept bundles is =
    let on : Contest = reordered contest (papers_of kept.bundles) in
    record {
      fair = fair-on contest kept.bundles is.fair is.bundles_are;
      right = some-own on history (right-on contest history kept.bundles is.bundles_are is.right);
      bundles_are = bundles;
      papers_are = refl;
      places_are = is.places_are ∙ sym (places-same contest (papers_of kept.bundles) history kept.bundles);
    }

-- so it is in range for a count:
pub kept-sound : (contest : Contest) (history : History) (kept : StoredCountEntry) → AreBundles kept.bundles → IsStoredCountOf contest history kept → AllByRecursion IsSound kept.places
kept-sound contest history kept bundles is =
    book-sound (reordered contest (papers_of kept.bundles)) history kept.bundles kept.places (kept-bundled contest history kept bundles is)

pub kept-short : (contest : Contest) (history : History) (kept : StoredCountEntry) → AreBundles kept.bundles → IsStoredCountOf contest history kept → length kept.stages ≤ length kept.candidates + 1
kept-short contest history kept bundles is =
    let short = bundled-short (reordered contest (papers_of kept.bundles)) history kept.bundles kept.places (kept-bundled contest history kept bundles is) in
    omega (arith, short, ap length is.stages_are, length-reverse history, ap length is.candidates_are)

lost-within : (contest : Contest) (history : History) → IsConserved contest history → newest_lost history ≤ one_vote * length contest.papers
lost-within contest [] conserved = omega arith
lost-within contest (s ∷ before) conserved = omega (arith, conserved.0)

pub kept-lost : (contest : Contest) (history : History) (kept : StoredCountEntry) → AreBundles kept.bundles → IsStoredCountOf contest history kept →
    newest_lost (reverse kept.stages) ≤ one_vote * length (papers_of kept.bundles)
kept-lost contest history kept bundles is =
    let on : Contest = reordered contest (papers_of kept.bundles) in
    let within = lost-within on history (bundled-conserved on history kept.bundles kept.places (kept-bundled contest history kept bundles is)) in
    let same = ap (λ (l : List Stage). newest_lost (reverse l)) is.stages_are ∙ ap newest_lost (reverse-reverse history) in
    omega (arith, within, same)

-- places without a holder are sound
pub sound-nowhere : (bundles : List Bundle) → AllByRecursion IsSound (map (λ (b : Bundle). nowhere) bundles)
sound-nowhere [] = tt
sound-nowhere (b ∷ bs) = ((omega arith, omega arith), sound-nowhere bs)

-- terms built for candidates and seats are in range
pub own-terms : (candidates : List ℕ) (seats : ℕ) (terms : Terms) (bundles : List Bundle) → terms.candidates ≡ candidates → terms.seats ≡ seats →
    (IsContest (contest_for candidates seats (papers_of bundles)) → contest_on terms bundles ≡ contest_for candidates seats (papers_of bundles)) →
    IsContest (contest_for terms.candidates terms.seats (papers_of bundles)) → contest_on terms bundles ≡ contest_for terms.candidates terms.seats (papers_of bundles)
own-terms candidates seats terms bundles candidates_are seats_are told fair =
    let same : contest_for terms.candidates terms.seats (papers_of bundles) ≡ contest_for candidates seats (papers_of bundles) =
    ap (λ cs. contest_for cs terms.seats (papers_of bundles)) candidates_are ∙ ap (λ s. contest_for candidates s (papers_of bundles)) seats_are in
    told (subst IsContest same fair) ∙ sym same

-- a count before its first stage is a stored count
pub kept-first : (contest : Contest) (kept : StoredCountEntry) → IsContest contest → kept.candidates ≡ contest.candidates → kept.seats ≡ contest.seats → kept.bundles ≡ bundled contest.papers →
    kept.places ≡ map (λ (b : Bundle). nowhere) kept.bundles → kept.stages ≡ [] → IsStoredCountOf contest [] kept
kept-first contest kept fair candidates_are seats_are bundles_are places_are stages_are =
    record {
      fair = fair;
      right = record { lots = []; right = tt };
      candidates_are = candidates_are;
      seats_are = seats_are;
      bundles_are = bundles_are;
      places_are = places_are;
      stages_are = stages_are;
    }

-- the outcome of the next action on a stored count is the next step of its contest
pub kept-next : (contest : Contest) (history : History) (lots : List (ℕ × ℕ)) (terms : Terms) (bundles : List Bundle) (places new_places : List Placed)
    (stages new_stages : List Stage) (action : Action) →
    IsInRange terms bundles places stages → IsStoredCountOf contest history (kept_of terms bundles places stages) →
    ((papers : List (List ℕ)) → Some action ≡ next_action (contest_of terms papers) lots (reverse stages)) →
    (IsDueInBook (contest_on terms bundles) (reverse stages) bundles places action → new_places ≡ places_after (contest_on terms bundles) (reverse new_stages) bundles) →
    (IsDueInBook (contest_on terms bundles) (reverse stages) bundles places action → Adds (contest_on terms bundles) (reverse stages) action (reverse new_stages)) →
    (new_places ≡ places_after contest (with_next contest lots history) bundles) × (new_stages ≡ reverse (with_next contest lots history))
kept-next contest history lots terms bundles places new_places stages new_stages action range kept comes moved acted =
    let before : History = reverse stages in
    let papers : List (List ℕ) = papers_of bundles in
    let on : Contest = contest_on terms bundles in
    let next : History = with_next contest lots history in
    let same : on ≡ reordered contest papers = kept-terms contest history terms bundles places stages range kept in
    let stages_are : before ≡ history = ap reverse kept.stages_are ∙ reverse-reverse history in
    let book : IsBundled on before bundles places = subst (λ (k : Contest). IsBundled k before bundles places) (sym same)
    (subst (λ (h : History). IsBundled (reordered contest papers) h bundles places) (sym stages_are) (kept-bundled contest history (kept_of terms bundles places stages) range.bundles_are kept)) in
    let due : IsDueInBook on before bundles places action = record { book = book; due = record { lot = lot_for lots (length before + 1); is = sym (comes papers) } } in
    let adds = acted due in
    let order : IsPermutation contest.papers papers = subst (λ (bs : List Bundle). IsPermutation contest.papers (papers_of bs)) (sym kept.bundles_are) (bundled-permutation contest.papers) in
    let longer : reverse new_stages ≡ next =
    adds.one_more
    ∙ ap (λ (s : Stage). s ∷ before) (is_told on before adds.stage adds.tells)
    ∙ ap (λ (a : Action). stage_of on before a ∷ before) adds.of_action
    ∙ ap (with_stage on before) (comes papers)
    ∙ ap (λ (k : Contest). with_next k lots before) same
    ∙ ap (with_next (reordered contest papers) lots) stages_are
    ∙ next_reordered contest papers history (next_action contest lots history) order in (
      moved due
          ∙ ap (λ (h : History). places_after on h bundles) longer
          ∙ ap (λ (k : Contest). places_after k next bundles) same
          ∙ places-same contest papers next bundles,
      sym (reverse-reverse new_stages) ∙ ap reverse longer,
    )

-- Proof that `count_done` meets its contract.
use Rattle.std.proofs.Common.{◌≡◌, ◌+◌, ◌==◌, map, reverse, length, ap, subst, sym, ◌∙◌, eqb-true}
use Rattle.std.specs.List.{range_with_len}
use Rattle.std.proofs.lemmas.Bool.{and_parts}
use Rattle.std.proofs.lemmas.List.{length-reverse}
use Rattle.count.specs.Law.Contest.{Contest, History}
use Rattle.count.specs.Law.Due.{due_after}
use Rattle.count.specs.Law.Count.{stages_to}
use Rattle.count.specs.Law.Laws.{IsShort}
use Rattle.register.specs.Offices.{WardEntry, ward_entry}
use Rattle.register.specs.Elections.{ElectionEntry, contest_of}
use Rattle.rowcheck.specs.Walks.Counts.{IsOnBundlesOf}
use Rattle.rowcheck.proofs.StagesDoneLemmas.{map-alike, count-same, count-order, count-stages, count-due, told_right, told_stages}
use Rattle.rowcheck.proofs.counts.count_done.Goals as goal

-- the stages of the book are those of the election, and within the limit
counted : (c : goal.After-drop-dues) (e : ElectionEntry) → IsOnBundlesOf e (ward_entry c.args.ward.now) c.args.lots.now c.args.book.now.contest
    → reverse c.stages.result.now ≡ stages_to (contest_of e) e.lots c.stages_asked-asked.result
counted c e of = c.stages.ensures.is ∙ c.in_ok-dues.ensures.counted ∙ count-stages e (ward_entry c.args.ward.now) c.args.lots.now c.args.book.now.contest of c.stages_asked-asked.result

short : (c : goal.After-drop-dues) (e : ElectionEntry) → IsOnBundlesOf e (ward_entry c.args.ward.now) c.args.lots.now c.args.book.now.contest → IsShort (contest_of e) (reverse c.stages.result.now)
short c e of =
    subst (λ (k : Contest). IsShort k (reverse c.stages.result.now)) (c.in_ok-dues.ensures.same ∙ count-order e (ward_entry c.args.ward.now) c.args.lots.now c.args.book.now.contest of)
    (subst (λ (h : History). IsShort c.dues_to.new.book.contest h) (sym c.stages.ensures.is) c.stages.ensures.short)

pub returns-clause-is : goal.returns-clause-is
returns-clause-is c e of =
    let ward = ward_entry c.args.ward.now in
    let x : ElectionEntry = record { ward = ward; candidates = e.candidates; ballots = e.ballots; lots = c.args.lots.now } in
    let same : x ≡ e = count-same e ward c.args.lots.now c.args.book.now.contest of in
    let on_x : IsOnBundlesOf x ward c.args.lots.now c.args.book.now.contest = subst (λ (y : ElectionEntry). IsOnBundlesOf y ward c.args.lots.now c.args.book.now.contest) (sym same) of in
    let each : c.in_ok-dues.dues.items ≡ map (λ k. due_after (contest_of x) (stages_to (contest_of x) c.args.lots.now k)) (range_with_len 0 (c.stages_asked-asked.result + 1)) =
    c.in_ok-dues.ensures.is
    ∙ map-alike (λ k. due_after c.args.book.now.contest (stages_to c.args.book.now.contest c.args.lots.now k)) (λ k. due_after (contest_of x) (stages_to (contest_of x) c.args.lots.now k))
    (range_with_len 0 (c.stages_asked-asked.result + 1))
    (count-due x ward c.args.lots.now c.args.book.now.contest on_x) in
    (rw (sym same, sym (length-reverse c.stages.result.now), c.are_drawn_by-drawn.ensures, c.is_finished_at-finished.ensures, c.is_declared.ensures, c.deref.ensures.value, c.deref-2.ensures.value)
    (told_right x c.stages_asked-asked.result (reverse c.stages.result.now) c.in_ok-dues.dues.items on_x.fair
    (counted c x on_x) c.stages_asked-asked.ensures.few c.stages_asked-asked.ensures.many (short c x on_x) each))

pub returns-clause-counted : goal.returns-clause-counted
returns-clause-counted c e of right =
    let done : c.args.ward.now.done ≡ e.ward.done = ap (λ (w : WardEntry). w.done) of.ward_is in
    let all : length c.stages.result.now ≡ c.args.ward.now.done =
    eqb-true (length c.stages.result.now) c.args.ward.now.done (and_parts (length c.stages.result.now == c.args.ward.now.done) _ right).0
    in
    sym c.stages.ensures.is
    ∙ told_stages e c.stages_asked-asked.result (reverse c.stages.result.now) c.in_ok-dues.dues.items of.fair (counted c e of) (λ few. c.stages_asked-asked.ensures.few (rw done few) ∙ done)
    (short c e of) (length-reverse c.stages.result.now ∙ all ∙ done)

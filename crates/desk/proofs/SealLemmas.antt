-- The request that seals a ward with an expected number of papers, or the reason why it isn't sent.
use Rattle.std.proofs.Common.{◌≡◌, ◌≢◌, ◌⊎◌, ◌∙◌, inl, inr, ℕ, Bool, List, [], ◌∷◌, Result, Ok, Err, IfOk, IfErr, refl, sym, ap, subst}
use Rattle.sqlite.specs.State.{State}
use Rattle.register.specs.Offices.{OfficeState}
use Rattle.register.specs.declared.command.Request.{Request}
use Rattle.tables.specs.declared.fault.Fault.TheVariants.{Memory}
use Rattle.store.specs.Overviews.{BatchView}
use Rattle.office.specs.Answers.{IsOpenAt}
use Rattle.office.specs.Overviews.{batches_answer}
use Rattle.desk.specs.Orders.{Sent, sent_as}
use Rattle.desk.specs.Pages.{Page, failed, unsealed}
use Rattle.desk.specs.Parts.{IsSealRead}
use Rattle.desk.specs.Seals.{AreAsExpected, IsUnsealed, given_out, seal_request}
use Rattle.desk.specs.declared.lines.Failure.TheVariants.{Office}
use Rattle.desk.specs.declared.orders.ExpectedSeal.{ExpectedSeal}

-- the batches can be read, and n papers were given out in them
pub seal_read : {O : Type 0} (s : OfficeState) (e : ExpectedSeal) (shown : O → Page) (r : Result Request O) (n : ℕ) (views : List BatchView) (closed : Bool) (old st : State)
    → batches_answer s e.ward ≡ Ok views → n ≡ given_out views → IsOpenAt s closed st
    → IfOk r (λ request. (n ≡ e.papers) × (sent_as request ≡ seal_request e))
    → IfErr r (λ outcome. ((n ≢ e.papers) × (shown outcome ≡ unsealed n e.papers)) ⊎ (shown outcome ≡ failed (Office Memory)))
    → IsSealRead s e shown r closed old st
seal_read s e shown (Ok request) n views closed old st told same here sent unsent =
    ((subst (λ t. AreAsExpected t e.papers) (sym told) (sym same ∙ sent.0), ap (λ (x : Sent). x ∷ []) sent.1), here)
seal_read s e shown (Err outcome) n views closed old st told same here sent (inl why) =
    inl (subst (λ t. IsUnsealed t e.papers (shown outcome)) (sym told) (subst (λ m. (m ≢ e.papers) × (shown outcome ≡ unsealed m e.papers)) same why), here)
seal_read s e shown (Err outcome) n views closed old st told same here sent (inr memory) = inr (Memory, memory, (inl refl, inl (record { memory = refl; open_at = here })))

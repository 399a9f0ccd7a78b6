-- Sealing a ward with an expected number of papers.
use Rattle.std.specs.Prelude.{◌≡◌, ◌≢◌, ℕ, [], ◌∷◌, List, Result, Ok, Err, map}
use Rattle.std.specs.List.{sum}
use Rattle.register.specs.Offices.{OfficeState}
use Rattle.register.specs.declared.command.Request.{Request}
use Rattle.register.specs.declared.refusal.Reason.{Reason}
use Rattle.store.specs.Overviews.{BatchView}
use Rattle.office.specs.Overviews.{batches_answer}
use Rattle.desk.specs.Orders.{Sent, by_office, sent_as, ward_to_seal}
use Rattle.desk.specs.Pages.{Page, refused, unsealed}
use Rattle.desk.specs.declared.orders.ExpectedSeal.{ExpectedSeal}

-- how many papers were given out: the sum of the sizes of a ward's batches
abbrev pub given_out : List BatchView → ℕ
given_out views = sum (map (λ (v : BatchView). v.batch.size) views)

-- the request that is sent: the same one that `seal` sends without an expected number
abbrev pub seal_request : ExpectedSeal → Sent
seal_request e = by_office e.id.now (ward_to_seal e.ward)

-- the number of papers given out to a ward's batches is the expected one
abbrev pub AreAsExpected : Result (List BatchView) Reason → ℕ → Type 0
AreAsExpected (Ok views) papers = given_out views ≡ papers
AreAsExpected (Err why) papers = ⊥

-- as many papers as expected were given out, and the only request is the seal
abbrev pub IsSealSent : OfficeState → ExpectedSeal → List Request → Type 0
IsSealSent s e requests = AreAsExpected (batches_answer s e.ward) e.papers × (map sent_as requests ≡ seal_request e ∷ [])

-- why the seal isn't sent: more or fewer papers were given out than expected; or the batches of the ward can't be shown, for the given reason
abbrev pub IsUnsealed : Result (List BatchView) Reason → ℕ → Page → Type 0
IsUnsealed (Ok views) papers page = (given_out views ≢ papers) × (page ≡ unsealed (given_out views) papers)
IsUnsealed (Err why) papers page = page ≡ refused why

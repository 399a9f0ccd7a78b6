-- Proof that `dispatch_order` meets its contract for the order to serve, whose words are those of the serving, for the order to mend, for the order to publish, and for the order to compare.
use Rattle.std.proofs.Common.{◌≡◌, ◌∙◌, ℕ, List, ap, refl, subst, sym}
use Rattle.std.specs.Borrow.{Bor}
use Rattle.sqlite.specs.Held.{state}
use Rattle.connections.specs.Streams.{stream_of}
use Rattle.desk.specs.Mends.{IsMendPage}
use Rattle.desk.specs.Pages.{IsErrorTold, Tells, outputs_of}
use Rattle.desk.specs.Publications.{IsPublishTold}
use Rattle.desk.specs.Seconds.{IsSecondPage}
use Rattle.desk.specs.declared.orders.MendOrder.{MendOrder}
use Rattle.desk.specs.declared.orders.Order.{Order}
use Rattle.desk.specs.declared.orders.Order.TheVariants as order
use Rattle.desk.specs.declared.orders.PublishOrder.{PublishOrder}
use Rattle.count_office.specs.Done.{IsReadingTold}
use Rattle.count_office.specs.Serving.{ServesWith}
use Rattle.count_office.specs.declared.serving.Serving.{Serving}
use Rattle.count_office.proofs.dispatch_order.Goals as goal

-- the words of an order to serve
serving_in : Serving → Order → Serving
serving_in none (order.Serve port connections origin codes public) = record { port = port; connections = connections; origin = origin; codes = codes; public = public }
serving_in none other = none

same_serving : (one other : Serving) → order.Serve one.port one.connections one.origin one.codes one.public
    ≡ order.Serve other.port other.connections other.origin other.codes other.public → one ≡ other
unfolding serving_in
same_serving one other same = ap (serving_in one) same

pub returns-in-Serve-clause-serves : goal.returns-in-Serve-clause-serves
returns-in-Serve-clause-serves g c = λ serving is.
    let its : Serving = record { port = c.in-Serve.port; connections = c.in-Serve.connections; origin = c.in-Serve.origin; codes = c.in-Serve.codes; public = c.in-Serve.public } in (
      refl,
      subst (λ (s : Serving). ServesWith c.args.place.second (IsErrorTold g.E.Sink.taken g.E.Sink.failed c.args.err.now c.serve_in_place.new.err)
          (c.serve_in_place.new.err ≡ c.args.err.now) c.serve_in_place.result.0 s
          (g.H.Host.codes_at c.args.host.now) (g.H.Host.file c.args.host.now)
          (stream_of g.H.Sockets.Stream.Stream.held g.H.Sockets.Stream.Stream.taken g.H.Sockets.Stream.Stream.failed) (state g.S.Store)
          (g.H.Host.known c.args.host.now) (g.H.Host.known c.serve_in_place.new.host) c.args.conn c.serve_in_place.result.1)
          (same_serving its serving (sym c.in-Serve.is ∙ is))
          c.serve_in_place.ensures,
    )

pub returns-in-Mend-clause-mends : goal.returns-in-Mend-clause-mends
returns-in-Mend-clause-mends g c = λ asked is.
    let outputs = outputs_of g.O.Sink.taken g.O.Sink.failed g.E.Sink.taken g.E.Sink.failed in (
      subst (λ (m : MendOrder). Tells (outputs c.args.out.now c.args.err.now) (outputs c.mend.new.out c.mend.new.err) c.mend.result.0
          (λ _ page. IsReadingTold (λ s. IsMendPage s m) page (state g.S.Store c.args.conn) (state g.S.Store c.mend.result.1)))
          (cc) c.mend.ensures.told,
      c.mend.ensures.reads,
    )

-- the path of an order to compare the office with a second record
path_in : Bor (List ℕ) → Order → Bor (List ℕ)
path_in none (order.Second path) = path
path_in none other = none

same_path : (one other : Bor (List ℕ)) → order.Second one ≡ order.Second other → one ≡ other
unfolding path_in
same_path one other same = ap (path_in one) same

pub returns-in-Second-clause-seconds : goal.returns-in-Second-clause-seconds
returns-in-Second-clause-seconds g c = λ path is.
    let outputs = outputs_of g.O.Sink.taken g.O.Sink.failed g.E.Sink.taken g.E.Sink.failed in (
      subst (λ (p : Bor (List ℕ)). Tells (outputs c.args.out.now c.args.err.now) (outputs c.second.new.out c.second.new.err) c.second.result.0
          (λ _ page. IsReadingTold (λ s. IsSecondPage s p.now) page (state g.S.Store c.args.conn) (state g.S.Store c.second.result.1)))
          (same_path c.in-Second.path path (sym c.in-Second.is ∙ is)) c.second.ensures.told,
      c.second.ensures.reads,
    )

-- the words of an order to publish
publishing_in : PublishOrder → Order → PublishOrder
publishing_in none (order.Publish asked) = asked
publishing_in none other = none

same_publishing : (one other : PublishOrder) → order.Publish one ≡ order.Publish other → one ≡ other
unfolding publishing_in
same_publishing one other same = ap (publishing_in one) same

pub returns-in-Publish-clause-publishes : goal.returns-in-Publish-clause-publishes
returns-in-Publish-clause-publishes g c = λ asked is.
    let outputs = outputs_of g.O.Sink.taken g.O.Sink.failed g.E.Sink.taken g.E.Sink.failed in (
      subst (λ (p : PublishOrder). Tells (outputs c.args.out.now c.args.err.now) (outputs c.publish.new.out c.publish.new.err) c.publish.result.0
          (λ _ page. IsReadingTold (λ s. IsPublishTold s p) page (state g.S.Store c.args.conn) (state g.S.Store c.publish.result.1)))
          (same_publishing c.in-Publish.asked asked (sym c.in-Publish.is ∙ is)) c.publish.ensures.told,
      c.publish.ensures.reads,
    )

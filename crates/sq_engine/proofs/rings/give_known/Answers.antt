use Rattle.std.proofs.Common.{◌++◌, ◌∷◌, [], ◌∙◌, List, length, refl, ap, sym, subst, append_assoc, arith}
use Rattle.rtrb.specs.Ring.{received, known_items}
use Rattle.sq_node_model.specs.NodeValue.{ReceiptValue}
use Rattle.sq_engine.specs.declared.event.Event.{Event}
use Rattle.sq_engine.specs.declared.event.Event.TheVariants.{Answers, Drops}
use Rattle.sq_engine.specs.Clients.{Told, Happens}
use Rattle.sq_engine.proofs.Passing.{same_through, grown_on, one_happens, IsArrival, answers_arrive, drops_arrive}
use Rattle.sq_engine.proofs.rings.give_known.Goals as goal
use Rattle.sq_engine.proofs.rings.give_known.Goals.{in-Some, in_default}

pub loop-receipt-preserved : goal.loop-receipt-preserved
loop-receipt-preserved g c =
    let was = c.loop-receipt.invariant in
    let popped = c.pop_known-arrived.ensures in
    let becomes = g.C.Client.Becomes in
    let part = c.args.part in
    let receipt = c.pop_known-arrived.result in
    let ring = c.pop_known-arrived.new.self in
    let jobs = c.answer.new.self in
    let client = c.match-answer.client in
    let open_before = c.loop-receipt.jobs in
    let before = c.loop-receipt.client in
    let grown = λ (event : Event) (is : IsArrival part receipt event) (happens : Happens becomes (event ∷ []) open_before before jobs client).
    grown_on becomes part c.args.jobs.now (received c.args.ring.now) c.args.client.now
    open_before (received c.loop-receipt.ring) before event receipt jobs (received ring) client is was.given happens popped.received.0 in
    record {
      ring = same_through c.args.ring.now c.loop-receipt.ring ring was.ring popped.ring;
      all = ap (λ (list : List ReceiptValue). list ++ known_items ring) popped.received.0
          ∙ append_assoc (received c.loop-receipt.ring) (receipt ∷ []) (known_items ring)
          ∙ ap (λ (list : List ReceiptValue). received c.loop-receipt.ring ++ list) (sym popped.received.1) ∙ was.all;
      left = omega (arith, was.left, ap length popped.received.1);
      given = elim c.match-answer.branch [
        | in-Some w ↦ grown (Answers part receipt) (answers_arrive part receipt)
            (one_happens becomes (Answers part receipt) open_before before jobs client w.in-Some.ensures.answers
            (w.take.new.self, subst (λ (r : ReceiptValue). becomes before (Told part r) w.take.new.self) w.in-Some.ensures.same w.take.ensures, w.client-is))
        | in_default w ↦ grown (Drops part receipt) (drops_arrive part receipt)
            (one_happens becomes (Drops part receipt) open_before before jobs client w.in_default.ensures.drops (before, refl, w.client-is))
      ];
    }

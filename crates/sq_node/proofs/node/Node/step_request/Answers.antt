use Rattle.std.proofs.Common.{◌≡◌, sym, ap, ◌∙◌, subst}
use Rattle.sq_moves.specs.declared.status.Status.TheVariants.{Partial}
use Rattle.sq_shared.specs.declared.view.View.{View}
use Rattle.sq_shared.specs.Plays.{Won}
use Rattle.sq_shared.specs.Seats.{StepsAt}
use Rattle.sq_exec.specs.CoreValue.{CoreValue}
use Rattle.sq_exec.specs.Moving.{begun_core}
use Rattle.sq_node.specs.NodeState.{NodeState}
use Rattle.sq_node.specs.Steps.{IsOutward}
use Rattle.sq_node.specs.Looks.{OnlyLooked, SeatsLooked}
use Rattle.sq_node.specs.declared.stepped.Stepped.TheVariants.{Did, Nothing}
use Rattle.sq_node.proofs.Told.{request_told}
use Rattle.sq_node.proofs.Settles.{after_begun, begun_part, same_loads, other_seats}
use Rattle.sq_node.proofs.Known.{known_at, knows_begun, knows_looked}
use Rattle.sq_node.proofs.Looked.{seats_looked_at, no_looks}
use Rattle.sq_node.proofs.node.Node.step_request.Goals as goal

pub invariant_of-self-then-begin : goal.invariant_of-self-then-begin
invariant_of-self-then-begin g c =
    let inside = c.self.inside in
    let named = c.in-Some-named.named in
    let pull = c.in-Some.request.pull in
    let old = inside.seats.items in
    let new = c.begin.new.seats.items in
    let steps = λ (v w : View). Won v named.node (Partial pull) w in
    let begun = c.if-begin.ensures.core ∙ ap (λ (core : CoreValue). begun_core core named.seg named.node pull) c.reserve_begin.ensures.same in (
      c.self.invariant.0 ∙ sym (ap (λ (core : CoreValue). core.part) begun ∙ begun_part inside.core.core named.seg named.node pull),
      after_begun inside.core.core c.begin.new.core.core named.seg named.node pull old new inside.to_complete.items inside.complete.items
          begun
          (known_at named.seg steps old new (λ v w won. knows_begun v w named.node pull won) c.if-begin.ensures.step)
          c.self.invariant.1,
    )

pub invariant_of-self-3 : goal.invariant_of-self-3
invariant_of-self-3 g c =
    let inside = c.self.inside in
    let named = c.in-Some-named.named in
    let old = inside.seats.items in
    let new = c.begin.new.seats.items in
    let same : c.begin.new.core.core ≡ inside.core.core = c.if-begin.ensures.core ∙ c.reserve_begin.ensures.same in (
      c.self.invariant.0 ∙ sym (ap (λ (core : CoreValue). core.part) same),
      other_seats c.begin.new.core.core old new inside.to_complete.items inside.complete.items
          (known_at named.seg OnlyLooked old new (λ v w looked. knows_looked v w looked) c.if-begin.ensures.step)
          (same_loads inside.core.core c.begin.new.core.core old inside.to_complete.items inside.complete.items (ap (λ (core : CoreValue). core.recon) same) (ap (λ (core : CoreValue). core.loaded) same) c.self.invariant.1),
    )

pub returns : goal.returns
returns g c =
    let inside = c.self.inside in
    let named = c.in-Some-named.named in
    let old = inside.seats.items in
    let new = c.begin.new.seats.items in
    let same : c.begin.new.core.core ≡ inside.core.core = c.if-begin.ensures.core ∙ c.reserve_begin.ensures.same in
    let looked : SeatsLooked old new = seats_looked_at named.seg OnlyLooked old old new (λ v w looks. looks) (no_looks old) c.if-begin.ensures.step in
    request_told c.args.fabric.now c.args.self.now Nothing _ c.requires
    (record {
      seats = subst (λ (node : NodeState). SeatsLooked node.seats new) c.self.view_is looked;
      after = (λ k. record { core = same k; seats = new; sends = inside.sends.items; recvs = inside.recvs.items; receipts = inside.desk.receipts; claims = inside.puller.puller.wins.count })
          ∙ ap (λ (node : NodeState). record node { seats = new }) c.self.view_is;
    })

pub returns-then-begin : goal.returns-then-begin
returns-then-begin g c =
    let inside = c.self.inside in
    let named = c.in-Some-named.named in
    let pull = c.in-Some.request.pull in
    let new = c.begin.new.seats.items in
    let begun = c.if-begin.ensures.core ∙ ap (λ (core : CoreValue). begun_core core named.seg named.node pull) c.reserve_begin.ensures.same in
    request_told c.args.fabric.now c.args.self.now Did _ c.requires
    (record {
      seg = named.seg;
      node = named.node;
      pull = pull;
      outward = subst (λ (core : CoreValue). IsOutward core named.seg named.node) (c.reserve_begin.ensures.same ∙ ap (λ (node : NodeState). node.core) c.self.view_is) c.in-Some-named.ensures;
      won = subst (λ (node : NodeState). StepsAt named.seg (λ v w. Won v named.node (Partial pull) w) node.seats new) c.self.view_is c.if-begin.ensures.step;
      after = (λ k. record { core = begun k; seats = new; sends = inside.sends.items; recvs = inside.recvs.items; receipts = inside.desk.receipts; claims = inside.puller.puller.wins.count })
          ∙ ap (λ (node : NodeState). record node { core = begun_core node.core named.seg named.node pull; seats = new }) c.self.view_is;
    })

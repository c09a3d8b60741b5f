use Rattle.std.proofs.Common.{◌≡◌, ◌<◌, List, length, Option, None, get_or, set, refl, sym, ap, ◌∙◌, subst, arith}
use Rattle.std.proofs.lemmas.List.{set-get_or}
use Rattle.sq_shared.specs.Values.{LinkValue}
use Rattle.sq_node.specs.Ends.{EndValue, end_at, WasFull}
use Rattle.sq_node.specs.NodeState.{NodeState}
use Rattle.sq_node.proofs.Settles.{still_node}
use Rattle.sq_node.proofs.Sending.{put_back, none_to_send, read_end}
use Rattle.sq_node.proofs.node.Node.send_to.Goals as goal

pub invariant_of-self : goal.invariant_of-self
invariant_of-self g c =
    let inside = c.self.inside in
    still_node _ inside.core.core c.take_outbox.new.self.core _ inside.seats.items inside.to_complete.items inside.complete.items c.take_outbox.ensures.core refl refl refl c.self.invariant

pub invariant_of-self-in-Ok : goal.invariant_of-self-in-Ok
invariant_of-self-in-Ok g c =
    let inside = c.self.inside in
    still_node _ inside.core.core c.take_outbox.new.self.core _ inside.seats.items inside.to_complete.items inside.complete.items c.take_outbox.ensures.core refl refl refl c.self.invariant

pub invariant_of-self-in-Err : goal.invariant_of-self-in-Err
invariant_of-self-in-Err g c =
    let inside = c.self.inside in
    let same : c.put_outbox.new.self.core ≡ inside.core.core =
    put_back inside.core.core c.take_outbox.new.self.core c.put_outbox.new.self.core c.args.dst c.in-Some.chunk c.in-Err.back c.in-Some.ensures.chunk c.in-Err.ensures.refused.0 c.take_outbox.ensures.core c.put_outbox.ensures.core in
    still_node _ inside.core.core c.put_outbox.new.self.core _ inside.seats.items inside.to_complete.items inside.complete.items same refl refl refl c.self.invariant

pub returns-in-Err : goal.returns-in-Err
returns-in-Err g c =
    let inside = c.self.inside in
    let same : c.put_outbox.new.self.core ≡ inside.core.core =
    put_back inside.core.core c.take_outbox.new.self.core c.put_outbox.new.self.core c.args.dst c.in-Some.chunk c.in-Err.back c.in-Some.ensures.chunk c.in-Err.ensures.refused.0 c.take_outbox.ensures.core c.put_outbox.ensures.core in
    let at = c.from.result in
    let sends = inside.sends.items in
    let read = c.index_mut.result.now in
    let end_same : set sends at c.send.new.self ≡ sends =
    ap (set sends at) (c.in-Err.ensures.refused.1 ∙ c.index_mut.ensures.value) ∙ set-get_or sends at read in
    let place : at ≡ c.args.dst = c.from.ensures ∙ c.number.ensures in
    let sends_are : sends ≡ c.args.self.now.sends = ap (λ (node : NodeState). node.sends) c.self.view_is in
    let within : c.args.dst < length sends = omega (arith, ap length sends_are, c.requires.node.all_sends, c.requires.part) in
    let stands : end_at c.args.self.now.sends c.args.dst ≡ read =
    ap (λ (ends : List (Option EndValue)). end_at ends c.args.dst) (sym sends_are) ∙ read_end sends at c.args.dst read place within c.index_mut.ensures.value in (
      (λ k. record { core = same k; seats = inside.seats.items; sends = end_same k; recvs = inside.recvs.items; receipts = inside.desk.receipts; claims = inside.puller.puller.wins.count }) ∙ c.self.view_is,
      none_to_send c.args.fabric.now c.args.self.now c.args.dst (λ end there.
          subst (λ (links : List LinkValue). WasFull links end) c.links.ensures.links
          (c.in-Err.ensures.full end (sym stands ∙ there))),
    )

use Rattle.std.proofs.Common.{sym, ap, ◌∙◌}
use Rattle.sq_exec.specs.CoreValue.{CoreValue}
use Rattle.sq_shared.specs.Puller.{PullerValue}
use Rattle.sq_node.proofs.Settles.{same_loads}
use Rattle.sq_node.proofs.NewNodes.{new_is_node}
use Rattle.sq_node.proofs.node.Node.open.Goals as goal

pub invariant_of-result : goal.invariant_of-result
invariant_of-result c =
    let core = c.args.core.core in
    let new = c.start.new.self.core in
    let seats = c.args.place.seats.items in
    let flags = c.args.place.complete.items in
    let started = c.start.ensures.core in (
      ap (λ (puller : PullerValue). puller.part) c.new-puller.ensures ∙ c.part.ensures ∙ sym (ap (λ (of : CoreValue). of.part) started),
      same_loads core new seats c.new-2.result.items flags (ap (λ (of : CoreValue). of.recon) started) (ap (λ (of : CoreValue). of.loaded) started)
          (new_is_node core seats c.new-2.result.items flags c.new-2.ensures.items c.requires.flags c.requires.fresh),
    )

use Rattle.std.proofs.Common.{ap, ◌∙◌, arith, ◌≡◌, ℕ, map, take, length}
use Rattle.std.proofs.Math.Seq.{take-length}
use Rattle.sq_world.specs.Queue.{opened_queue}
use Rattle.sq_world.proofs.state.open.queues.Goals as goal

pub returns : goal.returns
returns c =
    let links = c.links-link-items.result.now in
    let end : c.loop-link.link-index ≡ length links = omega (arith, c.loop-link-test.false, c.loop-link.auto.link-index-end) in
    record {
      links = links;
      all = c.links-link-items.ensures;
      same = c.loop-link.invariant ∙ ap (map opened_queue) (ap (λ (k : ℕ). take k links) end ∙ take-length links);
    }

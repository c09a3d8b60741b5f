use Rattle.std.proofs.Common.{◌+◌, refl, ap}
use Rattle.sq_transition.specs.WorldValue.{link_index}
use Rattle.sq_world.specs.Dump.{link_lines}
use Rattle.sq_world.proofs.Dumps.{one_more}
use Rattle.sq_world.proofs.state.State.write_source.Goals as goal

pub loop-dst-preserved : goal.loop-dst-preserved
loop-dst-preserved g c =
    let w = c.args.self.now in
    let src = c.args.src in
    one_more (λ dst. link_lines w (link_index w src dst)) c.loop-dst.dst (c.loop-dst.dst + 1) _ _ _ _ refl c.loop-dst.invariant c.in_ok-write_link.ensures (ap (λ dst. link_lines w (link_index w src dst)) c.from.ensures)

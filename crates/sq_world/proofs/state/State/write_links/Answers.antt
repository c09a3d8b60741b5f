use Rattle.std.proofs.Common.{◌+◌, refl, ap}
use Rattle.sq_world.specs.Dump.{source_lines}
use Rattle.sq_world.proofs.Dumps.{one_more}
use Rattle.sq_world.proofs.state.State.write_links.Goals as goal

pub loop-src-preserved : goal.loop-src-preserved
loop-src-preserved g c =
    let w = c.args.self.now in
    one_more (source_lines w) c.loop-src.src (c.loop-src.src + 1) _ _ _ _ refl c.loop-src.invariant c.in_ok-write_source.ensures (ap (source_lines w) c.from.ensures)

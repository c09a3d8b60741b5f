use Rattle.std.proofs.Common.{subst, sym}
use Rattle.sq_transition.specs.Holds.{Holds}
use Rattle.sq_world.specs.Readers.{IsChunkAfter}
use Rattle.sq_world.proofs.Ways.{is_chunk_after}
use Rattle.sq_world.proofs.world.World.under_way.Goals as goal

pub returns-clause-by_history : goal.returns-clause-by_history
returns-clause-by_history c = λ o t is legal holds.
    subst (IsChunkAfter o t c.args.src c.args.dst c.args.i) (sym c.under_way.ensures)
    (is_chunk_after o t c.self.inside.state is legal (subst (Holds o t) (sym c.self.view_is) holds) c.args.src c.args.dst c.args.i)

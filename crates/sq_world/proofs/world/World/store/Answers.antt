use Rattle.std.proofs.Common.{subst, sym}
use Rattle.sq_transition.specs.Holds.{Holds}
use Rattle.sq_world.specs.Readers.{IsStoreAfter}
use Rattle.sq_world.proofs.Stores.{is_store_after}
use Rattle.sq_world.proofs.world.World.store.Goals as goal

pub returns-clause-by_history : goal.returns-clause-by_history
returns-clause-by_history c = λ o t holds.
    subst (IsStoreAfter o t c.args.part) (sym c.store.ensures)
    (is_store_after o t c.self.inside.state (subst (Holds o t) (sym c.self.view_is) holds) c.args.part)

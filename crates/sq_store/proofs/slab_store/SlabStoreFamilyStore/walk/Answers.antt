use Rattle.sq_store.proofs.OneRoots.{rooted-runs}
use Rattle.sq_store.proofs.slab_store.SlabStoreFamilyStore.walk.Goals as goal

pub returns-clause-rooted : goal.returns-clause-rooted
returns-clause-rooted c = rooted-runs c.self.inside.runs c.args.self.now c.self.invariant c.self.view_is

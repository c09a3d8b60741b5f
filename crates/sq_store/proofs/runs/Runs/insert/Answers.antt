use Rattle.sq_store.proofs.Indexes.{roomy_index}
use Rattle.sq_store.proofs.runs.Runs.insert.Goals as goal

pub invariant_of-self : goal.invariant_of-self
invariant_of-self c =
    roomy_index c.self.inside.slab c.make_room.new.slab c.self.inside.index.items c.make_room.new.index.items c.args.self.now c.make_room.ensures.slots c.make_room.ensures.entries c.self.invariant

pub add-requires-clause-indexed : goal.add-requires-clause-indexed
add-requires-clause-indexed c =
    roomy_index c.self.inside.slab c.make_room.new.slab c.self.inside.index.items c.make_room.new.index.items c.args.self.now c.make_room.ensures.slots c.make_room.ensures.entries c.self.invariant

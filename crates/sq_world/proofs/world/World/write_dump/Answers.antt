use Rattle.sq_world.proofs.Sound.{sound}
use Rattle.sq_world.proofs.world.World.write_dump.Goals as goal

pub write_dump-requires : goal.write_dump-requires
write_dump-requires g c = let some = c.self.invariant in sound some.0 some.1 c.self.inside.state some.2 some.3 some.4

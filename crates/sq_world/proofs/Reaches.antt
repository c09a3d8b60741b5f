-- What a world opens with is an opening, and the world is the one that no step leads to.
use Rattle.std.specs.Prelude.{[]}
use Rattle.sq_moves.specs.OpeningValue.{OpeningValue}
use Rattle.sq_moves.specs.Opening.{IsOpening}
use Rattle.sq_moves.specs.SetUp.{IsSetUp}
use Rattle.sq_transition.specs.WorldValue.{WorldValue}
use Rattle.sq_transition.specs.Holds.{Holds}
use Rattle.sq_world.specs.Reached.{IsReached}

pub opens : (o : OpeningValue) (w : WorldValue) → IsSetUp o → Holds o [] w → IsOpening o × Holds o [] w
opens o w is holds = (is.opening, holds)

pub open_reached : (o : OpeningValue) (w : WorldValue) → IsSetUp o → Holds o [] w → IsReached w
open_reached o w is holds = (o, [], is.opening, tt, holds)

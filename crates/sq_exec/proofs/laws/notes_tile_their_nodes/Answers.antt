use Rattle.sq_exec.proofs.Tiles.{tiles_begun, tiles_after_cut}
use Rattle.sq_exec.proofs.laws.notes_tile_their_nodes.Goals as goal

pub returns-clause-starts : goal.returns-clause-starts
returns-clause-starts c = λ keys. record { tiles = λ seg node. tt; open_work = tt }

pub returns-clause-begins : goal.returns-clause-begins
returns-clause-begins c = tiles_begun

pub returns-clause-cuts : goal.returns-clause-cuts
returns-clause-cuts c = tiles_after_cut

pub returns-clause-sends : goal.returns-clause-sends
returns-clause-sends c = λ keys out outbox tiles. record { tiles = tiles.tiles; open_work = tiles.open_work }

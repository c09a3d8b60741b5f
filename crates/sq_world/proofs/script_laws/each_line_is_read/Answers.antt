use Rattle.sq_world.proofs.ReadBack.{line_is_read}
use Rattle.sq_world.proofs.script_laws.each_line_is_read.Goals as goal

pub returns : goal.returns
returns c = line_is_read

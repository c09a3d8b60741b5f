use Rattle.sq_schema.specs.declared.schema.TheConstants.{MAX_TABLES}
use Rattle.sq_world.proofs.Runs.{run_flushed}
use Rattle.sq_world.specs.Scripts.{IsForInput}
use Rattle.sq_world.proofs.move_script.write_script.Goals as goal

pub returns : goal.returns
returns g c = run_flushed (IsForInput MAX_TABLES) _ _ _ _ _ c.in_ok-ending.ensures c.flush.ensures.bytes

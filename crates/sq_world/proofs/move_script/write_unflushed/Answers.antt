use Rattle.std.proofs.Common.{inr, [], refl, None}
use Rattle.sq_schema.specs.declared.schema.TheConstants.{MAX_TABLES}
use Rattle.sq_text.specs.declared.input_fault.InputFault.TheVariants.{Memory}
use Rattle.sq_text.specs.Located.{located}
use Rattle.sq_world.proofs.Runs.{run_given, run_nothing}
use Rattle.sq_world.specs.Scripts.{IsForInput}
use Rattle.sq_world.proofs.move_script.write_unflushed.Goals as goal

pub returns-in-Ok : goal.returns-in-Ok
returns-in-Ok g c = run_given (IsForInput MAX_TABLES) c.write_for_header.result _ _ _ _ c.in-Ok.ensures.held c.in-Ok.ensures.open c.in-Ok.ensures.lines c.in-Ok.ensures.known c.write_for_header.ensures

pub returns-in-Err : goal.returns-in-Err
returns-in-Err g c = run_nothing (IsForInput MAX_TABLES) c.end_by.result _ _ _ _ c.at_no_line.ensures (λ given out ending wrote. inr (record { fault = located Memory None; left = []; header = λ apart. absurd (apart refl); wrote = wrote })) c.end_by.ensures

use Rattle.std.proofs.Common.{inr, [], refl, None}
use Rattle.sq_schema.specs.declared.schema.TheConstants.{MAX_TABLES}
use Rattle.sq_text.specs.declared.input_fault.InputFault.TheVariants.{Memory}
use Rattle.sq_text.specs.Located.{located}
use Rattle.sq_world.proofs.Runs.{run_given, run_nothing}
use Rattle.sq_picture.specs.Asked.{IsAnswerOf}
use Rattle.sq_picture.proofs.asked.tell_unflushed.Goals as goal

pub returns-in-Ok : goal.returns-in-Ok
returns-in-Ok g c = run_given (IsAnswerOf (g.T.OpeningTelling.tells c.args.telling.now) MAX_TABLES) c.tell_of_lines.result _ _ _ _ c.in-Ok.ensures.held c.in-Ok.ensures.open c.in-Ok.ensures.lines c.in-Ok.ensures.known c.tell_of_lines.ensures

pub returns-in-Err : goal.returns-in-Err
returns-in-Err g c = run_nothing (IsAnswerOf (g.T.OpeningTelling.tells c.args.telling.now) MAX_TABLES) c.refuse.result _ _ _ _ c.at_no_line.ensures (λ given out ending wrote. inr (record { fault = located Memory None; left = []; header = λ apart. absurd (apart refl); wrote = wrote })) c.refuse.ensures

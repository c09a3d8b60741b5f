use Rattle.std.proofs.Common.{inr, [], refl, ℕ, Ok, None}
use Rattle.sq_schema.specs.declared.schema.TheConstants.{MAX_TABLES}
use Rattle.sq_text.specs.declared.input_fault.InputFault.TheVariants.{Memory}
use Rattle.sq_text.specs.Located.{located}
use Rattle.sq_world.specs.Run.{IsRun}
use Rattle.sq_world.proofs.Runs.{run_given, run_nothing, run_flushed, kept_flushed, kept_at_fault, led_given, led_at_fault}
use Rattle.sq_world.proofs.input.run.Goals as goal

pub returns-clause-runs : goal.returns-clause-runs
returns-clause-runs g c =
    run_flushed (IsRun c.args.manner MAX_TABLES) _ _ _ _ _
    (run_given {E = ℕ} (IsRun c.args.manner MAX_TABLES) (Ok c.in_ok-ending.ending) _ _ _ _ c.in-Ok.ensures.held c.in-Ok.ensures.open c.in-Ok.ensures.lines c.in-Ok.ensures.known c.in_ok-ending.ensures.runs)
    c.flush-2.ensures.bytes

pub returns-clause-kept : goal.returns-clause-kept
returns-clause-kept g c = kept_flushed _ _ _ _ _ c.in_ok-ending.ensures.kept c.flush-2.ensures.bytes

pub returns-clause-led : goal.returns-clause-led
returns-clause-led g c =
    led_given {E = ℕ} (Ok c.in_ok-ending.ending) _ _ _ c.in-Ok.ensures.held c.in-Ok.ensures.open c.in-Ok.ensures.lines c.in-Ok.ensures.known c.in_ok-ending.ensures.led

pub returns-in_default-clause-runs : goal.returns-in_default-clause-runs
returns-in_default-clause-runs g c =
    run_flushed (IsRun c.args.manner MAX_TABLES) _ _ _ _ _
    (run_nothing {E = ℕ} (IsRun c.args.manner MAX_TABLES) (Ok c.in_ok-ended.ended) _ _ _ _ c.at_no_line.ensures (λ given out ending wrote. inr (record { fault = located Memory None; left = []; header = λ apart. absurd (apart refl); wrote = wrote })) c.in_ok-ended.ensures)
    c.flush.ensures.bytes

pub returns-in_default-clause-kept : goal.returns-in_default-clause-kept
returns-in_default-clause-kept g c =
    kept_flushed _ _ _ _ _ (kept_at_fault {E = ℕ} (Ok c.in_ok-ended.ended) _ _ _ _ c.in_ok-ended.ensures) c.flush.ensures.bytes

pub returns-in_default-clause-led : goal.returns-in_default-clause-led
returns-in_default-clause-led g c = led_at_fault {E = ℕ} (Ok c.in_ok-ended.ended) _ _ _ _ _ c.in_ok-ended.ensures

use Rattle.sq_world.proofs.Runs.{run_from, run_refused, kept_from, kept_at_fault, led_from, led_at_fault}
use Rattle.sq_world.proofs.input.run_lines.Goals as goal

pub returns-in-Ok-clause-runs : goal.returns-in-Ok-clause-runs
returns-in-Ok-clause-runs g c = run_from c.args.manner c.run_script.result _ _ _ _ _ _ _ c.largest-schema.ensures c.in-Ok.ensures.world (rw c.insert.ensures.value at c.run_script.ensures)

pub returns-in-Ok-clause-kept : goal.returns-in-Ok-clause-kept
returns-in-Ok-clause-kept g c = kept_from c.args.manner c.run_script.result _ _ _ _ _ _ _ c.in-Ok.ensures.world (rw c.insert.ensures.value at c.run_script.ensures)

pub returns-in-Err-clause-runs : goal.returns-in-Err-clause-runs
returns-in-Err-clause-runs g c = run_refused c.args.manner c.end_by.result _ _ _ _ _ _ c.largest-schema.ensures c.in-Err.ensures.fault c.end_by.ensures

pub returns-in-Err-clause-kept : goal.returns-in-Err-clause-kept
returns-in-Err-clause-kept g c = kept_at_fault c.end_by.result _ _ _ _ c.end_by.ensures

pub returns-in-Ok-clause-led : goal.returns-in-Ok-clause-led
returns-in-Ok-clause-led g c = led_from c.args.manner c.run_script.result _ _ _ _ _ _ _ c.largest-schema.ensures c.in-Ok.ensures.world (rw c.insert.ensures.value at c.run_script.ensures)

pub returns-in-Err-clause-led : goal.returns-in-Err-clause-led
returns-in-Err-clause-led g c = led_at_fault c.end_by.result _ _ _ _ _ c.end_by.ensures

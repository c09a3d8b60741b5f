use Rattle.sq_text.proofs.HeaderRun.{no_old, no_new, no_config, all_three}
use Rattle.sq_text.proofs.header.first_lines.Goals as goal

pub returns-in-Err-clause-first : goal.returns-in-Err-clause-first
returns-in-Err-clause-first g c = rw c.at.ensures (no_old _ _ _ c.in-Err.ensures.plan)

pub returns-in-Err-plan_line-clause-first : goal.returns-in-Err-plan_line-clause-first
returns-in-Err-plan_line-clause-first g c = rw c.at-in-Err-plan_line.ensures (no_new _ _ _ _ _ c.in-Ok.ensures.plan c.in-Err-plan_line.ensures.plan)

pub returns-in-Ok-config_line-clause-first : goal.returns-in-Ok-config_line-clause-first
returns-in-Ok-config_line-clause-first g c = all_three _ _ _ _ _ _ _ c.in-Ok.ensures.plan c.in-Ok-plan_line.ensures.plan c.in-Ok-config_line.ensures.config

pub returns-in-Err-config_line-clause-first : goal.returns-in-Err-config_line-clause-first
returns-in-Err-config_line-clause-first g c = rw c.at-in-Err-config_line.ensures (no_config _ _ _ _ _ _ _ c.in-Ok.ensures.plan c.in-Ok-plan_line.ensures.plan c.in-Err-config_line.ensures.config)

use Rattle.std.proofs.Common.{sym, subst}
use Rattle.sq_engine.specs.Open.{OpenJobsValue}
use Rattle.sq_engine.specs.Clients.{InStage, DoesCommand}
use Rattle.sq_engine.proofs.Passing.{commands_none, commands_on}
use Rattle.sq_engine.proofs.meeting.execute_commands.Goals as goal
use Rattle.sq_engine.proofs.meeting.execute_commands.Goals.{then-is_over-via-then-is_over, then-is_over-via-else-is_over+then-not-execute_command}

pub loop-command-init : goal.loop-command-init
loop-command-init g c =
    commands_none (InStage c.args.gate.now.segments g.C.Client.Becomes) c.args.fabric.now.parts c.args.jobs.now c.args.client.now

pub loop-command-preserved : goal.loop-command-preserved
loop-command-preserved g c =
    commands_on (InStage c.args.gate.now.segments g.C.Client.Becomes) c.args.fabric.now.parts c.args.jobs.now c.args.client.now
    c.loop-command.jobs c.loop-command.client c.execute_command.new.jobs c.execute_command.new.client
    c.loop-command.invariant c.execute_command.ensures

pub returns-then-is_over : goal.returns-then-is_over
returns-then-is_over g c =
    let becomes = InStage c.args.gate.now.segments g.C.Client.Becomes in
    let parts = c.args.fabric.now.parts in
    let jobs = c.args.jobs.now in
    let client = c.args.client.now in
    let old = c.loop-command.jobs in
    let before = c.loop-command.client in
    let now = c.then-is_over.jobs in
    elim c.then-is_over.branch [
      | then-is_over-via-then-is_over w ↦
          subst (λ x. DoesCommand parts becomes jobs client now x) (sym w.client-is)
          (subst (λ (j : OpenJobsValue). DoesCommand parts becomes jobs client j before) (sym w.jobs-is) c.loop-command.invariant)
      | then-is_over-via-else-is_over+then-not-execute_command w ↦
          let new = w.execute_command.new in
          subst (λ x. DoesCommand parts becomes jobs client now x) (sym w.client-is)
          (subst (λ (j : OpenJobsValue). DoesCommand parts becomes jobs client j new.client) (sym w.jobs-is)
          (commands_on becomes parts jobs client old before new.jobs new.client c.loop-command.invariant w.execute_command.ensures))
    ]

use Rattle.std.proofs.Common.{Result, Ok, Err, OnOk, OnErr}
use Rattle.sq_audit.specs.declared.job.Job.{Job}
use Rattle.sq_engine.specs.declared.event.Event.TheVariants.{Posts}
use Rattle.sq_engine.specs.Open.{OpenJobsValue, Adds, KeepsJobs}
use Rattle.sq_engine.specs.Values.{EngineValue, engine_value, at_value}
use Rattle.sq_engine.specs.Engine.{IsReached}
use Rattle.sq_engine.proofs.Reached.{posted_reached, kept_reached}
use Rattle.sq_engine.proofs.engine.Engine.post.Goals as goal

-- whether it was posted or not
either_way : {A B : Type 0} (engine : EngineValue) (job : Job) (jobs : OpenJobsValue) (result : Result A B)
    → OnOk result (Adds (Posts job) engine.jobs jobs) → OnErr result (KeepsJobs engine.jobs jobs) → IsReached engine
    → IsReached (record engine { jobs = jobs })
either_way engine job jobs (Ok x) ok err reached = posted_reached engine job jobs ok reached
either_way engine job jobs (Err e) ok err reached = kept_reached engine jobs err reached

pub invariant_of-self : goal.invariant_of-self
invariant_of-self g c =
    let inside = c.self.inside in
    let was = c.self.invariant in
    let engine : EngineValue = engine_value inside.first.value inside.opening inside.jobs (at_value inside.at) in (
      was.0,
      was.1,
      either_way engine c.args.job c.post_job.new.jobs c.post_job.result c.post_job.ensures.ok c.post_job.ensures.err was.2,
    )

-- An engine whose epoch was run with a client.
use Rattle.std.proofs.Common.{◌≡◌, ℕ, subst}
use Rattle.sq_engine.specs.Open.{OpenJobsValue}
use Rattle.sq_engine.specs.Clients.{ClientCall, InStage}
use Rattle.sq_engine.specs.Serving.{IsServed}
use Rattle.sq_engine.specs.declared.serving.ServedRun.{ServedRun}
use Rattle.sq_engine.specs.Values.{RunValue, Running, EngineValue, run_value}
use Rattle.sq_engine.specs.Engine.{IsReached, segments_of, ServesEpoch}
use Rattle.sq_engine.proofs.Reached.{epoch_reached}
use Rattle.sq_engine.proofs.Going.{at_run, serves_epoch}

module _ {X : Type 0} (becomes : X → ClientCall → X → Type 0) (engine : EngineValue) (run given : RunValue) (segments : ℕ)
    (jobs : OpenJobsValue) (before : X) (served : ServedRun) (after : X) (at : engine.at ≡ Running run) (same : given ≡ run)
    (is : IsServed (InStage segments becomes) given engine.jobs before served jobs after) (reached : IsReached engine) where
  abbrev driven : RunValue
  driven = run_value served.run.fabric served.run.nodes.items served.run.pumps.items

  here : IsServed (InStage segments becomes) run engine.jobs before served jobs after
  here = subst (λ (r : RunValue). IsServed (InStage segments becomes) r engine.jobs before served jobs after) same is

  -- it is reached still
  pub served_reached : IsReached (record engine { jobs = jobs; at = Running driven })
  served_reached =
      epoch_reached (InStage segments becomes) engine engine.opening run driven jobs here.more served.end before after
      here.runs here.client (at_run engine run at reached)

  -- and its epoch was served
  pub served_epoch : segments ≡ segments_of engine.opening run
      → ServesEpoch becomes engine before served.end (record engine { jobs = jobs; at = Running driven }) after
  served_epoch told =
      serves_epoch becomes engine run driven jobs here.more served.end segments before after at told here.runs here.client reached

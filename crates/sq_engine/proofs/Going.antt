-- How an engine goes on, step by step, and how the epoch that a client was served in is one of the engine's.
use Rattle.std.proofs.Common.{◌≡◌, ℕ, List, refl, sym, ap, ◌∙◌, subst}
use Rattle.sq_engine.specs.declared.event.Event.{Event}
use Rattle.sq_engine.specs.declared.serving.EpochEnd.{EpochEnd}
use Rattle.sq_engine.specs.Open.{OpenJobsValue}
use Rattle.sq_engine.specs.Clients.{ClientCall, InStage, ChangesClientEach}
use Rattle.sq_engine.specs.Serving.{RunsIn}
use Rattle.sq_engine.specs.Values.{RunValue, AtValue, Running, EngineValue}
use Rattle.sq_engine.specs.Engine.{IsReached, KeepsOpening, Keeps, segments_of, in_epoch, ServesEpoch}
use Rattle.sq_engine.proofs.Reached.{epoch_reached}

-- an engine that stays as it is goes on
pub stays : (old new : EngineValue) → new ≡ old → KeepsOpening old new
stays old new same = record { same = same ∙ ap (λ (at : AtValue). record old { at = at }) (sym (ap (λ (e : EngineValue). e.at) same)) }

pub keeps_on : (old mid new : EngineValue) → Keeps old mid → Keeps mid new → Keeps old new
keeps_on old mid new one more = record {
  same = more.same ∙ ap (λ (e : EngineValue). record e { opening = new.opening; at = new.at }) one.same;
  plan = more.plan ∙ one.plan;
}

-- an engine in an epoch, by the run that it is in
pub at_run : (engine : EngineValue) (run : RunValue) → engine.at ≡ Running run → IsReached engine
    → IsReached (in_epoch engine engine.opening run engine.jobs)
at_run engine run at reached = subst IsReached (ap (λ (a : AtValue). record engine { at = a }) at) reached

module _ {X : Type 0} (becomes : X → ClientCall → X → Type 0) where
  -- an epoch that runs was served
  pub serves_epoch : (engine : EngineValue) (run driven : RunValue) (jobs : OpenJobsValue) (more : List Event) (end : EpochEnd)
      (segments : ℕ) (before after : X) → engine.at ≡ Running run → segments ≡ segments_of engine.opening run
      → RunsIn more run engine.jobs end driven jobs → ChangesClientEach (InStage segments becomes) before more after
      → IsReached engine → ServesEpoch becomes engine before end (record engine { jobs = jobs; at = Running driven }) after
  serves_epoch engine run driven jobs more end segments before after at told runs client reached =
      let begun = at_run engine run at reached in
      record {
        more = more;
        epoch = record {
          opening = engine.opening;
          same_plan = refl;
          run = run;
          begun = begun;
          driven = driven;
          left = epoch_reached (InStage segments becomes) engine engine.opening run driven jobs more end before after runs client begun;
          runs = runs;
          first = refl;
          plan = refl;
        };
        client = subst (λ (n : ℕ). ChangesClientEach (InStage n becomes) before more after) told client;
      }

  -- before it an engine went on, and after it
  pub serves_between : (old mid : EngineValue) (before : X) (end : EpochEnd) (new : EngineValue) (after : X) (last : EngineValue)
      → Keeps old mid → ServesEpoch becomes mid before end new after → Keeps new last → ServesEpoch becomes old before end last after
  serves_between old mid before end new after last one served more =
      let epoch = served.epoch in
      let o = epoch.opening in
      record {
        more = served.more;
        epoch = record {
          opening = o;
          same_plan = epoch.same_plan ∙ one.plan;
          run = epoch.run;
          begun = subst IsReached (ap (λ (e : EngineValue). in_epoch e o epoch.run e.jobs) one.same) epoch.begun;
          driven = epoch.driven;
          left = subst (λ (p : EngineValue × EngineValue). IsReached (in_epoch p.0 o epoch.driven p.1.jobs))
              (λ i. (one.same i, sym more.same i)) epoch.left;
          runs = subst (λ (p : EngineValue × EngineValue). RunsIn served.more epoch.run p.0.jobs end epoch.driven p.1.jobs)
              (λ i. (one.same i, sym more.same i)) epoch.runs;
          first = ap (λ (e : EngineValue). e.first) more.same ∙ epoch.first ∙ ap (λ (e : EngineValue). e.first) one.same;
          plan = more.plan ∙ epoch.plan ∙ one.plan;
        };
        client = served.client;
      }

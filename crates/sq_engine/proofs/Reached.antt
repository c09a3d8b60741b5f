-- What holds of an engine still after each of its steps.
use Rattle.std.proofs.Common.{◌≡◌, ℕ, ◌+◌, ◌<◌, Bool, true, false, List, [], ◌∷◌, ◌++◌, refl, sym, ap, ◌∙◌, subst}
use Rattle.std.specs.List.Sorted.{IsPermutation}
use Rattle.std.proofs.lemmas.List.{append-nil}
use Rattle.std.proofs.lemmas.List.Sorted.{IsPermutation-refl}
use Rattle.sq_schema.specs.Table.{TableValue}
use Rattle.sq_plan.specs.PlanValue.{PlanValue}
use Rattle.sq_moves.specs.ReconValue.{stages}
use Rattle.sq_moves.specs.OpeningValue.{OpeningValue}
use Rattle.sq_moves.specs.SetUp.{IsSetUp}
use Rattle.sq_node_model.specs.BeganWith.{BeganWith}
use Rattle.sq_node_model.specs.Gathered.{GatheredValue}
use Rattle.sq_node_model.specs.Placed.{IsPlaced, GoOn}
use Rattle.sq_node_model.specs.Next.{IsStageDone}
use Rattle.sq_node_model.specs.Folded.{folded_opening}
use Rattle.sq_node_model.proofs.Folded.{rowless_opening}
use Rattle.sq_moves.specs.Opening.{IsOpening}
use Rattle.sq_node.specs.FabricValue.{IsFabric}
use Rattle.sq_node.specs.Opened.{IsOpened, IsReopened, opened_stores}
use Rattle.sq_gather.specs.Gathered.{HoldsInStage, IsGathered, AreAllOf, InPartOrder}
use Rattle.sq_gather.specs.Reopened.{IsNextStageOf, IsFirstStageAfter}
use Rattle.sq_gather.proofs.AllOf.{new_in_order}
use Rattle.sq_gather.proofs.Running.{run_begins}
use Rattle.sq_audit.specs.declared.job.Job.{Job}
use Rattle.sq_engine.specs.declared.event.Event.{Event}
use Rattle.sq_engine.specs.declared.event.Event.TheVariants.{Posts, Refuses, Answers, Drops, Loses, Rests, Ends, MovesTo}
use Rattle.sq_engine.specs.declared.serving.EpochEnd.{EpochEnd}
use Rattle.sq_engine.specs.Events.{arrivals_in, plan_by, plan_after}
use Rattle.sq_engine.specs.Open.{OpenJobsValue, no_jobs, Adds, AddsEach, KeepsJobs}
use Rattle.sq_engine.specs.Clients.{ClientCall, ChangesClientEach}
use Rattle.sq_engine.specs.Serving.{RunsIn}
use Rattle.sq_engine.specs.Values.{RunValue, AtValue, Running, Between, EngineValue, receipts_of}
use Rattle.sq_engine.specs.History.{Stands, onward_opening}
use Rattle.sq_engine.specs.Engine.{receipts_in, AreReceipts, IsReached, in_epoch}
use Rattle.sq_engine.proofs.Epochs.{opened_stands, driven_stands, gathered_stands, stage_stands, due_stands, move_stands}
use Rattle.sq_engine.proofs.Jobs.{adds_one, open_on}
use Rattle.sq_engine.proofs.Receipts.{epoch_receipts, same_receipts, opened_without, reopened_keeps, gathered_keeps}

-- the plan after events and others
pub plan_on : (plan : PlanValue) (one more : List Event) → plan_after plan (one ++ more) ≡ plan_after (plan_after plan one) more
plan_on plan [] more = refl
plan_on plan (event ∷ one) more = plan_on (plan_by plan event) one more

-- a client is served in no event that names a plan
pub none_moved : {X : Type 0} (becomes : X → ClientCall → X → Type 0) (plan : PlanValue) (events : List Event) (first last : X)
    → ChangesClientEach becomes first events last → plan_after plan events ≡ plan
none_moved becomes plan [] first last went = refl
none_moved becomes plan (Posts job ∷ more) first last went = none_moved becomes plan more went.0 last went.2
none_moved becomes plan (Refuses job fault ∷ more) first last went = none_moved becomes plan more went.0 last went.2
none_moved becomes plan (Answers part receipt ∷ more) first last went = none_moved becomes plan more went.0 last went.2
none_moved becomes plan (Drops part receipt ∷ more) first last went = none_moved becomes plan more went.0 last went.2
none_moved becomes plan (Loses ∷ more) first last went = none_moved becomes plan more went.0 last went.2
none_moved becomes plan (Rests ∷ more) first last went = none_moved becomes plan more went.0 last went.2
none_moved becomes plan (Ends ∷ more) first last went = none_moved becomes plan more went.0 last went.2
none_moved becomes plan (MovesTo next ∷ more) first last went = absurd went.1

-- an engine has opened
pub opened_reached : (o : OpeningValue) (count : ℕ) (run : RunValue) → IsSetUp o → IsFabric run.fabric
    → IsOpened o count run.fabric run.nodes run.pumps
    → IsReached (record { first = o; opening = o; jobs = no_jobs; at = Running run })
opened_reached o count run set_up whole opened = record {
  set_up = set_up;
  past = [];
  stands = opened_stands o run (run_begins o count run.fabric run.nodes run.pumps set_up.opening whole opened)
      (new_in_order o run.fabric (opened_stores o) run.nodes opened.each_node);
  open_jobs = λ id. refl;
  written = record {
    lost = [];
    all = subst (IsPermutation []) (sym (opened_without o count run opened)) (IsPermutation-refl []);
    none_lost = λ whole. refl;
  };
  plan = refl;
}

module _ (engine : EngineValue) where
  -- where an engine in an epoch stands
  pub running_stands : (run : RunValue) → engine.at ≡ Running run → (reached : IsReached engine)
      → Stands engine.first reached.past engine.opening (Running run)
  running_stands run at reached = subst (λ (a : AtValue). Stands engine.first reached.past engine.opening a) at reached.stands

  pub between_stands : (g : GatheredValue) (is_due : Bool) → engine.at ≡ Between g is_due → (reached : IsReached engine)
      → Stands engine.first reached.past engine.opening (Between g is_due)
  between_stands g is_due at reached = subst (λ (a : AtValue). Stands engine.first reached.past engine.opening a) at reached.stands

  receipts_at : (at : AtValue) → engine.at ≡ at → IsReached engine → AreReceipts engine.jobs.events (receipts_in at)
  receipts_at at is reached = subst (λ (a : AtValue). AreReceipts engine.jobs.events (receipts_in a)) is reached.written

  -- in an epoch these are all nodes and pumps of the run, and the nodes are in the order of their partitions
  pub running_all : (run : RunValue) → engine.at ≡ Running run → IsReached engine → AreAllOf run.fabric run.nodes run.pumps
  running_all run at reached = (running_stands run at reached).3.stage.all

  pub running_order : (run : RunValue) → engine.at ≡ Running run → IsReached engine → InPartOrder run.nodes
  running_order run at reached = (running_stands run at reached).3.order

  -- events that say nothing of receipts or plans were added
  module _ (jobs : OpenJobsValue) (more : List Event) (adds : AddsEach more engine.jobs jobs)
      (none : arrivals_in more ≡ []) (stays : (plan : PlanValue) → plan_after plan more ≡ plan) (reached : IsReached engine) where
    pub more_jobs : IsReached (record engine { jobs = jobs })
    more_jobs = record {
      set_up = reached.set_up;
      past = reached.past;
      stands = reached.stands;
      open_jobs = open_on more engine.jobs jobs adds reached.open_jobs;
      written = subst (λ (events : List Event). AreReceipts events (receipts_in engine.at)) (sym adds.events)
          (same_receipts engine.jobs.events more (receipts_in engine.at) none reached.written);
      plan = reached.plan
          ∙ sym (ap (plan_after engine.first.new) adds.events ∙ plan_on engine.first.new engine.jobs.events more
          ∙ stays (plan_after engine.first.new engine.jobs.events));
    }

  -- a job was posted
  pub posted_reached : (job : Job) (jobs : OpenJobsValue) → Adds (Posts job) engine.jobs jobs → IsReached engine
      → IsReached (record engine { jobs = jobs })
  posted_reached job jobs adds reached =
      more_jobs jobs (Posts job ∷ []) (adds_one (Posts job) engine.jobs jobs adds) refl (λ plan. refl) reached

  -- no event was added, and the same jobs are open
  pub kept_reached : (jobs : OpenJobsValue) → KeepsJobs engine.jobs jobs → IsReached engine → IsReached (record engine { jobs = jobs })
  kept_reached jobs keeps reached =
      more_jobs jobs [] (record { events = keeps.events ∙ sym (append-nil engine.jobs.events); jobs = keeps.jobs })
      refl (λ plan. refl) reached

  -- the epoch has ended, and this was gathered of it
  pub gathered_reached : (run : RunValue) (g : GatheredValue) → engine.at ≡ Running run
      → IsGathered run.fabric run.nodes run.pumps g
      → ((o : OpeningValue) (began : BeganWith) → IsOpening o → HoldsInStage o began run.fabric run.nodes → IsPlaced o g)
      → ((o : OpeningValue) (began : BeganWith) → IsOpening o → HoldsInStage o began run.fabric run.nodes → GoOn began g)
      → IsReached engine → IsReached (record engine { at = Between g false })
  gathered_reached run g at gathered placed grows reached = record {
    set_up = reached.set_up;
    past = record { opening = engine.opening; gathered = g } ∷ reached.past;
    stands = gathered_stands engine.first engine.opening reached.past run g reached.set_up.opening gathered placed grows (running_stands run at reached);
    open_jobs = reached.open_jobs;
    written = subst (AreReceipts engine.jobs.events) (sym (gathered_keeps run g gathered (running_order run at reached)))
        (receipts_at (Running run) at reached);
    plan = reached.plan;
  }

  -- the next stage has begun
  pub stage_reached : (g : GatheredValue) (run : RunValue) (o : OpeningValue) (count : ℕ) → engine.at ≡ Between g false
      → IsStageDone engine.opening g → g.stage + 1 < stages engine.opening.recon
      → ((rows : TableValue) → IsNextStageOf (folded_opening engine.opening rows) g run.fabric run.nodes run.pumps)
      → IsReopened o (g.stage + 1) g.stores g.receipts count run.fabric run.nodes run.pumps
      → IsReached engine → IsReached (record engine { at = Running run })
  stage_reached g run o count at done more runs opened reached = record {
    set_up = reached.set_up;
    past = reached.past;
    stands = stage_stands engine.first engine.opening reached.past g run done more runs
        (new_in_order o run.fabric g.stores run.nodes opened.each_node) (between_stands g false at reached);
    open_jobs = reached.open_jobs;
    written = subst (AreReceipts engine.jobs.events) (sym (reopened_keeps o (g.stage + 1) g.stores g.receipts count run opened))
        (receipts_at (Between g false) at reached);
    plan = reached.plan;
  }

  -- the first stage of a move that was due has begun
  pub move_reached : (g : GatheredValue) (run : RunValue) (o : OpeningValue) (count : ℕ) → engine.at ≡ Between g true
      → ((rows : TableValue) → IsFirstStageAfter (folded_opening engine.opening rows) g run.fabric run.nodes run.pumps)
      → IsReopened o 0 g.stores g.receipts count run.fabric run.nodes run.pumps
      → IsReached engine → IsReached (record engine { at = Running run })
  move_reached g run o count at runs opened reached = record {
    set_up = reached.set_up;
    past = reached.past;
    stands = move_stands engine.first engine.opening reached.past g run runs
        (new_in_order o run.fabric g.stores run.nodes opened.each_node) (between_stands g true at reached);
    open_jobs = reached.open_jobs;
    written = subst (AreReceipts engine.jobs.events) (sym (reopened_keeps o 0 g.stores g.receipts count run opened))
        (receipts_at (Between g true) at reached);
    plan = reached.plan;
  }

  -- a move to `plan` is due, with its event, or with none if it is the plan that was reached
  module _ (g : GatheredValue) (plan : PlanValue) (limit : ℕ) (at : engine.at ≡ Between g false) (done : IsStageDone engine.opening g)
      (last : g.stage + 1 ≡ stages engine.opening.recon) (set_up : IsSetUp (onward_opening engine.opening plan limit)) (reached : IsReached engine) where
    pub due_reached : (jobs : OpenJobsValue) → Adds (MovesTo plan) engine.jobs jobs
        → IsReached (record engine { opening = onward_opening engine.opening plan limit; jobs = jobs; at = Between g true })
    due_reached jobs adds =
        let more : List Event = MovesTo plan ∷ [] in
        record {
          set_up = set_up;
          past = reached.past;
          stands = due_stands engine.first engine.opening reached.past g plan limit reached.set_up.opening done last (between_stands g false at reached);
          open_jobs = open_on more engine.jobs jobs (adds_one (MovesTo plan) engine.jobs jobs adds) reached.open_jobs;
          written = subst (λ (events : List Event). AreReceipts events g.receipts) (sym adds.events)
              (same_receipts engine.jobs.events more g.receipts refl (receipts_at (Between g false) at reached));
          plan = sym (ap (plan_after engine.first.new) adds.events ∙ plan_on engine.first.new engine.jobs.events more);
        }

    pub rest_reached : plan ≡ engine.opening.new
        → IsReached (record engine { opening = onward_opening engine.opening plan limit; at = Between g true })
    rest_reached same = record {
      set_up = set_up;
      past = reached.past;
      stands = due_stands engine.first engine.opening reached.past g plan limit reached.set_up.opening done last (between_stands g false at reached);
      open_jobs = reached.open_jobs;
      written = receipts_at (Between g false) at reached;
      plan = same ∙ reached.plan;
    }

-- an epoch ran in which a client was served
pub epoch_reached : {X : Type 0} (becomes : X → ClientCall → X → Type 0) (old : EngineValue) (opening : OpeningValue) (run driven : RunValue)
    (jobs : OpenJobsValue) (more : List Event) (end : EpochEnd) (before after : X)
    → RunsIn more run old.jobs end driven jobs → ChangesClientEach becomes before more after
    → IsReached (in_epoch old opening run old.jobs) → IsReached (in_epoch old opening driven jobs)
epoch_reached becomes old opening run driven jobs more end before after runs went reached = record {
  set_up = reached.set_up;
  past = reached.past;
  stands = driven_stands old.first opening reached.past run driven reached.set_up.opening runs.only reached.stands;
  open_jobs = open_on more old.jobs jobs runs.jobs reached.open_jobs;
  written = subst (λ (events : List Event). AreReceipts events (receipts_of driven)) (sym runs.jobs.events)
      (epoch_receipts old.jobs.events more run driven runs.only runs.arrive reached.written);
  plan = reached.plan
      ∙ sym (ap (plan_after old.first.new) runs.jobs.events ∙ plan_on old.first.new old.jobs.events more
      ∙ none_moved becomes (plan_after old.first.new old.jobs.events) more before after went);
}

-- an opening that goes on is set up, whatever rows the one in memory has
pub set_up_onward : (kept : OpeningValue) (plan : PlanValue) (limit : ℕ) (rows : TableValue) → IsSetUp (folded_opening kept rows)
    → IsSetUp (onward_opening kept plan limit) → IsSetUp (onward_opening (folded_opening kept rows) plan limit)
set_up_onward kept plan limit rows was is = record {
  opening = rowless_opening (onward_opening kept plan limit) rows is.opening;
  some_table = is.some_table;
  few_tables = is.few_tables;
  width = is.width;
  small_limit = is.small_limit;
  rising = was.rising;
  rows = was.rows;
  roots = was.roots;
}

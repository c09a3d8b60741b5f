-- An engine by its fields, and what holds of it after a step that changes them.
use Rattle.std.proofs.Common.{ℕ, ◌≡◌, ◌+◌, ◌<◌, Bool, true, false, List, [], ◌∷◌, ◌++◌, sym, ap, ◌∙◌, subst}
use Rattle.sq_plan.specs.PlanValue.{PlanValue}
use Rattle.sq_moves.specs.ReconValue.{stages}
use Rattle.sq_moves.specs.OpeningValue.{OpeningValue}
use Rattle.sq_moves.specs.SetUp.{IsSetUp}
use Rattle.sq_node_model.specs.Gathered.{GatheredValue}
use Rattle.sq_node.specs.declared.run_parts.RunParts.{RunParts}
use Rattle.sq_engine.specs.declared.at.At.TheVariants as place
use Rattle.sq_engine.specs.declared.engine.Engine.TheInside.{Inside}
use Rattle.sq_engine.specs.declared.event.Event.{Event}
use Rattle.sq_engine.specs.declared.event.Event.TheVariants.{MovesTo}
use Rattle.sq_engine.specs.Open.{OpenJobsValue, job_at, Adds}
use Rattle.sq_engine.specs.Values.{RunValue, AtValue, Between, EngineValue, run_value, at_value, engine_value, IsMadeDue}
use Rattle.sq_engine.specs.History.{onward_opening}
use Rattle.sq_engine.specs.Engine.{IsReached, KeepsOpening, EndsMove}
use Rattle.sq_engine.proofs.Epochs.{between_stage}
use Rattle.sq_engine.proofs.Reached.{between_stands, due_reached, rest_reached, set_up_onward}

abbrev pub here : Inside → EngineValue
here e = engine_value e.first.value e.opening e.jobs (at_value e.at)

-- a run with its values
abbrev pub run_of : RunParts → RunValue
run_of run = run_value run.fabric run.nodes.items run.pumps.items

-- an engine between two epochs, as its fields tell
pub between_at : (e : Inside) (g : GatheredValue) (due is_due : Bool) → e.at ≡ place.Between g due → due ≡ is_due → (here e).at ≡ Between g is_due
between_at e g due is_due at same = ap at_value at ∙ ap (λ (b : Bool). Between g b) same

-- an engine that is elsewhere now goes on
pub goes_to : (old engine : EngineValue) (at : AtValue) → engine ≡ old → KeepsOpening old (record engine { at = at })
goes_to old engine at same = record { same = ap (λ (e : EngineValue). record e { at = at }) same }

module _ (engine : EngineValue) (g : GatheredValue) (at : engine.at ≡ Between g false) (reached : IsReached engine) where
  pub stage_between : g.stage < stages engine.opening.recon
  stage_between = between_stage engine.first reached.past engine.opening g (between_stands engine g false at reached)

-- a move is due after the last stage of the one before
module _ (e : Inside) (plan : PlanValue) (limit : ℕ) (kept : OpeningValue) (at : AtValue) (opening : kept ≡ onward_opening e.opening plan limit) (set_up : IsSetUp kept)
    (made : IsMadeDue (at_value e.at) at) (ends : EndsMove (here e)) (reached : IsReached (here e)) where
  due_at : at ≡ Between ends.gathered true
  due_at =
      let same : Between made.0 false ≡ Between ends.gathered false = sym made.1 ∙ ends.at in
      let g : made.0 ≡ ends.gathered = cc in
      made.2 ∙ ap (λ (x : GatheredValue). Between x true) g

  set_up_then : IsSetUp (onward_opening (here e).opening plan limit)
  set_up_then = set_up_onward e.opening plan limit e.first.value.table reached.set_up (subst IsSetUp opening set_up)

  pub rest_here : plan ≡ e.opening.new → IsReached (engine_value e.first.value kept e.jobs at)
  rest_here same =
      subst (λ (p : OpeningValue × AtValue). IsReached (engine_value e.first.value p.0 e.jobs p.1)) (λ i. (sym opening i, sym due_at i))
      (rest_reached (here e) ends.gathered plan limit ends.at ends.done ends.last set_up_then reached same)

  pub due_here : (jobs : OpenJobsValue) → Adds (MovesTo plan) e.jobs jobs → IsReached (engine_value e.first.value kept jobs at)
  due_here jobs adds =
      subst (λ (p : OpeningValue × AtValue). IsReached (engine_value e.first.value p.0 jobs p.1)) (λ i. (sym opening i, sym due_at i))
      (due_reached (here e) ends.gathered plan limit ends.at ends.done ends.last set_up_then reached jobs adds)

-- the event that a move begins leaves the open jobs as they are
pub adds_move : (plan : PlanValue) (old new : OpenJobsValue) (events : List Event) → events ≡ old.events ++ MovesTo plan ∷ []
    → new ≡ record old { events = events } → Adds (MovesTo plan) old new
adds_move plan old new events more same = record {
  events = ap (λ (j : OpenJobsValue). j.events) same ∙ more;
  jobs = λ id. ap (λ (j : OpenJobsValue). job_at j.unanswered id) same;
}

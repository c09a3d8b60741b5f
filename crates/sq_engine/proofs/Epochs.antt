-- The epochs of an engine, one after another: what holds of what each left, and how the next begins.
use Rattle.std.proofs.Common.{◌≡◌, inl, inr, ℕ, ◌+◌, ◌<◌, true, false, List, [], ◌∷◌, ◌++◌, length, refl, sym, ap, ◌∙◌, subst}
use Rattle.std.specs.List.{flat_map}
use Rattle.sq_schema.specs.Table.{TableValue}
use Rattle.sq_plan.specs.PlanValue.{PlanValue}
use Rattle.sq_moves.specs.ReconValue.{ReconValue, stages}
use Rattle.sq_moves.specs.OpeningValue.{OpeningValue}
use Rattle.sq_moves.specs.Opening.{IsOpening}
use Rattle.sq_moves.proofs.Stages.{some_stage}
use Rattle.sq_node_model.specs.NodeValue.{ReceiptValue}
use Rattle.sq_node_model.specs.BeganWith.{BeganWith, first_began}
use Rattle.sq_node_model.specs.Gathered.{GatheredValue}
use Rattle.sq_node_model.specs.Placed.{IsPlaced, GoOn}
use Rattle.sq_node_model.specs.Next.{IsStageDone, onward_began}
use Rattle.sq_node_model.specs.Folded.{folded_opening}
use Rattle.sq_node.specs.FabricValue.{FabricValue}
use Rattle.sq_node.specs.NodeState.{NodeState}
use Rattle.sq_gather.specs.Gathered.{HoldsInStage, InPartOrder, IsGathered}
use Rattle.sq_gather.specs.Reopened.{IsRunInStage, IsNextStageOf, IsFirstStageAfter}
use Rattle.sq_gather.proofs.Running.{run_goes_on, holds_in_stage}
use Rattle.sq_gather.proofs.Workers.{each_stays, each_pump_stays, still_in_order}
use Rattle.sq_engine.specs.Values.{RunValue, Running, Between}
use Rattle.sq_engine.specs.Serving.{OnlyDriven}
use Rattle.sq_engine.specs.History.{StartValue, EndedEpoch, first_start, stage_start, onward_opening, move_start, HasLeft, Follows, StartsAfter, HaveCome, IsDueAfter, Stands}

-- what an epoch left is placed under the opening in force, and has jobs for each partition
ran_placed : (start : StartValue) (last : EndedEpoch) → HasLeft start last → IsPlaced last.opening last.gathered
ran_placed start last left = subst (λ (o : OpeningValue). IsPlaced o last.gathered) (sym left.opening) left.placed

left_whole : (start : StartValue) (last : EndedEpoch) → HasLeft start last → length last.gathered.left ≡ last.opening.old.parts
left_whole start last left = left.all_left ∙ ap (λ (o : OpeningValue). o.old.parts) (sym left.opening)

module _ (o : OpeningValue) where
  -- what each epoch left is placed
  pub placed_there : (earlier : List EndedEpoch) (last : EndedEpoch) → HaveCome o (last ∷ earlier) → IsPlaced last.opening last.gathered
  placed_there earlier last come = ran_placed come.1.0 last come.1.2

  pub left_there : (earlier : List EndedEpoch) (last : EndedEpoch) → HaveCome o (last ∷ earlier)
      → length last.gathered.left ≡ last.opening.old.parts
  left_there earlier last come = left_whole come.1.0 last come.1.2

  -- an epoch begins in one of the stages, and leaves what was gathered of one
  begins_within : (past : List EndedEpoch) (start : StartValue) → StartsAfter o past start → start.began.stage < stages start.opening.recon
  begins_within [] start begins = subst (λ (s : StartValue). s.began.stage < stages s.opening.recon) (sym begins) (some_stage o.recon)
  begins_within (last ∷ earlier) start follows =
      elim follows.1 [
        | inl next ↦ subst (λ (s : StartValue). s.began.stage < stages s.opening.recon) (sym next.1) next.0
        | inr move ↦
            subst (λ (s : StartValue). s.began.stage < stages s.opening.recon) (sym move.3)
            (some_stage (onward_opening last.opening move.1 move.2).recon)
      ]

  pub stage_there : (earlier : List EndedEpoch) (last : EndedEpoch) → HaveCome o (last ∷ earlier)
      → last.gathered.stage < stages last.opening.recon
  stage_there earlier last come =
      let left = come.1.2 in
      subst (λ (p : ℕ × ReconValue). p.0 < stages p.1)
      (λ i. (sym left.stage i, ap (λ (a : OpeningValue). a.recon) (sym left.opening) i)) (begins_within earlier come.1.0 come.1.1)

  -- each epoch begins with the rows that the engine opened with
  pub rows_at_start : (past : List EndedEpoch) (start : StartValue) → HaveCome o past → StartsAfter o past start → start.opening.table ≡ o.table
  rows_at_start [] start come begins = ap (λ (s : StartValue). s.opening.table) begins
  rows_at_start (last ∷ earlier) start come follows =
      let here : last.opening.table ≡ o.table =
      ap (λ (a : OpeningValue). a.table) come.1.2.opening ∙ rows_at_start earlier come.1.0 come.0 come.1.1 in
      elim follows.1 [
        | inl next ↦ ap (λ (s : StartValue). s.opening.table) next.1 ∙ here
        | inr move ↦ ap (λ (s : StartValue). s.opening.table) move.3 ∙ here
      ]

  pub rows_there : (earlier : List EndedEpoch) (last : EndedEpoch) → HaveCome o (last ∷ earlier) → last.opening.table ≡ o.table
  rows_there earlier last come =
      ap (λ (a : OpeningValue). a.table) come.1.2.opening ∙ rows_at_start earlier come.1.0 come.0 come.1.1

  -- the first epoch
  pub opened_stands : (run : RunValue) → IsRunInStage o (first_began o) run.fabric run.nodes run.pumps → InPartOrder run.nodes
      → Stands o [] o (Running run)
  opened_stands run stage order = (tt, first_start o, refl, record { opening_is = refl; stage = stage; order = order })

  module _ (opening : OpeningValue) where
    -- an epoch runs still after its workers were driven
    pub driven_stands : (past : List EndedEpoch) (old new : RunValue) → IsOpening opening → OnlyDriven old new
        → Stands o past opening (Running old) → Stands o past opening (Running new)
    driven_stands past old new is driven at =
        let start = at.1 in
        let running = at.3 in
        let nodes =
        each_stays old.fabric old.nodes new.nodes driven.nodes.count
        (λ i d lt. let was = driven.nodes.each i d lt in record { part = was.part; of = was.stays; holds = was.holds }) in
        let pumps =
        each_pump_stays old.fabric old.pumps new.pumps driven.pumps.count
        (λ i d lt. let was = driven.pumps.each i d lt in record { of = was.stays; claims = was.claims }) in (
          at.0,
          start,
          at.2,
          record {
            opening_is = running.opening_is;
            stage = subst (λ (fabric : FabricValue). IsRunInStage start.opening start.began fabric new.nodes new.pumps) (sym driven.fabric)
                (run_goes_on start.opening start.began old.fabric old.nodes new.nodes old.pumps new.pumps
                (subst IsOpening running.opening_is is) running.stage nodes pumps);
            order = still_in_order old.fabric old.nodes new.nodes nodes running.order;
          },
        )

    -- an epoch ends with what is gathered of it
    pub gathered_stands : (past : List EndedEpoch) (run : RunValue) (g : GatheredValue) → IsOpening opening
        → IsGathered run.fabric run.nodes run.pumps g
        → ((a : OpeningValue) (began : BeganWith) → IsOpening a → HoldsInStage a began run.fabric run.nodes → IsPlaced a g)
        → ((a : OpeningValue) (began : BeganWith) → IsOpening a → HoldsInStage a began run.fabric run.nodes → GoOn began g)
        → Stands o past opening (Running run)
        → Stands o (record { opening = opening; gathered = g } ∷ past) opening (Between g false)
    gathered_stands past run g is gathered placed grows at =
        let start = at.1 in
        let running = at.3 in
        let stage = running.stage in
        let there = subst IsOpening running.opening_is is in
        let holds = holds_in_stage start.opening start.began run.fabric run.nodes run.pumps stage in
        let written = flat_map (λ (node : NodeState). node.receipts) gathered.by_part in (
          (
            at.0,
            (
              start,
              at.2,
              record {
                opening = running.opening_is;
                stage = gathered.stage ∙ sym stage.begun.stage;
                placed = placed start.opening start.began there holds;
                goes_on = grows start.opening start.began there holds;
                written = written;
                receipts = gathered.receipts ∙ ap (λ (list : List ReceiptValue). list ++ written) (sym stage.begun.receipts);
                all_left = gathered.left ∙ stage.shared.parts;
              },
            ),
          ),
          refl,
        )

    -- the next stage runs
    pub stage_stands : (past : List EndedEpoch) (g : GatheredValue) (run : RunValue)
        → IsStageDone opening g → g.stage + 1 < stages opening.recon
        → ((rows : TableValue) → IsNextStageOf (folded_opening opening rows) g run.fabric run.nodes run.pumps)
        → InPartOrder run.nodes → Stands o past opening (Between g false) → Stands o past opening (Running run)
    stage_stands [] g run done more runs order at = absurd at
    stage_stands (last ∷ earlier) g run done more runs order at =
        let here : EndedEpoch = record { opening = opening; gathered = g } in
        let placed = subst (λ (e : EndedEpoch). IsPlaced e.opening e.gathered) at.1 (placed_there earlier last at.0) in (
          at.0,
          stage_start here,
          subst (λ (e : EndedEpoch). Follows e (stage_start here)) (sym at.1) (done, inl (more, refl)),
          record { opening_is = refl; stage = runs opening.table placed done; order = order },
        )

    -- a move to a plan is due
    pub due_stands : (past : List EndedEpoch) (g : GatheredValue) (plan : PlanValue) (limit : ℕ) → IsOpening opening
        → IsStageDone opening g → g.stage + 1 ≡ stages opening.recon
        → Stands o past opening (Between g false) → Stands o past (onward_opening opening plan limit) (Between g true)
    due_stands [] g plan limit is done end at = absurd at
    due_stands (last ∷ earlier) g plan limit is done end at = (
      at.0,
      ap (λ (e : EndedEpoch). e.gathered) at.1,
      subst (λ (e : EndedEpoch). IsDueAfter e (onward_opening opening plan limit)) (sym at.1)
          (record { was = is; done = done; end = end; plan = plan; limit = limit; opening = refl }),
    )

    -- the first stage of a move that is due runs
    pub move_stands : (past : List EndedEpoch) (g : GatheredValue) (run : RunValue)
        → ((rows : TableValue) → IsFirstStageAfter (folded_opening opening rows) g run.fabric run.nodes run.pumps)
        → InPartOrder run.nodes → Stands o past opening (Between g true) → Stands o past opening (Running run)
    move_stands [] g run runs order at = absurd at
    move_stands (last ∷ earlier) g run runs order at =
        let is = at.2 in
        let plan = is.plan in
        let same : last.gathered ≡ g = at.1 in
        let stage : IsRunInStage opening (onward_began last.opening g) run.fabric run.nodes run.pumps =
        runs opening.table last.opening is.was
        (subst (λ (h : GatheredValue). IsPlaced last.opening h) same (placed_there earlier last at.0))
        (subst (λ (h : GatheredValue). IsStageDone last.opening h) same is.done)
        (record {
          last = ap (λ (h : GatheredValue). h.stage + 1) (sym same) ∙ is.end;
          plan = ap (λ (a : OpeningValue). a.old) is.opening;
          rows = ap (λ (a : OpeningValue). a.table) is.opening;
        }) in (
          at.0,
          move_start last plan is.limit,
          (is.done, inr (is.end, plan, is.limit, refl)),
          record {
            opening_is = is.opening;
            stage = subst (λ (p : OpeningValue × GatheredValue). IsRunInStage p.0 (onward_began last.opening p.1) run.fabric run.nodes run.pumps)
                (λ i. (is.opening i, sym same i)) stage;
            order = order;
          },
        )

  -- between two epochs, what was gathered is placed under the opening that was in force, of one of its stages, and has jobs for each
  -- partition
  pub between_placed : (past : List EndedEpoch) (opening : OpeningValue) (g : GatheredValue) → Stands o past opening (Between g false) → IsPlaced opening g
  between_placed [] opening g at = absurd at
  between_placed (last ∷ earlier) opening g at = subst (λ (e : EndedEpoch). IsPlaced e.opening e.gathered) at.1 (placed_there earlier last at.0)

  pub between_stage : (past : List EndedEpoch) (opening : OpeningValue) (g : GatheredValue) → Stands o past opening (Between g false)
      → g.stage < stages opening.recon
  between_stage [] opening g at = absurd at
  between_stage (last ∷ earlier) opening g at =
      subst (λ (e : EndedEpoch). e.gathered.stage < stages e.opening.recon) at.1 (stage_there earlier last at.0)

  pub between_rows : (past : List EndedEpoch) (opening : OpeningValue) (g : GatheredValue) → Stands o past opening (Between g false)
      → opening.table ≡ o.table
  between_rows [] opening g at = absurd at
  between_rows (last ∷ earlier) opening g at =
      ap (λ (e : EndedEpoch). e.opening.table) (sym at.1) ∙ rows_there earlier last at.0

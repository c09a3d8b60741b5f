-- Runs: how they begin, how they continue, and how the next stage and the next move begin.
use Rattle.std.proofs.Common.{◌≡◌, ℕ, ◌+◌, List, length, refl, sym, ◌∙◌}
use Rattle.sq_moves.specs.OpeningValue.{OpeningValue}
use Rattle.sq_moves.specs.Opening.{IsOpening}
use Rattle.sq_shared.specs.Pump.{PumpValue}
use Rattle.sq_node_model.specs.BeganWith.{BeganWith, first_began, CanBegin}
use Rattle.sq_node_model.specs.Gathered.{GatheredValue}
use Rattle.sq_node_model.specs.Placed.{IsPlaced}
use Rattle.sq_node_model.specs.Next.{IsStageDone, IsNextMove, next_began, onward_began}
use Rattle.sq_node_model.proofs.Began.{first_can}
use Rattle.sq_node_model.proofs.Next.{can_next, opens_next}
use Rattle.sq_node_model.proofs.Onward.{can_onward, opens_onward}
use Rattle.sq_node.specs.FabricValue.{FabricValue, HasBegun, IsFabric}
use Rattle.sq_node.specs.NodeState.{NodeState}
use Rattle.sq_node.specs.Opened.{AllHoldUnder, AllOpenWith, IsReopened, IsOpened}
use Rattle.sq_gather.specs.Gathered.{HoldsInStage}
use Rattle.sq_gather.specs.Reopened.{IsRunInStage, AllStay, AllPumpsStay}
use Rattle.sq_gather.proofs.AllOf.{all_of_new, all_of_opened}
use Rattle.sq_gather.proofs.Workers.{still_all}

-- what a run opens with is a run in its first stage
pub run_begins : (o : OpeningValue) (count : ℕ) (fabric : FabricValue) (nodes : List NodeState) (pumps : List PumpValue) → IsOpening o → IsFabric fabric → IsOpened o count fabric nodes pumps → IsRunInStage o (first_began o) fabric nodes pumps
run_begins o count fabric nodes pumps opening is opened =
    record {
      shared = opened.shared;
      begun = opened.begun;
      can = first_can o;
      all = all_of_opened o count fabric nodes pumps opened;
      hold = opened.hold;
    }

-- a run whose nodes and pumps stay is one still
pub run_goes_on : (o : OpeningValue) (began : BeganWith) (fabric : FabricValue) (old new : List NodeState) (before after : List PumpValue) → IsOpening o → IsRunInStage o began fabric old before → AllStay fabric old new → AllPumpsStay fabric before after → IsRunInStage o began fabric new after
run_goes_on o began fabric old new before after opening run nodes pumps =
    record {
      shared = run.shared;
      begun = run.begun;
      can = run.can;
      all = still_all fabric old new before after run.all nodes pumps;
      hold = λ part node there.
          let was = nodes.each part node there in
          was.2.holds o began opening (run.hold part was.0 was.1);
    }

-- what is gathered of a run can be placed
pub holds_in_stage : (o : OpeningValue) (began : BeganWith) (fabric : FabricValue) (nodes : List NodeState) (pumps : List PumpValue) → IsRunInStage o began fabric nodes pumps → HoldsInStage o began fabric nodes
holds_in_stage o began fabric nodes pumps run =
    record { shared = run.shared; begun = run.begun; can = run.can; hold = λ part node there. (run.hold part node there).holds }

-- a stage that opens with what was gathered is a run that began so, where it could begin so
run_opens : (o : OpeningValue) (began : BeganWith) (g : GatheredValue) (count : ℕ) (fabric : FabricValue) (nodes : List NodeState) (pumps : List PumpValue) → IsOpening o → length g.stores ≡ o.old.parts
    → began.receipts ≡ g.receipts → CanBegin o began → AllOpenWith o began g.stores → IsFabric fabric → IsReopened o began.stage g.stores g.receipts count fabric nodes pumps
    → ((began : BeganWith) → HasBegun began fabric → CanBegin o began → AllOpenWith o began g.stores → AllHoldUnder o began nodes)
    → IsRunInStage o began fabric nodes pumps
run_opens o began g count fabric nodes pumps opening whole told can opens is resumed hold =
    let begun : HasBegun began fabric = record { stage = sym resumed.stage; receipts = told ∙ sym resumed.receipts } in
    record {
      shared = resumed.shared;
      begun = begun;
      can = can;
      all = all_of_new o count g.stores fabric nodes pumps resumed.shared whole resumed.seats resumed.each_node resumed.each_pump;
      hold = hold began begun can opens;
    }

-- the stage after the one that was gathered is a run of what was gathered, where that is placed and the segments are complete
pub run_resumes : (o : OpeningValue) (g : GatheredValue) (count : ℕ) (fabric : FabricValue) (nodes : List NodeState) (pumps : List PumpValue) → IsOpening o → IsPlaced o g → IsStageDone o g → IsFabric fabric
    → IsReopened o (g.stage + 1) g.stores g.receipts count fabric nodes pumps
    → ((began : BeganWith) → HasBegun began fabric → CanBegin o began → AllOpenWith o began g.stores → AllHoldUnder o began nodes)
    → IsRunInStage o (next_began o g) fabric nodes pumps
run_resumes o g count fabric nodes pumps opening placed done is resumed hold =
    run_opens o (next_began o g) g count fabric nodes pumps opening placed.fit.parts.all_stores refl (can_next o opening g placed done) (opens_next o opening g placed done) is resumed hold

-- so is the first stage of a move that follows, where the stage that was gathered is the last of its own
pub run_moves_on : (o next : OpeningValue) (g : GatheredValue) (count : ℕ) (fabric : FabricValue) (nodes : List NodeState) (pumps : List PumpValue) → IsOpening o → IsOpening next → IsPlaced o g → IsStageDone o g → IsNextMove o g next
    → length g.stores ≡ next.old.parts → IsFabric fabric → IsReopened next 0 g.stores g.receipts count fabric nodes pumps
    → ((began : BeganWith) → HasBegun began fabric → CanBegin next began → AllOpenWith next began g.stores → AllHoldUnder next began nodes)
    → IsRunInStage next (onward_began o g) fabric nodes pumps
run_moves_on o next g count fabric nodes pumps opening another placed done follows whole is opened hold =
    run_opens next (onward_began o g) g count fabric nodes pumps another whole refl (can_onward o next g opening placed done follows.rows)
    (λ part store there. opens_onward o next g part store opening placed done follows.last follows.plan there) is opened hold

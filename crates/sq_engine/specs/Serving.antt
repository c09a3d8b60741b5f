-- An epoch in which a client is served.
use Rattle.std.specs.Prelude.{◌≡◌, ◌≢◌, ℕ, ◌<◌, ◌≤◌, Bool, true, false, if◌then◌else◌, List, [], ◌++◌, length, slice_index_or, vec_capacity, All}
use Rattle.sq_node_model.specs.NodeValue.{ReceiptValue}
use Rattle.sq_node.specs.NodeState.{NodeState}
use Rattle.sq_driver.specs.Nodes.{AllDriven}
use Rattle.sq_driver.specs.Pumps.{AllPumpsDriven}
use Rattle.sq_driver.specs.declared.attendance.WorkersEnd.{WorkersEnd}
use Rattle.sq_driver.specs.declared.attendance.WorkersEnd.TheVariants as workers
use Rattle.sq_engine.specs.declared.event.Event.{Event}
use Rattle.sq_engine.specs.declared.serving.Ready.{Ready}
use Rattle.sq_engine.specs.declared.serving.ServedRun.{ServedRun}
use Rattle.sq_engine.specs.declared.serving.EpochEnd.{EpochEnd}
use Rattle.sq_engine.specs.declared.serving.EpochEnd.TheVariants.{Whole, LacksThreads, ReceiptUnknown, LacksMemory, ReceiptLost}
use Rattle.sq_engine.specs.Events.{arrived_from, commands_in, are_known, are_whole}
use Rattle.sq_engine.specs.Open.{OpenJobsValue, AddsEach}
use Rattle.sq_engine.specs.Clients.{ClientCall, ChangesClientEach, NamesPartition}
use Rattle.sq_engine.specs.Telling.{tellers_of, AreNewRings}
use Rattle.sq_engine.specs.Values.{RunValue, run_value}

-- nodes with tellers that send over rings, over which nothing was sent yet, and room for the nodes
pub record IsReady (parts : ℕ) (ready : Ready) : Type 0 where
  pub rings : AreNewRings parts (tellers_of ready.crew.pairs.items) ready.rings.items
  pub none : ready.room.items ≡ []
  pub room : length ready.crew.pairs.items ≤ vec_capacity ready.room

-- what arrived of a node is what it wrote, in order, but for the last ones, `missing`
pub record Arrives (arrived missing : List ReceiptValue) (old new : NodeState) : Type 0 where
  pub written : new.receipts ≡ old.receipts ++ arrived ++ missing

-- the receipts that arrived in these events are those that the nodes wrote, each once, those of
-- each partition in their order; if receipts were lost, the last ones of a partition are missing,
-- else none is
pub record AllArrive (more : List Event) (old new : List NodeState) : Type 0 where
  pub each : (part : ℕ) (d : NodeState) → part < length old
      → (missing : List ReceiptValue) × Arrives (arrived_from part more) missing (slice_index_or old part d) (slice_index_or new part d)
      × (are_whole more ≡ true → missing ≡ [])
  pub no_other : (part : ℕ) → length old ≤ part → arrived_from part more ≡ []
  pub lost : are_whole more ≡ false → (part : ℕ) × (part < length old)
      × ((d : NodeState) → (missing : List ReceiptValue) × (missing ≢ [])
      × Arrives (arrived_from part more) missing (slice_index_or old part d) (slice_index_or new part d))

-- the workers of a run were driven, and nothing else changed
pub record OnlyDriven (old new : RunValue) : Type 0 where
  pub fabric : new.fabric ≡ old.fabric
  pub nodes : AllDriven old.fabric old.nodes new.nodes
  pub pumps : AllPumpsDriven old.fabric old.pumps new.pumps

-- how an epoch ended whose workers lacked nothing, by all events up to its end
abbrev pub end_by : List Event → EpochEnd
end_by events = if are_known events then (if are_whole events then Whole else ReceiptLost) else ReceiptUnknown

-- how an epoch ended, by all events up to its end, and by how its workers did
abbrev pub epoch_end : List Event → Bool → WorkersEnd → EpochEnd
epoch_end events false end = LacksThreads
epoch_end events true workers.LacksMemory = if are_known events then LacksMemory else ReceiptUnknown
epoch_end events true workers.LacksThreads = end_by events
epoch_end events true workers.Done = end_by events

-- the workers of a run were driven, and meanwhile these events were added, in which just what the
-- nodes wrote arrived; if a node had no thread, no client was asked for anything
pub record RunsIn (more : List Event) (run : RunValue) (old : OpenJobsValue) (end : EpochEnd) (driven : RunValue)
    (new : OpenJobsValue) : Type 0 where
  pub jobs : AddsEach more old new
  pub only : OnlyDriven run driven
  pub arrive : AllArrive more run.nodes driven.nodes
  pub named : All (NamesPartition run.fabric.parts) more
  pub none_asked : end ≡ LacksThreads → commands_in more ≡ []
  pub workers : WorkersEnd
  pub has_threads : Bool
  pub ended : end ≡ epoch_end new.events has_threads workers

-- a client was served meanwhile, and this is left
pub record IsServed {X : Type 0} (becomes : X → ClientCall → X → Type 0) (run : RunValue)
    (old : OpenJobsValue) (before : X) (served : ServedRun) (new : OpenJobsValue) (after : X) : Type 0 where
  pub more : List Event
  pub runs : RunsIn more run old served.end
      (run_value served.run.fabric served.run.nodes.items served.run.pumps.items) new
  pub client : ChangesClientEach becomes before more after

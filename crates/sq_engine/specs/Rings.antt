-- The rings of an epoch, one for each partition, by their receiving ends.
use Rattle.std.specs.Prelude.{◌≡◌, ℕ, ◌<◌, Bool, true, false, List, [], ◌++◌, length, slice_get, slice_index_or, All}
use Rattle.std.specs.Option.{option_map_or}
use Rattle.rtrb.specs.Ring.{received, SameConsumer}
use Rattle.rtrb.specs.declared.consumer.Consumer.{Consumer}
use Rattle.sq_node_model.specs.NodeValue.{ReceiptValue}
use Rattle.sq_engine.specs.declared.event.Event.{Event}
use Rattle.sq_engine.specs.Events.{arrived_from, commands_in, are_whole}
use Rattle.sq_engine.specs.Open.{OpenJobsValue}
use Rattle.sq_engine.specs.Clients.{ClientCall, Happens, NamesPartition}

module _ {A P : Type 0} where
  -- what has been received over the ring of a partition
  abbrev pub received_at : List (Consumer ReceiptValue A P) → ℕ → List ReceiptValue
  received_at rings part = option_map_or received (slice_get rings part) []

  -- the same ends of the same rings
  pub record AreSameRings (old new : List (Consumer ReceiptValue A P)) : Type 0 where
    pub count : length new ≡ length old
    pub each : (i : ℕ) (d : Consumer ReceiptValue A P) → i < length old
        → SameConsumer (slice_index_or old i d) (slice_index_or new i d)

  -- these events happened, and the receipts that arrived in them are those by which what was
  -- received over each ring grew, in its order
  pub record Passes {X : Type 0} (becomes : X → ClientCall → X → Type 0) (more : List Event)
      (old_jobs : OpenJobsValue) (old : List (Consumer ReceiptValue A P)) (before : X)
      (new_jobs : OpenJobsValue) (new : List (Consumer ReceiptValue A P)) (after : X) : Type 0 where
    pub happens : Happens becomes more old_jobs before new_jobs after
    pub rings : AreSameRings old new
    pub arrived : (part : ℕ) → received_at new part ≡ received_at old part ++ arrived_from part more
    pub named : All (NamesPartition (length old)) more
    pub whole : are_whole more ≡ true

  -- a client was given what arrived over the rings, and was asked for nothing
  pub record GivesArrived {X : Type 0} (becomes : X → ClientCall → X → Type 0)
      (old_jobs : OpenJobsValue) (old : List (Consumer ReceiptValue A P)) (before : X)
      (new_jobs : OpenJobsValue) (new : List (Consumer ReceiptValue A P)) (after : X) : Type 0 where
    pub more : List Event
    pub passes : Passes becomes more old_jobs old before new_jobs new after
    pub none_asked : commands_in more ≡ []

  -- a client was served: it was given what arrived over the rings, and its commands were executed;
  -- if a node had no thread, it was asked for nothing
  pub record Serves {X : Type 0} (becomes : X → ClientCall → X → Type 0)
      (old_jobs : OpenJobsValue) (old : List (Consumer ReceiptValue A P)) (before : X)
      (new_jobs : OpenJobsValue) (new : List (Consumer ReceiptValue A P)) (after : X) (has_threads : Bool) : Type 0 where
    pub more : List Event
    pub passes : Passes becomes more old_jobs old before new_jobs new after
    pub none_asked : has_threads ≡ false → commands_in more ≡ []

-- the receipts by which those received of a partition grew arrived, in order, and no others; and
-- the client was asked for nothing
pub record GivesGrown {X : Type 0} (becomes : X → ClientCall → X → Type 0) (part : ℕ)
    (old_jobs : OpenJobsValue) (was : List ReceiptValue) (before : X)
    (new_jobs : OpenJobsValue) (now : List ReceiptValue) (after : X) : Type 0 where
  pub more : List Event
  pub happens : Happens becomes more old_jobs before new_jobs after
  pub arrived : now ≡ was ++ arrived_from part more
  pub no_other : (other : ℕ) → (other ≡ part → ⊥) → arrived_from other more ≡ []
  pub none_asked : commands_in more ≡ []
  pub whole : are_whole more ≡ true

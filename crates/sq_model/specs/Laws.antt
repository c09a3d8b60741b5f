-- When a submitted transaction is refused, whatever came before.
use Rattle.std.specs.Prelude.{◌≡◌, ℕ, ◌<◌, ◌≤◌, true, false, length, Some}
use Rattle.sq_moves.specs.OpeningValue.{OpeningValue}
use Rattle.sq_moves.specs.declared.opening.TheConstants.{MAX_WAITING}
use Rattle.sq_model.specs.Trace.{Trace}
use Rattle.sq_model.specs.Tables.{is_full}
use Rattle.sq_model.specs.Place.{runner}
use Rattle.sq_model.specs.Waiting.{waiting, has_to_wait}

-- the partition runs a transaction on this root key, and the key's log is full
pub record FindsFullLog (o : OpeningValue) (t : Trace) (part root : ℕ) : Type 0 where
  pub exists : part < o.old.parts
  pub goes : has_to_wait o t part root ≡ false
  pub runs : runner o t root ≡ Some part
  pub full : is_full o t root ≡ true

-- a transaction on this root key has to wait at the partition, and the most that may wait there are
-- waiting
pub record FindsCrowd (o : OpeningValue) (t : Trace) (part root : ℕ) : Type 0 where
  pub exists : part < o.old.parts
  pub waits : has_to_wait o t part root ≡ true
  pub crowd : MAX_WAITING ≤ length (waiting o t part)

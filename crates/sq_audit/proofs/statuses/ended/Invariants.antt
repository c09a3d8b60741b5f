use Rattle.std.proofs.Common.{◌≡◌, ℕ, take}
use Rattle.std.specs.List.{flat_map}
use Rattle.std.specs.BTreeSet.{contains}
use Rattle.sq_gather.specs.Prelude.{has_last, loads_of}
use Rattle.sq_audit.specs.Counts.{key_order}
use Rattle.sq_audit.proofs.statuses.ended.Given as goal

abbrev pub invariant-loop-link : goal.invariant-loop-link
invariant-loop-link l = (seg node : ℕ) → contains key_order l.ended (seg, node) ≡ has_last seg node (flat_map loads_of (take l.link-index l.links))

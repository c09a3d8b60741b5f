use Rattle.std.proofs.Common.{◌≡◌, ℕ, take}
use Rattle.std.specs.Prelude.{◌||◌}
use Rattle.std.specs.BTreeSet.{contains}
use Rattle.sq_gather.specs.Prelude.{has_last}
use Rattle.sq_audit.specs.Counts.{key_order}
use Rattle.sq_audit.proofs.statuses.add_ended.Given as goal

abbrev pub invariant-loop-note : goal.invariant-loop-note
invariant-loop-note l =
    (seg node : ℕ) → contains key_order l.ended (seg, node) ≡ (contains key_order l.fn.ended (seg, node) || has_last seg node (take l.note-index l.notes))

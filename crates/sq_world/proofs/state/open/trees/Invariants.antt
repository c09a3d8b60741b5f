use Rattle.std.proofs.Common.{◌≡◌, ℕ, ◌<◌, [], length}
use Rattle.std.specs.Prelude.{slice_index_or}
use Rattle.sq_moves.specs.declared.status.Status.TheVariants.{Free}
use Rattle.sq_moves.specs.Tree.{status_at}
use Rattle.sq_world.proofs.state.open.trees.Given as goal

-- the trees so far are there
abbrev pub invariant-loop-segment : goal.invariant-loop-segment
invariant-loop-segment l =
    record {
      count : length l.trees.items ≡ l._segment-index;
      each : (seg node : ℕ) → seg < l._segment-index → status_at (slice_index_or l.trees.items seg []) node ≡ Free;
    }

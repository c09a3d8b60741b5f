use Rattle.std.proofs.Common.{◌≡◌, ℕ, ◌<◌, length, get_or}
use Rattle.std.specs.Slots.{slots_items}
use Rattle.sq_moves.specs.declared.status.Status.TheVariants.{Free}
use Rattle.sq_moves.specs.Status.{word_of}
use Rattle.sq_shared.proofs.tree.statuses_of.Given as goal

abbrev pub invariant-loop-i : goal.invariant-loop-i
invariant-loop-i l =
    record {
      long : length l.status-items ≡ 63;
      read : (k : ℕ) → k < l.i → word_of (get_or l.status-items k Free) ≡ get_or (slots_items l.closed.words) k 0;
    }

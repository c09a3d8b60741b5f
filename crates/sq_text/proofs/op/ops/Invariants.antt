use Rattle.std.proofs.Common.{◌≡◌, length}
use Rattle.sq_rows.specs.ShortList.{short_items}
use Rattle.sq_text.specs.Ops.{ops_in}
use Rattle.sq_text.proofs.Onto.{onto}
use Rattle.sq_text.proofs.op.ops.Given as goal

abbrev pub invariant-loop-word : goal.invariant-loop-word
invariant-loop-word l = onto (short_items l.ops) (ops_in l.words) ≡ ops_in l.fn.words

abbrev pub decreases-loop-word : goal.decreases-loop-word
decreases-loop-word l = length l.words

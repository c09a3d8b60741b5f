use Rattle.std.proofs.Common.{sym, arith, List, ℕ, subst, take, below_more}
use Rattle.sq_outputs.specs.Conflicts.{IsReadAt, IsWrittenAt}
use Rattle.sq_outputs.proofs.Taken.{free_at}
use Rattle.sq_outputs.proofs.conflict.conflict_among.Goals as goal

pub returns-then-is_read-clause-taken : goal.returns-then-is_read-clause-taken
returns-then-is_read-clause-taken c = (
  (c.loop-at.at, omega arith, sym c.index-outputs-at.is),
  subst (λ (p : List ℕ). IsReadAt c.args.read.now p) c.as_str-place.ensures.value (c.is_read.ensures.0 c.if-is_read.true),
)

pub returns-then-is_written-clause-taken : goal.returns-then-is_written-clause-taken
returns-then-is_written-clause-taken c = (
  c.loop-at.at,
  omega arith,
  sym c.index-outputs-at.is,
  subst (λ (p : List ℕ). IsWrittenAt (take c.loop-at.at c.args.outputs.now) p) c.as_str-place.ensures.value (c.is_written.ensures.0 c.if-is_written.true),
)

pub loop-at-preserved : goal.loop-at-preserved
loop-at-preserved c =
    below_more _ _ c.loop-at.invariant
    (λ any. free_at c.args.read.now c.args.outputs.now c.loop-at.at c.index-outputs-at.result any c.as_str-place.result.now c.is_read.result c.is_written.result (omega arith) c.index-outputs-at.is c.as_str-place.ensures.value c.is_read.ensures.1 c.if-is_read.false c.is_written.ensures.1 c.if-is_written.false)

pub returns-clause-free : goal.returns-clause-free
returns-clause-free c = λ at below any. c.loop-at.invariant at (omega arith) any

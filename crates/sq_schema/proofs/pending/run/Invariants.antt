use Rattle.std.proofs.Common.{◌≡◌, drop}
use Rattle.sq_rows.specs.ShortList.{short_items}
use Rattle.sq_schema.specs.Effect.{ops_outcome}
use Rattle.sq_schema.specs.Pending.{pending_rows}
use Rattle.sq_schema.proofs.Runs.{with_answers}
use Rattle.sq_schema.proofs.pending.run.Given as goal

-- what is left to run, with the answers so far, gives what the whole does
abbrev pub invariant-loop-at : goal.invariant-loop-at
invariant-loop-at l = record {
  base : l.pending.base ≡ l.fn.rows;
  rest : ops_outcome 0 l.ops l.fn.rows ≡ with_answers (short_items l.answers) (ops_outcome l.at (drop l.at l.ops) (pending_rows l.pending));
}

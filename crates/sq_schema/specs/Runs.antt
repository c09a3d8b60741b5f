-- The outcome of running operations in the code.
use Rattle.std.specs.Prelude.{◌≡◌, ⊤, List, Result, Ok, Err}
use Rattle.std.specs.List.{AllPass}
use Rattle.sq_schema.specs.declared.txn.Op.{Op}
use Rattle.sq_schema.specs.declared.txn.OpAnswer.{OpAnswer}
use Rattle.sq_schema.specs.declared.pending.Stop.{Stop}
use Rattle.sq_schema.specs.declared.pending.Stop.TheVariants.{Abort, Memory}
use Rattle.sq_schema.specs.declared.pending.RunOutcome.{RunOutcome}
use Rattle.sq_rows.specs.RowList.{RowList}
use Rattle.sq_schema.specs.Effect.{OpOutcome, ops_outcome, reply_of, rows_after}
use Rattle.sq_rows.specs.Sizes.{rows_size}
use Rattle.sq_rows.specs.Writes.{is_write, with_writes}
use Rattle.sq_rows.specs.ShortList.{short_items}

-- an operation with this outcome returns its answer and leaves these rows, or stops for its cause
-- or because memory ran out
abbrev pub ComesTo : OpOutcome → RowList → Result OpAnswer Stop → Type 0
ComesTo outcome rows (Ok answer) = outcome ≡ Ok (rows, answer)
ComesTo outcome rows (Err (Abort cause)) = outcome ≡ Err cause
ComesTo outcome rows (Err Memory) = ⊤

-- operations on these rows have this outcome
pub record EndsBy (rows : RowList) (ops : List Op) (outcome : RunOutcome) : Type 0 where
  pub reply : outcome.reply ≡ reply_of (ops_outcome 0 ops rows)
  pub after : with_writes rows (short_items outcome.writes) ≡ rows_after rows (ops_outcome 0 ops rows)
  pub writes : AllPass is_write (short_items outcome.writes)
  pub size : outcome.size ≡ rows_size (with_writes rows (short_items outcome.writes))

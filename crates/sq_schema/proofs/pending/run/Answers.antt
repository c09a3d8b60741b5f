use Rattle.std.proofs.Common.{◌≡◌, true, Ok, Err, sym, ap, ◌∙◌, arith}
use Rattle.std.proofs.lemmas.List.Elements.{All-nil}
use Rattle.sq_schema.specs.declared.schema.TheConstants.{MAX_TABLES}
use Rattle.sq_rows.specs.RowList.{RowList}
use Rattle.sq_schema.specs.Effect.{ops_outcome, reply_of, rows_after}
use Rattle.sq_rows.specs.Sizes.{rows_size}
use Rattle.sq_rows.specs.Writes.{is_write, with_writes}
use Rattle.sq_schema.specs.Pending.{PendingValue, pending_rows}
use Rattle.sq_rows.specs.ShortList.{short_items}
use Rattle.sq_schema.proofs.Runs.{op_fault-at, ran_one, aborted_at, ran_all}
use Rattle.sq_schema.proofs.pending.run.Goals as goal

pub run-requires : goal.run-requires
run-requires c = rw c.index-ops-at.is (op_fault-at MAX_TABLES c.args.ops.now c.loop-at.at c.index-ops-at.result (omega arith) c.requires)

pub loop-at-preserved : goal.loop-at-preserved
loop-at-preserved c = record {
  base = c.in-Ok.ensures.base ∙ c.loop-at.invariant.base;
  rest = rw c.in_ok-push-in-Ok.ensures.ok (ran_one c.args.ops.now c.args.rows.now c.loop-at.at (short_items c.loop-at.answers) (pending_rows c.loop-at.pending) c.loop-at.invariant.rest c.index-ops-at.result (omega arith) c.index-ops-at.is (pending_rows c.run.new.self) c.in-Ok.answer c.in-Ok.ensures.outcome);
}

pub returns-in-Err-Abort : goal.returns-in-Err-Abort
returns-in-Err-Abort c =
    let rows = c.args.rows.now in
    let cause = c.in-Err-Abort.cause in
    let stopped : ops_outcome 0 c.args.ops.now rows ≡ Err (c.loop-at.at, cause) = aborted_at c.args.ops.now rows c.loop-at.at (short_items c.loop-at.answers) (pending_rows c.loop-at.pending) c.loop-at.invariant.rest c.index-ops-at.result (omega arith) c.index-ops-at.is cause (rw c.in-Err-Abort.field-0-is at c.in-Err-Abort.ensures.outcome) in
    record {
      reply = rw c.in-Err-Abort.cause-is (sym (ap reply_of stopped));
      after = rw c.new.ensures (sym (ap (rows_after rows) stopped));
      writes = rw c.new.ensures (All-nil (λ write. is_write write ≡ true));
      size = rw c.new.ensures c.size.ensures;
    }

pub returns : goal.returns
returns c =
    let rows = c.args.rows.now in
    let writes = short_items c.pending-2.inside.writes in
    let base : c.pending-2.inside.rows.now ≡ rows = ap (λ (p : PendingValue). p.base) c.pending-2.view_is ∙ c.loop-at.invariant.base in
    let now : pending_rows c.loop-at.pending ≡ with_writes rows writes = ap pending_rows (sym c.pending-2.view_is) ∙ ap (λ (r : RowList). with_writes r writes) base in
    let ran : ops_outcome 0 c.args.ops.now rows ≡ Ok (with_writes rows writes, short_items c.loop-at.answers) = rw (← now) (ran_all c.args.ops.now rows c.loop-at.at (short_items c.loop-at.answers) (pending_rows c.loop-at.pending) c.loop-at.invariant.rest c.loop-at-test.false) in
    record {
      reply = rw c.of.ensures (sym (ap reply_of ran));
      after = sym (ap (rows_after rows) ran);
      writes = c.pending-2.invariant.0.writes;
      size = c.pending-2.invariant.0.size ∙ ap (λ (r : RowList). rows_size (with_writes r writes)) base;
    }

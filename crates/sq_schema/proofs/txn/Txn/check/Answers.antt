use Rattle.std.proofs.Common.{◌≡◌, None, ◌∙◌, arith}
use Rattle.std.proofs.lemmas.Bool.Decides.{nat_tests}
use Rattle.std.proofs.lemmas.List.{at_drop_all}
use Rattle.sq_schema.specs.declared.schema.TheConstants.{MAX_TABLES}
use Rattle.sq_schema.specs.Refusals.{ops_fault}
use Rattle.sq_schema.proofs.Sound.{txn_fault-wider}
use Rattle.sq_schema.proofs.txn.Txn.check.Goals as goal

pub returns-clause-sound : goal.returns-clause-sound
returns-clause-sound c =
    let tables = c.tables-tables.result in
    let ops = c.args.ops.now in
    let sound : ops_fault tables ops ≡ None = c.loop-op.invariant ∙ at_drop_all (ops_fault tables) ops c.loop-op.op-index (omega arith) in
    txn_fault-wider tables MAX_TABLES (omega arith) c.args.root ops (grind (arith, nat_tests))

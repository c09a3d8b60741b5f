-- When transactions and replies are equal.
use Rattle.std.specs.Prelude.{Bool, ◌&&◌, List, nat_eq}
use Rattle.std.specs.Cmp.Lexicographic.{pointwise}
use Rattle.sq_schema.specs.declared.txn.OpAnswer.{OpAnswer}
use Rattle.sq_schema.specs.contracts.txn.OpPartialEq.TheImpl as op
use Rattle.sq_schema.specs.contracts.txn.OpAnswerPartialEq.TheImpl as answer
use Rattle.sq_schema.specs.TxnValue.{TxnValue}

-- the answers are as many, and equal one by one
abbrev pub answers_eq : List OpAnswer → List OpAnswer → Bool
answers_eq answers others = pointwise (answer.ghosts).eq answers others

-- they have the same id, root key and operations
abbrev pub txn_eq : TxnValue → TxnValue → Bool
txn_eq txn other = nat_eq txn.id other.id && (nat_eq txn.root other.root && pointwise (op.ghosts).eq txn.ops other.ops)

-- Transactions and replies that are equal are one value.
use Rattle.std.proofs.Common.{◌≡◌, ℕ, ap, refl, List, Some, None}
use Rattle.std.specs.Bool.{Decides}
use Rattle.std.proofs.lemmas.Bool.Decides.{Decides-like}
use Rattle.std.specs.Cmp.{unsigned_Decides, signed_Decides}
use Rattle.std.specs.Cmp.Lexicographic.{pointwise_decides}
use Rattle.sq_schema.specs.declared.txn.Op.{Op}
use Rattle.sq_schema.specs.declared.txn.Op.TheVariants.{Get, Put, Add, Del, Check}
use Rattle.sq_schema.specs.contracts.txn.OpPartialEq.TheImpl as op
use Rattle.sq_schema.specs.declared.txn.OpAnswer.{OpAnswer}
use Rattle.sq_schema.specs.declared.txn.OpAnswer.TheVariants.{Found, Number, Done}
use Rattle.sq_schema.specs.declared.txn.Cause.{Cause}
use Rattle.sq_schema.specs.declared.txn.Reply.{Reply}
use Rattle.sq_schema.specs.declared.txn.Reply.TheVariants.{Committed, Aborted}
use Rattle.sq_schema.specs.contracts.txn.OpAnswerPartialEq.TheImpl as answer
use Rattle.sq_schema.specs.contracts.txn.Cause.{the_type}
use Rattle.sq_schema.specs.contracts.txn.CausePartialEq.TheImpl as cause
use Rattle.sq_rows.specs.Values.{RowValue}
use Rattle.sq_schema.specs.TxnValue.{TxnValue}
use Rattle.sq_schema.specs.Equal.Txns.{txn_eq}
use Rattle.sq_schema.specs.Equal.Replies.{reply_eq}
use Rattle.sq_rows.proofs.Equal.{both, row_key_same, row_same}
pub use Rattle.sq_rows.proofs.Equal.{rows_same}
use denote.Enum.Bare.{same_true, true_same}

op_same : (one other : Op) → Decides ((op.ghosts).eq one other) (one ≡ other)
op_same (Get key) (Get other) = Decides-like _ (λ same. ap Get same) (λ same. cc) (row_key_same key other)
op_same (Put key row) (Put other again) = both Put _ _ key other row again (row_key_same key other) (row_same row again) (λ same. ((cc), (cc)))
op_same (Add key by) (Add other again) = both Add _ _ key other by again (row_key_same key other) (signed_Decides by again) (λ same. ((cc), (cc)))
op_same (Del key) (Del other) = Decides-like _ (λ same. ap Del same) (λ same. cc) (row_key_same key other)
op_same (Check key by) (Check other again) = both Check _ _ key other by again (row_key_same key other) (signed_Decides by again) (λ same. ((cc), (cc)))
op_same _ _ = ((λ wrong. cc), (λ same. cc))

pub txn_same : (txn other : TxnValue) → Decides (txn_eq txn other) (txn ≡ other)
txn_same txn other =
    let of : ℕ → ℕ × List Op → TxnValue = λ id rest. record { id = id; root = rest.0; ops = rest.1 } in
    let pair : ℕ → List Op → ℕ × List Op = λ root ops. (root, ops) in
    both of _ _ txn.id other.id (pair txn.root txn.ops) (pair other.root other.ops) (unsigned_Decides txn.id other.id)
    (both pair _ _ txn.root other.root txn.ops other.ops (unsigned_Decides txn.root other.root) (pointwise_decides op_same txn.ops other.ops)
    (λ same. (ap (λ (p : ℕ × List Op). p.0) same, ap (λ (p : ℕ × List Op). p.1) same)))
    (λ same. (ap (λ (t : TxnValue). t.id) same, ap (λ (t : TxnValue). pair t.root t.ops) same))

answer_same : (one other : OpAnswer) → Decides ((answer.ghosts).eq one other) (one ≡ other)
answer_same (Found None) (Found None) = ((λ same. refl), (λ same. refl))
answer_same (Found (Some row)) (Found (Some other)) = Decides-like _ (λ same. ap (λ (r : RowValue). Found (Some r)) same) (λ same. cc) (row_same row other)
answer_same (Found None) (Found (Some other)) = ((λ wrong. cc), (λ same. cc))
answer_same (Found (Some row)) (Found None) = ((λ wrong. cc), (λ same. cc))
answer_same (Number n) (Number m) = Decides-like _ (λ same. ap Number same) (λ same. cc) (signed_Decides n m)
answer_same Done Done = ((λ same. refl), (λ same. refl))
answer_same _ _ = ((λ wrong. cc), (λ same. cc))

cause_same : (one other : Cause) → Decides ((cause.ghosts).eq one other) (one ≡ other)
cause_same one other = (same_true the_type tt one other, true_same the_type one other)

pub reply_same : (one other : Reply) → Decides (reply_eq one other) (one ≡ other)
reply_same (Committed answers) (Committed others) = Decides-like _ (λ same. ap Committed same) (λ same. cc) (pointwise_decides answer_same answers others)
reply_same (Aborted at cause) (Aborted other again) = both Aborted _ _ at other cause again (unsigned_Decides at other) (cause_same cause again) (λ same. ((cc), (cc)))
reply_same _ _ = ((λ wrong. cc), (λ same. cc))

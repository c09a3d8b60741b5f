-- Operations that are run one after another.
use Rattle.std.proofs.Common.{◌≡◌, ℕ, zero, suc, ◌+◌, ◌<◌, ◌≤◌, List, [], ◌∷◌, ◌++◌, length, get_or, drop, None, Ok, Err, refl, sym, ap, ◌∙◌, append_assoc, append-nil, arith}
use Rattle.std.proofs.lemmas.List.{drop_more, drop_all}
use Rattle.sq_schema.specs.declared.txn.Op.{Op}
use Rattle.sq_schema.specs.declared.txn.OpAnswer.{OpAnswer}
use Rattle.sq_schema.specs.declared.txn.Cause.{Cause}
use Rattle.sq_rows.specs.RowList.{RowList}
use Rattle.sq_schema.specs.Effect.{op_outcome, OpsOutcome, with_answer, then_rest, ops_outcome}
use Rattle.sq_schema.specs.Refusals.{op_fault, ops_fault}
use Rattle.sq_schema.proofs.Sound.{or_none}

-- the answers of earlier operations before those of the rest
abbrev pub with_answers : List OpAnswer → OpsOutcome → OpsOutcome
with_answers answers (Ok told) = Ok (told.0, answers ++ told.1)
with_answers answers (Err abort) = Err abort

with_answers-push : (answers : List OpAnswer) (answer : OpAnswer) (outcome : OpsOutcome) → with_answers (answers ++ answer ∷ []) outcome ≡ with_answers answers (with_answer answer outcome)
with_answers-push answers answer (Ok told) = ap (λ all. Ok (told.0, all)) (append_assoc answers (answer ∷ []) told.1)
with_answers-push answers answer (Err abort) = refl

module _ (ops : List Op) (rows : RowList) (at : ℕ) (answers : List OpAnswer) (now : RowList) (so_far : ops_outcome 0 ops rows ≡ with_answers answers (ops_outcome at (drop at ops) now)) where
  module _ (op : Op) (within : at < length ops) (here : op ≡ get_or ops at op) where
    next_op : ops_outcome at (drop at ops) now ≡ then_rest at (ops_outcome (at + 1) (drop (at + 1) ops)) (op_outcome now op)
    next_op = rw (drop_more ops at op within, ← here) refl

    -- the operation has an answer
    pub ran_one : (after : RowList) (answer : OpAnswer) → op_outcome now op ≡ Ok (after, answer) → ops_outcome 0 ops rows ≡ with_answers (answers ++ answer ∷ []) (ops_outcome (at + 1) (drop (at + 1) ops) after)
    ran_one after answer is =
        so_far ∙ ap (with_answers answers) (next_op ∙ ap (then_rest at (ops_outcome (at + 1) (drop (at + 1) ops))) is)
        ∙ sym (with_answers-push answers answer (ops_outcome (at + 1) (drop (at + 1) ops) after))

    -- the operation aborts
    pub aborted_at : (cause : Cause) → op_outcome now op ≡ Err cause → ops_outcome 0 ops rows ≡ Err (at, cause)
    aborted_at cause is = so_far ∙ ap (with_answers answers) (next_op ∙ ap (then_rest at (ops_outcome (at + 1) (drop (at + 1) ops))) is)

  -- no operation is left
  pub ran_all : length ops ≤ at → ops_outcome 0 ops rows ≡ Ok (now, answers)
  ran_all end = so_far ∙ rw (drop_all at ops end, append-nil answers) refl

-- no operation of a sound list has a fault
pub op_fault-at : (tables : ℕ) (ops : List Op) (at : ℕ) (d : Op) → at < length ops → ops_fault tables ops ≡ None → op_fault tables (get_or ops at d) ≡ None
op_fault-at tables [] at d within sound = absurd (omega arith)
op_fault-at tables (op ∷ ops) zero d within sound = (or_none (op_fault tables op) (ops_fault tables ops) sound).0
op_fault-at tables (op ∷ ops) (suc at) d within sound = op_fault-at tables ops at d (omega arith) (or_none (op_fault tables op) (ops_fault tables ops) sound).1

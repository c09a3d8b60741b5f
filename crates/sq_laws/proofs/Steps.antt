-- A step that a line spells submits a transaction that fits.
use Rattle.std.proofs.Common.{◌≡◌, ℕ, ◌<◌, ◌==◌, ◌||◌, true, false, not, List, [], ◌∷◌, length, Option, Some, None, Result, Ok, Err, if◌then◌else◌, refl, ◌∙◌, subst, arith}
use Rattle.std.specs.Prelude.{nat_lt, bytes_eq, codes, ok_or, IfSome, IfOk}
use Rattle.std.specs.List.{All}
use Rattle.std.proofs.lemmas.Bool.{ltb-true}
use Rattle.std.proofs.lemmas.List.Elements.{All-nil, All-cons, All-head, All-tail}
use Rattle.sq_schema.specs.declared.fault.TxnFault.TheVariants.{BadOps, BadRoot}
use Rattle.sq_schema.specs.declared.root.TheConstants.{ROOT_END}
use Rattle.sq_schema.specs.declared.txn.Op.{Op}
use Rattle.sq_schema.specs.declared.txn.Op.TheVariants as op
use Rattle.sq_schema.specs.declared.txn.TheConstants.{MAX_OPS}
use Rattle.sq_schema.specs.TxnValue.{TxnValue}
use Rattle.sq_schema.specs.Refusals.{op_fault, ops_fault, txn_fault}
use Rattle.sq_schema.proofs.Sound.{or_none}
use Rattle.sq_model.specs.declared.step.Step.{Step}
use Rattle.sq_model.specs.declared.step.Step.TheVariants as step
use Rattle.sq_text.specs.declared.fault.LineFault.{LineFault}
use Rattle.sq_text.specs.declared.fault.LineFault.TheVariants.{NotAStep, TooLong}
use Rattle.sq_text.specs.declared.step.TheConstants.{MAX_LINE}
use Rattle.sq_text.specs.Words.{Word, words_of}
use Rattle.sq_text.specs.Fields.{value_at_end}
use Rattle.sq_text.specs.Verbs.{verb_in}
use Rattle.sq_text.specs.Steps.{step_with, verb_step, TxnLine, txn_in, submit_unless, txn_step, step_in, step_of}
use Rattle.sq_laws.specs.Fit.{IsFitOp, IsFitTxn, IsFitStep}
use Rattle.sq_laws.proofs.Spelled.{IsSpelledOp, anything, then_holds, end_holds, txn_spelled}
use Rattle.sq_laws.proofs.FitHeaders.{row_fits, some_ok}

-- what a function takes first
abbrev ArgumentOf : {A B : Type 0} → (A → B) → Type 0
ArgumentOf {A} f = A

module _ (tables : ℕ) where
  op_fits : (op : Op) → IsSpelledOp op → op_fault tables op ≡ None → IsFitOp tables op
  op_fits (op.Get key) is free = tt
  op_fits (op.Put key row) is free = row_fits tables key row is.0 is.1 free
  op_fits (op.Add key by) is free = tt
  op_fits (op.Del key) is free = tt
  op_fits (op.Check key least) is free = tt

  ops_fit : (ops : List Op) → All IsSpelledOp ops → ops_fault tables ops ≡ None → All (IsFitOp tables) ops
  ops_fit [] all free = All-nil (IsFitOp tables)
  ops_fit (op ∷ ops) all free =
      let both = or_none (op_fault tables op) (ops_fault tables ops) free in
      All-cons (IsFitOp tables) op ops (op_fits op (All-head IsSpelledOp op ops all) both.0) (ops_fit ops (All-tail IsSpelledOp op ops all) both.1)

  -- a transaction that isn't refused has a root key, and operations without a fault
  record IsFreeTxn (root : ℕ) (ops : List Op) : Type 0 where
    root_below : root < ROOT_END
    ops_free : ops_fault tables ops ≡ None

  free_ops : (root : ℕ) (ops : List Op) → (if not (nat_lt root ROOT_END) then Some BadRoot else ops_fault tables ops) ≡ None → IsFreeTxn root ops
  free_ops root ops free =
      elim (nat_lt root ROOT_END) as (λ b. nat_lt root ROOT_END ≡ b → (if not b then Some BadRoot else ops_fault tables ops) ≡ None → IsFreeTxn root ops) [
        | true ↦ λ below is. record { root_below = ltb-true root ROOT_END below; ops_free = is }
        | false ↦ λ beyond is. absurd cc
      ] refl free

  free_txn : (root : ℕ) (ops : List Op) → txn_fault tables root ops ≡ None → IsFreeTxn root ops
  free_txn root ops free =
      elim (length ops == 0 || nat_lt MAX_OPS (length ops)) as (λ b. (if b then Some BadOps else (if not (nat_lt root ROOT_END) then Some BadRoot else ops_fault tables ops)) ≡ None → IsFreeTxn root ops) [
        | true ↦ λ is. absurd cc
        | false ↦ free_ops root ops
      ] free

  -- the transaction of a line, where it is submitted
  pub txn_fits : (txn : TxnLine) → All IsSpelledOp txn.ops → txn_fault tables txn.root txn.ops ≡ None → IsFitTxn tables (record { id = txn.id; root = txn.root; ops = txn.ops })
  txn_fits txn all free = let is = free_txn txn.root txn.ops free in record { root = is.root_below; ops = ops_fit txn.ops all is.ops_free }

  txn_step_fits : (found : Option TxnLine) → IfSome found (λ (txn : TxnLine). All IsSpelledOp txn.ops) → IfOk (txn_step tables found) (IsFitStep tables)
  txn_step_fits None all = tt
  txn_step_fits (Some txn) all =
      elim (txn_fault tables txn.root txn.ops) as (λ f. txn_fault tables txn.root txn.ops ≡ f → IfOk (submit_unless f txn) (IsFitStep tables)) [
        | None ↦ λ free. txn_fits txn all free
        | Some fault ↦ λ some. tt
      ] refl

  -- no other verb submits one

  abbrev FoundFits : Step × List Word → Type 0
  FoundFits found = IsFitStep tables found.0

  no_submit : (verb : ArgumentOf step_with) (words rest : List Word) (part : ℕ) (txn : TxnValue) → step_with verb words ≡ Some (step.Submit part txn, rest) → ⊥
  unfolding step_with
  no_submit verb words rest part txn is = grind arith

  other_fits : (made : Step) → ((part : ℕ) (txn : TxnValue) → made ≡ step.Submit part txn → ⊥) → IsFitStep tables made
  other_fits (step.Submit part txn) other = absurd (other part txn refl)
  other_fits made other = tt

  with_fits : (verb : ArgumentOf step_with) (words : List Word) → IfSome (step_with verb words) FoundFits
  with_fits verb words =
      elim (step_with verb words) as (λ found. step_with verb words ≡ found → IfSome found FoundFits) [
        | None ↦ λ none. tt
        | Some found ↦ λ is. other_fits found.0 (λ part txn same. no_submit verb words found.1 part txn (is ∙ (λ i. Some (same i, found.1))))
      ] refl

  verb_fits : (first : Word) (words : List Word) → IfSome (verb_step first words) (IsFitStep tables)
  verb_fits first words =
      then_holds (λ verb. Unit {0}) (IsFitStep tables) (verb_in first) (λ verb. value_at_end (step_with verb words)) (anything (verb_in first))
      (λ verb any. end_holds (IsFitStep tables) (step_with verb words) (with_fits verb words))

  words_fit : (words : List Word) → IfOk (step_in tables words) (IsFitStep tables)
  words_fit [] = tt
  words_fit (first ∷ words) =
      elim (bytes_eq first (codes "txn")) as (λ b. IfOk (if b then txn_step tables (txn_in words) else ok_or (verb_step first words) NotAStep) (IsFitStep tables)) [
        | true ↦ txn_step_fits (txn_in words) (txn_spelled words)
        | false ↦ some_ok (IsFitStep tables) (verb_step first words) NotAStep (verb_fits first words)
      ]

  line_fits : (line : List ℕ) → IfOk (step_of tables line) (IsFitStep tables)
  line_fits line = elim (nat_lt MAX_LINE (length line)) as (λ b. IfOk (if b then Err TooLong else step_in tables (words_of line)) (IsFitStep tables)) [ true ↦ tt | false ↦ words_fit (words_of line) ]

  pub spelled_fits : (line : List ℕ) (made : Step) → step_of tables line ≡ Ok made → IsFitStep tables made
  spelled_fits line made is = subst (λ (r : Result Step LineFault). IfOk r (IsFitStep tables)) is (line_fits line)

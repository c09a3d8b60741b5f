-- Transactions that fit keep rows fit.
use Rattle.std.proofs.Common.{◌≡◌, ℕ, ◌+◌, true, false, not, cond, ◌&&◌, ◌==◌, List, [], ◌∷◌, length, Option, Some, None, Ok, Err, is_some, if◌then◌else◌, refl, sym, subst}
use Rattle.std.specs.Prelude.{ℤ, ◌+ℤ◌}
use Rattle.std.specs.List.{All}
use Rattle.std.specs.Ordering.{eq_by_cmp, is_lt, int_cmp}
use Rattle.std.proofs.lemmas.List.Elements.{All-head, All-tail, All-filter}
use Rattle.sq_rows.specs.declared.row.RowKey.{RowKey}
use Rattle.sq_rows.specs.Keys.{key_cmp}
use Rattle.sq_rows.specs.RowList.{RowList, root_key, row_at, with_row, without_row}
use Rattle.sq_rows.specs.Values.{RowValue}
use Rattle.sq_rows.proofs.KeyOrder.{same_key_from_test}
use Rattle.sq_rows.proofs.Kept.{All-with_row, is_sorted-with_row, is_sorted-without_row}
use Rattle.sq_rows.proofs.Rooted.{is_rooted-with_row, is_rooted-with_known, is_rooted-without_row}
use Rattle.sq_schema.specs.declared.txn.Cause.TheVariants.{Small, Range, NoRoot, Children}
use Rattle.sq_schema.specs.declared.txn.Op.{Op}
use Rattle.sq_schema.specs.declared.txn.Op.TheVariants.{Get, Put, Add, Del, Check}
use Rattle.sq_schema.specs.declared.txn.OpAnswer.{OpAnswer}
use Rattle.sq_schema.specs.declared.txn.OpAnswer.TheVariants.{Number, Done}
use Rattle.sq_schema.specs.Effect.{is_i64, put_outcome, add_outcome, del_outcome, check_outcome, op_outcome, OpOutcome, OpsOutcome, with_answer, then_rest, ops_outcome, rows_after, effect, replay_rows}
use Rattle.sq_schema.specs.TxnValue.{TxnValue}
use Rattle.sq_laws.specs.Fit.{IsFitRow, AreFitRows, IsFitOp, IsFitTxn}

module _ (tables : ℕ) where
  -- a row that there is fits, under the key by which it was found
  found_fits : (rows : RowList) (key : RowKey) (row : RowValue) → All (IsFitRow tables) rows → row_at rows key ≡ Some row → IsFitRow tables (key, row)
  found_fits [] key row fit found = absurd cc
  found_fits (entry ∷ rows) key row fit found =
      elim (eq_by_cmp key_cmp key entry.0) as (λ b. eq_by_cmp key_cmp key entry.0 ≡ b → (cond b (Some entry.1) (row_at rows key)) ≡ Some row → IsFitRow tables (key, row)) [
        | true ↦ λ same is.
            let row_is : entry.1 ≡ row = cc in
            subst (λ (k : RowKey). IsFitRow tables (k, row)) (sym (same_key_from_test key entry.0 same)) (subst (λ (r : RowValue). IsFitRow tables (entry.0, r)) row_is (All-head (IsFitRow tables) entry rows fit))
        | false ↦ λ apart is. found_fits rows key row (All-tail (IsFitRow tables) entry rows fit) is
      ] refl found

  -- the rows that an operation leaves fit, where it doesn't abort
  abbrev OnDone : OpOutcome → Type 0
  OnDone (Ok done) = AreFitRows tables done.0
  OnDone (Err cause) = Unit {0}

  put_fits : (rows : RowList) (key : RowKey) (row : RowValue) → AreFitRows tables rows → IsFitRow tables (key, row) → OnDone (put_outcome rows key row)
  put_fits rows key row fit new =
      elim (not (key.table == 0) && not (is_some (row_at rows root_key))) as (λ b. (not (key.table == 0) && not (is_some (row_at rows root_key))) ≡ b → OnDone (if b then Err NoRoot else Ok (with_row rows key row, Done))) [
        | true ↦ λ stray. tt
        | false ↦ λ may. record {
          rising = is_sorted-with_row rows key row fit.rising;
          rooted = is_rooted-with_row rows key row may fit.rooted;
          each = All-with_row (IsFitRow tables) rows key row new fit.each;
        }
      ] refl

  -- a row with another number
  numbered : (key : RowKey) (row : RowValue) (number : ℤ) → IsFitRow tables (key, row) → is_i64 number ≡ true → IsFitRow tables (key, record { number = number; note = row.note })
  numbered key row number fit small = record { in_range = fit.in_range; schema = fit.schema; number = small; note = fit.note }

  add_fits : (rows : RowList) (key : RowKey) (by : ℤ) → AreFitRows tables rows → OnDone (add_outcome rows key by (row_at rows key))
  add_fits rows key by fit =
      elim (row_at rows key) as (λ found. row_at rows key ≡ found → OnDone (add_outcome rows key by found)) [
        | None ↦ λ absent. tt
        | Some row ↦ λ found.
            let sum = row.number +ℤ by in
            let now : RowValue = record { number = sum; note = row.note } in
            elim (is_i64 sum) as (λ b. is_i64 sum ≡ b → OnDone (if b then Ok (with_row rows key now, Number sum) else Err Range)) [
              | true ↦ λ small. record {
                rising = is_sorted-with_row rows key now fit.rising;
                rooted = is_rooted-with_known rows key now row found fit.rooted;
                each = All-with_row (IsFitRow tables) rows key now (numbered key row sum (found_fits rows key row fit.each found) small) fit.each;
              }
              | false ↦ λ wide. tt
            ] refl
      ] refl

  del_fits : (rows : RowList) (key : RowKey) → AreFitRows tables rows → OnDone (del_outcome rows key (row_at rows key))
  del_fits rows key fit =
      elim (row_at rows key) as (λ found. row_at rows key ≡ found → OnDone (del_outcome rows key found)) [
        | None ↦ λ absent. tt
        | Some row ↦ λ found.
            elim (eq_by_cmp key_cmp key root_key && not (length rows == 1)) as (λ b. (eq_by_cmp key_cmp key root_key && not (length rows == 1)) ≡ b → OnDone (if b then Err Children else Ok (without_row rows key, Done))) [
              | true ↦ λ above. tt
              | false ↦ λ may. record {
                rising = is_sorted-without_row rows key fit.rising;
                rooted = is_rooted-without_row rows key row found may fit.rooted;
                each = All-filter (λ (entry : RowKey × RowValue). not (eq_by_cmp key_cmp key entry.0)) (IsFitRow tables) rows fit.each;
              }
            ] refl
      ] refl

  check_fits : (rows : RowList) (least : ℤ) (found : Option RowValue) → AreFitRows tables rows → OnDone (check_outcome rows least found)
  check_fits rows least None fit = tt
  check_fits rows least (Some row) fit = elim (is_lt (int_cmp row.number least)) as (λ b. OnDone (if b then Err Small else Ok (rows, Done))) [ true ↦ tt | false ↦ fit ]

  op_fits : (rows : RowList) (op : Op) → AreFitRows tables rows → IsFitOp tables op → OnDone (op_outcome rows op)
  op_fits rows (Get key) fit new = fit
  op_fits rows (Put key row) fit new = put_fits rows key row fit new
  op_fits rows (Add key by) fit new = add_fits rows key by fit
  op_fits rows (Del key) fit new = del_fits rows key fit
  op_fits rows (Check key least) fit new = check_fits rows least (row_at rows key) fit

  -- and those that operations leave, one after another
  abbrev OnAllDone : OpsOutcome → Type 0
  OnAllDone (Ok told) = AreFitRows tables told.0
  OnAllDone (Err abort) = Unit {0}

  answered_fits : (answer : OpAnswer) (outcome : OpsOutcome) → OnAllDone outcome → OnAllDone (with_answer answer outcome)
  answered_fits answer (Ok told) fit = fit
  answered_fits answer (Err abort) fit = tt

  rest_fits : (at : ℕ) (rest : RowList → OpsOutcome) (outcome : OpOutcome) → OnDone outcome → ((rows : RowList) → AreFitRows tables rows → OnAllDone (rest rows)) → OnAllDone (then_rest at rest outcome)
  rest_fits at rest (Ok done) fit later = answered_fits done.1 (rest done.0) (later done.0 fit)
  rest_fits at rest (Err cause) fit later = tt

  ops_fit : (ops : List Op) (at : ℕ) (rows : RowList) → AreFitRows tables rows → All (IsFitOp tables) ops → OnAllDone (ops_outcome at ops rows)
  ops_fit [] at rows fit all = fit
  ops_fit (op ∷ ops) at rows fit all =
      rest_fits at (ops_outcome (at + 1) ops) (op_outcome rows op) (op_fits rows op fit (All-head (IsFitOp tables) op ops all))
      (λ after there. ops_fit ops (at + 1) after there (All-tail (IsFitOp tables) op ops all))

  after_fits : (rows : RowList) (outcome : OpsOutcome) → AreFitRows tables rows → OnAllDone outcome → AreFitRows tables (rows_after rows outcome)
  after_fits rows (Ok told) fit done = done
  after_fits rows (Err abort) fit done = fit

  pub effect_fits : (rows : RowList) (txn : TxnValue) → AreFitRows tables rows → IsFitTxn tables txn → AreFitRows tables (effect rows txn)
  effect_fits rows txn fit new = after_fits rows (ops_outcome 0 txn.ops rows) fit (ops_fit txn.ops 0 rows fit new.ops)

  pub replay_fits : (rows : RowList) (txns : List TxnValue) → AreFitRows tables rows → All (IsFitTxn tables) txns → AreFitRows tables (replay_rows rows txns)
  replay_fits rows [] fit all = fit
  replay_fits rows (txn ∷ txns) fit all =
      replay_fits (effect rows txn) txns (effect_fits rows txn fit (All-head (IsFitTxn tables) txn txns all)) (All-tail (IsFitTxn tables) txn txns all)

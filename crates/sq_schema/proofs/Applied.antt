-- What applying a transaction keeps.
use Rattle.std.proofs.Common.{◌≡◌, ℕ, ◌+◌, true, false, not, ◌&&◌, ◌==◌, List, [], ◌∷◌, length, Some, None, Result, Ok, Err, is_some, if◌then◌else◌, refl, ap, subst}
use Rattle.std.specs.Ordering.{eq_by_cmp, is_lt, int_cmp}
use Rattle.std.specs.Prelude.{ℤ, ◌+ℤ◌}
use Rattle.std.specs.Result.{result_unwrap_or}
use Rattle.sq_rows.proofs.Rooted.{is_rooted-with_row, is_rooted-with_known, is_rooted-without_row}
use Rattle.sq_rows.specs.declared.row.RowKey.{RowKey}
use Rattle.sq_schema.specs.declared.txn.Op.{Op}
use Rattle.sq_schema.specs.declared.txn.Op.TheVariants.{Get, Put, Add, Del, Check}
use Rattle.sq_schema.specs.declared.txn.OpAnswer.{OpAnswer}
use Rattle.sq_schema.specs.declared.txn.OpAnswer.TheVariants.{Found, Number, Done}
use Rattle.sq_schema.specs.declared.txn.Cause.TheVariants.{Absent, Small, Range, NoRoot, Children}
use Rattle.sq_rows.specs.Values.{RowValue}
use Rattle.sq_schema.specs.TxnValue.{TxnValue}
use Rattle.sq_rows.specs.Keys.{key_cmp}
use Rattle.sq_rows.specs.Rows.{is_rooted}
use Rattle.sq_rows.specs.RowList.{RowList, root_key, row_at, with_row, without_row}
use Rattle.sq_schema.specs.Effect.{is_i64, add_outcome, del_outcome, check_outcome, op_outcome, with_answer, then_rest, ops_outcome, rows_after, effect, replay_rows}

-- what an operation leaves: the rows as they were, or with a row put, or with a row deleted
pub data Edits (rows : RowList) : Op → RowList → Type 0 where
  none : {op : Op} → Edits rows op rows
  put : {key : RowKey} {row : RowValue} → (not (key.table == 0) && not (is_some (row_at rows root_key))) ≡ false → Edits rows (Put key row) (with_row rows key row)
  add : {key : RowKey} {by : ℤ} {row : RowValue} → row_at rows key ≡ Some row → Edits rows (Add key by) (with_row rows key (record { number = row.number +ℤ by; note = row.note }))
  del : {key : RowKey} {row : RowValue} → row_at rows key ≡ Some row → (eq_by_cmp key_cmp key root_key && not (length rows == 1)) ≡ false → Edits rows (Del key) (without_row rows key)

ok_same : {A E : Type 0} (a b : A) → ◌≡◌ {A = Result A E} (Ok a) (Ok b) → a ≡ b
ok_same a b same = ap (λ r. result_unwrap_or r a) same

no_ok : {A E : Type 0} {G : Type 0} (e : E) (a : A) → ◌≡◌ {A = Result A E} (Err e) (Ok a) → G
no_ok e a same = absurd (cc)

pub edits : (rows : RowList) (op : Op) (done : RowList × OpAnswer) → op_outcome rows op ≡ Ok done → Edits rows op done.0
edits rows (Get key) done is = subst (λ (d : RowList × OpAnswer). Edits rows (Get key) d.0) (ok_same (rows, Found (row_at rows key)) done is) none
edits rows (Put key row) done is =
    elim (not (key.table == 0) && not (is_some (row_at rows root_key))) as (λ b. (not (key.table == 0) && not (is_some (row_at rows root_key))) ≡ b → (if b then Err NoRoot else Ok (with_row rows key row, Done)) ≡ Ok done → Edits rows (Put key row) done.0) [
      | true ↦ λ _ e. no_ok NoRoot done e
      | false ↦ λ may e. subst (λ (d : RowList × OpAnswer). Edits rows (Put key row) d.0) (ok_same (with_row rows key row, Done) done e) (put may)
    ] refl is
edits rows (Add key by) done is =
    elim (row_at rows key) as (λ found. row_at rows key ≡ found → add_outcome rows key by found ≡ Ok done → Edits rows (Add key by) done.0) [
      | None ↦ λ _ e. no_ok Absent done e
      | Some row ↦ λ found e.
          let sum = row.number +ℤ by in
          let now = with_row rows key (record { number = sum; note = row.note }) in
          elim (is_i64 sum) as (λ b. (if b then Ok (now, Number sum) else Err Range) ≡ Ok done → Edits rows (Add key by) done.0) [
            | true ↦ λ e. subst (λ (d : RowList × OpAnswer). Edits rows (Add key by) d.0) (ok_same (now, Number sum) done e) (add found)
            | false ↦ λ e. no_ok Range done e
          ] e
    ] refl is
edits rows (Del key) done is =
    elim (row_at rows key) as (λ found. row_at rows key ≡ found → del_outcome rows key found ≡ Ok done → Edits rows (Del key) done.0) [
      | None ↦ λ _ e. no_ok Absent done e
      | Some row ↦ λ found e.
          elim (eq_by_cmp key_cmp key root_key && not (length rows == 1)) as (λ b. (eq_by_cmp key_cmp key root_key && not (length rows == 1)) ≡ b → (if b then Err Children else Ok (without_row rows key, Done)) ≡ Ok done → Edits rows (Del key) done.0) [
            | true ↦ λ _ e. no_ok Children done e
            | false ↦ λ may e. subst (λ (d : RowList × OpAnswer). Edits rows (Del key) d.0) (ok_same (without_row rows key, Done) done e) (del found may)
          ] refl e
    ] refl is
edits rows (Check key least) done is =
    elim (row_at rows key) as (λ found. check_outcome rows least found ≡ Ok done → Edits rows (Check key least) done.0) [
      | None ↦ λ e. no_ok Absent done e
      | Some row ↦ λ e.
          elim (is_lt (int_cmp row.number least)) as (λ b. (if b then Err Small else Ok (rows, Done)) ≡ Ok done → Edits rows (Check key least) done.0) [
            | true ↦ λ e. no_ok Small done e
            | false ↦ λ e. subst (λ (d : RowList × OpAnswer). Edits rows (Check key least) d.0) (ok_same (rows, Done) done e) none
          ] e
    ] is

-- what every edit keeps
module _ (P : RowList → Type 0) (kept : (rows : RowList) (op : Op) (after : RowList) → Edits rows op after → P rows → P after) where
  keeps_ops : (ops : List Op) (at : ℕ) (rows : RowList) (told : RowList × List OpAnswer) → P rows → ops_outcome at ops rows ≡ Ok told → P told.0
  keeps_ops [] at rows told before is = subst (λ (d : RowList × List OpAnswer). P d.0) (ok_same (rows, []) told is) before
  keeps_ops (op ∷ ops) at rows told before is =
      elim (op_outcome rows op) as (λ o. op_outcome rows op ≡ o → then_rest at (ops_outcome (at + 1) ops) o ≡ Ok told → P told.0) [
        | Ok done ↦ λ here e.
            let after = kept rows op done.0 (edits rows op done here) before in
            elim (ops_outcome (at + 1) ops done.0) as (λ rest. ops_outcome (at + 1) ops done.0 ≡ rest → with_answer done.1 rest ≡ Ok told → P told.0) [
              | Ok last ↦ λ there e. subst (λ (d : RowList × List OpAnswer). P d.0) (ok_same (last.0, done.1 ∷ last.1) told e) (keeps_ops ops (at + 1) done.0 last after there)
              | Err abort ↦ λ _ e. no_ok abort told e
            ] refl e
        | Err cause ↦ λ _ e. no_ok (at, cause) told e
      ] refl is

  pub keeps_effect : (rows : RowList) (txn : TxnValue) → P rows → P (effect rows txn)
  keeps_effect rows txn before =
      elim (ops_outcome 0 txn.ops rows) as (λ o. ops_outcome 0 txn.ops rows ≡ o → P (rows_after rows o)) [
        | Ok told ↦ λ is. keeps_ops txn.ops 0 rows told before is
        | Err abort ↦ λ _. before
      ] refl

  pub keeps_replay_rows : (txns : List TxnValue) (rows : RowList) → P rows → P (replay_rows rows txns)
  keeps_replay_rows [] rows before = before
  keeps_replay_rows (txn ∷ txns) rows before = keeps_replay_rows txns (effect rows txn) (keeps_effect rows txn before)

-- there are rows of other tables only under the root row
rooted_kept : (rows : RowList) (op : Op) (after : RowList) → Edits rows op after → is_rooted rows ≡ true → is_rooted after ≡ true
rooted_kept rows op _ none rooted = rooted
rooted_kept rows op _ (put {key} {row} may) rooted = is_rooted-with_row rows key row may rooted
rooted_kept rows op _ (add {key} {by} {row} found) rooted = is_rooted-with_known rows key (record { number = row.number +ℤ by; note = row.note }) row found rooted
rooted_kept rows op _ (del {key} {row} found may) rooted = is_rooted-without_row rows key row found may rooted

pub is_rooted-effect : (rows : RowList) (txn : TxnValue) → is_rooted rows ≡ true → is_rooted (effect rows txn) ≡ true
is_rooted-effect = keeps_effect (λ rows. is_rooted rows ≡ true) rooted_kept

pub is_rooted-replay_rows : (txns : List TxnValue) (rows : RowList) → is_rooted rows ≡ true → is_rooted (replay_rows rows txns) ≡ true
is_rooted-replay_rows = keeps_replay_rows (λ rows. is_rooted rows ≡ true) rooted_kept

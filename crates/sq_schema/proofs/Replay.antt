-- Transactions that are replayed.
use Rattle.std.proofs.Common.{◌≡◌, ℕ, ◌<◌, true, false, cond, ◌==◌, List, [], ◌∷◌, length, if◌then◌else◌, refl, sym, ◌∙◌, ap, arith, length-append}
use Rattle.std.proofs.lemmas.List.Elements.{All-push}
use Rattle.std.proofs.lemmas.List.Sums.{fold_push}
use Rattle.sq_schema.specs.declared.family.TheConstants.{MAX_LOG}
use Rattle.sq_schema.specs.TxnValue.{TxnValue}
use Rattle.sq_rows.specs.RowList.{RowList}
use Rattle.sq_schema.specs.Effect.{effect, replay_rows, RowTable, table_after, replay, only}
use Rattle.sq_schema.specs.Family.{FamilyValue, logged}
use Rattle.sq_schema.specs.Standing.{IsKept}

-- a transaction that commits is one more of the log, and the rows after it are those of the family
pub IsKept-logged : (family : FamilyValue) (now after : RowList) (txn : TxnValue) → IsKept family now → length family.log < MAX_LOG → txn.root ≡ family.root → effect now txn ≡ after → IsKept (logged family txn) after
IsKept-logged family now after txn kept room own is =
    record {
      rows = sym is ∙ ap (λ (rows : RowList). effect rows txn) kept.rows ∙ sym (fold_push effect family.base family.log txn);
      short = omega (arith, length-append family.log (txn ∷ []));
      own = All-push (λ (t : TxnValue). t.root ≡ family.root) family.log txn kept.own own;
      rooted = kept.rooted;
    }

-- one root key's part of a replay is the replay of its own transactions
pub replayed_at : (table : RowTable) (txns : List TxnValue) (root : ℕ) → replay table txns root ≡ replay_rows (table root) (only root txns)
replayed_at table [] root = refl
replayed_at table (txn ∷ txns) root =
    replayed_at (table_after table txn) txns root
    ∙ elim (txn.root == root) as (λ b. replay_rows (if b then effect (table root) txn else table root) (only root txns) ≡ replay_rows (table root) (cond b (txn ∷ only root txns) (only root txns))) [ true ↦ refl | false ↦ refl ]

-- The table without partitions that the committed transactions ran on, and what each family keeps
-- of it: the rows that its log starts from, and its log.
use Rattle.std.specs.Prelude.{◌≡◌, ℕ, Bool, ◌==◌, nat_le, if◌then◌else◌, List, [], ◌∷◌, ◌++◌, length}
use Rattle.sq_schema.specs.Effect.{RowTable, replay, replay_rows, only}
use Rattle.sq_schema.specs.TxnValue.{TxnValue}
use Rattle.sq_schema.specs.Family.{FamilyValue, rows_size, family_stands}
use Rattle.sq_schema.specs.Table.{rows_in}
use Rattle.sq_moves.specs.OpeningValue.{OpeningValue}
use Rattle.sq_model.specs.declared.step.Step.{Step}
use Rattle.sq_model.specs.declared.step.Step.TheVariants.{Fold}
use Rattle.sq_model.specs.declared.answer.Answer.{Answer}
use Rattle.sq_model.specs.declared.answer.Answer.TheVariants.{Done}
use Rattle.sq_model.specs.Trace.{Trace, committed, unfolded}
use Rattle.sq_model.specs.Place.{destination}

-- the opening rows, by root key
abbrev pub opening_rows : OpeningValue → RowTable
opening_rows o root = rows_in o.table root

-- the current rows: those of the opening after each committed transaction, on one table without
-- partitions
abbrev pub now : OpeningValue → Trace → RowTable
now o t = replay (opening_rows o) (committed t)

-- A partition is folded only after the reconfiguration has ended, and then each root key is at its
-- owner in the new plan.
abbrev pub folds : OpeningValue → Trace → Step → Answer → RowTable → RowTable
folds o t (Fold part) Done bases root = if destination o root == part then now o t root else bases root
folds o t _ _ bases root = bases root

-- the rows that a root key's log starts from: its rows at the last fold of its partition, or those
-- of the opening
abbrev pub base_of : OpeningValue → Trace → RowTable
base_of o [] = opening_rows o
base_of o ((step, answer) ∷ trace) = folds o trace step answer (base_of o trace)

-- the log of a root key: the transactions on it that committed since the last fold of its partition
abbrev pub log_of : OpeningValue → Trace → ℕ → List TxnValue
log_of o t root = only root (unfolded t (destination o root))

-- the log of a root key is full
abbrev pub is_full : OpeningValue → Trace → ℕ → Bool
is_full o t root = nat_le o.config.log_limit (length (log_of o t root))

-- the family of a root key
abbrev pub family_of : OpeningValue → Trace → ℕ → FamilyValue
family_of o t root = record { root = root; base = base_of o t root; log = log_of o t root }

-- a root key has a family if its log starts from some rows, or isn't empty
abbrev pub stands : OpeningValue → Trace → ℕ → Bool
stands o t root = family_stands (family_of o t root)

-- the committed transactions on a root key are those that made its base, followed by its log
pub record IsFoldedRoot (o : OpeningValue) (t : Trace) (root : ℕ) : Type 0 where
  pub front : List TxnValue
  pub commits : only root (committed t) ≡ front ++ log_of o t root
  pub base : base_of o t root ≡ replay_rows (opening_rows o root) front

-- the size in bytes of a root key's family
abbrev pub size_of : OpeningValue → Trace → ℕ → ℕ
size_of o t root = rows_size (now o t root)

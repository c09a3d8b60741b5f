-- The transactions that wait at a partition.
use Rattle.std.specs.Prelude.{ℕ, Bool, ◌==◌, ◌&&◌, ◌||◌, not, if◌then◌else◌, List, [], ◌∷◌, ◌++◌, find, position, remove, Option}
use Rattle.std.specs.Option.{option_map_or}
use Rattle.std.specs.List.{list_any, list_all}
use Rattle.sq_schema.specs.TxnValue.{TxnValue}
use Rattle.sq_moves.specs.OpeningValue.{OpeningValue}
use Rattle.sq_model.specs.declared.step.Step.{Step}
use Rattle.sq_model.specs.declared.step.Step.TheVariants.{Submit, Resume}
use Rattle.sq_model.specs.declared.answer.Answer.{Answer}
use Rattle.sq_model.specs.declared.answer.Answer.TheVariants.{Waits, Resumed}
use Rattle.sq_model.specs.Trace.{Trace}
use Rattle.sq_model.specs.Tables.{is_full}
use Rattle.sq_model.specs.Place.{is_coming}

-- a waiting transaction can run: its rows aren't on their way, and the log of its root key isn't
-- full
abbrev pub is_ready : OpeningValue → Trace → ℕ → TxnValue → Bool
is_ready o t part txn = not (is_coming o t part txn.root) && not (is_full o t txn.root)

-- those that wait without the first that can run
abbrev pub without_ready : OpeningValue → Trace → ℕ → List TxnValue → List TxnValue
without_ready o t part txns = option_map_or (remove txns) (position (is_ready o t part) txns) txns

abbrev pub waits : OpeningValue → Trace → Step → Answer → ℕ → List TxnValue → List TxnValue
waits o t (Submit at txn) (Waits id seg leaf) part txns = if at == part then txns ++ txn ∷ [] else txns
waits o t (Resume at) (Resumed txn reply) part txns = if at == part then without_ready o t part txns else txns
waits o t _ _ part txns = txns

-- the transactions that wait at a partition, in their order of arrival
abbrev pub waiting : OpeningValue → Trace → ℕ → List TxnValue
waiting o [] part = []
waiting o ((step, answer) ∷ trace) part = waits o trace step answer part (waiting o trace part)

-- a transaction on this root key has to wait: another one waits, or the key is still coming
abbrev pub has_to_wait : OpeningValue → Trace → ℕ → ℕ → Bool
has_to_wait o t part root = list_any (λ txn. txn.root == root) (waiting o t part) || is_coming o t part root

-- the rows of all waiting transactions are on their way
abbrev pub are_coming : OpeningValue → Trace → ℕ → Bool
are_coming o t part = list_all (λ txn. is_coming o t part txn.root) (waiting o t part)

-- the first waiting transaction that can run
abbrev pub first_ready : OpeningValue → Trace → ℕ → Option TxnValue
first_ready o t part = find (is_ready o t part) (waiting o t part)

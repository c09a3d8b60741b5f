-- The operations of a transaction, as the words of its line spell them.
use Rattle.std.specs.Prelude.{ℕ, zero, suc, List, [], ◌∷◌, length, Option, Some, None}
use Rattle.sq_schema.specs.RowKey.{RowKey}
use Rattle.sq_schema.specs.declared.txn.Op.{Op}
use Rattle.sq_schema.specs.declared.txn.Op.TheVariants as op
use Rattle.sq_text.specs.declared.verb.OpName.{OpName}
use Rattle.sq_text.specs.declared.verb.OpName.TheVariants.{Get, Put, Add, Del, Check}
use Rattle.sq_text.specs.Words.{Word, ◌>>=◌}
use Rattle.sq_text.specs.Fields.{word_field, key_field, signed_field, row_field}
use Rattle.sq_text.specs.Verbs.{op_name_in}

-- the operation of this name on a key, as the words after the key continue: get T S, put T S N
-- NOTE, add T S N, del T S, check T S N
abbrev pub op_at_key : OpName → RowKey → List Word → Option (Op × List Word)
op_at_key Get key words = Some (op.Get key, words)
op_at_key Put key words = do
  row ← row_field words
  Some (op.Put key row.0, row.1)
op_at_key Add key words = do
  by ← signed_field words
  Some (op.Add key by.0, by.1)
op_at_key Del key words = Some (op.Del key, words)
op_at_key Check key words = do
  least ← signed_field words
  Some (op.Check key least.0, least.1)

-- the operation of this name
unfoldable pub op_with : OpName → List Word → Option (Op × List Word)
op_with name words = do
  key ← key_field words
  op_at_key name key.0 key.1

-- the next operation
abbrev pub op_field : List Word → Option (Op × List Word)
op_field words = do
  name ← word_field op_name_in words
  op_with name.0 name.1

-- operations up to the end of the words, at most n of them
unfoldable pub ops_within : ℕ → List Word → Option (List Op)
ops_within n [] = Some []
ops_within zero (word ∷ words) = None
ops_within (suc n) (word ∷ words) = do
  first ← op_field (word ∷ words)
  others ← ops_within n first.1
  Some (first.0 ∷ others)

-- operations up to the end of the words
abbrev pub ops_in : List Word → Option (List Op)
ops_in words = ops_within (length words) words

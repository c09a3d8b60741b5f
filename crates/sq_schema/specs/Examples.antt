-- Worked examples.
use Rattle.std.specs.Prelude.{ℕ, ℤ, pos, negsuc, List, [], ◌∷◌}
use Rattle.sq_rows.specs.declared.row.RowKey.{RowKey}
use Rattle.sq_schema.specs.declared.txn.Op.{Op}
use Rattle.sq_schema.specs.declared.txn.Op.TheVariants.{Get, Put, Add, Del, Check}
use Rattle.sq_rows.specs.Values.{RowValue}
use Rattle.sq_schema.specs.TxnValue.{TxnValue}
use Rattle.sq_rows.specs.RowList.{RowList, root_key}

-- a row without a note
abbrev pub plain : ℤ → RowValue
plain number = record { number = number; note = [] }

-- the row of 3 and the note `hi`
abbrev pub hi : RowValue
hi = record { number = pos 3; note = 104 ∷ 105 ∷ [] }

abbrev pub key : ℕ → ℕ → RowKey
key table sub = record { table = table; sub = sub }

-- a root row of 10 alone
abbrev pub ten : RowList
ten = (root_key, plain (pos 10)) ∷ []

abbrev pub on_five : List Op → TxnValue
on_five ops = record { id = 1; root = 5; ops = ops }

-- the largest number of a row
abbrev pub largest : ℤ
largest = pos 9223372036854775807

abbrev pub adds_largest : TxnValue
adds_largest = on_five (Add root_key largest ∷ [])

abbrev pub deletes_parent : TxnValue
deletes_parent = on_five (Put (key 1 7) hi ∷ Del root_key ∷ [])

abbrev pub puts_child : TxnValue
puts_child = on_five (Put (key 1 0) (plain (pos 1)) ∷ [])

abbrev pub checks : ℕ → TxnValue
checks least = on_five (Check root_key (pos least) ∷ [])

abbrev pub deletes_absent : TxnValue
deletes_absent = on_five (Del (key 1 7) ∷ [])

abbrev pub puts_and_adds : TxnValue
puts_and_adds = on_five (Put (key 1 7) hi ∷ Get (key 1 7) ∷ Get (key 1 8) ∷ Add root_key (negsuc 2) ∷ [])

abbrev pub adds_one : TxnValue
adds_one = on_five (Add root_key (pos 1) ∷ [])

abbrev pub gets_and_deletes : TxnValue
gets_and_deletes = on_five (Get root_key ∷ Del root_key ∷ [])

abbrev pub gets : TxnValue
gets = on_five (Get root_key ∷ [])

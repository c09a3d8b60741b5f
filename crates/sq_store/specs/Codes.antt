-- A store among the values that a model may have.
use Rattle.std.specs.Coded.{Coded, coded_ℕ, codes}
use Rattle.std.specs.FinMap as fin
use Rattle.sq_schema.specs.Family.{FamilyValue}
use Rattle.sq_store.specs.StoreValue.{StoreValue}

family_coded : Coded FamilyValue
family_coded = hlevel codes

pub store_coded : Coded StoreValue
store_coded = fin.code coded_ℕ family_coded

-- The operations of a transaction, however they are stored.
use Rattle.std.specs.Prelude.{List, [], ◌∷◌}
use Rattle.std.specs.Arc.{arc_slice_items}
use Rattle.sq_schema.specs.declared.txn.Op.{Op}
use Rattle.sq_schema.specs.declared.op_list.OpList.{OpList}
use Rattle.sq_schema.specs.declared.op_list.OpList.TheVariants.{One, Many, Shared}

abbrev pub ops_of : OpList → List Op
ops_of (One op) = op ∷ []
ops_of (Many ops) = ops.items
ops_of (Shared ops) = arc_slice_items ops

-- What every family keeps.
use Rattle.std.specs.Prelude.{◌≡◌, true, ◌≤◌, length}
use Rattle.std.specs.List.{All}
use Rattle.sq_rows.specs.RowList.{RowList}
use Rattle.sq_rows.specs.Rows.{is_rooted}
use Rattle.sq_schema.specs.declared.family.TheConstants.{MAX_LOG}
use Rattle.sq_schema.specs.Family.{FamilyValue, rows_of}

-- the stored rows are those of the family; the log isn't too long, and its transactions are of the
-- root key
pub record IsKept (family : FamilyValue) (now : RowList) : Type 0 where
  pub rows : now ≡ rows_of family
  pub short : length family.log ≤ MAX_LOG
  pub own : All (λ txn. txn.root ≡ family.root) family.log
  pub rooted : is_rooted family.base ≡ true

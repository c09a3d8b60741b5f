-- A family whose log is folded is sound.
use Rattle.std.proofs.Common.{◌≡◌, [], refl, ap, ◌∙◌, arith}
use Rattle.std.proofs.lemmas.List.Elements.{All-nil}
use Rattle.sq_schema.specs.TxnValue.{TxnValue}
use Rattle.sq_rows.specs.RowList.{RowList}
use Rattle.sq_rows.specs.Rows.{is_rooted}
use Rattle.sq_schema.specs.Standing.{IsKept}
use Rattle.sq_schema.specs.Family.{FamilyValue}
use Rattle.sq_schema.proofs.Applied.{is_rooted-replay_rows}

pub IsKept-folded : (family : FamilyValue) (now : RowList) → IsKept family now → IsKept (record { root = family.root; base = now; log = [] }) now
IsKept-folded family now is = record {
  rows = refl;
  short = omega arith;
  own = All-nil (λ (txn : TxnValue). txn.root ≡ family.root);
  rooted = ap is_rooted is.rows ∙ is_rooted-replay_rows family.log family.base is.rooted;
}

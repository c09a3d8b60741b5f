-- A store that is opened with families one after another, in the order of their root keys.
use Rattle.std.proofs.Common.{◌≡◌, ℕ, List, ◌∷◌, ◌++◌, sym, ap, ◌∙◌}
use Rattle.std.specs.Prelude.{map}
use Rattle.sq_schema.specs.Effect.{RowList}
use Rattle.sq_schema.specs.Table.{TableValue}
use Rattle.sq_schema.specs.Family.{FamilyValue}
use Rattle.sq_store.specs.Opened.{opened_family}

-- once the first of the root keys that are left is taken, the families so far and it go before those that are left
module _ (before all : List FamilyValue) (entry : ℕ × RowList) (table left : TableValue) (next : left ≡ entry ∷ table) (so_far : before ++ map opened_family left ≡ all) where
  pub next_kept : before ++ opened_family entry ∷ map opened_family table ≡ all
  next_kept = ap (λ (entries : TableValue). before ++ map opened_family entries) (sym next) ∙ so_far

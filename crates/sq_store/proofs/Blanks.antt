-- Families without rows, as a store opens with them.
use Rattle.std.proofs.Common.{◌≡◌, ℕ, Bool, true, false, [], ◌∷◌, refl, ap}
use Rattle.std.specs.Prelude.{◌==◌, if◌then◌else◌}
use Rattle.sq_schema.specs.Table.{TableValue}
use Rattle.sq_plan.specs.PlanValue.{PlanValue, owner}
use Rattle.sq_store.specs.Opened.{blank, owned_entries}

-- a partition owns the same root keys
pub owned_blank : (plan : PlanValue) (part : ℕ) (table : TableValue) → owned_entries plan part (blank table) ≡ blank (owned_entries plan part table)
owned_blank plan part [] = refl
owned_blank plan part (entry ∷ table) = by_owner (owner plan entry.0 == part) (owned_blank plan part table)
  where
    own : TableValue
    own = owned_entries plan part table

    by_owner : (b : Bool) → owned_entries plan part (blank table) ≡ blank own → (if b then (entry.0, []) ∷ owned_entries plan part (blank table) else owned_entries plan part (blank table)) ≡ blank (if b then entry ∷ own else own)
    by_owner true same = ap (λ (entries : TableValue). (entry.0, []) ∷ entries) same
    by_owner false same = same

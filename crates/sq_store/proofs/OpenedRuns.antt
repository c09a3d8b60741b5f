-- Runs that are opened with families one after another, in the order of their root keys.
use Rattle.std.proofs.Common.{◌≡◌, ℕ, Bool, true, [], ◌∷◌, arith}
use Rattle.std.specs.Prelude.{◌+◌, ◌<◌, ◌≤◌, ◌==◌}
use Rattle.std.specs.Ordering.{nat_cmp, is_lt}
use Rattle.std.specs.FinMap.Entries.{below_all, is_sorted, where_key, is_sorted-where_key}
use Rattle.std.proofs.lemmas.Bool.{and_parts}
use Rattle.std.proofs.lemmas.Float.{T_from_true}
use Rattle.sq_schema.specs.declared.root.TheConstants.{ROOT_END}
use Rattle.sq_schema.specs.Effect.{RowList}
use Rattle.sq_schema.specs.Table.{TableValue}
use Rattle.sq_plan.specs.PlanValue.{PlanValue, owner}
use Rattle.sq_store.specs.Opened.{owned_entries}
use Rattle.sq_store.proofs.Lists.{from_T}
use Rattle.sq_store.proofs.Order.{less_from_cmp}

-- the first root key of entries, or the end of all
abbrev pub first_key : TableValue → ℕ
first_key [] = ROOT_END
first_key (entry ∷ entries) = entry.0

-- the next is behind it
pub next_key : (entry : ℕ × RowList) (entries : TableValue) → entry.0 < ROOT_END → is_sorted nat_cmp (entry ∷ entries) ≡ true → entry.0 + 1 ≤ first_key entries
next_key entry [] bound rising = omega (arith, bound)
next_key entry (next ∷ entries) bound rising =
    let below = (and_parts (below_all nat_cmp entry.0 (next ∷ entries)) (is_sorted nat_cmp (next ∷ entries)) rising).0 in
    let less = less_from_cmp entry.0 next.0 (and_parts (is_lt (nat_cmp entry.0 next.0)) (below_all nat_cmp entry.0 entries) below).0 in
    omega (arith, less)

pub rest_rises : (entry : ℕ × RowList) (entries : TableValue) → is_sorted nat_cmp (entry ∷ entries) ≡ true → is_sorted nat_cmp entries ≡ true
rest_rises entry entries rising = (and_parts (below_all nat_cmp entry.0 entries) (is_sorted nat_cmp entries) rising).1

-- the entries of a partition rise as those of the table do
pub owned_rise : (plan : PlanValue) (part : ℕ) (table : TableValue) → is_sorted nat_cmp table ≡ true → is_sorted nat_cmp (owned_entries plan part table) ≡ true
owned_rise plan part table rising =
    let own : ℕ → Bool = λ key. owner plan key == part in
    from_T (is_sorted nat_cmp (where_key nat_cmp own table)) (is_sorted-where_key nat_cmp own table (T_from_true (is_sorted nat_cmp table) rising))

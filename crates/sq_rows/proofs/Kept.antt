-- Edits of rows keep them sound.
use Rattle.std.proofs.Common.{◌≡◌, Bool, true, false, not, T, List, [], ◌∷◌, Some, None, Option, refl, subst}
use Rattle.std.specs.declared.cmp.Ordering.TheVariants.{Less, Equal, Greater}
use Rattle.std.specs.List.{All, AllPass}
use Rattle.std.specs.Ordering.{eq_by_cmp}
use Rattle.std.specs.FinMap.Entries.{by_order, is_sorted, is_sorted-put, is_sorted-where_key}
use Rattle.std.proofs.lemmas.List.Elements.{All-nil, All-cons, All-head, All-tail, All-filter}
use Rattle.sq_rows.specs.declared.row.RowKey.{RowKey}
use Rattle.sq_rows.specs.Values.{RowValue}
use Rattle.sq_rows.specs.Keys.{key_cmp}
use Rattle.sq_rows.specs.RowList.{RowList, with_row, without_row}
use Rattle.sq_rows.specs.Rows.{is_entry, IsRowList}
use Rattle.sq_rows.specs.Writes.{Write, is_sound, is_write, with_write, with_writes}
use Rattle.sq_rows.proofs.KeyOrder.{key_cmp_total, same_key}

-- the two forms of a test that is true
pub to_T : (b : Bool) → b ≡ true → T b
to_T true e = tt
to_T false e = absurd (cc)

pub from_T : (b : Bool) → T b → b ≡ true
from_T true t = refl
from_T false t = absurd t

-- what holds of each entry and of the new one holds of each entry afterwards
pub All-with_row : (P : RowKey × RowValue → Type 0) (rows : RowList) (key : RowKey) (row : RowValue) → P (key, row) → All P rows → All P (with_row rows key row)
All-with_row P [] key row new all = All-cons P (key, row) [] new (All-nil P)
All-with_row P (entry ∷ rows) key row new all =
    elim (key_cmp key entry.0) as (λ r. key_cmp key entry.0 ≡ r → All P (by_order r ((key, row) ∷ entry ∷ rows) ((entry.0, row) ∷ rows) (entry ∷ with_row rows key row))) [
      | Less ↦ λ is. All-cons P (key, row) (entry ∷ rows) new all
      | Equal ↦ λ is. All-cons P (entry.0, row) rows (subst (λ k. P (k, row)) (same_key key entry.0 is) new) (All-tail P entry rows all)
      | Greater ↦ λ is. All-cons P entry (with_row rows key row) (All-head P entry rows all) (All-with_row P rows key row new (All-tail P entry rows all))
    ] refl

pub is_sorted-with_row : (rows : RowList) (key : RowKey) (row : RowValue) → is_sorted key_cmp rows ≡ true → is_sorted key_cmp (with_row rows key row) ≡ true
is_sorted-with_row rows key row rising = from_T _ (is_sorted-put key_cmp key_cmp_total key row rows (to_T _ rising))

pub is_sorted-without_row : (rows : RowList) (key : RowKey) → is_sorted key_cmp rows ≡ true → is_sorted key_cmp (without_row rows key) ≡ true
is_sorted-without_row rows key rising = from_T _ (is_sorted-where_key key_cmp (λ other. not (eq_by_cmp key_cmp key other)) rows (to_T _ rising))

pub IsRowList-with_row : (rows : RowList) (key : RowKey) (row : RowValue) → is_entry (key, row) ≡ true → IsRowList rows → IsRowList (with_row rows key row)
IsRowList-with_row rows key row new sound =
    record {
      rising = is_sorted-with_row rows key row sound.rising;
      entries = All-with_row (λ entry. is_entry entry ≡ true) rows key row new sound.entries;
    }

pub IsRowList-without_row : (rows : RowList) (key : RowKey) → IsRowList rows → IsRowList (without_row rows key)
IsRowList-without_row rows key sound =
    record {
      rising = is_sorted-without_row rows key sound.rising;
      entries = All-filter (λ entry. not (eq_by_cmp key_cmp key entry.0)) (λ entry. is_entry entry ≡ true) rows sound.entries;
    }

pub IsRowList-with_write : (rows : RowList) (key : RowKey) (row : Option RowValue) → is_sound key row ≡ true → IsRowList rows → IsRowList (with_write rows key row)
IsRowList-with_write rows key None new sound = IsRowList-without_row rows key sound
IsRowList-with_write rows key (Some row) new sound = IsRowList-with_row rows key row new sound

pub is_sorted-with_write : (rows : RowList) (key : RowKey) (row : Option RowValue) → is_sorted key_cmp rows ≡ true → is_sorted key_cmp (with_write rows key row) ≡ true
is_sorted-with_write rows key None rising = is_sorted-without_row rows key rising
is_sorted-with_write rows key (Some row) rising = is_sorted-with_row rows key row rising

pub is_sorted-with_writes : (rows : RowList) (writes : List Write) → is_sorted key_cmp rows ≡ true → is_sorted key_cmp (with_writes rows writes) ≡ true
is_sorted-with_writes rows [] rising = rising
is_sorted-with_writes rows (write ∷ writes) rising = is_sorted-with_writes (with_write rows write.0 write.1) writes (is_sorted-with_write rows write.0 write.1 rising)

pub IsRowList-with_writes : (rows : RowList) (writes : List Write) → AllPass is_write writes → IsRowList rows → IsRowList (with_writes rows writes)
IsRowList-with_writes rows [] new sound = sound
IsRowList-with_writes rows (write ∷ writes) new sound =
    let passes : Write → Type 0 = λ write. is_write write ≡ true in
    IsRowList-with_writes (with_write rows write.0 write.1) writes (All-tail passes write writes new) (IsRowList-with_write rows write.0 write.1 (All-head passes write writes new) sound)

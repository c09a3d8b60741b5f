-- Rows that are equal are one value.
use Rattle.std.proofs.Common.{◌≡◌, ℕ, ℤ, Bool, ◌&&◌, ap, List}
use Rattle.std.specs.Bool.{Decides}
use Rattle.std.proofs.lemmas.Bool.Decides.{Decides-and, Decides-like}
use Rattle.std.specs.Cmp.{unsigned_Decides, signed_Decides}
use Rattle.std.specs.Cmp.Lexicographic.{pointwise_decides}
use Rattle.sq_rows.specs.declared.row.RowKey.{RowKey}
use Rattle.sq_rows.specs.Values.{RowValue}
use Rattle.sq_rows.specs.RowList.{RowList}
use Rattle.sq_rows.specs.Equal.{row_eq, row_key_eq, rows_eq}

-- a value of two parts, decided by a test each
pub both : {A B C : Type 0} (f : A → B → C) (p q : Bool) (a a' : A) (b b' : B) → Decides p (a ≡ a') → Decides q (b ≡ b') → (f a b ≡ f a' b' → (a ≡ a') × (b ≡ b')) → Decides (p && q) (f a b ≡ f a' b')
both f p q a a' b b' one other parts = Decides-like (p && q) (λ same. let first = same.0 in let second = same.1 in cc) parts (Decides-and p q one other)

pub row_key_same : (key other : RowKey) → Decides (row_key_eq key other) (key ≡ other)
row_key_same key other =
    let of : ℕ → ℕ → RowKey = λ table sub. record { table = table; sub = sub } in
    both of _ _ key.table other.table key.sub other.sub (unsigned_Decides key.table other.table) (unsigned_Decides key.sub other.sub)
    (λ same. (ap (λ (k : RowKey). k.table) same, ap (λ (k : RowKey). k.sub) same))

pub row_same : (row other : RowValue) → Decides (row_eq row other) (row ≡ other)
row_same row other =
    let of : ℤ → List ℕ → RowValue = λ number note. record { number = number; note = note } in
    both of _ _ row.number other.number row.note other.note (signed_Decides row.number other.number) (pointwise_decides unsigned_Decides row.note other.note)
    (λ same. (ap (λ (r : RowValue). r.number) same, ap (λ (r : RowValue). r.note) same))

entry_same : (entry other : RowKey × RowValue) → Decides (row_key_eq entry.0 other.0 && row_eq entry.1 other.1) (entry ≡ other)
entry_same entry other =
    let pair : RowKey → RowValue → RowKey × RowValue = λ key row. (key, row) in
    both pair _ _ entry.0 other.0 entry.1 other.1 (row_key_same entry.0 other.0) (row_same entry.1 other.1)
    (λ same. (ap (λ (e : RowKey × RowValue). e.0) same, ap (λ (e : RowKey × RowValue). e.1) same))

pub rows_same : (rows others : RowList) → Decides (rows_eq rows others) (rows ≡ others)
rows_same rows others = pointwise_decides entry_same rows others

-- A key without its mark wasn't written.
use Rattle.std.proofs.Common.{◌≡◌, Bool, true, false, cond, List, [], ◌∷◌, ◌++◌, Option, refl, sym, ap, ◌∙◌}
use Rattle.std.specs.List.{All}
use Rattle.std.proofs.lemmas.List.Elements.{All-head, All-tail, All-push, All-weaker}
use Rattle.sq_rows.specs.declared.row.RowKey.{RowKey}
use Rattle.sq_rows.specs.Values.{RowValue}
use Rattle.sq_rows.specs.RowList.{RowList, row_at}
use Rattle.sq_rows.specs.Writes.{Write, with_write, with_writes}
use Rattle.sq_schema.specs.WrittenKeys.{has_its_mark, AreMarked}
use Rattle.sq_rows.proofs.KeyOrder.{same_key_from_test}
use Rattle.sq_rows.proofs.Latest.{is_key, is_key-cmp, row_at-with_write}

-- writes of other keys leave the row of a key
pub row_at-others : (rows : RowList) (key : RowKey) (writes : List Write) → All (λ write. is_key write.0 key ≡ false) writes → row_at (with_writes rows writes) key ≡ row_at rows key
row_at-others rows key [] others = refl
row_at-others rows key (write ∷ writes) others =
    row_at-others (with_write rows write.0 write.1) key writes (All-tail (λ w. is_key w.0 key ≡ false) write writes others)
    ∙ row_at-with_write rows write.0 key write.1
    ∙ ap (λ b. cond b write.1 (row_at rows key)) (All-head (λ w. is_key w.0 key ≡ false) write writes others)

-- a key that has a mark isn't one that has none
other_key : (marks : List Bool) (key a : RowKey) → has_its_mark marks key ≡ false → has_its_mark marks a ≡ true → is_key a key ≡ false
other_key marks key a none has =
    elim (is_key a key) as (λ b. is_key a key ≡ b → b ≡ false) [
      | true ↦ λ same. let equal = same_key_from_test a key (sym (is_key-cmp a key) ∙ same) in absurd (cc)
      | false ↦ λ _. refl
    ] refl

pub row_at-unmarked : (rows : RowList) (marks : List Bool) (key : RowKey) (writes : List Write) → has_its_mark marks key ≡ false → AreMarked marks writes → row_at (with_writes rows writes) key ≡ row_at rows key
row_at-unmarked rows marks key writes none marked =
    row_at-others rows key writes
    (All-weaker (λ w. has_its_mark marks w.0 ≡ true) (λ w. is_key w.0 key ≡ false) (λ w has. other_key marks key w.0 none has) writes marked)

-- one more write, whose key got its mark
pub AreMarked-push : (old new : List Bool) (key : RowKey) (row : Option RowValue) (writes : List Write) → AreMarked old writes → ((other : RowKey) → has_its_mark old other ≡ true → has_its_mark new other ≡ true)
    → has_its_mark new key ≡ true → AreMarked new (writes ++ (key, row) ∷ [])
AreMarked-push old new key row writes marked kept added =
    All-push (λ w. has_its_mark new w.0 ≡ true) writes (key, row)
    (All-weaker (λ w. has_its_mark old w.0 ≡ true) (λ w. has_its_mark new w.0 ≡ true) (λ w has. kept w.0 has) writes marked) added

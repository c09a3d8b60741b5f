-- Rows as lines of a header.
use Rattle.std.specs.Prelude.{ℕ, List, [], ◌∷◌, map, codes, decimal}
use Rattle.std.specs.Borrow.{Bor}
use Rattle.std.specs.Fmt.{signed_decimal}
use Rattle.std.specs.List.{flat_map}
use Rattle.sq_schema.specs.RowKey.{RowKey}
use Rattle.sq_schema.specs.Values.{RowValue}
use Rattle.sq_schema.specs.Family.{FamilyValue, rows_of}
use Rattle.sq_text.specs.Texts.{line, note_text}

-- the line of a row of this root key: row ROOT T S N NOTE
abbrev pub row_line : ℕ → RowKey × RowValue → List ℕ
row_line root entry =
    line (codes "row" ∷ decimal root ∷ decimal entry.0.table ∷ decimal entry.0.sub
    ∷ signed_decimal entry.1.number ∷ note_text entry.1.note ∷ [])

-- the lines of the rows of a family, by rising key
abbrev pub root_lines : FamilyValue → List ℕ
root_lines family = flat_map (row_line family.root) (rows_of family)

-- the families themselves, from borrows of them
abbrev pub lent_values : List (Bor FamilyValue) → List FamilyValue
lent_values families = map (λ family. family.now) families

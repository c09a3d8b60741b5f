-- Families that are fit to be written and read again.
use Rattle.std.specs.Prelude.{ℕ, ℤ, pos, negsuc, List, [], ◌∷◌}
use Rattle.sq_rows.specs.RowList.{root_key}
use Rattle.sq_rows.specs.Values.{RowValue}
use Rattle.sq_schema.specs.Family.{FamilyValue}

abbrev pub example_row : ℤ → List ℕ → RowValue
example_row number note = record { number = number; note = note }

-- a root key with two rows, one of them with a note
abbrev pub two_rows : FamilyValue
two_rows =
    record {
      root = 5;
      base =
          (root_key, example_row (pos 10) [])
          ∷ (record { table = 1; sub = 7 }, example_row (negsuc 2) (104 ∷ 105 ∷ [])) ∷ [];
      log = [];
    }

-- the last root key, with its root row
abbrev pub last_root : FamilyValue
last_root =
    record {
      root = 4294967295;
      base = (root_key, example_row (negsuc 9223372036854775807) (255 ∷ [])) ∷ [];
      log = [];
    }

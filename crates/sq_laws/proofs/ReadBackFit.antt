-- Families that are fit.
use Rattle.std.proofs.Common.{ℕ, ◌<◌, ◌≤◌, ◌==◌, ◌^◌, [], ◌∷◌, refl, arith}
use Rattle.std.specs.Prelude.{count_by}
use Rattle.std.proofs.lemmas.Bool.Decides.{nat_tests}
use Rattle.std.proofs.lemmas.List.Elements.{All-nil, All-cons}
use Rattle.sq_rows.specs.declared.row.RowKey.{RowKey}
use Rattle.sq_rows.specs.RowList.{root_key}
use Rattle.sq_rows.specs.Values.{RowValue}
use Rattle.sq_schema.specs.Family.{FamilyValue}
use Rattle.sq_schema.specs.declared.schema.TheConstants.{MAX_TABLES}
use Rattle.std.specs.Prelude.{pos, negsuc}
use Rattle.sq_laws.specs.Examples.{example_row, two_rows, last_root}
use Rattle.sq_laws.specs.Fit.{IsFitRow, IsFitFamily}
use Rattle.sq_laws.specs.ReadAgain.{AreFit}

abbrev IsByte : ℕ → Type 0
IsByte byte = byte < 2 ^ 8

abbrev Entry : Type 0
Entry = RowKey × RowValue

abbrev plain_row : Entry
plain_row = (root_key, example_row (pos 10) [])

abbrev noted_row : Entry
noted_row = (record { table = 1; sub = 7 }, example_row (negsuc 2) (104 ∷ 105 ∷ []))

abbrev least_row : Entry
least_row = (root_key, example_row (negsuc 9223372036854775807) (255 ∷ []))

plain_fits : IsFitRow MAX_TABLES plain_row
plain_fits = record { in_range = refl; schema = refl; number = refl; note = All-nil IsByte }

noted_fits : IsFitRow MAX_TABLES noted_row
noted_fits =
    record {
      in_range = refl;
      schema = refl;
      number = refl;
      note = All-cons IsByte 104 (105 ∷ []) (omega arith) (All-cons IsByte 105 [] (omega arith) (All-nil IsByte));
    }

least_fits : IsFitRow MAX_TABLES least_row
least_fits = record { in_range = refl; schema = refl; number = refl; note = All-cons IsByte 255 [] (omega arith) (All-nil IsByte) }

two_fit : IsFitFamily MAX_TABLES two_rows
two_fit =
    let fits : Entry → Type 0 = IsFitRow MAX_TABLES in
    record {
      root = omega arith;
      rows = record { rising = refl; rooted = refl; each = All-cons fits plain_row (noted_row ∷ []) plain_fits (All-cons fits noted_row [] noted_fits (All-nil fits)) };
    }

last_fits : IsFitFamily MAX_TABLES last_root
last_fits =
    let fits : Entry → Type 0 = IsFitRow MAX_TABLES in
    record { root = omega arith; rows = record { rising = refl; rooted = refl; each = All-cons fits least_row [] least_fits (All-nil fits) } }

one_of_each : (root : ℕ) → count_by (λ (family : FamilyValue). family.root == root) (two_rows ∷ last_root ∷ []) ≤ 1
one_of_each root = grind (arith, nat_tests)

pub both_fit : AreFit MAX_TABLES (two_rows ∷ last_root ∷ [])
both_fit =
    let fits : FamilyValue → Type 0 = IsFitFamily MAX_TABLES in
    record {
      each = All-cons fits two_rows (last_root ∷ []) two_fit (All-cons fits last_root [] last_fits (All-nil fits));
      one_each = one_of_each;
    }

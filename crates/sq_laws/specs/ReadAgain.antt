-- Rows that are written as lines of a header, and read again.
use Rattle.std.specs.Prelude.{◌≡◌, ◌≢◌, ◌≤◌, ℕ, ◌+◌, ◌==◌, false, List, [], ◌++◌, length, sum_by, count_by, All, Some, Ok, codes}
use Rattle.sq_schema.specs.Effect.{RowTable}
use Rattle.sq_schema.specs.Family.{FamilyValue, rows_of}
use Rattle.sq_laws.specs.Fit.{IsFitFamily}
use Rattle.sq_text.specs.Pieces.{PieceValue, InputEnd, pieces_in, next_begins}
use Rattle.sq_text.specs.Header.{HeaderValue, plans_of, header_of}
use Rattle.sq_results.specs.Standing.{WritesRows}

-- families that a schema of this many tables accepts, at most one for each root key
pub record AreFit (tables : ℕ) (families : List FamilyValue) : Type 0 where
  pub each : All (IsFitFamily tables) families
  pub one_each :
      (root : ℕ) → count_by (λ (family : FamilyValue). family.root == root) families ≤ 1

-- how many rows families have
abbrev pub count_of_rows : List FamilyValue → ℕ
count_of_rows families = sum_by (λ (family : FamilyValue). length (rows_of family)) families

-- the table has the rows of these families, each at its root key, and no others
pub record HasRowsOf (families : List FamilyValue) (table : RowTable) : Type 0 where
  pub each : All (λ (family : FamilyValue). table family.root ≡ rows_of family) families
  pub others :
      (root : ℕ) → All (λ (family : FamilyValue). family.root ≢ root) families → table root ≡ []

-- an input spells these plans and sizes, and the table of these families, and `left` remains after
-- it
pub record IsHeaderWith (tables : ℕ) (families : List FamilyValue) (plans : HeaderValue)
    (input left : List PieceValue) : Type 0 where
  pub table : RowTable
  pub has : HasRowsOf families table
  pub header : header_of tables input ≡ Ok (record plans { rows = table }, left)

-- what is written of these families comes in the input after these plans and sizes, and what
-- remains after it doesn't begin with a row
pub record HasLinesOf (families : List FamilyValue) (plans : HeaderValue)
    (input left : List PieceValue) : Type 0 where
  pub text : List ℕ
  pub written : WritesRows families (Some []) (Some text)
  pub rest : List ℕ
  pub end : InputEnd
  pub lines : ℕ
  pub behind : plans_of input
      ≡ Ok (plans, pieces_in end (count_of_rows families + lines) (text ++ rest))
  pub follows : left ≡ pieces_in end lines rest
  pub no_row : next_begins (codes "row ") (pieces_in end lines rest) ≡ false

-- the header of any input that has the lines of these families has their rows
abbrev pub RowsAreReadBack : ℕ → List FamilyValue → Type 0
RowsAreReadBack tables families =
    (plans : HeaderValue) (input left : List PieceValue) → HasLinesOf families plans input left
    → IsHeaderWith tables families plans input left

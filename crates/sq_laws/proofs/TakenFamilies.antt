-- The rows of families, taken one family after another.
use Rattle.std.proofs.Common.{◌≡◌, ◌≢◌, ℕ, ◌+◌, ◌≤◌, ◌==◌, Bool, true, false, List, [], ◌∷◌, ◌++◌, length, get_or, refl, sym, ap, subst, ◌∙◌, append_assoc, arith}
use Rattle.std.specs.Prelude.{Option, Some, None, Result, Ok, Err, codes}
use Rattle.std.specs.List.{All, flat_map}
use Rattle.std.proofs.lemmas.Bool.{eq-eqb, eqb-false}
use Rattle.std.proofs.lemmas.List.Elements.{All-nil, All-cons, All-head, All-tail}
use Rattle.std.proofs.lemmas.List.Sorted.{All-permutation, IsPermutation-sym, sum_by-IsPermutation}
use Rattle.std.proofs.lemmas.List.Sums.{sum_by-cons}
use Rattle.sq_schema.specs.Chain.{◌>>=◌}
use Rattle.sq_schema.specs.Effect.{RowTable}
use Rattle.sq_schema.specs.Family.{FamilyValue, rows_of}
use Rattle.sq_moves.specs.declared.opening_fault.OpeningFault.{OpeningFault}
use Rattle.sq_moves.specs.Given.{no_rows}
use Rattle.sq_text.specs.Pieces.{PieceValue, InputEnd, pieces_in, next_begins}
use Rattle.sq_text.specs.declared.located.LocatedFault.{LocatedFault}
use Rattle.sq_text.specs.Header.{HeaderValue, unless_faulty, plans_fault, header_of_first, first_lines, plans_of, rows_taken}
use Rattle.sq_results.specs.RowLines.{root_lines}
use Rattle.sq_results.specs.Standing.{WritesRows}
use Rattle.sq_laws.specs.Fit.{IsFitFamily}
use Rattle.sq_laws.specs.ReadAgain.{AreFit, count_of_rows, IsHeaderWith, RowsAreReadBack}
use Rattle.sq_laws.proofs.Counts.{families_of, count_if, one_of, more_of}
use Rattle.sq_laws.proofs.TakenLines.{GoesOn, stands, goes_twice, stops}
use Rattle.sq_laws.proofs.TakenRows.{rows_go_on}

-- where there is none of a root key, each has another one
none_of_it : (root : ℕ) (families : List FamilyValue) → families_of root families ≡ 0 → All (λ (family : FamilyValue). family.root ≢ root) families
none_of_it root [] none = All-nil (λ (family : FamilyValue). family.root ≢ root)
none_of_it root (family ∷ families) none =
    let here : one_of root family ≡ 0 = omega (arith, more_of root family families, none) in
    let others : families_of root families ≡ 0 = omega (arith, more_of root family families, none) in
    All-cons (λ (f : FamilyValue). f.root ≢ root) family families (eqb-false family.root root (other (family.root == root) here)) (none_of_it root families others)
  where
    other : (same : Bool) → count_if same ≡ 0 → same ≡ false
    other true is = absurd (omega (arith, is))
    other false is = refl

-- the first one is the only one of its root key
only_one : (family : FamilyValue) (families : List FamilyValue) → families_of family.root (family ∷ families) ≤ 1 → All (λ (f : FamilyValue). f.root ≢ family.root) families
only_one family families few =
    let here : one_of family.root family ≡ 1 = ap count_if (eq-eqb family.root family.root refl) in
    let none : families_of family.root families ≡ 0 = omega (arith, more_of family.root family families, here, few) in
    none_of_it family.root families none

-- these families have their rows now, and all else is as it was
record ArePutAt (table : RowTable) (families : List FamilyValue) (now : RowTable) : Type 0 where
  each : All (λ (family : FamilyValue). now family.root ≡ rows_of family) families
  others : (root : ℕ) → All (λ (family : FamilyValue). family.root ≢ root) families → now root ≡ table root

module _ (tables : ℕ) (end : InputEnd) (left : ℕ) (rest : List ℕ) where
  families_go_on : (families : List FamilyValue) (table : RowTable) → All (IsFitFamily tables) families → ((root : ℕ) → families_of root families ≤ 1) → All (λ (family : FamilyValue). table family.root ≡ []) families
      → (now : RowTable) × ArePutAt table families now × GoesOn tables table (pieces_in end (count_of_rows families + left) (flat_map root_lines families ++ rest)) now (pieces_in end left rest)
  families_go_on [] table fit few empty =
      let count : 0 + left ≡ left = omega arith in (
        table,
        record { each = All-nil (λ (family : FamilyValue). table family.root ≡ rows_of family); others = λ root apart. refl },
        stands tables table _ _ (ap (λ (n : ℕ). pieces_in end n rest) count),
      )
  families_go_on (family ∷ families) table fit few empty =
      let here = All-head (IsFitFamily tables) family families fit in
      let more = flat_map root_lines families ++ rest in
      let apart : All (λ (f : FamilyValue). f.root ≢ family.root) families = only_one family families (few family.root) in
      let first = rows_go_on tables family.root end (count_of_rows families + left) more here.root [] (rows_of family) table (All-head (λ (f : FamilyValue). table f.root ≡ []) family families empty) here.rows.rising here.rows.rooted here.rows.each in
      let still : All (λ (f : FamilyValue). first.0 f.root ≡ []) families = λ k d within.
      first.1.others (get_or families k d).root (λ same. apart k d within (sym same)) ∙ All-tail (λ (f : FamilyValue). table f.root ≡ []) family families empty k d within in
      let fewer : (root : ℕ) → families_of root families ≤ 1 = λ root. omega (arith, more_of root family families, few root) in
      let others = families_go_on families first.0 (All-tail (IsFitFamily tables) family families fit) fewer still in
      let count : count_of_rows (family ∷ families) + left ≡ length (rows_of family) + (count_of_rows families + left) =
      omega (arith, sum_by-cons (λ (f : FamilyValue). length (rows_of f)) family families) in
      let split : pieces_in end (count_of_rows (family ∷ families) + left) ((root_lines family ++ flat_map root_lines families) ++ rest) ≡ pieces_in end (length (rows_of family) + (count_of_rows families + left)) (root_lines family ++ more) =
      λ i. pieces_in end (count i) (append_assoc (root_lines family) (flat_map root_lines families) rest i) in (
        others.0,
        record {
          each = All-cons (λ (f : FamilyValue). others.0 f.root ≡ rows_of f) family families (others.1.others family.root apart ∙ first.1.here) others.1.each;
          others = λ root none.
              others.1.others root (All-tail (λ (f : FamilyValue). f.root ≢ root) family families none)
              ∙ first.1.others root (All-head (λ (f : FamilyValue). f.root ≢ root) family families none);
        },
        goes_twice tables table table others.0 _ _ _ (stands tables table _ _ split) (goes_twice tables table first.0 others.0 _ _ _ first.2 others.2),
      )

-- the header with the rows that are read behind its plans and sizes
abbrev with_table : HeaderValue → Result (RowTable × List PieceValue) LocatedFault → Result (HeaderValue × List PieceValue) LocatedFault
with_table header rows = rows >>= (λ taken. Ok (record header { rows = taken.0 }, taken.1))

abbrev with_rows_behind : ℕ → Result (HeaderValue × List PieceValue) LocatedFault → Result (HeaderValue × List PieceValue) LocatedFault
with_rows_behind tables read = read >>= (λ header. with_table header.0 (rows_taken tables header.0.rows 0 header.1))

abbrev rows_with : Result (HeaderValue × List PieceValue) LocatedFault → RowTable
rows_with (Ok header) = header.0.rows
rows_with (Err fault) = no_rows

-- the header that is made of first lines, unless they have a fault
abbrev header_from : {F : Type 0} → (F → Option OpeningFault) → (F → HeaderValue) → F × List PieceValue → Result (HeaderValue × List PieceValue) LocatedFault
header_from fault header first = unless_faulty (fault first.0) (header first.0, first.1)

-- where it has no rows, none are read yet
no_rows_yet : {F : Type 0} (read : Result (F × List PieceValue) LocatedFault) (fault : F → Option OpeningFault) (header : F → HeaderValue) (plans : HeaderValue) (left : List PieceValue) → ((first : F) → (header first).rows ≡ no_rows)
    → (read >>= header_from fault header) ≡ Ok (plans, left) → no_rows ≡ plans.rows
no_rows_yet (Err refused) fault header plans left none is = absurd cc
no_rows_yet (Ok first) fault header plans left none is = by_fault (fault first.0) is
  where
    by_fault : (found : Option OpeningFault) → unless_faulty {A = HeaderValue × List PieceValue} found (header first.0, first.1) ≡ Ok (plans, left) → no_rows ≡ plans.rows
    by_fault None e = sym (none first.0) ∙ ap rows_with e
    by_fault (Some refused) e = absurd cc

-- what was written of families is read as their table
read_again : (tables : ℕ) (families : List FamilyValue) (text : List ℕ) → AreFit tables families → WritesRows families (Some []) (Some text)
    → (input : List PieceValue) (plans : HeaderValue) (rest : List ℕ) (end : InputEnd) (left : ℕ) → plans_of input ≡ Ok (plans, pieces_in end (count_of_rows families + left) (text ++ rest)) → next_begins (codes "row ") (pieces_in end left rest) ≡ false
    → IsHeaderWith tables families plans input (pieces_in end left rest)
read_again tables families text fit wrote input plans rest end left begins other =
    let sorted = wrote.sorted in
    let back = IsPermutation-sym families sorted wrote.same in
    let few : (root : ℕ) → families_of root sorted ≤ 1 = λ root. omega (arith, sum_by-IsPermutation (one_of root) families sorted wrote.same, fit.one_each root) in
    let all = families_go_on tables end left rest sorted no_rows (All-permutation (IsFitFamily tables) families sorted wrote.same fit.each) few (λ k d within. refl) in
    let same : count_of_rows families ≡ count_of_rows sorted = sym (sum_by-IsPermutation (λ (f : FamilyValue). length (rows_of f)) families sorted wrote.same) in
    let taken = all.2.from 0 in
    let none = no_rows_yet (first_lines input) plans_fault header_of_first plans (pieces_in end (count_of_rows families + left) (text ++ rest)) (λ first. refl) begins in
    record {
      table = all.0;
      has = record {
        each = All-permutation (λ (f : FamilyValue). all.0 f.root ≡ rows_of f) sorted families back all.1.each;
        others = λ root apart. all.1.others root (All-permutation (λ (f : FamilyValue). f.root ≢ root) families sorted wrote.same apart);
      };
      header =
          ap (with_rows_behind tables) begins
          ∙ (λ i. with_table plans (rows_taken tables (sym none i) 0 (pieces_in end (same i + left) (wrote.wrote i ++ rest))))
          ∙ ap (with_table plans) (taken.1 ∙ stops tables all.0 taken.0 (pieces_in end left rest) other);
    }

-- the same of whichever input has what was written
pub read_back : (tables : ℕ) (families : List FamilyValue) → AreFit tables families → RowsAreReadBack tables families
read_back tables families fit = λ plans input left has.
    subst (IsHeaderWith tables families plans input) (sym has.follows)
    (read_again tables families has.text fit has.written input plans has.rest has.end has.lines has.behind has.no_row)

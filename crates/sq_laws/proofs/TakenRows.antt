-- The rows of one root key, taken one after another.
use Rattle.std.proofs.Common.{◌≡◌, ℕ, suc, ◌+◌, ◌<◌, ◌==◌, ◌&&◌, Bool, true, false, not, List, [], ◌∷◌, ◌++◌, length, inl, inr, refl, sym, ap, ◌∙◌, append_assoc, zero-add, arith}
use Rattle.std.specs.Prelude.{if◌then◌else◌, Option, Some, None, is_some}
use Rattle.std.specs.List.{All, flat_map, list_all}
use Rattle.std.specs.declared.cmp.Ordering.TheVariants.{Less, Greater}
use Rattle.std.specs.Ordering.{nat_cmp, is_lt, is_eq, ordering_then, eq_by_cmp}
use Rattle.std.specs.FinMap.Entries.{by_order, is_sorted, below_all}
use Rattle.std.proofs.lemmas.Bool.{and_parts, or_cases, eq-eqb, ne_eqb}
use Rattle.std.proofs.lemmas.Bool.Decides.{nat_tests}
use Rattle.std.proofs.lemmas.List.{append-nil}
use Rattle.std.proofs.lemmas.List.Elements.{All-head, All-tail}
use Rattle.sq_rows.specs.declared.row.RowKey.{RowKey}
use Rattle.sq_rows.specs.Keys.{key_cmp}
use Rattle.sq_rows.specs.RowList.{RowList, root_key, row_at, with_row}
use Rattle.sq_rows.specs.Rows.{is_rooted}
use Rattle.sq_rows.specs.Values.{RowValue}
use Rattle.sq_rows.proofs.Entries.{less_from_test, turned, find_below, below_before}
use Rattle.sq_rows.proofs.KeyOrder.{key_cmp_total}
use Rattle.sq_schema.specs.Effect.{RowTable}
use Rattle.sq_schema.specs.Table.{row_given_fault, with_given}
use Rattle.sq_schema.specs.declared.fault.RowFault.{RowFault}
use Rattle.sq_schema.specs.declared.fault.RowFault.TheVariants.{RowRepeated, NoRootRow}
use Rattle.sq_schema.specs.declared.root.TheConstants.{ROOT_END}
use Rattle.sq_text.specs.Pieces.{InputEnd, pieces_in}
use Rattle.sq_results.specs.RowLines.{row_line}
use Rattle.sq_laws.specs.Fit.{IsFitRow}
use Rattle.sq_laws.proofs.TakenLines.{GoesOn, stands, goes_twice, row_goes_on}

abbrev Entry : Type 0
Entry = RowKey × RowValue

-- each of these rows is before a key
abbrev StandBefore : RowList → RowKey → Type 0
StandBefore [] key = Unit {0}
StandBefore (entry ∷ rows) key = (key_cmp key entry.0 ≡ Greater) × StandBefore rows key

-- a key below all of some rows, and so below this one
below_one : (key : RowKey) (done todo : RowList) (entry : Entry) → below_all key_cmp key (done ++ entry ∷ todo) ≡ true → key_cmp key entry.0 ≡ Less
below_one key [] todo entry below = less_from_test (key_cmp key entry.0) (and_parts (is_lt (key_cmp key entry.0)) (below_all key_cmp key todo) below).0
below_one key (first ∷ done) todo entry below = below_one key done todo entry (and_parts (is_lt (key_cmp key first.0)) (below_all key_cmp key (done ++ entry ∷ todo)) below).1

stand_before : (done todo : RowList) (entry : Entry) → is_sorted key_cmp (done ++ entry ∷ todo) ≡ true → StandBefore done entry.0
stand_before [] todo entry rising = tt
stand_before (first ∷ done) todo entry rising =
    let parts = and_parts (below_all key_cmp first.0 (done ++ entry ∷ todo)) (is_sorted key_cmp (done ++ entry ∷ todo)) rising in
    (turned key_cmp key_cmp_total first.0 entry.0 Less (below_one first.0 done todo entry parts.0), stand_before done todo entry parts.1)

none_there : (rows : RowList) (key : RowKey) → StandBefore rows key → row_at rows key ≡ None
none_there [] key before = refl
none_there (entry ∷ rows) key before =
    ap (λ order. if is_eq order then Some entry.1 else row_at rows key) before.0 ∙ none_there rows key before.1

goes_last : (rows : RowList) (key : RowKey) (row : RowValue) → StandBefore rows key → with_row rows key row ≡ rows ++ (key, row) ∷ []
goes_last [] key row before = refl
goes_last (entry ∷ rows) key row before =
    ap (λ order. by_order order ((key, row) ∷ entry ∷ rows) ((entry.0, row) ∷ rows) (entry ∷ with_row rows key row)) before.0
    ∙ ap (λ (others : RowList). entry ∷ others) (goes_last rows key row before.1)

-- the rows behind some rising ones rise
rest_rises : (done todo : RowList) → is_sorted key_cmp (done ++ todo) ≡ true → is_sorted key_cmp todo ≡ true
rest_rises [] todo rising = rising
rest_rises (first ∷ done) todo rising = rest_rises done todo (and_parts (below_all key_cmp first.0 (done ++ todo)) (is_sorted key_cmp (done ++ todo)) rising).1

-- what isn't found behind some rows is looked up among them
found_before : (done todo : RowList) (key : RowKey) → row_at todo key ≡ None → row_at (done ++ todo) key ≡ row_at done key
found_before [] todo key none = none
found_before (entry ∷ done) todo key none = ap (λ (found : Option RowValue). if eq_by_cmp key_cmp key entry.0 then Some entry.1 else found) (found_before done todo key none)

root_first : (table sub : ℕ) → (table == 0) ≡ false → key_cmp root_key (record { table = table; sub = sub }) ≡ Less
root_first table sub other = let before : nat_cmp 0 table ≡ Less = grind (arith, nat_tests) in ap (λ order. ordering_then order (nat_cmp 0 sub)) before

-- rows of other tables come behind the root row
root_before : (done todo : RowList) (entry : Entry) → is_sorted key_cmp (done ++ entry ∷ todo) ≡ true → (entry.0.table == 0) ≡ false → is_some (row_at (done ++ entry ∷ todo) root_key) ≡ true → is_some (row_at done root_key) ≡ true
root_before done todo entry rising other some =
    let less = root_first entry.0.table entry.0.sub other in
    let behind = and_parts (below_all key_cmp entry.0 todo) (is_sorted key_cmp todo) (rest_rises done (entry ∷ todo) rising) in
    let none : row_at (entry ∷ todo) root_key ≡ None =
    ap (λ order. if is_eq order then Some entry.1 else row_at todo root_key) less
    ∙ find_below key_cmp key_cmp_total root_key todo (below_before key_cmp key_cmp_total root_key entry.0 todo less behind.0) in
    ap (λ (found : Option RowValue). is_some found) (sym (found_before done (entry ∷ todo) root_key none)) ∙ some

-- where all are of table 0, each is
one_of_all : (done todo : RowList) (entry : Entry) → list_all (λ (e : Entry). e.0.table == 0) (done ++ entry ∷ todo) ≡ true → (entry.0.table == 0) ≡ true
one_of_all [] todo entry all = (and_parts (entry.0.table == 0) (list_all (λ (e : Entry). e.0.table == 0) todo) all).0
one_of_all (first ∷ done) todo entry all = one_of_all done todo entry (and_parts (first.0.table == 0) (list_all (λ (e : Entry). e.0.table == 0) (done ++ entry ∷ todo)) all).1

root_or_table_0 : (done todo : RowList) (entry : Entry) → is_sorted key_cmp (done ++ entry ∷ todo) ≡ true → is_rooted (done ++ entry ∷ todo) ≡ true → (not (entry.0.table == 0) && not (is_some (row_at done root_key))) ≡ false
root_or_table_0 done todo entry rising rooted = by_table (entry.0.table == 0) refl
  where
    with_root : (entry.0.table == 0) ≡ false → is_some (row_at done root_key) ≡ true
    with_root other =
        elim (or_cases (is_some (row_at (done ++ entry ∷ todo) root_key)) (list_all (λ (e : Entry). e.0.table == 0) (done ++ entry ∷ todo)) rooted) [
          | inl some ↦ root_before done todo entry rising other some
          | inr all ↦ absurd (cc (one_of_all done todo entry all, other))
        ]

    by_table : (t : Bool) → (entry.0.table == 0) ≡ t → (not t && not (is_some (row_at done root_key))) ≡ false
    by_table true is = refl
    by_table false is = ap not (with_root is)

-- rows so far have place for the next one
has_place : (done todo : RowList) (entry : Entry) → is_sorted key_cmp (done ++ entry ∷ todo) ≡ true → is_rooted (done ++ entry ∷ todo) ≡ true → row_given_fault done entry.0 ≡ None
has_place done todo entry rising rooted =
    let late : Option RowFault = if not (entry.0.table == 0) && not (is_some (row_at done root_key)) then Some NoRootRow else None in
    ap (λ (found : Option RowValue). if is_some found then Some RowRepeated else late) (none_there done entry.0 (stand_before done todo entry rising))
    ∙ ap (λ (stray : Bool). if stray then Some NoRootRow else None) (root_or_table_0 done todo entry rising rooted)

-- a root key has these rows now, and all else is as it was
pub record IsPutAt (table : RowTable) (root : ℕ) (rows : RowList) (now : RowTable) : Type 0 where
  pub here : now root ≡ rows
  pub others : (k : ℕ) → (root ≡ k → ⊥) → now k ≡ table k

-- the rows of a root key are taken behind those that it has
module _ (tables root : ℕ) (end : InputEnd) (left : ℕ) (rest : List ℕ) (below : root < ROOT_END) where
  pub rows_go_on : (done todo : RowList) (table : RowTable) → table root ≡ done → is_sorted key_cmp (done ++ todo) ≡ true → is_rooted (done ++ todo) ≡ true → All (IsFitRow tables) todo
      → (now : RowTable) × IsPutAt table root (done ++ todo) now × GoesOn tables table (pieces_in end (length todo + left) (flat_map (row_line root) todo ++ rest)) now (pieces_in end left rest)
  rows_go_on done [] table had rising rooted fit = (
    table,
    record { here = had ∙ sym (append-nil done); others = λ k apart. refl },
    stands tables table _ _ (ap (λ (n : ℕ). pieces_in end n rest) (zero-add left)),
  )
  rows_go_on done (entry ∷ todo) table had rising rooted fit =
      let more = flat_map (row_line root) todo ++ rest in
      let mid = with_given table root entry.0 entry.1 in
      let joined : (done ++ entry ∷ []) ++ todo ≡ done ++ entry ∷ todo = append_assoc done (entry ∷ []) todo in
      let free : row_given_fault (table root) entry.0 ≡ None = ap (λ (rows : RowList). row_given_fault rows entry.0) had ∙ has_place done todo entry rising rooted in
      let has : mid root ≡ done ++ entry ∷ [] =
      ap (λ (same : Bool). if same then with_row (table root) entry.0 entry.1 else table root) (eq-eqb root root refl)
      ∙ ap (λ (rows : RowList). with_row rows entry.0 entry.1) had
      ∙ goes_last done entry.0 entry.1 (stand_before done todo entry rising) in
      let others = rows_go_on (done ++ entry ∷ []) todo mid has
      (ap (is_sorted key_cmp) joined ∙ rising) (ap is_rooted joined ∙ rooted) (All-tail (IsFitRow tables) entry todo fit) in
      let first = row_goes_on tables table root entry end (length todo + left) more below (All-head (IsFitRow tables) entry todo fit) free in
      let count : suc (length todo) + left ≡ suc (length todo + left) = omega arith in
      let split : pieces_in end (suc (length todo) + left) ((row_line root entry ++ flat_map (row_line root) todo) ++ rest) ≡ pieces_in end (suc (length todo + left)) (row_line root entry ++ more) =
      λ i. pieces_in end (count i) (append_assoc (row_line root entry) (flat_map (row_line root) todo) rest i) in (
        others.0,
        record {
          here = others.1.here ∙ joined;
          others = λ k apart. others.1.others k apart ∙ ap (λ (same : Bool). if same then with_row (table k) entry.0 entry.1 else table k) (ne_eqb root k apart);
        },
        goes_twice tables table table others.0 _ _ _ (stands tables table _ _ split) (goes_twice tables table mid others.0 _ _ _ first others.2),
      )

-- A table that rows were given to has just these rows.
use Rattle.std.proofs.Common.{◌≡◌, ◌⊎◌, ⊎_elim, inl, inr, ℕ, zero, suc, ◌+◌, ◌==◌, Bool, true, false, if◌then◌else◌, List, [], ◌∷◌, map, slice_get, Contains, Option, Some, None, is_some, refl, sym, ap, ◌∙◌, subst}
use Rattle.std.specs.Option.{option_map, option_or}
use Rattle.std.proofs.lemmas.Bool.{cases_Bool, cond-true, cond-false, and_parts, and_from, eqb-true, eq-eqb}
use Rattle.sq_rows.specs.declared.row.RowKey.{RowKey}
use Rattle.sq_rows.specs.Values.{RowValue}
use Rattle.sq_rows.specs.RowList.{RowList, row_at, with_row}
use Rattle.sq_rows.proofs.Latest.{is_key, row_at-with_row}
use Rattle.sq_schema.specs.Effect.{RowTable}
use Rattle.sq_schema.specs.declared.fault.RowFault.{RowFault}
use Rattle.sq_schema.specs.declared.fault.RowFault.TheVariants.{RowRepeated}
use Rattle.sq_moves.specs.declared.opening.GivenRow.{GivenRow}
use Rattle.sq_moves.specs.declared.opening_fault.OpeningFault.TheVariants as opening
use Rattle.sq_moves.specs.declared.opening.Config.{Config}
use Rattle.sq_plan.specs.PlanValue.{PlanValue}
use Rattle.sq_schema.specs.Table.{TableValue, rows_in, row_given_fault}
use Rattle.sq_moves.specs.OpeningFaults.{of_row}
use Rattle.sq_moves.specs.Given.{GivenValue, value_of, no_rows, with_one, given_rows}
use Rattle.sq_moves.specs.Refused.{config_fault, shape_fault, given_fault, rows_fault, opening_fault}
use Rattle.sq_model.proofs.Lists.{Contains-first, Contains-later, Contains-cases, Contains-nothing, Contains-slice_get}
use Rattle.sq_laws.specs.Rows.{HasRow, HasJust}

-- ---- one row

neither : {F : Type 0} (first rest : Option F) → option_or first rest ≡ None → (first ≡ None) × (rest ≡ None)
neither None rest e = (refl, e)
neither (Some fault) rest e = absurd cc

unmapped : {X Y : Type 0} (f : X → Y) (o : Option X) → option_map f o ≡ None → o ≡ None
unmapped f None e = refl
unmapped f (Some x) e = absurd cc

none_there : (row : Option RowValue) → is_some row ≡ false → row ≡ None
none_there None e = refl
none_there (Some row) e = absurd cc

-- a row that is taken has a place at which none was
was_free : (rows : RowList) (key : RowKey) → row_given_fault rows key ≡ None → row_at rows key ≡ None
was_free rows key none = none_there (row_at rows key) (free (is_some (row_at rows key)) _ none)
  where
    free : (there : Bool) (rest : Option RowFault) → (if there then Some RowRepeated else rest) ≡ None → there ≡ false
    free true rest e = absurd cc
    free false rest e = refl

key_itself : (key : RowKey) → is_key key key ≡ true
key_itself key = and_from (key.table == key.table) (key.sub == key.sub) (eq-eqb key.table key.table refl) (eq-eqb key.sub key.sub refl)

same_key : (one other : RowKey) → is_key one other ≡ true → one ≡ other
same_key one other e =
    let parts = and_parts (one.table == other.table) (one.sub == other.sub) e in
    let table : one.table ≡ other.table = eqb-true one.table other.table parts.0 in
    let sub : one.sub ≡ other.sub = eqb-true one.sub other.sub parts.1 in
    λ i. record { table = table i; sub = sub i }

same_value : (one other : GivenValue) → one.root ≡ other.root → one.key ≡ other.key → one.row ≡ other.row → one ≡ other
same_value one other root key row = λ i. record { root = root i; key = key i; row = row i }

-- the table with one more row has it
has_it : (table : RowTable) (given : GivenValue) → HasRow (with_one table given) given
has_it table given =
    ap (λ (rows : RowList). row_at rows given.key) (cond-true (given.root == given.root) (with_row (table given.root) given.key given.row) (table given.root) (eq-eqb given.root given.root refl))
    ∙ row_at-with_row (table given.root) given.key given.key given.row
    ∙ cond-true (is_key given.key given.key) (Some given.row) (row_at (table given.root) given.key) (key_itself given.key)

-- at each place it has that row, or what was there
at_place : (table : RowTable) (given : GivenValue) (root : ℕ) (key : RowKey) → ((given.root ≡ root) × (given.key ≡ key)) ⊎ (row_at (with_one table given root) key ≡ row_at (table root) key)
at_place table given root key =
    elim (cases_Bool (given.root == root)) [
      | inr other ↦ inr (ap (λ (rows : RowList). row_at rows key) (cond-false (given.root == root) (with_row (table root) given.key given.row) (table root) other))
      | inl same ↦
          let here : row_at (with_one table given root) key ≡ row_at (with_row (table root) given.key given.row) key =
          ap (λ (rows : RowList). row_at rows key) (cond-true (given.root == root) (with_row (table root) given.key given.row) (table root) same) in
          elim (cases_Bool (is_key given.key key)) [
            | inl its ↦ inl (eqb-true given.root root same, same_key given.key key its)
            | inr another ↦ inr (here ∙ row_at-with_row (table root) given.key key given.row ∙ cond-false (is_key given.key key) (Some given.row) (row_at (table root) key) another)
          ]
    ]

-- ---- all rows

-- the table with these rows, given one after another
abbrev pub with_rows_of : RowTable → List GivenValue → RowTable
with_rows_of table [] = table
with_rows_of table (row ∷ rows) = with_rows_of (with_one table row) rows

-- no row was there at the place of each, in its turn
abbrev pub AreFree : RowTable → List GivenValue → Type 0
AreFree table [] = Unit {0}
AreFree table (row ∷ rows) = (row_at (table row.root) row.key ≡ None) × AreFree (with_one table row) rows

-- what holds once rows were given behind those of a table
record Adds (table : RowTable) (rows : List GivenValue) : Type 0 where
  kept : (row : GivenValue) → HasRow table row → HasRow (with_rows_of table rows) row
  each : (row : GivenValue) → Contains rows row → HasRow (with_rows_of table rows) row
  from : (row : GivenValue) → HasRow (with_rows_of table rows) row → HasRow table row ⊎ Contains rows row
  new : (row : GivenValue) → Contains rows row → row_at (table row.root) row.key ≡ None
  once : (i j : ℕ) (one other : GivenValue) → slice_get rows i ≡ Some one → slice_get rows j ≡ Some other
      → one.root ≡ other.root → one.key ≡ other.key → i ≡ j

adds_none : (table : RowTable) → Adds table []
adds_none table =
    record {
      kept = λ row has. has;
      each = λ row has. absurd (Contains-nothing row has);
      from = λ row has. inl has;
      new = λ row has. absurd (Contains-nothing row has);
      once = λ i j one other at also root key. absurd cc;
    }

module _ (table : RowTable) (first : GivenValue) (rows : List GivenValue) (free : row_at (table first.root) first.key ≡ None) (rest : Adds (with_one table first) rows) where
  kept : (row : GivenValue) → HasRow table row → HasRow (with_one table first) row
  kept row has =
      ⊎_elim
      (λ same.
      let at : row_at (table row.root) row.key ≡ None = subst (λ (r : ℕ). row_at (table r) row.key ≡ None) same.0 (subst (λ (k : RowKey). row_at (table first.root) k ≡ None) same.1 free) in
      let e = sym has ∙ at in absurd cc)
      (λ was. was ∙ has)
      (at_place table first row.root row.key)

  -- at the place of the first row it has that one
  its_place : (root : ℕ) (key : RowKey) → first.root ≡ root → first.key ≡ key → row_at (with_one table first root) key ≡ Some first.row
  its_place root key same its =
      subst (λ (r : ℕ). row_at (with_one table first r) key ≡ Some first.row) same
      (subst (λ (k : RowKey). row_at (with_one table first first.root) k ≡ Some first.row) its (has_it table first))

  its_first : (row : GivenValue) → first.root ≡ row.root → first.key ≡ row.key → HasRow (with_one table first) row → first ≡ row
  its_first row root key has =
      let there = its_place row.root row.key root key in
      let e = sym there ∙ has in
      let is : first.row ≡ row.row = cc in
      same_value first row root key is

  from_first : (row : GivenValue) → HasRow (with_one table first) row → HasRow table row ⊎ (first ≡ row)
  from_first row has =
      ⊎_elim (λ same. inr (its_first row same.0 same.1 has)) (λ was. inl (sym was ∙ has)) (at_place table first row.root row.key)

  -- no later row has the place of this one
  apart : (other : GivenValue) → Contains rows other → first.root ≡ other.root → first.key ≡ other.key → ⊥
  apart other has root key =
      let there = its_place other.root other.key root key in
      let e = sym there ∙ rest.new other has in cc

  once : (i j : ℕ) (one other : GivenValue) → slice_get (first ∷ rows) i ≡ Some one → slice_get (first ∷ rows) j ≡ Some other
      → one.root ≡ other.root → one.key ≡ other.key → i ≡ j
  once zero zero one other at also root key = refl
  once zero (suc j) one other at also root key =
      let is : first ≡ one = cc in
      absurd (apart other (Contains-slice_get rows j other also) (ap (λ (g : GivenValue). g.root) is ∙ root) (ap (λ (g : GivenValue). g.key) is ∙ key))
  once (suc i) zero one other at also root key =
      let is : first ≡ other = cc in
      absurd (apart one (Contains-slice_get rows i one at) (ap (λ (g : GivenValue). g.root) is ∙ sym root) (ap (λ (g : GivenValue). g.key) is ∙ sym key))
  once (suc i) (suc j) one other at also root key = ap suc (rest.once i j one other at also root key)

  new : (other : GivenValue) → Contains (first ∷ rows) other → row_at (table other.root) other.key ≡ None
  new other has =
      ⊎_elim
      (λ same. subst (λ (g : GivenValue). row_at (table g.root) g.key ≡ None) same free)
      (λ later.
      ⊎_elim
      (λ place. absurd (apart other later place.0 place.1))
      (λ was. sym was ∙ rest.new other later)
      (at_place table first other.root other.key))
      (Contains-cases first rows other has)

  adds_one : Adds table (first ∷ rows)
  adds_one =
      record {
        kept = λ row has. rest.kept row (kept row has);
        each = λ other has.
            ⊎_elim
            (λ same. subst (HasRow (with_rows_of (with_one table first) rows)) same (rest.kept first (has_it table first)))
            (λ later. rest.each other later)
            (Contains-cases first rows other has);
        from = λ row has.
            ⊎_elim
            (λ before. ⊎_elim (λ was. inl was) (λ is. inr (subst (Contains (first ∷ rows)) is (Contains-first first rows))) (from_first row before))
            (λ later. inr (Contains-later first rows row later))
            (rest.from row has);
        new = new;
        once = once;
      }

adds : (table : RowTable) (rows : List GivenValue) → AreFree table rows → Adds table rows
adds table [] free = adds_none table
adds table (row ∷ rows) free = adds_one table row rows free.0 (adds (with_one table row) rows free.1)

-- rows that a table without any was given
pub has_just : (rows : List GivenValue) → AreFree no_rows rows → (table : RowTable) → ((root : ℕ) → table root ≡ with_rows_of no_rows rows root) → HasJust rows table
has_just rows free table is =
    let all = adds no_rows rows free in
    record {
      each = λ row has. ap (λ (at : RowList). row_at at row.key) (is row.root) ∙ all.each row has;
      no_other = λ row has.
          ⊎_elim
          (λ nothing. absurd (let e : row_at [] row.key ≡ Some row.row = nothing in cc))
          (λ given. given)
          (all.from row (ap (λ (at : RowList). row_at at row.key) (sym (is row.root)) ∙ has));
      once = all.once;
    }

-- a row without a fault has a place of its own
pub free_of : (tables : ℕ) (table : RowTable) (at : ℕ) (row : GivenValue) → given_fault tables table at row ≡ None → row_at (table row.root) row.key ≡ None
free_of tables table at row none =
    let parts = neither (option_map (opening.Row at) (shape_fault tables row)) (option_map (of_row at) (row_given_fault (table row.root) row.key)) none in
    was_free (table row.root) row.key (unmapped (of_row at) (row_given_fault (table row.root) row.key) parts.1)

-- ---- an opening

given_free : (tables : ℕ) (table : RowTable) (at : ℕ) (rows : List GivenRow) → rows_fault tables table at rows ≡ None → AreFree table (map value_of rows)
given_free tables table at [] none = tt
given_free tables table at (given ∷ rows) none =
    let parts = neither (given_fault tables table at (value_of given)) (rows_fault tables (with_one table (value_of given)) (at + 1) rows) none in
    (free_of tables table at (value_of given) parts.0, given_free tables (with_one table (value_of given)) (at + 1) rows parts.1)

given_are : (table : RowTable) (rows : List GivenRow) → given_rows table rows ≡ with_rows_of table (map value_of rows)
given_are table [] = refl
given_are table (given ∷ rows) = given_are (with_one table (value_of given)) rows

-- an opening for which there is no fault
pub just_the_given : (tables : ℕ) (old new : PlanValue) (config : Config) (rows : List GivenRow) → opening_fault tables old new config rows ≡ None
    → (table : TableValue) → ((root : ℕ) → rows_in table root ≡ given_rows no_rows rows root) → HasJust (map value_of rows) (rows_in table)
just_the_given tables old new config rows none table is =
    let free = given_free tables no_rows 0 rows (neither (config_fault old new config) (rows_fault tables no_rows 0 rows) none).1 in
    has_just (map value_of rows) free (rows_in table) (λ root. is root ∙ ap (λ (t : RowTable). t root) (given_are no_rows rows))

-- Opening rows, taken one after another.
use Rattle.std.proofs.Common.{◌≡◌, ℕ, Bool, true, false, cond, ◌+◌, ◌≤◌, ◌<◌, ◌≢◌, ◌==◌, not, nat_lt, if◌then◌else◌, List, [], ◌∷◌, length, drop, slice_index_or, unwrap_or, Option, Some, None, inl, inr, refl, sym, ap, ◌∙◌, arith}
use Rattle.std.specs.Prelude.{Result, Ok, Err, MatchResult, OnOk, OnErr}
use Rattle.std.specs.Ordering.{nat_cmp}
use Rattle.std.specs.List.{AllPass}
use Rattle.std.specs.Option.{option_map, option_or}
use Rattle.std.specs.FinMap.Entries.{find, is_sorted}
use Rattle.std.proofs.lemmas.Bool.{cases_lt, lt-ltb, ltb-true, ne_eqb, eq-eqb}
use Rattle.std.proofs.lemmas.List.{drop_more, drop_all}
use Rattle.std.proofs.lemmas.List.Elements.{All-nil, All-cons, All-head, All-tail}
use Rattle.std.proofs.lemmas.Option.{none-some}
use Rattle.sq_schema.specs.declared.fault.TxnFault.{TxnFault}
use Rattle.sq_schema.specs.declared.fault.TxnFault.TheVariants.{BadRoot}
use Rattle.sq_schema.specs.Effect.{RowList, RowTable}
use Rattle.sq_schema.specs.Table.{TableValue, rows_in, is_opening}
use Rattle.sq_schema.proofs.Latest.{nat_eq-cmp}
use Rattle.sq_schema.specs.declared.root.TheConstants.{ROOT_END}
use Rattle.sq_moves.specs.declared.opening_fault.OpeningFault.{OpeningFault}
use Rattle.sq_moves.specs.declared.opening_fault.OpeningFault.TheVariants.{Row}
use Rattle.sq_moves.specs.declared.opening.GivenRow.{GivenRow}
use Rattle.sq_moves.specs.declared.opening.TheConstants.{MIN_LIMIT, MAX_LIMIT}
use Rattle.sq_moves.specs.OpeningValue.{OpeningValue}
use Rattle.sq_moves.specs.SetUp.{IsSetUp}
use Rattle.sq_moves.specs.Given.{GivenValue, value_of, no_rows, with_one, given_rows, IsTableOf}
use Rattle.sq_moves.specs.Refused.{shape_fault, given_fault, rows_fault, first_fault}

-- neither of two parts has a fault where both have none
none-both : (first rest : Option OpeningFault) → option_or first rest ≡ None → (first ≡ None) × (rest ≡ None)
none-both None rest e = (refl, e)
none-both (Some fault) rest e = absurd (none-some fault (sym e))

-- nor has a row whose fault is one of an opening
none-told : (at : ℕ) (fault : Option TxnFault) → option_map (Row at) fault ≡ None → fault ≡ None
none-told at None e = refl
none-told at (Some fault) e = absurd (none-some (Row at fault) (sym e))

-- a table so far, with the rows that are still to be given, numbered from this on
pub record IsSoFar (tables : ℕ) (rows : List GivenRow) (at : ℕ) (rest : List GivenRow) (table : TableValue) : Type 0 where
  pub fault : rows_fault tables no_rows 0 rows ≡ rows_fault tables (rows_in table) at rest
  pub given : given_rows no_rows rows ≡ given_rows (rows_in table) rest
  pub early : first_fault tables (rows_in table) at rest ≡ None → first_fault tables no_rows 0 rows ≡ None
  pub below : (root : ℕ) → ROOT_END ≤ root → rows_in table root ≡ []

-- a row that isn't refused has a root key
shape-root : (tables : ℕ) (given : GivenValue) → shape_fault tables given ≡ None → given.root < ROOT_END
shape-root tables given none = ltb-true given.root ROOT_END (from_if _ (nat_lt given.root ROOT_END) none)
  where
    from_if : (rest : Option TxnFault) (b : Bool) → (if not b then Some BadRoot else rest) ≡ None → b ≡ true
    from_if rest true e = refl
    from_if rest false e = absurd (none-some BadRoot (sym e))

module _ (tables : ℕ) (rows : List GivenRow) (i : ℕ) (table : TableValue) (so_far : IsSoFar tables rows i (drop i rows) table) where
  module _ (given : GivenRow) (within : i < length rows) (here : given ≡ slice_index_or rows i given) where
    next_fault : rows_fault tables no_rows 0 rows ≡ option_or (given_fault tables (rows_in table) i (value_of given)) (rows_fault tables (with_one (rows_in table) (value_of given)) (i + 1) (drop (i + 1) rows))
    next_fault = so_far.fault ∙ rw (drop_more rows i given within, ← here) refl

    next_rows : given_rows no_rows rows ≡ given_rows (with_one (rows_in table) (value_of given)) (drop (i + 1) rows)
    next_rows = so_far.given ∙ rw (drop_more rows i given within, ← here) refl

    -- where this row has no fault, the first has none
    early_none : given_fault tables (rows_in table) i (value_of given) ≡ None → first_fault tables no_rows 0 rows ≡ None
    early_none none = so_far.early (rw (drop_more rows i given within, ← here) none)

    pub so_far-next : (now : TableValue) → given_fault tables (rows_in table) i (value_of given) ≡ None → ((root : ℕ) → rows_in now root ≡ with_one (rows_in table) (value_of given) root) → IsSoFar tables rows (i + 1) (drop (i + 1) rows) now
    so_far-next now none taken =
        let same : rows_in now ≡ with_one (rows_in table) (value_of given) = λ j root. taken root j in
        let root : given.root < ROOT_END = shape-root tables (value_of given) (none-told i (shape_fault tables (value_of given)) (none-both (option_map (Row i) (shape_fault tables (value_of given))) _ none).0) in
        record {
          fault = next_fault ∙ ap (λ first. option_or first (rows_fault tables (with_one (rows_in table) (value_of given)) (i + 1) (drop (i + 1) rows))) none ∙ ap (λ (t : RowTable). rows_fault tables t (i + 1) (drop (i + 1) rows)) (sym same);
          given = next_rows ∙ ap (λ (t : RowTable). given_rows t (drop (i + 1) rows)) (sym same);
          early = λ _. early_none none;
          below = λ other high. let apart : given.root ≢ other = omega arith in taken other ∙ rw (ne_eqb given.root other apart) (so_far.below other high);
        }

-- the rows of a root key, where the first entry is or isn't its own
looks : (entry : ℕ × RowList) (table : TableValue) (root : ℕ) → rows_in (entry ∷ table) root ≡ (if root == entry.0 then entry.1 else rows_in table root)
looks entry table root =
    ap (λ b. unwrap_or (cond b (Some entry.1) (find nat_cmp root table)) []) (sym (nat_eq-cmp root entry.0))
    ∙ elim (root == entry.0) as (λ b. unwrap_or (cond b (Some entry.1) (find nat_cmp root table)) [] ≡ (if b then entry.1 else rows_in table root)) [ true ↦ refl | false ↦ refl ]

not_empty : (rows : RowList) → is_opening rows ≡ true → rows ≡ [] → ⊥
not_empty [] some empty = absurd (cc)
not_empty (entry ∷ rows) some empty = absurd (cc)

-- a table without rows from the end of the root keys on has root keys below it
pub roots-below : (table : TableValue) → ((root : ℕ) → ROOT_END ≤ root → rows_in table root ≡ []) → AllPass (λ entry. is_opening entry.1) table → AllPass (λ entry. nat_lt entry.0 ROOT_END) table
roots-below [] below opening = All-nil (λ (entry : ℕ × RowList). nat_lt entry.0 ROOT_END ≡ true)
roots-below (entry ∷ table) below opening =
    let some : is_opening entry.1 ≡ true = All-head (λ (e : ℕ × RowList). is_opening e.1 ≡ true) entry table opening in
    let own : rows_in (entry ∷ table) entry.0 ≡ entry.1 = looks entry table entry.0 ∙ ap (λ b. if b then entry.1 else rows_in table entry.0) (eq-eqb entry.0 entry.0 refl) in
    let head : entry.0 < ROOT_END = head_below entry.0 (λ high. not_empty entry.1 some (sym own ∙ below entry.0 high)) in
    let rest : (root : ℕ) → ROOT_END ≤ root → rows_in table root ≡ [] = λ root high.
    let apart : root ≢ entry.0 = omega arith in
    sym (looks entry table root ∙ ap (λ b. if b then entry.1 else rows_in table root) (ne_eqb root entry.0 apart)) ∙ below root high in
    All-cons (λ (e : ℕ × RowList). nat_lt e.0 ROOT_END ≡ true) entry table (lt-ltb entry.0 ROOT_END head) (roots-below table rest (All-tail (λ (e : ℕ × RowList). is_opening e.1 ≡ true) entry table opening))
  where
    head_below : (root : ℕ) → (ROOT_END ≤ root → ⊥) → root < ROOT_END
    head_below root low = elim (cases_lt root ROOT_END) [ inl is ↦ is | inr high ↦ absurd (low high) ]

-- and one whose root keys are below it has no rows from there on
pub below-roots : (table : TableValue) → AllPass (λ entry. nat_lt entry.0 ROOT_END) table → (root : ℕ) → ROOT_END ≤ root → rows_in table root ≡ []
below-roots [] roots root high = refl
below-roots (entry ∷ table) roots root high =
    let own : entry.0 < ROOT_END = ltb-true entry.0 ROOT_END (All-head (λ (e : ℕ × RowList). nat_lt e.0 ROOT_END ≡ true) entry table roots) in
    let apart : root ≢ entry.0 = omega arith in
    looks entry table root ∙ ap (λ b. if b then entry.1 else rows_in table root) (ne_eqb root entry.0 apart) ∙ below-roots table (All-tail (λ (e : ℕ × RowList). nat_lt e.0 ROOT_END ≡ true) entry table roots) root high

-- an opening stays set up with another table of rows by root key
pub table-set_up : (o : OpeningValue) (table : TableValue) → IsSetUp o → is_sorted nat_cmp table ≡ true → AllPass (λ entry. is_opening entry.1) table → ((root : ℕ) → ROOT_END ≤ root → rows_in table root ≡ []) → IsSetUp (record o { table = table })
table-set_up o table set_up rising opening below =
    record {
      opening = record {
        old_plan = set_up.opening.old_plan;
        new_plan = set_up.opening.new_plan;
        parts = set_up.opening.parts;
        moves = set_up.opening.moves;
        segments = set_up.opening.segments;
        few_segments = set_up.opening.few_segments;
        some_width = set_up.opening.some_width;
        small_width = set_up.opening.small_width;
        some_limit = set_up.opening.some_limit;
        some_capacity = set_up.opening.some_capacity;
        small_capacity = set_up.opening.small_capacity;
      };
      some_table = set_up.some_table;
      few_tables = set_up.few_tables;
      width = set_up.width;
      small_limit = set_up.small_limit;
      rising = rising;
      rows = opening;
      roots = roots-below table below opening;
    }

-- an opening stays set up with other limits of its chunks and logs
pub limits-set_up : (o : OpeningValue) (limit log_limit : ℕ) → MIN_LIMIT ≤ limit → limit ≤ MAX_LIMIT → IsSetUp o → IsSetUp (record o { config = record o.config { limit = limit; log_limit = log_limit } })
limits-set_up o limit log_limit some small set_up =
    record {
      opening = record {
        old_plan = set_up.opening.old_plan;
        new_plan = set_up.opening.new_plan;
        parts = set_up.opening.parts;
        moves = set_up.opening.moves;
        segments = set_up.opening.segments;
        few_segments = set_up.opening.few_segments;
        some_width = set_up.opening.some_width;
        small_width = set_up.opening.small_width;
        some_limit = some;
        some_capacity = set_up.opening.some_capacity;
        small_capacity = set_up.opening.small_capacity;
      };
      some_table = set_up.some_table;
      few_tables = set_up.few_tables;
      width = set_up.width;
      small_limit = small;
      rising = set_up.rising;
      rows = set_up.rows;
      roots = set_up.roots;
    }

-- what is taken, or isn't, leaves no rows from the end of the root keys on
pub taken-below : {R : Type 0} (r : Result Unit R) (Q : R → Type 0) (tables at : ℕ) (given : GivenValue) (table now : TableValue) → AllPass (λ entry. nat_lt entry.0 ROOT_END) table
    → MatchResult r (λ _. given_fault tables (rows_in table) at given ≡ None) Q → OnOk r ((root : ℕ) → rows_in now root ≡ with_one (rows_in table) given root) → OnErr r (now ≡ table)
    → (root : ℕ) → ROOT_END ≤ root → rows_in now root ≡ []
taken-below (Ok done) Q tables at given table now roots none taken same root high =
    let own : given.root < ROOT_END = shape-root tables given (none-told at (shape_fault tables given) (none-both (option_map (Row at) (shape_fault tables given)) _ none).0) in
    let apart : given.root ≢ root = omega arith in
    taken root ∙ rw (ne_eqb given.root root apart) (below-roots table roots root high)
taken-below (Err refused) Q tables at given table now roots fault taken same root high = ap (λ (t : TableValue). rows_in t root) same ∙ below-roots table roots root high

pub so_far-end : (tables : ℕ) (rows : List GivenRow) (i : ℕ) (table : TableValue) → length rows ≤ i → IsSoFar tables rows i (drop i rows) table → is_sorted nat_cmp table ≡ true → AllPass (λ entry. is_opening entry.1) table → (rows_fault tables no_rows 0 rows ≡ None) × IsTableOf rows table
so_far-end tables rows i table end so_far rising opening =
    let none : rows_fault tables no_rows 0 rows ≡ None = so_far.fault ∙ rw (drop_all i rows end) refl in
    let all : given_rows no_rows rows ≡ rows_in table = so_far.given ∙ rw (drop_all i rows end) refl in
    (none, record { given = λ root. sym (ap (λ (t : RowTable). t root) all); rising = rising; opening = opening; roots = roots-below table so_far.below opening })

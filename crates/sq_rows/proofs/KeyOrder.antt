-- The order of row keys, and how many keys there are.
use Rattle.std.proofs.Common.{◌≡◌, ℕ, ◌+◌, ◌*◌, ◌^◌, ◌<◌, ◌≤◌, true, [], ◌∷◌, length, Ordering, ◌⊎◌, inl, inr, refl, sym, arith}
use Rattle.std.specs.declared.cmp.Ordering.TheVariants.{Less, Equal, Greater}
use Rattle.std.specs.Ordering.{nat_cmp, is_lt, is_eq, eq_by_cmp, ordering_then}
use Rattle.std.specs.Cmp.{IsTotalOrder}
use Rattle.std.specs.List.{AllPass}
use Rattle.std.specs.FinMap.Entries.{is_sorted, below_all}
use Rattle.std.proofs.lemmas.Cmp.{ranked, nat_cmp_total, on_total, then_total}
use Rattle.std.proofs.lemmas.Bool.{and_parts}
use Rattle.std.proofs.lemmas.List.Elements.{All-head, All-tail}
use Rattle.std.proofs.lemmas.Bool.Decides.{nat_tests}
use Rattle.sq_rows.specs.declared.row.RowKey.{RowKey}
use Rattle.sq_rows.specs.Values.{RowValue}
use Rattle.sq_rows.specs.Keys.{key_cmp}
use Rattle.sq_rows.specs.RowList.{RowList}
use Rattle.sq_rows.specs.Rows.{is_entry}
use Rattle.sq_rows.proofs.Entries.{less_from_test}

pub key_cmp_total : IsTotalOrder key_cmp
key_cmp_total = then_total (on_total (λ (key : RowKey). key.table) nat_cmp_total) (on_total (λ (key : RowKey). key.sub) nat_cmp_total)

then_equal : (r s : Ordering) → ordering_then r s ≡ Equal → (r ≡ Equal) × (s ≡ Equal)
then_equal Less s tied = absurd (cc)
then_equal Equal s tied = (refl, tied)
then_equal Greater s tied = absurd (cc)

then_less : (r s : Ordering) → ordering_then r s ≡ Less → (r ≡ Less) ⊎ ((r ≡ Equal) × (s ≡ Less))
then_less Less s before = inl refl
then_less Equal s before = inr (refl, before)
then_less Greater s before = absurd (cc)

-- keys that tie are equal
pub same_key : (a b : RowKey) → key_cmp a b ≡ Equal → a ≡ b
same_key a b tied =
    let both = then_equal (nat_cmp a.table b.table) (nat_cmp a.sub b.sub) tied in
    let tables = ranked a.table b.table Equal (sym both.0) in
    let subs = ranked a.sub b.sub Equal (sym both.1) in
    λ i. record { table = tables i; sub = subs i }

equal_from_test : (r : Ordering) → is_eq r ≡ true → r ≡ Equal
equal_from_test Less p = absurd (cc)
equal_from_test Equal p = refl
equal_from_test Greater p = absurd (cc)

pub same_key_from_test : (a b : RowKey) → eq_by_cmp key_cmp a b ≡ true → a ≡ b
same_key_from_test a b tied = same_key a b (equal_from_test (key_cmp a b) tied)

-- the number of a key among all keys
rank : RowKey → ℕ
rank key = key.table * 2 ^ 32 + key.sub

rank_rises : (a b : RowKey) → a.sub < 2 ^ 32 → key_cmp a b ≡ Less → rank a < rank b
unfolding rank
rank_rises a b small before =
    elim (then_less (nat_cmp a.table b.table) (nat_cmp a.sub b.sub) before) [
      | inl tables ↦ let less = ranked a.table b.table Less (sym tables) in omega arith
      | inr both ↦
          let same = ranked a.table b.table Equal (sym both.0) in
          let less = ranked a.sub b.sub Less (sym both.1) in
          omega arith
    ]

rank_bound : (key : RowKey) → key.table < 2 ^ 8 → key.sub < 2 ^ 32 → rank key < 2 ^ 40
unfolding rank
rank_bound key table sub = omega arith

-- the parts of what `is_entry` tests
record InRange (key : RowKey) : Type 0 where
  table : key.table < 2 ^ 8
  sub : key.sub < 2 ^ 32

in_range : (entry : RowKey × RowValue) → is_entry entry ≡ true → InRange entry.0
in_range entry sound = record { table = grind (arith, nat_tests); sub = grind (arith, nat_tests) }

-- each row has a number from this one on
abbrev AllFrom : ℕ → RowList → Type 0
AllFrom low [] = Unit {0}
AllFrom low (entry ∷ rows) = (low ≤ rank entry.0) × AllFrom low rows

all_from-below : (key : RowKey) (rows : RowList) → key.sub < 2 ^ 32 → below_all key_cmp key rows ≡ true → AllFrom (rank key + 1) rows
all_from-below key [] small below = tt
all_from-below key (entry ∷ rows) small below =
    let parts = and_parts (is_lt (key_cmp key entry.0)) (below_all key_cmp key rows) below in
    let less = rank_rises key entry.0 small (less_from_test (key_cmp key entry.0) parts.0) in
    (omega arith, all_from-below key rows small parts.1)

length_from : (low : ℕ) (rows : RowList) → low ≤ 2 ^ 40 → AllFrom low rows → is_sorted key_cmp rows ≡ true → AllPass is_entry rows → low + length rows ≤ 2 ^ 40
length_from low [] within from rising entries = omega arith
length_from low (entry ∷ rows) within from rising entries =
    let order = and_parts (below_all key_cmp entry.0 rows) (is_sorted key_cmp rows) rising in
    let key = in_range entry (All-head (λ e. is_entry e ≡ true) entry rows entries) in
    let bound = rank_bound entry.0 key.table key.sub in
    let rest = length_from (rank entry.0 + 1) rows (omega arith) (all_from-below entry.0 rows key.sub order.0) order.1 (All-tail (λ e. is_entry e ≡ true) entry rows entries) in
    omega (arith, from.0)

all_from_zero : (rows : RowList) → AllFrom 0 rows
all_from_zero [] = tt
all_from_zero (entry ∷ rows) = (omega arith, all_from_zero rows)

-- no list of rows has more of them than there are keys
pub length_bound : (rows : RowList) → is_sorted key_cmp rows ≡ true → AllPass is_entry rows → length rows ≤ 2 ^ 40
length_bound rows rising entries = omega (arith, length_from 0 rows (omega arith) (all_from_zero rows) rising entries)

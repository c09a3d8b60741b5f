-- Ranges in a row: in key order, none of them empty, within bounds, and a fact of each.
use Rattle.std.proofs.Common.{◌≡◌, ℕ, zero, suc, ◌<◌, ◌≤◌, List, [], ◌∷◌, ◌++◌, ap, subst, arith}
use Rattle.std.specs.Prelude.{All, slice_get, Some}
use Rattle.std.proofs.lemmas.Option.{same_Some, none-some}
use Rattle.sq_moves.specs.declared.recon.Range.{Range}

-- ranges between two keys, with this property each
abbrev pub Row : (Range → Type 0) → ℕ → ℕ → List Range → Type 0
Row P lo hi [] = lo ≤ hi
Row P lo hi (range ∷ ranges) = (lo ≤ range.lo) × (range.lo < range.hi) × P range × Row P range.hi hi ranges

-- a range of a row
pub record Stands (P : Range → Type 0) (lo hi : ℕ) (range : Range) : Type 0 where
  pub low : lo ≤ range.lo
  pub some : range.lo < range.hi
  pub high : range.hi ≤ hi
  pub is : P range

module _ (P : Range → Type 0) where
  -- its bounds are in order
  pub row_bounds : (lo hi : ℕ) (ranges : List Range) → Row P lo hi ranges → lo ≤ hi
  row_bounds lo hi [] row = row
  row_bounds lo hi (range ∷ ranges) row = let rest = row_bounds range.hi hi ranges row.3 in omega arith

  -- a row is between wider bounds
  pub row_lower : (lo lo' hi : ℕ) (ranges : List Range) → lo' ≤ lo → Row P lo hi ranges → Row P lo' hi ranges
  row_lower lo lo' hi [] le row = omega arith
  row_lower lo lo' hi (range ∷ ranges) le row = (omega arith, row.1, row.2, row.3)

  -- one row after another
  pub row-append : (lo mid hi : ℕ) (ones others : List Range) → Row P lo mid ones → Row P mid hi others → Row P lo hi (ones ++ others)
  row-append lo mid hi [] others row rest = row_lower mid lo hi others row rest
  row-append lo mid hi (range ∷ ones) others row rest = (row.0, row.1, row.2, row-append range.hi mid hi ones others row.3 rest)

  -- what holds of each of them
  pub row_each : (lo hi : ℕ) (ranges : List Range) → Row P lo hi ranges → All P ranges
  row_each lo hi [] row k d less = absurd (omega arith)
  row_each lo hi (range ∷ ranges) row zero d less = row.2
  row_each lo hi (range ∷ ranges) row (suc k) d less = row_each range.hi hi ranges row.3 k d (omega arith)

  -- where each of them lies
  pub row_at : (lo hi : ℕ) (ranges : List Range) (i : ℕ) (range : Range) → Row P lo hi ranges → slice_get ranges i ≡ Some range → Stands P lo hi range
  row_at lo hi [] i range row e = absurd (none-some range e)
  row_at lo hi (first ∷ ranges) zero range row e =
      let rest = row_bounds first.hi hi ranges row.3 in
      subst (Stands P lo hi) (same_Some first range e) (record { low = row.0; some = row.1; high = rest; is = row.2 })
  row_at lo hi (first ∷ ranges) (suc i) range row e =
      let stands = row_at first.hi hi ranges i range row.3 e in
      record { low = omega (arith, stands.low); some = stands.some; high = stands.high; is = stands.is }

  -- an earlier one ends before a later one begins
  pub row_apart : (lo hi : ℕ) (ranges : List Range) (i j : ℕ) (one other : Range) → Row P lo hi ranges → slice_get ranges i ≡ Some one → slice_get ranges j ≡ Some other → i < j → one.hi ≤ other.lo
  row_apart lo hi [] i j one other row e e' less = absurd (none-some one e)
  row_apart lo hi (first ∷ ranges) zero zero one other row e e' less = absurd (omega arith)
  row_apart lo hi (first ∷ ranges) zero (suc j) one other row e e' less =
      let stands = row_at first.hi hi ranges j other row.3 e' in
      let same : first.hi ≡ one.hi = ap (λ (r : Range). r.hi) (same_Some first one e) in
      omega (arith, stands.low)
  row_apart lo hi (first ∷ ranges) (suc i) zero one other row e e' less = absurd (omega arith)
  row_apart lo hi (first ∷ ranges) (suc i) (suc j) one other row e e' less = row_apart first.hi hi ranges i j one other row.3 e e' (omega arith)

-- Whether nodes read complete.
use Rattle.std.proofs.Common.{◌≡◌, ℕ, zero, suc, ◌+◌, ◌*◌, ◌^◌, ◌≤◌, Bool, true, false, List, slice_index_or, refl, sym, ap, ◌∙◌, subst, arith, true≢false, mul-le-mul_right, le_trans}
use Rattle.std.proofs.lemmas.Bool.{leb-false}
use Rattle.sq_moves.proofs.Covering.{deeper}
use Rattle.sq_moves.specs.declared.status.Status.{Status}
use Rattle.sq_moves.specs.declared.status.Status.TheVariants.{Free, Split}
use Rattle.sq_moves.specs.declared.status.Reading.{Reading}
use Rattle.sq_moves.specs.declared.status.Reading.TheVariants as reads
use Rattle.sq_moves.specs.Node.{is_leaf}
use Rattle.sq_moves.specs.Status.{is_split, both, reading_of, reading_within}
use Rattle.sq_moves.specs.Tree.{status_at}
use Rattle.sq_moves.proofs.Readings.{reads_whole}
use Rattle.sq_moves.specs.Reading.{is_complete_reading}

-- the status that is at a place is the status of the node behind it
pub stands_at : (statuses : List Status) (node place : ℕ) (status : Status) → place + 1 ≡ node → slice_index_or statuses place Free ≡ status → status_at statuses node ≡ status
stands_at statuses node place status behind is = subst (λ n. status_at statuses n ≡ status) (let e : suc place ≡ node = omega (arith, behind) in e) is

-- a node that isn't split reads by its status
pub reads_unsplit : (status : ℕ → Status) (n : ℕ) (st : Status) → status n ≡ st → is_split st ≡ false → (depth : ℕ) → is_complete_reading (reading_of (λ _. reads.Partial) n st) ≡ is_complete_reading (reading_within depth status n)
reads_unsplit status n st is whole depth = ap is_complete_reading (reads_whole status n st (sym is) whole depth)

-- a split node whose low half reads complete reads so where the high half does
complete_with : (low high : Reading) → true ≡ is_complete_reading low → is_complete_reading high ≡ is_complete_reading (both low high)
complete_with reads.Complete reads.Complete e = refl
complete_with reads.Complete reads.Partial e = refl
complete_with reads.Complete reads.NotStarted e = refl
complete_with reads.Partial high e = absurd (true≢false e)
complete_with reads.NotStarted high e = absurd (true≢false e)

complete_without : (low high : Reading) → false ≡ is_complete_reading low → false ≡ is_complete_reading (both low high)
complete_without reads.Complete high e = absurd (true≢false (sym e))
complete_without reads.Partial reads.Complete e = refl
complete_without reads.Partial reads.Partial e = refl
complete_without reads.Partial reads.NotStarted e = refl
complete_without reads.NotStarted reads.Complete e = refl
complete_without reads.NotStarted reads.Partial e = refl
complete_without reads.NotStarted reads.NotStarted e = refl

module _ (status : ℕ → Status) (n : ℕ) (split : status n ≡ Split) (inner : is_leaf n ≡ false) where
  -- what a split node reads at a depth that reaches the leaves
  halves : (below : ℕ) → reading_within (suc below) status n ≡ both (reading_within below status (2 * n)) (reading_within below status (2 * n + 1))
  halves below = ap (reading_of (reading_within below status) n) split

  pub reads_both : (high : Bool) → ((depth : ℕ) → 32 ≤ (2 * n) * 2 ^ depth → true ≡ is_complete_reading (reading_within depth status (2 * n))) → ((depth : ℕ) → 32 ≤ (2 * n + 1) * 2 ^ depth → high ≡ is_complete_reading (reading_within depth status (2 * n + 1)))
      → (depth : ℕ) → 32 ≤ n * 2 ^ depth → high ≡ is_complete_reading (reading_within depth status n)
  reads_both high low_is high_is zero deep = absurd (let few = leb-false 32 n inner in omega arith)
  reads_both high low_is high_is (suc below) deep =
      high_is below (le_trans (deeper n below deep) (mul-le-mul_right (2 ^ below) (omega arith)))
      ∙ complete_with (reading_within below status (2 * n)) (reading_within below status (2 * n + 1)) (low_is below (deeper n below deep))
      ∙ ap is_complete_reading (sym (halves below))

  pub reads_no_low : ((depth : ℕ) → 32 ≤ (2 * n) * 2 ^ depth → false ≡ is_complete_reading (reading_within depth status (2 * n))) → (depth : ℕ) → 32 ≤ n * 2 ^ depth → false ≡ is_complete_reading (reading_within depth status n)
  reads_no_low low_is zero deep = absurd (let few = leb-false 32 n inner in omega arith)
  reads_no_low low_is (suc below) deep = complete_without (reading_within below status (2 * n)) (reading_within below status (2 * n + 1)) (low_is below (deeper n below deep)) ∙ ap is_complete_reading (sym (halves below))

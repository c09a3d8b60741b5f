use Rattle.std.proofs.Common.{◌≡◌, ℕ, ◌+◌, true, List, [], length, refl, sym, ◌∙◌, arith}
use Rattle.std.specs.Prelude.{◌-◌, ◌<◌, Some, slice_get}
use Rattle.sq_schema.specs.declared.root.TheConstants.{ROOT_END}
use Rattle.sq_schema.specs.Family.{FamilyValue}
use Rattle.sq_store.specs.InOrder.{are_within}
use Rattle.sq_store.specs.Listed.{roots_rise}
use Rattle.sq_store.specs.Run.{Run}
use Rattle.sq_store.specs.Runs.{families_in_runs, between, IsBlock}
use Rattle.sq_store.proofs.GivenBlocks.{block_within}
use Rattle.sq_store.proofs.blocks.block_of.Goals as goal

-- rising families from the first on and below the one after the last
block : (runs : List Run) (families : List FamilyValue) (first last : FamilyValue) (lo end : ℕ) → roots_rise families ≡ true → Some first ≡ slice_get families 0 → Some last ≡ slice_get families (length families - 1)
    → lo ≡ first.root → end ≡ last.root + 1 → end < ROOT_END → between lo end (families_in_runs runs) ≡ [] → IsBlock runs families lo end
block runs families first last lo end rising starts ends low high bound none =
    let is = block_within families first last rising starts ends in
    record {
      rise = omega (arith, low, high, is.0);
      bound = bound;
      within = (λ i. are_within (low i) (high i) families) ∙ is.1;
      none = none;
    }

pub has_none-requires-clause-bounds : goal.has_none-requires-clause-bounds
has_none-requires-clause-bounds c =
    let is = block_within c.args.families.now c.in-Some-Some.first.now c.in-Some-Some.last.now (c.if-not-are_sorted.ensures refl) c.in-Some-Some.ensures.value c.in-Some-Some.ensures'.value in
    let end = c.in_ok-end.ensures.1 in
    omega (arith, is.0, end, c.number-2.ensures.number, c.number-3.ensures.number, c.root-lo.ensures, c.number.ensures.number, c.root.ensures)

pub returns-then-has_none : goal.returns-then-has_none
returns-then-has_none c =
    let end = c.in_ok-end.ensures.1 in
    let bound = c.in_ok-end.ensures.0 in
    block c.args.runs.now c.args.families.now c.in-Some-Some.first.now c.in-Some-Some.last.now c.root-lo.result c.in_ok-end.end (c.if-not-are_sorted.ensures refl) c.in-Some-Some.ensures.value c.in-Some-Some.ensures'.value c.root-lo.ensures
    (omega (arith, end, c.number.ensures.number, c.root.ensures)) (omega (arith, end, bound))
    ((λ i. between (sym c.number-2.ensures.number i) (sym c.number-3.ensures.number i) (families_in_runs c.args.runs.now)) ∙ c.if-has_none.ensures refl)

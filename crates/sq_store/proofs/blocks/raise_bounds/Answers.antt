use Rattle.std.proofs.Common.{◌≡◌, ◌+◌, ◌-◌, length, take, drop, refl, sym, ap, subst, ◌∙◌, arith, length-set}
use Rattle.std.specs.Prelude.{◌<◌, ◌≤◌, All}
use Rattle.std.proofs.lemmas.List.{take-set}
use Rattle.std.proofs.Math.Seq.{take-take}
use Rattle.sq_schema.specs.declared.root.TheConstants.{ROOT_END}
use Rattle.sq_schema.specs.Family.{FamilyValue}
use Rattle.sq_store.specs.Run.{Run}
use Rattle.sq_store.specs.Runs.{families_in_runs, first_bound, AreRuns, IsBoundPlace, with_lo, nth_run}
use Rattle.sq_store.proofs.Gaps.{lo_families, lo_first, lo_runs, all_of_run, below_key, still_run, later_bound}
use Rattle.sq_store.proofs.blocks.raise_bounds.Goals as goal
use Rattle.sq_store.proofs.blocks.raise_bounds.Goals.{After-max-at}

place : (c : After-max-at) → IsBoundPlace c.args.runs.now c.args.end c.below.result
place c = subst (λ n. IsBoundPlace c.args.runs.now n c.below.result) c.number.ensures.number c.below.ensures

pub loop-at-init : goal.loop-at-init
loop-at-init c =
    let s = (goal.at.loop-at-init c).After-max-at in
    record {
      runs = c.requires.runs;
      families = refl;
      kept = refl;
      next = later_bound ROOT_END c.args.runs.now c.args.end c.below.result c.max-at.result c.requires.runs (place s).from (omega (arith, c.max-at.ensures));
      count = refl;
      upto = omega arith;
      low = omega (arith, c.max-at.ensures);
    }

pub set_lo-requires : goal.set_lo-requires
set_lo-requires c =
    let i = c.loop-at.invariant in
    let within = c.below.ensures.within in
    omega (arith, i.upto, i.count, within, c.max-at.ensures, c.requires.from, c.loop-at-test.true)

pub loop-at-preserved : goal.loop-at-preserved
loop-at-preserved c =
    let s = (goal.at.loop-at-preserved c).After-max-at in
    let i = c.loop-at.invariant in
    let old = c.args.runs.now in
    let now = c.loop-at.runs in
    let end = c.args.end in
    let at = c.loop-at.at - 1 in
    let within = c.below.ensures.within in
    let more : at + 1 ≡ c.loop-at.at = omega (arith, c.loop-at-test.true) in
    let inside : at < length now = omega (arith, i.upto, i.count, within, c.max-at.ensures, c.requires.from, c.loop-at-test.true) in
    let below : at < c.below.result = omega (arith, i.upto, c.max-at.ensures, c.loop-at-test.true) in
    let same : nth_run now at ≡ nth_run old at = still_run old now c.loop-at.at at i.kept (omega (arith, c.loop-at-test.true)) in
    let low : (nth_run now at).lo ≤ end = let l = below_key old end c.below.result at (place s) below in omega (arith, l, ap (λ (run : Run). run.lo) same) in
    let own = subst (λ (run : Run). All (λ (family : FamilyValue). end ≤ family.root) run.families) (sym same)
    (all_of_run (λ family. end ≤ family.root) old c.args.from at c.requires.above (omega (arith, c.loop-at-test.true)) (omega (arith, inside, i.count))) in
    let next = subst (λ n. end ≤ first_bound end (drop n now)) (sym more) i.next in
    record {
      runs = subst (AreRuns ROOT_END) (sym c.set_lo.ensures) (lo_runs now at end i.runs inside low own (omega (arith, c.number.ensures.number, c.number.ensures.bound)) next);
      families = ap families_in_runs c.set_lo.ensures ∙ lo_families now at end ∙ i.families;
      kept = ap (take at) c.set_lo.ensures ∙ take-set now at (with_lo now at end) ∙ sym (take-take at c.loop-at.at now (omega (arith, more))) ∙ ap (take at) i.kept ∙ take-take at c.loop-at.at old (omega (arith, more));
      next = subst (λ rs. end ≤ first_bound end (drop at rs)) (sym c.set_lo.ensures) (lo_first now at end inside);
      count = omega (arith, ap length c.set_lo.ensures, length-set now at (with_lo now at end), i.count);
      upto = omega (arith, i.upto);
      low = omega (arith, c.loop-at-test.true);
    }

pub returns : goal.returns
returns c =
    let i = c.loop-at.invariant in
    let end : c.loop-at.at ≡ c.args.from = omega (arith, c.loop-at-test.false, i.low) in
    record {
      kept = subst (λ n. take n c.loop-at.runs ≡ take n c.args.runs.now) end i.kept;
      next = subst (λ n. c.args.end ≤ first_bound c.args.end (drop n c.loop-at.runs)) end i.next;
      keeps = record { runs = i.runs; families = i.families };
    }

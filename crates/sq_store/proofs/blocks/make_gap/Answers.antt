use Rattle.std.proofs.Common.{drop, sym, ap, subst, ◌∙◌, arith}
use Rattle.std.specs.Prelude.{◌≤◌, All}
use Rattle.sq_schema.specs.Family.{FamilyValue}
use Rattle.sq_store.specs.Runs.{families_in_runs, between, IsRaised}
use Rattle.sq_store.proofs.Gaps.{gap_inside, above_gap, raised_gap}
use Rattle.sq_store.proofs.blocks.make_gap.Goals as goal

pub after-next-requires : goal.after-next-requires
after-next-requires c = gap_inside c.split_above.new.runs c.args.lo c.args.lo c.in_ok-at.at c.in_ok-split_above.ensures.gap

pub raise_bounds-requires-clause-from : goal.raise_bounds-requires-clause-from
raise_bounds-requires-clause-from c = let inside = gap_inside c.split_above.new.runs c.args.lo c.args.lo c.in_ok-at.at c.in_ok-split_above.ensures.gap in omega (arith, inside, c.after-next.ensures)

pub raise_bounds-requires-clause-above : goal.raise_bounds-requires-clause-above
raise_bounds-requires-clause-above c =
    let families = c.split_above.ensures.kept.families ∙ c.make_run_of.ensures.kept.families in
    subst (λ n. All (λ (family : FamilyValue). c.args.end ≤ family.root) (families_in_runs (drop n c.split_above.new.runs))) (sym c.after-next.ensures)
    (above_gap c.split_above.new.runs c.args.lo c.args.end c.in_ok-at.at c.split_above.ensures.kept.runs c.in_ok-split_above.ensures.gap (ap (between c.args.lo c.args.end) families ∙ c.requires.none))

pub returns-clause-gap : goal.returns-clause-gap
returns-clause-gap c =
    raised_gap c.split_above.new.runs c.raise_bounds.new.runs c.args.lo c.args.end c.in_ok-at.at c.in_ok-split_above.ensures.gap
    (subst (λ n. IsRaised c.split_above.new.runs n c.args.end c.raise_bounds.new.runs) c.after-next.ensures c.raise_bounds.ensures)

pub returns-clause-kept : goal.returns-clause-kept
returns-clause-kept c =
    record {
      runs = c.raise_bounds.ensures.keeps.runs;
      families = c.raise_bounds.ensures.keeps.families ∙ c.split_above.ensures.kept.families ∙ c.make_run_of.ensures.kept.families;
    }

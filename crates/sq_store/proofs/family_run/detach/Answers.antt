use Rattle.std.proofs.Common.{◌≤◌, subst, sym, ◌∙◌, arith}
use Rattle.sq_store.specs.Listed.{IsStart}
use Rattle.sq_store.proofs.Places.{starts_rise}
use Rattle.sq_store.proofs.Spans.{outside}
use Rattle.sq_store.proofs.Betweens.{between_slice}
use Rattle.sq_store.proofs.family_run.detach.Goals as goal
use Rattle.sq_store.proofs.family_run.detach.Goals.{After-start-last}

low : (c : After-start-last) → IsStart c.args.families.now.items c.args.lo c.start-first.result
low c = subst (λ fs. IsStart fs c.args.lo c.start-first.result) c.deref.ensures.value c.start-first.ensures

high : (c : After-start-last) → IsStart c.args.families.now.items c.args.hi c.start-last.result
high c = subst (λ fs. IsStart fs c.args.hi c.start-last.result) c.deref-2.ensures.value c.start-last.ensures

rise : (c : After-start-last) → c.start-first.result ≤ c.start-last.result
rise c = starts_rise c.args.families.now.items c.args.lo c.args.hi c.start-first.result c.start-last.result c.requires.bounds (low c) (high c)

pub cut_out-requires : goal.cut_out-requires
cut_out-requires c =
    let s = (goal.at.cut_out-requires c).After-start-last in
    record { rise = rise s; within = omega (arith, (high s).within, c.args.families.now.ok.0) }

pub returns-clause-taken : goal.returns-clause-taken
returns-clause-taken c =
    let s = (goal.at.returns-clause-taken c).After-start-last in
    c.in_ok-taken.ensures.taken
    ∙ between_slice c.args.families.now.items c.args.lo c.args.hi c.start-first.result c.start-last.result c.requires.rise c.requires.bounds (low s) (high s)

pub returns-clause-left : goal.returns-clause-left
returns-clause-left c =
    let s = (goal.at.returns-clause-left c).After-start-last in
    c.in_ok-taken.ensures.left
    ∙ sym (outside c.args.families.now.items c.args.lo c.args.hi c.start-first.result c.start-last.result c.requires.rise (rise s) (low s) (high s))

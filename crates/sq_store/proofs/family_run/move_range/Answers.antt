use Rattle.std.proofs.Common.{◌++◌, sym, ap, ◌∙◌, arith}
use Rattle.sq_store.proofs.Slices.{whole_range, none_outside, some_outside}
use Rattle.sq_store.proofs.family_run.move_range.Goals as goal

pub returns-then-last-first-clause-taken : goal.returns-then-last-first-clause-taken
returns-then-last-first-clause-taken c =
    let items = c.args.families.now.items in
    c.move_all.ensures.taken
    ∙ ap (λ fs. c.args.taken.now.items ++ fs) (sym (whole_range items c.args.first c.args.last c.requires.rise (omega (arith, c.requires.within, c.args.families.now.ok.0)) (omega (arith, c.len.ensures, c.if-last-first.true, c.args.families.now.ok.0))))

pub returns-then-last-first-clause-left : goal.returns-then-last-first-clause-left
returns-then-last-first-clause-left c =
    let items = c.args.families.now.items in
    c.move_all.ensures.left
    ∙ sym (none_outside items c.args.first c.args.last c.requires.rise (omega (arith, c.requires.within, c.args.families.now.ok.0)) (omega (arith, c.len.ensures, c.if-last-first.true, c.args.families.now.ok.0)))

-- else some are left
pub returns-else-last-first-clause-freed : goal.returns-else-last-first-clause-freed
returns-else-last-first-clause-freed c =
    let items = c.args.families.now.items in
    λ none.
    absurd
    (some_outside items c.args.first c.args.last c.requires.rise (omega (arith, c.requires.within, c.args.families.now.ok.0))
    (λ all. c.if-last-first.false (omega (arith, c.len.ensures, all, c.args.families.now.ok.0))) (sym c.move_some.ensures.left ∙ none))

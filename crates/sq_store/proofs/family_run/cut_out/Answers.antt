use Rattle.std.proofs.Common.{◌++◌, take, drop, sym, ap, ◌∙◌}
use Rattle.std.specs.Global.{Vec}
use Rattle.std.proofs.lemmas.List.{take-append-drop}
use Rattle.sq_schema.specs.Family.{FamilyValue}
use Rattle.sq_store.proofs.SetRuns.{on_ok, on_err}
use Rattle.sq_store.proofs.Slices.{front_of_range, range_is, first_range, if_ok}
use Rattle.sq_store.proofs.family_run.cut_out.Goals as goal

pub returns-then-first-eq0-clause-taken : goal.returns-then-first-eq0-clause-taken
returns-then-first-eq0-clause-taken c =
    ap (λ (fs : Vec FamilyValue). fs.items) c.swap.ensures.y_after ∙ c.in_ok-behind.ensures.items ∙ first_range c.args.families.now.items c.args.first c.args.last c.if-first-eq0.true

pub returns-then-first-eq0-clause-left : goal.returns-then-first-eq0-clause-left
returns-then-first-eq0-clause-left c =
    ap (λ (fs : Vec FamilyValue). fs.items) c.swap.ensures.x_after ∙ c.in_ok-behind.ensures.tail
    ∙ ap (λ n. take n c.args.families.now.items ++ drop c.args.last c.args.families.now.items) (sym c.if-first-eq0.true)

pub returns-clause-taken : goal.returns-clause-taken
returns-clause-taken c =
    let items = c.args.families.now.items in
    if_ok c.split_off-taken.result
    (λ (taken : Vec FamilyValue) tail. tail ∙ ap (drop c.args.first) c.in_ok-behind.ensures.items ∙ range_is items c.args.first c.args.last c.requires.rise)
    c.split_off-taken.ensures.tail

pub returns-clause-left : goal.returns-clause-left
returns-clause-left c =
    let items = c.args.families.now.items in
    on_ok c.split_off-taken.result
    (λ kept. c.in-Ok.ensures.items ∙ (λ i. (kept ∙ ap (take c.args.first) c.in_ok-behind.ensures.items ∙ front_of_range items c.args.first c.args.last c.requires.rise) i ++ c.in_ok-behind.ensures.tail i))
    c.split_off-taken.ensures.items

pub returns-clause-err : goal.returns-clause-err
returns-clause-err c =
    let items = c.args.families.now.items in
    on_err c.split_off-taken.result
    (λ same. c.in-Ok.ensures.items ∙ (λ i. (ap (λ (fs : Vec FamilyValue). fs.items) same ∙ c.in_ok-behind.ensures.items) i ++ c.in_ok-behind.ensures.tail i) ∙ take-append-drop c.args.last items)
    c.split_off-taken.ensures.err

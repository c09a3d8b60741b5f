use Rattle.std.proofs.Common.{◌≡◌, ◌/◌, length, ◌∷◌, sym, ap, subst, ◌∙◌, arith, length-append}
use Rattle.std.proofs.lemmas.Map.Keys.{ge_from_not_lt}
use Rattle.sq_store.proofs.Order.{less_from_cmp}
use Rattle.sq_store.specs.Run.{Run, empty_run}
use Rattle.sq_store.specs.Runs.{IsRunOf, IsSplit, KeepsFamilies, nth_run}
use Rattle.sq_store.proofs.InRuns.{split_keeps}
use Rattle.sq_store.proofs.RunSpans.{read_run, inside_run}
use Rattle.sq_store.proofs.MadeRuns.{split_low, split_high, split_items, read_second}
use Rattle.sq_store.proofs.putting.halve.Goals as goal
use Rattle.sq_store.proofs.putting.halve.Goals.{After-lt}

split : (c : After-lt) → IsSplit c.args.runs.now c.args.at (length c.families.result.now / 2) c.split.new.self
split c = c.in_ok-split.ensures.ok

-- the bound of the second half
second : (c : After-lt) → c.lo.result ≡ (split c).two.lo
second c =
    c.lo.ensures
    ∙ ap (λ n. (nth_run c.split.new.self n).lo) c.after-next.ensures
    ∙ ap (λ (run : Run). run.lo) (read_second c.args.runs.now c.split.new.self c.args.root c.args.at (length c.families.result.now / 2) c.requires.place (split c) empty_run)

kept : (c : After-lt) → KeepsFamilies c.args.runs.now c.split.new.self
kept c =
    let runs = c.args.runs.now in
    let is = c.requires.place in
    let middle = length c.families.result.now / 2 in
    let own = ap (λ (r : Run). length r.families) (read_run runs c.args.root c.args.at c.requires.runs is empty_run) in
    let same = ap length (split_items runs c.split.new.self c.args.root c.args.at middle is (split c)) in
    split_keeps runs c.split.new.self c.args.at middle c.requires.runs (split c) (omega (arith, c.requires.some, own, same, ap length c.families.ensures))

pub families-requires : goal.families-requires
families-requires c = inside_run c.args.runs.now c.args.root c.args.at c.requires.runs c.requires.place

pub split-requires-clause-at : goal.split-requires-clause-at
split-requires-clause-at c = inside_run c.args.runs.now c.args.root c.args.at c.requires.runs c.requires.place

pub split-requires-clause-place : goal.split-requires-clause-place
split-requires-clause-place c = omega (arith, c.requires.some, ap length c.families.ensures)

pub after-next-requires : goal.after-next-requires
after-next-requires c =
    let is = c.in_ok-split.ensures.ok in
    omega (arith, ap length is.is, length-append is.front (is.one ∷ is.two ∷ is.back), is.count)

pub lo-requires : goal.lo-requires
lo-requires c =
    let is = c.in_ok-split.ensures.ok in
    omega (arith, c.after-next.ensures, ap length is.is, length-append is.front (is.one ∷ is.two ∷ is.back), is.count)

pub returns-then-lt-clause-place : goal.returns-then-lt-clause-place
returns-then-lt-clause-place c =
    let s = (goal.at.returns-then-lt-clause-place c).After-lt in
    let less = less_from_cmp c.args.root c.lo.result (sym c.if-lt.ensures) in
    split_low c.args.runs.now c.split.new.self c.args.root c.args.at (length c.families.result.now / 2) c.requires.place (split s) (omega (arith, less, second s))

pub returns-then-lt-clause-kept : goal.returns-then-lt-clause-kept
returns-then-lt-clause-kept c = kept (goal.at.returns-then-lt-clause-kept c).After-lt

pub returns-else-lt-clause-place : goal.returns-else-lt-clause-place
returns-else-lt-clause-place c =
    let s = (goal.at.returns-else-lt-clause-place c).After-lt in
    let from = ge_from_not_lt c.args.root c.lo.result (sym c.if-lt.ensures) in
    subst (λ n. IsRunOf c.split.new.self c.args.root n) (sym c.after-next.ensures)
    (split_high c.args.runs.now c.split.new.self c.args.root c.args.at (length c.families.result.now / 2) c.requires.place (split s) (omega (arith, from, second s)))

pub returns-else-lt-clause-kept : goal.returns-else-lt-clause-kept
returns-else-lt-clause-kept c = kept (goal.at.returns-else-lt-clause-kept c).After-lt

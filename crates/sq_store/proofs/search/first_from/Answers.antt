use Rattle.std.proofs.Common.{◌≡◌, length, take, sym, ap, subst, ◌∙◌, arith}
use Rattle.std.specs.Prelude.{◌+◌, ◌<◌, slice_get, option_copied}
use Rattle.std.proofs.lemmas.Bool.{ltb-true, ltb-false}
use Rattle.sq_schema.specs.declared.root.TheConstants.{ROOT_END}
use Rattle.sq_store.specs.InOrder.{are_within}
use Rattle.sq_store.specs.Listed.{roots_rise, IsStart}
use Rattle.sq_store.proofs.Places.{copied_at}
use Rattle.sq_store.specs.Run.{Run, empty_run}
use Rattle.sq_store.specs.Runs.{families_in_runs, first_bound}
use Rattle.sq_store.proofs.InRuns.{IsLast, last_below, read_at, run_stands}
use Rattle.sq_store.proofs.Within.{within_rise}
use Rattle.sq_store.proofs.RunSpans.{walked_in}
use Rattle.sq_store.proofs.Searches.{below_unfound, none_at, walked_past}
use Rattle.sq_store.proofs.search.first_from.Goals as goal
use Rattle.sq_store.proofs.search.first_from.Goals.{After-families-families, In-Some, in-Some+in_default-get, in_default}

behind : (c : In-Some) → c.in-Some.run' + 1 ≡ c.below-next.result
behind c = let some = c.in-Some.ensures in omega (arith, some)

-- the last run with a bound below the number
last : (c : In-Some) → IsLast c.args.runs.now c.args.key c.in-Some.run'
last c = last_below c.args.runs.now c.args.key c.in-Some.run' c.below-next.result (behind c) c.below-next.ensures

-- has these families
items : (c : After-families-families) (is : IsLast c.args.runs.now c.args.key c.in-Some.run') → c.families-families.result.now ≡ is.here.run.families
items c is = c.families-families.ensures ∙ ap (λ (run : Run). run.families) (read_at c.args.runs.now is.here.front is.here.back is.here.run c.in-Some.run' empty_run is.here.whole is.here.count)

pub families-families-requires : goal.families-families-requires
families-families-requires c = let some = c.in-Some.ensures in let within = c.below-next.ensures.within in omega (arith, some, within)

pub start-requires : goal.start-requires
start-requires c =
    let is = last (goal.at.start-requires c).In-Some in
    let stands = run_stands c.args.runs.now is.here.front is.here.back is.here.run c.requires is.here.whole in
    ap roots_rise (items (goal.at.start-requires c).After-families-families is) ∙ within_rise is.here.run.lo (first_bound ROOT_END is.here.back) is.here.run.families stands.own

pub returns-in-Some-get : goal.returns-in-Some-get
returns-in-Some-get c =
    let is = last (goal.at.returns-in-Some-get c).In-Some in
    let here = is.here in
    let at = c.start.result in
    let own = items (goal.at.returns-in-Some-get c).After-families-families is in
    let families = c.families-families.result.now in
    let inside : at < length families = ltb-true at (length families) (sym c.in-Some-get.ensures.lookup.0) in
    let start : IsStart here.run.families c.args.key at = subst (λ fs. IsStart fs c.args.key at) own c.start.ensures in
    ap option_copied (sym c.in-Some-get.is) ∙ copied_at families at c.get.result c.get.ensures.lookup ∙ ap (λ fs. slice_get fs at) own
    ∙ sym (walked_in c.args.runs.now here.front here.back here.run c.args.key at c.requires here.whole is.low is.from start (omega (arith, inside, ap length own)))

-- no run with a bound below the number has a family from the number on
pub returns : goal.returns
returns c =
    let runs = c.args.runs.now in
    let key = c.args.key in
    let next = c.below-next.result in
    c.first_of.ensures
    ∙ sym (walked_past runs key next c.requires c.below-next.ensures (elim c.match-checked_sub.branch [
      | in-Some+in_default-get w ↦
          let place : w.in-Some.run' + 1 ≡ next = let some = w.in-Some.ensures in omega (arith, some) in
          below_unfound runs key w.in-Some.run' next w.start.result empty_run w.families-families.result.now w.families-families.result.now place c.requires c.below-next.ensures w.families-families.ensures w.families-families.ensures w.start.ensures
          (ltb-false w.start.result (length w.families-families.result.now) (sym w.in_default-get.ensures.lookup.0))
      | in_default w ↦
          let none = w.in_default.ensures in
          ap (λ n. are_within 0 key (families_in_runs (take n runs))) (none_at next none)
    ]))

use Rattle.std.proofs.Common.{◌≡◌, ◌+◌, ◌++◌, length, take, refl, sym, ap, ◌∙◌, subst, arith, append-nil, length-append}
use Rattle.std.specs.Prelude.{◌<◌, vec_len, vec_capacity}
use Rattle.sq_store.specs.Runs.{families_in_runs, between, outside, nth_run, refilled, IsTakenTo}
use Rattle.sq_store.proofs.Swaps.{nth_of}
use Rattle.sq_store.proofs.TakenRuns.{all_outside, next_rises, room_before, are_after, left_after, rest_after, count_after, taken_after}
use Rattle.sq_store.proofs.taking.take_runs.Goals as goal
use Rattle.sq_store.proofs.taking.take_runs.Goals.{After-loop-at}

pub loop-at-init : goal.loop-at-init
loop-at-init c =
    record {
      left = record {
        runs = c.requires.runs;
        left = sym (all_outside c.args.lo c.args.hi (families_in_runs (take c.args.first c.args.runs.now)) c.requires.before);
        rest = refl;
        count = refl;
      };
      taken = sym (append-nil c.args.taken.now.items) ∙ ap (λ fs. c.args.taken.now.items ++ fs) (sym c.requires.before);
      capacity = omega arith;
      keyed = λ keyed. keyed;
    }

pub take_run-requires-clause-at : goal.take_run-requires-clause-at
take_run-requires-clause-at c = let n = c.loop-at.invariant.left.count in omega (arith, c.loop-at-test.true, c.requires.last, n)

pub take_run-requires-clause-rise : goal.take_run-requires-clause-rise
take_run-requires-clause-rise c =
    let i = c.loop-at.invariant.left in
    let now = c.loop-at.runs in
    let at = c.loop-at.at in
    let inside : at < length c.args.runs.now = omega (arith, c.loop-at-test.true, c.requires.last) in
    next_rises c.args.runs.now now c.args.lo c.args.hi at i.runs i.left i.rest i.count (nth_run now at) inside (nth_of now at (let n = i.count in omega (arith, inside, n)))

pub take_run-requires-clause-room : goal.take_run-requires-clause-room
take_run-requires-clause-room c =
    let i = c.loop-at.invariant.left in
    let now = c.loop-at.runs in
    let at = c.loop-at.at in
    let inside : at < length c.args.runs.now = omega (arith, c.loop-at-test.true, c.requires.last) in
    let is = nth_of now at (let n = i.count in omega (arith, inside, n)) in
    let enough =
    room_before c.args.runs.now now c.args.lo c.args.hi at i.runs i.left i.rest i.count (nth_run now at) inside is c.args.last (vec_len c.args.taken.now) (vec_capacity c.args.taken.now) c.loop-at-test.true c.requires.room in
    omega (
      arith,
      enough,
      ap length c.loop-at.invariant.taken,
      length-append c.args.taken.now.items (between c.args.lo c.args.hi (families_in_runs (take at c.args.runs.now))),
      c.loop-at.taken.ok,
      c.args.taken.now.ok,
      c.loop-at.invariant.capacity,
    )

pub loop-at-preserved : goal.loop-at-preserved
loop-at-preserved c =
    let old = c.args.runs.now in
    let i = c.loop-at.invariant.left in
    let now = c.loop-at.runs in
    let at = c.loop-at.at in
    let lo = c.args.lo in
    let hi = c.args.hi in
    let inside : at < length old = omega (arith, c.loop-at-test.true, c.requires.last) in
    let run = nth_run now at in
    let is = nth_of now at (let n = i.count in omega (arith, inside, n)) in
    let after = refilled now at (outside lo hi run.families) in
    let left = c.take_run.ensures.left in
    record {
      left = subst (λ rs. IsTakenTo old lo hi (at + 1) rs) (sym left) (record {
        runs = are_after old now lo hi at i.runs i.left i.rest i.count run inside is after refl refl;
        left = left_after old now lo hi at i.runs i.left i.rest i.count run inside is after refl refl;
        rest = rest_after old now lo hi at i.runs i.left i.rest i.count run inside is after refl refl;
        count = count_after old now lo hi at i.runs i.left i.rest i.count run inside is after refl refl;
      });
      taken = c.take_run.ensures.taken ∙ taken_after old now lo hi at i.runs i.left i.rest i.count run inside is c.args.taken.now.items c.loop-at.taken.items c.loop-at.invariant.taken;
      capacity = omega (arith, c.take_run.ensures.capacity, c.loop-at.invariant.capacity);
      keyed = λ keyed. c.take_run.ensures.keyed (c.loop-at.invariant.keyed keyed);
    }

end : (c : After-loop-at) → c.loop-at.at ≡ c.args.last
end c = omega (arith, c.loop-at-test.false, c.loop-at.auto.at-end c.requires.rise)

pub returns-clause-taken : goal.returns-clause-taken
returns-clause-taken c =
    c.loop-at.invariant.taken ∙ ap (λ n. c.args.taken.now.items ++ between c.args.lo c.args.hi (families_in_runs (take n c.args.runs.now))) (end (goal.at.returns-clause-taken c).After-loop-at)

pub returns-clause-left : goal.returns-clause-left
returns-clause-left c =
    subst (λ n. IsTakenTo c.args.runs.now c.args.lo c.args.hi n c.loop-at.runs) (end (goal.at.returns-clause-left c).After-loop-at) c.loop-at.invariant.left

use Rattle.std.proofs.Common.{◌++◌, length, ap, ◌∙◌, arith}
use Rattle.sq_store.proofs.TakenRuns.{all_upto, all_left}
use Rattle.sq_store.proofs.taking.take_between.Goals as goal

pub take_runs-requires-clause-room : goal.take_runs-requires-clause-room
take_runs-requires-clause-room c =
    let s = c.runs_between-first.ensures in
    let runs = c.args.runs.now in
    let all = all_upto runs c.args.lo c.args.hi c.runs_between-first.result.1 c.requires.runs s.after in
    omega (arith, ap length all, c.requires.room)

pub returns-clause-taken : goal.returns-clause-taken
returns-clause-taken c =
    let s = c.runs_between-first.ensures in
    c.take_runs.ensures.taken ∙ ap (λ fs. c.args.taken.now.items ++ fs) (all_upto c.args.runs.now c.args.lo c.args.hi c.runs_between-first.result.1 c.requires.runs s.after)

pub returns-clause-store : goal.returns-clause-store
returns-clause-store c =
    let s = c.runs_between-first.ensures in
    let t = c.take_runs.ensures.left in
    all_left c.args.runs.now c.take_runs.new.runs c.args.lo c.args.hi c.runs_between-first.result.1 t.runs t.left t.rest t.count s.after c.requires.runs

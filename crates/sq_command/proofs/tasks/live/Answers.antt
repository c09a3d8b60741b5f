use Rattle.sq_command.proofs.tasks.live.Goals as goal

pub returns : goal.returns
returns c =
    let folding = c.with_flag-folding.ensures _ c.numbered.ensures in
    let with_json = c.with_flag-with_json.ensures _ folding in
    let summing = c.with_flag-summing.ensures _ with_json in
    let accounting = c.with_path-accounting.ensures _ summing in
    let timed = c.with_path-timed.ensures _ accounting in
    let replying = c.with_path-replying.ensures _ timed in
    let keeping = c.with_path-keeping.ensures _ replying in
    c.with_input.ensures _ keeping

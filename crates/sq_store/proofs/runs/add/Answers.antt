use Rattle.std.proofs.Common.{sym, ap, subst, ◌∙◌}
use Rattle.sq_store.specs.declared.runs.RunEntry.{RunEntry}
use Rattle.sq_store.specs.Indexed.{runs_of, IsIndex}
use Rattle.sq_store.proofs.Indexes.{added_runs, added_index}
use Rattle.sq_store.proofs.runs.add.Goals as goal

pub returns-clause-runs : goal.returns-clause-runs
returns-clause-runs c =
    let entry : RunEntry = record { lo = c.args.lo; key = c.insert_reserved-key.result } in
    ap (runs_of c.insert_reserved-key.new.self) c.in-Ok.ensures.items
    ∙ added_runs c.args.slab.now c.insert_reserved-key.new.self c.args.index.now.items c.args.at entry c.args.families c.requires.indexed c.insert_reserved-key.ensures.was_vacant c.insert_reserved-key.ensures.updates

pub returns-clause-indexed : goal.returns-clause-indexed
returns-clause-indexed c =
    let entry : RunEntry = record { lo = c.args.lo; key = c.insert_reserved-key.result } in
    subst (IsIndex c.insert_reserved-key.new.self) (sym c.in-Ok.ensures.items)
    (added_index c.args.slab.now c.insert_reserved-key.new.self c.args.index.now.items c.args.at entry c.args.families c.requires.indexed c.insert_reserved-key.ensures.was_vacant c.insert_reserved-key.ensures.updates)

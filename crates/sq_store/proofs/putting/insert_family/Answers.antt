use Rattle.std.proofs.Common.{◌≡◌, ap, subst, ◌∙◌}
use Rattle.std.specs.FinMap.{get, insert}
use Rattle.sq_store.specs.Listed.{store_of}
use Rattle.sq_store.specs.Runs.{families_in_runs, store_of_runs, IsRunOf}
use Rattle.sq_store.proofs.SetRuns.{on_ok, on_err}
use Rattle.sq_store.proofs.putting.insert_family.Goals as goal

pub insert_at-requires-clause-place : goal.insert_at-requires-clause-place
insert_at-requires-clause-place c = subst (λ root. IsRunOf c.make_place.new.runs root c.in-Ok.at) c.root.ensures c.in-Ok.ensures.place

pub insert_at-requires-clause-absent : goal.insert_at-requires-clause-absent
insert_at-requires-clause-absent c = ap (λ fs. get (store_of fs) c.args.family.root) c.make_place.ensures.kept.families ∙ c.requires.absent

pub returns-in-Ok-clause-ok : goal.returns-in-Ok-clause-ok
returns-in-Ok-clause-ok c =
    let root = c.args.family.root in
    on_ok c.insert_at.result
    (λ (put : store_of_runs c.insert_at.new.runs ≡ insert (store_of_runs c.make_place.new.runs) root c.args.family).
    put ∙ ap (λ fs. insert (store_of fs) root c.args.family) c.make_place.ensures.kept.families)
    c.insert_at.ensures.ok

pub returns-in-Ok-clause-err : goal.returns-in-Ok-clause-err
returns-in-Ok-clause-err c =
    on_err c.insert_at.result
    (λ (alike : families_in_runs c.insert_at.new.runs ≡ families_in_runs c.make_place.new.runs). alike ∙ c.make_place.ensures.kept.families)
    c.insert_at.ensures.err

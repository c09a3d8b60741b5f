use Rattle.std.proofs.Common.{◌≡◌, ap, ◌∙◌}
use Rattle.sq_store.specs.Listed.{store_of}
use Rattle.sq_store.specs.StoreValue.{with_families}
use Rattle.sq_store.specs.Runs.{families_in_runs, store_of_runs}
use Rattle.sq_store.proofs.SetRuns.{on_ok, on_err}
use Rattle.sq_store.proofs.slab_store.SlabStoreFamilyStore.give.Goals as goal

pub returns-in-Some-clause-ok : goal.returns-in-Some-clause-ok
returns-in-Some-clause-ok c =
    on_ok c.give_block.result
    (λ (put : store_of_runs c.give_block.new.runs ≡ with_families (store_of_runs c.self.inside.runs) c.args.families.items). put ∙ ap (λ store. with_families store c.args.families.items) c.self.view_is)
    c.give_block.ensures.ok

pub returns-in-Some-clause-err : goal.returns-in-Some-clause-err
returns-in-Some-clause-err c =
    on_err c.give_block.result
    (λ (same : families_in_runs c.give_block.new.runs ≡ families_in_runs c.self.inside.runs). ap store_of same ∙ c.self.view_is)
    c.give_block.ensures.err

use Rattle.std.proofs.Common.{sym, ap, ◌∙◌, set}
use Rattle.std.proofs.lemmas.List.Edits.{map_over_more}
use Rattle.sq_gather.specs.Prelude.{folded_store}
use Rattle.sq_audit.proofs.folding.fold_stores.Goals as goal

pub loop-store-preserved : goal.loop-store-preserved
loop-store-preserved c =
    let i = c.loop-store.store-index in
    let stores = c.loop-store.stores in
    ap (set stores i) (c.fold.ensures ∙ ap folded_store (sym c.store-item.is))
    ∙ map_over_more folded_store c.args.stores.now stores i c.store-item.result c.loop-store-test.true c.loop-store.invariant c.store-item.is

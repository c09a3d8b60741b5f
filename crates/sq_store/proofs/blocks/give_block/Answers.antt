use Rattle.std.proofs.Common.{ap, ◌∙◌, arith}
use Rattle.sq_store.specs.Listed.{store_of}
use Rattle.sq_store.specs.StoreValue.{with_families}
use Rattle.sq_store.proofs.blocks.give_block.Goals as goal

pub fill_gap-requires-clause-gap : goal.fill_gap-requires-clause-gap
fill_gap-requires-clause-gap c =
    let block = c.requires.block in
    record { end = c.args.end; bound = omega (arith, block.bound); gap = c.in-Ok.ensures.gap; rise = block.rise; within = block.within }

pub returns-clause-ok : goal.returns-clause-ok
returns-clause-ok c =
    ap store_of c.divide.ensures.families ∙ c.in_ok-place.ensures.ok ∙ ap (λ fs. with_families (store_of fs) c.args.families.items) c.make_gap.ensures.kept.families

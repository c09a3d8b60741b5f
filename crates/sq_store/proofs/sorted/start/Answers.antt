use Rattle.std.proofs.Common.{rules}
use Rattle.std.specs.Prelude.{nat_lt}
use Rattle.std.proofs.lemmas.Fn.{always_returns_same}
use Rattle.sq_store.proofs.Places.{started}
use Rattle.sq_store.proofs.sorted.start.Goals as goal

-- the closure says whether a family's root key is below
pub returns : goal.returns
returns c =
    let point = c.partition_point.ensures in
    started c.args.families.now c.args.key c.partition_point.result c.requires point.bound (point.partitioned (λ family. nat_lt family.root c.args.key) (always_returns_same _ _ _ (λ a r f k. search rules)))

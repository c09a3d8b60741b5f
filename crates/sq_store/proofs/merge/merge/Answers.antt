use Rattle.std.proofs.Common.{◌++◌, sym, subst, arith}
use Rattle.sq_store.specs.StoreValue.{with_families}
use Rattle.sq_store.specs.Listed.{store_of}
use Rattle.sq_store.proofs.Merges.{IsMerging, merging_more, left_less}
use Rattle.sq_store.proofs.merge.merge.Goals as goal

pub loop-family-preserved : goal.loop-family-preserved
loop-family-preserved c =
    let whole = with_families (store_of (c.args.into.now.items ++ c.args.left.items)) c.args.right.items in
    let left = c.loop-family.left.items in
    let right = c.loop-family.right.items in
    let family = c.in-Some.family in
    let inv = c.loop-family.invariant in
    let less = left_less left right family c.next.new.left.items c.next.new.right.items c.in-Some.ensures in
    record {
      merging = subst (λ items. IsMerging whole items c.next.new.left.items c.next.new.right.items) (sym c.push_reserved.ensures.items)
          (merging_more whole c.loop-family.into.items left right family c.next.new.left.items c.next.new.right.items inv.merging c.in-Some.ensures);
      room = omega (arith, less, c.push_reserved.ensures.len, c.push_reserved.ensures.capacity, inv.room);
    }

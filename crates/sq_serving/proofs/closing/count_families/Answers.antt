use Rattle.std.proofs.Common.{◌<◌, ◌^◌, take, ap, arith}
use Rattle.std.specs.Prelude.{sum_by}
use Rattle.std.proofs.lemmas.List.Sums.{sum_by_more}
use Rattle.std.proofs.lemmas.List.{take_all}
use Rattle.sq_serving.specs.Ends.{families_with_rows}
use Rattle.sq_serving.proofs.closing.count_families.Goals as goal

pub loop-store-preserved : goal.loop-store-preserved
loop-store-preserved c =
    λ fits.
    let store = c.store-item.result in
    let more = sum_by_more families_with_rows c.args.stores.now c.loop-store.store-index store c.loop-store-test.true in
    let here = ap families_with_rows c.store-item.is in
    let before : sum_by families_with_rows (take c.loop-store.store-index c.args.stores.now) < 2 ^ 64 = omega (arith, fits, more) in
    let was = c.loop-store.invariant before in
    let long = c.count_with_rows.ensures (omega (arith, fits, more, here)) in
    let sum = c.saturating_add-count.ensures in
    omega (arith, fits, more, here, was, long, sum)

pub returns : goal.returns
returns c = let whole = c.loop-store-test.false in let all = c.loop-store.invariant in rw take_all at all

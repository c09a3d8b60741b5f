use Rattle.std.proofs.Common.{◌≡◌, ◌<◌, ◌∙◌, List, length, ℕ, ◌+◌, get_or, set, refl, sym, subst, arith}
use Rattle.rtrb.specs.Ring.{received}
use Rattle.sq_node_model.specs.NodeValue.{ReceiptValue}
use Rattle.sq_engine.specs.Rings.{GivesGrown}
use Rattle.sq_engine.proofs.Passing.{same_through}
use Rattle.sq_engine.proofs.Resting.{Pair, GivesFirst, rest_on}
use Rattle.sq_engine.proofs.rings.give_rest.Goals as goal

pub loop-number-preserved : goal.loop-number-preserved
loop-number-preserved g c =
    let becomes = g.C.Client.Becomes in
    let n = c.loop-number.number in
    let at = c.from-at.result in
    let pairs = c.loop-number.pairs in
    let rings = c.loop-number.rings in
    let jobs = c.loop-number.jobs in
    let p = c.index-pairs-at.result in
    let r = c.index-rings-at.result in
    let pair : Pair = record { node = (get_or pairs at p).node; teller = record (get_or pairs at p).teller { producer = c.slots_beside.new.producer } } in
    let ring = c.give_known.new.ring in
    let there : at ≡ n = c.from-at.ensures in
    let looked = c.slots_beside.ensures.looked in
    let given = c.give_known.ensures in
    let number : c.new.result ≡ at = c.new.ensures ∙ sym there in
    let within : at < length c.args.pairs.now = omega arith in
    let among : at < length rings = omega arith in
    let was = subst (λ (k : ℕ). GivesFirst becomes k c.args.pairs.now c.args.jobs.now c.args.rings.now c.args.client.now pairs jobs rings c.loop-number.client)
    (sym there) c.loop-number.invariant in
    let same = same_through (get_or rings at r) c.slots_beside.new.self ring looked.0 given.ring in
    let grown = subst (λ (q : ℕ × List ReceiptValue). GivesGrown becomes q.0 jobs q.1 c.loop-number.client c.give_known.new.jobs (received ring) c.give_known.new.client)
    (λ k. (number k, looked.1 k)) given.given in
    let all = given.all ∙ c.slots_beside.ensures.fifo ∙ c.slots_beside.ensures.producer.1 in
    subst (λ (k : ℕ). GivesFirst becomes (k + 1) c.args.pairs.now c.args.jobs.now c.args.rings.now c.args.client.now (set pairs at pair) c.give_known.new.jobs (set rings at ring) c.give_known.new.client)
    there
    (rest_on becomes at c.args.pairs.now c.args.jobs.now c.args.rings.now c.args.client.now pairs jobs rings c.loop-number.client p pair r ring c.give_known.new.jobs c.give_known.new.client
    was c.loop-number.auto.pairs within among refl same grown all)

use Rattle.std.proofs.Common.{◌≡◌, ℕ, ◌<◌, ◌∙◌, length, List, get_or, sym, subst, arith}
use Rattle.std.proofs.lemmas.Option.{slice_get-get_or}
use Rattle.rtrb.specs.Ring.{received}
use Rattle.sq_node_model.specs.NodeValue.{ReceiptValue}
use Rattle.sq_engine.specs.Rings.{GivesGrown}
use Rattle.sq_engine.proofs.Passing.{same_through, arrived_over}
use Rattle.sq_engine.proofs.rings.give_arrived.Goals as goal

pub loop-number-preserved : goal.loop-number-preserved
loop-number-preserved g c =
    let becomes = g.C.Client.Becomes in
    let at = c.from.result in
    let looked = c.slots.new.self in
    let jobs = c.loop-number.jobs in
    let client = c.loop-number.client in
    let given = c.give_known-has_come.new in
    let ring = given.ring in
    let rings = c.loop-number.rings in
    let within : at < length rings = omega arith in
    let old = get_or rings at c.index-rings-from.result in
    let there = slice_get-get_or rings at c.index-rings-from.result within in
    let same = same_through old looked ring c.slots.ensures.looked.0 c.give_known-has_come.ensures.ring in
    let number : c.new.result ≡ at = c.new.ensures ∙ sym c.from.ensures in
    let grown = subst (λ (was : List ReceiptValue). GivesGrown becomes c.new.result jobs was client given.jobs (received ring) given.client)
    c.slots.ensures.looked.1 c.give_known-has_come.ensures.given in
    arrived_over becomes c.args.jobs.now c.args.rings.now c.args.client.now jobs rings client at old ring given.jobs given.client
    c.loop-number.invariant there same
    (subst (λ (k : ℕ). GivesGrown becomes k jobs (received old) client given.jobs (received ring) given.client) number grown)

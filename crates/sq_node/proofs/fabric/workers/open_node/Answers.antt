use Rattle.std.proofs.Common.{◌≡◌, ℕ, ◌∙◌, ap}
use Rattle.sq_node.specs.FabricValue.{FabricValue}
use Rattle.sq_node_model.specs.Cores.{staged_core}
use Rattle.sq_node.proofs.NewNodes.{not_whole, new_node}
use Rattle.sq_node.proofs.fabric.workers.open_node.Goals as goal

pub open-requires-clause-fresh : goal.open-requires-clause-fresh
open-requires-clause-fresh c = not_whole c.args.opening.now c.stage.result c.args.part c.args.store c.in_ok-core.core.core c.in_ok-core.ensures.ok

pub returns-clause-node : goal.returns-clause-node
returns-clause-node c =
    let o = c.args.opening.now in
    let fabric = c.args.fabric.now in
    let place = c.in-Ok.place in
    let stage : c.stage.result ≡ fabric.stage = c.stage.ensures ∙ ap (λ (f : FabricValue). f.stage) c.in-Ok.ensures.same in
    let core : c.in_ok-core.core.core ≡ staged_core o fabric.stage c.args.part c.args.store = c.in_ok-core.ensures.ok ∙ ap (λ (i : ℕ). staged_core o i c.args.part c.args.store) stage in
    let made = c.open.ensures in
    new_node o fabric c.args.part c.args.store c.in_ok-core.core.core place.seats.items place.sends.items place.recvs.items c.open.result c.requires.fabric c.requires.part core c.in-Ok.ensures.seats c.in-Ok.ensures.sends c.in-Ok.ensures.recvs
    (λ k. record { core = made.core k; seats = made.seats k; sends = made.sends k; recvs = made.recvs k; receipts = made.receipts k; claims = made.claims k })

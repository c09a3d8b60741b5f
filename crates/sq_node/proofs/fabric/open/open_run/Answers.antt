use Rattle.std.proofs.Common.{◌≡◌, ℕ, ◌+◌, ◌∙◌, ap, subst, arith, length}
use Rattle.sq_node.specs.FabricValue.{FabricValue}
use Rattle.sq_node.specs.Opened.{AreFirstSeats}
use Rattle.sq_node.proofs.NewNodes.{alike, still_fabric, same_shared, same_pumps}
use Rattle.sq_node.proofs.fabric.open.open_run.Goals as goal

pub returns-in-Ok-open_nodes-clause-run : goal.returns-in-Ok-open_nodes-clause-run
returns-in-Ok-open_nodes-clause-run c =
    let o = c.args.opening.now in
    let first = c.in-Ok.fabric in
    let pumped = c.open_pumps.new.fabric in
    let new = c.open_nodes.new.fabric in
    let same_pumped = c.in-Ok-open_pumps.ensures.same in
    let same = c.in-Ok-open_nodes.ensures.same in
    let given : 0 + c.args.pumps + length c.args.stores.items ≡ o.old.parts + c.args.pumps = omega (arith, c.requires.stores) in
    record {
      shared = same_shared o pumped new (alike pumped new same) (same_shared o first pumped (alike first pumped same_pumped) c.in-Ok.ensures.of);
      stage = ap (λ (f : FabricValue). f.stage) same ∙ ap (λ (f : FabricValue). f.stage) same_pumped ∙ c.in-Ok.ensures.stage;
      receipts = ap (λ (f : FabricValue). f.receipts) same ∙ ap (λ (f : FabricValue). f.receipts) same_pumped ∙ c.in-Ok.ensures.receipts;
      seats = subst (λ (n : ℕ). AreFirstSeats n new.trees new.seats) given (c.in-Ok-open_nodes.ensures.seats (0 + c.args.pumps) (c.in-Ok-open_pumps.ensures.seats 0 c.in-Ok.ensures.seats));
      each_node = c.in-Ok-open_nodes.ensures.nodes;
      each_pump = same_pumps pumped new c.args.pumps c.in-Ok-open_pumps.pumps.items (alike pumped new same) c.in-Ok-open_pumps.ensures.pumps;
    }

pub returns-in-Ok-open_nodes-clause-fabric : goal.returns-in-Ok-open_nodes-clause-fabric
returns-in-Ok-open_nodes-clause-fabric c =
    let o = c.args.opening.now in
    let first = c.in-Ok.fabric in
    let pumped = c.open_pumps.new.fabric in
    let new = c.open_nodes.new.fabric in
    let same : new ≡ record first { seats = new.seats } =
    c.in-Ok-open_nodes.ensures.same ∙ ap (λ (f : FabricValue). record f { seats = new.seats }) c.in-Ok-open_pumps.ensures.same in
    still_fabric first new (o.old.parts + c.args.pumps) (alike first new same) c.in-Ok.ensures.fabric (returns-in-Ok-open_nodes-clause-run c).seats

use Rattle.std.proofs.Common.{[], ◌∙◌, ap, sym, subst, length, List}
use Rattle.std.proofs.lemmas.List.FromFn.{length-map-range_with_len}
use Rattle.sq_store.specs.StoreValue.{StoreValue}
use Rattle.sq_exec.specs.Opened.{opened_part}
use Rattle.sq_node_model.specs.BeganWith.{first_began}
use Rattle.sq_node_model.proofs.Began.{first_can}
use Rattle.sq_node.specs.FabricValue.{HasBegun}
use Rattle.sq_node.specs.Opened.{IsReopened, opened_stores}
use Rattle.sq_node.proofs.NewNodes.{all_owned_open, new_nodes_hold}
use Rattle.sq_node.proofs.fabric.open.open_with.Goals as goal

pub open_run-requires-clause-stores : goal.open_run-requires-clause-stores
open_run-requires-clause-stores c =
    let o = c.args.opening.now in
    ap length c.requires.stores ∙ length-map-range_with_len (λ part. (opened_part o part).store) 0 o.old.parts

pub returns-in-Ok-clause-opened : goal.returns-in-Ok-clause-opened
returns-in-Ok-clause-opened c =
    let o = c.args.opening.now in
    let fabric = c.in-Ok.opened.fabric in
    let nodes = c.in-Ok.opened.nodes.items in
    let run = subst (λ (stores : List StoreValue). IsReopened o 0 stores [] c.args.pumps fabric nodes c.in-Ok.opened.pumps.items) c.requires.stores c.in-Ok.ensures.run in
    let begun : HasBegun (first_began o) fabric = record { stage = sym run.stage; receipts = sym run.receipts } in
    record {
      shared = run.shared;
      begun = begun;
      seats = run.seats;
      each_node = run.each_node;
      each_pump = run.each_pump;
      hold = new_nodes_hold o (first_began o) fabric (opened_stores o) nodes (length-map-range_with_len (λ part. (opened_part o part).store) 0 o.old.parts) begun (first_can o) (all_owned_open o c.requires.owned) run.each_node;
    }

-- What the nodes of a run share, as contracts see it.
use Rattle.sq_node.specs.declared.fabric.Fabric.TheInside.{Inside}
use Rattle.sq_node.specs.FabricValue.{FabricValue}

abbrev pub fabric_of : Inside → FabricValue
fabric_of f = record {
  recon = f.recon;
  stage = f.stage;
  parts = f.parts;
  trees = f.trees.items;
  seats = f.seats.items;
  links = f.links.items;
  receipts = f.receipts.items;
}

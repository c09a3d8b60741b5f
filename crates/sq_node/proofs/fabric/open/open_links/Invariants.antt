use Rattle.std.proofs.Common.{◌≡◌, ℕ, map, take, Some}
use Rattle.std.specs.Prelude.{slice_get}
use Rattle.sq_shared.specs.Values.{LinkValue}
use Rattle.sq_node.specs.FabricValue.{ends_of}
use Rattle.sq_node.specs.Opened.{HasAllEnds}
use Rattle.sq_node.proofs.fabric.open.open_links.Given as goal

-- the links so far are there, with their ends
abbrev pub invariant-loop-at : goal.invariant-loop-at
invariant-loop-at l = record {
  links : map ends_of l.links.items ≡ take l.at l.between;
  capacities : (i : ℕ) (link : LinkValue) → slice_get l.links.items i ≡ Some link → link.capacity ≡ l.capacity;
  sends : HasAllEnds l.links.items l.sends.items;
  recvs : HasAllEnds l.links.items l.recvs.items;
}

use Rattle.std.proofs.Common.{◌≡◌, ◌+◌, ◌≤◌, ◌++◌, false, length, vec_capacity}
use Rattle.std.specs.Prelude.{All}
use Rattle.std.specs.List.{flat_map}
use Rattle.std.specs.Vec.Iter.{into_iter_items}
use Rattle.sq_driver.specs.Told.{nodes_of}
use Rattle.sq_driver.proofs.Collected.{collected_of}
use Rattle.sq_driver.proofs.stage_run.StageRun.gather.Given as goal

-- `nodes` are those of the tellers so far, `told` has what these tellers collected, each of them is
-- whole, and `nodes` has room for the other nodes
abbrev pub invariant-loop-pair : goal.invariant-loop-pair
invariant-loop-pair g l = record {
  nodes : l.nodes.items ≡ nodes_of l.yielded;
  told : l.told.items ≡ l.initial.told.items ++ flat_map collected_of l.yielded;
  whole : All (λ pair. pair.teller.broke_off ≡ false) l.yielded;
  room : length l.nodes.items + length (into_iter_items l.pair-iterator) ≤ vec_capacity l.nodes;
  rest : l.yielded ++ into_iter_items l.pair-iterator ≡ into_iter_items l.initial.pair-iterator;
}

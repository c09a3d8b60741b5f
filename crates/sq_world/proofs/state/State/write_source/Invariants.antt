use Rattle.std.specs.List.{flat_map, range_with_len}
use Rattle.std.specs.Io.KnownBytes.{Appends}
use Rattle.sq_transition.specs.WorldValue.{link_index}
use Rattle.sq_world.specs.Dump.{link_lines}
use Rattle.sq_world.proofs.state.State.write_source.Given as goal

abbrev pub invariant-loop-dst : goal.invariant-loop-dst
invariant-loop-dst g l = Appends (g.W.Write.contents l.initial.writer) (g.W.Write.contents l.writer) (flat_map (λ dst. link_lines l.self (link_index l.self l.src dst)) (range_with_len 0 l.dst))

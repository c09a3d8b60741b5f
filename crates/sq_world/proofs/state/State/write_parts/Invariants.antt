use Rattle.std.specs.List.{flat_map, range_with_len}
use Rattle.std.specs.Io.KnownBytes.{Appends}
use Rattle.sq_world.specs.Dump.{part_lines}
use Rattle.sq_world.proofs.state.State.write_parts.Given as goal

abbrev pub invariant-loop-part : goal.invariant-loop-part
invariant-loop-part g l = Appends (g.W.Write.contents l.initial.writer) (g.W.Write.contents l.writer) (flat_map (part_lines l.self) (range_with_len 0 l.part))

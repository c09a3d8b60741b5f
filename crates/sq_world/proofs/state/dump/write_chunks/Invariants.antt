use Rattle.std.proofs.Common.{take}
use Rattle.std.specs.List.{flat_map}
use Rattle.std.specs.Io.KnownBytes.{Appends}
use Rattle.sq_text.specs.Texts.{way_lines}
use Rattle.sq_world.proofs.state.dump.write_chunks.Given as goal

abbrev pub invariant-loop-chunk : goal.invariant-loop-chunk
invariant-loop-chunk g l = Appends (g.W.Write.contents l.initial.writer) (g.W.Write.contents l.writer) (flat_map way_lines (take l.chunk-index l.chunks))

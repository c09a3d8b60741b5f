use Rattle.std.proofs.Common.{take}
use Rattle.std.specs.List.{flat_map}
use Rattle.std.specs.Io.KnownBytes.{Appends}
use Rattle.sq_text.specs.Texts.{in_line}
use Rattle.sq_text.proofs.dump.write_way.Given as goal

abbrev pub invariant-loop-family : goal.invariant-loop-family
invariant-loop-family g l = Appends (g.W.Write.contents l.initial.writer) (g.W.Write.contents l.writer) (flat_map in_line (take l.family-index l.families))

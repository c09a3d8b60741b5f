use Rattle.std.proofs.Common.{take}
use Rattle.std.specs.List.{flat_map}
use Rattle.std.specs.Io.KnownBytes.{Appends}
use Rattle.sq_results.specs.RowLines.{root_lines}
use Rattle.sq_results.proofs.row_lines.write_families.Given as goal

abbrev pub invariant-loop-family : goal.invariant-loop-family
invariant-loop-family g l =
    Appends (g.W.Write.contents l.initial.writer) (g.W.Write.contents l.writer) (flat_map (λ family. root_lines family.now) (take l.family-index l.families))

use Rattle.std.proofs.Common.{take}
use Rattle.std.specs.List.{flat_map}
use Rattle.std.specs.Io.KnownBytes.{Appends}
use Rattle.sq_explain.specs.Meanings.{entry_lines}
use Rattle.sq_explain.proofs.telling.write_entries.Given as goal

abbrev pub invariant-loop-entry : goal.invariant-loop-entry
invariant-loop-entry g l = Appends (g.W.Write.contents l.initial.writer) (g.W.Write.contents l.writer) (flat_map entry_lines (take l.entry-index l.entries))

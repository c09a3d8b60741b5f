use Rattle.std.proofs.Common.{take}
use Rattle.std.specs.Io.KnownBytes.{Appends}
use Rattle.sq_text.specs.Texts.{segment_lines}
use Rattle.sq_text.proofs.moves_text.write_segments.Given as goal

abbrev pub invariant-loop-seg : goal.invariant-loop-seg
invariant-loop-seg g l = Appends (g.W.Write.contents l.initial.writer) (g.W.Write.contents l.writer) (segment_lines l.recon 0 (take l.seg l.segments))

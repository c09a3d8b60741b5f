use Rattle.std.proofs.Common.{◌≡◌, map}
use Rattle.std.specs.List.{range_with_len}
use Rattle.sq_report.specs.SummaryValue.{count_after}
use Rattle.sq_report.proofs.summary.count_parts.Given as goal

abbrev pub invariant-loop-part : goal.invariant-loop-part
invariant-loop-part l = l.counts.items ≡ map (count_after l.parts.items l.pairs) (range_with_len 0 l.part)

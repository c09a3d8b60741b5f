use Rattle.std.proofs.Common.{◌≤◌, arith}
use Rattle.sq_moves.proofs.Extents.{extent_low, extent_rises, extent_high, extent_whole, extents_disjoint}
use Rattle.sq_moves.proofs.Segments.{segment_stands}
use Rattle.sq_moves.proofs.laws.nodes_divide_their_segment.Goals as goal

pub returns-clause-inside : goal.returns-clause-inside
returns-clause-inside c = λ recon i n segment is at.
    let stands = segment_stands recon is i segment at in
    let some : segment.lo ≤ segment.hi = omega (arith, stands.some) in
    record { low = extent_low recon.width segment n some; rises = extent_rises recon.width segment n; high = extent_high recon.width segment n }

pub returns-clause-whole : goal.returns-clause-whole
returns-clause-whole c = λ recon i segment is at.
    let stands = segment_stands recon is i segment at in
    let some : segment.lo ≤ segment.hi = omega (arith, stands.some) in
    let whole = extent_whole recon.width segment some stands.is.short in
    λ j. record { lo = whole.0 j; hi = whole.1 j }

pub returns-clause-apart : goal.returns-clause-apart
returns-clause-apart c = λ width n m key segment apart. extents_disjoint width segment n m key apart.one apart.other apart.not_under apart.not_above

use Rattle.std.proofs.Common.{◌≡◌, ◌-◌, length, take}
use Rattle.sq_input.specs.Bare.{place_after_all, line_after}
use Rattle.sq_input.proofs.Bare.{IsAt}
use Rattle.sq_input.proofs.bare_lines.BareLines.keep.Given as goal

abbrev pub invariant-loop-at : goal.invariant-loop-at
invariant-loop-at g l = record {
  kept : IsAt l.initial.self.place l.initial.bytes l.bytes l.at l.kept;
  reader : l.self ≡ record l.initial.self {
    place = place_after_all l.initial.self.place (take l.at l.initial.bytes);
    line = line_after l.initial.self.line (take l.at l.initial.bytes);
  };
}

abbrev pub decreases-loop-at : goal.decreases-loop-at
decreases-loop-at g l = length l.initial.bytes - l.at

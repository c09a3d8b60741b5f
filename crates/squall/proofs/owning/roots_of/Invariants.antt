use Rattle.std.proofs.Common.{◌≡◌, take}
use Rattle.squall.proofs.owning.roots_of.Given as goal

-- there are the root keys of the numbers before
abbrev pub invariant-loop-key : goal.invariant-loop-key
invariant-loop-key l = l.roots.items ≡ take l.key-index l.keys

use Rattle.std.proofs.Common.{◌≡◌, ℕ, ◌<◌, ◌||◌, length}
use Rattle.std.specs.Prelude.{◌&&◌, nat_le, nat_lt}
use Rattle.sq_exec.specs.GivenUp.{is_given_up}
use Rattle.sq_exec.proofs.given_up.GivenUp.add.Given as goal

-- the leaves of the node so far are given up too
abbrev pub invariant-loop-leaf : goal.invariant-loop-leaf
invariant-loop-leaf l = record {
  all : length l.self-inside.leaves ≡ 32;
  given_up : (k : ℕ) → k < 32 → is_given_up l.self-inside.leaves k ≡ (is_given_up l.initial.self-inside.leaves k || (nat_le l.first k && nat_lt k l.leaf));
}

use Rattle.std.proofs.Common.{◌≡◌, ℕ, true, false, map, ◌||◌}
use Rattle.std.specs.List.{list_any}
use Rattle.std.specs.BTreeMap.{is_at}
use Rattle.std.specs.Map.Iter.{deref}
use Rattle.sq_exec.specs.Index.{entry_cmp, is_among, IsNumberedBetween}
use Rattle.sq_exec.proofs.index.lacking_between.Given as goal

abbrev pub invariant-loop-entry : goal.invariant-loop-entry
invariant-loop-entry l = record {
  lacking : (n : ℕ) → is_among l.lacking.items n ≡ true → is_among l.numbers n ≡ false;
  between : (n : ℕ) → is_among l.lacking.items n ≡ true → IsNumberedBetween l.by_root l.lo l.hi n;
  all : (root n : ℕ) → list_any (is_at (entry_cmp (root, n))) (map deref l.yielded) ≡ true → (is_among l.numbers n || is_among l.lacking.items n) ≡ true;
}

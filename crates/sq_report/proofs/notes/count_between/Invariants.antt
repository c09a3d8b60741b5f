use Rattle.std.proofs.Common.{◌≡◌, ◌+◌, ◌-◌, ◌≤◌, length}
use Rattle.sq_schema.specs.declared.root.TheConstants.{ROOT_END}
use Rattle.sq_store.specs.StoreValue.{families_between}
use Rattle.sq_report.proofs.notes.count_between.Given as goal

-- those that were counted and those from here on are all, and the root keys of those that were counted are behind
abbrev pub invariant-loop-family : goal.invariant-loop-family
invariant-loop-family l = record {
  all : l.count + length (families_between l.store l.at l.hi) ≡ length (families_between l.store l.initial.lo l.hi);
  behind : l.count + l.initial.lo ≤ l.at;
  few : l.count ≤ ROOT_END;
}

abbrev pub decreases-loop-family : goal.decreases-loop-family
decreases-loop-family l = l.hi - l.at

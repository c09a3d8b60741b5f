use Rattle.std.proofs.Common.{◌≡◌, ◌+◌, ◌++◌, List, drop}
use Rattle.sq_schema.specs.Family.{FamilyValue}
use Rattle.sq_store.specs.Counting.{fitting}
use Rattle.sq_store.proofs.taking.fit_in.Given as goal

-- what fits is what was passed, and what fits of the rest
abbrev pub invariant-loop-at : goal.invariant-loop-at
invariant-loop-at l = record {
  whole : fitting l.initial.left l.families ≡ l.at + fitting l.left (drop l.at l.families);
  more : (more : List FamilyValue) → fitting l.initial.left (l.families ++ more) ≡ l.at + fitting l.left (drop l.at l.families ++ more);
}

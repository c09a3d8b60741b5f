use Rattle.std.proofs.Common.{◌≡◌, ◌+◌, ◌<◌, ◌^◌}
use Rattle.std.specs.Prelude.{sum_by, length}
use Rattle.sq_engine.specs.Ending.{logged_in}
use Rattle.sq_serving.proofs.closing.count_in.Given as goal

-- those counted, and those of the families that are left
abbrev pub invariant-loop-family : goal.invariant-loop-family
invariant-loop-family l =
    (goal.iterator-loop-family).can_next l.family-iterator
    × (goal.iterator-loop-family).is_finite l.family-iterator
    × (logged_in l.store < 2 ^ 64
    → l.count + sum_by (λ family. length family.log) l.family-iterator ≡ logged_in l.store)

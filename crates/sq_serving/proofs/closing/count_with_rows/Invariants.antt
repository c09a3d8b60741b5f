use Rattle.std.proofs.Common.{◌≡◌, ◌+◌, ◌<◌, ◌^◌, ◌==◌}
use Rattle.std.specs.Prelude.{count_by, not, length}
use Rattle.sq_schema.specs.Family.{rows_of}
use Rattle.sq_serving.specs.Ends.{families_with_rows}
use Rattle.sq_serving.proofs.closing.count_with_rows.Given as goal

-- those counted, and those among the families that are left
abbrev pub invariant-loop-family : goal.invariant-loop-family
invariant-loop-family l =
    (goal.iterator-loop-family).can_next l.family-iterator
    × (goal.iterator-loop-family).is_finite l.family-iterator
    × (families_with_rows l.store < 2 ^ 64
    → l.count + count_by (λ family. not (length (rows_of family) == 0)) l.family-iterator ≡ families_with_rows l.store)

use Rattle.std.proofs.Common.{◌≡◌, ℕ, List, ◌++◌}
use Rattle.std.specs.List.{flat_map}
use Rattle.std.specs.Io.KnownBytes.{Appends}
use Rattle.sq_schema.specs.Prelude.{rows_of}
use Rattle.sq_results.specs.RowLines.{row_line}
use Rattle.sq_results.proofs.row_lines.write_family.Given as goal

-- the lines so far go before those of the rows that are still to come
abbrev pub invariant-loop-key : goal.invariant-loop-key
invariant-loop-key g l =
    (goal.iterator-loop-key g).can_next l.key-iterator
    × (goal.iterator-loop-key g).is_finite l.key-iterator
    × ((bytes : List ℕ) × Appends (g.W.Write.contents l.initial.writer) (g.W.Write.contents l.writer) bytes
    × (bytes ++ flat_map (row_line l.root) l.key-iterator ≡ flat_map (row_line l.family.root) (rows_of l.family)))

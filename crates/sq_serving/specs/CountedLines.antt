-- What a reader whose lines are counted has left.
use Rattle.std.specs.Prelude.{ℕ, List, Option}
use Rattle.sq_serving.specs.declared.counted_lines.CountedLines.{CountedLines}

abbrev pub counted_remaining : {R : Type 0} → (R → Option (List ℕ)) → CountedLines R → Option (List ℕ)
counted_remaining remaining r = remaining r.reader

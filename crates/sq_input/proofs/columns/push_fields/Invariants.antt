use Rattle.std.proofs.Common.{◌≡◌, ◌∷◌, ◌++◌, take}
use Rattle.std.specs.List.{flat_map, enumerate_from}
use Rattle.csv.specs.Records.{fields_of}
use Rattle.sq_input.specs.Columns.{field_word}
use Rattle.sq_input.proofs.columns.push_fields.Given as goal

-- the words so far follow what was there
abbrev pub invariant-loop-column : goal.invariant-loop-column
invariant-loop-column l =
    l.line.items
    ≡ l.initial.line.items ++ flat_map (λ placed. 32 ∷ field_word placed) (take l.column (enumerate_from 0 (fields_of l.values)))

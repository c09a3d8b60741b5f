-- The lines of faults of an input.
use Rattle.std.specs.Prelude.{ℕ, ◌+◌, Option, Some, None, Result, Ok, Err}
use Rattle.sq_moves.specs.declared.opening_fault.OpeningFault.{OpeningFault}
use Rattle.sq_moves.specs.declared.opening_fault.OpeningFault.TheVariants as opening
use Rattle.sq_text.specs.declared.input_fault.InputFault.{InputFault}
use Rattle.sq_text.specs.declared.input_fault.InputFault.TheVariants.{Opening, Memory}
use Rattle.sq_text.specs.declared.located.InputLine.{InputLine}
use Rattle.sq_text.specs.declared.located.InputLine.TheVariants.{Old, New, Config, Row, Later}
use Rattle.sq_text.specs.declared.located.LocatedFault.{LocatedFault}

-- the number of a line, from 1: the old plan, the new plan, the sizes, row by row, and the lines
-- after them
abbrev pub line_number : InputLine → ℕ
line_number Old = 1
line_number New = 2
line_number Config = 3
line_number (Row at) = at + 4
line_number (Later number) = number

-- a fault of this line, or of none
abbrev pub located : InputFault → Option InputLine → LocatedFault
located fault line = record { fault = fault; line = line }

-- what is read of this line, with the line of a fault
abbrev pub at_line : {A : Type 0} → InputLine → Result A InputFault → Result A LocatedFault
at_line line (Ok x) = Ok x
at_line line (Err fault) = Err (located fault (Some line))

-- the line of a fault of the opening: that of its row, or else of the sizes
abbrev pub opening_line : OpeningFault → InputLine
opening_line (opening.Row at fault) = Row at
opening_line (opening.Place at fault) = Row at
opening_line fault = Config

-- the fault of an opening, as a fault of the input
abbrev pub of_opening : OpeningFault → LocatedFault
of_opening opening.Memory = located Memory None
of_opening fault = located (Opening fault) (Some (opening_line fault))

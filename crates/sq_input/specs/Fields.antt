-- The places in the fields of a table, by the states of the reader of records.
use Rattle.std.specs.Prelude.{◌≢◌}
use Rattle.csv.specs.declared.parser.State.{State}
use Rattle.csv.specs.declared.parser.State.TheVariants as st
use Rattle.sq_input.specs.declared.field_place.FieldPlace.{FieldPlace}
use Rattle.sq_input.specs.declared.field_place.FieldPlace.TheVariants.{Start, Unquoted, Quoted, AfterQuote}

-- the place in a field at which a reader is in this state
abbrev pub field_place : State → FieldPlace
field_place st.StartRecord = Start
field_place st.StartField = Start
field_place st.AfterCr = Start
field_place st.InField = Unquoted
field_place st.InQuoted = Quoted
field_place st.AfterQuote = AfterQuote
field_place st.InEscape = Quoted
field_place st.InComment = Start

-- a state of a reader without escapes and comments
abbrev pub IsUsual : State → Type 0
IsUsual state = (state ≢ st.InEscape) × (state ≢ st.InComment)

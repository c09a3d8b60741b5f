-- The fields of the header's lines.
use Rattle.std.specs.Prelude.{List, Option, Some}
use Rattle.sq_moves.specs.declared.opening.Config.{Config}
use Rattle.sq_moves.specs.Given.{GivenValue}
use Rattle.sq_text.specs.Words.{Word, ◌>>=◌}
use Rattle.sq_text.specs.Fields.{number_field, key_field, signed_field, note_field, value_at_end}
use Rattle.sq_moves.specs.declared.opening.TheConstants.{LOG_LIMIT}

-- the sizes: W L C
unfoldable pub config_in : List Word → Option Config
config_in words = do
  width ← number_field words
  limit ← number_field width.1
  capacity ← number_field limit.1
  value_at_end (Some (record { width = width.0; limit = limit.0; capacity = capacity.0; log_limit = LOG_LIMIT }, capacity.1))

-- an opening row: ROOT T S N NOTE
unfoldable pub given_in : List Word → Option GivenValue
given_in words = do
  root ← number_field words
  key ← key_field root.1
  number ← signed_field key.1
  note ← note_field number.1
  value_at_end (Some (record { root = root.0; key = key.0; row = record { number = number.0; note = note.0 } }, note.1))

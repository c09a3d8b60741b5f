-- The bytes of lines of rows, without empty lines and without comments.
use Rattle.std.specs.Prelude.{ℕ, ◌==◌, ◌||◌, ◌+◌, ◌-◌, ◌^◌, min, if◌then◌else◌, Bool, true, false, List, [], ◌∷◌}
use Rattle.sq_input.specs.declared.bare_lines.TheConstants.{LINE_END, COMMENT}
use Rattle.sq_input.specs.declared.bare_lines.BarePlace.{BarePlace}
use Rattle.sq_input.specs.declared.bare_lines.BarePlace.TheVariants.{Start, Kept, Skipped}

-- the place in the line of this byte
abbrev pub place_at : BarePlace → ℕ → BarePlace
place_at Start byte = if byte == LINE_END || byte == COMMENT then Skipped else Kept
place_at Kept byte = Kept
place_at Skipped byte = Skipped

-- the place after this byte
abbrev pub place_after : BarePlace → ℕ → BarePlace
place_after place byte = if byte == LINE_END then Start else place_at place byte

-- the place after these bytes
abbrev pub place_after_all : BarePlace → List ℕ → BarePlace
place_after_all place [] = place
place_after_all place (byte ∷ bytes) = place_after_all (place_after place byte) bytes

-- the line is passed on
abbrev pub is_kept : BarePlace → Bool
is_kept Start = false
is_kept Kept = true
is_kept Skipped = false

-- those of these bytes that are passed on: the bytes of lines that are neither empty nor comments
abbrev pub bare_bytes : BarePlace → List ℕ → List ℕ
bare_bytes place [] = []
bare_bytes place (byte ∷ bytes) =
    let more = bare_bytes (place_after place byte) bytes in
    if is_kept (place_at place byte) then byte ∷ more else more

-- the number of the line after these bytes, or the largest 64-bit number if that doesn't fit
abbrev pub line_after : ℕ → List ℕ → ℕ
line_after line [] = line
line_after line (byte ∷ bytes) =
    line_after (if byte == LINE_END then min (line + 1) (2 ^ 64 - 1) else line) bytes

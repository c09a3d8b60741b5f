-- The curves of a chart.
use Rattle.std.specs.Prelude.{ℕ, ◌*◌, ◌/◌, min, max}

-- the share of `len` that `part` is of `whole`, rounded down, at most `len`
abbrev pub share_of : ℕ → ℕ → ℕ → ℕ
share_of part whole len = min len (len * part / max whole 1)

-- Which pumps of an engine claim.
use Rattle.std.specs.Prelude.{◌==◌, ◌||◌, ℕ, Bool, false, if◌then◌else◌}
use Rattle.sq_serving.specs.declared.claiming.Claiming.{Claiming}

-- the pumps that claim once none is paused: all if none was to claim
abbrev pub resumed : Claiming → Claiming
resumed claiming =
    record claiming { is_paused = false; first = if claiming.first == 0 then claiming.all else claiming.first }

-- no pump claims
abbrev pub rests : Claiming → Bool
rests claiming = claiming.is_paused || (claiming.first == 0)

abbrev pub claiming_pumps : Claiming → ℕ
claiming_pumps claiming = if claiming.is_paused then 0 else claiming.first

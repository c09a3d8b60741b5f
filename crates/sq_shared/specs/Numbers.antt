-- The numbers of pulls: those of partitions are odd, those of pumps even, and each owner has
-- numbers of its own.
use Rattle.std.specs.Prelude.{ℕ, ◌+◌, ◌*◌}
use Rattle.sq_shared.specs.declared.numbers.TheConstants.{MAX_OWNERS}

-- the next pull of partition `part`, which has won `won` claims
abbrev pub reactive_pull : ℕ → ℕ → ℕ
reactive_pull part won = 2 * (part + MAX_OWNERS * won) + 1

-- the next pull of pump `pump`, which has won `won` claims
abbrev pub pump_pull : ℕ → ℕ → ℕ
pump_pull pump won = 2 * (pump + MAX_OWNERS * won)

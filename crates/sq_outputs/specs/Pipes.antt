-- What an output that may be a pipe holds.
use Rattle.std.specs.Prelude.{ℕ, List, Option}
use Rattle.sq_outputs.specs.declared.pipe.PipeEnd.{PipeEnd}

-- what the inner writer holds
abbrev pub piped_contents : {W : Type 0} → (W → Option (List ℕ)) → PipeEnd W → Option (List ℕ)
piped_contents contents pipe = contents pipe.inner

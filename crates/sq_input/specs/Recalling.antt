-- What a reader that keeps its last lines has left.
use Rattle.std.specs.Prelude.{ℕ, List, Option}
use Rattle.sq_input.specs.declared.recalling.Recalling.{Recalling}

-- the inner reader
abbrev pub recalling_inner : {R : Type 0} → Recalling R → R
recalling_inner r = r.inner

-- what the inner reader has left
abbrev pub recalling_remaining : {R : Type 0} → (R → Option (List ℕ)) → Recalling R → Option (List ℕ)
recalling_remaining remaining r = remaining r.inner

use Rattle.std.proofs.Common.{sym, ap, ◌∙◌}
use Rattle.std.specs.Prelude.{is_some, find, Option, Some, None, option_map, ◌≡◌, refl}
use Rattle.sq_exec.specs.Waiting.{Arrival, is_on}
use Rattle.sq_exec.proofs.Arrivals.{any_found}
use Rattle.sq_exec.proofs.waiting.Waiting.waits_for.Goals as goal

some_mapped : {X Y : Type 0} (f : X → Y) (read : Option X) → is_some (option_map f read) ≡ is_some read
some_mapped f None = refl
some_mapped f (Some x) = refl

pub returns-then-not-is_empty : goal.returns-then-not-is_empty
returns-then-not-is_empty c =
    let arrivals = c.args.self.now.arrivals in
    c.is_some.ensures ∙ ap is_some c.arrival.ensures.number ∙ some_mapped (λ (a : Arrival). a.number) (find (is_on c.args.root) arrivals) ∙ sym (any_found (is_on c.args.root) arrivals)

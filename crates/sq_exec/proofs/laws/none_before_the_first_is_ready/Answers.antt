use Rattle.std.proofs.Common.{◌≡◌, sym, ap, ◌∙◌}
use Rattle.std.proofs.lemmas.Option.{get_or_from_slice_get}
use Rattle.std.proofs.lemmas.List.Quantifiers.{position-Some}
use Rattle.sq_exec.specs.Serving.{is_ready_here}
use Rattle.sq_exec.proofs.laws.none_before_the_first_is_ready.Goals as goal

pub returns : goal.returns
returns c = λ core place txn first found.
    let at = position-Some (is_ready_here core) core.waiting place txn first in
    record {
      ready = ap (is_ready_here core) (sym (get_or_from_slice_get core.waiting place txn txn found)) ∙ at.1;
      none_before = λ k other below there.
          let before = position-Some (is_ready_here core) core.waiting place other first in
          ap (is_ready_here core) (sym (get_or_from_slice_get core.waiting k other other there)) ∙ before.2 k below;
    }

use Rattle.std.proofs.Common.{◌≡◌, true, sym, subst}
use Rattle.sq_store.specs.StoreValue.{StoreValue, has_none_of}
use Rattle.sq_store.proofs.Rising.{differ-within}
use Rattle.sq_refusals.proofs.Cut.{cut_absent}
use Rattle.sq_refusals.proofs.stores.take_once.Goals as goal

pub returns : goal.returns
returns g c =
    let cut = c.in_ok-take.ensures in
    let families = c.in_ok-take.field-0.families.items in
    record {
      differ = differ-within 0 c.in_ok-take.field-0.end families cut.within;
      absent = subst (λ (store : StoreValue). has_none_of store families ≡ true) (sym cut.store) (cut_absent _ 0 c.in_ok-take.field-0.end families cut.within);
    }

use Rattle.std.proofs.Common.{sym, ap, ◌∙◌, arith, subst, ⊎_elim, ◌≡◌, ◌<◌, ◌≤◌, ℕ, [], ◌∷◌, ◌++◌}
use Rattle.std.proofs.lemmas.Bool.{cases_lt}
use Rattle.std.proofs.lemmas.List.FromFn.{map-range_with_len_more}
use Rattle.sq_store.specs.StoreValue.{StoreValue}
use Rattle.sq_exec.specs.Opened.{opened_part, HasOwned}
use Rattle.sq_node.proofs.fabric.open.open_stores.Goals as goal

pub loop-number-preserved : goal.loop-number-preserved
loop-number-preserved c =
    let o = c.args.opening.now in
    let n = c.loop-number.number in
    let opened : ℕ → StoreValue = λ part. (opened_part o part).store in
    let store = c.in_ok-store.store in
    let is : store ≡ opened n = c.in_ok-store.ensures.is ∙ ap opened c.new.ensures in
    let has : HasOwned o n store = subst (λ p. HasOwned o p store) c.new.ensures c.in_ok-store.ensures.owned in
    record {
      stores = c.in_ok-push.ensures.items ∙ (λ k. c.loop-number.invariant.stores k ++ is k ∷ []) ∙ sym (map-range_with_len_more opened 0 n n (omega arith));
      owned = λ part lt. ⊎_elim (λ (earlier : part < n). c.loop-number.invariant.owned part earlier)
          (λ (past : n ≤ part).
          let here : n ≡ part = omega arith in
          subst (λ p. HasOwned o p (opened p)) here (subst (HasOwned o n) is has))
          (cases_lt part n);
    }

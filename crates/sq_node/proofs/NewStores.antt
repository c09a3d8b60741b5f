-- The families of partitions, made each in a thread of its own.
use Rattle.std.proofs.Common.{◌≡◌, ℕ, ◌<◌, List, length, map, get_or, Result, Ok, sym, ap, ◌∙◌, subst, arith}
use Rattle.std.specs.Prelude.{IfOk}
use Rattle.std.specs.FinMap.{empty}
use Rattle.std.specs.declared.alloc.AllocError.{AllocError}
use Rattle.std.proofs.lemmas.List.{length-map, get_or-map}
use Rattle.std.proofs.lemmas.List.FromFn.{fill_by_all}
use Rattle.sq_moves.specs.OpeningValue.{OpeningValue}
use Rattle.sq_store.specs.StoreValue.{StoreValue}
use Rattle.sq_exec.specs.Opened.{opened_part, HasOwned, IsOpenStore}
use Rattle.sq_node.specs.Opened.{opened_stores, HaveOwned}

module _ (o : OpeningValue) (results : List (Result StoreValue AllocError)) (stores : List StoreValue) (all : map Ok stores ≡ results) (long : length results ≡ o.old.parts)
    (each : (i : ℕ) (d : Result StoreValue AllocError) → i < length results → IfOk (get_or results i d) (IsOpenStore o i)) where
  count : length stores ≡ o.old.parts
  count = sym (length-map stores Ok) ∙ ap length all ∙ long

  opened_at : (i : ℕ) (d : StoreValue) → i < o.old.parts → IsOpenStore o i (get_or stores i d)
  opened_at i d low =
      let is = ap (λ rs. get_or rs i (Ok d)) (sym all) ∙ get_or-map Ok stores i d (Ok d) (omega (arith, count, low)) in
      subst (λ (r : Result StoreValue AllocError). IfOk r (IsOpenStore o i)) is (each i (Ok d) (omega (arith, long, low)))

  -- they are those of all partitions
  pub all_are : stores ≡ opened_stores o
  all_are = fill_by_all (λ part. (opened_part o part).store) stores o.old.parts empty count (λ k low. let here = opened_at k empty low in here.is)

  -- each has what its partition owns
  pub all_have : HaveOwned o
  all_have part low = let here = opened_at part empty low in subst (HasOwned o part) here.is here.owned

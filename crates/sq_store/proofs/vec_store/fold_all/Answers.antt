use Rattle.std.proofs.Common.{◌≡◌, length, map, take, ◌++◌, ap, ◌∙◌, arith, append-nil}
use Rattle.std.proofs.lemmas.List.{take_all, drop_all, length-map}
use Rattle.sq_schema.specs.Family.{folded}
use Rattle.sq_store.proofs.vec_store.fold_all.Goals as goal

pub returns : goal.returns
returns c =
    let left = c.keep_rowed.new.families in
    let fs = c.fold_each.new.families in
    let is : fs ≡ map folded left.items = c.fold_each.ensures ∙ ap (map folded) c.deref_mut.ensures.value in
    let many : length fs ≡ length left.items = ap length is ∙ length-map left.items folded in
    ap (λ rest. take left.len (fs ++ rest)) (drop_all (length fs) left.items (omega (arith, many)))
    ∙ ap (take left.len) (append-nil fs)
    ∙ take_all left.len fs (omega (arith, many, left.ok.0))
    ∙ is ∙ ap (map folded) c.keep_rowed.ensures

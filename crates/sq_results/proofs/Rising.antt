-- Families that are lent in order.
use Rattle.std.proofs.Common.{◌<◌, ◌≤◌, arith, List, length, get_or, sym, subst, Bor}
use Rattle.std.specs.List.Sorted.{IsNonDecreasingBy}
use Rattle.std.proofs.lemmas.List.{length-map, get_or-map}
use Rattle.sq_node_model.proofs.Lists.{stands_at}
use Rattle.sq_schema.specs.Family.{FamilyValue}
use Rattle.sq_results.specs.RowLines.{lent_values}

-- where the root keys of those that are lent don't fall, those of the families don't
pub rise_lent : (families : List (Bor FamilyValue)) → IsNonDecreasingBy (λ (family : Bor FamilyValue). family.now.root) families → IsNonDecreasingBy (λ (family : FamilyValue). family.root) (lent_values families)
rise_lent families rise i j d upto within =
    let value : Bor FamilyValue → FamilyValue = λ family. family.now in
    let inside : j < length families = subst (λ n. j < n) (length-map families value) within in
    let one = (stands_at families i (omega (arith, upto, inside))).0 in
    let here = get_or-map value families i one d (omega (arith, upto, inside)) in
    let there = get_or-map value families j one d inside in
    subst (λ (f : FamilyValue). f.root ≤ (get_or (lent_values families) j d).root) (sym here)
    (subst (λ (f : FamilyValue). (get_or families i one).now.root ≤ f.root) (sym there) (rise i j one upto inside))

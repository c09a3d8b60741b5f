use Rattle.std.proofs.Common.{◌≡◌, rules, subst, sym}
use Rattle.std.specs.Prelude.{nat_lt}
use Rattle.std.specs.List.{IsAllAdjacentAnswer}
use Rattle.std.proofs.lemmas.Bool.{ltb-true}
use Rattle.std.proofs.lemmas.Fn.{always_returns_same}
use Rattle.sq_schema.specs.Family.{FamilyValue}
use Rattle.sq_store.proofs.Order.{rising_adjacent}
use Rattle.sq_store.proofs.blocks.are_sorted.Goals as goal

-- the closure says whether a root key is below the next one
pub returns : goal.returns
returns c =
    let families = c.args.families.now in
    let less = λ (family next : FamilyValue). nat_lt family.root next.root in
    let told : IsAllAdjacentAnswer (λ family next b. b ≡ less family next) families c.is_sorted_by.result = c.is_sorted_by.ensures.cases less (always_returns_same _ _ _ (λ a r f k. search rules)) in
    λ sorted.
    let adjacent = subst (λ b. IsAllAdjacentAnswer (λ (family next : FamilyValue) answer. answer ≡ less family next) families b) sorted told in
    rising_adjacent families (λ k d within. ltb-true _ _ (sym (adjacent k d within)))

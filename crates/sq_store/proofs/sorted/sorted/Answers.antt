use Rattle.std.proofs.Common.{rules}
use Rattle.std.proofs.lemmas.List.Sorted.{answers_always, IsNonDecreasingBy-from_sort}
use Rattle.sq_store.proofs.sorted.sorted.Goals as goal

-- the closure gives a family's root key
pub returns-clause-sorted : goal.returns-clause-sorted
returns-clause-sorted c =
    IsNonDecreasingBy-from_sort (λ family. family.root) c.sort_unstable_by_key.new.self.items
    (c.sort_unstable_by_key.ensures.sorted (λ family. family.root) (answers_always _ _ _ (λ f a r g called. search rules)))

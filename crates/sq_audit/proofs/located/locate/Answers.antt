use Rattle.std.proofs.Common.{rules}
use Rattle.std.proofs.lemmas.List.Sorted.{answers_always, IsPermutation-map, IsNonDecreasingBy-from_sort}
use Rattle.sq_audit.specs.Located.{entry_of, entries_in}
use Rattle.sq_audit.proofs.Listing.{lists_permuted}
use Rattle.sq_audit.proofs.Indexing.{rise_entries}
use Rattle.sq_audit.proofs.located.locate.Goals as goal

pub returns-clause-all : goal.returns-clause-all
returns-clause-all c =
    let old = c.in_ok-all.all.items in
    let new = c.sort_unstable_by_key.new.self.items in
    lists_permuted c.args.g.now (entries_in old) (entries_in new) (IsPermutation-map entry_of old new c.sort_unstable_by_key.ensures.permutation) c.in_ok-all.ensures

pub returns-clause-rise : goal.returns-clause-rise
returns-clause-rise c =
    let new = c.sort_unstable_by_key.new.self.items in
    rise_entries new (IsNonDecreasingBy-from_sort (λ located. located.family.now.root) new (c.sort_unstable_by_key.ensures.sorted (λ located. located.family.now.root) (answers_always _ _ _ (λ f a r g called. search rules))))

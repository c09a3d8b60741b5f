use Rattle.std.proofs.Common.{rules}
use Rattle.std.proofs.lemmas.List.Sorted.{answers_always}
use Rattle.sq_store.proofs.Places.{searched}
use Rattle.sq_store.proofs.sorted.place.Goals as goal

-- the closure gives a family's root key
pub returns : goal.returns
returns c =
    let search_by_key = c.binary_search_by_key.ensures in
    searched c.args.families.now c.args.root c.binary_search_by_key.result c.requires search_by_key.bound (search_by_key.position (λ family. family.root) (answers_always _ _ _ (λ f a r g called. search rules)))

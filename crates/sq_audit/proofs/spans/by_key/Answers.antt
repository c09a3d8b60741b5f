use Rattle.std.proofs.Common.{rules, ◌≡◌, List, IsPermutation, ap, ◌∙◌, subst}
use Rattle.std.specs.List.{flat_map}
use Rattle.std.proofs.lemmas.List.{take_all}
use Rattle.std.proofs.lemmas.List.Sorted.{answers_always, IsPermutation-map, IsNonDecreasingBy-from_sort}
use Rattle.sq_audit.specs.Spans.{Marked, marked_of, marked_in, notes_of}
use Rattle.sq_audit.proofs.Spanning.{rise_marked}
use Rattle.sq_audit.proofs.spans.by_key.Goals as goal

pub returns-clause-all : goal.returns-clause-all
returns-clause-all c =
    let old = c.loop-link.spans.items in
    let new = c.sort_by_key.new.self.items in
    let all : marked_in old ≡ flat_map notes_of c.args.links.now = c.loop-link.invariant ∙ ap (flat_map notes_of) (take_all c.loop-link.link-index c.args.links.now c.loop-link-test.false) in
    subst (λ (notes : List Marked). IsPermutation notes (marked_in new)) all (IsPermutation-map marked_of old new c.in_ok-sort_by_key.ensures.permutation)

pub returns-clause-sorted : goal.returns-clause-sorted
returns-clause-sorted c =
    let new = c.sort_by_key.new.self.items in
    rise_marked new (IsNonDecreasingBy-from_sort (λ span. span.note.now.lo) new (c.in_ok-sort_by_key.ensures.sorted (λ span. span.note.now.lo) (answers_always _ _ _ (λ f a r g called. search rules))))

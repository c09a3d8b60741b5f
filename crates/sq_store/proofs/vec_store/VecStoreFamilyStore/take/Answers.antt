use Rattle.std.proofs.Common.{refl, ◌≡◌, ◌+◌, ◌++◌, ◌≤◌, sym, ap, subst, take, drop, ◌∙◌, arith}
use Rattle.std.specs.Prelude.{slice_range}
use Rattle.sq_store.specs.InOrder.{are_within}
use Rattle.sq_store.specs.Counting.{chunk_count, root_after}
use Rattle.sq_store.specs.Listed.{roots_rise, store_of, IsStart}
use Rattle.sq_store.proofs.Places.{starts_rise}
use Rattle.sq_store.proofs.Cuts.{IsCut, is_cut, count_fits}
use Rattle.sq_store.proofs.vec_store.VecStoreFamilyStore.take.Goals as goal
use Rattle.sq_store.proofs.vec_store.VecStoreFamilyStore.take.Goals.{After-start-last, After-chunk_count-count, After-root_at-end}

low : (c : After-start-last) → IsStart c.self.inside.families.items c.args.extent.lo c.start-first.result
low c = subst (λ fs. IsStart fs c.args.extent.lo c.start-first.result) c.deref.ensures.value c.start-first.ensures

high : (c : After-start-last) → IsStart c.self.inside.families.items c.max.result c.start-last.result
high c = subst (λ fs. IsStart fs c.max.result c.start-last.result) c.deref-2.ensures.value c.start-last.ensures

rise : (c : After-start-last) → c.start-first.result ≤ c.start-last.result
rise c = starts_rise c.self.inside.families.items c.args.extent.lo c.max.result c.start-first.result c.start-last.result (omega (arith, c.max.ensures)) (low c) (high c)

counted : (c : After-chunk_count-count) → c.chunk_count-count.result ≡ chunk_count c.args.limit (slice_range c.self.inside.families.items c.start-first.result c.start-last.result)
counted c = c.chunk_count-count.ensures ∙ ap (λ fs. chunk_count c.args.limit (slice_range fs c.start-first.result c.start-last.result)) c.deref-3.ensures.value

pub slice_bounds-rest-count : goal.slice_bounds-rest-count
slice_bounds-rest-count c = rise (goal.at.slice_bounds-rest-count c).After-start-last

pub slice_bounds-rest-start : goal.slice_bounds-rest-start
slice_bounds-rest-start c = rise (goal.at.slice_bounds-rest-start c).After-start-last

pub take_out-requires : goal.take_out-requires
take_out-requires c =
    let s = (goal.at.take_out-requires c).After-start-last in
    let n = (goal.at.take_out-requires c).After-chunk_count-count in
    let families = c.self.inside.families in
    let within = (high s).within in
    let fits = count_fits families.items c.start-first.result c.start-last.result c.args.limit c.chunk_count-count.result (rise s) within (counted n) in
    omega (arith, fits, within, families.ok.0)

-- what is taken, and what is left
cut : (c : After-root_at-end) → IsCut c.args.self.now c.args.extent.lo c.args.extent.hi c.args.limit c.root_at-end.result
    (slice_range c.self.inside.families.items c.start-first.result (c.start-first.result + c.chunk_count-count.result))
    (take c.start-first.result c.self.inside.families.items ++ drop (c.start-first.result + c.chunk_count-count.result) c.self.inside.families.items)
cut c =
    let items = c.self.inside.families.items in
    let extent = c.args.extent in
    let first = c.start-first.result in
    let last = c.start-last.result in
    let count = c.chunk_count-count.result in
    let low_at : IsStart items extent.lo first = subst (λ fs. IsStart fs extent.lo first) c.deref.ensures.value c.start-first.ensures in
    let high_at : IsStart items c.max.result last = subst (λ fs. IsStart fs c.max.result last) c.deref-2.ensures.value c.start-last.ensures in
    let counted_is : count ≡ chunk_count c.args.limit (slice_range items first last) = c.chunk_count-count.ensures ∙ ap (λ fs. chunk_count c.args.limit (slice_range fs first last)) c.deref-3.ensures.value in
    let ended : c.root_at-end.result ≡ root_after extent.hi (slice_range items first last) count = c.root_at-end.ensures ∙ ap (λ fs. root_after extent.hi (slice_range fs first last) count) c.deref-3.ensures.value in
    subst (λ end. IsCut c.args.self.now extent.lo extent.hi c.args.limit end (slice_range items first (first + count)) (take first items ++ drop (first + count) items)) (sym ended)
    (is_cut c.args.self.now items extent.lo extent.hi c.max.result c.args.limit first last count c.self.invariant c.self.view_is low_at high_at
    (λ rises. omega (arith, c.max.ensures)) (λ falls. omega (arith, c.max.ensures)) counted_is)

pub invariant_of-self-2 : goal.invariant_of-self-2
invariant_of-self-2 c = ap roots_rise c.in_ok-families.ensures.left ∙ (cut (goal.at.invariant_of-self-2 c).After-root_at-end).left_is.rising

pub returns-clause-cut : goal.returns-clause-cut
returns-clause-cut c =
    let is = cut (goal.at.returns-clause-cut c).After-root_at-end in
    record { end = is.ends; last = refl; families = c.in_ok-families.ensures.taken ∙ is.taken_is }

pub returns-clause-store : goal.returns-clause-store
returns-clause-store c = ap store_of c.in_ok-families.ensures.left ∙ sym (cut (goal.at.returns-clause-store c).After-root_at-end).left_is.same

pub returns-clause-from : goal.returns-clause-from
returns-clause-from c = (cut (goal.at.returns-clause-from c).After-root_at-end).from

pub returns-clause-upto : goal.returns-clause-upto
returns-clause-upto c = (cut (goal.at.returns-clause-upto c).After-root_at-end).upto

pub returns-clause-within : goal.returns-clause-within
returns-clause-within c = ap (are_within c.args.extent.lo c.root_at-end.result) c.in_ok-families.ensures.taken ∙ (cut (goal.at.returns-clause-within c).After-root_at-end).within

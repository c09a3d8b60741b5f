use Rattle.std.proofs.Common.{rules, sym, subst}
use Rattle.std.proofs.lemmas.List.Sorted.{answers_always, IsNonDecreasingBy-from_sort}
use Rattle.sq_audit.specs.ById.{listed_id}
use Rattle.sq_audit.specs.Index.{IsIndexTo}
use Rattle.sq_audit.specs.Told.{id_of}
use Rattle.sq_audit.proofs.Indexing.{index_none, index_next, index_whole}
use Rattle.sq_audit.proofs.Listing.{item_at}
use Rattle.sq_audit.proofs.posted.by_id.Goals as goal

pub loop-at-init : goal.loop-at-init
loop-at-init c = subst (IsIndexTo id_of c.args.jobs.now 0) (sym c.in_ok-places.ensures.items) (index_none id_of c.args.jobs.now)

pub loop-at-preserved : goal.loop-at-preserved
loop-at-preserved c =
    let jobs = c.args.jobs.now in
    let at = c.loop-at.at in
    let job = c.index-jobs-at.result in
    index_next id_of jobs at c.id.result c.loop-at.places.items c.push.new.self.items job (item_at jobs at job c.index-jobs-at.is c.loop-at-test.true) (sym c.id.ensures) c.in_ok-push.ensures.items c.loop-at.invariant

pub returns : goal.returns
returns c =
    let new = c.sort_unstable_by_key.new.self.items in
    index_whole id_of c.args.jobs.now c.loop-at.at c.loop-at.places.items new c.loop-at-test.false c.loop-at.invariant c.sort_unstable_by_key.ensures.permutation
    (IsNonDecreasingBy-from_sort listed_id new (c.sort_unstable_by_key.ensures.sorted listed_id (answers_always _ _ _ (λ f a r g called. search rules))))

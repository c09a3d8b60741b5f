use Rattle.std.proofs.Common.{◌≡◌, sym, ap, subst, ◌∙◌}
use Rattle.std.specs.Prelude.{◌≤◌, ◌↔◌, IsErrOf, IfOk, OnErr}
use Rattle.slab.specs.Slab.{with_value}
use Rattle.slab.proofs.SlabLemmas.{Updates-with_value}
use Rattle.sq_schema.specs.declared.fault.ApplyFault.TheVariants.{LogFull}
use Rattle.sq_schema.specs.declared.family.TheConstants.{MAX_LOG}
use Rattle.sq_store.specs.InOrder.{are_within}
use Rattle.sq_store.specs.Listed.{roots_rise, store_of, IsRootAt}
use Rattle.sq_store.specs.StoreValue.{log_length, store_reply, store_after}
use Rattle.sq_store.specs.Runs.{nth_run}
use Rattle.sq_store.proofs.Indexes.{led_at, inside_index, changed_index, changed_view, viewed_families}
use Rattle.sq_store.proofs.runs.Runs.apply.Goals as goal
use Rattle.sq_store.proofs.runs.Runs.apply.Goals.{After-index_mut}

-- the families of the run
items : (c : After-index_mut) → c.index_mut.result.now.items ≡ (nth_run c.args.self.now c.args.run).families
items c =
    let slab = c.self.inside.slab in
    let index = c.self.inside.index.items in
    viewed_families slab index c.args.self.now c.self.view_is c.args.run c.index.result.now c.index_mut.result.now (inside_index slab index c.args.self.now c.self.view_is c.args.run c.requires.run) c.index.ensures c.index_mut.ensures.value

pub index_mut-requires : goal.index_mut-requires
index_mut-requires c =
    let slab = c.self.inside.slab in
    let index = c.self.inside.index.items in
    led_at slab index c.args.run c.index.result.now c.self.invariant (inside_index slab index c.args.self.now c.self.view_is c.args.run c.requires.run) c.index.ensures

pub apply-requires-clause-rise : goal.apply-requires-clause-rise
apply-requires-clause-rise c = ap roots_rise (items (goal.at.apply-requires-clause-rise c).After-index_mut) ∙ c.requires.rise

pub apply-requires-clause-here : goal.apply-requires-clause-here
apply-requires-clause-here c =
    subst (λ fs. IsRootAt fs c.args.txn.now.root c.args.at) (sym (items (goal.at.apply-requires-clause-here c).After-index_mut)) c.requires.here

pub invariant_of-self : goal.invariant_of-self
invariant_of-self c =
    let slab = c.self.inside.slab in
    let index = c.self.inside.index.items in
    let entry = c.index.result.now in
    let inside = inside_index slab index c.args.self.now c.self.view_is c.args.run c.requires.run in
    changed_index slab (with_value slab entry.key c.apply.new.families) entry c.apply.new.families (Updates-with_value slab entry.key c.apply.new.families (led_at slab index c.args.run entry c.self.invariant inside c.index.ensures))
    index c.args.run c.self.invariant inside c.index.ensures

pub returns-clause-full : goal.returns-clause-full
returns-clause-full c =
    subst (λ fs. IsErrOf c.apply.result LogFull ↔ (MAX_LOG ≤ log_length (store_of fs) c.args.txn.now.root)) (items (goal.at.returns-clause-full c).After-index_mut) c.apply.ensures.full

pub returns-clause-applied : goal.returns-clause-applied
returns-clause-applied c =
    let slab = c.self.inside.slab in
    let index = c.self.inside.index.items in
    let entry = c.index.result.now in
    let inside = inside_index slab index c.args.self.now c.self.view_is c.args.run c.requires.run in
    let own = items (goal.at.returns-clause-applied c).After-index_mut in
    let txn = c.args.txn.now in
    record {
      after = c.apply.new.families.items;
      is = changed_view slab index c.args.self.now c.self.view_is (with_value slab entry.key c.apply.new.families) c.args.run entry c.apply.new.families
          (Updates-with_value slab entry.key c.apply.new.families (led_at slab index c.args.run entry c.self.invariant inside c.index.ensures)) c.self.invariant inside c.index.ensures;
      reply = subst (λ fs. IfOk c.apply.result (λ reply. reply ≡ store_reply (store_of fs) txn)) own c.apply.ensures.reply;
      families = subst (λ fs. IfOk c.apply.result (λ reply. store_of c.apply.new.families.items ≡ store_after (store_of fs) txn reply)) own c.apply.ensures.families;
      within = λ lo hi within. c.apply.ensures.within lo hi (ap (are_within lo hi) own ∙ within);
      err = subst (λ fs. OnErr c.apply.result (c.apply.new.families.items ≡ fs)) own c.apply.ensures.err;
    }

use Rattle.std.proofs.Common.{◌≡◌, sym, subst}
use Rattle.std.specs.Prelude.{◌≤◌, ◌↔◌, length, IfOk, IsErrOf}
use Rattle.sq_schema.specs.declared.fault.ApplyFault.TheVariants.{LogFull}
use Rattle.sq_schema.specs.Effect.{reply}
use Rattle.sq_schema.specs.declared.family.TheConstants.{MAX_LOG}
use Rattle.sq_schema.specs.Family.{rows_of}
use Rattle.sq_store.specs.Listed.{IsRootAt, IsRootGap}
use Rattle.sq_store.proofs.Applies.{family_found, rising_applied, store_applied, family_absent, rising_opened, store_opened, not_full}
use Rattle.sq_store.proofs.vec_store.VecStoreFamilyStore.apply.Goals as goal
use Rattle.sq_store.proofs.vec_store.VecStoreFamilyStore.apply.Goals.{In-Ok, In-Err}

-- the family of the root key is at the place that was found
here : (c : In-Ok) → IsRootAt c.self.inside.families.items c.args.txn.now.root c.in-Ok.at
here c = subst (λ fs. IsRootAt fs c.args.txn.now.root c.in-Ok.at) c.deref.ensures.value (subst (λ root. IsRootAt c.deref.result.now root c.in-Ok.at) c.root.ensures c.in-Ok.ensures)

-- or there is none, and its place is this
gap : (c : In-Err) → IsRootGap c.self.inside.families.items c.args.txn.now.root c.in-Err.at
gap c = subst (λ fs. IsRootGap fs c.args.txn.now.root c.in-Err.at) c.deref.ensures.value (subst (λ root. IsRootGap c.deref.result.now root c.in-Err.at) c.root.ensures c.in-Err.ensures)

pub invariant_of-self : goal.invariant_of-self
invariant_of-self c =
    let at_root = here (goal.at.invariant_of-self c).In-Ok in
    rising_applied c.args.self.now c.self.inside.families.items c.args.txn.now c.in-Ok.at c.self.invariant c.self.view_is at_root c.index_mut.result.now c.apply.new.self c.apply.result c.index_mut.ensures.value c.apply.ensures.family c.apply.ensures.err

pub returns-in-Ok-clause-full : goal.returns-in-Ok-clause-full
returns-in-Ok-clause-full c =
    let at_root = here (goal.at.returns-in-Ok-clause-full c).In-Ok in
    let same = family_found c.args.self.now c.self.inside.families.items c.args.txn.now c.in-Ok.at c.self.invariant c.self.view_is at_root c.index_mut.result.now c.index_mut.ensures.value in
    subst (λ family. IsErrOf c.apply.result LogFull ↔ (MAX_LOG ≤ length family.log)) (sym same) c.apply.ensures.full

pub returns-in-Ok-clause-reply : goal.returns-in-Ok-clause-reply
returns-in-Ok-clause-reply c =
    let at_root = here (goal.at.returns-in-Ok-clause-reply c).In-Ok in
    let same = family_found c.args.self.now c.self.inside.families.items c.args.txn.now c.in-Ok.at c.self.invariant c.self.view_is at_root c.index_mut.result.now c.index_mut.ensures.value in
    subst (λ family. IfOk c.apply.result (λ r. r ≡ reply (rows_of family) c.args.txn.now)) (sym same) c.apply.ensures.reply

pub returns-in-Ok-clause-store : goal.returns-in-Ok-clause-store
returns-in-Ok-clause-store c =
    let at_root = here (goal.at.returns-in-Ok-clause-store c).In-Ok in
    store_applied c.args.self.now c.self.inside.families.items c.args.txn.now c.in-Ok.at c.self.invariant c.self.view_is at_root c.index_mut.result.now c.apply.new.self c.apply.result c.index_mut.ensures.value c.apply.ensures.family

pub invariant_of-self-in-Err : goal.invariant_of-self-in-Err
invariant_of-self-in-Err c =
    let at_gap = gap (goal.at.invariant_of-self-in-Err c).In-Err in
    rising_opened c.args.self.now c.self.inside.families.items c.args.txn.now c.in-Err.at c.self.invariant c.self.view_is at_gap c.open.new.families.items c.open.result c.open.ensures.families c.open.ensures.err

pub returns-in-Err-clause-full : goal.returns-in-Err-clause-full
returns-in-Err-clause-full c =
    let at_gap = gap (goal.at.returns-in-Err-clause-full c).In-Err in
    not_full c.args.self.now c.self.inside.families.items c.args.txn.now c.in-Err.at c.self.invariant c.self.view_is at_gap c.open.result c.open.ensures.memory

pub returns-in-Err-clause-reply : goal.returns-in-Err-clause-reply
returns-in-Err-clause-reply c =
    let at_gap = gap (goal.at.returns-in-Err-clause-reply c).In-Err in
    let none = family_absent c.args.self.now c.self.inside.families.items c.args.txn.now c.in-Err.at c.self.invariant c.self.view_is at_gap in
    subst (λ family. IfOk c.open.result (λ r. r ≡ reply (rows_of family) c.args.txn.now)) (sym none) c.open.ensures.reply

pub returns-in-Err-clause-store : goal.returns-in-Err-clause-store
returns-in-Err-clause-store c =
    let at_gap = gap (goal.at.returns-in-Err-clause-store c).In-Err in
    store_opened c.args.self.now c.self.inside.families.items c.args.txn.now c.in-Err.at c.self.invariant c.self.view_is at_gap c.open.new.families.items c.open.result c.open.ensures.families

use Rattle.std.proofs.Common.{◌≡◌, ◌≤◌, length, refl, sym, ap, subst, arith}
use Rattle.std.specs.Prelude.{◌↔◌, IfOk, IsErrOf}
use Rattle.sq_schema.specs.declared.fault.ApplyFault.TheVariants.{LogFull}
use Rattle.sq_schema.specs.Effect.{reply}
use Rattle.sq_schema.specs.declared.family.TheConstants.{MAX_LOG}
use Rattle.sq_schema.specs.Family.{FamilyValue, rows_of}
use Rattle.sq_store.specs.Listed.{store_of}
use Rattle.sq_store.specs.StoreValue.{family_at}
use Rattle.sq_store.proofs.Applies.{root_kept, family_found, rising_applied, store_applied}
use Rattle.sq_store.proofs.Within.{within_each}
use Rattle.sq_store.proofs.RunApplies.{within_set}
use Rattle.sq_store.proofs.family_run.apply.Goals as goal
use Rattle.sq_store.proofs.family_run.apply.Goals.{After-apply}

-- the family at the place is the one that the transaction runs on
same : (c : After-apply) → family_at (store_of c.args.families.now.items) c.args.txn.now.root ≡ c.index_mut.result.now
same c = family_found (store_of c.args.families.now.items) c.args.families.now.items c.args.txn.now c.args.at c.requires.rise refl c.requires.here c.index_mut.result.now c.index_mut.ensures.value

pub returns-clause-full : goal.returns-clause-full
returns-clause-full c =
    let s = (goal.at.returns-clause-full c).After-apply in
    subst (λ (family : FamilyValue). IsErrOf c.apply.result LogFull ↔ (MAX_LOG ≤ length family.log)) (sym (same s)) c.apply.ensures.full

pub returns-clause-reply : goal.returns-clause-reply
returns-clause-reply c =
    let s = (goal.at.returns-clause-reply c).After-apply in
    subst (λ family. IfOk c.apply.result (λ r. r ≡ reply (rows_of family) c.args.txn.now)) (sym (same s)) c.apply.ensures.reply

pub returns-clause-families : goal.returns-clause-families
returns-clause-families c =
    let items = c.args.families.now.items in
    store_applied (store_of items) items c.args.txn.now c.args.at c.requires.rise refl c.requires.here c.index_mut.result.now c.apply.new.self c.apply.result c.index_mut.ensures.value c.apply.ensures.family

pub returns-clause-within : goal.returns-clause-within
returns-clause-within c = λ lo hi within.
    let items = c.args.families.now.items in
    let old = c.index_mut.result.now in
    let now = c.apply.new.self in
    let rising = rising_applied (store_of items) items c.args.txn.now c.args.at c.requires.rise refl c.requires.here old now c.apply.result c.index_mut.ensures.value c.apply.ensures.family c.apply.ensures.err in
    let each = within_each lo hi items within c.args.at old c.requires.here.within in
    let root : now.root ≡ old.root = root_kept old now c.args.txn.now c.apply.result c.apply.ensures.family c.apply.ensures.err in
    let read = ap (λ (f : FamilyValue). f.root) c.index_mut.ensures.value in
    within_set lo hi items within c.args.at now rising (omega (arith, each.0, root, read)) (omega (arith, each.1, root, read))

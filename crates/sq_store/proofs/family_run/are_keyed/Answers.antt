use Rattle.std.proofs.Common.{◌≡◌, subst}
use Rattle.std.specs.Prelude.{All}
use Rattle.std.proofs.lemmas.List.Elements.{All-more}
use Rattle.sq_schema.specs.TxnValue.{TxnValue}
use Rattle.sq_schema.specs.Family.{FamilyValue}
use Rattle.sq_store.proofs.family_run.are_keyed.Goals as goal

pub loop-family-preserved : goal.loop-family-preserved
loop-family-preserved c =
    let family = c.family-item.result in
    let own : All (λ (txn : TxnValue). txn.root ≡ family.root) family.log = c.position.ensures.own in
    All-more (λ (f : FamilyValue). All (λ (txn : TxnValue). txn.root ≡ f.root) f.log) c.args.families.now c.loop-family.family-index family c.loop-family-test.true c.loop-family.invariant
    (subst (λ (f : FamilyValue). All (λ (txn : TxnValue). txn.root ≡ f.root) f.log) c.family-item.is own)

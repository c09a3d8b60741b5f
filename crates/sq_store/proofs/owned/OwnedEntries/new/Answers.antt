use Rattle.std.proofs.Common.{◌∙◌, sym, subst, true≢false}
use Rattle.sq_schema.specs.Table.{TableValue}
use Rattle.sq_store.specs.Opened.{IsSuffix}
use Rattle.sq_store.proofs.Suffixes.{suffix_all}
use Rattle.sq_store.proofs.owned.OwnedEntries.new.Goals as goal

pub invariant_of-result : goal.invariant_of-result
invariant_of-result c = (
  λ key holding. absurd (true≢false (sym holding ∙ c.no_root_keys.ensures key)),
  subst (λ (entries : TableValue). IsSuffix entries c.args.table.now) (sym c.iter.ensures.all) (suffix_all c.args.table.now),
  c.iter.ensures.rising,
  c.iter.ensures.roots,
)

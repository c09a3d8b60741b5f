use Rattle.std.proofs.Common.{◌≡◌, [], ◌∷◌, ◌++◌, ℕ, true, map, sym, ap, subst, ◌∙◌, arith, rules, append-nil, append_assoc}
use Rattle.std.specs.Prelude.{◌+◌, ◌≤◌}
use Rattle.std.specs.Ordering.{nat_cmp}
use Rattle.std.specs.FinMap.{empty}
use Rattle.std.specs.FinMap.Entries.{is_sorted}
use Rattle.sq_schema.specs.declared.root.TheConstants.{ROOT_END}
use Rattle.sq_schema.specs.Effect.{RowList}
use Rattle.sq_schema.specs.Family.{FamilyValue}
use Rattle.sq_schema.specs.Table.{TableValue}
use Rattle.sq_store.specs.Opened.{blank, opened_family, owned_entries, opened_families}
use Rattle.sq_store.specs.StoreValue.{with_families}
use Rattle.sq_store.proofs.Opened.{next_kept}
use Rattle.sq_store.specs.Runs.{families_in_runs, AreRuns}
use Rattle.sq_store.proofs.Blanks.{owned_blank}
use Rattle.sq_store.proofs.InRuns.{runs_raised, runs_rise}
use Rattle.sq_store.proofs.Lifts.{store_of_given}
use Rattle.sq_store.proofs.OpenedRuns.{first_key, next_key, rest_rises, owned_rise}
use Rattle.sq_store.proofs.slab_store.SlabStore.opened_blank.Goals as goal

pub loop-root-init : goal.loop-root-init
loop-root-init c =
    let plan = c.args.plan.now in
    let part = c.args.part in
    let table = c.args.table.now in
    let entries = owned_entries plan part table in
    let is : c.into_iter-root-iterator.result ≡ entries = search rules in
    let none = c.new-runs.ensures in (
      tt,
      tt,
      ap (λ runs. families_in_runs runs ++ map opened_family (blank c.into_iter-root-iterator.result)) none
          ∙ ap (λ (own : TableValue). map opened_family (blank own)) is
          ∙ ap (map opened_family) (sym (owned_blank plan part table)),
      subst (AreRuns (first_key c.into_iter-root-iterator.result)) (sym none) tt,
      ap (is_sorted nat_cmp) is ∙ owned_rise plan part table c.new-root-items.ensures.rising,
    )

pub loop-root-preserved : goal.loop-root-preserved
loop-root-preserved c =
    let entry : ℕ × RowList = (c.in-Some.root.now, c.in-Some._rows.now) in
    let rest = c.next.new.self in
    let steps = c.in-Some.ensures.steps in
    let so_far = c.loop-root.invariant in
    let all = opened_families c.args.plan.now c.args.part (blank c.args.table.now) in
    let runs = c.put_behind.new.runs in
    let family : c.empty.result ≡ opened_family (entry.0, []) = c.empty.ensures in
    let rising : is_sorted nat_cmp (entry ∷ rest) ≡ true = ap (is_sorted nat_cmp) (sym steps) ∙ so_far.4 in
    let own : c.empty.result.root ≡ entry.0 = ap (λ (f : FamilyValue). f.root) family in
    let upto : c.empty.result.root + 1 ≤ first_key rest = let next = next_key entry rest (omega (arith, c.number.ensures.number, c.number.ensures.bound)) rising in omega (arith, next, own) in (
      tt,
      tt,
      ap (λ fs. fs ++ map opened_family (blank rest)) (c.in_ok-put_behind.ensures.families ∙ ap (λ f. families_in_runs c.loop-root.runs ++ f ∷ []) family)
          ∙ append_assoc (families_in_runs c.loop-root.runs) (opened_family (entry.0, []) ∷ []) (map opened_family (blank rest))
          ∙ next_kept (families_in_runs c.loop-root.runs) all (entry.0, []) (blank rest) (blank c.loop-root.root-iterator) (ap blank steps) so_far.2,
      runs_raised (c.empty.result.root + 1) (first_key rest) runs c.in_ok-put_behind.ensures.runs upto,
      rest_rises entry rest rising,
    )

pub returns : goal.returns
returns c =
    let runs = c.loop-root.runs in
    let none = c.in-None.ensures.steps.0 in
    let are : AreRuns ROOT_END runs = subst (λ entries. AreRuns (first_key entries) runs) none c.loop-root.invariant.3 in
    let all : families_in_runs runs ≡ opened_families c.args.plan.now c.args.part (blank c.args.table.now) =
    sym (append-nil (families_in_runs runs)) ∙ ap (λ xs. families_in_runs runs ++ xs) (sym (ap (λ (entries : TableValue). map opened_family (blank entries)) none)) ∙ c.loop-root.invariant.2 in
    store_of_given (families_in_runs runs) (runs_rise ROOT_END runs are) ∙ ap (with_families empty) all

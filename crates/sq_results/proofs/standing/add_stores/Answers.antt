use Rattle.std.proofs.Common.{rules, ◌≡◌, ◌+◌, List, ◌++◌, ap, ◌∙◌, sym, arith}
use Rattle.std.specs.List.{flat_map}
use Rattle.std.proofs.lemmas.List.{take_all}
use Rattle.std.proofs.lemmas.Option.{slice_get_within}
use Rattle.sq_store.specs.InOrder.{families_in}
use Rattle.sq_exec.specs.CoreValue.{CoreValue}
use Rattle.sq_results.specs.RowLines.{lent_values}
use Rattle.sq_results.proofs.Lent.{next_lent, place_behind, found_of, none_of}
use Rattle.sq_results.proofs.standing.add_stores.Goals as goal

pub loop-store-smaller : goal.loop-store-smaller
loop-store-smaller c =
    let found = found_of (λ (core : CoreValue). core.store) _ _ c.in-Some.ensures.store in
    let below = slice_get_within c.args.world.now.cores c.loop-store.part found.0 found.1 in
    let next : c.in-Some-checked_add.next ≡ c.loop-store.part + 1 = search rules in
    omega (arith, below, next)

pub loop-store-preserved : goal.loop-store-preserved
loop-store-preserved c =
    let found = found_of (λ (core : CoreValue). core.store) _ _ c.in-Some.ensures.store in
    let below = slice_get_within c.args.world.now.cores c.loop-store.part found.0 found.1 in
    let next : c.in-Some-checked_add.next ≡ c.loop-store.part + 1 = search rules in
    record {
      within = omega (arith, below, next);
      added = next_lent (λ (core : CoreValue). families_in core.store) c.args.world.now.cores c.loop-store.part c.in-Some-checked_add.next found.0 _ _ _ next found.1
          c.loop-store.invariant.added (c.in_ok-add_store.ensures ∙ ap (λ store. lent_values c.loop-store.families.items ++ families_in store) found.2);
    }

pub returns-clause-added : goal.returns-clause-added
returns-clause-added c =
    let all = place_behind c.args.world.now.cores c.loop-store.part c.loop-store.invariant.within (none_of (λ (core : CoreValue). core.store) _ c.in_default.ensures.store) in
    c.loop-store.invariant.added
    ∙ ap (λ (cores : List CoreValue). lent_values c.args.families.now.items ++ flat_map (λ (core : CoreValue). families_in core.store) cores) (take_all c.loop-store.part c.args.world.now.cores (omega (arith, all)))

pub returns-clause-parts : goal.returns-clause-parts
returns-clause-parts c = sym (place_behind c.args.world.now.cores c.loop-store.part c.loop-store.invariant.within (none_of (λ (core : CoreValue). core.store) _ c.in_default.ensures.store))

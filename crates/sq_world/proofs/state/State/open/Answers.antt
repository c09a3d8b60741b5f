use Rattle.std.proofs.Common.{sym, ap, subst, ◌≡◌, ◌∙◌, map, arith}
use Rattle.std.proofs.lemmas.List.{with_items_is}
use Rattle.std.specs.List.{range_with_len}
use Rattle.sq_leader.specs.declared.leader.Leader.TheVariants.{Idle}
use Rattle.sq_exec.specs.CoreValue.{PartCoreValue}
use Rattle.sq_exec.specs.Opened.{blank_part, with_opened, AreBlank}
use Rattle.sq_exec.proofs.Fills.{parts_blank, parts_filled}
use Rattle.sq_world.proofs.Opened.{opened_holds}
use Rattle.sq_world.proofs.state.State.open.Goals as goal
use Rattle.sq_world.proofs.state.State.open.Goals.{After-deref_mut}

-- the partitions before the rows are moved
fresh_cores : (c : After-deref_mut) → map (λ (part : PartCoreValue). part.core) c.deref_mut.result.now ≡ map (blank_part c.args.opening) (range_with_len 0 c.args.opening.old.parts)
fresh_cores c = ap (map (λ (part : PartCoreValue). part.core)) c.deref_mut.ensures.value ∙ c.in-Ok.ensures.cores

pub fill_partitions-requires : goal.fill_partitions-requires
fill_partitions-requires c =
    let moved = c.into_parts-parts.ensures in
    let o = c.args.opening in
    let cores = map (blank_part o) (range_with_len 0 o.old.parts) in
    subst (AreBlank c.into_parts-parts.result.old c.into_parts-parts.result.table) (sym (fresh_cores (goal.at.fill_partitions-requires c).After-deref_mut))
    (subst (λ table. AreBlank c.into_parts-parts.result.old table cores) (sym moved.table) (subst (λ plan. AreBlank plan o.table cores) (sym moved.old) (parts_blank o moved.set_up.rising)))

pub returns-clause-opened : goal.returns-clause-opened
returns-clause-opened c =
    let moved = c.into_parts-parts.ensures in
    let fresh = c.in-Ok.ensures in
    let before = fresh_cores (goal.at.returns-clause-opened c).After-deref_mut in
    let after = with_items_is c.in-Ok.fresh.cores c.fill_partitions.new.cores (omega (arith, c.fill_partitions.auto.cores, c.deref_mut.ensures.len)) in
    opened_holds c.args.opening _
    (record {
      old = moved.old;
      new = moved.new;
      recon = moved.recon;
      config = moved.config;
      leader = ap Idle (c.new.ensures ∙ (λ i. record { parts = (moved.old i).parts; recon = fresh.moves i }));
      cores = ap (map (λ (part : PartCoreValue). part.core)) after ∙ c.fill_partitions.ensures ∙ (λ i. map (with_opened (moved.old i) (moved.table i)) (before i)) ∙ parts_filled c.args.opening;
      trees = fresh.trees;
      queues = fresh.queues;
    })
    moved.set_up

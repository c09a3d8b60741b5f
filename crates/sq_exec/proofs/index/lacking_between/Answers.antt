use Rattle.std.proofs.Common.{◌≡◌, ℕ, true, false, ◌||◌, ◌∷◌, [], ◌++◌, map, sym, ap, ◌∙◌}
use Rattle.std.specs.List.{list_any}
use Rattle.std.specs.BTreeMap.{is_at}
use Rattle.std.specs.BTreeSet.{IsKeyInRange}
use Rattle.std.specs.Map.Iter.{deref}
use Rattle.std.specs.declared.ops.Bound.TheVariants.{Included, Excluded}
use Rattle.std.proofs.lemmas.List.{map-append}
use Rattle.std.proofs.lemmas.Map.Iter.{iter_end}
use Rattle.std.proofs.lemmas.Map.Views.{All-turn}
use Rattle.sq_exec.specs.Index.{entry_cmp, is_among}
use Rattle.sq_exec.proofs.Ranges.{gone_by, gone_more, lacking_more, between_more, any_between}
use Rattle.sq_exec.proofs.index.lacking_between.Goals as goal

pub loop-entry-preserved : goal.loop-entry-preserved
loop-entry-preserved c =
    let had = c.args.numbers.now in
    let entry = (c.in-Some.entry).now in
    let number : c.entry.inside.number ≡ entry.1 = ap (λ (e : ℕ × ℕ). e.1) c.entry.view_is in
    let items : c.push.new.self.items ≡ c.loop-entry.lacking.items ++ entry.1 ∷ [] = c.in_ok-push.ensures.items ∙ ap (λ n. c.loop-entry.lacking.items ++ n ∷ []) number in
    let off : is_among had entry.1 ≡ false = ap (is_among had) (sym number) ∙ sym c.has.ensures ∙ c.if-has.false in
    let inside =
    All-turn deref (IsKeyInRange entry_cmp (Included (c.args.lo, 0)) (Excluded (c.args.hi, 0)) c.args.by_root.now) c.range-entry-items.result c.loop-entry.yielded c.into_iter-entry-iterator.result c.loop-entry.entry-iterator
    c.next.new.self c.next.result c.in-Some.entry (c.range-entry-items.ensures.in_range tt).0 c.into_iter-entry-iterator.ensures.into_iter_gives c.loop-entry.yielded_by c.in-Some.is c.next.ensures.steps in
    record {
      lacking = λ n among. lacking_more had c.loop-entry.lacking.items entry.1 c.loop-entry.invariant.lacking off n (ap (λ ns. is_among ns n) (sym items) ∙ among);
      between = λ n among. between_more c.args.by_root.now c.args.lo c.args.hi c.loop-entry.lacking.items entry c.loop-entry.invariant.between inside n (ap (λ ns. is_among ns n) (sym items) ∙ among);
      all = λ root n any.
          ap (λ ns. is_among had n || is_among ns n) items
          ∙ gone_more had (map deref c.loop-entry.yielded) entry c.loop-entry.lacking.items c.loop-entry.invariant.all root n
          (ap (list_any (is_at (entry_cmp (root, n)))) (sym (map-append deref c.loop-entry.yielded (c.in-Some.entry ∷ []))) ∙ any);
    }

pub loop-entry-preserved-then-has : goal.loop-entry-preserved-then-has
loop-entry-preserved-then-has c =
    let had = c.args.numbers.now in
    let entry = (c.in-Some.entry).now in
    let there : is_among had entry.1 ≡ true = ap (is_among had) (sym (ap (λ (e : ℕ × ℕ). e.1) c.entry.view_is)) ∙ sym c.has.ensures ∙ c.if-has.true in
    record {
      lacking = c.loop-entry.invariant.lacking;
      between = c.loop-entry.invariant.between;
      all = λ root n any.
          gone_by had (map deref c.loop-entry.yielded) entry c.loop-entry.lacking.items c.loop-entry.invariant.all there root n
          (ap (list_any (is_at (entry_cmp (root, n)))) (sym (map-append deref c.loop-entry.yielded (c.in-Some.entry ∷ []))) ∙ any);
    }

pub returns : goal.returns
returns c =
    let whole =
    iter_end deref c.range-entry-items.result c.loop-entry.yielded c.into_iter-entry-iterator.result c.loop-entry.entry-iterator c.next.new.self c.next.result c.into_iter-entry-iterator.ensures.into_iter_gives c.loop-entry.yielded_by c.in-None.is
    c.next.ensures.steps in
    record {
      lacking = c.loop-entry.invariant.lacking;
      between = c.loop-entry.invariant.between;
      all = λ root n stands between.
          c.loop-entry.invariant.all root n
          (ap (list_any (is_at (entry_cmp (root, n)))) (whole.0 ∙ c.range-entry-items.ensures.between tt) ∙ any_between c.args.by_root.now c.args.lo c.args.hi root n stands between);
    }

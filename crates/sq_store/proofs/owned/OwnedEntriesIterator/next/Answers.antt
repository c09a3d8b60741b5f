use Rattle.std.proofs.Common.{⊎_elim, ◌≡◌, ℕ, ◌+◌, ◌<◌, ◌≤◌, Option, Bor, subst, false, length, sym, ap, ◌∙◌, arith}
use Rattle.std.specs.Prelude.{◌==◌}
use Rattle.std.specs.Map.Iter.{TakesFirst, deref_pair}
use Rattle.std.proofs.lemmas.Bool.{cases_lt}
use Rattle.sq_schema.specs.declared.root.TheConstants.{ROOT_END}
use Rattle.sq_schema.specs.Effect.{RowList}
use Rattle.sq_schema.specs.Table.{TableValue}
use Rattle.sq_store.specs.Opened.{owned_entries, IsSuffix}
use Rattle.sq_store.proofs.Suffixes.{from_on, suffix_behind, one_left_out, range_left_out, range_fewer, none_left_out}
use Rattle.sq_store.proofs.owned.OwnedEntriesIterator.next.Goals as goal
use Rattle.sq_store.proofs.owned.OwnedEntriesIterator.next.Goals.{In-Some, After-self-in-Some-1}

-- what is left behind an entry
rest_suffix : (c : In-Some) → IsSuffix c.next.new.self c.loop-root.self-inside.table.now
rest_suffix c =
    let at = c.loop-root.self-inside in
    let entry : ℕ × RowList = (c.in-Some.root.now, c.in-Some.rows.now) in
    (entry.0 + 1, suffix_behind at.table.now at.left c.next.new.self entry c.loop-root.invariant.rising c.loop-root.invariant.suffix c.in-Some.ensures.steps)

-- what is left once a range is passed over begins behind it
past_range : (c : After-self-in-Some-1) → c.iter_from-self-inside.result ≡ from_on c.range_of-self-inside.result.hi c.loop-root.self-inside.table.now
past_range c = c.iter_from-self-inside.ensures ∙ ap (λ (from : ℕ). from_on from c.loop-root.self-inside.table.now) c.in_ok-next.ensures.1

-- the range belongs to another partition
elsewhere : (c : After-self-in-Some-1) → (c.range_of-self-inside.result.owner == c.loop-root.self-inside.part) ≡ false
elsewhere c = sym c.eq.ensures ∙ c.if-eq.false

pub invariant_of-self : goal.invariant_of-self
invariant_of-self c = (c.range_of-self-inside.ensures.owned, rest_suffix (goal.at.invariant_of-self c).In-Some, c.loop-root.invariant.rising, c.loop-root.invariant.roots)

pub loop-root-smaller : goal.loop-root-smaller
loop-root-smaller c =
    let at = c.loop-root.self-inside in
    let entry : ℕ × RowList = (c.in-Some.root.now, c.in-Some.rows.now) in
    let found = c.range_of-self-inside in
    let end : length c.iter_from-self-inside.result ≡ length (from_on found.result.hi at.table.now) = ap (λ (entries : TableValue). length entries) (past_range c) in
    let less : length (from_on found.result.hi at.table.now) < length at.left =
    range_fewer at.plan.now at.part found.result at.table.now at.left c.next.new.self entry c.loop-root.invariant.rising c.loop-root.invariant.suffix c.in-Some.ensures.steps found.ensures.owned found.ensures.held (elsewhere c) in
    omega (arith, end, less)

pub loop-root-preserved : goal.loop-root-preserved
loop-root-preserved c =
    let at = c.loop-root.self-inside in
    let entry : ℕ × RowList = (c.in-Some.root.now, c.in-Some.rows.now) in
    let found = c.range_of-self-inside in
    record {
      plan = c.loop-root.invariant.plan;
      part = c.loop-root.invariant.part;
      owned =
          ap (owned_entries at.plan.now at.part) (past_range c)
          ∙ sym (range_left_out at.plan.now at.part found.result at.table.now at.left c.next.new.self entry c.loop-root.invariant.rising c.loop-root.invariant.suffix c.in-Some.ensures.steps found.ensures.owned found.ensures.held (elsewhere c))
          ∙ c.loop-root.invariant.owned;
      range = found.ensures.owned;
      suffix = (found.result.hi, past_range c);
      rising = c.loop-root.invariant.rising;
      roots = c.loop-root.invariant.roots;
    }

pub invariant_of-self-in_err-next : goal.invariant_of-self-in_err-next
invariant_of-self-in_err-next c = (c.range_of-self-inside.ensures.owned, rest_suffix (goal.at.invariant_of-self-in_err-next c).In-Some, c.loop-root.invariant.rising, c.loop-root.invariant.roots)

pub returns-in_err-next-clause-steps : goal.returns-in_err-next-clause-steps
returns-in_err-next-clause-steps c =
    let at = c.loop-root.self-inside in
    let entry : ℕ × RowList = (c.in-Some.root.now, c.in-Some.rows.now) in
    let found = c.range_of-self-inside in
    let other : (found.result.owner == at.part) ≡ false = sym c.eq.ensures ∙ c.if-eq.false in
    let past : ROOT_END ≤ found.result.hi = ⊎_elim (λ (low : found.result.hi < ROOT_END). absurd (c.in_err-next.ensures low)) (λ (high : ROOT_END ≤ found.result.hi). high) (cases_lt found.result.hi ROOT_END) in
    let behind = one_left_out at.plan.now at.part found.result at.table.now at.left c.next.new.self entry c.loop-root.invariant.rising c.loop-root.invariant.suffix c.in-Some.ensures.steps found.ensures.owned found.ensures.held other in
    let none = none_left_out at.plan.now at.part found.result at.table.now at.left c.next.new.self entry c.loop-root.invariant.rising c.loop-root.invariant.suffix c.in-Some.ensures.steps found.ensures.owned found.ensures.held other c.loop-root.invariant.roots past in
    subst (λ (result : Option (Bor ℕ × Bor RowList)). TakesFirst deref_pair c.args.self.now result (owned_entries at.plan.now at.part c.next.new.self)) (sym c.from_residual.ensures)
    (sym c.self.view_is ∙ sym c.loop-root.invariant.owned ∙ behind ∙ none, none)

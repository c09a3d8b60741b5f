use Rattle.std.proofs.Common.{◌≡◌, ℕ, ◌-◌, List, ◌++◌, length, take, drop, set, sym, ap, subst, ◌∙◌, arith, length-append, length-set}
use Rattle.std.specs.Prelude.{◌<◌, All, IfOk}
use Rattle.std.proofs.lemmas.List.Elements.{All-append}
use Rattle.sq_schema.specs.declared.root.TheConstants.{ROOT_END}
use Rattle.sq_schema.specs.TxnValue.{TxnValue}
use Rattle.sq_schema.specs.Family.{FamilyValue}
use Rattle.sq_store.specs.InOrder.{AreKeyed}
use Rattle.sq_store.specs.Listed.{roots_rise}
use Rattle.sq_store.specs.StoreValue.{families_between}
use Rattle.sq_store.specs.Run.{Run}
use Rattle.sq_store.specs.Runs.{families_in_runs, store_of_runs, between, outside, AreRuns, IsSpan, IsTakenTo, nth_run, refilled}
use Rattle.sq_store.proofs.SetRuns.{on_ok, on_err, for_err}
use Rattle.sq_store.proofs.TakenChunks.{IsLastRun, last_run, nth_rises, front_of_others, chunk_is, part_runs, either_runs, alone_taken, alone_left, others_before, chunk_left, none_taken, none_left}
use Rattle.sq_store.proofs.taking.take_chunk.Goals as goal

-- the last run that may have any
at_last : (runs : List Run) (lo hi : ℕ) (ends : ℕ × ℕ) → IsSpan runs lo hi ends.0 ends.1 → ends.0 < ends.1 → IsLastRun runs lo hi ends.0 ends.1 (ends.1 - 1)
at_last runs lo hi ends span some = last_run runs lo hi ends.0 ends.1 (ends.1 - 1) span some (omega (arith, some))

-- where no run may have any
pub returns-then-last-first-clause-taken : goal.returns-then-last-first-clause-taken
returns-then-last-first-clause-taken c =
    let s = c.runs_between-first.ensures in
    let same : c.runs_between-first.result.0 ≡ c.runs_between-first.result.1 = let r = s.rise in omega (arith, r, c.if-last-first.true) in
    c.new.ensures.items
    ∙ none_taken c.args.runs.now c.args.lo c.args.hi c.runs_between-first.result.0 c.requires.runs s.before (ap (λ n. between c.args.lo c.args.hi (families_in_runs (drop n c.args.runs.now))) same ∙ s.after)

pub returns-then-last-first-clause-store : goal.returns-then-last-first-clause-store
returns-then-last-first-clause-store c =
    let s = c.runs_between-first.ensures in
    let same : c.runs_between-first.result.0 ≡ c.runs_between-first.result.1 = let r = s.rise in omega (arith, r, c.if-last-first.true) in
    none_left c.args.runs.now c.args.lo c.args.hi c.runs_between-first.result.0 c.requires.runs s.before (ap (λ n. between c.args.lo c.args.hi (families_in_runs (drop n c.args.runs.now))) same ∙ s.after)

pub families-requires : goal.families-requires
families-requires c = (at_last c.args.runs.now c.args.lo c.args.hi c.runs_between-first.result c.runs_between-first.ensures c.if-last-first.false).inside

pub between-part-requires-clause-rise : goal.between-part-requires-clause-rise
between-part-requires-clause-rise c =
    let l = at_last c.args.runs.now c.args.lo c.args.hi c.runs_between-first.result c.runs_between-first.ensures c.if-last-first.false in
    ap roots_rise c.families.ensures ∙ nth_rises c.args.runs.now (c.runs_between-first.result.1 - 1) c.requires.runs l.inside

-- where the last run has all of the chunk
pub detach_at-requires-clause-at : goal.detach_at-requires-clause-at
detach_at-requires-clause-at c = (at_last c.args.runs.now c.args.lo c.args.hi c.runs_between-first.result c.runs_between-first.ensures c.if-last-first.false).inside

pub detach_at-requires-clause-rise : goal.detach_at-requires-clause-rise
detach_at-requires-clause-rise c =
    let l = at_last c.args.runs.now c.args.lo c.args.hi c.runs_between-first.result c.runs_between-first.ensures c.if-last-first.false in
    nth_rises c.args.runs.now (c.runs_between-first.result.1 - 1) c.requires.runs l.inside

pub returns-then-part-count-clause-taken : goal.returns-then-part-count-clause-taken
returns-then-part-count-clause-taken c =
    let runs = c.args.runs.now in
    let lo = c.args.lo in
    let hi = c.args.hi in
    let at = c.runs_between-first.result.1 - 1 in
    let l = at_last runs lo hi c.runs_between-first.result c.runs_between-first.ensures c.if-last-first.false in
    let alone : length (families_between (store_of_runs runs) lo hi) ≡ length (between lo hi (nth_run runs at).families) =
    omega (arith, c.requires.count, c.if-part-count.true, ap length c.between-part.ensures, ap (λ fs. length (between lo hi fs)) c.families.ensures) in
    subst (λ fs. IfOk c.detach_at.result (λ taken. taken.items ≡ fs)) (alone_taken runs lo hi at c.requires.runs l.inside l.after alone) c.detach_at.ensures.taken

pub returns-then-part-count-clause-store : goal.returns-then-part-count-clause-store
returns-then-part-count-clause-store c =
    let runs = c.args.runs.now in
    let lo = c.args.lo in
    let hi = c.args.hi in
    let at = c.runs_between-first.result.1 - 1 in
    let l = at_last runs lo hi c.runs_between-first.result c.runs_between-first.ensures c.if-last-first.false in
    let alone : length (families_between (store_of_runs runs) lo hi) ≡ length (between lo hi (nth_run runs at).families) =
    omega (arith, c.requires.count, c.if-part-count.true, ap length c.between-part.ensures, ap (λ fs. length (between lo hi fs)) c.families.ensures) in
    on_ok c.detach_at.result
    (λ (left : c.detach_at.new.runs ≡ set runs at (refilled runs at (outside lo hi (nth_run runs at).families))). ap store_of_runs left ∙ alone_left runs lo hi at c.requires.runs l.inside l.after alone)
    c.detach_at.ensures.left

pub returns-then-part-count-clause-runs : goal.returns-then-part-count-clause-runs
returns-then-part-count-clause-runs c =
    let runs = c.args.runs.now in
    let at = c.runs_between-first.result.1 - 1 in
    let l = at_last runs c.args.lo c.args.hi c.runs_between-first.result c.runs_between-first.ensures c.if-last-first.false in
    either_runs runs c.args.lo c.args.hi at c.requires.runs l.inside l.after c.detach_at.new.runs c.detach_at.result c.detach_at.ensures.left c.detach_at.ensures.err

pub returns-then-part-count-clause-err : goal.returns-then-part-count-clause-err
returns-then-part-count-clause-err c = on_err c.detach_at.result (λ (same : c.detach_at.new.runs ≡ c.args.runs.now). ap families_in_runs same) c.detach_at.ensures.err

-- where other runs have a part of it
pub detach_at-requires-2-clause-rise : goal.detach_at-requires-2-clause-rise
detach_at-requires-2-clause-rise c =
    let l = at_last c.args.runs.now c.args.lo c.args.hi c.runs_between-first.result c.runs_between-first.ensures c.if-last-first.false in
    nth_rises c.args.runs.now (c.runs_between-first.result.1 - 1) c.requires.runs l.inside

pub returns-in_err-rest-clause-runs : goal.returns-in_err-rest-clause-runs
returns-in_err-rest-clause-runs c = subst (AreRuns ROOT_END) (sym c.in_err-rest.ensures.err) c.requires.runs

pub returns-in_err-rest-clause-err : goal.returns-in_err-rest-clause-err
returns-in_err-rest-clause-err c = for_err c.from_residual-in_err-rest.result (ap families_in_runs c.in_err-rest.ensures.err)

pub take_runs-requires-clause-runs : goal.take_runs-requires-clause-runs
take_runs-requires-clause-runs c =
    let runs = c.args.runs.now in
    let at = c.runs_between-first.result.1 - 1 in
    let l = at_last runs c.args.lo c.args.hi c.runs_between-first.result c.runs_between-first.ensures c.if-last-first.false in
    subst (AreRuns ROOT_END) (sym c.in_ok-rest.ensures.left) (part_runs runs c.args.lo c.args.hi at c.requires.runs l.inside l.after)

pub take_runs-requires-clause-last : goal.take_runs-requires-clause-last
take_runs-requires-clause-last c =
    let runs = c.args.runs.now in
    let at = c.runs_between-first.result.1 - 1 in
    let l = at_last runs c.args.lo c.args.hi c.runs_between-first.result c.runs_between-first.ensures c.if-last-first.false in
    let inside = l.inside in
    omega (arith, inside, ap length c.in_ok-rest.ensures.left, length-set runs at (refilled runs at (outside c.args.lo c.args.hi (nth_run runs at).families)))

pub take_runs-requires-clause-before : goal.take_runs-requires-clause-before
take_runs-requires-clause-before c =
    let runs = c.args.runs.now in
    let first = c.runs_between-first.result.0 in
    let at = c.runs_between-first.result.1 - 1 in
    let l = at_last runs c.args.lo c.args.hi c.runs_between-first.result c.runs_between-first.ensures c.if-last-first.false in
    let other : Run = refilled runs at (outside c.args.lo c.args.hi (nth_run runs at).families) in
    ap (λ rs. between c.args.lo c.args.hi (families_in_runs rs)) (ap (take first) c.in_ok-rest.ensures.left ∙ front_of_others runs at first other l.upto) ∙ c.runs_between-first.ensures.before

pub take_runs-requires-clause-room : goal.take_runs-requires-clause-room
take_runs-requires-clause-room c =
    let runs = c.args.runs.now in
    let lo = c.args.lo in
    let hi = c.args.hi in
    let at = c.runs_between-first.result.1 - 1 in
    let l = at_last runs lo hi c.runs_between-first.result c.runs_between-first.ensures c.if-last-first.false in
    let front = ap (λ rs. length (between lo hi (families_in_runs rs))) (ap (take at) c.in_ok-rest.ensures.left ∙ others_before runs lo hi at c.requires.runs l.inside l.after) in
    omega (
      arith,
      front,
      c.in_ok-taken.ensures.len,
      c.in_ok-taken.ensures.capacity,
      c.requires.count,
      ap length (chunk_is runs lo hi at c.requires.runs l.inside l.after),
      length-append (between lo hi (families_in_runs (take at runs))) (between lo hi (nth_run runs at).families),
    )

pub take_runs-requires-clause-rise : goal.take_runs-requires-clause-rise
take_runs-requires-clause-rise c = (at_last c.args.runs.now c.args.lo c.args.hi c.runs_between-first.result c.runs_between-first.ensures c.if-last-first.false).upto

-- there is room for the part of the last run
pub unreachable-requires : goal.unreachable-requires
unreachable-requires c =
    let runs = c.args.runs.now in
    let lo = c.args.lo in
    let hi = c.args.hi in
    let at = c.runs_between-first.result.1 - 1 in
    let l = at_last runs lo hi c.runs_between-first.result c.runs_between-first.ensures c.if-last-first.false in
    let front = ap (λ rs. length (between lo hi (families_in_runs rs))) (ap (take at) c.in_ok-rest.ensures.left ∙ others_before runs lo hi at c.requires.runs l.inside l.after) in
    let full = c.in_default.ensures.full in
    omega (
      arith,
      full,
      front,
      c.in_ok-taken.ensures.len,
      c.in_ok-taken.ensures.capacity,
      c.requires.count,
      ap length (chunk_is runs lo hi at c.requires.runs l.inside l.after),
      length-append (between lo hi (families_in_runs (take at runs))) (between lo hi (nth_run runs at).families),
      ap length c.take_runs.ensures.taken,
      length-append c.in_ok-taken.taken.items (between lo hi (families_in_runs (take at c.detach_at-2.new.runs))),
      c.take_runs.ensures.capacity,
      c.take_runs.new.taken.ok.0,
      c.in_ok-taken.taken.ok.0,
      ap length c.in_ok-rest.ensures.taken,
      c.in_ok-rest.rest.ok.0,
    )

pub returns-clause-taken : goal.returns-clause-taken
returns-clause-taken c =
    let runs = c.args.runs.now in
    let lo = c.args.lo in
    let hi = c.args.hi in
    let at = c.runs_between-first.result.1 - 1 in
    let l = at_last runs lo hi c.runs_between-first.result c.runs_between-first.ensures c.if-last-first.false in
    let front = ap (take at) c.in_ok-rest.ensures.left ∙ others_before runs lo hi at c.requires.runs l.inside l.after in
    let first = c.take_runs.ensures.taken ∙ (λ i. c.in_ok-taken.ensures.items i ++ between lo hi (families_in_runs (front i))) in
    c.in-Ok.ensures.items ∙ (λ i. first i ++ c.in_ok-rest.ensures.taken i) ∙ sym (chunk_is runs lo hi at c.requires.runs l.inside l.after)

pub returns-clause-store : goal.returns-clause-store
returns-clause-store c =
    let runs = c.args.runs.now in
    let lo = c.args.lo in
    let hi = c.args.hi in
    let at = c.runs_between-first.result.1 - 1 in
    let l = at_last runs lo hi c.runs_between-first.result c.runs_between-first.ensures c.if-last-first.false in
    chunk_left runs lo hi at c.requires.runs l.inside l.after c.take_runs.new.runs (subst (λ rs. IsTakenTo rs lo hi at c.take_runs.new.runs) c.in_ok-rest.ensures.left c.take_runs.ensures.left)

pub returns-clause-runs : goal.returns-clause-runs
returns-clause-runs c = c.take_runs.ensures.left.runs

pub returns-clause-keyed : goal.returns-clause-keyed
returns-clause-keyed c =
    let none : AreKeyed c.in_ok-taken.taken.items = subst AreKeyed (sym c.in_ok-taken.ensures.items) (λ k d inside. absurd (omega arith)) in
    subst AreKeyed (sym c.in-Ok.ensures.items)
    (All-append (λ (family : FamilyValue). All (λ (txn : TxnValue). txn.root ≡ family.root) family.log) c.take_runs.new.taken.items c.in_ok-rest.rest.items (c.take_runs.ensures.keyed none) c.in_ok-rest.ensures.keyed)

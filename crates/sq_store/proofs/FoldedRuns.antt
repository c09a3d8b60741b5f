-- Runs whose families are folded, and runs without those that have no family.
use Rattle.std.proofs.Common.{subst, ◌≡◌, ℕ, Bool, true, false, List, [], ◌∷◌, ◌++◌, length, get_or, set, take, drop, append-nil, length-drop, length-set, refl, sym, ap, ◌∙◌, arith, true≢false}
use Rattle.std.specs.Prelude.{◌+◌, ◌<◌, ◌≤◌, ◌==◌, not, cond, map, filter}
use Rattle.std.proofs.lemmas.Bool.{eqb-true}
use Rattle.std.proofs.lemmas.Grind.{take_at_read, take-set_at, drop-set_at}
use Rattle.std.proofs.lemmas.List.{map-append, nil_from_length, drop-drop, get_or-drop}
use Rattle.std.proofs.lemmas.List.Elements.{filter-append}
use Rattle.sq_schema.specs.declared.root.TheConstants.{ROOT_END}
use Rattle.sq_schema.specs.Family.{FamilyValue, rows_of, folded}
use Rattle.sq_store.specs.Run.{Run, has_families}
use Rattle.sq_store.specs.InOrder.{are_within}
use Rattle.sq_store.specs.Listed.{folded_families}
use Rattle.sq_store.specs.Runs.{families_in_runs, first_bound, AreRuns}
use Rattle.sq_store.proofs.Rising.{rises}
use Rattle.sq_store.proofs.InRuns.{run_at, read_at, run_stands, run_replaced, families_append}
use Rattle.sq_store.proofs.SetRuns.{set_run}
use Rattle.sq_store.proofs.Within.{within_cons, within_wider}

pub folded_append : (front back : List FamilyValue) → folded_families (front ++ back) ≡ folded_families front ++ folded_families back
folded_append front back =
    ap (map folded) (filter-append (λ family. not (length (rows_of family) == 0)) front back)
    ∙ map-append folded (filter (λ family. not (length (rows_of family) == 0)) front) (filter (λ family. not (length (rows_of family) == 0)) back)

pub folded_within : (lo hi : ℕ) (families : List FamilyValue) → are_within lo hi families ≡ true → are_within lo hi (folded_families families) ≡ true
folded_within lo hi [] within = refl
folded_within lo hi (family ∷ families) within =
    let r = rises lo hi family families within in
    let rest = folded_within (family.root + 1) hi families r.rest in
    by_test (not (length (rows_of family) == 0))
    (within_cons lo hi (folded family) (folded_families families) r.low r.high rest)
    (within_wider (family.root + 1) hi lo hi (folded_families families) rest (omega (arith, r.low)) (omega arith))
  where
    by_test : (b : Bool) → are_within lo hi (folded family ∷ folded_families families) ≡ true → are_within lo hi (folded_families families) ≡ true
        → are_within lo hi (map folded (cond b (family ∷ filter (λ f. not (length (rows_of f) == 0)) families) (filter (λ f. not (length (rows_of f) == 0)) families))) ≡ true
    by_test true some none = some
    by_test false some none = none

not_false : (b : Bool) → not b ≡ false → b ≡ true
not_false true h = refl
not_false false h = absurd (true≢false h)

pub families_kept : (runs : List Run) → families_in_runs (filter has_families runs) ≡ families_in_runs runs
families_kept [] = refl
families_kept (run ∷ runs) = by_test (has_families run) refl (families_kept runs)
  where
    by_test : (b : Bool) → has_families run ≡ b → families_in_runs (filter has_families runs) ≡ families_in_runs runs → families_in_runs (cond b (run ∷ filter has_families runs) (filter has_families runs)) ≡ run.families ++ families_in_runs runs
    by_test true some rest = ap (λ fs. run.families ++ fs) rest
    by_test false none rest =
        let empty : run.families ≡ [] = nil_from_length run.families (eqb-true (length run.families) 0 (not_false (length run.families == 0) none)) in
        rest ∙ sym (ap (λ fs. fs ++ families_in_runs runs) empty)

bound_kept : (hi : ℕ) (runs : List Run) → AreRuns hi runs → first_bound hi runs ≤ first_bound hi (filter has_families runs)
bound_kept hi [] are = omega arith
bound_kept hi (run ∷ runs) are = by_test (has_families run) (bound_kept hi runs are.2)
  where
    by_test : (b : Bool) → first_bound hi runs ≤ first_bound hi (filter has_families runs) → run.lo ≤ first_bound hi (cond b (run ∷ filter has_families runs) (filter has_families runs))
    by_test true rest = omega arith
    by_test false rest = omega (arith, are.0, rest)

pub runs_kept : (hi : ℕ) (runs : List Run) → AreRuns hi runs → AreRuns hi (filter has_families runs)
runs_kept hi [] are = tt
runs_kept hi (run ∷ runs) are = by_test (has_families run) (runs_kept hi runs are.2)
  where
    by_test : (b : Bool) → AreRuns hi (filter has_families runs) → AreRuns hi (cond b (run ∷ filter has_families runs) (filter has_families runs))
    by_test true rest =
        let more = bound_kept hi runs are.2 in
        (omega (arith, are.0, more), within_wider run.lo (first_bound hi runs) run.lo (first_bound hi (filter has_families runs)) run.families are.1 (omega arith) more, rest)
    by_test false rest = rest

-- runs with those before a place folded
pub record IsFoldedTo (old now : List Run) (at : ℕ) : Type 0 where
  pub front : families_in_runs (take at now) ≡ folded_families (families_in_runs (take at old))
  pub back : drop at now ≡ drop at old
  pub runs : AreRuns ROOT_END now
  pub count : length now ≡ length old

-- the next is folded
module _ (old now : List Run) (at : ℕ) (run other : Run) (so_far : IsFoldedTo old now at) (inside : at < length now) (read : run ≡ get_or now at run) (same : other.lo ≡ run.lo) (items : other.families ≡ folded_families run.families) where
  inside_old : at < length old
  inside_old = omega (arith, length-drop at now, length-drop at old, ap length so_far.back, inside)

  was : get_or old at run ≡ run
  was =
      let zero_more : at ≡ at + 0 = omega arith in
      ap (λ n. get_or old n run) zero_more
      ∙ sym (get_or-drop at old 0 run)
      ∙ ap (λ rs. get_or rs 0 run) (sym so_far.back)
      ∙ get_or-drop at now 0 run
      ∙ ap (λ n. get_or now n run) (sym zero_more)
      ∙ sym read

  next_front : families_in_runs (take (at + 1) (set now at other)) ≡ folded_families (families_in_runs (take (at + 1) old))
  next_front =
      ap families_in_runs (take-set_at now at (at + 1) other refl inside)
      ∙ families_append (take at now) (other ∷ [])
      ∙ (λ i. so_far.front i ++ append-nil other.families i)
      ∙ ap (λ fs. folded_families (families_in_runs (take at old)) ++ fs) items
      ∙ sym (
      ap (λ rs. folded_families (families_in_runs rs)) ((take_at_read old at run inside_old).1 ∙ ap (λ r. take at old ++ r ∷ []) was)
      ∙ ap folded_families (families_append (take at old) (run ∷ []) ∙ ap (λ fs. families_in_runs (take at old) ++ fs) (append-nil run.families))
      ∙ folded_append (families_in_runs (take at old)) run.families
      )

  one_less : (runs : List Run) → drop 1 (drop at runs) ≡ drop (at + 1) runs
  one_less runs = drop-drop 1 at runs ∙ ap (λ n. drop n runs) (omega arith)

  next_back : drop (at + 1) (set now at other) ≡ drop (at + 1) old
  next_back =
      sym (one_less (set now at other))
      ∙ ap (drop 1) (drop-set_at now at at other refl inside)
      ∙ sym (one_less now)
      ∙ ap (drop 1) so_far.back
      ∙ one_less old

  next_runs : AreRuns ROOT_END (set now at other)
  next_runs =
      let here = run_at now at inside in
      let own : run ≡ here.run = read ∙ read_at now here.front here.back here.run at run here.whole here.count in
      let stands = run_stands now here.front here.back here.run so_far.runs here.whole in
      let hi = first_bound ROOT_END here.back in
      let within = folded_within here.run.lo hi here.run.families stands.own in
      subst (AreRuns ROOT_END) (sym (set_run now here.front here.back here.run other at here.whole here.count))
      (run_replaced here.front here.back here.run other stands (same ∙ ap (λ (r : Run). r.lo) own) (ap (are_within here.run.lo hi) (items ∙ ap (λ (r : Run). folded_families r.families) own) ∙ within))

  pub folded_next : IsFoldedTo old (set now at other) (at + 1)
  folded_next = record { front = next_front; back = next_back; runs = next_runs; count = let n = so_far.count in omega (arith, length-set now at other, n) }

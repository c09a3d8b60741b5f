-- A run at a place among others.
use Rattle.std.proofs.Common.{◌≡◌, ℕ, zero, suc, List, [], ◌∷◌, ◌++◌, length, get_or, take, drop, refl, sym, ap, ◌∙◌, arith, append_assoc, length-append}
use Rattle.std.specs.Prelude.{◌+◌, ◌<◌, ◌≤◌, slice_get, Some, None}
use Rattle.std.proofs.lemmas.List.{drop_all, take_all}
use Rattle.sq_schema.specs.Family.{FamilyValue}
use Rattle.sq_store.specs.Run.{Run, empty_run}
use Rattle.sq_store.specs.Runs.{families_in_runs, nth_run}

-- the families before the run, its own, and those behind it
pub families_at : (runs : List Run) (k : ℕ) (d : Run) → k < length runs
    → families_in_runs runs ≡ families_in_runs (take k runs) ++ ((get_or runs k d).families ++ families_in_runs (drop (suc k) runs))
families_at [] k d inside = absurd (omega arith)
families_at (run ∷ runs) zero d inside = refl
families_at (run ∷ runs) (suc k) d inside =
    ap (λ fs. run.families ++ fs) (families_at runs k d (omega arith))
    ∙ sym (append_assoc run.families (families_in_runs (take k runs)) ((get_or runs k d).families ++ families_in_runs (drop (suc k) runs)))

-- those from it on
pub families_from : (runs : List Run) (k : ℕ) (d : Run) → k < length runs → families_in_runs (drop k runs) ≡ (get_or runs k d).families ++ families_in_runs (drop (suc k) runs)
families_from [] k d inside = absurd (omega arith)
families_from (run ∷ runs) zero d inside = refl
families_from (run ∷ runs) (suc k) d inside = families_from runs k d (omega arith)

-- no more than all are before it or its own
pub counted_upto : (runs : List Run) (k : ℕ) (run : Run) → k < length runs → run ≡ get_or runs k run → length (families_in_runs (take k runs)) + length run.families ≤ length (families_in_runs runs)
counted_upto runs k run inside is =
    let items = (get_or runs k run).families in
    let behind = families_in_runs (drop (suc k) runs) in
    let own : length run.families ≡ length items = ap (λ (r : Run). length r.families) is in
    omega (arith, ap length (families_at runs k run inside), length-append (families_in_runs (take k runs)) (items ++ behind), length-append items behind, own)

in_front : (items more : List FamilyValue) (family : FamilyValue) → Some family ≡ slice_get items 0 → Some family ≡ slice_get (items ++ more) 0
in_front [] more family some = absurd (cc)
in_front (other ∷ items) more family some = some

-- its first is the first of those from it on
pub first_at : (runs : List Run) (k : ℕ) (family : FamilyValue) → k < length runs → Some family ≡ slice_get (nth_run runs k).families 0 → Some family ≡ slice_get (families_in_runs (drop k runs)) 0
first_at runs k family inside first =
    in_front (nth_run runs k).families (families_in_runs (drop (suc k) runs)) family first ∙ sym (ap (λ fs. slice_get fs 0) (families_from runs k empty_run inside))

-- where it has none, those from it on are those behind it
pub none_at : (runs : List Run) (k : ℕ) → k < length runs → None ≡ slice_get (nth_run runs k).families 0 → families_in_runs (drop (k + 1) runs) ≡ families_in_runs (drop k runs)
none_at runs k inside none =
    let next : k + 1 ≡ suc k = omega arith in
    ap (λ n. families_in_runs (drop n runs)) next
    ∙ sym (families_from runs k empty_run inside ∙ ap (λ fs. fs ++ families_in_runs (drop (suc k) runs)) (no_first (nth_run runs k).families none))
  where
    no_first : (items : List FamilyValue) → None ≡ slice_get items 0 → items ≡ []
    no_first [] none = refl
    no_first (family ∷ items) none = absurd (cc)

-- behind all runs there is none
pub none_behind : (runs : List Run) (k : ℕ) → length runs ≤ k → None ≡ slice_get (families_in_runs (drop k runs)) 0
none_behind runs k past = sym (ap (λ rs. slice_get (families_in_runs rs) 0) (drop_all k runs past))

-- counting goes on with the run's own
counted_after : (runs : List Run) (k : ℕ) → k < length runs → length (families_in_runs (take (suc k) runs)) ≡ length (families_in_runs (take k runs)) + length (nth_run runs k).families
counted_after [] k inside = absurd (omega arith)
counted_after (run ∷ runs) zero inside = omega (arith, length-append run.families [])
counted_after (run ∷ runs) (suc k) inside =
    let rest = counted_after runs k (omega arith) in
    omega (arith, rest, length-append run.families (families_in_runs (take (suc k) runs)), length-append run.families (families_in_runs (take k runs)))

pub counted_next : (runs : List Run) (k : ℕ) → k < length runs → length (families_in_runs (take (k + 1) runs)) ≡ length (families_in_runs (take k runs)) + length (nth_run runs k).families
counted_next runs k inside =
    let next : k + 1 ≡ suc k = omega arith in
    ap (λ n. length (families_in_runs (take n runs))) next ∙ counted_after runs k inside

pub counted_all : (runs : List Run) (k : ℕ) → length runs ≤ k → length (families_in_runs (take k runs)) ≡ length (families_in_runs runs)
counted_all runs k past = ap (λ rs. length (families_in_runs rs)) (take_all k runs past)

-- Gaps that are made for families.
use Rattle.std.proofs.Common.{subst, ⊎_elim, ◌≡◌, ℕ, zero, suc, true, List, [], ◌∷◌, ◌++◌, length, get_or, set, take, drop, refl, sym, ap, ◌∙◌, arith, append_assoc, length-append, length-take}
use Rattle.std.specs.Prelude.{◌+◌, ◌<◌, ◌≤◌, All, cond}
use Rattle.std.proofs.lemmas.Bool.{cases_lt}
use Rattle.std.proofs.lemmas.List.{take_at, drop_at, take-append-drop, get_or-take, nil_from_length}
use Rattle.std.proofs.lemmas.List.Elements.{All-take, All-drop, All-cons, All-weaker}
use Rattle.sq_schema.specs.declared.root.TheConstants.{ROOT_END}
use Rattle.sq_schema.specs.Family.{FamilyValue}
use Rattle.sq_store.specs.InOrder.{are_within}
use Rattle.sq_store.specs.Listed.{IsStart}
use Rattle.sq_store.proofs.Firsts.{between_from}
use Rattle.sq_store.proofs.Rising.{rises}
use Rattle.sq_store.specs.Run.{Run, empty_run}
use Rattle.sq_store.specs.Runs.{families_in_runs, first_bound, between, AreRuns, IsBoundPlace, IsRunOf, IsSplit, IsGap, IsRaised, KeepsFamilies, nth_run, with_lo}
use Rattle.sq_store.proofs.Fitting.{between_append}
use Rattle.sq_store.proofs.Within.{within_front, within_below, within_from}
use Rattle.sq_store.proofs.InRuns.{run_at, read_at, run_stands, runs_append, runs_raised, behind_within, families_around, split_keeps}
use Rattle.sq_store.proofs.MadeRuns.{back_at, split_items}
use Rattle.sq_store.proofs.RunSpans.{run_facts}
use Rattle.sq_store.proofs.SetRuns.{set_run}

-- the run before a gap is among the runs
pub gap_inside : (runs : List Run) (lo end at : ℕ) → IsGap runs lo end at → at < length runs
gap_inside runs lo end at gap = omega (arith, ap length gap.whole, length-append gap.front (gap.run ∷ gap.back), gap.count)

pub gap_read : (runs : List Run) (lo end at : ℕ) (gap : IsGap runs lo end at) → nth_run runs at ≡ gap.run
gap_read runs lo end at gap = read_at runs gap.front gap.back gap.run at empty_run gap.whole gap.count

-- the bounds behind the run of a root key are above it
bound_behind : (root : ℕ) (back : List Run) → root < first_bound ROOT_END back → root ≤ first_bound root back
bound_behind root [] high = omega arith
bound_behind root (run ∷ back) high = omega (arith, high)

-- where its families are all below the root key
pub gap_of : (runs : List Run) (lo at place : ℕ) → AreRuns ROOT_END runs → (is : IsRunOf runs lo at) → IsStart is.run.families lo place → length is.run.families ≤ place → IsGap runs lo lo at
gap_of runs lo at place are is start all =
    let stands = run_facts runs lo at are is in
    record {
      front = is.front;
      run = is.run;
      back = is.back;
      whole = is.whole;
      count = is.count;
      low = is.low;
      below = within_below is.run.lo (first_bound ROOT_END is.back) lo is.run.families stands.own (λ k d inside. start.below k d (omega arith) (omega (arith, inside, all)));
      next = bound_behind lo is.back is.high;
    }

some_family : (families : List FamilyValue) (place : ℕ) → place < length families → FamilyValue
some_family [] place inside = absurd (omega arith)
some_family (family ∷ families) place inside = family

-- or it is split at the first that isn't
pub gap_split : (old new : List Run) (lo at place : ℕ) → AreRuns ROOT_END old → (is : IsRunOf old lo at) → (split : IsSplit old at place new) → IsStart is.run.families lo place → place < length is.run.families → IsGap new lo lo at
gap_split old new lo at place are is split start inside =
    let stands = run_facts old lo at are is in
    let items : split.run.families ≡ is.run.families = split_items old new lo at place is split in
    let same : split.run ≡ is.run = sym (read_at old split.front split.back split.run at is.run split.was split.count) ∙ read_at old is.front is.back is.run at is.run is.whole is.count in
    let one_lo : split.one.lo ≡ is.run.lo = split.parts.lo ∙ ap (λ (run : Run). run.lo) same in
    let kept : split.one.families ≡ take place is.run.families = split.parts.kept ∙ ap (take place) items in
    let d = some_family is.run.families place inside in
    let two_lo : split.two.lo ≡ (get_or is.run.families place d).root = split.parts.first d ∙ ap (λ fs. (get_or fs place d).root) items in
    let from = start.from place d (omega arith) inside in
    record {
      front = split.front;
      run = split.one;
      back = split.two ∷ split.back;
      whole = split.is;
      count = split.count;
      low = let l = is.low in omega (arith, one_lo, l);
      below = (λ i. are_within (one_lo i) lo (kept i))
          ∙ within_below is.run.lo (first_bound ROOT_END is.back) lo (take place is.run.families)
          (front_own is.run.lo (first_bound ROOT_END is.back) is.run.families place stands.own)
          (λ k e within.
          let k_place : k < place = omega (arith, length-take place is.run.families, within) in
          subst (λ (f : FamilyValue). f.root < lo) (sym (get_or-take place is.run.families k e k_place)) (start.below k e (omega arith) k_place));
      next = omega (arith, two_lo, from);
    }
  where
    front_own : (low high : ℕ) (items : List FamilyValue) (n : ℕ) → are_within low high items ≡ true → are_within low high (take n items) ≡ true
    front_own low high items n own = within_front low high (take n items) (drop n items) (ap (are_within low high) (take-append-drop n items) ∙ own)

from_first : (low high : ℕ) (families : List FamilyValue) → are_within low high families ≡ true → All (λ family. low ≤ family.root) families
from_first low high [] within = λ k d inside. absurd (omega arith)
from_first low high (family ∷ families) within =
    let r = rises low high family families within in
    All-cons (λ (f : FamilyValue). low ≤ f.root) family families r.low
    (All-weaker (λ (f : FamilyValue). family.root + 1 ≤ f.root) (λ (f : FamilyValue). low ≤ f.root) (λ f more. omega (arith, more, r.low)) families (from_first (family.root + 1) high families r.rest))

-- families from a number on, none of which is below another, are from that on
above_both : (lo end high : ℕ) (families : List FamilyValue) → are_within lo high families ≡ true → between lo end families ≡ [] → All (λ family. end ≤ family.root) families
above_both lo end high [] within none = λ k d inside. absurd (omega arith)
above_both lo end high (family ∷ families) within none =
    let r = rises lo high family families within in
    ⊎_elim
    (λ (below : family.root < end).
    let some : family ∷ between lo end families ≡ [] = sym (ap (λ b. cond b (family ∷ between lo end families) (between lo end families)) (between_from lo end family.root r.low below)) ∙ none in
    absurd (cc))
    (λ (from : end ≤ family.root).
    All-cons (λ (f : FamilyValue). end ≤ f.root) family families from
    (All-weaker (λ (f : FamilyValue). family.root + 1 ≤ f.root) (λ (f : FamilyValue). end ≤ f.root) (λ f more. omega (arith, more, from)) families (from_first (family.root + 1) high families r.rest)))
    (cases_lt family.root end)

-- the families behind a gap in which there are none
pub above_gap : (runs : List Run) (lo end at : ℕ) → AreRuns ROOT_END runs → IsGap runs lo lo at → between lo end (families_in_runs runs) ≡ [] → All (λ family. end ≤ family.root) (families_in_runs (drop (at + 1) runs))
above_gap runs lo end at are gap none =
    let stands = run_stands runs gap.front gap.back gap.run are gap.whole in
    let back = families_in_runs gap.back in
    let whole : families_in_runs runs ≡ (families_in_runs gap.front ++ gap.run.families) ++ back =
    families_around runs gap.front gap.back gap.run gap.whole ∙ sym (append_assoc (families_in_runs gap.front) gap.run.families back) in
    let both = sym (between_append lo end (families_in_runs gap.front ++ gap.run.families) back) ∙ ap (between lo end) (sym whole) ∙ none in
    let own : between lo end back ≡ [] = nil_from_length (between lo end back) (omega (arith, ap length both, length-append (between lo end (families_in_runs gap.front ++ gap.run.families)) (between lo end back))) in
    subst (λ rs. All (λ (family : FamilyValue). end ≤ family.root) (families_in_runs rs)) (sym (back_at runs gap.front gap.back gap.run at gap.whole gap.count))
    (above_both lo end (lo + ROOT_END) back (behind_within lo gap.back stands.after gap.next) own)

-- a gap whose bounds behind it are raised
pub raised_gap : (old new : List Run) (lo end at : ℕ) → IsGap old lo lo at → IsRaised old (at + 1) end new → IsGap new lo end at
raised_gap old new lo end at gap raised =
    let first = gap.front ++ gap.run ∷ [] in
    let long : length first ≡ at + 1 = omega (arith, length-append gap.front (gap.run ∷ []), gap.count) in
    let kept : take (at + 1) new ≡ first = raised.kept ∙ ap (take (at + 1)) (gap.whole ∙ sym (append_assoc gap.front (gap.run ∷ []) gap.back)) ∙ take_at first gap.back (at + 1) long in
    record {
      front = gap.front;
      run = gap.run;
      back = drop (at + 1) new;
      whole = sym (take-append-drop (at + 1) new) ∙ ap (λ rs. rs ++ drop (at + 1) new) kept ∙ append_assoc gap.front (gap.run ∷ []) (drop (at + 1) new);
      count = gap.count;
      low = gap.low;
      below = gap.below;
      next = raised.next;
    }

-- a bound that is raised
pub lo_families : (runs : List Run) (at lo : ℕ) → families_in_runs (set runs at (with_lo runs at lo)) ≡ families_in_runs runs
lo_families [] at lo = refl
lo_families (run ∷ runs) zero lo = refl
lo_families (run ∷ runs) (suc at) lo = ap (λ fs. run.families ++ fs) (lo_families runs at lo)

pub lo_first : (runs : List Run) (at lo : ℕ) → at < length runs → lo ≤ first_bound lo (drop at (set runs at (with_lo runs at lo)))
lo_first [] at lo inside = absurd (omega arith)
lo_first (run ∷ runs) zero lo inside = omega arith
lo_first (run ∷ runs) (suc at) lo inside = lo_first runs at lo (omega arith)

-- what all families from a place on are, those of a run from there on are
pub all_of_run : (P : FamilyValue → Type 0) (runs : List Run) (from at : ℕ) → All P (families_in_runs (drop from runs)) → from ≤ at → at < length runs → All P (nth_run runs at).families
all_of_run P [] from at all upto inside = absurd (omega arith)
all_of_run P (run ∷ runs) (suc from) zero all upto inside = absurd (omega arith)
all_of_run P (run ∷ runs) (suc from) (suc at) all upto inside = all_of_run P runs from at all (omega arith) (omega arith)
all_of_run P (run ∷ runs) zero zero all upto inside =
    subst (All P) (take_at run.families (families_in_runs runs) (length run.families) refl) (All-take P (length run.families) (run.families ++ families_in_runs runs) all)
all_of_run P (run ∷ runs) zero (suc at) all upto inside =
    all_of_run P runs zero at (subst (All P) (drop_at run.families (families_in_runs runs) (length run.families) refl) (All-drop P (length run.families) (run.families ++ families_in_runs runs) all)) (omega arith) (omega arith)

raised_end : (end : ℕ) (back : List Run) → end < ROOT_END → end ≤ first_bound end back → end ≤ first_bound ROOT_END back
raised_end end [] bound next = omega arith
raised_end end (run ∷ back) bound next = next

-- the runs stay runs
pub lo_runs : (runs : List Run) (at end : ℕ) → AreRuns ROOT_END runs → at < length runs → (nth_run runs at).lo ≤ end → All (λ family. end ≤ family.root) (nth_run runs at).families → end < ROOT_END → end ≤ first_bound end (drop (at + 1) runs)
    → AreRuns ROOT_END (set runs at (with_lo runs at end))
lo_runs runs at end are inside low above bound next =
    let here = run_at runs at inside in
    let read : nth_run runs at ≡ here.run = read_at runs here.front here.back here.run at empty_run here.whole here.count in
    let stands = run_stands runs here.front here.back here.run are here.whole in
    let behind = raised_end end here.back bound (subst (λ rs. end ≤ first_bound end rs) (back_at runs here.front here.back here.run at here.whole here.count) next) in
    let own = within_from here.run.lo (first_bound ROOT_END here.back) end here.run.families stands.own (subst (λ (run : Run). All (λ (family : FamilyValue). end ≤ family.root) run.families) read above) in
    subst (AreRuns ROOT_END) (sym (set_run runs here.front here.back here.run (with_lo runs at end) at here.whole here.count))
    (runs_append ROOT_END here.front (with_lo runs at end ∷ here.back) (runs_raised here.run.lo end here.front stands.before (subst (λ (run : Run). run.lo ≤ end) read low)) (
      behind,
      subst (λ (run : Run). are_within end (first_bound ROOT_END here.back) run.families ≡ true) (sym read) own,
      stands.after,
    ))

-- bounds that are from a key on stay so
pub later_bound : (hi : ℕ) (runs : List Run) (key at from : ℕ) → AreRuns hi runs → key ≤ first_bound key (drop at runs) → at ≤ from → key ≤ first_bound key (drop from runs)
later_bound hi [] key at zero are bound upto = omega arith
later_bound hi [] key at (suc from) are bound upto = omega arith
later_bound hi (run ∷ runs) key zero zero are bound upto = bound
later_bound hi (run ∷ runs) key (suc at) zero are bound upto = absurd (omega arith)
later_bound hi (run ∷ runs) key (suc at) (suc from) are bound upto = later_bound hi runs key at from are.2 bound (omega arith)
later_bound hi (run ∷ []) key zero (suc from) are bound upto = later_bound hi [] key zero from tt (omega arith) (omega arith)
later_bound hi (run ∷ next ∷ runs) key zero (suc from) are bound upto = later_bound hi (next ∷ runs) key zero from are.2 (omega (arith, bound, are.0)) (omega arith)

-- a run before a place that is kept is the same
pub still_run : (old now : List Run) (place at : ℕ) → take place now ≡ take place old → at < place → nth_run now at ≡ nth_run old at
still_run old now place at kept inside =
    sym (get_or-take place now at empty_run inside) ∙ ap (λ rs. get_or rs at empty_run) kept ∙ get_or-take place old at empty_run inside

pub below_key : (runs : List Run) (key place at : ℕ) → IsBoundPlace runs key place → at < place → (nth_run runs at).lo < key
below_key runs key place at is inside =
    subst (λ (run : Run). run.lo < key) (get_or-take place runs at empty_run inside) (is.below at empty_run (omega (arith, length-take place runs, is.within, inside)))

-- a run that is split keeps as many families as come before the place
pub record Divides (old : List Run) (at place : ℕ) (new : List Run) : Type 0 where
  pub keeps : KeepsFamilies old new
  pub inside : at < length new
  pub size : length (nth_run new at).families ≡ place

pub divided : (old new : List Run) (at place : ℕ) → AreRuns ROOT_END old → IsSplit old at place new → place < length (nth_run old at).families → Divides old at place new
divided old new at place are split inside =
    let was : nth_run old at ≡ split.run = read_at old split.front split.back split.run at empty_run split.was split.count in
    let now : nth_run new at ≡ split.one = read_at new split.front (split.two ∷ split.back) split.one at empty_run split.is split.count in
    let own : place < length split.run.families = omega (arith, inside, ap (λ (run : Run). length run.families) was) in
    record {
      keeps = split_keeps old new at place are split own;
      inside = omega (arith, ap length split.is, length-append split.front (split.one ∷ split.two ∷ split.back), split.count);
      size = omega (arith, ap (λ (run : Run). length run.families) now, ap length split.parts.kept, length-take place split.run.families, own);
    }

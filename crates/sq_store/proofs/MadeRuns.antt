-- Runs that are made for a root key.
use Rattle.std.proofs.Common.{subst, ◌≡◌, ℕ, true, List, [], ◌∷◌, ◌++◌, length, get_or, set, drop, refl, sym, ap, ◌∙◌, arith, append_assoc, length-append}
use Rattle.std.specs.Prelude.{◌+◌, ◌-◌, ◌<◌, ◌≤◌, All, Some, slice_get}
use Rattle.std.specs.List.{insert as put_in}
use Rattle.std.proofs.lemmas.List.{take_at, drop_at, get_or_default}
use Rattle.std.proofs.lemmas.Option.{slice_get-get_or}
use Rattle.sq_schema.specs.declared.root.TheConstants.{ROOT_END}
use Rattle.sq_schema.specs.Family.{FamilyValue}
use Rattle.sq_store.specs.Run.{Run}
use Rattle.sq_store.specs.InOrder.{are_within}
use Rattle.sq_store.specs.Listed.{roots_rise}
use Rattle.sq_store.proofs.Order.{rising_upto}
use Rattle.sq_store.specs.Runs.{families_in_runs, first_bound, AreRuns, IsRunOf, IsCutRun, IsSplit, KeepsFamilies}
use Rattle.sq_store.proofs.Within.{within_wider, within_below}
use Rattle.sq_store.proofs.InRuns.{run_at, read_at, runs_append, families_append, families_around}
use Rattle.sq_store.proofs.RunSpans.{run_facts}
use Rattle.sq_store.proofs.SetRuns.{set_run}

-- a run right behind another
pub put_behind_run : (front back : List Run) (one two : Run) (place : ℕ) → length front + 1 ≡ place → put_in (front ++ one ∷ back) place two ≡ front ++ one ∷ two ∷ back
put_behind_run front back one two place count =
    let first = front ++ one ∷ [] in
    let parts : front ++ one ∷ back ≡ first ++ back = sym (append_assoc front (one ∷ []) back) in
    let long : length first ≡ place = omega (arith, length-append front (one ∷ []), count) in
    ap (λ rs. put_in rs place two) parts
    ∙ (λ i. take_at first back place long i ++ two ∷ drop_at first back place long i)
    ∙ append_assoc front (one ∷ []) (two ∷ back)

-- a run is cut in two
pub is_split : (runs new : List Run) (at place : ℕ) (old one two : Run) → at < length runs → old ≡ get_or runs at old → IsCutRun old place one two → new ≡ put_in (set runs at one) (at + 1) two → IsSplit runs at place new
is_split runs new at place old one two inside read parts put =
    let here = run_at runs at inside in
    let own : old ≡ here.run = read ∙ read_at runs here.front here.back here.run at old here.whole here.count in
    record {
      front = here.front;
      run = here.run;
      one = one;
      two = two;
      back = here.back;
      was = here.whole;
      count = here.count;
      is = put
          ∙ ap (λ rs. put_in rs (at + 1) two) (set_run runs here.front here.back here.run one at here.whole here.count)
          ∙ put_behind_run here.front here.back one two (at + 1) (omega (arith, here.count));
      parts = subst (λ (run : Run). IsCutRun run place one two) own parts;
    }

pub back_at : (runs front back : List Run) (run : Run) (at : ℕ) → runs ≡ front ++ run ∷ back → length front ≡ at → drop (at + 1) runs ≡ back
back_at runs front back run at whole count =
    ap (drop (at + 1)) (whole ∙ sym (append_assoc front (run ∷ []) back)) ∙ drop_at (front ++ run ∷ []) back (at + 1) (omega (arith, length-append front (run ∷ []), count))

-- the half that a root key belongs to
module _ (old new : List Run) (root at place : ℕ) (is : IsRunOf old root at) (split : IsSplit old at place new) where
  same_run : split.run ≡ is.run
  same_run = sym (read_at old split.front split.back split.run at is.run split.was split.count) ∙ read_at old is.front is.back is.run at is.run is.whole is.count

  pub split_items : split.run.families ≡ is.run.families
  split_items = ap (λ (run : Run). run.families) same_run

  same_back : is.back ≡ split.back
  same_back = sym (back_at old is.front is.back is.run at is.whole is.count) ∙ back_at old split.front split.back split.run at split.was split.count

  pub split_low : root < split.two.lo → IsRunOf new root at
  split_low less =
      let low : split.one.lo ≡ is.run.lo = split.parts.lo ∙ ap (λ (run : Run). run.lo) same_run in
      record {
        front = split.front;
        run = split.one;
        back = split.two ∷ split.back;
        whole = split.is;
        count = split.count;
        low = omega (arith, low, is.low);
        high = less;
      }

  pub split_high : split.two.lo ≤ root → IsRunOf new root (at + 1)
  split_high from =
      record {
        front = split.front ++ split.one ∷ [];
        run = split.two;
        back = split.back;
        whole = split.is ∙ sym (append_assoc split.front (split.one ∷ []) (split.two ∷ split.back));
        count = omega (arith, length-append split.front (split.one ∷ []), split.count);
        low = from;
        high = subst (λ back. root < first_bound ROOT_END back) same_back is.high;
      }

  pub read_second : (d : Run) → get_or new (at + 1) d ≡ split.two
  read_second d =
      read_at new (split.front ++ split.one ∷ []) split.back split.two (at + 1) d (split.is ∙ sym (append_assoc split.front (split.one ∷ []) (split.two ∷ split.back))) (omega (arith, length-append split.front (split.one ∷ []), split.count))

-- a run without families behind the one that a root key belongs to
module _ (old new : List Run) (root at : ℕ) (two : Run) (are : AreRuns ROOT_END old) (is : IsRunOf old root at) (put : new ≡ put_in old (at + 1) two) (bound : two.lo ≡ root) (none : two.families ≡ []) where
  put_is : new ≡ is.front ++ is.run ∷ two ∷ is.back
  put_is = put ∙ ap (λ rs. put_in rs (at + 1) two) is.whole ∙ put_behind_run is.front is.back is.run two (at + 1) (omega (arith, is.count))

  pub started_place : IsRunOf new root (at + 1)
  started_place =
      record {
        front = is.front ++ is.run ∷ [];
        run = two;
        back = is.back;
        whole = put_is ∙ sym (append_assoc is.front (is.run ∷ []) (two ∷ is.back));
        count = omega (arith, length-append is.front (is.run ∷ []), is.count);
        low = omega (arith, bound);
        high = is.high;
      }

  pub started_keeps : All (λ family. family.root < root) is.run.families → KeepsFamilies old new
  started_keeps below =
      let stands = run_facts old root at are is in
      let own = within_below is.run.lo (first_bound ROOT_END is.back) root is.run.families stands.own below in
      record {
        runs = subst (AreRuns ROOT_END) (sym put_is)
            (runs_append ROOT_END is.front (is.run ∷ two ∷ is.back) stands.before (
              omega (arith, bound, is.low),
              subst (λ n. are_within is.run.lo n is.run.families ≡ true) (sym bound) own,
              (omega (arith, bound, is.high), ap (are_within two.lo (first_bound ROOT_END is.back)) none, stands.after),
            ));
        families = ap families_in_runs put_is ∙ families_append is.front (is.run ∷ two ∷ is.back)
            ∙ ap (λ items. families_in_runs is.front ++ (is.run.families ++ (items ++ families_in_runs is.back))) none
            ∙ sym (families_around old is.front is.back is.run is.whole);
      }

-- all families are below a root key where the last is
pub items_below : (items : List FamilyValue) (root last : ℕ) (d : FamilyValue) → roots_rise items ≡ true → last + 1 ≡ length items → (get_or items last d).root < root → All (λ family. family.root < root) items
items_below items root last d rising end below k e inside =
    let up = rising_upto items k last e rising (omega (arith, inside, end)) (omega (arith, end)) in
    let same = ap (λ (family : FamilyValue). family.root) (get_or_default items last e d (omega (arith, end))) in
    omega (arith, up, same, below)

pub last_below : (items : List FamilyValue) (root : ℕ) (family : FamilyValue) → roots_rise items ≡ true → Some family ≡ slice_get items (length items - 1) → family.root < root → All (λ family. family.root < root) items
last_below [] root family rising is below = λ k d inside. absurd (omega arith)
last_below (first ∷ items) root family rising is below =
    let at = length items in
    let place : length (first ∷ items) - 1 ≡ at = omega arith in
    let read : Some family ≡ Some (get_or (first ∷ items) at family) = is ∙ ap (slice_get (first ∷ items)) place ∙ slice_get-get_or (first ∷ items) at family (omega arith) in
    let same : family ≡ get_or (first ∷ items) at family = cc in
    let low : (get_or (first ∷ items) at family).root < root = subst (λ (f : FamilyValue). f.root < root) same below in
    items_below (first ∷ items) root at family rising (omega arith) low

-- the first run, where its bound is a root key below it
pub lowered_place : (runs : List Run) (root : ℕ) (now : Run) → AreRuns ROOT_END runs → root < first_bound ROOT_END runs → 0 < length runs → now.lo ≡ root → IsRunOf (set runs 0 now) root 0
lowered_place [] root now are below some bound = absurd (omega arith)
lowered_place (run ∷ runs) root now are below some bound = record { front = []; run = now; back = runs; whole = refl; count = refl; low = omega (arith, bound); high = omega (arith, below, are.0) }

pub lowered_keeps : (runs : List Run) (root : ℕ) (old now : Run) → AreRuns ROOT_END runs → root < first_bound ROOT_END runs → 0 < length runs → old ≡ get_or runs 0 old → now.lo ≡ root → now.families ≡ old.families → KeepsFamilies runs (set runs 0 now)
lowered_keeps [] root old now are below some read bound same = absurd (omega arith)
lowered_keeps (run ∷ runs) root old now are below some read bound same =
    let items : now.families ≡ run.families = same ∙ ap (λ (r : Run). r.families) read in
    record {
      runs = (
        omega (arith, bound, below, are.0),
        (λ i. are_within (bound i) (first_bound ROOT_END runs) (items i)) ∙ within_wider run.lo (first_bound ROOT_END runs) root (first_bound ROOT_END runs) run.families are.1 (omega (arith, below)) (omega arith),
        are.2,
      );
      families = ap (λ fs. fs ++ families_in_runs runs) items;
    }

-- the first of all runs
pub first_place : (runs : List Run) (root : ℕ) (run : Run) → runs ≡ run ∷ [] → run.lo ≡ root → root < ROOT_END → IsRunOf runs root 0
first_place runs root run is bound below = record { front = []; run = run; back = []; whole = is; count = refl; low = omega (arith, bound); high = below }

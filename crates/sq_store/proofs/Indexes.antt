-- Runs in a slab with an index.
use Rattle.std.proofs.Common.{◌≡◌, ℕ, zero, suc, true, false, List, [], ◌∷◌, ◌++◌, length, get_or, set, take, drop, refl, sym, ap, ◌∙◌, subst, arith}
use Rattle.std.specs.Prelude.{◌≢◌, ◌<◌, ◌≤◌, nat_lt, IsSome, Option, Some, None}
use Rattle.std.specs.Option.{option_map_or}
use Rattle.std.specs.Global.{Vec}
use Rattle.std.specs.List.Sorted.{IsPartitionedBy, IsPartitionPoint}
use Rattle.std.proofs.lemmas.List.{length-map, get_or-map}
use Rattle.slab.specs.Slab.{Slab, get, ContainsKey, Updates}
use Rattle.sq_schema.specs.Family.{FamilyValue}
use Rattle.sq_store.specs.declared.runs.RunEntry.{RunEntry}
use Rattle.sq_store.specs.Run.{Run}
use Rattle.sq_store.specs.Indexed.{families_under, run_under, runs_of, HasNot, IsIndex}
use Rattle.sq_store.specs.Runs.{AreRuns, IsBoundPlace, nth_run, refilled}
use Rattle.sq_store.proofs.InRuns.{placed}
use Rattle.sq_schema.specs.declared.root.TheConstants.{ROOT_END}

abbrev Families : Type 0
Families = Slab (Vec FamilyValue)

-- a run with other families
abbrev pub filled : RunEntry → Vec FamilyValue → Run
filled entry families = record { lo = entry.lo; families = families.items }

pub length_runs : (slab : Families) (index : List RunEntry) → length (runs_of slab index) ≡ length index
length_runs slab index = length-map index (run_under slab)

-- the run that an entry at a place leads to
pub nth_under : (slab : Families) (index : List RunEntry) (at : ℕ) (entry : RunEntry) → at < length index → entry ≡ get_or index at entry → nth_run (runs_of slab index) at ≡ run_under slab entry
nth_under slab [] at entry inside read = absurd (omega arith)
nth_under slab (first ∷ index) zero entry inside read = ap (run_under slab) (sym read)
nth_under slab (first ∷ index) (suc at) entry inside read = nth_under slab index at entry (omega arith) read

-- is in the slab
pub led_at : (slab : Families) (index : List RunEntry) (at : ℕ) (entry : RunEntry) → IsIndex slab index → at < length index → entry ≡ get_or index at entry → ContainsKey slab entry.key
led_at slab [] at entry is inside read = absurd (omega arith)
led_at slab (first ∷ index) zero entry is inside read = subst (λ (e : RunEntry). ContainsKey slab e.key) (sym read) is.0
led_at slab (first ∷ index) (suc at) entry is inside read = led_at slab index at entry is.2 (omega arith) read

pub under_some : (slab : Families) (key : ℕ) (families : Vec FamilyValue) → get slab key ≡ Some families → families_under slab key ≡ families.items
under_some slab key families stands = ap (λ o. option_map_or (λ (fs : Vec FamilyValue). fs.items) o []) stands

-- what an entry at a place leads to
pub found_under : (slab : Families) (index : List RunEntry) (at : ℕ) (entry : RunEntry) (families : Vec FamilyValue) → at < length index → entry ≡ get_or index at entry → get slab entry.key ≡ Some families
    → families.items ≡ (nth_run (runs_of slab index) at).families
found_under slab index at entry families inside read stands =
    sym (ap (λ (run : Run). run.families) (nth_under slab index at entry inside read) ∙ under_some slab entry.key families stands)

pub lo_under : (slab : Families) (index : List RunEntry) (at : ℕ) (entry : RunEntry) → at < length index → entry ≡ get_or index at entry → entry.lo ≡ (nth_run (runs_of slab index) at).lo
lo_under slab index at entry inside read = sym (ap (λ (run : Run). run.lo) (nth_under slab index at entry inside read))

-- the key of an entry isn't one that the index hasn't
not_here : (index : List RunEntry) (at key : ℕ) (entry : RunEntry) → HasNot key index → at < length index → entry ≡ get_or index at entry → entry.key ≢ key
not_here [] at key entry none inside read = absurd (omega arith)
not_here (first ∷ index) zero key entry none inside read = subst (λ (e : RunEntry). e.key ≢ key) (sym read) none.0
not_here (first ∷ index) (suc at) key entry none inside read = not_here index at key entry none.1 (omega arith) read

-- where another key is written the runs are the same
module _ (old now : Families) (key : ℕ) (slot : Option (Vec FamilyValue)) (written : Updates old now key slot) where
  pub under_off : (entry : RunEntry) → entry.key ≢ key → run_under now entry ≡ run_under old entry
  under_off entry off = ap (λ o. record { lo = entry.lo; families = option_map_or (λ (fs : Vec FamilyValue). fs.items) o [] }) (written.others entry.key off)

  led_off : (entry : RunEntry) → entry.key ≢ key → ContainsKey old entry.key → ContainsKey now entry.key
  led_off entry off led = subst IsSome (sym (written.others entry.key off)) led

  pub runs_off : (index : List RunEntry) → HasNot key index → runs_of now index ≡ runs_of old index
  runs_off [] none = refl
  runs_off (entry ∷ index) none = (λ i. under_off entry none.0 i ∷ runs_off index none.1 i)

  pub index_off : (index : List RunEntry) → HasNot key index → IsIndex old index → IsIndex now index
  index_off [] none is = tt
  index_off (entry ∷ index) none is = (led_off entry none.0 is.0, is.1, index_off index none.1 is.2)

-- where the key of an entry is written, its run is another
module _ (old now : Families) (entry : RunEntry) (families : Vec FamilyValue) (written : Updates old now entry.key (Some families)) where
  under_here : (first : RunEntry) → entry ≡ first → run_under now first ≡ filled entry families
  under_here first read =
      ap (run_under now) (sym read) ∙ ap (λ fs. record { lo = entry.lo; families = fs }) (under_some now entry.key families written.changed)

  led_here : (first : RunEntry) → entry ≡ first → ContainsKey now first.key
  led_here first read = subst (λ (e : RunEntry). ContainsKey now e.key) read (subst IsSome (sym written.changed) refl)

  pub changed_runs : (index : List RunEntry) (at : ℕ) → IsIndex old index → at < length index → entry ≡ get_or index at entry → runs_of now index ≡ set (runs_of old index) at (filled entry families)
  changed_runs [] at is inside read = absurd (omega arith)
  changed_runs (first ∷ index) zero is inside read =
      let none : HasNot entry.key index = subst (λ (e : RunEntry). HasNot e.key index) (sym read) is.1 in
      (λ i. under_here first read i ∷ runs_off old now entry.key (Some families) written index none i)
  changed_runs (first ∷ index) (suc at) is inside read =
      let off = not_here index at first.key entry is.1 (omega arith) read in
      (λ i. under_off old now entry.key (Some families) written first (λ same. off (sym same)) i ∷ changed_runs index at is.2 (omega arith) read i)

  pub changed_index : (index : List RunEntry) (at : ℕ) → IsIndex old index → at < length index → entry ≡ get_or index at entry → IsIndex now index
  changed_index [] at is inside read = absurd (omega arith)
  changed_index (first ∷ index) zero is inside read =
      let none : HasNot entry.key index = subst (λ (e : RunEntry). HasNot e.key index) (sym read) is.1 in
      (led_here first read, is.1, index_off old now entry.key (Some families) written index none is.2)
  changed_index (first ∷ index) (suc at) is inside read =
      let off = not_here index at first.key entry is.1 (omega arith) read in
      (led_off old now entry.key (Some families) written first (λ same. off (sym same)) is.0, is.1, changed_index index at is.2 (omega arith) read)

-- a key that the slab hasn't is in no entry
fresh : (slab : Families) (key : ℕ) (index : List RunEntry) → get slab key ≡ None → IsIndex slab index → HasNot key index
fresh slab key [] vacant is = tt
fresh slab key (entry ∷ index) vacant is = (λ same. clash (get slab entry.key) (ap (get slab) same ∙ vacant) is.0, fresh slab key index vacant is.2)
  where
    clash : (found : Option (Vec FamilyValue)) → found ≡ None → IsSome found → ⊥
    clash None none some = absurd (cc)
    clash (Some families) none some = absurd (cc)

put_off : (key at : ℕ) (entry : RunEntry) (index : List RunEntry) → entry.key ≢ key → HasNot key index → HasNot key (take at index ++ entry ∷ drop at index)
put_off key zero entry [] off none = (off, tt)
put_off key (suc at) entry [] off none = (off, tt)
put_off key zero entry (first ∷ index) off none = (off, none)
put_off key (suc at) entry (first ∷ index) off none = (none.0, put_off key at entry index off none.1)

put_index : (slab : Families) (at : ℕ) (entry : RunEntry) (index : List RunEntry) → ContainsKey slab entry.key → HasNot entry.key index → IsIndex slab index → IsIndex slab (take at index ++ entry ∷ drop at index)
put_index slab zero entry [] led none is = (led, tt, tt)
put_index slab (suc at) entry [] led none is = (led, tt, tt)
put_index slab zero entry (first ∷ index) led none is = (led, none, is)
put_index slab (suc at) entry (first ∷ index) led none is =
    (is.0, put_off first.key at entry index (λ same. none.0 (sym same)) is.1, put_index slab at entry index led none.1 is.2)

put_runs : (slab : Families) (at : ℕ) (entry : RunEntry) (index : List RunEntry) → runs_of slab (take at index ++ entry ∷ drop at index) ≡ take at (runs_of slab index) ++ run_under slab entry ∷ drop at (runs_of slab index)
put_runs slab zero entry [] = refl
put_runs slab (suc at) entry [] = refl
put_runs slab zero entry (first ∷ index) = refl
put_runs slab (suc at) entry (first ∷ index) = ap (λ (rs : List Run). run_under slab first ∷ rs) (put_runs slab at entry index)

-- a run is put in
module _ (old now : Families) (index : List RunEntry) (at : ℕ) (entry : RunEntry) (families : Vec FamilyValue) (is : IsIndex old index) (vacant : get old entry.key ≡ None) (written : Updates old now entry.key (Some families)) where
  off : HasNot entry.key index
  off = fresh old entry.key index vacant is

  pub added_runs : runs_of now (take at index ++ entry ∷ drop at index) ≡ take at (runs_of old index) ++ filled entry families ∷ drop at (runs_of old index)
  added_runs =
      put_runs now at entry index
      ∙ (λ i. take at (runs_off old now entry.key (Some families) written index off i) ++ under_here old now entry families written entry refl i ∷ drop at (runs_off old now entry.key (Some families) written index off i))

  pub added_index : IsIndex now (take at index ++ entry ∷ drop at index)
  added_index =
      put_index now at entry index (led_here old now entry families written entry refl) off
      (index_off old now entry.key (Some families) written index off is)

-- the bound of an entry is set
pub lo_runs : (slab : Families) (index : List RunEntry) (at lo : ℕ) (entry other : RunEntry) → at < length index → entry ≡ get_or index at entry → other.key ≡ entry.key → other.lo ≡ lo
    → runs_of slab (set index at other) ≡ set (runs_of slab index) at (record { lo = lo; families = (nth_run (runs_of slab index) at).families })
lo_runs slab [] at lo entry other inside read key is = absurd (omega arith)
lo_runs slab (first ∷ index) zero lo entry other inside read key is =
    (λ i. record { lo = is i; families = families_under slab ((key ∙ ap (λ (e : RunEntry). e.key) read) i) } ∷ runs_of slab index)
lo_runs slab (first ∷ index) (suc at) lo entry other inside read key is = ap (λ (rs : List Run). run_under slab first ∷ rs) (lo_runs slab index at lo entry other (omega arith) read key is)

set_off : (index : List RunEntry) (at key : ℕ) (other : RunEntry) → HasNot key index → other.key ≢ key → HasNot key (set index at other)
set_off [] at key other none apart = tt
set_off (first ∷ index) zero key other none apart = (apart, none.1)
set_off (first ∷ index) (suc at) key other none apart = (none.0, set_off index at key other none.1 apart)

pub lo_index : (slab : Families) (index : List RunEntry) (at : ℕ) (entry other : RunEntry) → IsIndex slab index → at < length index → entry ≡ get_or index at entry → other.key ≡ entry.key → IsIndex slab (set index at other)
lo_index slab [] at entry other is inside read key = absurd (omega arith)
lo_index slab (first ∷ index) zero entry other is inside read key =
    let same : other.key ≡ first.key = key ∙ ap (λ (e : RunEntry). e.key) read in
    (subst (ContainsKey slab) (sym same) is.0, subst (λ k. HasNot k index) (sym same) is.1, is.2)
lo_index slab (first ∷ index) (suc at) entry other is inside read key =
    let apart = not_here index at first.key entry is.1 (omega arith) read in
    (is.0, set_off index at first.key other is.1 (subst (λ k. k ≢ first.key) (sym key) apart), lo_index slab index at entry other is.2 (omega arith) read key)

-- the same slots are the same runs
pub same_runs : (old now : Families) (index : List RunEntry) → now.slots ≡ old.slots → runs_of now index ≡ runs_of old index
same_runs old now index slots = (λ i. runs_of (record old { slots = slots i }) index)

pub same_index : (old now : Families) (index : List RunEntry) → now.slots ≡ old.slots → IsIndex old index → IsIndex now index
same_index old now [] slots is = tt
same_index old now (entry ∷ index) slots is = (subst (λ s. IsSome (get (record old { slots = s }) entry.key)) (sym slots) is.0, is.1, same_index old now index slots is.2)

-- the bounds are the entries'
bound_of : (slab : Families) (index : List RunEntry) (k : ℕ) (d : Run) (entry : RunEntry) → k < length index → (get_or (runs_of slab index) k d).lo ≡ (get_or index k entry).lo
bound_of slab index k d entry inside = ap (λ (run : Run). run.lo) (get_or-map (run_under slab) index k entry d inside)

-- a search in the index by a bound ends behind the runs whose bounds are below it
pub placed_index : (slab : Families) (index : List RunEntry) (key at : ℕ) → AreRuns ROOT_END (runs_of slab index) → at ≤ length index
    → (IsPartitionedBy (λ entry. nat_lt entry.lo key) index → IsPartitionPoint (λ entry. nat_lt entry.lo key ≡ true) (λ entry. nat_lt entry.lo key ≡ false) index at)
    → IsBoundPlace (runs_of slab index) key at
placed_index slab index key at are within parted =
    let count = length_runs slab index in
    placed ROOT_END (runs_of slab index) key at are (omega (arith, count, within)) (λ by.
    let sides = parted (λ i j entry upto inside passes.
    let d : Run = run_under slab entry in
    let j_lo = bound_of slab index j d entry inside in
    let i_lo = bound_of slab index i d entry (omega (arith, upto, inside)) in
    ap (λ n. nat_lt n key) (sym i_lo) ∙ by i j d upto (omega (arith, inside, count)) (ap (λ n. nat_lt n key) j_lo ∙ passes)) in (
      λ k d low inside. ap (λ n. nat_lt n key) (bound_of slab index k d (record { lo = 0; key = 0 }) (omega (arith, inside, within))) ∙ sides.0 k (record { lo = 0; key = 0 }) low inside,
      λ k d low inside.
          let own : k < length index = omega (arith, inside, count) in
          ap (λ n. nat_lt n key) (bound_of slab index k d (record { lo = 0; key = 0 }) own) ∙ sides.1 k (record { lo = 0; key = 0 }) low own,
    ))

-- where the runs are these
module _ (slab : Families) (index : List RunEntry) (runs : List Run) (view : runs_of slab index ≡ runs) where
  pub inside_index : (at : ℕ) → at < length runs → at < length index
  inside_index at inside = omega (arith, inside, ap length view, length_runs slab index)

  -- the families of a run
  pub viewed_families : (at : ℕ) (entry : RunEntry) (families : Vec FamilyValue) → at < length index → entry ≡ get_or index at entry → get slab entry.key ≡ Some families → families.items ≡ (nth_run runs at).families
  viewed_families at entry families inside read stands = found_under slab index at entry families inside read stands ∙ ap (λ rs. (nth_run rs at).families) view

  -- a run with other families
  pub changed_view : (now : Families) (at : ℕ) (entry : RunEntry) (families : Vec FamilyValue) → Updates slab now entry.key (Some families) → IsIndex slab index → at < length index → entry ≡ get_or index at entry
      → runs_of now index ≡ set runs at (refilled runs at families.items)
  changed_view now at entry families written is inside read =
      changed_runs slab now entry families written index at is inside read
      ∙ (λ i. set (view i) at (record { lo = (lo_under slab index at entry inside read ∙ ap (λ rs. (nth_run rs at).lo) view) i; families = families.items }))

-- the same runs with more room
module _ (slab now : Families) (index next : List RunEntry) (runs : List Run) (slots : now.slots ≡ slab.slots) (entries : next ≡ index) where
  pub roomy_view : runs_of slab index ≡ runs → runs_of now next ≡ runs
  roomy_view view = ap (runs_of now) entries ∙ same_runs slab now index slots ∙ view

  pub roomy_index : IsIndex slab index → IsIndex now next
  roomy_index is = subst (IsIndex now) (sym entries) (same_index slab now index slots is)

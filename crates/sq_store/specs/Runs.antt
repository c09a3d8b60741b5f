-- Families in runs, each with a lower bound of the root keys in it.
use Rattle.std.specs.Prelude.{◌≡◌, ◌<◌, ◌≤◌, ◌++◌, ◌∷◌, ◌&&◌, [], ℕ, List, length, take, drop, get_or, set, flat_map, filter, not, nat_le, nat_lt, All, IsTrue, Result, IfOk, OnErr, ⊤}
use Rattle.sq_schema.specs.TxnValue.{TxnValue}
use Rattle.sq_schema.specs.declared.txn.Reply.{Reply}
use Rattle.sq_schema.specs.declared.fault.ApplyFault.{ApplyFault}
use Rattle.sq_schema.specs.declared.root.TheConstants.{ROOT_END}
use Rattle.sq_schema.specs.Family.{FamilyValue}
use Rattle.sq_store.specs.Run.{Run, empty_run}
use Rattle.sq_store.specs.InOrder.{are_within}
use Rattle.sq_store.specs.Listed.{store_of, IsRootAt}
use Rattle.sq_store.specs.StoreValue.{StoreValue, store_reply, store_after}

-- the families of runs
abbrev pub families_in_runs : List Run → List FamilyValue
families_in_runs runs = flat_map (λ run. run.families) runs

-- the store of the families of runs
abbrev pub store_of_runs : List Run → StoreValue
store_of_runs runs = store_of (families_in_runs runs)

-- the families of a list from lo on and below hi
abbrev pub between : ℕ → ℕ → List FamilyValue → List FamilyValue
between lo hi families = filter (λ family. nat_le lo family.root && nat_lt family.root hi) families

-- the other families
abbrev pub outside : ℕ → ℕ → List FamilyValue → List FamilyValue
outside lo hi families = filter (λ family. not (nat_le lo family.root && nat_lt family.root hi)) families

-- the lower bound of the first run; this number if there is none
abbrev pub first_bound : ℕ → List Run → ℕ
first_bound hi [] = hi
first_bound hi (run ∷ runs) = run.lo

-- the families of each run rise from its bound on and below the bound of the next run, and those of
-- the last run below this number
abbrev pub AreRuns : ℕ → List Run → Type 0
AreRuns hi [] = ⊤
AreRuns hi (run ∷ runs) =
    (run.lo ≤ first_bound hi runs) × IsTrue (are_within run.lo (first_bound hi runs) run.families) × AreRuns hi runs

-- this many runs have bounds below this number
pub record IsBoundPlace (runs : List Run) (key at : ℕ) : Type 0 where
  pub within : at ≤ length runs
  pub below : All (λ run. run.lo < key) (take at runs)
  pub from : key ≤ first_bound key (drop at runs)

-- a root key belongs to the run at this place
pub record IsRunOf (runs : List Run) (root at : ℕ) : Type 0 where
  pub front : List Run
  pub run : Run
  pub back : List Run
  pub whole : runs ≡ front ++ run ∷ back
  pub count : length front ≡ at
  pub low : run.lo ≤ root
  pub high : root < first_bound ROOT_END back

-- the family of a root key is at this place of this run
pub record IsFamilyAt (runs : List Run) (root run at : ℕ) : Type 0 where
  pub of : IsRunOf runs root run
  pub here : IsRootAt of.run.families root at

-- a run was cut in two at a place
pub record IsCutRun (old : Run) (place : ℕ) (front back : Run) : Type 0 where
  pub lo : front.lo ≡ old.lo
  pub first : (d : FamilyValue) → back.lo ≡ (get_or old.families place d).root
  pub kept : front.families ≡ take place old.families
  pub cut : back.families ≡ drop place old.families

-- the run at a place was cut in two
pub record IsSplit (old : List Run) (at place : ℕ) (new : List Run) : Type 0 where
  pub front : List Run
  pub run : Run
  pub one : Run
  pub two : Run
  pub back : List Run
  pub was : old ≡ front ++ run ∷ back
  pub count : length front ≡ at
  pub is : new ≡ front ++ one ∷ two ∷ back
  pub parts : IsCutRun run place one two

-- the families are in other runs
pub record KeepsFamilies (old new : List Run) : Type 0 where
  pub runs : AreRuns ROOT_END new
  pub families : families_in_runs new ≡ families_in_runs old

-- the families from lo on and below hi are in the runs from one place on and before another
pub record IsSpan (runs : List Run) (lo hi first last : ℕ) : Type 0 where
  pub rise : first ≤ last
  pub within : last ≤ length runs
  pub before : between lo hi (families_in_runs (take first runs)) ≡ []
  pub after : between lo hi (families_in_runs (drop last runs)) ≡ []

-- the run at a place
abbrev pub nth_run : List Run → ℕ → Run
nth_run runs at = get_or runs at empty_run

-- the run at a place with other families
abbrev pub refilled : List Run → ℕ → List FamilyValue → Run
refilled runs at families = record { lo = (nth_run runs at).lo; families = families }

-- the run at a place with another bound
abbrev pub with_lo : List Run → ℕ → ℕ → Run
with_lo runs at lo = record { lo = lo; families = (nth_run runs at).families }

-- root keys from lo on and below end belong after the run at this place, whose families are all
-- below them
pub record IsGap (runs : List Run) (lo end at : ℕ) : Type 0 where
  pub front : List Run
  pub run : Run
  pub back : List Run
  pub whole : runs ≡ front ++ run ∷ back
  pub count : length front ≡ at
  pub low : run.lo ≤ lo
  pub below : IsTrue (are_within run.lo lo run.families)
  pub next : end ≤ first_bound end back

-- families rise from lo on and below end, and no family of the runs is between these
pub record IsBlock (runs : List Run) (families : List FamilyValue) (lo end : ℕ) : Type 0 where
  pub rise : lo < end
  pub bound : end < ROOT_END
  pub within : IsTrue (are_within lo end families)
  pub none : between lo end (families_in_runs runs) ≡ []

-- a transaction was answered on a run, which has other families after it if it committed
pub record IsApplied (old : List Run) (at : ℕ) (txn : TxnValue) (result : Result Reply ApplyFault) (new : List Run) : Type 0 where
  pub after : List FamilyValue
  pub is : new ≡ set old at (refilled old at after)
  pub reply : IfOk result (λ reply. reply ≡ store_reply (store_of (nth_run old at).families) txn)
  pub families : IfOk result (λ reply. store_of after ≡ store_after (store_of (nth_run old at).families) txn reply)
  pub within : (lo hi : ℕ) → IsTrue (are_within lo hi (nth_run old at).families) → IsTrue (are_within lo hi after)
  pub err : OnErr result (after ≡ (nth_run old at).families)

-- these families fit into a gap
pub record HasGap (runs : List Run) (families : List FamilyValue) (lo at : ℕ) : Type 0 where
  pub end : ℕ
  pub bound : end ≤ ROOT_END
  pub gap : IsGap runs lo end at
  pub rise : lo < end
  pub within : IsTrue (are_within lo end families)

-- the bounds from a place on are at least this, and the families the same
pub record IsRaised (old : List Run) (from end : ℕ) (new : List Run) : Type 0 where
  pub kept : take from new ≡ take from old
  pub next : end ≤ first_bound end (drop from new)
  pub keeps : KeepsFamilies old new

-- the families from lo on and below hi were taken out of the runs before a place
pub record IsTakenTo (old : List Run) (lo hi at : ℕ) (new : List Run) : Type 0 where
  pub runs : AreRuns ROOT_END new
  pub left : families_in_runs (take at new) ≡ outside lo hi (families_in_runs (take at old))
  pub rest : drop at new ≡ drop at old
  pub count : length new ≡ length old

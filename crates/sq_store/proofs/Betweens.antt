-- The families of a rising list from one number on and below another, and the others.
use Rattle.std.proofs.Common.{⊎_elim, ◌≡◌, ℕ, zero, suc, Bool, true, false, List, [], ◌∷◌, length, get_or, refl, sym, ap, ◌∙◌, arith}
use Rattle.std.specs.Prelude.{◌+◌, ◌<◌, ◌≤◌, ◌&&◌, nat_le, nat_lt, map, filter, not, cond, slice_range}
use Rattle.std.proofs.lemmas.Bool.{cases_lt}
use Rattle.sq_schema.specs.Family.{FamilyValue}
use Rattle.sq_store.specs.InOrder.{are_within}
use Rattle.sq_store.specs.Listed.{roots_rise, store_of, IsStart}
use Rattle.sq_store.specs.StoreValue.{families_between, without_between}
use Rattle.sq_store.proofs.Order.{first_rises, rising_upto}
use Rattle.sq_store.proofs.Lists.{IsListed, entries-store_of, values-entries_of}
use Rattle.sq_store.proofs.Spans.{filter-entries_of, between-store_of, kept}
use Rattle.sq_store.proofs.Places.{starts_rise}
use Rattle.sq_store.proofs.Rising.{rises}
use Rattle.sq_store.specs.Runs.{between, outside}
use Rattle.sq_store.proofs.Within.{within_cons, within_wider}

pub between_is : (families : List FamilyValue) (lo hi : ℕ) → roots_rise families ≡ true → families_between (store_of families) lo hi ≡ between lo hi families
between_is families lo hi rising =
    ap (λ es. map (λ entry. entry.1) (filter (λ entry. nat_le lo entry.0 && nat_lt entry.0 hi) es)) (entries-store_of families rising)
    ∙ ap (map (λ entry. entry.1)) (filter-entries_of (λ root. nat_le lo root && nat_lt root hi) families)
    ∙ values-entries_of (filter (λ family. nat_le lo family.root && nat_lt family.root hi) families)

pub outside_is : (families : List FamilyValue) (lo hi : ℕ) → roots_rise families ≡ true → IsListed (without_between (store_of families) lo hi) (outside lo hi families)
outside_is families lo hi rising = kept (λ root. not (nat_le lo root && nat_lt root hi)) families rising

-- they are those between two places
pub between_slice : (families : List FamilyValue) (lo hi first last : ℕ) → roots_rise families ≡ true → lo ≤ hi → IsStart families lo first → IsStart families hi last → slice_range families first last ≡ between lo hi families
between_slice families lo hi first last rising bounds low high =
    sym (between-store_of families lo hi first last rising (starts_rise families lo hi first last bounds low high) low high) ∙ between_is families lo hi rising

-- families that pass a test stay within the bounds
pub within_filter : (p : FamilyValue → Bool) (lo hi : ℕ) (families : List FamilyValue) → are_within lo hi families ≡ true → are_within lo hi (filter p families) ≡ true
within_filter p lo hi [] within = refl
within_filter p lo hi (family ∷ families) within =
    let r = rises lo hi family families within in
    let rest = within_filter p (family.root + 1) hi families r.rest in
    by_test (p family) (within_cons lo hi family (filter p families) r.low r.high rest) (within_wider (family.root + 1) hi lo hi (filter p families) rest (omega (arith, r.low)) (omega arith))
  where
    by_test : (b : Bool) → are_within lo hi (family ∷ filter p families) ≡ true → are_within lo hi (filter p families) ≡ true → are_within lo hi (cond b (family ∷ filter p families) (filter p families)) ≡ true
    by_test true some none = some
    by_test false some none = none

-- where the families from a number on start
pub record HasStart (families : List FamilyValue) (key : ℕ) : Type 0 where
  pub at : ℕ
  pub is : IsStart families key at

pub has_start : (families : List FamilyValue) (key : ℕ) → roots_rise families ≡ true → HasStart families key
has_start [] key rising = record { at = 0; is = record { within = omega arith; below = λ k d from inside. absurd (omega arith); from = λ k d from inside. absurd (omega arith) } }
has_start (family ∷ families) key rising =
    ⊎_elim
    (λ (low : family.root < key). later low (has_start families key (first_rises family families rising).rest))
    (λ (high : key ≤ family.root).
    record {
      at = 0;
      is = record { within = omega arith; below = λ k d from inside. absurd (omega arith); from = λ k d from inside. let up = rising_upto (family ∷ families) 0 k d rising (omega arith) inside in omega (arith, high, up) };
    })
    (cases_lt family.root key)
  where
    below_all : family.root < key → (rest : HasStart families key) → (k : ℕ) (d : FamilyValue) → 0 ≤ k → k < suc rest.at → (get_or (family ∷ families) k d).root < key
    below_all low rest zero d from inside = low
    below_all low rest (suc k) d from inside = rest.is.below k d (omega arith) (omega arith)

    from_all : (rest : HasStart families key) → (k : ℕ) (d : FamilyValue) → suc rest.at ≤ k → k < length (family ∷ families) → key ≤ (get_or (family ∷ families) k d).root
    from_all rest zero d from inside = absurd (omega arith)
    from_all rest (suc k) d from inside = rest.is.from k d (omega arith) (omega arith)

    later : family.root < key → HasStart families key → HasStart (family ∷ families) key
    later low rest = record { at = suc rest.at; is = record { within = let w = rest.is.within in omega (arith, w); below = below_all low rest; from = from_all rest } }

-- The index of jobs by id, as it grows, and the families that root keys have.
use Rattle.std.proofs.Common.{◌≡◌, ◌⊎◌, inl, inr, ⊎_elim, ℕ, ◌+◌, ◌-◌, ◌<◌, ◌≤◌, nat_lt, Bool, true, false, List, [], ◌∷◌, ◌++◌, length, slice_get, Contains, Some, None, sym, ap, ◌∙◌, subst, arith, ltb-true, ltb-false}
use Rattle.std.specs.Bool.{Decides}
use Rattle.std.specs.List.Sorted.{IsPermutation, IsNonDecreasingBy, IsPartitionPoint}
use Rattle.std.proofs.lemmas.List.Elements.{Contains-append_cases, Contains-append_left, Contains-append_right}
use Rattle.std.proofs.lemmas.List.Sorted.{IsPartitionedBy-ltb, IsPermutation-sym, Contains-permutation}
use Rattle.std.proofs.lemmas.Bool.{cases_lt, cases_eq}
use Rattle.std.proofs.lemmas.Bool.Decides.{Decides-and, Decides-like}
use Rattle.std.proofs.lemmas.Option.{slice_get_within, get_or_from_slice_get}
use Rattle.sq_gather.proofs.Prelude.{at_map, map_at, stands_at, Contains-nothing, Contains-first, Contains-later, Contains-cases, Contains-slice_get, slice_get-Contains}
use Rattle.sq_audit.specs.declared.located.Located.{Located}
use Rattle.sq_audit.specs.declared.located.Site.{Site}
use Rattle.sq_audit.specs.declared.located.Site.TheVariants.{Store, Chunk}
use Rattle.sq_audit.specs.contracts.located.SitePartialEq.TheImpl as site
use Rattle.sq_audit.specs.Located.{Entry, spot_of, entry_of, entries_in, AreByRoot}
use Rattle.sq_audit.specs.ById.{AreById}
use Rattle.sq_audit.specs.Index.{IsIndexTo, IsIndexOf, Agree, HasFamily, AgreeTo, AgreeOnSpots}
use Rattle.sq_audit.proofs.Counting.{pair_is}
use Rattle.sq_audit.proofs.Each.{decides_not, same_of, no_some}
use Rattle.sq_audit.proofs.Lists.{PartsAt}
use Rattle.std.specs.Cmp.{unsigned_Decides}

-- sites are equal that are one spot
pub site_same : (one other : Site) → Decides ((site.ghosts).eq one other) (spot_of one ≡ spot_of other)
site_same (Store part) (Store other) = Decides-like _ (λ same. ap (λ p. spot_of (Store p)) same) (λ same. cc) (unsigned_Decides part other)
site_same (Chunk link chunk) (Chunk other again) =
    Decides-like _ (λ same. let one = same.0 in let two = same.1 in cc) (λ same. ((cc), (cc))) (Decides-and _ _ (unsigned_Decides link other) (unsigned_Decides chunk again))
site_same _ _ = ((λ wrong. cc), (λ same. cc))

-- no keys of those before the first
pub index_none : {X : Type 0} (key : X → ℕ) (xs : List X) → IsIndexTo key xs 0 []
index_none key xs =
    record {
      found = λ k place has. let none = Contains-nothing {X = ℕ × ℕ} (k, place) has in absurd none;
      each = λ place x below at. absurd (omega (arith, below));
    }

module _ {X : Type 0} (key : X → ℕ) (xs : List X) (upto k : ℕ) (old new : List (ℕ × ℕ)) (one : X) (there : slice_get xs upto ≡ Some one) (is : key one ≡ k)
    (pushed : new ≡ old ++ (k, upto) ∷ []) (so_far : IsIndexTo key xs upto old) where
  old_or_last : (q place : ℕ) → Contains {X = ℕ × ℕ} new (q, place) → Contains {X = ℕ × ℕ} old (q, place) ⊎ Contains {X = ℕ × ℕ} ((k, upto) ∷ []) (q, place)
  old_or_last q place has = Contains-append_cases old ((k, upto) ∷ []) (q, place) (subst (λ (list : List (ℕ × ℕ)). Contains list (q, place)) pushed has)

  last_is : (q place : ℕ) → Contains {X = ℕ × ℕ} ((k, upto) ∷ []) (q, place) → Path (ℕ × ℕ) (k, upto) (q, place)
  last_is q place has = ⊎_elim (λ same. same) (λ more. absurd (Contains-nothing {X = ℕ × ℕ} (q, place) more)) (Contains-cases {X = ℕ × ℕ} (k, upto) [] (q, place) has)

  last_in : Contains {X = ℕ × ℕ} new (k, upto)
  last_in = subst (λ (list : List (ℕ × ℕ)). Contains list (k, upto)) (sym pushed) (Contains-append_right old ((k, upto) ∷ []) (k, upto) (Contains-first {X = ℕ × ℕ} (k, upto) []))

  pub index_next : IsIndexTo key xs (upto + 1) new
  index_next =
      record {
        found = λ q place has.
            ⊎_elim
            (so_far.found q place)
            (λ last.
            let same = last_is q place last in
            record { one = one; there = subst (λ n. slice_get xs n ≡ Some one) (ap (λ (p : ℕ × ℕ). p.1) same) there; key_is = is ∙ ap (λ (p : ℕ × ℕ). p.0) same })
            (old_or_last q place has);
        each = λ place x below at.
            ⊎_elim
            (λ low. subst (λ (list : List (ℕ × ℕ)). Contains list (key x, place)) (sym pushed) (Contains-append_left old ((k, upto) ∷ []) (key x, place) (so_far.each place x low at)))
            (λ from.
            let here : place ≡ upto = omega (arith, below, from) in
            let same = same_of xs upto place one x there at here in
            subst (λ (p : ℕ × ℕ). Contains new p) (pair_is (sym is ∙ ap key (sym same)) (sym here)) last_in)
            (cases_lt place upto);
      }

-- that the root keys don't fall, of entries and of what they are of
pub rise_entries : (all : List Located) → IsNonDecreasingBy (λ located. located.family.now.root) all → AreByRoot (entries_in all)
rise_entries all rise i j one other upto at there =
    let low = map_at entry_of all i one at in
    let high = map_at entry_of all j other there in
    let here = get_or_from_slice_get all i low.0 low.0 low.1 in
    let later = get_or_from_slice_get all j high.0 low.0 high.1 in
    let le = rise i j low.0 upto (slice_get_within all j high.0 high.1) in
    let one_root = ap (λ (l : Located). l.family.now.root) here ∙ ap (λ (e : Entry). e.1.root) low.2 in
    let other_root = ap (λ (l : Located). l.family.now.root) later ∙ ap (λ (e : Entry). e.1.root) high.2 in
    omega (arith, le, one_root, other_root)

pub rise_located : (all : List Located) → AreByRoot (entries_in all) → IsNonDecreasingBy (λ located. located.family.now.root) all
rise_located all rise i j d upto within =
    let low = stands_at all i (omega (arith, upto, within)) in
    let high = stands_at all j within in
    let here = ap (λ (l : Located). l.family.now.root) (get_or_from_slice_get all i low.0 d low.1) in
    let later = ap (λ (l : Located). l.family.now.root) (get_or_from_slice_get all j high.0 d high.1) in
    let le = rise i j (entry_of low.0) (entry_of high.0) upto (at_map entry_of all i low.0 low.1) (at_map entry_of all j high.0 high.1) in
    omega (arith, le, here, later)

-- a root key has a family, or it has none
pub either_family : (entries : List Entry) (root : ℕ) → HasFamily entries root ⊎ (HasFamily entries root → ⊥)
either_family [] root = inr (λ has. Contains-nothing has.0 has.1)
either_family (entry ∷ entries) root =
    elim (cases_eq entry.1.root root) [
      | inl same ↦ inl (entry, Contains-first entry entries, same)
      | inr apart ↦ elim (either_family entries root) [
        | inl has ↦ inl (has.0, Contains-later entry entries has.0 has.1, has.2)
        | inr none ↦ inr (λ has.
            ⊎_elim
            (λ same. apart (ap (λ (e : Entry). e.1.root) same ∙ has.2))
            (λ later. none (has.0, later, has.2))
            (Contains-cases entry entries has.0 has.1))
      ]
    ]

-- the first family of a root key is where those of lower root keys end
module _ (all : List Located) (rise : AreByRoot (entries_in all)) (root count : ℕ)
    (point : PartsAt (λ (located : Located). nat_lt located.family.now.root root) all count) where
  parted : IsPartitionPoint (λ located. nat_lt located.family.now.root root ≡ true) (λ located. nat_lt located.family.now.root root ≡ false) all count
  parted = point (IsPartitionedBy-ltb (λ located. located.family.now.root) all root (rise_located all rise))

  low : (k : ℕ) (entry : Entry) → slice_get (entries_in all) k ≡ Some entry → k < count → entry.1.root < root
  low k entry at before =
      let from = map_at entry_of all k entry at in
      let here = get_or_from_slice_get all k from.0 from.0 from.1 in
      let test : nat_lt from.0.family.now.root root ≡ true = ap (λ (l : Located). nat_lt l.family.now.root root) (sym here) ∙ parted.0 k from.0 (omega arith) before in
      let less = ltb-true from.0.family.now.root root test in
      let same = ap (λ (e : Entry). e.1.root) from.2 in
      omega (arith, less, same)

  high : (k : ℕ) (entry : Entry) → slice_get (entries_in all) k ≡ Some entry → count ≤ k → root ≤ entry.1.root
  high k entry at behind =
      let from = map_at entry_of all k entry at in
      let here = get_or_from_slice_get all k from.0 from.0 from.1 in
      let test : nat_lt from.0.family.now.root root ≡ false = ap (λ (l : Located). nat_lt l.family.now.root root) (sym here) ∙ parted.1 k from.0 behind (slice_get_within all k from.0 from.1) in
      let from_root = ltb-false from.0.family.now.root root test in
      let same = ap (λ (e : Entry). e.1.root) from.2 in
      omega (arith, from_root, same)

  -- a family of the root key is there or behind
  behind : (has : HasFamily (entries_in all) root) → count ≤ has.1.0
  behind has =
      ⊎_elim
      (λ before.
      let less = low has.1.0 has.0 (slice_get-Contains (entries_in all) has.0 has.1) before in
      let same = has.2 in
      absurd (omega (arith, less, same)))
      (λ from. from)
      (cases_lt has.1.0 count)

  pub first_family : (located : Located) (b : Bool) → slice_get all count ≡ Some located → Decides b (located.family.now.root ≡ root) → Decides b (HasFamily (entries_in all) root)
  first_family located b at decides =
      let there = at_map entry_of all count located at in
      Decides-like b
      (λ same. (entry_of located, Contains-slice_get (entries_in all) count (entry_of located) there, same))
      (λ has.
      let upto = rise count has.1.0 (entry_of located) has.0 (behind has) there (slice_get-Contains (entries_in all) has.0 has.1) in
      let from = high count (entry_of located) there (omega arith) in
      let same = has.2 in
      omega (arith, upto, from, same))
      decides

  pub no_family : slice_get all count ≡ None → Decides false (HasFamily (entries_in all) root)
  no_family none = decides_not (λ has.
      let found = map_at entry_of all has.1.0 has.0 (slice_get-Contains (entries_in all) has.0 has.1) in
      let within = slice_get_within all has.1.0 found.0 found.1 in
      let from = behind has in
      let last = stands_at all count (omega (arith, within, from)) in
      no_some last.0 (sym none ∙ last.1))

-- entries before the first but one agree
pub agree_first : (entries : List Entry) → AgreeTo entries 1
agree_first entries i j one other low high at there same =
    ap (λ (e : Entry). e.0) (sym (same_of entries i j one other at there (omega (arith, low, high))))

-- one more entry, which agrees with the one before it
module _ (entries : List Entry) (rise : AreByRoot entries) (at : ℕ) (some : 1 ≤ at) (before this : Entry) (there : slice_get entries (at - 1) ≡ Some before) (here : slice_get entries at ≡ Some this)
    (so_far : AgreeTo entries at) where
  level : Agree before this → (i : ℕ) (one : Entry) → i < at → slice_get entries i ≡ Some one → one.1.root ≡ this.1.root → one.0 ≡ this.0
  level agree i one low stands same =
      let upto = rise i (at - 1) one before (omega (arith, low)) stands there in
      let from = rise (at - 1) at before this (omega (arith, some)) there here in
      let equal : one.1.root ≡ before.1.root = omega (arith, upto, from, same) in
      so_far i (at - 1) one before low (omega (arith, some)) stands there equal ∙ agree (sym equal ∙ same)

  pub agree_more : Agree before this → AgreeTo entries (at + 1)
  agree_more agree i j one other low high stands also same =
      ⊎_elim
      (λ first.
      ⊎_elim
      (λ second. so_far i j one other first second stands also same)
      (λ last.
      let e : other ≡ this = same_of entries at j this other here also (omega (arith, high, last)) in
      level agree i one first stands (same ∙ ap (λ (x : Entry). x.1.root) e) ∙ ap (λ (x : Entry). x.0) (sym e))
      (cases_lt j at))
      (λ last.
      let e : one ≡ this = same_of entries at i this one here stands (omega (arith, low, last)) in
      ⊎_elim
      (λ second. ap (λ (x : Entry). x.0) e ∙ sym (level agree j other second also (sym same ∙ ap (λ (x : Entry). x.1.root) e)))
      (λ also_last. ap (λ (x : Entry). x.0) (e ∙ sym (same_of entries at j this other here also (omega (arith, high, also_last)))))
      (cases_lt j at))
      (cases_lt i at)

-- the index once all are in it, and in order
pub index_whole : {X : Type 0} (key : X → ℕ) (xs : List X) (upto : ℕ) (places sorted : List (ℕ × ℕ)) → length xs ≤ upto → IsIndexTo key xs upto places → IsPermutation places sorted → AreById sorted
    → IsIndexOf key xs sorted
index_whole key xs upto places sorted whole so_far same by =
    record {
      by = by;
      found = λ k place has. so_far.found k place (Contains-permutation sorted places (k, place) (IsPermutation-sym places sorted same) has);
      each = λ x has.
          let at = slice_get-Contains xs x has in
          let within = slice_get_within xs has.0 x at in
          (has.0, Contains-permutation places sorted (key x, has.0) same (so_far.each has.0 x (omega (arith, within, whole)) at));
    }

pub agree_whole : (entries : List Entry) (upto : ℕ) (once : Bool) → length entries ≤ upto → Decides once (AgreeTo entries upto) → Decides once (AgreeOnSpots entries)
agree_whole entries upto once whole agrees =
    Decides-like once
    (λ agree one other has also same_root.
    let at = slice_get-Contains entries one has in
    let there = slice_get-Contains entries other also in
    let low = slice_get_within entries has.0 one at in
    let high = slice_get_within entries also.0 other there in
    agree has.0 also.0 one other (omega (arith, low, whole)) (omega (arith, high, whole)) at there same_root)
    (λ agree i j one other low high at there same_root. agree one other (Contains-slice_get entries i one at) (Contains-slice_get entries j other there) same_root)
    agrees

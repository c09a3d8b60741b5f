-- All families of what was gathered are listed: those of a store by rising root key, those of a chunk in their order.
use Rattle.std.proofs.Common.{IsPermutation, ◌≡◌, ⊎_elim, ℕ, ◌+◌, ◌<◌, ◌≤◌, ◌==◌, get_or, true, if◌then◌else◌, List, [], ◌∷◌, ◌++◌, map, length, slice_get, Contains, Some, sym, ap, ◌∙◌, subst, arith, append_assoc, eqb-true, eq-eqb}
use Rattle.std.proofs.lemmas.List.Sorted.{IsPermutation-sym, Contains-permutation}
use Rattle.std.specs.Prelude.{option_and_then, All}
use Rattle.std.specs.FinMap.{get, entries, get-entries}
use Rattle.std.specs.Ordering.{nat_cmp, is_lt}
use Rattle.std.proofs.lemmas.Bool.{cases_lt, and_parts, ne_eqb}
use Rattle.std.proofs.lemmas.List.{append-nil, map-append, length-map}
use Rattle.std.proofs.lemmas.List.Elements.{All-contains, Contains-append_left, Contains-append_right, Contains-append_cases}
use Rattle.std.proofs.lemmas.Option.{slice_get_within, slice_get-get_or}
use Rattle.sq_gather.specs.Prelude.{FamilyValue, StoreValue, family_in, families_in, HoldsByRoot, are_within, AreKeyed, roots_rise, ChunkValue, Spot, Store, Chunk, IsOf, GatheredLink, GatheredValue, StandsAt}
use Rattle.sq_gather.proofs.Prelude.{is_below, first_rises, less_from_cmp, family_in-entries, sorted_is, rises, rising_in, Contains-nothing, Contains-cases, found_in, map_in, at_map, Contains-map, of_some}
use Rattle.sq_audit.specs.declared.located.Located.{Located}
use Rattle.sq_audit.specs.Located.{Entry, entry_of, entries_in, AreAllFamilies, AddsAll, AddsLink, ListsAll, ListsStored}
use Rattle.sq_audit.proofs.Each.{same_of}

-- what an iteration reads
pub item_at : {X : Type 0} (xs : List X) (i : ℕ) (x : X) → x ≡ get_or xs i x → i < length xs → slice_get xs i ≡ Some x
item_at xs i x is within = slice_get-get_or xs i x within ∙ ap Some (sym is)

-- the same of what is made of each element
pub mapped_at : {X Y : Type 0} (f : X → Y) (xs : List X) (i : ℕ) (x : X) → x ≡ get_or xs i x → i < length xs → slice_get (map f xs) i ≡ Some (f x)
mapped_at f xs i x is within = at_map f xs i x (item_at xs i x is within)

pub mapped_past : {X Y : Type 0} (f : X → Y) (xs : List X) (i : ℕ) → length xs ≤ i → length (map f xs) ≤ i
mapped_past f xs i past = subst (λ n. n ≤ i) (sym (length-map xs f)) past

-- the same where the list is read as another, whose length is the end
pub item_of : {X : Type 0} (xs ys : List X) (i : ℕ) (x : X) → xs ≡ ys → x ≡ get_or xs i x → i < length xs → slice_get ys i ≡ Some x
item_of {X} xs ys i x same is within = ap (λ (list : List X). slice_get list i) (sym same) ∙ item_at xs i x is within

pub end_of : {X : Type 0} (xs ys : List X) (i : ℕ) → xs ≡ ys → i ≤ length xs → length xs ≤ i → i ≡ length ys
end_of xs ys i same upto past = omega (arith, upto, past, ap length same)

-- a family whose log is its own is the family of its root key
of_root : (root : ℕ) (family : FamilyValue) → family.root ≡ root → All (λ txn. txn.root ≡ family.root) family.log → IsOf root family
of_root root family same own = record { same_root = same; own_log = subst (λ k. All (λ txn. txn.root ≡ k) family.log) same own }

-- one more is listed
pub pushed : (all : List Located) (one : Located) (before : List Entry) (families : List FamilyValue) (spot : Spot) (family : FamilyValue)
    → entries_in all ≡ before ++ map (λ f. (spot, f)) families → entry_of one ≡ (spot, family)
    → entries_in (all ++ one ∷ []) ≡ before ++ map (λ f. (spot, f)) (families ++ family ∷ [])
pushed all one before families spot family so_far is =
    let pair : FamilyValue → Entry = λ f. (spot, f) in
    map-append entry_of all (one ∷ [])
    ∙ ap (λ (es : List Entry). es ++ entry_of one ∷ []) so_far
    ∙ ap (λ (e : Entry). (before ++ map pair families) ++ e ∷ []) is
    ∙ append_assoc before (map pair families) (pair family ∷ [])
    ∙ ap (λ (es : List Entry). before ++ es) (sym (map-append pair families (family ∷ [])))

-- of the families of a store some were added, and these are left
pub record SomeAdded (spot : Spot) (store : StoreValue) (before : List Entry) (left : List FamilyValue) (now : List Entry) : Type 0 where
  pub families : List FamilyValue
  pub added : now ≡ before ++ map (λ family. (spot, family)) families
  pub rest : families ++ left ≡ families_in store
  pub own : (family : FamilyValue) → Contains families family → All (λ txn. txn.root ≡ family.root) family.log

pub none_added : (spot : Spot) (store : StoreValue) (before : List Entry) (left : List FamilyValue) → left ≡ families_in store → SomeAdded spot store before left before
none_added spot store before left whole = record { families = []; added = sym (append-nil before); rest = whole; own = λ family has. absurd (Contains-nothing family has) }

pub more_added : (spot : Spot) (store : StoreValue) (before : List Entry) (left rest : List FamilyValue) (all : List Located) (one : Located) (family : FamilyValue)
    → SomeAdded spot store before left (entries_in all) → left ≡ family ∷ rest → entry_of one ≡ (spot, family) → All (λ txn. txn.root ≡ family.root) family.log → SomeAdded spot store before rest (entries_in (all ++ one ∷ []))
more_added spot store before left rest all one family so_far next is own =
    record {
      families = so_far.families ++ family ∷ [];
      added = pushed all one before so_far.families spot family so_far.added is;
      rest = append_assoc so_far.families (family ∷ []) rest ∙ sym (ap (λ (fs : List FamilyValue). so_far.families ++ fs) next) ∙ so_far.rest;
      own = λ other has.
          ⊎_elim (so_far.own other)
          (λ last. ⊎_elim
          (λ same. subst (λ (f : FamilyValue). All (λ txn. txn.root ≡ f.root) f.log) same own)
          (λ none. absurd (Contains-nothing other none))
          (Contains-cases family [] other last))
          (Contains-append_cases so_far.families (family ∷ []) other has);
    }

-- families that rise are found by their root keys
above : (key : ℕ) (families : List FamilyValue) (family : FamilyValue) → is_below key families ≡ true → Contains families family → key < family.root
above key [] family below has = absurd (Contains-nothing family has)
above key (first ∷ families) family below has =
    let parts = and_parts (is_lt (nat_cmp key first.root)) (is_below key families) below in
    ⊎_elim
    (λ same. let low = less_from_cmp key first.root parts.0 in let root : first.root ≡ family.root = ap (λ (f : FamilyValue). f.root) same in omega (arith, low, root))
    (λ later. above key families family parts.1 later)
    (Contains-cases first families family has)

found_among : (families : List FamilyValue) (family : FamilyValue) → roots_rise families ≡ true → Contains families family → family_in families family.root ≡ Some family
found_among [] family rising has = absurd (Contains-nothing family has)
found_among (first ∷ families) family rising has =
    let parts = first_rises first families rising in
    ⊎_elim
    (λ same. ap (λ b. if b then Some first else family_in families family.root) (eq-eqb first.root family.root (ap (λ (f : FamilyValue). f.root) same)) ∙ ap Some same)
    (λ later.
    let low = above first.root families family parts.below later in
    ap (λ b. if b then Some first else family_in families family.root) (ne_eqb first.root family.root (λ same. absurd (omega (arith, low, same))))
    ∙ found_among families family parts.rest later)
    (Contains-cases first families family has)

-- a family is found in a store as it is among its families
found_stored : (store : StoreValue) (key : ℕ) → HoldsByRoot store → family_in (families_in store) key ≡ get store key
found_stored store key by = family_in-entries (entries store) key (sorted_is store) (λ key family e. by key family (get-entries store key ∙ e)) ∙ sym (get-entries store key)

pub all_added : (spot : Spot) (store : StoreValue) (before : List Entry) (left : List FamilyValue) (now : List Entry) → HoldsByRoot store → left ≡ [] → SomeAdded spot store before left now → AddsAll spot (get store) before now
all_added spot store before left now by none so_far =
    let whole : so_far.families ≡ families_in store = sym (append-nil so_far.families) ∙ sym (ap (λ (fs : List FamilyValue). so_far.families ++ fs) none) ∙ so_far.rest in
    record {
      families = so_far.families;
      all = record {
        here = λ family has.
            sym (found_stored store family.root by)
            ∙ found_among (families_in store) family (rising_in store by) (subst (λ (fs : List FamilyValue). Contains fs family) whole has);
        each = each whole;
        keyed = λ root family stands. of_root root family (by root family stands) (so_far.own family (each whole root family stands));
      };
      added = so_far.added;
    }
  where
    each : so_far.families ≡ families_in store → (root : ℕ) (family : FamilyValue) → get store root ≡ Some family → Contains so_far.families family
    each whole root family stands =
        subst (λ (fs : List FamilyValue). Contains fs family) (sym whole)
        (found_in (λ f. f.root == root) (families_in store) family (found_stored store root by ∙ stands)).0

-- families that rise are found by their root keys
lowest : (lo hi : ℕ) (families : List FamilyValue) (family : FamilyValue) → are_within lo hi families ≡ true → Contains families family → lo ≤ family.root
lowest lo hi [] family rise has = absurd (Contains-nothing family has)
lowest lo hi (first ∷ families) family rise has =
    let r = rises lo hi first families rise in
    let low = r.low in
    ⊎_elim
    (λ same. let root : first.root ≡ family.root = ap (λ (f : FamilyValue). f.root) same in omega (arith, low, root))
    (λ later. let above = lowest (first.root + 1) hi families family r.rest later in omega (arith, low, above))
    (Contains-cases first families family has)

found_here : (lo hi : ℕ) (families : List FamilyValue) (family : FamilyValue) → are_within lo hi families ≡ true → Contains families family → family_in families family.root ≡ Some family
found_here lo hi [] family rise has = absurd (Contains-nothing family has)
found_here lo hi (first ∷ families) family rise has =
    let r = rises lo hi first families rise in
    ⊎_elim
    (λ same. ap (λ b. if b then Some first else family_in families family.root) (eq-eqb first.root family.root (ap (λ (f : FamilyValue). f.root) same)) ∙ ap Some same)
    (λ later.
    let above = lowest (first.root + 1) hi families family r.rest later in
    ap (λ b. if b then Some first else family_in families family.root) (ne_eqb first.root family.root (λ same. absurd (omega (arith, above, same))))
    ∙ found_here (first.root + 1) hi families family r.rest later)
    (Contains-cases first families family has)

pub carried_all : (lo hi : ℕ) (families : List FamilyValue) → are_within lo hi families ≡ true → AreKeyed families → AreAllFamilies (family_in families) families
carried_all lo hi families rise own =
    record {
      here = λ family has. found_here lo hi families family rise has;
      each = λ root family found. (found_in (λ f. f.root == root) families family found).0;
      keyed = λ root family found.
          let here = found_in (λ f. f.root == root) families family found in
          of_root root family (eqb-true family.root root here.1) (All-contains (λ f. All (λ txn. txn.root ≡ f.root) f.log) families family own here.0);
    }

-- the families of the chunks before one of a link
pub record CarriedTo (link : ℕ) (of : GatheredLink) (upto : ℕ) (entries : List Entry) : Type 0 where
  pub here : (entry : Entry) → Contains entries entry → (chunk : ℕ) × (found : ChunkValue) × (entry.0 ≡ Chunk link chunk) × (slice_get of.under_way chunk ≡ Some found) × (family_in found.families entry.1.root ≡ Some entry.1)
  pub each : (chunk root : ℕ) (found : ChunkValue) (family : FamilyValue) → chunk < upto → slice_get of.under_way chunk ≡ Some found → family_in found.families root ≡ Some family
      → Contains entries (Chunk link chunk, family) × IsOf root family

pub carried_none : (link : ℕ) (of : GatheredLink) → CarriedTo link of 0 []
carried_none link of = record { here = λ entry has. absurd (Contains-nothing entry has); each = λ chunk root found family below there at. absurd (omega (arith, below)) }

-- what is added of a spot
abbrev pub of_spot : Spot → List FamilyValue → List Entry
of_spot spot families = map (λ family. (spot, family)) families

module _ (link : ℕ) (of : GatheredLink) (chunk : ℕ) (found : ChunkValue) (there : slice_get of.under_way chunk ≡ Some found) where
  pub carried_next : (entries : List Entry) (families : List FamilyValue) → CarriedTo link of chunk entries → AreAllFamilies (family_in found.families) families
      → CarriedTo link of (chunk + 1) (entries ++ of_spot (Chunk link chunk) families)
  carried_next entries families so_far all =
      let more = of_spot (Chunk link chunk) families in
      record {
        here = λ entry has.
            ⊎_elim (so_far.here entry)
            (λ last.
            let at = map_in (λ family. (Chunk link chunk, family)) families entry last in
            (chunk, found, ap (λ (e : Entry). e.0) (sym at.2), there, subst (λ (f : FamilyValue). family_in found.families f.root ≡ Some f) (ap (λ (e : Entry). e.1) at.2) (all.here at.0 at.1)))
            (Contains-append_cases entries more entry has);
        each = λ other root again family below also stands.
            ⊎_elim
            (λ low. let old = so_far.each other root again family low also stands in (Contains-append_left entries more (Chunk link other, family) old.0, old.1))
            (λ from.
            let here : other ≡ chunk = omega (arith, below, from) in
            let same : again ≡ found = same_of of.under_way chunk other found again there also here in
            let stands_here : family_in found.families root ≡ Some family = ap (λ (c : ChunkValue). family_in c.families root) (sym same) ∙ stands in
            let listed = Contains-append_right entries more (Chunk link chunk, family) (Contains-map (λ f. (Chunk link chunk, f)) families family (all.each root family stands_here)) in
            (subst (λ k. Contains (entries ++ more) (Chunk link k, family)) (sym here) listed, all.keyed root family stands_here))
            (cases_lt other chunk);
      }

pub carried_whole : (link : ℕ) (of : GatheredLink) (old new entries : List Entry) → CarriedTo link of (length of.under_way) entries → new ≡ old ++ entries → AddsLink link of old new
carried_whole link of old new entries whole added =
    record {
      entries = entries;
      here = whole.here;
      each = λ chunk root found family there stands. whole.each chunk root found family (slice_get_within of.under_way chunk found there) there stands;
      added = added;
    }

-- the families of the stores before one
pub record StoredTo (g : GatheredValue) (upto : ℕ) (entries : List Entry) : Type 0 where
  pub here : (entry : Entry) → Contains entries entry → StandsAt g entry.0 entry.1.root entry.1
  pub stores : (part root : ℕ) (family : FamilyValue) → part < upto → StandsAt g (Store part) root family → Contains entries (Store part, family) × IsOf root family

-- and of all stores, and of the links before one
pub record LinkedTo (g : GatheredValue) (upto : ℕ) (entries : List Entry) : Type 0 where
  pub here : (entry : Entry) → Contains entries entry → StandsAt g entry.0 entry.1.root entry.1
  pub stores : (part root : ℕ) (family : FamilyValue) → StandsAt g (Store part) root family → Contains entries (Store part, family) × IsOf root family
  pub links : (link chunk root : ℕ) (family : FamilyValue) → link < upto → StandsAt g (Chunk link chunk) root family → Contains entries (Chunk link chunk, family) × IsOf root family

module _ (g : GatheredValue) where
  pub stored_none : StoredTo g 0 []
  stored_none = record { here = λ entry has. absurd (Contains-nothing entry has); stores = λ part root family below stands. absurd (omega (arith, below)) }

  pub stored_next : (part : ℕ) (store : StoreValue) (old new : List Entry) → slice_get g.stores part ≡ Some store → StoredTo g part old → AddsAll (Store part) (get store) old new → StoredTo g (part + 1) new
  stored_next part store old new there so_far adds =
      let more = of_spot (Store part) adds.families in
      subst (StoredTo g (part + 1)) (sym adds.added)
      (record {
        here = λ entry has.
            ⊎_elim (so_far.here entry)
            (λ last.
            let at = map_in (λ family. (Store part, family)) adds.families entry last in
            subst (λ (e : Entry). StandsAt g e.0 e.1.root e.1) at.2
            (ap (option_and_then (λ (s : StoreValue). get s at.0.root)) there ∙ adds.all.here at.0 at.1))
            (Contains-append_cases old more entry has);
        stores = λ other root family below stands.
            ⊎_elim
            (λ low. let before = so_far.stores other root family low stands in (Contains-append_left old more (Store other, family) before.0, before.1))
            (λ from.
            let here : other ≡ part = omega (arith, below, from) in
            let stands_here : get store root ≡ Some family = sym (ap (option_and_then (λ (s : StoreValue). get s root)) (ap (slice_get g.stores) here ∙ there)) ∙ stands in
            let listed = Contains-append_right old more (Store part, family) (Contains-map (λ f. (Store part, f)) adds.families family (adds.all.each root family stands_here)) in
            (subst (λ k. Contains (old ++ more) (Store k, family)) (sym here) listed, adds.all.keyed root family stands_here))
            (cases_lt other part);
      })

  -- all stores were walked, by a loop over them
  pub stored_all : (entries : List Entry) (stores : List StoreValue) (i : ℕ) → stores ≡ g.stores → i ≤ length stores → length stores ≤ i → StoredTo g i entries → ListsStored g entries
  stored_all entries stores i same upto past so_far =
      let stored : StoredTo g (length g.stores) entries = subst (λ k. StoredTo g k entries) (end_of stores g.stores i same upto past) so_far in
      record {
        here = stored.here;
        each = λ part root family stands.
            let at = of_some (λ (s : StoreValue). get s root) (slice_get g.stores part) family stands in
            stored.stores part root family (slice_get_within g.stores part at.0 at.1) stands;
      }

  pub linked_none : (entries : List Entry) → ListsStored g entries → LinkedTo g 0 entries
  linked_none entries stored = record { here = stored.here; stores = stored.each; links = λ link chunk root family below stands. absurd (omega (arith, below)) }

  pub linked_next : (link : ℕ) (of : GatheredLink) (old new : List Entry) → slice_get g.links link ≡ Some of → LinkedTo g link old → AddsLink link of old new → LinkedTo g (link + 1) new
  linked_next link of old new there so_far adds =
      let more = adds.entries in
      let chunk_at : (chunk : ℕ) → option_and_then (λ (l : GatheredLink). slice_get l.under_way chunk) (slice_get g.links link) ≡ slice_get of.under_way chunk = λ chunk. ap (option_and_then (λ (l : GatheredLink). slice_get l.under_way chunk)) there in
      subst (LinkedTo g (link + 1)) (sym adds.added)
      (record {
        here = λ entry has.
            ⊎_elim (so_far.here entry)
            (λ last.
            let at = adds.here entry last in
            subst (λ (spot : Spot). StandsAt g spot entry.1.root entry.1) (sym at.2)
            (ap (option_and_then (λ (c : ChunkValue). family_in c.families entry.1.root)) (chunk_at at.0 ∙ at.3) ∙ at.4))
            (Contains-append_cases old more entry has);
        stores = λ part root family stands. let before = so_far.stores part root family stands in (Contains-append_left old more (Store part, family) before.0, before.1);
        links = λ other chunk root family below stands.
            ⊎_elim
            (λ low. let before = so_far.links other chunk root family low stands in (Contains-append_left old more (Chunk other chunk, family) before.0, before.1))
            (λ from.
            let here : other ≡ link = omega (arith, below, from) in
            let stands_here : StandsAt g (Chunk link chunk) root family = subst (λ k. StandsAt g (Chunk k chunk) root family) here stands in
            let at = of_some (λ (c : ChunkValue). family_in c.families root) (option_and_then (λ (l : GatheredLink). slice_get l.under_way chunk) (slice_get g.links link)) family stands_here in
            let listed = adds.each chunk root at.0 family (sym (chunk_at chunk) ∙ at.1) at.2 in
            (subst (λ k. Contains (old ++ more) (Chunk k chunk, family)) (sym here) (Contains-append_right old more (Chunk link chunk, family) listed.0), listed.1))
            (cases_lt other link);
      })

  -- and all links
  pub listed_all : (entries : List Entry) (links : List GatheredLink) (i : ℕ) → links ≡ g.links → i ≤ length links → length links ≤ i → LinkedTo g i entries → ListsAll g entries
  listed_all entries links i same upto past so_far =
      record { here = so_far.here; each = λ spot root family stands. (known spot root family stands).0; keyed = λ spot root family stands. (known spot root family stands).1 }
    where
      linked : LinkedTo g (length g.links) entries
      linked = subst (λ k. LinkedTo g k entries) (end_of links g.links i same upto past) so_far

      known : (spot : Spot) (root : ℕ) (family : FamilyValue) → StandsAt g spot root family → Contains entries (spot, family) × IsOf root family
      known (Store part) root family stands = linked.stores part root family stands
      known (Chunk link chunk) root family stands =
          let at = of_some (λ (c : ChunkValue). family_in c.families root) (option_and_then (λ (l : GatheredLink). slice_get l.under_way chunk) (slice_get g.links link)) family stands in
          let of = of_some (λ (l : GatheredLink). slice_get l.under_way chunk) (slice_get g.links link) at.0 at.1 in
          linked.links link chunk root family (slice_get_within g.links link of.0 of.1) stands

-- entries in another order list the same
pub lists_permuted : (g : GatheredValue) (xs ys : List Entry) → IsPermutation xs ys → ListsAll g xs → ListsAll g ys
lists_permuted g xs ys same lists =
    record {
      here = λ entry has. lists.here entry (Contains-permutation ys xs entry (IsPermutation-sym xs ys same) has);
      each = λ spot root family stands. Contains-permutation xs ys (spot, family) same (lists.each spot root family stands);
      keyed = lists.keyed;
    }

-- How many families of one root key there are among families that are put together.
use Rattle.std.proofs.Common.{◌≡◌, ◌≢◌, ℕ, zero, suc, ◌+◌, ◌<◌, ◌≤◌, ◌==◌, Bool, true, List, [], ◌∷◌, ◌++◌, length, get_or, drop, inl, inr, refl, sym, ap, ◌∙◌, subst, arith, length-append}
use Rattle.std.specs.Prelude.{if◌then◌else◌, Option, Some, None, is_some, count_by, reverse, map}
use Rattle.std.specs.List.{All, flat_map, range_with_len}
use Rattle.std.proofs.lemmas.Bool.{cases_eq, eq-eqb, ne_eqb}
use Rattle.std.proofs.lemmas.List.{reverse-append}
use Rattle.std.proofs.lemmas.List.Elements.{All-nil, All-cons, All-head, All-tail, All-append}
use Rattle.std.proofs.lemmas.List.Sums.{sum_by-cons, sum_by-append}
use Rattle.sq_schema.specs.Family.{FamilyValue}
use Rattle.sq_store.specs.declared.chunk.Note.{Note}
use Rattle.sq_store.specs.ChunkValue.{ChunkValue, are_within}
use Rattle.sq_store.specs.StoreValue.{family_in}
use Rattle.sq_store.proofs.Rising.{rises, none_below}
use Rattle.sq_model.specs.Orderly.{AreNumbered}

-- how many families there are of a root key
abbrev pub families_of : ℕ → List FamilyValue → ℕ
families_of root families = count_by (λ (family : FamilyValue). family.root == root) families

abbrev pub count_if : Bool → ℕ
count_if same = if same then 1 else 0

abbrev pub one_of : ℕ → FamilyValue → ℕ
one_of root family = count_if (family.root == root)

pub more_of : (root : ℕ) (family : FamilyValue) (families : List FamilyValue) → families_of root (family ∷ families) ≡ one_of root family + families_of root families
more_of root family families = sum_by-cons (one_of root) family families

both_of : (root : ℕ) (some others : List FamilyValue) → families_of root (some ++ others) ≡ families_of root some + families_of root others
both_of root some others = sum_by-append (one_of root) some others

-- families that rise

first_is : (family : FamilyValue) (families : List FamilyValue) (root : ℕ) → family.root ≡ root → family_in (family ∷ families) root ≡ Some family
first_is family families root same = ap (λ (b : Bool). if b then Some family else family_in families root) (eq-eqb family.root root same)

later_is : (family : FamilyValue) (families : List FamilyValue) (root : ℕ) → family.root ≢ root → family_in (family ∷ families) root ≡ family_in families root
later_is family families root apart = ap (λ (b : Bool). if b then Some family else family_in families root) (ne_eqb family.root root apart)

-- there is one of a root key at most, and that is the one that is found
pub rising_few : (lo hi : ℕ) (families : List FamilyValue) (root : ℕ) → are_within lo hi families ≡ true → families_of root families ≤ count_if (is_some (family_in families root))
rising_few lo hi [] root rising = omega arith
rising_few lo hi (family ∷ families) root rising =
    let r = rises lo hi family families rising in
    let rest = rising_few (family.root + 1) hi families root r.rest in
    let more = more_of root family families in
    elim (cases_eq family.root root) [
      | inl same ↦
          let found : count_if (is_some (family_in (family ∷ families) root)) ≡ 1 = ap (λ (o : Option FamilyValue). count_if (is_some o)) (first_is family families root same) in
          let none : count_if (is_some (family_in families root)) ≡ 0 = ap (λ (o : Option FamilyValue). count_if (is_some o)) (none_below (family.root + 1) hi families root r.rest (omega (arith, same))) in
          let here : one_of root family ≡ 1 = ap count_if (eq-eqb family.root root same) in
          omega (arith, found, none, here, rest, more)
      | inr apart ↦
          let found : count_if (is_some (family_in (family ∷ families) root)) ≡ count_if (is_some (family_in families root)) = ap (λ (o : Option FamilyValue). count_if (is_some o)) (later_is family families root apart) in
          let here : one_of root family ≡ 0 = ap count_if (ne_eqb family.root root apart) in
          omega (arith, found, here, rest, more)
    ]

-- what holds of each that is found by its root key holds of each
pub rising_all : (P : FamilyValue → Type 0) (lo hi : ℕ) (families : List FamilyValue) → are_within lo hi families ≡ true → ((root : ℕ) (family : FamilyValue) → family_in families root ≡ Some family → P family) → All P families
rising_all P lo hi [] rising holds = All-nil P
rising_all P lo hi (family ∷ families) rising holds =
    let r = rises lo hi family families rising in
    All-cons P family families (holds family.root family (first_is family families family.root refl))
    (rising_all P (family.root + 1) hi families r.rest (λ root other found.
    holds root other (later_is family families root (λ same. not_below root other (omega (arith, same)) found) ∙ found)))
  where
    not_below : (root : ℕ) (other : FamilyValue) → root < family.root + 1 → family_in families root ≡ Some other → ⊥
    not_below root other below found =
        let none = none_below (family.root + 1) hi families root (rises lo hi family families rising).rest below in
        let no : None ≡ Some other = sym none ∙ found in
        cc

-- lists of lists

pub flat_all : {X : Type 0} (P : FamilyValue → Type 0) (f : X → List FamilyValue) (xs : List X) → All (λ (x : X). All P (f x)) xs → All P (flat_map f xs)
flat_all P f [] all = All-nil P
flat_all {X} P f (x ∷ xs) all = All-append P (f x) (flat_map f xs) (All-head (λ (y : X). All P (f y)) x xs all) (flat_all P f xs (All-tail (λ (y : X). All P (f y)) x xs all))

pub flat_none : {X : Type 0} (root : ℕ) (f : X → List FamilyValue) (xs : List X) → All (λ (x : X). families_of root (f x) ≡ 0) xs → families_of root (flat_map f xs) ≡ 0
flat_none root f [] none = refl
flat_none {X} root f (x ∷ xs) none =
    let here = All-head (λ (y : X). families_of root (f y) ≡ 0) x xs none in
    let rest = flat_none root f xs (All-tail (λ (y : X). families_of root (f y) ≡ 0) x xs none) in
    omega (arith, both_of root (f x) (flat_map f xs), here, rest)

-- the keys of elements are numbers in a row, from this one on
abbrev pub AreInRow : {X : Type 0} → (X → ℕ) → ℕ → List X → Type 0
AreInRow key from [] = Unit {0}
AreInRow key from (x ∷ xs) = (key x ≡ from) × AreInRow key (from + 1) xs

-- at most one, and none where the row is past a key
pub record IsFew (n at from : ℕ) : Type 0 where
  pub few : n ≤ 1
  pub none : at < from → n ≡ 0

-- where only the element of this key may have one, all have one at most
pub flat_few : {X : Type 0} (root : ℕ) (key : X → ℕ) (at : ℕ) (f : X → List FamilyValue) (xs : List X) (from : ℕ) → AreInRow key from xs → All (λ (x : X). families_of root (f x) ≤ count_if (at == key x)) xs
    → IsFew (families_of root (flat_map f xs)) at from
flat_few root key at f [] from row each = record { few = omega arith; none = λ past. refl }
flat_few {X} root key at f (x ∷ xs) from row each =
    let here = All-head (λ (y : X). families_of root (f y) ≤ count_if (at == key y)) x xs each in
    let rest = flat_few root key at f xs (from + 1) row.1 (All-tail (λ (y : X). families_of root (f y) ≤ count_if (at == key y)) x xs each) in
    let all = both_of root (f x) (flat_map f xs) in
    elim (cases_eq at (key x)) [
      | inl same ↦
          let one : count_if (at == key x) ≡ 1 = ap count_if (eq-eqb at (key x) same) in
          let later : families_of root (flat_map f xs) ≡ 0 = rest.none (omega (arith, same, row.0)) in
          record { few = omega (arith, here, one, later, all); none = λ past. absurd (omega (arith, past, same, row.0)) }
      | inr apart ↦
          let no : count_if (at == key x) ≡ 0 = ap count_if (ne_eqb at (key x) apart) in
          record { few = omega (arith, here, no, rest.few, all); none = λ past. let later = rest.none (omega (arith, past)) in omega (arith, here, no, later, all) }
    ]

-- rows of keys

pub range_row : (from n : ℕ) → AreInRow (λ (k : ℕ). k) from (range_with_len from n)
range_row from zero = tt
range_row from (suc n) = (refl, range_row (from + 1) n)

pub row_by : {X : Type 0} (key : X → ℕ) (d : X) (xs : List X) (from : ℕ) → ((k : ℕ) → k < length xs → key (get_or xs k d) ≡ from + k) → AreInRow key from xs
row_by key d [] from is = tt
row_by key d (x ∷ xs) from is =
    let first = is 0 (omega arith) in
    (omega (arith, first), row_by key d xs (from + 1) (λ k within. let next = is (suc k) (omega (arith, within)) in omega (arith, next)))

row_pushed : {X : Type 0} (key : X → ℕ) (xs : List X) (from : ℕ) (x : X) → AreInRow key from xs → key x ≡ from + length xs → AreInRow key from (xs ++ x ∷ [])
row_pushed key [] from x row last = (omega (arith, last), tt)
row_pushed key (y ∷ xs) from x row last = (row.0, row_pushed key xs (from + 1) x row.1 (omega (arith, last)))

row_dropped : {X : Type 0} (key : X → ℕ) (n : ℕ) (xs : List X) (from : ℕ) → AreInRow key from xs → (first : ℕ) × AreInRow key first (drop n xs)
row_dropped key zero xs from row = (from, row)
row_dropped key (suc n) [] from row = (from, tt)
row_dropped key (suc n) (x ∷ xs) from row = row_dropped key n xs (from + 1) row.1

abbrev pub note_of : ChunkValue → Note
note_of chunk = chunk.note

abbrev number_of : Note → ℕ
number_of note = note.number

length_reversed : (notes : List Note) → length (reverse notes) ≡ length notes
length_reversed [] = refl
length_reversed (note ∷ notes) =
    ap length (reverse-append (note ∷ []) notes)
    ∙ (let more = length-append (reverse notes) (note ∷ []) in let rest = length_reversed notes in omega (arith, more, rest))

reversed_row : (notes : List Note) → AreNumbered notes → AreInRow number_of 0 (reverse notes)
reversed_row [] numbered = tt
reversed_row (note ∷ notes) numbered =
    subst (AreInRow number_of 0) (sym (reverse-append (note ∷ []) notes))
    (row_pushed number_of (reverse notes) 0 note (reversed_row notes numbered.1) (let count = length_reversed notes in let is = numbered.0 in omega (arith, count, is)))

chunk_row : (chunks : List ChunkValue) (from : ℕ) → AreInRow number_of from (map note_of chunks) → AreInRow (λ (chunk : ChunkValue). chunk.note.number) from chunks
chunk_row [] from row = tt
chunk_row (chunk ∷ chunks) from row = (row.0, chunk_row chunks (from + 1) row.1)

-- chunks whose notes are the last of a link, in their order
pub way_row : (chunks : List ChunkValue) (n : ℕ) (notes : List Note) → AreNumbered notes → map note_of chunks ≡ drop n (reverse notes) → (first : ℕ) × AreInRow (λ (chunk : ChunkValue). chunk.note.number) first chunks
way_row chunks n notes numbered are =
    let row = row_dropped number_of n (reverse notes) 0 (reversed_row notes numbered) in
    (row.0, chunk_row chunks row.0 (subst (AreInRow number_of row.0) (sym are) row.1))

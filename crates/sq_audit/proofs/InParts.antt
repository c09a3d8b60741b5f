-- What is found of each part of a list is found of all of it.
use Rattle.std.proofs.Common.{◌≡◌, ⊎_elim, ℕ, zero, suc, ◌+◌, ◌-◌, ◌*◌, ◌/◌, ◌%◌, ◌<◌, ◌≤◌, Bool, true, false, List, [], ◌∷◌, length, map, take, drop, get_or, slice_get, Contains, Some, Result, Ok, Err, refl, sym, ap, ◌∙◌, subst, arith, true≢false}
use Rattle.std.specs.Prelude.{min, IfOk}
use Rattle.std.specs.Bool.{Decides}
use Rattle.std.specs.List.{list_all}
use Rattle.std.specs.declared.alloc.AllocError.{AllocError}
use Rattle.std.specs.Fork.{IsChunk}
use Rattle.std.proofs.Math.Nat.{add-mul, one-mul, suc-mul, zero-mul}
use Rattle.std.proofs.lemmas.Nat.{div-add-mod', mod_below}
use Rattle.std.proofs.lemmas.Bool.{cases_lt, and_parts}
use Rattle.std.proofs.lemmas.List.{length-map, get_or-map}
use Rattle.std.proofs.lemmas.Bool.Decides.{Decides-like}
use Rattle.std.proofs.lemmas.Option.{slice_get_within, slice_get-get_or}
use Rattle.sq_gather.proofs.Prelude.{Contains-slice_get, slice_get-Contains, map_in, at_map, Contains-map}
use Rattle.sq_audit.specs.declared.located.Located.{Located}
use Rattle.sq_audit.specs.Located.{Entry, entry_of, entries_in, AreByRoot}
use Rattle.sq_audit.specs.declared.told.Found.{Found}
use Rattle.sq_audit.specs.InThreads.{IsSaidOfAll}
use Rattle.sq_audit.specs.Told.{said_by}
use Rattle.sq_audit.proofs.Each.{EachTo, decides_not, refuted, some_same}
use Rattle.sq_audit.proofs.Lists.{taken_at, dropped_at, at_dropped, nothing_there}

at_taken : {X : Type 0} (xs : List X) (i k : ℕ) (x : X) → slice_get xs k ≡ Some x → k < i → slice_get (take i xs) k ≡ Some x
at_taken [] i k x at low = absurd (nothing_there k x at)
at_taken (y ∷ xs) zero k x at low = absurd (omega (arith, low))
at_taken (y ∷ xs) (suc i) zero x at low = at
at_taken (y ∷ xs) (suc i) (suc k) x at low = at_taken xs i k x at (omega (arith, low))

-- so many parts reach to the end
reaches : (count len size : ℕ) → 0 < size → count ≡ len / size + min 1 (len % size) → len ≤ count * size
reaches count len size some is =
    let q = len / size in
    let r = len % size in
    let whole : q * size + r ≡ len = div-add-mod' len size in
    let less : r < size = mod_below len size some in
    ⊎_elim
    (λ rest. let e : count ≡ q + 1 = omega (arith, is, rest) in let w = ap (λ n. n * size) e ∙ add-mul q 1 size in let o = one-mul size in omega (arith, whole, less, w, o))
    (λ none. let e : count ≡ q = omega (arith, is, none) in let w = ap (λ n. n * size) e in omega (arith, whole, none, w))
    (cases_lt 0 r)

-- it holds of each element
abbrev OfEach : {X : Type 0} → (X → Type 0) → List X → Type 0
OfEach {X} P xs = (x : X) → Contains xs x → P x

-- an element of a part is in the whole
module _ {X : Type 0} (xs ys : List X) (size start : ℕ) (part : IsChunk xs size start ys) where
  in_whole_at : (i : ℕ) (x : X) → slice_get ys i ≡ Some x → slice_get xs (start + i) ≡ Some x
  in_whole_at i x at =
      let taken = taken_at (drop start xs) size i x (subst (λ (zs : List X). slice_get zs i ≡ Some x) part.value at) in
      dropped_at xs start i x taken.there

  in_whole : (x : X) → Contains ys x → Contains xs x
  in_whole x has = Contains-slice_get xs (start + has.0) x (in_whole_at has.0 x (slice_get-Contains ys x has))

mapped_back : {X Y : Type 0} (f : X → Y) (xs : List X) (i : ℕ) (y : Y) → slice_get (map f xs) i ≡ Some y → (x : X) × (slice_get xs i ≡ Some x) × (f x ≡ y)
mapped_back f [] i y at = absurd (nothing_there i y at)
mapped_back f (x ∷ xs) zero y at = (x, refl, some_same at)
mapped_back f (x ∷ xs) (suc i) y at = mapped_back f xs i y at

-- the families of a part are by root key
pub part_by_root : (all ys : List Located) (size start : ℕ) → IsChunk all size start ys → AreByRoot (entries_in all) → AreByRoot (entries_in ys)
part_by_root all ys size start part rise i j one other upto at also =
    let first = mapped_back entry_of ys i one at in
    let second = mapped_back entry_of ys j other also in
    let here = subst (λ (e : Entry). slice_get (entries_in all) (start + i) ≡ Some e) first.2 (at_map entry_of all (start + i) first.0 (in_whole_at all ys size start part i first.0 first.1)) in
    let there = subst (λ (e : Entry). slice_get (entries_in all) (start + j) ≡ Some e) second.2 (at_map entry_of all (start + j) second.0 (in_whole_at all ys size start part j second.0 second.1)) in
    rise (start + i) (start + j) one other (omega (arith, upto)) here there

-- what was said of a part
abbrev IsSaid : {X E : Type 0} → (X → Type 0) → List X → ℕ → ℕ → Result Bool E → Type 0
IsSaid {X} P xs size start said = (ys : List X) × IsChunk xs size start ys × IfOk said (λ b. Decides b (OfEach P ys))

module _ {X E : Type 0} (P : X → Type 0) (xs : List X) (size : ℕ) (said : List (Result Bool E)) (some : 0 < size) (parts : (n : ℕ) (d : Result Bool E) → n < length said → IsSaid P xs size (n * size) (get_or said n d)) where
  -- it holds of each element of the first parts
  so_far : IsSaidOfAll true said → (n : ℕ) → n ≤ length said → EachTo P xs (n * size)
  so_far all zero low i x below at = absurd (omega (arith, below, zero-mul size))
  so_far all (suc n) low i x below at =
      ⊎_elim
      (λ before. so_far all n (omega (arith, low)) i x before at)
      (λ from.
      let k = i - n * size in
      let here : slice_get xs (n * size + k) ≡ Some x = subst (λ j. slice_get xs j ≡ Some x) (let e : i ≡ n * size + (i - n * size) = omega (arith, from) in e) at in
      let less : k < size = omega (arith, below, from, suc-mul n size) in
      let one = get_or said n (Ok true) in
      let part = parts n (Ok true) (omega (arith, low)) in
      let is = all one (Contains-slice_get said n one (slice_get-get_or said n (Ok true) (omega (arith, low)))) in
      let holds = subst (λ (r : Result Bool E). IfOk r (λ b. Decides b (OfEach P part.0))) is part.2 in
      holds.0 refl x (Contains-slice_get part.0 k x (subst (λ (zs : List X). slice_get zs k ≡ Some x) (sym part.1.value) (at_taken (drop (n * size) xs) size k x (at_dropped xs (n * size) k x here) less))))
      (cases_lt i (n * size))

  -- all hold, or one doesn't
  said_of_all : length said ≡ length xs / size + min 1 (length xs % size) → (b : Bool) → IsSaidOfAll b said → Decides b (OfEach P xs)
  said_of_all len true all = (
    (λ e x has.
        let at = slice_get-Contains xs x has in
        let within = slice_get_within xs has.0 x at in
        let reach = reaches (length said) (length xs) size some len in
        so_far all (length said) (omega arith) has.0 x (omega (arith, within, reach)) at),
    (λ each. refl),
  )
  said_of_all len false has =
      let part = parts has.0 (Ok false) has.1 in
      let fails = subst (λ (r : Result Bool E). IfOk r (λ b. Decides b (OfEach P part.0))) has.2 part.2 in
      decides_not (λ each. refuted false fails refl (λ x there. each x (in_whole xs part.0 size (has.0 * size) part.1 x there)))

-- the same of the entries of families
module _ (P : Entry → Type 0) where
  of_located : (all : List Located) → OfEach P (entries_in all) → OfEach (λ l. P (entry_of l)) all
  of_located all each l has = each (entry_of l) (Contains-map entry_of all l has)

  of_entries : (all : List Located) → OfEach (λ l. P (entry_of l)) all → OfEach P (entries_in all)
  of_entries all each e has = let found = map_in entry_of all e has in subst P found.2 (each found.0 found.1)

  pub in_parts : {E : Type 0} (all : List Located) (size : ℕ) (said : List (Result Bool E)) → 0 < size
      → length said ≡ length all / size + min 1 (length all % size)
      → ((n : ℕ) (d : Result Bool E) → n < length said → (ys : List Located) × IsChunk all size (n * size) ys × IfOk (get_or said n d) (λ b. Decides b (OfEach P (entries_in ys))))
      → (b : Bool) → IsSaidOfAll b said → Decides b (OfEach P (entries_in all))
  in_parts {E} all size said some len parts b is =
      Decides-like b (of_entries all) (of_located all)
      (said_of_all (λ l. P (entry_of l)) all size said some
      (λ n d low. let part = parts n d low in (part.0, part.1, like part.0 (get_or said n d) part.2)) len b is)
    where
      like : (ys : List Located) (r : Result Bool E) → IfOk r (λ b. Decides b (OfEach P (entries_in ys))) → IfOk r (λ b. Decides b (OfEach (λ l. P (entry_of l)) ys))
      like ys (Ok b) holds = Decides-like b (of_located ys) (of_entries ys) holds
      like ys (Err e) holds = holds

-- of what was found in parts, one thing that was said
some_found : {E : Type 0} → Result Bool E → Result Found E
some_found (Ok b) = Ok (record { start = b; known = b })
some_found (Err e) = Err e

said_like : {E : Type 0} (test : Found → Bool) (P : Type 0) (r : Result Found E) → IfOk r (λ found. Decides (test found) P) → IfOk (said_by test r) (λ b. Decides b P)
said_like test P (Ok found) holds = holds
said_like test P (Err e) holds = holds

pub in_found_parts : {E : Type 0} (P : Entry → Type 0) (test : Found → Bool) (all : List Located) (size : ℕ) (said : List (Result Found E)) → 0 < size
    → length said ≡ length all / size + min 1 (length all % size)
    → ((n : ℕ) (d : Result Found E) → n < length said → (ys : List Located) × IsChunk all size (n * size) ys × IfOk (get_or said n d) (λ found. Decides (test found) (OfEach P (entries_in ys))))
    → (b : Bool) → IsSaidOfAll b (map (said_by test) said) → Decides b (OfEach P (entries_in all))
in_found_parts {E} P test all size said some len parts b is =
    let each : Result Found E → Result Bool E = said_by test in
    in_parts P all size (map each said) some (length-map said each ∙ len)
    (λ n d low.
    let inside : n < length said = subst (λ k. n < k) (length-map said each) low in
    let part = parts n (some_found d) inside in (
      part.0,
      part.1,
      subst (λ (r : Result Bool E). IfOk r (λ b. Decides b (OfEach P (entries_in part.0)))) (sym (get_or-map each said n (some_found d) d inside))
          (said_like test (OfEach P (entries_in part.0)) (get_or said n (some_found d)) part.2),
    ))
    b is

-- what was said by a test that can't fail
abbrev ok : Bool → Result Bool AllocError
ok b = Ok b

true_at : (said : List Bool) → list_all (λ one. one) said ≡ true → (i : ℕ) (x : Bool) → slice_get said i ≡ Some x → x ≡ true
true_at [] all i x at = absurd (nothing_there i x at)
true_at (y ∷ said) all zero x at = sym (some_same at) ∙ (and_parts y (list_all (λ one. one) said) all).0
true_at (y ∷ said) all (suc i) x at = true_at said (and_parts y (list_all (λ one. one) said) all).1 i x at

false_in : (said : List Bool) → list_all (λ one. one) said ≡ false → (i : ℕ) × (slice_get said i ≡ Some false)
false_in [] all = absurd (true≢false all)
false_in (true ∷ said) all = let rest = false_in said all in (suc rest.0, rest.1)
false_in (false ∷ said) all = (0, refl)

said_all : (said : List Bool) (b : Bool) → list_all (λ one. one) said ≡ b → IsSaidOfAll b (map ok said)
said_all said true all = λ one has.
    let found = map_in ok said one has in
    sym found.2 ∙ ap ok (true_at said all found.1.0 found.0 (slice_get-Contains said found.0 found.1))
said_all said false all = let found = false_in said all in Contains-map ok said false (Contains-slice_get said found.0 false found.1)

pub in_plain_parts : {X : Type 0} (P : X → Type 0) (xs : List X) (size : ℕ) (said : List Bool) → 0 < size
    → length said ≡ length xs / size + min 1 (length xs % size)
    → ((n : ℕ) (d : Bool) → n < length said → (ys : List X) × IsChunk xs size (n * size) ys × Decides (get_or said n d) (OfEach P ys))
    → Decides (list_all (λ one. one) said) (OfEach P xs)
in_plain_parts {X} P xs size said some len parts =
    said_of_all P xs size (map ok said) some
    (λ n d low.
    let inside : n < length said = subst (λ k. n < k) (length-map said ok) low in
    let part = parts n true inside in (
      part.0,
      part.1,
      subst (λ (r : Result Bool AllocError). IfOk r (λ b. Decides b (OfEach P part.0))) (sym (get_or-map ok said n true d inside)) part.2,
    ))
    (length-map said ok ∙ len) (list_all (λ one. one) said) (said_all said (list_all (λ one. one) said) refl)

-- All or some of a list.
use Rattle.std.proofs.Common.{◌≡◌, ℕ, List, [], ◌++◌, ◌+◌, length, take, drop, sym, ap, ◌∙◌, arith, length-append, length-take, length-drop}
use Rattle.std.specs.Prelude.{◌-◌, ◌≤◌, ◌≢◌, slice_range, Result, Ok, Err, IfOk}
use Rattle.std.proofs.Math.Seq.{take-length, take-take}
use Rattle.std.proofs.lemmas.List.{drop_all, drop-take}

-- a range as long as the list is the list
pub whole_range : {X : Type 0} (items : List X) (first last : ℕ) → first ≤ last → last ≤ length items → last - first ≡ length items → slice_range items first last ≡ items
whole_range items first last rise within long =
    let none : first ≡ 0 = omega (arith, rise, within, long) in
    (λ i. take (long i) (drop (none i) items)) ∙ take-length items

-- and nothing is outside it
pub none_outside : {X : Type 0} (items : List X) (first last : ℕ) → first ≤ last → last ≤ length items → last - first ≡ length items → take first items ++ drop last items ≡ []
none_outside items first last rise within long =
    let none : first ≡ 0 = omega (arith, rise, within, long) in
    ap (λ n. take n items ++ drop last items) none ∙ drop_all last items (omega (arith, rise, within, long))

-- of a shorter one something is
pub some_outside : {X : Type 0} (items : List X) (first last : ℕ) → first ≤ last → last ≤ length items → last - first ≢ length items → take first items ++ drop last items ≢ []
some_outside items first last rise within short none =
    short (omega (arith, rise, within, ap length none, length-append (take first items) (drop last items), length-take first items, length-drop last items))

-- what comes before a range, the range, and what comes behind it
pub front_of_range : {X : Type 0} (items : List X) (first last : ℕ) → first ≤ last → take first (take last items) ≡ take first items
front_of_range items first last rise = take-take first last items rise

pub range_is : {X : Type 0} (items : List X) (first last : ℕ) → first ≤ last → drop first (take last items) ≡ slice_range items first last
range_is items first last rise =
    let long : last ≡ first + (last - first) = omega (arith, rise) in
    ap (λ n. drop first (take n items)) long ∙ drop-take first (last - first) items

-- what comes before a place is the range up to it
pub first_range : {X : Type 0} (items : List X) (first last : ℕ) → first ≡ 0 → take last items ≡ slice_range items first last
first_range items first last none =
    let long : last ≡ last - first = omega (arith, none) in
    (λ i. take (long i) (drop (sym none i) items))

pub if_ok : {A E : Type 0} {P Q : A → Type 0} (result : Result A E) → ((value : A) → P value → Q value) → IfOk result P → IfOk result Q
if_ok (Ok value) f holds = f value holds
if_ok (Err fault) f holds = tt

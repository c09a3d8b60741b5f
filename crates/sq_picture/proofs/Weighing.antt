-- The size of families, as they come.
use Rattle.std.proofs.Common.{◌≡◌, ℕ, ◌+◌, ◌-◌, ◌^◌, ◌<◌, ◌≤◌, true, false, List, [], ◌∷◌, length, map, Option, Some, None, refl, sym, ap, ◌∙◌, subst, arith}
use Rattle.std.specs.Prelude.{nat_lt, nat_le, min, sum_by, filter, take_while}
use Rattle.std.proofs.lemmas.List.Sums.{sum_by-cons, take_while-cons}
use Rattle.std.specs.List.{AllPass}
use Rattle.std.proofs.lemmas.Bool.{cond-true, cond-false, lt-ltb, ltb-true}
use Rattle.std.proofs.lemmas.Bool.Decides.{nat_tests}
use Rattle.std.proofs.lemmas.List.Elements.{All-head, All-tail}
use Rattle.sq_schema.specs.declared.root.TheConstants.{ROOT_END}
use Rattle.sq_schema.specs.Table.{TableValue}
use Rattle.sq_schema.specs.Effect.{RowList}
use Rattle.sq_schema.specs.Family.{rows_size}
use Rattle.sq_picture.specs.Cutting.{room_behind, chunks_more, chunks_from, chunks_to_cut}
use Rattle.sq_picture.specs.Sizes.{in_64_bits}
use Rattle.sq_picture.specs.declared.size.Size.{Size}
use Rattle.sq_picture.specs.declared.cutting.Cutting.{Cutting}

-- the entries with root keys below this one, up to the first that isn't
abbrev pub below : ℕ → TableValue → TableValue
below end entries = take_while (λ entry. nat_lt entry.0 end) entries

-- the sizes of families
abbrev pub sizes_in : TableValue → List ℕ
sizes_in entries = map (λ entry. rows_size entry.1) entries

-- the families before those that are left have these numbers, and the chunks so far have this room left in the last one
pub record Weighs (limit end : ℕ) (all rest : TableValue) (size : Size) (cutting : Cutting) : Type 0 where
  pub limit_is : cutting.limit ≡ limit
  pub done : Size
  pub families : size.families ≡ in_64_bits done.families
  pub rows : size.rows ≡ in_64_bits done.rows
  pub bytes : size.bytes ≡ in_64_bits done.bytes
  pub chunks : cutting.chunks ≡ in_64_bits done.chunks
  pub families_left : done.families + length (below end rest) ≡ length (below end all)
  pub rows_left : done.rows + sum_by (λ entry. length entry.1) (below end rest) ≡ sum_by (λ entry. length entry.1) (below end all)
  pub bytes_left : done.bytes + sum_by (λ entry. rows_size entry.1) (below end rest) ≡ sum_by (λ entry. rows_size entry.1) (below end all)
  pub chunks_left : done.chunks + chunks_from limit cutting.room (sizes_in (below end rest)) ≡ chunks_to_cut limit (sizes_in (below end all)) + 1

-- a number within 64 bits, and one more
pub capped_sum : (a b most : ℕ) → min (min a most + b) most ≡ min (a + b) most
capped_sum a b most = omega arith

-- one more below, before the others
below_more : (end root : ℕ) (rows : RowList) (rest : TableValue) → root < end → below end ((root, rows) ∷ rest) ≡ (root, rows) ∷ below end rest
below_more end root rows rest low =
    let yes : nat_lt root end ≡ true = lt-ltb root end low in
    take_while-cons (λ entry. nat_lt entry.0 end) (root, rows) rest ∙ cond-true (nat_lt root end) ((root, rows) ∷ below end rest) [] yes

-- a sum with one more before the others
moved_sum : (done one left all : ℕ) → done + (one + left) ≡ all → (done + one) + left ≡ all
moved_sum done one left all before = omega arith

-- a count of something in what is left
left_sum : (f : ℕ × RowList → ℕ) (done all : ℕ) (entry : ℕ × RowList) (here rest : TableValue) → here ≡ entry ∷ rest → done + sum_by f here ≡ all → (done + f entry) + sum_by f rest ≡ all
left_sum f done all entry here rest is before = moved_sum done (f entry) (sum_by f rest) all (subst (λ (n : ℕ). done + n ≡ all) (ap (sum_by f) is ∙ sum_by-cons f entry rest) before)

-- before the first family
pub weighs_none : (limit end : ℕ) (all : TableValue) (cutting : Cutting) → cutting ≡ record { limit = limit; chunks = 1; room = None } → Weighs limit end all all (record { families = 0; rows = 0; bytes = 0; chunks = 0 }) cutting
weighs_none limit end all cutting is =
    subst (λ (c : Cutting). Weighs limit end all all (record { families = 0; rows = 0; bytes = 0; chunks = 0 }) c) (sym is) (record {
      limit_is = refl;
      done = record { families = 0; rows = 0; bytes = 0; chunks = 1 };
      families = refl;
      rows = refl;
      bytes = refl;
      chunks = refl;
      families_left = omega arith;
      rows_left = omega arith;
      bytes_left = omega arith;
      chunks_left = omega arith;
    })

-- behind one family more
pub weighs_next : (limit end : ℕ) (all : TableValue) (root : ℕ) (rows : RowList) (rest : TableValue) (size new_size : Size) (cutting new_cutting : Cutting) → root < end → Weighs limit end all ((root, rows) ∷ rest) size cutting
    → new_size.families ≡ in_64_bits (size.families + 1) → new_size.rows ≡ in_64_bits (size.rows + length rows) → new_size.bytes ≡ in_64_bits (size.bytes + rows_size rows)
    → new_cutting.limit ≡ cutting.limit → new_cutting.chunks ≡ in_64_bits (cutting.chunks + chunks_more cutting.room (rows_size rows)) → new_cutting.room ≡ Some (room_behind cutting.limit cutting.room (rows_size rows))
    → Weighs limit end all rest new_size new_cutting
weighs_next limit end all root rows rest size new_size cutting new_cutting low before families rows_are bytes limits chunks room =
    let most : ℕ = 2 ^ 64 - 1 in
    let bytes_here : ℕ = rows_size rows in
    let taken = below_more end root rows rest low in
    let room_is : new_cutting.room ≡ Some (room_behind limit cutting.room bytes_here) = room ∙ ap (λ (n : ℕ). Some (room_behind n cutting.room bytes_here)) before.limit_is in
    record {
      limit_is = limits ∙ before.limit_is;
      done = record {
        families = before.done.families + 1;
        rows = before.done.rows + length rows;
        bytes = before.done.bytes + bytes_here;
        chunks = before.done.chunks + chunks_more cutting.room bytes_here;
      };
      families = families ∙ ap (λ (n : ℕ). in_64_bits (n + 1)) before.families ∙ capped_sum before.done.families 1 most;
      rows = rows_are ∙ ap (λ (n : ℕ). in_64_bits (n + length rows)) before.rows ∙ capped_sum before.done.rows (length rows) most;
      bytes = bytes ∙ ap (λ (n : ℕ). in_64_bits (n + bytes_here)) before.bytes ∙ capped_sum before.done.bytes bytes_here most;
      chunks = chunks ∙ ap (λ (n : ℕ). in_64_bits (n + chunks_more cutting.room bytes_here)) before.chunks ∙ capped_sum before.done.chunks (chunks_more cutting.room bytes_here) most;
      families_left = let here : length (below end ((root, rows) ∷ rest)) ≡ length (below end rest) + 1 = ap length taken ∙ omega arith in let left = before.families_left in omega arith;
      rows_left = left_sum (λ entry. length entry.1) before.done.rows _ (root, rows) _ _ taken before.rows_left;
      bytes_left = left_sum (λ entry. rows_size entry.1) before.done.bytes _ (root, rows) _ _ taken before.bytes_left;
      chunks_left =
          moved_sum before.done.chunks (chunks_more cutting.room bytes_here) _ _
          (subst (λ (r : Option ℕ). before.done.chunks + (chunks_more cutting.room bytes_here + chunks_from limit r (sizes_in (below end rest))) ≡ chunks_to_cut limit (sizes_in (below end all)) + 1) (sym room_is)
          (subst (λ (entries : TableValue). before.done.chunks + chunks_from limit cutting.room (sizes_in entries) ≡ chunks_to_cut limit (sizes_in (below end all)) + 1) taken before.chunks_left));
    }

-- a number isn't below one that isn't above it
not_below : (n end : ℕ) → end ≤ n → nat_lt n end ≡ false
not_below n end high = grind (arith, nat_tests)

-- none are below, where the first isn't, or there is none
pub none_below : (end : ℕ) (root : ℕ) (rows : RowList) (rest : TableValue) → end ≤ root → below end ((root, rows) ∷ rest) ≡ []
none_below end root rows rest high =
    take_while-cons (λ entry. nat_lt entry.0 end) (root, rows) rest ∙ cond-false (nat_lt root end) ((root, rows) ∷ below end rest) [] (not_below root end high)

-- the entries with root keys from this one on
abbrev pub from_on : ℕ → TableValue → TableValue
from_on from entries = filter (λ entry. nat_le from entry.0) entries

not_from : (from key : ℕ) → key < from → nat_le from key ≡ false
not_from from key below = grind (arith, nat_tests)

-- no root key is past the last
pub none_from : (from : ℕ) (entries : TableValue) → AllPass (λ entry. nat_lt entry.0 ROOT_END) entries → ROOT_END ≤ from → from_on from entries ≡ []
none_from from [] pass past = refl
none_from from (entry ∷ entries) pass past =
    let low : entry.0 < ROOT_END = ltb-true entry.0 ROOT_END (All-head (λ (x : ℕ × RowList). nat_lt x.0 ROOT_END ≡ true) entry entries pass) in
    let no : nat_le from entry.0 ≡ false = not_from from entry.0 (omega arith) in
    cond-false (nat_le from entry.0) (entry ∷ from_on from entries) (from_on from entries) no ∙ none_from from entries (All-tail (λ (x : ℕ × RowList). nat_lt x.0 ROOT_END ≡ true) entry entries pass) past

-- What a search by key finds among entries whose keys rise, and what an edit at that place leaves.
use Rattle.std.proofs.Common.{◌≡◌, ◌<◌, ◌≤◌, ◌-◌, ℕ, true, List, [], ◌∷◌, length, get_or, ap, ◌∙◌, arith, Ordering, Result, Ok, Err, Some}
use Rattle.std.specs.Prelude.{slice_get}
use Rattle.std.specs.declared.cmp.Ordering.TheVariants.{Less, Equal, Greater}
use Rattle.std.specs.Cmp.{IsTotalOrder}
use Rattle.std.specs.List.{AllWithin}
use Rattle.std.specs.List.Sorted.{IsSearchInRange, IsBinarySearchResult}
use Rattle.std.specs.FinMap.Entries.{is_sorted}
use Rattle.std.proofs.lemmas.Option.{slice_get_within, get_or_from_slice_get}
use Rattle.sq_rows.specs.Places.{IsAt, IsGap, IsPlace}
use Rattle.sq_rows.proofs.Entries.{comparisons_rise, all_below, find_at, put_at, where_key_at, find_gap, put_gap, where_key_gap}

-- an entry of a list that has some
one_of : {E : Type 0} (es : List E) (at : ℕ) → at < length es → E
one_of [] at within = absurd (omega arith)
one_of (e ∷ es) at within = e

module _ {K X : Type 0} (R : K → K → Ordering) (o : IsTotalOrder R) (es : List (K × X)) (key : K) where
  -- an entry whose key ties is the key's
  tied_at : (at : ℕ) → is_sorted R es ≡ true → at < length es → ((d : K × X) → R (get_or es at d).0 key ≡ Equal) → IsAt R es key at
  tied_at at rising within here =
      let one = one_of es at within in
      record {
        within = within;
        found = λ d. find_at R o key es at d rising within (here d);
        put = λ y d. put_at R o key y es at d rising within (here d);
        removed = where_key_at R o key es at one rising within (here one);
      }

  -- where the keys before a place are below the key and those from it on above it, there is the gap for it
  gap_at : (at : ℕ) → at ≤ length es → AllWithin (λ e. R e.0 key ≡ Less) es 0 at → AllWithin (λ e. R e.0 key ≡ Greater) es at (length es) → IsGap R es key at
  gap_at at within before after =
      record {
        within = within;
        absent = find_gap R o key es at within before after;
        put = λ y. put_gap R o key y es at within before after;
        removed = where_key_gap R o key es at within before after;
      }

  -- a binary search by key ends at the key's entry, or at the gap for it
  pub searched : (r : Result ℕ ℕ) → is_sorted R es ≡ true → IsSearchInRange r (length es) → IsBinarySearchResult (λ entry. R entry.0 key) es r → IsPlace R es key r
  searched (Ok at) rising within here = tied_at at rising within here
  searched (Err at) rising within parted = let sides = parted (comparisons_rise R o key es rising) in gap_at at within sides.0 sides.1

  module _ (last : K × X) (stands : slice_get es (length es - 1) ≡ Some last) (rising : is_sorted R es ≡ true) where
    some_entry : length es - 1 < length es
    some_entry = slice_get_within es (length es - 1) last stands

    -- the order of the last entry's key and the key is the order of the key at the end and it
    at_end : (order : Ordering) → R last.0 key ≡ order → (d : K × X) → R (get_or es (length es - 1) d).0 key ≡ order
    at_end order is d = ap (λ (entry : K × X). R entry.0 key) (get_or_from_slice_get es (length es - 1) last d stands) ∙ is

    -- a key that ties with the last is the last entry's
    pub last_tied : R last.0 key ≡ Equal → IsPlace R es key (Ok (length es - 1))
    last_tied tied = tied_at (length es - 1) rising some_entry (at_end Equal tied)

    -- the gap for a key past the last is the end
    pub past_last : R last.0 key ≡ Less → IsPlace R es key (Err (length es))
    past_last below =
        let before = all_below R o key es (length es - 1) rising (omega (arith, some_entry)) (at_end Less below) in
        gap_at (length es) (omega arith) before (λ j d low high. absurd (omega (arith, low, high)))

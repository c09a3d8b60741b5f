-- Where a key is in a list of entries whose keys rise.
use Rattle.std.specs.Prelude.{◌≡◌, ℕ, ◌<◌, ◌≤◌, not, List, length, Some, None, Result, Ok, Err, slice_index_or, slice_set}
use Rattle.std.specs.declared.cmp.Ordering.{Ordering}
use Rattle.std.specs.List.{insert, remove}
use Rattle.std.specs.Ordering.{eq_by_cmp}
use Rattle.std.specs.FinMap.Entries as entries

module _ {K X : Type 0} (R : K → K → Ordering) where
  -- the entry of the key is the one at this place, and an edit of it is an edit there
  pub record IsAt (es : List (K × X)) (key : K) (at : ℕ) : Type 0 where
    pub within : at < length es
    pub found : (d : K × X) → entries.find R key es ≡ Some (slice_index_or es at d).1
    pub put : (x : X) (d : K × X) → entries.put R key x es ≡ slice_set es at ((slice_index_or es at d).0, x)
    pub removed : entries.where_key R (λ other. not (eq_by_cmp R key other)) es ≡ remove es at

  -- the key has no entry, and a new one goes to this place
  pub record IsGap (es : List (K × X)) (key : K) (at : ℕ) : Type 0 where
    pub within : at ≤ length es
    pub absent : entries.find R key es ≡ None
    pub put : (x : X) → entries.put R key x es ≡ insert es at (key, x)
    pub removed : entries.where_key R (λ other. not (eq_by_cmp R key other)) es ≡ es

  -- the place of the entry of the key, or else where it belongs
  abbrev pub IsPlace : List (K × X) → K → Result ℕ ℕ → Type 0
  IsPlace es key (Ok at) = IsAt es key at
  IsPlace es key (Err at) = IsGap es key at

-- Entries that are looked up by their numbers.
use Rattle.std.proofs.Common.{◌≡◌, ◌==◌, ℕ, Bool, true, false, List, [], ◌∷◌, refl, map, option_map, if◌then◌else◌}
use Rattle.std.specs.Prelude.{Option, Some, find}
use Rattle.sq_explain.specs.declared.table.Entry.{Entry}

abbrev pub row_of : Entry → ℕ × List ℕ
row_of entry = (entry.number, entry.meaning.now)

-- the text of a found entry, and of a found row
abbrev told : Option Entry → Option (List ℕ)
told = option_map (λ entry. entry.meaning.now)

abbrev told_row : Option (ℕ × List ℕ) → Option (List ℕ)
told_row = option_map (λ row. row.1)

either : (b : Bool) (entry : Entry) (others : Option Entry) (rows : Option (ℕ × List ℕ)) → told others ≡ told_row rows → told (if b then Some entry else others) ≡ told_row (if b then Some (row_of entry) else rows)
either true entry others rows same = refl
either false entry others rows same = same

-- an entry and its row are found alike
pub found_alike : (number : ℕ) (entries : List Entry) → told (find (λ entry. entry.number == number) entries) ≡ told_row (find (λ row. row.0 == number) (map row_of entries))
found_alike number [] = refl
found_alike number (entry ∷ entries) = either (entry.number == number) entry (find (λ entry. entry.number == number) entries) (find (λ row. row.0 == number) (map row_of entries)) (found_alike number entries)

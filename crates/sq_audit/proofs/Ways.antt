-- The chunks of a link that are under way, whose notes are its last.
use Rattle.std.proofs.Common.{◌≡◌, ⊎_elim, ℕ, ◌+◌, ◌-◌, ◌<◌, ◌≤◌, suc, List, [], ◌∷◌, map, length, drop, slice_get, Some, refl, sym, ap, ap₂, ◌∙◌, arith}
use Rattle.std.proofs.lemmas.Bool.{cases_lt}
use Rattle.std.proofs.lemmas.List.{length-drop}
use Rattle.std.proofs.lemmas.Option.{same_Some, slice_get_within}
use Rattle.sq_gather.specs.Prelude.{Note, ChunkValue}
use Rattle.sq_gather.proofs.Prelude.{at_map}
use Rattle.sq_audit.specs.Notes.{AreOfLast}
use Rattle.sq_audit.proofs.Lists.{at_dropped}
use Rattle.sq_audit.proofs.Each.{same_of}

-- a list that is mapped, place by place
map_is : {X Y : Type 0} (f : X → Y) (xs : List X) (ys : List Y) → length xs ≡ length ys → ((i : ℕ) (x : X) → slice_get xs i ≡ Some x → slice_get ys i ≡ Some (f x)) → map f xs ≡ ys
map_is f [] [] same each = refl
map_is f [] (y ∷ ys) same each = absurd (omega (arith, same))
map_is f (x ∷ xs) [] same each = absurd (omega (arith, same))
map_is f (x ∷ xs) (y ∷ ys) same each =
    ap₂ (λ z zs. z ∷ zs) (sym (same_Some y (f x) (each 0 x refl))) (map_is f xs ys (omega (arith, same)) (λ i z at. each (suc i) z at))

-- the notes of all chunks follow those of what was loaded
pub of_last : (chunks : List ChunkValue) (notes : List Note) (loaded n : ℕ) → length chunks ≤ length notes → loaded ≡ length notes - length chunks → length chunks ≤ n
    → ((i : ℕ) (chunk : ChunkValue) → i < n → slice_get chunks i ≡ Some chunk → slice_get notes (loaded + i) ≡ Some chunk.note) → AreOfLast chunks notes
of_last chunks notes loaded n some loaded_is whole each =
    let rest = length-drop loaded notes in
    let count : length chunks ≡ length (drop loaded notes) = omega (arith, rest, some, loaded_is) in
    map_is (λ (c : ChunkValue). c.note) chunks (drop loaded notes) count
    (λ i chunk at. let within = slice_get_within chunks i chunk at in at_dropped notes loaded i chunk.note (each i chunk (omega (arith, within, whole)) at))
    ∙ ap (λ k. drop k notes) loaded_is

-- one more chunk has the note of its place
pub last_more : (chunks : List ChunkValue) (notes : List Note) (loaded n : ℕ) (chunk : ChunkValue) (note : Note) → slice_get chunks n ≡ Some chunk → slice_get notes (loaded + n) ≡ Some note → chunk.note ≡ note
    → ((i : ℕ) (other : ChunkValue) → i < n → slice_get chunks i ≡ Some other → slice_get notes (loaded + i) ≡ Some other.note)
    → (i : ℕ) (other : ChunkValue) → i < n + 1 → slice_get chunks i ≡ Some other → slice_get notes (loaded + i) ≡ Some other.note
last_more chunks notes loaded n chunk note at there same before i other below also =
    ⊎_elim
    (λ low. before i other low also)
    (λ from.
    let here : i ≡ n = omega (arith, below, from) in
    let is = same_of chunks n i chunk other at also here in
    ap (λ k. slice_get notes (loaded + k)) here ∙ there ∙ ap Some (sym same) ∙ ap (λ (c : ChunkValue). Some c.note) (sym is))
    (cases_lt i n)

-- a chunk has another note than the one of its place
pub not_of_last : (chunks : List ChunkValue) (notes : List Note) (loaded n : ℕ) (chunk : ChunkValue) (note : Note) → loaded ≡ length notes - length chunks
    → slice_get chunks n ≡ Some chunk → slice_get notes (loaded + n) ≡ Some note → (chunk.note ≡ note → ⊥) → AreOfLast chunks notes → ⊥
not_of_last chunks notes loaded n chunk note loaded_is at there differ last =
    let here = at_map (λ (c : ChunkValue). c.note) chunks n chunk at in
    let stands = at_dropped notes loaded n note there in
    differ (same_Some chunk.note note (sym here ∙ ap (λ (ns : List Note). slice_get ns n) last ∙ ap (λ k. slice_get (drop k notes) n) (sym loaded_is) ∙ stands))

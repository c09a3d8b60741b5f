-- What a writer got in pieces.
use Rattle.std.proofs.Common.{◌≡◌, ℕ, ◌+◌, ◌<◌, ◌≤◌, List, [], ◌∷◌, ◌++◌, map, length, get_or, take, Option, Some, None, refl, sym, ap, ◌∙◌, append_assoc}
use Rattle.std.specs.Prelude.{Result, Ok, Err, OnOk, decimal, codes}
use Rattle.std.specs.List.{flat_map, join_with_byte}
use Rattle.std.proofs.lemmas.List.{append-nil, take_more, take_all}
use Rattle.std.proofs.lemmas.Grind.{flat_map-append}
use Rattle.std.proofs.lemmas.List.Folds.{flat_map-map}
use Rattle.std.specs.Io.KnownBytes.{Appends, Keeps}
use Rattle.sq_schema.specs.declared.txn.OpAnswer.{OpAnswer}
use Rattle.sq_schema.specs.Family.{FamilyValue, rows_of}
use Rattle.sq_store.specs.ChunkValue.{ChunkValue}
use Rattle.sq_text.specs.Texts.{line, op_answer_text, commit_words, note_words, entry_text, family_words, at_line, in_line, way_lines}

-- bytes, and then more
pub both : (a b c : Option (List ℕ)) (xs ys zs : List ℕ) → Appends a b xs → Appends b c ys → xs ++ ys ≡ zs → Appends a c zs
both None b c xs ys zs h k e = tt
both (Some front) None c xs ys zs h k e = absurd h
both (Some front) (Some bs) None xs ys zs h k e = absurd k
both (Some front) (Some bs) (Some cs) xs ys zs h k e = k ∙ ap (λ (t : List ℕ). t ++ ys) h ∙ append_assoc front xs ys ∙ ap (λ (t : List ℕ). front ++ t) e

-- bytes in three pieces, where the last may fail
pub three : {T E : Type 0} (r : Result T E) (a b c d : Option (List ℕ)) (xs ys zs all : List ℕ) → Appends a b xs → Appends b c ys → OnOk r (Appends c d zs) → xs ++ (ys ++ zs) ≡ all → OnOk r (Appends a d all)
three (Err x) a b c d xs ys zs all h k l e = tt
three (Ok x) a b c d xs ys zs all h k l e = both a c d (xs ++ ys) zs all (both a b c xs ys (xs ++ ys) h k refl) l (append_assoc xs ys zs ∙ e)

-- nothing
pub appends_none : (a : Option (List ℕ)) → Appends a a []
appends_none None = tt
appends_none (Some front) = sym (append-nil front)

-- bytes that were written, and stay
pub kept : (a b c : Option (List ℕ)) (text : List ℕ) → Appends a b text → Keeps b c → Appends a c text
kept None b c text written keeps = tt
kept (Some xs) None c text written keeps = absurd written
kept (Some xs) (Some ys) None text written keeps = absurd keeps
kept (Some xs) (Some ys) (Some zs) text written keeps = keeps ∙ written

-- the text of one more thing, after the texts of those before it
pub appends_next : {X : Type 0} (text : X → List ℕ) (xs : List X) (i : ℕ) (x : X) (a b c : Option (List ℕ)) → i < length xs → x ≡ get_or xs i x → Appends a b (flat_map text (take i xs)) → Appends b c (text x) → Appends a c (flat_map text (take (i + 1) xs))
appends_next text xs i x a b c within is before here =
    both a b c (flat_map text (take i xs)) (text x) (flat_map text (take (i + 1) xs)) before here
    (rw (take_more xs i x within, ← is, flat_map-append) (ap (λ (t : List ℕ). flat_map text (take i xs) ++ t) (sym (append-nil (text x)))))

-- the texts of all things
pub appends_all : {X : Type 0} (text : X → List ℕ) (xs : List X) (i : ℕ) (a b : Option (List ℕ)) → length xs ≤ i → Appends a b (flat_map text (take i xs)) → Appends a b (flat_map text xs)
appends_all text xs i a b end all = rw take_all at all

-- words with a space between each two are the first word, and then the others behind a space each
spaced : (word : List ℕ) (words : List (List ℕ)) → join_with_byte 32 (word ∷ words) ≡ word ++ flat_map (λ other. 32 ∷ other) words
spaced word [] = sym (append-nil word)
spaced word (next ∷ words) = ap (λ (rest : List ℕ). word ++ (32 ∷ rest)) (spaced next words)

-- a line of two words, and then of those of things
pub line_from : {X : Type 0} (first second : List ℕ) (text : X → List ℕ) (xs : List X) → (first ++ (32 ∷ second)) ++ (flat_map (λ x. 32 ∷ text x) xs ++ (10 ∷ [])) ≡ line (first ∷ second ∷ map text xs)
line_from first second text xs =
    let words = join_with_byte 32 (second ∷ map text xs) in
    let others = flat_map (λ x. 32 ∷ text x) xs in
    let same : words ≡ second ++ others = spaced second (map text xs) ∙ ap (λ (t : List ℕ). second ++ t) (flat_map-map (λ (other : List ℕ). 32 ∷ other) text xs) in
    append_assoc first (32 ∷ second) (others ++ (10 ∷ []))
    ∙ sym (append_assoc first (32 ∷ words) (10 ∷ [])
    ∙ ap (λ (t : List ℕ). first ++ (32 ∷ (t ++ (10 ∷ [])))) same
    ∙ ap (λ (t : List ℕ). first ++ (32 ∷ t)) (append_assoc second others (10 ∷ [])))

pub commit_line : (id : ℕ) (answers : List OpAnswer) (text : List ℕ) → text ≡ codes "commit" ++ (32 ∷ decimal id) → text ++ (flat_map (λ answer. 32 ∷ op_answer_text answer) answers ++ (10 ∷ [])) ≡ line (commit_words id answers)
commit_line id answers text e = rw e (line_from (codes "commit") (decimal id) op_answer_text answers)

-- a line with more words in front
line_behind : (word : List ℕ) (next : List ℕ) (words : List (List ℕ)) (text : List ℕ) → text ≡ line (next ∷ words) → word ++ (32 ∷ text) ≡ line (word ∷ next ∷ words)
line_behind word next words text e = rw e (sym (append_assoc word (32 ∷ join_with_byte 32 (next ∷ words)) (10 ∷ [])))

-- what a line says of a family
family_line : (family : FamilyValue) → (decimal family.root ++ (32 ∷ decimal (length family.log))) ++ (flat_map (λ entry. 32 ∷ entry_text entry) (rows_of family) ++ (10 ∷ [])) ≡ line (family_words family)
family_line family = line_from (decimal family.root) (decimal (length family.log)) entry_text (rows_of family)

-- the line of a family in a chunk
pub line_in : (family : FamilyValue) (text : List ℕ) → text ≡ codes "in " ++ (decimal family.root ++ (32 ∷ decimal (length family.log))) → text ++ (flat_map (λ entry. 32 ∷ entry_text entry) (rows_of family) ++ (10 ∷ [])) ≡ in_line family
line_in family text e =
    let head = decimal family.root ++ (32 ∷ decimal (length family.log)) in
    let rest = flat_map (λ entry. 32 ∷ entry_text entry) (rows_of family) ++ (10 ∷ []) in
    ap (λ (t : List ℕ). t ++ rest) e
    ∙ line_behind (codes "in") (decimal family.root) (decimal (length family.log) ∷ map entry_text (rows_of family)) (head ++ rest) (family_line family)

-- the line of a family in a store
pub line_at : (part : ℕ) (family : FamilyValue) (text : List ℕ) → text ≡ codes "at " ++ (decimal part ++ (32 ∷ (decimal family.root ++ (32 ∷ decimal (length family.log)))))
    → text ++ (flat_map (λ entry. 32 ∷ entry_text entry) (rows_of family) ++ (10 ∷ [])) ≡ at_line part family
line_at part family text e =
    let head = decimal family.root ++ (32 ∷ decimal (length family.log)) in
    let rest = flat_map (λ entry. 32 ∷ entry_text entry) (rows_of family) ++ (10 ∷ []) in
    let words = decimal (length family.log) ∷ map entry_text (rows_of family) in
    ap (λ (t : List ℕ). t ++ rest) e
    ∙ ap (λ (t : List ℕ). codes "at " ++ t) (append_assoc (decimal part) (32 ∷ head) rest)
    ∙ line_behind (codes "at") (decimal part) (decimal family.root ∷ words) _ (line_behind (decimal part) (decimal family.root) words (head ++ rest) (family_line family))

-- the lines of a chunk under way
pub lines_of_way : (chunk : ChunkValue) (text : List ℕ) → text ≡ codes "way " ++ (decimal chunk.note.src ++ (32 ∷ (decimal chunk.note.dst ++ (32 ∷ line (note_words chunk.note (length chunk.families)))))) → text ++ flat_map in_line chunk.families ≡ way_lines chunk
lines_of_way chunk text e = ap (λ (t : List ℕ). t ++ flat_map in_line chunk.families) (e ∙ way_line (decimal chunk.note.src) (decimal chunk.note.dst) (join_with_byte 32 (note_words chunk.note (length chunk.families))))
  where
    way_line : (from to words : List ℕ) → codes "way " ++ (from ++ (32 ∷ (to ++ (32 ∷ (words ++ (10 ∷ [])))))) ≡ (codes "way" ++ (32 ∷ (from ++ (32 ∷ (to ++ (32 ∷ words)))))) ++ (10 ∷ [])
    way_line from to words = simp append_assoc

-- Texts that are put together of pieces.
use Rattle.std.proofs.Common.{◌≡◌, ℕ, zero, suc, Some, ◌+◌, ◌<◌, ◌≤◌, List, [], ◌∷◌, ◌++◌, map, length, get_or, take, refl, sym, ap, ◌∙◌, subst, append_assoc, zero-add}
use Rattle.std.specs.List.{flat_map, join_with_byte, enumerate_from}
use Rattle.std.proofs.lemmas.List.{append-nil, take_more, take_all}
use Rattle.std.proofs.lemmas.Grind.{flat_map-append}
use Rattle.std.proofs.lemmas.List.FromFn.{length-enumerate_from, get_or-enumerate_from}
use Rattle.csv.specs.Records.{field_at}
use Rattle.sq_text.specs.Texts.{line}

-- the text of one more thing, behind those of the ones before it
pub text_next : {X : Type 0} (text : X → List ℕ) (xs : List X) (i : ℕ) (x : X) (a b c : List ℕ) → i < length xs → get_or xs i x ≡ x → b ≡ a ++ flat_map text (take i xs) → c ≡ b ++ text x → c ≡ a ++ flat_map text (take (i + 1) xs)
text_next {X} text xs i x a b c within is before here =
    let front : List X = take i xs in
    let all : take (i + 1) xs ≡ front ++ x ∷ [] = take_more xs i x within ∙ ap (λ (y : X). front ++ y ∷ []) is in
    let grown : flat_map text (take (i + 1) xs) ≡ flat_map text front ++ text x =
    ap (flat_map text) all ∙ flat_map-append text front (x ∷ []) ∙ ap (λ (t : List ℕ). flat_map text front ++ t) (append-nil (text x)) in
    here ∙ ap (λ (t : List ℕ). t ++ text x) before ∙ append_assoc a (flat_map text front) (text x) ∙ ap (λ (t : List ℕ). a ++ t) (sym grown)

-- the same of things with their numbers
pub numbered_text_next : {X : Type 0} (text : ℕ × X → List ℕ) (xs : List X) (i : ℕ) (x : X) (a b c : List ℕ) → i < length xs → get_or xs i x ≡ x
    → b ≡ a ++ flat_map text (take i (enumerate_from 0 xs)) → c ≡ b ++ text (i, x) → c ≡ a ++ flat_map text (take (i + 1) (enumerate_from 0 xs))
numbered_text_next {X} text xs i x a b c within is before here =
    let there : i < length (enumerate_from 0 xs) = subst (λ n. i < n) (sym (length-enumerate_from 0 xs)) within in
    let own : get_or (enumerate_from 0 xs) i (i, x) ≡ (i, x) =
    get_or-enumerate_from 0 xs i (i, x) within ∙ ap (λ (n : ℕ). (n, get_or xs i x)) (zero-add i) ∙ ap (λ (y : X). (i, y)) is in
    text_next text (enumerate_from 0 xs) i (i, x) a b c there own before here

-- the texts of all things
pub text_all : {X : Type 0} (text : X → List ℕ) (xs : List X) (i : ℕ) (a b : List ℕ) → length xs ≤ i → b ≡ a ++ flat_map text (take i xs) → b ≡ a ++ flat_map text xs
text_all text xs i a b end before = before ∙ ap (λ t. a ++ flat_map text t) (take_all _ _ end)

-- words with a space between each two are the first word, and then the others behind a space each
spaced : (word : List ℕ) (words : List (List ℕ)) → join_with_byte 32 (word ∷ words) ≡ word ++ flat_map (λ other. 32 ∷ other) words
spaced word [] = sym (append-nil word)
spaced word (next ∷ words) = ap (λ (rest : List ℕ). word ++ (32 ∷ rest)) (spaced next words)

-- words of things behind a space each
spaced_texts : {X : Type 0} (text : X → List ℕ) (xs : List X) → flat_map (λ other. 32 ∷ other) (map text xs) ≡ flat_map (λ x. 32 ∷ text x) xs
spaced_texts text [] = refl
spaced_texts text (x ∷ xs) = ap (λ (rest : List ℕ). 32 ∷ text x ++ rest) (spaced_texts text xs)

-- a line of a word, and then of those of things
pub line_of_texts : {X : Type 0} (word : List ℕ) (text : X → List ℕ) (xs : List X) → (word ++ flat_map (λ x. 32 ∷ text x) xs) ++ (10 ∷ []) ≡ line (word ∷ map text xs)
line_of_texts word text xs =
    ap (λ (t : List ℕ). t ++ (10 ∷ [])) (ap (λ (rest : List ℕ). word ++ rest) (sym (spaced_texts text xs)) ∙ sym (spaced word (map text xs)))

-- a field that is there is at its place
pub field_found : (fields : List (List ℕ)) (i : ℕ) (x : List ℕ) → field_at fields i ≡ Some x → get_or fields i x ≡ x
unfolding field_at
field_found [] i x there = cc
field_found (f ∷ fs) zero x there = cc
field_found (f ∷ fs) (suc i) x there = field_found fs i x there

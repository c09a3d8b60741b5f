-- Root keys that words spell.
use Rattle.std.proofs.Common.{◌≡◌, ◌∙◌, ℕ, ◌+◌, ◌<◌, List, [], ◌∷◌, ◌++◌, length, take, get_or, map, zero, suc, arith, true, ◌==◌, Option, Some, None, unwrap_or, option_map, codes, refl, sym, ap, subst}
use Rattle.std.specs.List.{All}
use Rattle.std.specs.Borrow.{Bor}
use Rattle.std.proofs.lemmas.List.{take_more, map-append, length-map, get_or-map}
use Rattle.std.proofs.lemmas.List.Elements.{All-append}
use Rattle.std.proofs.lemmas.Bool.{eqb-true}
use Rattle.clap.specs.Walk.{Text, Row, all_of}
use Rattle.sq_command.specs.Owner.{SpellsKey, spelled_key, key_words, AreKeysOf}

-- the texts of words
abbrev pub texts_of : List (Bor Text) → List Text
texts_of = map (λ word. word.now)

-- the words spell these keys, in their order
abbrev pub SpellBy : List (Bor Text) → List ℕ → Type 0
SpellBy words keys = All SpellsKey (texts_of words) × (keys ≡ map spelled_key (texts_of words))

-- a word alone
alone : (text : Text) → SpellsKey text → All SpellsKey (text ∷ [])
alone text spells zero d within = spells
alone text spells (suc k) d within = absurd (omega (arith, within))

-- one word more
appended : (words : List (Bor Text)) (word : Bor Text) (keys : List ℕ) (key : ℕ) → SpellBy words keys → SpellsKey word.now → key ≡ spelled_key word.now
    → SpellBy (words ++ word ∷ []) (keys ++ key ∷ [])
appended words word keys key done spells is =
    let same : texts_of (words ++ word ∷ []) ≡ texts_of words ++ word.now ∷ [] = map-append (λ (w : Bor Text). w.now) words (word ∷ []) in
    let all : All SpellsKey (texts_of words ++ word.now ∷ []) = All-append SpellsKey (texts_of words) (word.now ∷ []) done.0 (alone word.now spells) in
    let spelled : map spelled_key (texts_of words ++ word.now ∷ []) ≡ map spelled_key (texts_of words) ++ spelled_key word.now ∷ [] = map-append spelled_key (texts_of words) (word.now ∷ []) in
    let grown : keys ++ key ∷ [] ≡ map spelled_key (texts_of words) ++ spelled_key word.now ∷ [] = λ i. done.1 i ++ is i ∷ [] in
    (subst (λ (texts : List Text). All SpellsKey texts) (sym same) all, grown ∙ sym spelled ∙ ap (λ (texts : List Text). map spelled_key texts) (sym same))

-- the word at a place, behind those before it
pub one_more : (words : List (Bor Text)) (i : ℕ) (word : Bor Text) (keys : List ℕ) (key : ℕ) → i < length words → SpellBy (take i words) keys → SpellsKey (get_or words i word).now
    → key ≡ spelled_key (get_or words i word).now → SpellBy (take (i + 1) words) (keys ++ key ∷ [])
one_more words i word keys key within done spells is =
    subst (λ (ws : List (Bor Text)). SpellBy ws (keys ++ key ∷ [])) (sym (take_more words i word within)) (appended (take i words) (get_or words i word) keys key done spells is)

-- the words of the keys that are named
pub all_told : (rows : List Row) (words : List (Bor Text)) (keys : List ℕ) → key_words rows ≡ texts_of words → SpellBy words keys → AreKeysOf rows keys
all_told rows words keys are spell = subst (λ (texts : List Text). All SpellsKey texts × (keys ≡ map spelled_key texts)) (sym are) spell

-- a word that spells no key
pub one_spells_none : (words : List (Bor Text)) (i : ℕ) (word : Bor Text) → i < length words → (SpellsKey (get_or words i word).now → ⊥) → All SpellsKey (texts_of words) → ⊥
one_spells_none words i word within none all =
    none (subst SpellsKey (get_or-map (λ (w : Bor Text). w.now) words i word word.now within) (all i word.now (subst (λ (n : ℕ). i < n) (sym (length-map words (λ (w : Bor Text). w.now))) within)))

pub words_named : (rows : List Row) (named : Option (Bor (List (Bor Text)))) (words : Bor (List (Bor Text))) → option_map (λ list. texts_of list.now) named ≡ all_of (codes "key") rows → named ≡ Some words
    → key_words rows ≡ texts_of words.now
words_named rows named words are is = ap (λ (texts : Option (List Text)). unwrap_or texts []) (sym are ∙ ap (option_map (λ (list : Bor (List (Bor Text))). texts_of list.now)) is)

pub none_named : (rows : List Row) (named : Option (Bor (List (Bor Text)))) → option_map (λ list. texts_of list.now) named ≡ all_of (codes "key") rows → named ≡ None → key_words rows ≡ []
none_named rows named are is = ap (λ (texts : Option (List Text)). unwrap_or texts []) (sym are ∙ ap (option_map (λ (list : Bor (List (Bor Text))). texts_of list.now)) is)

-- there are none
pub no_texts : (words : List (Bor Text)) → true ≡ (length words == 0) → texts_of words ≡ []
no_texts [] none = refl
no_texts (word ∷ words) none = let empty : suc (length words) ≡ 0 = eqb-true (suc (length words)) 0 (sym none) in absurd (omega (arith, empty))

-- there are some
pub some_texts : (words : List (Bor Text)) (i : ℕ) → i < length words → texts_of words ≡ [] → ⊥
some_texts [] i within none = absurd (omega (arith, within))
some_texts (word ∷ words) i within none = cc

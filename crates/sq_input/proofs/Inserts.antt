-- What is left of a reader with another one behind its first line, read by read.
use Rattle.std.proofs.Common.{◌≡◌, ◌⊎◌, inl, inr, ◌∙◌, refl, sym, ap, subst, arith, ℕ, zero, suc, Bool, true, false, ◌==◌, ◌<◌, ◌≤◌, ◌-◌, if◌then◌else◌, length, List, [], ◌∷◌, ◌++◌, take, slice_index_or, slice_set, Option, Some, None, Result, Ok, Err}
use Rattle.std.proofs.Math.Seq.{take-suc}
use Rattle.std.proofs.lemmas.List.{append_assoc}
use Rattle.std.proofs.lemmas.Bool.{ne_eqb}
use Rattle.std.specs.Io.KnownBytes.{Consumes, IsAtEnd, Keeps, ReadConsumes}
use Rattle.std.specs.Prelude.{IfSome, option_map}
use Rattle.std.specs.Io.Take.{take_inner, take_limit, take_remaining}
use Rattle.std.specs.declared.io.traits.Take.{Take}
use Rattle.sq_input.specs.Inputs.{ended, with_inserted, inserted_text}
use Rattle.sq_input.specs.Inserted.{ended_text, left_at}
use Rattle.sq_input.specs.declared.inserting.Place.{Place}
use Rattle.sq_input.specs.declared.inserting.Place.TheVariants.{FirstLine, Inserted}

-- the bytes behind the first one, which doesn't end the first line
inserted-goes_on : (others : List ℕ) (byte : ℕ) (bytes : List ℕ) → (byte == 10) ≡ false → with_inserted others (byte ∷ bytes) ≡ byte ∷ with_inserted others bytes
unfolding with_inserted
inserted-goes_on others byte bytes other = ap (λ (is_end : Bool). byte ∷ (if is_end then ended true others ++ bytes else with_inserted others bytes)) other

-- and the ones behind the one that ends it
inserted-ends : (others : List ℕ) (byte : ℕ) (bytes : List ℕ) → (byte == 10) ≡ true → with_inserted others (byte ∷ bytes) ≡ byte ∷ ended true others ++ bytes
unfolding with_inserted
inserted-ends others byte bytes is = ap (λ (is_end : Bool). byte ∷ (if is_end then ended true others ++ bytes else with_inserted others bytes)) is

-- bytes up to one of them come as they are
ended-after : (at_start : Bool) (xs : List ℕ) (x : ℕ) (ys : List ℕ) → ended at_start (xs ++ x ∷ ys) ≡ xs ++ x ∷ ended (x == 10) ys
unfolding ended
ended-after at_start [] x ys = refl
ended-after at_start (y ∷ xs) x ys = ap (λ zs. y ∷ zs) (ended-after (y == 10) xs x ys)

-- a byte of the first line that doesn't end it
pub first_line_goes_on : (others : Option (List ℕ)) (byte : ℕ) (old new : Option (List ℕ)) → (byte == 10) ≡ false → Consumes old new (byte ∷ [])
    → Consumes (inserted_text old others) (inserted_text new others) (byte ∷ [])
first_line_goes_on others byte None new other consumed = tt
first_line_goes_on others byte (Some xs) None other consumed = absurd consumed
first_line_goes_on None byte (Some xs) (Some ys) other consumed = tt
first_line_goes_on (Some zs) byte (Some xs) (Some ys) other consumed = ap (with_inserted zs) consumed ∙ inserted-goes_on zs byte ys other

pub first_line_ends : (others : Option (List ℕ)) (byte : ℕ) (old new : Option (List ℕ)) → (byte == 10) ≡ true → Consumes old new (byte ∷ [])
    → Consumes (inserted_text old others) (ended_text true new others) (byte ∷ [])
first_line_ends others byte None new other consumed = tt
first_line_ends others byte (Some xs) None other consumed = absurd consumed
first_line_ends None byte (Some xs) (Some ys) other consumed = tt
first_line_ends (Some zs) byte (Some xs) (Some ys) other consumed = ap (with_inserted zs) consumed ∙ inserted-ends zs byte ys other

-- the end of the main reader in its first line
pub first_line_stays : (others old new : Option (List ℕ)) → Consumes old new [] → Consumes (inserted_text old others) (inserted_text new others) []
first_line_stays others None new consumed = tt
first_line_stays others (Some xs) None consumed = absurd consumed
first_line_stays None (Some xs) (Some ys) consumed = tt
first_line_stays (Some zs) (Some xs) (Some ys) consumed = ap (with_inserted zs) consumed

pub first_line_is_over : (others main : Option (List ℕ)) → IsAtEnd main → IsAtEnd (inserted_text main others)
unfolding with_inserted
first_line_is_over others None end = tt
first_line_is_over None (Some xs) end = tt
first_line_is_over (Some zs) (Some xs) end = rw end refl

pub first_line_kept : (others old new : Option (List ℕ)) → Keeps old new → Keeps (inserted_text old others) (inserted_text new others)
first_line_kept others None new kept = tt
first_line_kept others (Some xs) None kept = absurd kept
first_line_kept None (Some xs) (Some ys) kept = tt
first_line_kept (Some zs) (Some xs) (Some ys) kept = ap (with_inserted zs) kept

-- bytes of the other reader
pub inserted_goes_on : (at_start : Bool) (main old new : Option (List ℕ)) (xs : List ℕ) (x : ℕ) → Consumes old new (xs ++ x ∷ [])
    → Consumes (ended_text at_start main old) (ended_text (x == 10) main new) (xs ++ x ∷ [])
inserted_goes_on at_start None old new xs x consumed = tt
inserted_goes_on at_start (Some m) None new xs x consumed = tt
inserted_goes_on at_start (Some m) (Some o) None xs x consumed = absurd consumed
inserted_goes_on at_start (Some m) (Some o) (Some n) xs x consumed =
    ap (λ z. z ++ m) (ap (ended at_start) (consumed ∙ append_assoc xs (x ∷ []) n) ∙ ended-after at_start xs x n)
    ∙ append_assoc xs (x ∷ ended (x == 10) n) m ∙ sym (append_assoc xs (x ∷ []) (ended (x == 10) n ++ m))

-- the line end behind its last line, once it is at its end
pub inserted_ends : (main old new : Option (List ℕ)) → Consumes old new [] → IsAtEnd new → Consumes (ended_text false main old) (ended_text true main new) (10 ∷ [])
unfolding ended
inserted_ends None old new consumed end = tt
inserted_ends (Some m) None new consumed end = tt
inserted_ends (Some m) (Some o) None consumed end = absurd consumed
inserted_ends (Some m) (Some o) (Some n) consumed end = rw (consumed, end) refl

-- what is left then is what the main reader has, where it is known
behind_inserted : (main old new : Option (List ℕ)) → Consumes old new [] → IsAtEnd new → (ended_text true main old ≡ None) ⊎ (ended_text true main old ≡ main)
unfolding ended
behind_inserted None old new consumed end = inl refl
behind_inserted (Some m) None new consumed end = inl refl
behind_inserted (Some m) (Some o) None consumed end = absurd consumed
behind_inserted (Some m) (Some o) (Some n) consumed end = inr (rw (consumed, end) refl)

unknown_read : {E : Type 0} (main after : Option (List ℕ)) (result : Result ℕ E) (buf : List ℕ) → ReadConsumes main after result buf → ReadConsumes None after result buf
unknown_read main after (Ok n) buf took = (tt, took.1)
unknown_read main after (Err e) buf kept = tt

pub read_behind : {E : Type 0} (main old new after : Option (List ℕ)) (result : Result ℕ E) (buf : List ℕ) → Consumes old new [] → IsAtEnd new
    → ReadConsumes main after result buf → ReadConsumes (ended_text true main old) after result buf
read_behind main old new after result buf consumed end read =
    elim (behind_inserted main old new consumed end) [
      | inl unknown ↦ subst (λ (left : Option (List ℕ)). ReadConsumes left after result buf) (sym unknown) (unknown_read main after result buf read)
      | inr same ↦ subst (λ (left : Option (List ℕ)). ReadConsumes left after result buf) (sym same) read
    ]

-- ---- the same at the places of the reader

-- a read of one byte at most that gave some gave that byte
of_one_byte : (P : List ℕ → ℕ → Type 0) → ((x : ℕ) → P (x ∷ []) 1) → (b : List ℕ) (count : ℕ) → 0 < count → count ≤ length b → length b ≤ 1 → P b count
of_one_byte P one [] count some within few = absurd (omega (arith, some, within))
of_one_byte P one (x ∷ y ∷ ys) count some within few = absurd (omega (arith, few))
of_one_byte P one (x ∷ []) zero some within few = absurd (omega (arith, some))
of_one_byte P one (x ∷ []) (suc (suc k)) some within few = absurd (omega (arith, within))
of_one_byte P one (x ∷ []) (suc zero) some within few = one x

-- one that ends the first line
pub first_ends : (place : Place) (others old new : Option (List ℕ)) (count : ℕ) (b rest : List ℕ) → place ≡ FirstLine → 0 < count → count ≤ length b → length b ≤ 1
    → slice_index_or (b ++ rest) 0 0 ≡ 10 → Consumes old new (take count b)
    → Consumes (left_at place old others) (ended_text true new others) (take count (b ++ rest)) × (count ≡ 0 → 0 < length (b ++ rest) → IsAtEnd (ended_text true new others))
first_ends place others old new count b rest is some within few ends took = (
  of_one_byte (λ b count. slice_index_or (b ++ rest) 0 0 ≡ 10 → Consumes old new (take count b) → Consumes (left_at place old others) (ended_text true new others) (take count (b ++ rest)))
      (λ x ends took. subst (λ (p : Place). Consumes (left_at p old others) (ended_text true new others) (x ∷ [])) (sym is) (first_line_ends others x old new (ap (λ n. n == 10) ends) took))
      b count some within few ends took,
  λ none room. absurd (omega (arith, some, none)),
)

-- a part that continues in it
pub first_goes_on : (place : Place) (others old new : Option (List ℕ)) (count : ℕ) (b rest : List ℕ) → place ≡ FirstLine → 0 < count → count ≤ length b → length b ≤ 1
    → (slice_index_or (b ++ rest) 0 0 ≡ 10 → ⊥) → Consumes old new (take count b)
    → Consumes (left_at place old others) (left_at place new others) (take count (b ++ rest)) × (count ≡ 0 → 0 < length (b ++ rest) → IsAtEnd (left_at place new others))
first_goes_on place others old new count b rest is some within few ends took = (
  of_one_byte (λ b count. (slice_index_or (b ++ rest) 0 0 ≡ 10 → ⊥) → Consumes old new (take count b) → Consumes (left_at place old others) (left_at place new others) (take count (b ++ rest)))
      (λ x ends took. subst (λ (p : Place). Consumes (left_at p old others) (left_at p new others) (x ∷ [])) (sym is) (first_line_goes_on others x old new (ne_eqb x 10 ends) took))
      b count some within few ends took,
  λ none room. absurd (omega (arith, some, none)),
)

-- and one that finds the end
pub first_stops : (place : Place) (others old new : Option (List ℕ)) (count : ℕ) (b rest : List ℕ) → place ≡ FirstLine → count ≤ 0 → 0 < length b
    → Consumes old new (take count b) → (count ≡ 0 → 0 < length b → IsAtEnd new)
    → Consumes (left_at place old others) (left_at place new others) (take count (b ++ rest)) × (count ≡ 0 → 0 < length (b ++ rest) → IsAtEnd (left_at place new others))
first_stops place others old new (suc k) b rest is none room took ended = absurd (omega (arith, none))
first_stops place others old new zero b rest is none room took ended = (
  subst (λ (p : Place). Consumes (left_at p old others) (left_at p new others) []) (sym is) (first_line_stays others old new took),
  λ zero more. subst (λ (p : Place). IsAtEnd (left_at p new others)) (sym is) (first_line_is_over others new (ended refl room)),
)

pub first_kept : (place : Place) (others old new : Option (List ℕ)) → place ≡ FirstLine → Keeps old new → Keeps (left_at place old others) (left_at place new others)
first_kept place others old new is kept = subst (λ (p : Place). Keeps (left_at p old others) (left_at p new others)) (sym is) (first_line_kept others old new kept)

-- a read of the other reader
pub other_goes_on : (place : Place) (at_start : Bool) (main old new : Option (List ℕ)) (count : ℕ) (buf : List ℕ) → place ≡ Inserted at_start → 0 < count → count ≤ length buf
    → Consumes old new (take count buf)
    → Consumes (left_at place main old) (ended_text (slice_index_or buf (count - 1) 0 == 10) main new) (take count buf) × (count ≡ 0 → 0 < length buf → IsAtEnd (ended_text (slice_index_or buf (count - 1) 0 == 10) main new))
other_goes_on place at_start main old new count buf is some within took =
    let before = count - 1 in
    let last = slice_index_or buf before 0 in
    let more : count ≡ suc before = omega (arith, some) in
    let split : take count buf ≡ take before buf ++ last ∷ [] = ap (λ n. take n buf) more ∙ take-suc buf before 0 (omega (arith, some, within)) in (
      subst (λ (p : Place). Consumes (left_at p main old) (ended_text (last == 10) main new) (take count buf)) (sym is)
          (subst (λ (bytes : List ℕ). Consumes (ended_text at_start main old) (ended_text (last == 10) main new) bytes) (sym split)
          (inserted_goes_on at_start main old new (take before buf) last (subst (λ (bytes : List ℕ). Consumes old new bytes) split took))),
      λ none room. absurd (omega (arith, some, none)),
    )

-- the line end that is given behind it
pub other_ends : (place : Place) (at_start : Bool) (main old new : Option (List ℕ)) (count : ℕ) (buf : List ℕ) → place ≡ Inserted at_start → at_start ≡ false → count ≤ 0 → 0 < length buf
    → Consumes old new (take count buf) → (count ≡ 0 → 0 < length buf → IsAtEnd new)
    → Consumes (left_at place main old) (ended_text true main new) (take 1 (slice_set buf 0 10)) × (◌≡◌ {A = ℕ} 1 0 → 0 < length (slice_set buf 0 10) → IsAtEnd (ended_text true main new))
other_ends place at_start main old new (suc k) buf is within none room took ended = absurd (omega (arith, none))
other_ends place at_start main old new zero [] is within none room took ended = absurd (omega (arith, room))
other_ends place at_start main old new zero (x ∷ xs) is within none room took ended = (
  subst (λ (p : Place). Consumes (left_at p main old) (ended_text true main new) (10 ∷ [])) (sym (is ∙ ap Inserted within)) (inserted_ends main old new took (ended refl room)),
  λ none room. absurd (omega (arith, none)),
)

-- what the main reader gives behind it
pub other_is_over : {E : Type 0} (place : Place) (at_start : Bool) (main old new after : Option (List ℕ)) (count : ℕ) (buf : List ℕ) (result : Result ℕ E) (given : List ℕ)
    → place ≡ Inserted at_start → at_start ≡ true → count ≤ 0 → 0 < length buf → Consumes old new (take count buf) → (count ≡ 0 → 0 < length buf → IsAtEnd new)
    → ReadConsumes main after result given → ReadConsumes (left_at place main old) after result given
other_is_over place at_start main old new after (suc k) buf result given is starts none room took ended read = absurd (omega (arith, none))
other_is_over place at_start main old new after zero buf result given is starts none room took ended read =
    subst (λ (p : Place). ReadConsumes (left_at p main old) after result given) (sym (is ∙ ap Inserted starts)) (read_behind main old new after result given took (ended refl room) read)

-- what is read of the first bytes that a reader gives, to their end
taken : (left : Option (List ℕ)) (limit : ℕ) (items : List ℕ) → IfSome (option_map (take limit) left) (λ bytes. items ≡ bytes) → IfSome left (λ bytes. items ≡ take limit bytes)
taken None limit items read = tt
taken (Some bytes) limit items read = read

pub all_taken : {R : Type 0} (remaining : R → Option (List ℕ)) (start : Take R) (file : R) (limit : ℕ) (before items : List ℕ) → take_inner start ≡ file → take_limit start ≡ limit → before ≡ []
    → IfSome (take_remaining remaining start) (λ bytes. items ≡ before ++ bytes) → IfSome (remaining file) (λ bytes. items ≡ take limit bytes)
all_taken remaining start file limit before items inner limited empty read =
    subst (λ f. IfSome (remaining f) (λ bytes. items ≡ take limit bytes)) inner
    (taken (remaining (take_inner start)) limit items
    (subst (λ (n : ℕ). IfSome (option_map (take n) (remaining (take_inner start))) (λ bytes. items ≡ bytes)) limited
    (subst (λ (front : List ℕ). IfSome (take_remaining remaining start) (λ bytes. items ≡ front ++ bytes)) empty read)))

-- What is left of a portion, read by read.
use Rattle.std.proofs.Common.{◌≡◌, refl, sym, ap, ◌∙◌, subst, arith, ℕ, zero, suc, Bool, true, false, ◌==◌, ◌<◌, ◌≤◌, ◌-◌, ◌+◌, if◌then◌else◌, cond, length, List, [], ◌∷◌, ◌++◌, take, Option, Some, None}
use Rattle.std.proofs.lemmas.List.{length-take-le}
use Rattle.std.proofs.lemmas.List.Sums.{sum_by-cons}
use Rattle.std.specs.Prelude.{count_by}
use Rattle.std.specs.Io.KnownBytes.{Consumes, IsAtEnd}
use Rattle.sq_serving.specs.Portions.{portion_bytes, portion_of}

-- nothing is left once no line is
no_lines : (bytes : List ℕ) → portion_bytes 0 bytes ≡ []
unfolding portion_bytes
no_lines [] = refl
no_lines (byte ∷ bytes) = refl

-- behind a byte that ends a line or doesn't, as much is left
on : (is_end : Bool) (lines : ℕ) (xs ys : List ℕ) → length xs ≤ lines
    → ((more : ℕ) → length xs ≤ more → portion_bytes more (xs ++ ys) ≡ xs ++ portion_bytes (more - count_by (λ byte. byte == 10) xs) ys)
    → portion_bytes (if is_end then lines else suc lines) (xs ++ ys) ≡ xs ++ portion_bytes (suc lines - (cond is_end 1 0 + count_by (λ byte. byte == 10) xs)) ys
on true lines xs ys few same =
    let count = count_by (λ byte. byte == 10) xs in
    let left : lines - count ≡ suc lines - (1 + count) = omega arith in
    same lines few ∙ ap (λ n. xs ++ portion_bytes n ys) left
on false lines xs ys few same =
    let count = count_by (λ byte. byte == 10) xs in
    let left : suc lines - count ≡ suc lines - (0 + count) = omega arith in
    same (suc lines) (omega (arith, few)) ∙ ap (λ n. xs ++ portion_bytes n ys) left

-- few bytes are in the portion, and it continues behind them with as many lines less as end in them
goes_on : (lines : ℕ) (xs ys : List ℕ) → length xs ≤ lines
    → portion_bytes lines (xs ++ ys) ≡ xs ++ portion_bytes (lines - count_by (λ byte. byte == 10) xs) ys
unfolding portion_bytes
goes_on lines [] ys few = ap (λ n. portion_bytes n ys) (omega arith)
goes_on zero (x ∷ xs) ys few = absurd (omega (arith, few))
goes_on (suc lines) (x ∷ xs) ys few =
    ap (λ rest. x ∷ rest) (on (x == 10) lines xs ys (omega (arith, few)) (λ more within. goes_on more xs ys within))
    ∙ ap (λ n. x ∷ (xs ++ portion_bytes (suc lines - n) ys)) (sym (sum_by-cons (λ byte. cond (byte == 10) 1 0) x xs))

pub portion_goes_on : (lines : ℕ) (old new : Option (List ℕ)) (xs : List ℕ) → length xs ≤ lines → Consumes old new xs
    → Consumes (portion_of lines old) (portion_of (lines - count_by (λ byte. byte == 10) xs) new) xs
portion_goes_on lines None new xs few took = tt
portion_goes_on lines (Some all) None xs few took = absurd took
portion_goes_on lines (Some all) (Some left) xs few took = ap (portion_bytes lines) took ∙ goes_on lines xs left few

pub portion_is_over : (known : Option (List ℕ)) → IsAtEnd (portion_of 0 known)
portion_is_over None = tt
portion_is_over (Some all) = no_lines all

pub portion_ends : (lines : ℕ) (known : Option (List ℕ)) → IsAtEnd known → IsAtEnd (portion_of lines known)
unfolding portion_bytes
portion_ends lines None over = tt
portion_ends lines (Some all) over = rw over refl

-- a read into a buffer of few bytes
pub portion_read : (lines left : ℕ) (old new : Option (List ℕ)) (count : ℕ) (buf : List ℕ) → length buf ≤ lines → count ≤ length buf
    → left ≡ lines - count_by (λ byte. byte == 10) (take count buf) → Consumes old new (take count buf) → (count ≡ 0 → 0 < length buf → IsAtEnd new)
    → Consumes (portion_of lines old) (portion_of left new) (take count buf) × (count ≡ 0 → 0 < length buf → IsAtEnd (portion_of left new))
portion_read lines left old new count buf few within is took ended = (
  subst (λ n. Consumes (portion_of lines old) (portion_of n new) (take count buf)) (sym is)
      (portion_goes_on lines old new (take count buf) (omega (arith, few, within, length-take-le count buf within)) took),
  λ none room. portion_ends left new (ended none room),
)

same : (known : Option (List ℕ)) → Consumes known known []
same None = tt
same (Some all) = refl

-- no read where there is no room, or no line is left
pub portion_stays : (lines room : ℕ) (known : Option (List ℕ)) → (0 < room → lines ≡ 0)
    → Consumes (portion_of lines known) (portion_of lines known) [] × (◌≡◌ {A = ℕ} 0 0 → 0 < room → IsAtEnd (portion_of lines known))
portion_stays lines room known over = (
  same (portion_of lines known),
  λ none some. subst (λ n. IsAtEnd (portion_of n known)) (sym (over some)) (portion_is_over known),
)

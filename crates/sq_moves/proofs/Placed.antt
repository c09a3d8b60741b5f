-- What is read of a tree after a node got a status.
use Rattle.std.proofs.Common.{◌≡◌, ℕ, zero, suc, ◌-◌, ◌<◌, true, false, ◌==◌, if◌then◌else◌, IsTrue, List, [], ◌∷◌, length, slice_index_or, slice_set, refl, sym, ap, ◌∙◌, arith}
use Rattle.std.specs.List.{list_all}
use Rattle.std.proofs.lemmas.Bool.{ne_eqb, and_parts}
use Rattle.std.proofs.lemmas.Bool.Decides.{nat_tests}
use Rattle.sq_moves.specs.declared.status.Status.{Status}
use Rattle.sq_moves.specs.declared.status.Status.TheVariants.{Free}
use Rattle.sq_moves.specs.Node.{is_node}
use Rattle.sq_moves.specs.Status.{is_free}
use Rattle.sq_moves.specs.Tree.{placed, status_at, with_status}
use Rattle.sq_moves.proofs.Changed.{set_at}
use Rattle.sq_moves.proofs.Statuses.{free_is}

same_next : (i j : ℕ) → (suc j == suc i) ≡ (j == i)
same_next i j = grind (arith, nat_tests)

other_next : (j : ℕ) → (suc j == zero) ≡ false
other_next j = ne_eqb (suc j) zero (λ e. omega arith)

next_other : (i : ℕ) → (zero == suc i) ≡ false
next_other i = ne_eqb zero (suc i) (λ e. omega arith)

-- what is at each place after a status was put at one
pub slice_index_or-placed : (sts : List Status) (i j : ℕ) (st : Status) → slice_index_or (placed sts i st) j Free ≡ (if j == i then st else slice_index_or sts j Free)
slice_index_or-placed [] zero zero st = refl
slice_index_or-placed [] zero (suc j) st = ap (λ b. if b then st else Free) (sym (other_next j))
slice_index_or-placed [] (suc i) zero st = ap (λ b. if b then st else Free) (sym (next_other i))
slice_index_or-placed [] (suc i) (suc j) st = slice_index_or-placed [] i j st ∙ ap (λ b. if b then st else Free) (sym (same_next i j))
slice_index_or-placed (x ∷ xs) zero zero st = refl
slice_index_or-placed (x ∷ xs) zero (suc j) st = ap (λ b. if b then st else slice_index_or xs j Free) (sym (other_next j))
slice_index_or-placed (x ∷ xs) (suc i) zero st = ap (λ b. if b then st else x) (sym (next_other i))
slice_index_or-placed (x ∷ xs) (suc i) (suc j) st = slice_index_or-placed xs i j st ∙ ap (λ b. if b then st else slice_index_or xs j Free) (sym (same_next i j))

-- behind node 0, which there isn't
status_at-placed : (sts : List Status) (i m : ℕ) (st : Status) → status_at (placed sts i st) m ≡ (if m == suc i then st else status_at sts m)
status_at-placed sts i zero st = ap (λ b. if b then st else Free) (sym (next_other i))
status_at-placed sts i (suc j) st = slice_index_or-placed sts i j st ∙ ap (λ b. if b then st else slice_index_or sts j Free) (sym (same_next i j))

-- after a node got a status it has this one, and each other node has the one that it had
pub status_at-with_status : (sts : List Status) (n m : ℕ) (st : Status) → IsTrue (is_node n) → status_at (with_status sts n st) m ≡ (if m == n then st else status_at sts m)
status_at-with_status sts n m st node =
    let e : suc (n - 1) ≡ n = grind (arith, nat_tests) in
    status_at-placed sts (n - 1) m st ∙ ap (λ k. if m == k then st else status_at sts m) e

-- the same of all nodes at once
pub statuses-with_status : (sts : List Status) (n : ℕ) (st : Status) → IsTrue (is_node n) → status_at (with_status sts n st) ≡ set_at (status_at sts) n st
statuses-with_status sts n st node = λ i m. status_at-with_status sts n m st node i

-- within the list it is a plain write
pub placed-set : (sts : List Status) (i : ℕ) (st : Status) → i < length sts → placed sts i st ≡ slice_set sts i st
placed-set [] i st within = absurd (omega arith)
placed-set (x ∷ xs) zero st within = refl
placed-set (x ∷ xs) (suc i) st within = ap (λ ys. x ∷ ys) (placed-set xs i st (omega arith))

-- a list of free ones has nothing else
pub status_at-free : (sts : List Status) (n : ℕ) → list_all is_free sts ≡ true → status_at sts n ≡ Free
status_at-free sts zero free = refl
status_at-free sts (suc j) free = within sts j free
  where
    within : (xs : List Status) (i : ℕ) → list_all is_free xs ≡ true → slice_index_or xs i Free ≡ Free
    within [] i e = refl
    within (x ∷ xs) zero e = free_is x (and_parts (is_free x) (list_all is_free xs) e).0
    within (x ∷ xs) (suc i) e = within xs i (and_parts (is_free x) (list_all is_free xs) e).1

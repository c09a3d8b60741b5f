-- What holds of each node of a tree.
use Rattle.std.proofs.Common.{◌≡◌, ⊎_elim, ℕ, zero, suc, ◌+◌, ◌<◌, ◌≤◌, true, false, List, [], length, get_or, refl, sym, ap, ◌∙◌, subst, arith, true≢false, add-one}
use Rattle.std.specs.Prelude.{slice_index, slice_index_or}
use Rattle.std.proofs.lemmas.Bool.{cases_lt}
use Rattle.std.proofs.lemmas.List.{get_or_past}
use Rattle.std.proofs.lemmas.Grind.{get_or_default_zero}
use Rattle.sq_gather.specs.Prelude.{Status, Free, is_leaf, is_free, is_split, is_live, status_at, IsGrown, AllGrown}
use Rattle.sq_gather.proofs.Prelude.{grown-free}
use Rattle.sq_audit.specs.Statuses.{IsGrownAt}

-- the node at a place of a list of all nodes
pub numbered_at : (nodes : List ℕ) (k other : ℕ) → length nodes ≡ 63 → ((i : ℕ) → i < 63 → slice_index nodes i ≡ i + 1) → k < 63 → get_or nodes k other ≡ k + 1
numbered_at nodes k other long numbered low = get_or_default_zero nodes k other (omega (arith, long, low)) ∙ numbered k low

-- where no status is listed it is free
pub by_nodes : (sts : List Status) → length sts ≤ 63 → (P : ℕ → Type 0) → ((n : ℕ) → status_at sts n ≡ Free → P n) → ((k : ℕ) → k < 63 → P (k + 1)) → (n : ℕ) → P n
by_nodes sts few P free each zero = free 0 refl
by_nodes sts few P free each (suc k) =
    ⊎_elim
    (λ low. subst P (add-one k) (each k low))
    (λ past. free (suc k) (get_or_past sts k Free (omega (arith, few, past))))
    (cases_lt k 63)

pub grown_from : (sts : List Status) → length sts ≤ 63 → ((k : ℕ) → k < 63 → IsGrownAt (status_at sts) (k + 1)) → IsGrown (status_at sts)
grown_from sts few each =
    record {
      live = by_nodes sts few (λ n. is_free (status_at sts n) ≡ false → is_live (status_at sts) n ≡ true) (λ n free touched. absurd (true≢false (sym (ap is_free free) ∙ touched))) (λ k low. (each k low).live);
      leaves = by_nodes sts few (λ n. is_leaf n ≡ true → is_split (status_at sts n) ≡ false) (λ n free leaf. ap is_split free) (λ k low. (each k low).leaf);
    }

pub grown_at : (status : ℕ → Status) (n : ℕ) → IsGrown status → IsGrownAt status n
grown_at status n grown = record { live = grown.live n; leaf = grown.leaves n }

-- of a tree that isn't there each node is free
pub nothing_at : (n : ℕ) → status_at [] n ≡ Free
nothing_at zero = refl
nothing_at (suc n) = get_or_past [] n Free (omega arith)

pub all_grown : (statuses : List (List Status)) (upto : ℕ) → length statuses ≤ upto → ((i : ℕ) → i < upto → IsGrown (status_at (slice_index_or statuses i []))) → AllGrown statuses
all_grown statuses upto whole each seg =
    ⊎_elim
    (λ low. each seg low)
    (λ past. subst (λ (sts : List Status). IsGrown (status_at sts)) (sym (get_or_past statuses seg [] (omega (arith, whole, past)))) (grown-free (status_at []) nothing_at))
    (cases_lt seg upto)

-- Functions with another value at one key.
use Rattle.std.proofs.Common.{⊎_elim, subst, ◌≡◌, ℕ, List, refl, sym, ap, length, eq-eqb}
use Rattle.std.specs.Prelude.{◌<◌, ◌≢◌, if◌then◌else◌, slice_set, slice_index_or}
use Rattle.std.proofs.lemmas.List.{get_or-set_same, get_or-set_other}
use Rattle.std.proofs.lemmas.Bool.{ne_eqb}
use Rattle.std.proofs.lemmas.Bool.Decides.{eqb_tells}
use Rattle.sq_node_model.specs.NodeValue.{put}

-- what is said of each key is said of the one with another value, and of the others
pub put_each : {X : Type 0} (P : ℕ → X → Type 0) (key : ℕ) (value : X) (f : ℕ → X) → P key value → ((k : ℕ) → k ≢ key → P k (f k)) → (k : ℕ) → P k (put key value f k)
put_each P key value f mine others k =
    ⊎_elim
    (λ e. subst (λ b. P k (if b then value else f k)) (sym e.0) (subst (λ j. P j value) (sym e.1) mine))
    (λ e. subst (λ b. P k (if b then value else f k)) (sym e.0) (others k e.1))
    (eqb_tells k key)

pub put_same : {X : Type 0} (key : ℕ) (value : X) (f : ℕ → X) → put key value f key ≡ value
put_same key value f = ap (λ b. if b then value else f key) (eq-eqb key key refl)

pub put_other : {X : Type 0} (key : ℕ) (value : X) (f : ℕ → X) (k : ℕ) → k ≢ key → put key value f k ≡ f k
put_other key value f k apart = ap (λ b. if b then value else f k) (ne_eqb k key apart)

-- a list by key with one element set
pub put_set : {X : Type 0} (xs : List X) (key : ℕ) (value none : X) → key < length xs → (k : ℕ) → slice_index_or (slice_set xs key value) k none ≡ put key value (λ j. slice_index_or xs j none) k
put_set xs key value none there =
    put_each (λ k x. slice_index_or (slice_set xs key value) k none ≡ x) key value (λ j. slice_index_or xs j none)
    (get_or-set_same xs key value none there)
    (λ k apart. get_or-set_other xs key k value none apart)

-- the same of two functions with another value at the same key
pub put_both : {X Y : Type 0} (P : ℕ → X → Y → Type 0) (key : ℕ) (value : X) (other : Y) (f : ℕ → X) (g : ℕ → Y) → P key value other → ((k : ℕ) → k ≢ key → P k (f k) (g k)) → (k : ℕ) → P k (put key value f k) (put key other g k)
put_both P key value other f g mine others k =
    ⊎_elim
    (λ e. subst (λ b. P k (if b then value else f k) (if b then other else g k)) (sym e.0) (subst (λ j. P j value other) (sym e.1) mine))
    (λ e. subst (λ b. P k (if b then value else f k) (if b then other else g k)) (sym e.0) (others k e.1))
    (eqb_tells k key)

-- a field of functions one of whose values was put
pub put_field : {X Y : Type 0} (field : X → Y) (key : ℕ) (value : X) (f : ℕ → X) (k : ℕ) → field (put key value f k) ≡ put key (field value) (λ j. field (f j)) k
put_field field key value f =
    put_each (λ k x. field x ≡ put key (field value) (λ j. field (f j)) k) key value f
    (sym (put_same key (field value) (λ j. field (f j))))
    (λ k apart. sym (put_other key (field value) (λ j. field (f j)) k apart))

-- a value that stays at the key
pub put_still : {X Y : Type 0} (field : X → Y) (key : ℕ) (value : X) (f : ℕ → X) (k : ℕ) → field value ≡ field (f key) → field (put key value f k) ≡ field (f k)
put_still field key value f k same = put_each (λ k x. field x ≡ field (f k)) key value f same (λ k apart. refl) k

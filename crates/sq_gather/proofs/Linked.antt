-- Links that are closed, one after the other.
use Rattle.std.proofs.Common.{◌≡◌, ℕ, ◌+◌, ◌<◌, List, [], ◌∷◌, ◌++◌, length, Some, refl, sym, ap, ◌∙◌, subst, ⊎_elim, append_assoc, append-nil, length-append, arith}
use Rattle.std.specs.Prelude.{slice_get}
use Rattle.std.proofs.lemmas.Option.{slice_get_within}
use Rattle.sq_shared.specs.Values.{LinkValue}
use Rattle.sq_node_model.specs.Gathered.{GatheredLink}
use Rattle.sq_node_model.proofs.Members.{push_stood}
use Rattle.sq_gather.specs.LinkEnds.{LinkEndsValue}
use Rattle.sq_gather.specs.Links.{HasBothEnds, IsClosed, HaveBothEnds, AreClosed}
use Rattle.sq_gather.proofs.Lists.{empty, stands_after}

-- these links are closed with the first ends, and these ends are left
pub record Closes (links : List LinkValue) (ends left : List LinkEndsValue) (closed : List GatheredLink) : Type 0 where
  pub used : List LinkEndsValue
  pub rest : ends ≡ used ++ left
  pub pairs : length used ≡ length links
  pub are : AreClosed links used closed

both : {X : Type 0} (xs : List X) (x y : X) (i : ℕ) → slice_get (xs ++ x ∷ []) i ≡ Some y → i < length xs → slice_get xs i ≡ Some y
both xs x y i there lt = ⊎_elim (λ (old : slice_get xs i ≡ Some y). old) (λ (new : (i ≡ length xs) × (x ≡ y)). absurd (omega (arith, new.0))) (push_stood xs x i y there)

last : {X : Type 0} (xs : List X) (x y : X) (i : ℕ) → slice_get (xs ++ x ∷ []) i ≡ Some y → i ≡ length xs → x ≡ y
last xs x y i there is = ⊎_elim (λ (old : slice_get xs i ≡ Some y). absurd (let lt = slice_get_within xs i y old in omega arith)) (λ (new : (i ≡ length xs) × (x ≡ y)). new.1) (push_stood xs x i y there)

-- one more is closed, with the first of the ends that are left
pub closes_more : (links : List LinkValue) (ends left rest : List LinkEndsValue) (closed : List GatheredLink) (link : LinkValue) (first : LinkEndsValue) (now : GatheredLink) → Closes links ends left closed → left ≡ first ∷ rest → IsClosed link first now
    → Closes (links ++ link ∷ []) ends rest (closed ++ now ∷ [])
closes_more links ends left rest closed link first now so_far next is =
    record {
      used = so_far.used ++ first ∷ [];
      rest = so_far.rest ∙ ap (λ (left : List LinkEndsValue). so_far.used ++ left) next ∙ sym (append_assoc so_far.used (first ∷ []) rest);
      pairs = length-append so_far.used (first ∷ []) ∙ ap (λ (n : ℕ). n + 1) so_far.pairs ∙ sym (length-append links (link ∷ []));
      are = record {
        count = length-append closed (now ∷ []) ∙ ap (λ (n : ℕ). n + 1) so_far.are.count ∙ sym (length-append links (link ∷ []));
        each = λ i one with_it gives one_there with_there gives_there.
            ⊎_elim
            (λ (old : slice_get links i ≡ Some one).
            let lt = slice_get_within links i one old in
            so_far.are.each i one with_it gives old (both so_far.used first with_it i with_there (omega (arith, so_far.pairs))) (both closed now gives i gives_there (omega (arith, so_far.are.count))))
            (λ (new : (i ≡ length links) × (link ≡ one)).
            let with_is : first ≡ with_it = last so_far.used first with_it i with_there (new.0 ∙ sym so_far.pairs) in
            let gives_is : now ≡ gives = last closed now gives i gives_there (new.0 ∙ sym so_far.are.count) in
            subst (λ (l : LinkValue). IsClosed l with_it gives) new.1 (subst (λ (e : LinkEndsValue). IsClosed link e gives) with_is (subst (λ (c : GatheredLink). IsClosed link first c) gives_is is)))
            (push_stood links link i one one_there);
      };
    }

pub none_closed : (ends : List LinkEndsValue) → Closes [] ends ends []
none_closed ends = record { used = []; rest = refl; pairs = refl; are = record { count = refl; each = λ i one with_it gives there. absurd cc } }

-- the ends that come next are those of the link that comes next
pub next_ends : (links all more : List LinkValue) (ends left rest : List LinkEndsValue) (closed : List GatheredLink) (link : LinkValue) (first : LinkEndsValue) → Closes links ends left closed → left ≡ first ∷ rest → all ≡ links ++ link ∷ more
    → HaveBothEnds all ends → HasBothEnds link first
next_ends links all more ends left rest closed link first so_far next is have =
    have.each (length links) link first (ap (λ (list : List LinkValue). slice_get list (length links)) is ∙ stands_after links link more (link ∷ more) refl)
    (ap (λ (list : List LinkEndsValue). slice_get list (length links)) so_far.rest ∙ ap (slice_get (so_far.used ++ left)) (sym so_far.pairs) ∙ stands_after so_far.used first rest left next)

-- all links are closed where none is left
pub all_closed : (links all : List LinkValue) (ends left : List LinkEndsValue) (closed : List GatheredLink) → Closes links ends left closed → all ≡ links → length ends ≡ length all → AreClosed all ends closed
all_closed links all ends left closed so_far is same =
    let none : left ≡ [] = empty left (omega (arith, so_far.pairs, ap length so_far.rest, length-append so_far.used left, ap length is)) in
    subst (λ (list : List LinkValue). AreClosed list ends closed) (sym is)
    (subst (λ (list : List LinkEndsValue). AreClosed links list closed) (sym (so_far.rest ∙ ap (λ (left : List LinkEndsValue). so_far.used ++ left) none ∙ append-nil so_far.used)) so_far.are)

-- Each step of a link keeps its order, and what its passes learn from it.
use Rattle.std.proofs.Common.{◌≡◌, ◌≢◌, ℕ, zero, suc, ◌⊎◌, inl, inr, ⊎_elim, true, false, true≢false, List, [], ◌∷◌, ◌++◌, length, set, sym, refl, ap, ◌∙◌, subst, append_assoc, append-nil, length-append, arith}
use Rattle.std.proofs.lemmas.List.{nil_from_length}
use mathlib.Core.Option.{some, some-injective, some-ne-none}
use lib.ListN.{get_elem?}
use Rattle.crossbeam_queue.specs.Fifo.{Pushes, Pops, Forks, Merges, Learns}
use Rattle.crossbeam_queue.proofs.Lists.{at_set}
use Rattle.sq_store.specs.ChunkValue.{ChunkValue}
use Rattle.sq_shared.specs.declared.order.EndView.{EndView}
use Rattle.sq_shared.specs.Order.{ends, IsInOrder, IsEndOf, KnowsRest}

-- what the rule says of a pass that may send, and of one that may receive
abbrev MaySend : ℕ → List ChunkValue → ℕ → EndView → Type 0
MaySend sender sent pass v = v.sends ≡ true → (pass ≡ sender) × (v.sent ≡ sent)

abbrev MayReceive : ℕ → List ChunkValue → ℕ → EndView → Type 0
MayReceive receiver received pass v = v.receives ≡ true → (pass ≡ receiver) × (v.received ≡ received)

abbrev EachPass : (ℕ → EndView → Type 0) → List EndView → Type 0
EachPass Fact views = (pass : ℕ) (v : EndView) → get_elem? views pass ≡ some v → Fact pass v

-- after a change of one pass
each-set : (Fact : ℕ → EndView → Type 0) (views : List EndView) (pass : ℕ) (w : EndView) → Fact pass w
    → ((j : ℕ) (u : EndView) → j ≢ pass → get_elem? views j ≡ some u → Fact j u) → EachPass Fact (set views pass w)
each-set Fact views pass w mine others j u at =
    ⊎_elim (λ (same : (j ≡ pass) × (w ≡ u)). subst (λ (p : ℕ × EndView). Fact p.0 p.1) (λ i. (sym same.0 i, same.1 i)) mine)
    (λ (other : (j ≢ pass) × (get_elem? views j ≡ some u)). others j u other.0 other.1) (at_set views pass j w u at)

at-snoc : (views : List EndView) (w u : EndView) (j : ℕ) → get_elem? (views ++ w ∷ []) j ≡ some u → (get_elem? views j ≡ some u) ⊎ ((j ≡ length views) × (w ≡ u))
at-snoc [] w u zero at = inr (refl, some-injective w u at)
at-snoc [] w u (suc j) at = absurd (some-ne-none u (sym at))
at-snoc (v ∷ views) w u zero at = inl at
at-snoc (v ∷ views) w u (suc j) at = ⊎_elim (λ old. inl old) (λ new. inr (ap suc new.0, new.1)) (at-snoc views w u j at)

-- with one pass more
each-snoc : (Fact : ℕ → EndView → Type 0) (views : List EndView) (w : EndView) → EachPass Fact views → Fact (length views) w → EachPass Fact (views ++ w ∷ [])
each-snoc Fact views w old new j u at =
    ⊎_elim (λ there. old j u there) (λ (last : (j ≡ length views) × (w ≡ u)). subst (λ (p : ℕ × EndView). Fact p.0 p.1) (λ i. (sym last.0 i, last.1 i)) new) (at-snoc views w u j at)

-- the first pass, which has both ends of an empty link
pub begins : IsInOrder [] (ends true true [] [] ∷ [])
begins = let first : EndView = ends true true [] [] in record {
  sender = 0;
  receiver = 0;
  sent = [];
  received = [];
  order = refl;
  sends = each-snoc (MaySend 0 []) [] first (λ j u at. absurd (some-ne-none u (sym at))) (λ _. (refl, refl));
  receives = each-snoc (MayReceive 0 []) [] first (λ j u at. absurd (some-ne-none u (sym at))) (λ _. (refl, refl));
}

-- a push by the pass that may send
pub sends : (n pass : ℕ) (v : EndView) (chunk : ChunkValue) → v.sends ≡ true → Pushes IsInOrder n pass v chunk (λ w. w ≡ ends v.sends v.receives (v.sent ++ chunk ∷ []) v.received)
sends n pass v chunk may items views _ rule at =
    let w : EndView = ends v.sends v.receives (v.sent ++ chunk ∷ []) v.received in
    let sent = rule.sent ++ chunk ∷ [] in
    let mine = rule.sends pass v at may in (
      w,
      record {
        sender = rule.sender;
        receiver = rule.receiver;
        sent = sent;
        received = rule.received;
        order = ap (λ l. l ++ chunk ∷ []) rule.order ∙ append_assoc rule.received items (chunk ∷ []);
        sends = each-set (MaySend rule.sender sent) views pass w (λ _. (mine.0, ap (λ l. l ++ chunk ∷ []) mine.1)) (λ j u other there p. absurd (other ((rule.sends j u there p).0 ∙ sym mine.0)));
        receives = each-set (MayReceive rule.receiver rule.received) views pass w (rule.receives pass v at) (λ j u _ there. rule.receives j u there);
      },
      refl,
    )

-- a pop by the pass that may receive
pub receives : (pass : ℕ) (v : EndView) → v.receives ≡ true → Pops IsInOrder pass v (λ chunk w. w ≡ ends v.sends v.receives v.sent (v.received ++ chunk ∷ []))
receives pass v may chunk items views rule at =
    let w : EndView = ends v.sends v.receives v.sent (v.received ++ chunk ∷ []) in
    let received = rule.received ++ chunk ∷ [] in
    let mine = rule.receives pass v at may in (
      w,
      record {
        sender = rule.sender;
        receiver = rule.receiver;
        sent = rule.sent;
        received = received;
        order = rule.order ∙ sym (append_assoc rule.received (chunk ∷ []) items);
        sends = each-set (MaySend rule.sender rule.sent) views pass w (rule.sends pass v at) (λ j u _ there. rule.sends j u there);
        receives = each-set (MayReceive rule.receiver received) views pass w (λ _. (mine.0, ap (λ l. l ++ chunk ∷ []) mine.1)) (λ j u other there p. absurd (other ((rule.receives j u there p).0 ∙ sym mine.0)));
      },
      refl,
    )

-- nothing was sent or received, and this pass is the one that receives
receiver_is : {items : List ChunkValue} {old new : List EndView} (rule : IsInOrder items old) (receiver : ℕ) → EachPass (MaySend rule.sender rule.sent) new → EachPass (MayReceive receiver rule.received) new → IsInOrder items new
receiver_is rule receiver sends receives = record { sender = rule.sender; receiver = receiver; sent = rule.sent; received = rule.received; order = rule.order; sends = sends; receives = receives }

-- the pass with both ends keeps the sending one and gives the other away
pub parts : (pass : ℕ) (v : EndView) → v.sends ≡ true → v.receives ≡ true → Forks IsInOrder pass v (ends true false v.sent []) (ends false true [] v.received)
parts pass v may_send may_receive items views rule at =
    let sender : EndView = ends true false v.sent [] in
    let receiver : EndView = ends false true [] v.received in
    let rest : List EndView = set views pass sender in
    let mine = rule.sends pass v at may_send in
    let theirs = rule.receives pass v at may_receive in
    let none : EachPass (λ j u. u.receives ≡ true → ⊥) rest =
    each-set (λ j u. u.receives ≡ true → ⊥) views pass sender (λ p. true≢false (sym p)) (λ j u other there p. other ((rule.receives j u there p).0 ∙ sym theirs.0)) in
    receiver_is rule (length rest)
    (each-snoc (MaySend rule.sender rule.sent) rest receiver (each-set (MaySend rule.sender rule.sent) views pass sender (λ _. mine) (λ j u _ there. rule.sends j u there)) (λ p. absurd (true≢false (sym p))))
    (each-snoc (MayReceive (length rest) rule.received) rest receiver (λ j u there p. absurd (none j u there p)) (λ _. (refl, theirs.1)))

-- the sending pass takes the receiving one in, which is given up
pub joins : (pass : ℕ) (v : EndView) (other : ℕ) (u : EndView) → v.sends ≡ true → u.receives ≡ true
    → Merges IsInOrder pass v other u (ends true true v.sent u.received) (ends false false [] [])
joins pass v other u may_send may_receive items views rule at apart at_other =
    let both : EndView = ends true true v.sent u.received in
    let spent : EndView = ends false false [] [] in
    let rest : List EndView = set views pass both in
    let was : get_elem? views other ≡ some u =
    ⊎_elim (λ (same : (other ≡ pass) × (both ≡ u)). absurd (apart same.0)) (λ (kept : (other ≢ pass) × (get_elem? views other ≡ some u)). kept.1) (at_set views pass other both u at_other) in
    let mine = rule.sends pass v at may_send in
    let theirs = rule.receives other u was may_receive in
    let now : EachPass (λ j y. j ≢ other → MayReceive pass rule.received j y) rest =
    each-set (λ j y. j ≢ other → MayReceive pass rule.received j y) views pass both (λ _ _. (refl, theirs.1)) (λ j y _ there elsewhere p. absurd (elsewhere ((rule.receives j y there p).0 ∙ sym theirs.0))) in
    receiver_is rule pass
    (each-set (MaySend rule.sender rule.sent) rest other spent (λ p. absurd (true≢false (sym p))) (λ j y _ there. each-set (MaySend rule.sender rule.sent) views pass both (λ _. mine) (λ i z _ old. rule.sends i z old) j y there))
    (each-set (MayReceive pass rule.received) rest other spent (λ p. absurd (true≢false (sym p))) (λ j y elsewhere there. now j y there elsewhere))

-- the sender knows that the queue holds the last ones of what it sent
pub learns_end : (pass : ℕ) (v : EndView) → v.sends ≡ true → Learns IsInOrder pass v (IsEndOf v.sent)
learns_end pass v may items views rule at = (rule.received, (rule.sends pass v at may).1 ∙ rule.order)

-- the receiver knows that what the queue holds was sent after what it received
pub learns_rest : (pass : ℕ) (v : EndView) → v.receives ≡ true → Learns IsInOrder pass v (KnowsRest v)
learns_rest pass v may items views rule at =
    (rule.sent, rule.order ∙ ap (λ l. l ++ items) (sym (rule.receives pass v at may).1), λ may_send. (rule.sends pass v at may_send).1)

-- who has both ends knows what the queue holds
pub holds_rest : (v : EndView) (sent received items : List ChunkValue) → v ≡ ends true true sent received → KnowsRest v items → sent ≡ received ++ items
holds_rest v sent received items is rest =
    ap (λ u. u.sent) (sym is) ∙ rest.2 (ap (λ u. u.sends) is) ∙ rest.1 ∙ ap (λ u. u.received ++ items) is

-- after as many pops as the queue held, nothing is left
pub empties : (before after : EndView) (sent received rest items more : List ChunkValue) → before ≡ ends true true sent received → after ≡ ends true true sent (received ++ rest)
    → KnowsRest before items → KnowsRest after more → length items ≡ length rest → sent ≡ received ++ rest
empties before after sent received rest items more was is held left long =
    let first = holds_rest before sent received items was held in
    let last = holds_rest after sent (received ++ rest) more is left in
    let none : length more ≡ 0 = omega (arith, ap length first, ap length last, length-append received items, length-append (received ++ rest) more, length-append received rest) in
    last ∙ ap (λ l. (received ++ rest) ++ l) (nil_from_length more none) ∙ append-nil (received ++ rest)

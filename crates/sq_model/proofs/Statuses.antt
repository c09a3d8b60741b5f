-- On a legal trace the statuses of each segment are grown, and they are begun exactly where an item is.
use Rattle.std.proofs.Common.{◌≡◌, inl, inr, ℕ, ◌<◌, Bool, true, false, ◌==◌, ◌&&◌, if◌then◌else◌, IsTrue, [], ◌∷◌, ◌++◌, length, Contains, refl, sym, ap, ◌∙◌, subst, arith, true≢false}
use Rattle.std.specs.Cmp.{IsEquivalence}
use Rattle.std.specs.List.{list_any, IsDistinct}
use Rattle.std.proofs.lemmas.Bool.{cases_Bool, cond_both, and_parts, eqb-true, eq-eqb, false_from_ne_true}
use Rattle.std.proofs.lemmas.Bool.Decides.{nat_tests}
use Rattle.std.proofs.lemmas.List.Elements.{Contains-push, Contains-push_cases, Contains-append_left}
use Rattle.std.proofs.lemmas.Map.Keys.{IsDistinct-push}
use Rattle.sq_moves.specs.declared.status.Status.{Status}
use Rattle.sq_moves.specs.declared.status.Status.TheVariants.{Free, Split, Claimed, Partial, Complete}
use Rattle.sq_moves.specs.declared.status.Reading.{Reading}
use Rattle.sq_moves.specs.declared.status.Reading.TheVariants as reads
use Rattle.sq_moves.specs.declared.node.TheConstants.{LEAVES}
use Rattle.sq_moves.specs.Node.{is_node, is_leaf}
use Rattle.sq_moves.specs.Reading.{is_complete_reading}
use Rattle.sq_moves.specs.Status.{is_free, is_split, is_live, is_begun, is_complete, is_past, pull_of, reading, covering}
use Rattle.sq_moves.specs.Tree.{IsGrown}
use Rattle.sq_moves.proofs.Changed.{set_at}
use Rattle.sq_moves.proofs.Grown.{grown-free, grown-set_at}
use Rattle.sq_moves.proofs.Readings.{all_complete_is}
use Rattle.sq_moves.specs.OpeningValue.{OpeningValue}
use Rattle.sq_model.specs.declared.step.Step.{Step}
use Rattle.sq_model.specs.declared.step.Step.TheVariants.{Split as Split_step, Claim, Begin, Complete as Complete_step}
use Rattle.sq_model.specs.declared.answer.Answer.{Answer}
use Rattle.sq_model.specs.declared.answer.Answer.TheVariants.{Done}
use Rattle.sq_model.specs.Trace.{Trace}
use Rattle.sq_model.specs.Nodes.{Item, set_if, status_of, items}
use Rattle.sq_model.specs.Legal.{IsLegal}
use Rattle.sq_model.proofs.Lists.{Contains-nothing, any_in}
use Rattle.sq_model.proofs.Steps.{split_goes, claim_goes, begin_goes, complete_goes}

reads_complete : (now : Reading) → is_complete_reading now ≡ true → now ≡ reads.Complete
reads_complete reads.Complete e = refl
reads_complete now e = absurd cc

-- each leaf's node is complete in a tree that reads complete
pub all_complete : (status : ℕ → Status) → IsGrown status → is_complete_reading (reading status 1) ≡ true → (leaf : ℕ) → leaf < LEAVES → is_complete (status (covering status leaf)) ≡ true
all_complete status grown whole = (all_complete_is status grown).0 (reads_complete (reading status 1) whole)

-- what is set at one node, and at all nodes of a segment
set_if-set_at : (sts : ℕ → ℕ → Status) (seg node g : ℕ) (st : Status) (n : ℕ) → set_if seg node st g n (sts g n) ≡ (if seg == g then set_at (sts seg) node st n else sts g n)
set_if-set_at sts seg node g st n = grind (arith, nat_tests)

-- so they are grown as before, where a live node that isn't split is set
grown-set_if : (sts : ℕ → ℕ → Status) (seg node g : ℕ) (st : Status) → IsGrown (sts g) → IsGrown (sts seg) → IsTrue (is_node node) → is_live (sts seg) node ≡ true → is_split (sts seg node) ≡ false → (is_leaf node ≡ true → is_split st ≡ false)
    → IsGrown (λ n. set_if seg node st g n (sts g n))
grown-set_if sts seg node g st other before exists live whole leaf =
    subst IsGrown (λ i n. sym (set_if-set_at sts seg node g st n) i)
    (elim (cases_Bool (seg == g)) [
      | inl same ↦ subst (λ b. IsGrown (λ n. if b then set_at (sts seg) node st n else sts g n)) (sym same) (grown-set_at (sts seg) node st before exists live whole leaf)
      | inr apart ↦ subst (λ b. IsGrown (λ n. if b then set_at (sts seg) node st n else sts g n)) (sym apart) other
    ])

-- a node that isn't free is live, and no leaf is split
pub grown : (o : OpeningValue) (t : Trace) → IsLegal o t → (g : ℕ) → IsGrown (status_of t g)
grown o [] legal g = grown-free (λ n. Free) (λ n. refl)
grown o ((Split_step seg node, Done) ∷ t) legal g =
    let goes = split_goes o t seg node legal.0 in
    let was = goes.held in
    grown-set_if (status_of t) seg node g Split (grown o t legal.1 g) (grown o t legal.1 seg) goes.exists was.live (ap is_split was.free) (λ leaf. absurd (true≢false (sym leaf ∙ was.inner)))
grown o ((Claim seg node pull, Done) ∷ t) legal g =
    let goes = claim_goes o t seg node pull legal.0 in
    grown-set_if (status_of t) seg node g (Claimed pull) (grown o t legal.1 g) (grown o t legal.1 seg) goes.exists goes.held.live (ap is_split goes.held.free) (λ leaf. refl)
grown o ((Begin seg node pull, Done) ∷ t) legal g =
    let goes = begin_goes o t seg node pull legal.0 in
    let before = grown o t legal.1 seg in
    grown-set_if (status_of t) seg node g (Partial pull) (grown o t legal.1 g) before goes.exists (before.live node (ap is_free goes.held)) (ap is_split goes.held) (λ leaf. refl)
grown o ((Complete_step seg node pull, Done) ∷ t) legal g =
    let goes = complete_goes o t seg node pull legal.0 in
    let before = grown o t legal.1 seg in
    grown-set_if (status_of t) seg node g (Complete pull) (grown o t legal.1 g) before goes.exists (before.live node (ap is_free goes.held.1)) (ap is_split goes.held.1) (λ leaf. refl)
grown o ((step, given) ∷ t) legal g = grown o t legal.1 g

-- what is set at a node is there, and the others keep what they have
pub set_if_at : (P : Status → Type 0) (seg node : ℕ) (new : Status) (g n : ℕ) (before : Status) → (seg ≡ g → node ≡ n → P new) → P before → P (set_if seg node new g n before)
set_if_at P seg node new g n before here there =
    cond_both ((seg == g) && (node == n)) new before P
    (λ same. let parts = and_parts (seg == g) (node == n) same in here (eqb-true seg g parts.0) (eqb-true node n parts.1))
    (λ other. there)

set_if_same : (seg node : ℕ) (new before : Status) → set_if seg node new seg node before ≡ new
set_if_same seg node new before = grind (arith, nat_tests)

is_past-same : (st : Status) → is_past st st ≡ true
is_past-same Free = refl
is_past-same Split = refl
is_past-same (Claimed p) = eq-eqb p p refl
is_past-same (Partial p) = eq-eqb p p refl
is_past-same (Complete p) = eq-eqb p p refl

-- no status goes back
pub later : (o : OpeningValue) (t : Trace) (step : Step) (given : Answer) → IsLegal o ((step, given) ∷ t) → (g n : ℕ) → is_past (status_of t g n) (status_of ((step, given) ∷ t) g n) ≡ true
later o t (Split_step seg node) Done legal g n =
    set_if_at (λ st. is_past (status_of t g n) st ≡ true) seg node Split g n (status_of t g n)
    (λ same there. let was = (split_goes o t seg node legal.0).held.free in let e : status_of t g n ≡ Free = cc in subst (λ st. is_past st Split ≡ true) (sym e) refl)
    (is_past-same (status_of t g n))
later o t (Claim seg node pull) Done legal g n =
    set_if_at (λ st. is_past (status_of t g n) st ≡ true) seg node (Claimed pull) g n (status_of t g n)
    (λ same there. let was = (claim_goes o t seg node pull legal.0).held.free in let e : status_of t g n ≡ Free = cc in subst (λ st. is_past st (Claimed pull) ≡ true) (sym e) refl)
    (is_past-same (status_of t g n))
later o t (Begin seg node pull) Done legal g n =
    set_if_at (λ st. is_past (status_of t g n) st ≡ true) seg node (Partial pull) g n (status_of t g n)
    (λ same there. let was = (begin_goes o t seg node pull legal.0).held in let e : status_of t g n ≡ Claimed pull = cc in subst (λ st. is_past st (Partial pull) ≡ true) (sym e) (eq-eqb pull pull refl))
    (is_past-same (status_of t g n))
later o t (Complete_step seg node pull) Done legal g n =
    set_if_at (λ st. is_past (status_of t g n) st ≡ true) seg node (Complete pull) g n (status_of t g n)
    (λ same there. let was = (complete_goes o t seg node pull legal.0).held.1 in let e : status_of t g n ≡ Partial pull = cc in subst (λ st. is_past st (Complete pull) ≡ true) (sym e) (eq-eqb pull pull refl))
    (is_past-same (status_of t g n))
later o t step given legal g n = is_past-same (status_of t g n)

begun_past : (one other : Status) → is_past one other ≡ true → is_begun one ≡ true → is_begun other ≡ true
begun_past (Partial p) (Partial q) past begun = refl
begun_past (Partial p) (Complete q) past begun = refl
begun_past (Complete p) (Complete q) past begun = refl
begun_past one other past begun = absurd cc

-- a begun node stays begun
pub stays_begun : (o : OpeningValue) (t : Trace) (step : Step) (given : Answer) → IsLegal o ((step, given) ∷ t) → (g n : ℕ) → is_begun (status_of t g n) ≡ true → is_begun (status_of ((step, given) ∷ t) g n) ≡ true
stays_begun o t step given legal g n begun = begun_past (status_of t g n) (status_of ((step, given) ∷ t) g n) (later o t step given legal g n) begun

-- where a status isn't free, there is this segment and this node
pub record IsThere (o : OpeningValue) (g n : ℕ) : Type 0 where
  pub segment : g < length o.recon.segments
  pub node : IsTrue (is_node n)

there_if : (o : OpeningValue) (seg node : ℕ) (new : Status) (g n : ℕ) (before : Status) → IsThere o seg node → (is_free before ≡ false → IsThere o g n) → is_free (set_if seg node new g n before) ≡ false → IsThere o g n
there_if o seg node new g n before here other =
    set_if_at (λ st. is_free st ≡ false → IsThere o g n) seg node new g n before
    (λ same there touched. subst (λ k. IsThere o k n) same (subst (λ k. IsThere o seg k) there here))
    other

pub is_there : (o : OpeningValue) (t : Trace) → IsLegal o t → (g n : ℕ) → is_free (status_of t g n) ≡ false → IsThere o g n
is_there o [] legal g n touched = absurd (true≢false touched)
is_there o ((Split_step seg node, Done) ∷ t) legal g n touched =
    let goes = split_goes o t seg node legal.0 in
    there_if o seg node Split g n (status_of t g n) (record { segment = goes.segment; node = goes.exists }) (is_there o t legal.1 g n) touched
is_there o ((Claim seg node pull, Done) ∷ t) legal g n touched =
    let goes = claim_goes o t seg node pull legal.0 in
    there_if o seg node (Claimed pull) g n (status_of t g n) (record { segment = goes.segment; node = goes.exists }) (is_there o t legal.1 g n) touched
is_there o ((Begin seg node pull, Done) ∷ t) legal g n touched =
    let goes = begin_goes o t seg node pull legal.0 in
    there_if o seg node (Partial pull) g n (status_of t g n) (record { segment = goes.segment; node = goes.exists }) (is_there o t legal.1 g n) touched
is_there o ((Complete_step seg node pull, Done) ∷ t) legal g n touched =
    let goes = complete_goes o t seg node pull legal.0 in
    there_if o seg node (Complete pull) g n (status_of t g n) (record { segment = goes.segment; node = goes.exists }) (is_there o t legal.1 g n) touched
is_there o ((step, given) ∷ t) legal g n touched = is_there o t legal.1 g n touched

-- each item's node is begun
pub item_begun : (o : OpeningValue) (t : Trace) → IsLegal o t → (item : Item) → Contains (items t) item → is_begun (status_of t item.seg item.node) ≡ true
item_begun o [] legal item has = absurd (Contains-nothing item has)
item_begun o ((Begin seg node pull, Done) ∷ t) legal item has =
    elim (Contains-push_cases (items t) (record { seg = seg; node = node; pull = pull }) item has) [
      | inl older ↦ stays_begun o t (Begin seg node pull) Done legal item.seg item.node (item_begun o t legal.1 item older)
      | inr new ↦
          subst (λ (other : Item). is_begun (set_if seg node (Partial pull) other.seg other.node (status_of t other.seg other.node)) ≡ true) new
          (ap is_begun (set_if_same seg node (Partial pull) (status_of t seg node)))
    ]
item_begun o ((Split_step seg node, Done) ∷ t) legal item has = stays_begun o t (Split_step seg node) Done legal item.seg item.node (item_begun o t legal.1 item has)
item_begun o ((Claim seg node pull, Done) ∷ t) legal item has = stays_begun o t (Claim seg node pull) Done legal item.seg item.node (item_begun o t legal.1 item has)
item_begun o ((Complete_step seg node pull, Done) ∷ t) legal item has = stays_begun o t (Complete_step seg node pull) Done legal item.seg item.node (item_begun o t legal.1 item has)
item_begun o ((step, given) ∷ t) legal item has = item_begun o t legal.1 item has

-- the item of a node with this status
abbrev pub item_for : ℕ → ℕ → Status → Item
item_for g n st = record { seg = g; node = n; pull = pull_of st }

-- and each begun node has an item, with its pull
pub begun_item : (o : OpeningValue) (t : Trace) → IsLegal o t → (g n : ℕ) → is_begun (status_of t g n) ≡ true → Contains (items t) (item_for g n (status_of t g n))
begun_item o [] legal g n begun = absurd (true≢false (sym begun))
begun_item o ((Split_step seg node, Done) ∷ t) legal g n begun =
    set_if_at (λ st. is_begun st ≡ true → Contains (items t) (item_for g n st)) seg node Split g n (status_of t g n)
    (λ same there no_begun. absurd (true≢false (sym no_begun)))
    (begun_item o t legal.1 g n) begun
begun_item o ((Claim seg node pull, Done) ∷ t) legal g n begun =
    set_if_at (λ st. is_begun st ≡ true → Contains (items t) (item_for g n st)) seg node (Claimed pull) g n (status_of t g n)
    (λ same there no_begun. absurd (true≢false (sym no_begun)))
    (begun_item o t legal.1 g n) begun
begun_item o ((Begin seg node pull, Done) ∷ t) legal g n begun =
    set_if_at (λ st. is_begun st ≡ true → Contains (items t ++ record { seg = seg; node = node; pull = pull } ∷ []) (item_for g n st)) seg node (Partial pull) g n (status_of t g n)
    (λ same there is. subst (λ k. Contains (items t ++ record { seg = seg; node = node; pull = pull } ∷ []) (record { seg = k; node = n; pull = pull })) same
    (subst (λ k. Contains (items t ++ record { seg = seg; node = node; pull = pull } ∷ []) (record { seg = seg; node = k; pull = pull })) there
    (Contains-push (items t) (record { seg = seg; node = node; pull = pull }))))
    (λ is. Contains-append_left (items t) (record { seg = seg; node = node; pull = pull } ∷ []) (item_for g n (status_of t g n)) (begun_item o t legal.1 g n is))
    begun
begun_item o ((Complete_step seg node pull, Done) ∷ t) legal g n begun =
    set_if_at (λ st. is_begun st ≡ true → Contains (items t) (item_for g n st)) seg node (Complete pull) g n (status_of t g n)
    (λ same there is.
    let was = (complete_goes o t seg node pull legal.0).held.1 in
    let e : status_of t g n ≡ Partial pull = cc in
    subst (λ p. Contains (items t) (record { seg = g; node = n; pull = p })) (ap pull_of e) (begun_item o t legal.1 g n (ap is_begun e)))
    (begun_item o t legal.1 g n) begun
begun_item o ((step, given) ∷ t) legal g n begun = begun_item o t legal.1 g n begun

-- two items are of one node
abbrev pub is_same_node : Item → Item → Bool
is_same_node one other = (one.seg == other.seg) && (one.node == other.node)

pub same_node_laws : IsEquivalence is_same_node
same_node_laws = record {
  refl = λ x. grind (arith, nat_tests);
  symm = λ x y. grind (arith, nat_tests);
  congr = λ x y z same. grind (arith, nat_tests);
}

-- no node has two items
pub distinct_items : (o : OpeningValue) (t : Trace) → IsLegal o t → IsDistinct is_same_node (items t)
unfolding IsDistinct
distinct_items o [] legal = tt
distinct_items o ((Begin seg node pull, Done) ∷ t) legal =
    IsDistinct-push same_node_laws (items t) (record { seg = seg; node = node; pull = pull }) (distinct_items o t legal.1)
    (false_from_ne_true (list_any (is_same_node (record { seg = seg; node = node; pull = pull })) (items t)) (λ any.
    let other = any_in (is_same_node (record { seg = seg; node = node; pull = pull })) (items t) any in
    let parts = and_parts (seg == other.0.seg) (node == other.0.node) other.2 in
    let same = eqb-true seg other.0.seg parts.0 in
    let there = eqb-true node other.0.node parts.1 in
    let begun = item_begun o t legal.1 other.0 other.1 in
    let was = (begin_goes o t seg node pull legal.0).held in
    let e : status_of t other.0.seg other.0.node ≡ Claimed pull = cc in
    true≢false (sym begun ∙ ap is_begun e)))
distinct_items o ((step, given) ∷ t) legal = distinct_items o t legal.1

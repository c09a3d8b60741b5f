-- What a load and an exchange of a node's word owe to the table: that the rule holds again, and what they show.
use Rattle.std.proofs.Common.{◌≡◌, ℕ, zero, suc, ◌+◌, ◌<◌, false, List, [], ◌∷◌, length, map, set, slice_index, refl, sym, ap, ◌∙◌, subst, inl, inr, eqb, arith}
use mathlib.Core.Option.{some, none, some-ne-none}
use lib.ListN.{get_elem?}
use prog.Atomic.{either}
use Rattle.std.proofs.lemmas.List.{set-get_or, map-set}
use Rattle.std.proofs.Math.ListN.{get_or-map}
use Rattle.atomic_table.specs.Table.{State, Me, Act, keeps, Valid, step, stepped, carried_after, Allows}
use Rattle.atomic_table.proofs.Lists.{exchanged}
use Rattle.sq_moves.specs.declared.status.Status.{Status}
use Rattle.sq_moves.specs.declared.status.Status.TheVariants.{Free}
use Rattle.sq_moves.specs.Status.{word_of, before}
use Rattle.sq_moves.proofs.Words.{same_status}
use Rattle.sq_shared.specs.declared.view.View.{View}
use Rattle.sq_shared.specs.View.{saw, won}
use Rattle.sq_moves.specs.Tree.{status_at}
use Rattle.sq_shared.specs.Rule.{IsTreeOf, Kept}
use Rattle.sq_shared.specs.Plays.{IsLater, MayBring, Found, Won, Looked, Advanced}
use Rattle.sq_shared.proofs.Steps.{is_later, fits, look_kept, status_at-set, win_kept}

abbrev pub Table : State (Unit {0}) View → Type 0
Table s = Kept s.words s.views

abbrev Seat : Type 0
Seat = Me (Unit {0}) View

word_at : (statuses : List Status) (i : ℕ) → i < length statuses → slice_index (map word_of statuses) i ≡ word_of (status_at statuses (i + 1))
word_at statuses i h =
    get_or-map word_of statuses i Free ∙ ap (λ (n : ℕ). word_of (status_at statuses n)) (let next : suc i ≡ i + 1 = omega arith in next)

there : (views : List View) (id : ℕ) (v w : View) → get_elem? views id ≡ some v → get_elem? (set views id w) id ≡ some w
there [] id v w at = absurd (some-ne-none v (sym at))
there (u ∷ us) zero v w at = refl
there (u ∷ us) (suc id) v w at = there us id v w at

module _ (s : State (Unit {0}) View) (statuses : List Status) (words : s.words ≡ map word_of statuses) (tree : IsTreeOf statuses s.views)
    (id i : ℕ) (v : View) (within : i < 63) (live : v.spent ≡ false) (at : get_elem? s.views id ≡ some v) where
  abbrev status : Status
  status = status_at statuses (i + 1)

  word_is : slice_index s.words i ≡ word_of status
  word_is = ap (λ (l : List ℕ). slice_index l i) words ∙ word_at statuses i (let count = tree.shape.count in omega arith)

  seen_after : Kept (set s.words i (slice_index s.words i)) (set s.views id (saw v (i + 1) status))
  seen_after = (statuses, set-get_or s.words i 0 ∙ words, look_kept statuses s.views tree id v at live (i + 1))

  found_there : (n : ℕ) → n ≡ i + 1 → Found v n status (saw v (i + 1) status)
  found_there n here = subst (λ (k : ℕ). Found v k status (saw v (i + 1) status)) (sym here) record {
    after = refl;
    later = is_later statuses s.views tree id v at (i + 1);
    stood = (statuses, set s.views id (saw v (i + 1) status), id, look_kept statuses s.views tree id v at live (i + 1), there s.views id v (saw v (i + 1) status) at, refl);
    fits = fits statuses s.views tree (i + 1);
  }

  module _ (new : Status) (may : MayBring v (i + 1) new) (was : status ≡ before new) where
    won_after : Kept (set s.words i (word_of new)) (set s.views id (won v (i + 1) new))
    won_after = (
      set statuses i new,
      ap (λ (l : List ℕ). set l i (word_of new)) words ∙ sym (map-set word_of statuses i new),
      win_kept statuses s.views tree id v at live i (i + 1) new refl within may was,
    )

    won_there : (n : ℕ) (st : Status) → n ≡ i + 1 → word_of new ≡ word_of st → Won v n st (won v (i + 1) new)
    won_there n st here same = subst (λ (x : ℕ × Status). Won v x.0 x.1 (won v (i + 1) new)) (λ k. (sym here k, same_status new st same k)) record {
      after = refl;
      later = subst (λ (x : Status). IsLater v (i + 1) x) was (is_later statuses s.views tree id v at (i + 1));
      stood = (
        set statuses i new,
        set s.views id (won v (i + 1) new),
        id,
        win_kept statuses s.views tree id v at live i (i + 1) new refl within may was,
        there s.views id v (won v (i + 1) new) at,
        sym (status_at-set statuses i (i + 1) new refl (let count = tree.shape.count in omega arith)),
      );
    }

pub looks : (slots id : ℕ) (me : Seat) (i : ℕ) → i < 63 → me.0.spent ≡ false → Allows Table slots id me i (λ n. n) (Looked (step slots i 0 0 none) me)
looks slots id me i within live s kept len at small =
    let found = status s kept.0 kept.1 kept.2 id i me.0 within live at in (
      saw me.0 (i + 1) found,
      keeps,
      tt,
      seen_after s kept.0 kept.1 kept.2 id i me.0 within live at,
      λ n here. (found, word_is s kept.0 kept.1 kept.2 id i me.0 within live at, refl, found_there s kept.0 kept.1 kept.2 id i me.0 within live at n here),
    )

pub advances : (slots id : ℕ) (me : Seat) (i n : ℕ) (new : Status) → n ≡ i + 1 → i < 63 → me.0.spent ≡ false → MayBring me.0 n new
    → Allows Table slots id me i (λ word. either (eqb word (word_of (before new))) (word_of new) word) (Advanced (step slots i (word_of (before new)) (word_of new) none) me)
advances slots id me i n new next within live may s kept len at small =
    let found = status s kept.0 kept.1 kept.2 id i me.0 within live at in
    let is = word_is s kept.0 kept.1 kept.2 id i me.0 within live at in
    let may' : MayBring me.0 (i + 1) new = subst (λ (k : ℕ). MayBring me.0 k new) next may in
    let then : ℕ → Seat → Type 0 = Advanced (step slots i (word_of (before new)) (word_of new) none) me in
    exchanged (slice_index s.words i) (word_of (before new)) (word_of new)
    (λ (word : ℕ). (w : View) × (a : Act (Unit {0})) × Valid s.homes me.1 a × Table (stepped s i word id me.1 w a) × then (slice_index s.words i) (w, carried_after me.1 a))
    (λ hit.
    let was : found ≡ before new = same_status found (before new) (sym is ∙ hit) in (
      won me.0 (i + 1) new,
      keeps,
      tt,
      won_after s kept.0 kept.1 kept.2 id i me.0 within live at new may' was,
      λ m st here first second. (
        found,
        is,
        refl,
        inl (was ∙ ap before (same_status new st second), won_there s kept.0 kept.1 kept.2 id i me.0 within live at new may' was m st here second),
      ),
    ))
    (λ miss. (
      saw me.0 (i + 1) found,
      keeps,
      tt,
      seen_after s kept.0 kept.1 kept.2 id i me.0 within live at,
      λ m st here first second. (
        found,
        is,
        refl,
        inr ((λ e. miss (is ∙ ap word_of e ∙ sym first)), found_there s kept.0 kept.1 kept.2 id i me.0 within live at m here),
      ),
    ))

-- the same of words that are computed before
pub advances_by : (slots id : ℕ) (me : Seat) (i n : ℕ) (old new : Status) (expected written : ℕ) → n ≡ i + 1 → i < 63 → me.0.spent ≡ false → old ≡ before new → expected ≡ word_of old → written ≡ word_of new → MayBring me.0 n new
    → Allows Table slots id me i (λ word. either (eqb word expected) written word) (Advanced (step slots i expected written none) me)
advances_by slots id me i n old new expected written next within live step_from first second may =
    subst (λ (x : ℕ × ℕ). Allows Table slots id me i (λ word. either (eqb word x.0) x.1 word) (Advanced (step slots i x.0 x.1 none) me))
    (λ k. (sym (first ∙ ap word_of step_from) k, sym second k)) (advances slots id me i n new next within live may)

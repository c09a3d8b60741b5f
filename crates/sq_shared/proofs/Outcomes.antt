-- The outcome of a load and an exchange of a node's word at that node.
use Rattle.std.proofs.Common.{◌≡◌, ◌≢◌, ℕ, ◌+◌, ◌⊎◌, refl, sym, ap, ◌∙◌, subst, ⊎_elim}
use mathlib.Core.Option.{none}
use Rattle.atomic_table.specs.Table.{Me, step}
use Rattle.sq_moves.specs.declared.status.Status.{Status}
use Rattle.sq_moves.specs.Status.{word_of, before}
use Rattle.sq_moves.proofs.Words.{same_status}
use Rattle.sq_shared.specs.declared.view.View.{View}
use Rattle.sq_shared.specs.View.{SameRole}
use Rattle.sq_shared.specs.Plays.{Found, Won, Looked, Advanced}
use Rattle.sq_shared.proofs.Sights.{SameRole-won}

abbrev Seat : Type 0
Seat = Me (Unit {0}) View

pub Found-role : (v : View) (n : ℕ) (st : Status) (w : View) → Found v n st w → SameRole v w
Found-role v n st w found = subst (λ (u : View). SameRole v u) (sym found.after) record { first = refl; spent = refl; given = refl; taken = refl }

pub Won-role : (v : View) (n : ℕ) (st : Status) (w : View) → Won v n st w → SameRole v w
Won-role v n st w step = subst (λ (u : View). SameRole v u) (sym step.after) (SameRole-won v n st)

-- a load found the status that the word is of
pub record WordRead (n : ℕ) (me : Seat) (word : ℕ) (me' : Seat) : Type 0 where
  pub found : Status
  pub is : word ≡ word_of found
  pub carried : me'.1 ≡ me.1
  pub outcome : Found me.0 n found me'.0

pub word_read : (slots i n : ℕ) (me : Seat) (word : ℕ) (me' : Seat) → i + 1 ≡ n → Looked (step slots i 0 0 none) me word me' → WordRead n me word me'
word_read slots i n me word me' next h = let t = h n (sym next) in record { found = t.0; is = t.1; carried = t.2; outcome = t.3 }

-- an exchange was won, or found another status
pub record WordTried (n : ℕ) (st : Status) (me : Seat) (word : ℕ) (me' : Seat) : Type 0 where
  pub found : Status
  pub is : word ≡ word_of found
  pub carried : me'.1 ≡ me.1
  pub outcome : ((found ≡ before st) × Won me.0 n st me'.0) ⊎ ((found ≢ before st) × Found me.0 n found me'.0)

pub word_tried : (slots i n : ℕ) (old st : Status) (expected new : ℕ) (me : Seat) (word : ℕ) (me' : Seat) → i + 1 ≡ n → old ≡ before st → expected ≡ word_of old → new ≡ word_of st
    → Advanced (step slots i expected new none) me word me' → WordTried n st me word me'
word_tried slots i n old st expected new me word me' next step_from first second h =
    let t = h n st (sym next) (first ∙ ap word_of step_from) second in record { found = t.0; is = t.1; carried = t.2; outcome = t.3 }

module _ (n : ℕ) (old st : Status) (expected : ℕ) (me : Seat) (word : ℕ) (me' : Seat) (step_from : old ≡ before st) (first : expected ≡ word_of old) (t : WordTried n st me word me') where
  pub role : SameRole me.0 me'.0
  role = ⊎_elim (λ (hit : (t.found ≡ before st) × Won me.0 n st me'.0). Won-role me.0 n st me'.0 hit.1) (λ (miss : (t.found ≢ before st) × Found me.0 n t.found me'.0). Found-role me.0 n t.found me'.0 miss.1) t.outcome

  pub hit : word ≡ expected → Won me.0 n st me'.0
  hit same =
      ⊎_elim (λ (hit : (t.found ≡ before st) × Won me.0 n st me'.0). hit.1)
      (λ (miss : (t.found ≢ before st) × Found me.0 n t.found me'.0). absurd (miss.0 (same_status t.found (before st) (sym t.is ∙ same ∙ first ∙ ap word_of step_from))))
      t.outcome

  pub miss : word ≢ expected → (read : Status) → read ≡ t.found → (read ≢ old) × Found me.0 n read me'.0
  miss other read same =
      ⊎_elim (λ (hit : (t.found ≡ before st) × Won me.0 n st me'.0). absurd (other (t.is ∙ ap word_of (hit.0 ∙ sym step_from) ∙ sym first)))
      (λ (miss : (t.found ≢ before st) × Found me.0 n t.found me'.0). ((λ e. miss.0 (sym same ∙ e ∙ step_from)), subst (λ (x : Status). Found me.0 n x me'.0) (sym same) miss.1))
      t.outcome

  pub missed : word ≢ expected → Found me.0 n t.found me'.0
  missed other =
      ⊎_elim (λ (hit : (t.found ≡ before st) × Won me.0 n st me'.0). absurd (other (t.is ∙ ap word_of (hit.0 ∙ sym step_from) ∙ sym first)))
      (λ (miss : (t.found ≢ before st) × Found me.0 n t.found me'.0). miss.1)
      t.outcome

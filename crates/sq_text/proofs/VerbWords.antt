-- Words that are no verb, by their length.
use Rattle.std.proofs.Common.{◌≡◌, ℕ, ◌<◌, Bool, true, false, cond, List, length, Some, None, refl, ap, arith}
use Rattle.std.specs.Prelude.{bytes_eq}
use Rattle.std.specs.Bool.{Decides}
use Rattle.std.proofs.lemmas.Slice.Eq.{bytes_eq-Decides}
use Rattle.sq_text.specs.declared.verb.Verb.{Verb}
use Rattle.sq_text.specs.declared.verb.Verb.TheVariants.{Prepare, Start, Resume, Split, Claim, Begin, Cut, Push, Pop, Load, Complete, Report, Next, Finish, Fold, Status}
use Rattle.sq_text.specs.Verbs.{verb_word, verb_in}

off : {P : Type 0} (b : Bool) → Decides b P → ¬ P → b ≡ false
off true decides not_so = absurd (not_so (decides.0 refl))
off false decides not_so = refl

-- a word of another length is another one
other : (verb : Verb) (word : List ℕ) → ¬ (length (verb_word verb) ≡ length word) → bytes_eq (verb_word verb) word ≡ false
other verb word differ = off (bytes_eq (verb_word verb) word) (bytes_eq-Decides (verb_word verb) word) (λ same. differ (ap length same))

-- a word of five letters is one of four verbs, or none
pub of_five : (word : List ℕ) → length word ≡ 5 → verb_in word ≡ cond (bytes_eq (verb_word Start) word) (Some Start) (cond (bytes_eq (verb_word Split) word) (Some Split) (cond (bytes_eq (verb_word Claim) word) (Some Claim) (cond (bytes_eq (verb_word Begin) word) (Some Begin) None)))
unfolding verb_in
of_five word five =
    let differs : (verb : Verb) → ¬ (length (verb_word verb) ≡ 5) → bytes_eq (verb_word verb) word ≡ false = λ verb differ. other verb word (λ same. differ (omega (arith, same, five))) in
    rw (differs Prepare (λ e. absurd (omega (arith, e))), differs Resume (λ e. absurd (omega (arith, e))), differs Cut (λ e. absurd (omega (arith, e))), differs Push (λ e. absurd (omega (arith, e))), differs Pop (λ e. absurd (omega (arith, e))), differs Load (λ e. absurd (omega (arith, e))), differs Complete (λ e. absurd (omega (arith, e))), differs Report (λ e. absurd (omega (arith, e))), differs Next (λ e. absurd (omega (arith, e))), differs Finish (λ e. absurd (omega (arith, e))), differs Fold (λ e. absurd (omega (arith, e))), differs Status (λ e. absurd (omega (arith, e)))) refl

-- but for the one of seven letters and the one of eight, verbs have from 3 to 6
shorter : (word : List ℕ) → 6 < length word → verb_in word ≡ cond (bytes_eq (verb_word Prepare) word) (Some Prepare) (cond (bytes_eq (verb_word Complete) word) (Some Complete) None)
unfolding verb_in
shorter word long =
    let differs : (verb : Verb) → length (verb_word verb) < 7 → bytes_eq (verb_word verb) word ≡ false = λ verb short. other verb word (λ same. absurd (omega (arith, same, short, long))) in
    rw (differs Start (omega arith), differs Resume (omega arith), differs Split (omega arith), differs Claim (omega arith), differs Begin (omega arith), differs Cut (omega arith), differs Push (omega arith), differs Pop (omega arith), differs Load (omega arith), differs Report (omega arith), differs Next (omega arith), differs Finish (omega arith), differs Fold (omega arith), differs Status (omega arith)) refl

pub of_seven : (word : List ℕ) → length word ≡ 7 → verb_in word ≡ cond (bytes_eq (verb_word Prepare) word) (Some Prepare) None
of_seven word long = rw (shorter word (omega (arith, long)), other Complete word (λ same. absurd (omega (arith, same, long)))) refl

pub of_eight : (word : List ℕ) → length word ≡ 8 → verb_in word ≡ cond (bytes_eq (verb_word Complete) word) (Some Complete) None
of_eight word long = rw (shorter word (omega (arith, long)), other Prepare word (λ same. absurd (omega (arith, same, long)))) refl

pub too_long : (word : List ℕ) → 8 < length word → None ≡ verb_in word
too_long word long = rw (shorter word (omega (arith, long)), other Prepare word (λ same. absurd (omega (arith, same, long))), other Complete word (λ same. absurd (omega (arith, same, long)))) refl

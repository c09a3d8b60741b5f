-- The owner of a root key as a stage begins, and which segments go along a link in it.
use Rattle.std.proofs.Common.{◌≡◌, ⊎_elim, ℕ, ◌<◌, Bool, true, false, ◌&&◌, nat_lt, if◌then◌else◌, refl, sym, ap, ◌∙◌, subst, arith}
use Rattle.std.specs.Prelude.{◌==◌}
use Rattle.std.proofs.lemmas.Bool.{cases_Bool, and_parts, eqb-true, not-false}
use Rattle.std.proofs.lemmas.Bool.Decides.{nat_tests}
use Rattle.sq_moves.specs.ReconValue.{stage_on}
use Rattle.sq_moves.specs.OpeningValue.{OpeningValue}
use Rattle.sq_moves.specs.Opening.{IsOpening}
use Rattle.sq_model.specs.Place.{source, destination, moves}
use Rattle.sq_model.specs.Links.{is_on_link}
use Rattle.sq_model.specs.Staged.{owner_in}
use Rattle.sq_model.proofs.Keys.{source_below as old_below, destination_below as new_below}
use Rattle.sq_model.proofs.Notes.{SegmentGoes, on_link_goes as on_some_link_goes}
use Rattle.sq_node_model.specs.Stages.{runs_in, is_on_link_in}

-- a segment of the stage goes from the one partition to the other
pub on_link_goes : (o : OpeningValue) (i src dst seg : ℕ) → is_on_link_in o i src dst seg ≡ true → SegmentGoes o seg src dst
on_link_goes o i src dst seg on = on_some_link_goes o src dst seg (and_parts (is_on_link o src dst seg) (runs_in o i src dst) on).0

pub link_runs : (o : OpeningValue) (i src dst seg : ℕ) → is_on_link_in o i src dst seg ≡ true → runs_in o i src dst ≡ true
link_runs o i src dst seg on = (and_parts (is_on_link o src dst seg) (runs_in o i src dst) on).1

not_before : (n m : ℕ) → n ≡ m → nat_lt n m ≡ false
not_before n m same = grind (arith, nat_tests)

-- the stage in which a root key moves
abbrev pub key_stage : OpeningValue → ℕ → ℕ
key_stage o root = stage_on o.recon (source o root) (destination o root)

stood : (moving before : Bool) (new old : ℕ) → before ≡ false → (if moving && before then new else old) ≡ old
stood true before new old e = ap (λ b. if b then new else old) e
stood false before new old e = refl

went : (moving before : Bool) (new old : ℕ) → (moving ≡ false → old ≡ new) → before ≡ true → (if moving && before then new else old) ≡ new
went true before new old stays e = ap (λ b. if b then new else old) e
went false before new old stays e = stays refl

-- a key that doesn't move in an earlier stage is where it was
pub unmoved_source : (o : OpeningValue) (i root : ℕ) → nat_lt (key_stage o root) i ≡ false → owner_in o i root ≡ source o root
unmoved_source o i root e = stood (moves o root) (nat_lt (key_stage o root) i) (destination o root) (source o root) e

-- one that does has gone
pub moved_source : (o : OpeningValue) (i root : ℕ) → nat_lt (key_stage o root) i ≡ true → owner_in o i root ≡ destination o root
moved_source o i root e =
    went (moves o root) (nat_lt (key_stage o root) i) (destination o root) (source o root)
    (λ stays. eqb-true (source o root) (destination o root) (not-false (source o root == destination o root) stays)) e

pub running_source : (o : OpeningValue) (i root src dst : ℕ) → source o root ≡ src → destination o root ≡ dst → runs_in o i src dst ≡ true → owner_in o i root ≡ src
running_source o i root src dst from to runs =
    unmoved_source o i root (not_before (key_stage o root) i ((λ j. stage_on o.recon (from j) (to j)) ∙ eqb-true (stage_on o.recon src dst) i runs)) ∙ from

-- a key that doesn't move is where it was
pub staying_source : (o : OpeningValue) (i root : ℕ) → source o root ≡ destination o root → owner_in o i root ≡ source o root
staying_source o i root same =
    ⊎_elim (λ e. moved_source o i root e ∙ sym same) (λ e. unmoved_source o i root e) (cases_Bool (nat_lt (key_stage o root) i))

pub source_below : (o : OpeningValue) (i : ℕ) → IsOpening o → (root : ℕ) → owner_in o i root < o.old.parts
source_below o i is root =
    ⊎_elim
    (λ e. subst (λ p. p < o.old.parts) (sym (moved_source o i root e)) (new_below o is root))
    (λ e. subst (λ p. p < o.old.parts) (sym (unmoved_source o i root e)) (old_below o is root))
    (cases_Bool (nat_lt (key_stage o root) i))

use Rattle.std.proofs.Common.{⊎_elim, ◌≡◌, ℕ, ◌<◌, ◌≤◌, Bool, true, false, ◌||◌, List, [], ◌∷◌, inl, inr, refl, sym, ap, ◌∙◌, arith}
use Rattle.std.specs.Prelude.{◌&&◌, nat_le, nat_lt, max, min}
use Rattle.std.proofs.lemmas.Bool.{and_parts, and_from, or_cases, leb-true, ltb-true, le-leb, lt-ltb, true≢false}
use Rattle.sq_store.specs.declared.chunk.Note.{Note}
use Rattle.sq_store.specs.ChunkValue.{covers}
use Rattle.sq_exec.specs.declared.run.Run.{Run}
use Rattle.sq_exec.specs.Runs.{run_has, meets, is_loaded, is_met}
use Rattle.sq_exec.proofs.laws.a_chunk_meets_the_keys_that_are_loaded.Goals as goal

-- a run that a chunk meets has the first key from which both continue
in_both : (run : Run) (note : Note) → meets note run ≡ true → (covers note (max run.lo note.lo) ≡ true) × (run_has run (max run.lo note.lo) ≡ true)
in_both run note is =
    let low : max run.lo note.lo < min run.hi note.hi = ltb-true (max run.lo note.lo) (min run.hi note.hi) is in (
      and_from (nat_le note.lo (max run.lo note.lo)) (nat_lt (max run.lo note.lo) note.hi) (le-leb note.lo (max run.lo note.lo) (omega arith)) (lt-ltb (max run.lo note.lo) note.hi (omega arith)),
      and_from (nat_le run.lo (max run.lo note.lo)) (nat_lt (max run.lo note.lo) run.hi) (le-leb run.lo (max run.lo note.lo) (omega arith)) (lt-ltb (max run.lo note.lo) run.hi (omega arith)),
    )

or_right : (a b : Bool) → b ≡ true → (a || b) ≡ true
or_right true b h = refl
or_right false b h = h

met_key : (runs : List Run) (note : Note) → is_met runs note ≡ true → (key : ℕ) × (covers note key ≡ true) × (is_loaded runs key ≡ true)
met_key [] note is = absurd (true≢false (sym is))
met_key (run ∷ runs) note is =
    ⊎_elim
    (λ (here : meets note run ≡ true). let both = in_both run note here in (max run.lo note.lo, both.0, ap (λ b. b || is_loaded runs (max run.lo note.lo)) both.1))
    (λ (later : is_met runs note ≡ true). let rest = met_key runs note later in (rest.0, rest.1, or_right (run_has run rest.0) (is_loaded runs rest.0) rest.2))
    (or_cases (meets note run) (is_met runs note) is)

key_met : (runs : List Run) (note : Note) (key : ℕ) → covers note key ≡ true → is_loaded runs key ≡ true → is_met runs note ≡ true
key_met [] note key covered loaded = absurd (true≢false (sym loaded))
key_met (run ∷ runs) note key covered loaded =
    ⊎_elim
    (λ (here : run_has run key ≡ true).
    let a = and_parts (nat_le run.lo key) (nat_lt key run.hi) here in
    let b = and_parts (nat_le note.lo key) (nat_lt key note.hi) covered in
    let from = leb-true run.lo key a.0 in
    let upto = ltb-true key run.hi a.1 in
    let from_note = leb-true note.lo key b.0 in
    let upto_note = ltb-true key note.hi b.1 in
    ap (λ b. b || is_met runs note) (lt-ltb (max run.lo note.lo) (min run.hi note.hi) (omega (arith, from, upto, from_note, upto_note))))
    (λ (later : is_loaded runs key ≡ true). or_right (meets note run) (is_met runs note) (key_met runs note key covered later))
    (or_cases (run_has run key) (is_loaded runs key) loaded)

pub returns-clause-meets : goal.returns-clause-meets
returns-clause-meets c = met_key

pub returns-clause-met : goal.returns-clause-met
returns-clause-met c = key_met

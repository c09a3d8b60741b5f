-- What a chunk adds to the runs of a segment.
use Rattle.std.proofs.Common.{◌≡◌, ℕ, ◌<◌, ◌≤◌, Bool, true, false, ◌||◌, List, [], ◌∷◌, length, get_or, set, zero, suc, max, Option, Some, None, refl, ap, ◌∙◌, arith}
use Rattle.std.specs.Prelude.{◌==◌, ◌&&◌, nat_le, nat_lt, position}
use Rattle.std.specs.List.{list_any}
use Rattle.std.proofs.lemmas.Bool.{and_parts, eqb-true, leb-true}
use Rattle.std.proofs.lemmas.Bool.Decides.{nat_tests}
use Rattle.std.proofs.lemmas.List.Folds.{list_any-append}
use Rattle.std.proofs.lemmas.List.Quantifiers.{position-Some}
use Rattle.sq_store.specs.declared.chunk.Note.{Note}
use Rattle.sq_store.specs.ChunkValue.{covers}
use Rattle.sq_exec.specs.declared.run.Run.{Run}
use Rattle.sq_exec.specs.Runs.{run_has, goes_on, run_with, run_of, grown, is_loaded, is_whole, runs_with}

or_swapped : (a b c : Bool) → ((a || c) || b) ≡ ((a || b) || c)
or_swapped true b c = refl
or_swapped false true true = refl
or_swapped false true false = refl
or_swapped false false true = refl
or_swapped false false false = refl

or_grouped : (a b c : Bool) → (a || (b || c)) ≡ ((a || b) || c)
or_grouped true b c = refl
or_grouped false b c = refl

-- where one is put that passes also by another test, some one passes or that test does
any-set : {X : Type 0} (p : X → Bool) (xs : List X) (i : ℕ) (y d : X) (more : Bool) → i < length xs → p y ≡ (p (get_or xs i d) || more) → list_any p (set xs i y) ≡ (list_any p xs || more)
any-set p [] i y d more lt is = absurd (omega arith)
any-set p (x ∷ xs) zero y d more lt is = ap (λ b. b || list_any p xs) is ∙ or_swapped (p x) (list_any p xs) more
any-set p (x ∷ xs) (suc i) y d more lt is = ap (λ b. p x || b) (any-set p xs i y d more (omega arith) is) ∙ or_grouped (p x) (list_any p xs) more

module _ (note : Note) (p : Run → Bool) (more : Bool)
    (alone : p (run_of note) ≡ more) (longer : (run : Run) → goes_on note run ≡ true → p (run_with note run) ≡ (p run || more)) where
  any-grown : (runs : List Run) (place : Option ℕ) → position (goes_on note) runs ≡ place → list_any p (grown runs note place) ≡ (list_any p runs || more)
  any-grown runs None found = list_any-append p runs (run_of note ∷ []) ∙ ap (λ b. list_any p runs || b) (or_false (p (run_of note)) ∙ alone)
    where
      or_false : (b : Bool) → (b || false) ≡ b
      or_false true = refl
      or_false false = refl
  any-grown runs (Some i) found =
      let here = position-Some (goes_on note) runs i (run_of note) found in
      any-set p runs i (run_with note (get_or runs i (run_of note))) (run_of note) more here.0 (longer (get_or runs i (run_of note)) here.1)

  any-runs_with : (runs : List Run) → list_any p (runs_with runs note) ≡ (list_any p runs || more)
  any-runs_with runs = any-grown runs (position (goes_on note) runs) refl

-- a chunk continues a run where that ends
record GoesOn (note : Note) (run : Run) : Type 0 where
  node : run.node ≡ note.node
  rises : run.lo ≤ run.hi
  meets : run.hi ≡ note.lo

goes : (note : Note) (run : Run) → goes_on note run ≡ true → GoesOn note run
goes note run on =
    let first = and_parts (run.node == note.node) (nat_le run.lo run.hi && (run.hi == note.lo)) on in
    let rest = and_parts (nat_le run.lo run.hi) (run.hi == note.lo) first.1 in
    record { node = eqb-true run.node note.node first.0; rises = leb-true run.lo run.hi rest.0; meets = eqb-true run.hi note.lo rest.1 }

-- the keys of a run with those that continue where it ends
joined : (lo hi end key : ℕ) → lo ≤ hi → (nat_le lo key && nat_lt key (max hi end)) ≡ ((nat_le lo key && nat_lt key hi) || (nat_le hi key && nat_lt key end))
joined lo hi end key le = grind (arith, nat_tests)

both : (a b c : Bool) → (a && (b || c)) ≡ ((a && b) || (a && c))
both true b c = refl
both false b c = refl

pub loaded-runs_with : (runs : List Run) (note : Note) (key : ℕ) → is_loaded (runs_with runs note) key ≡ (is_loaded runs key || covers note key)
loaded-runs_with runs note key =
    any-runs_with note (λ run. run_has run key) (covers note key) refl (λ run on.
    joined run.lo run.hi note.hi key (goes note run on).rises ∙ ap (λ lo. run_has run key || (nat_le lo key && nat_lt key note.hi)) (goes note run on).meets) runs

pub whole-runs_with : (runs : List Run) (note : Note) (node : ℕ) → is_whole (runs_with runs note) node ≡ (is_whole runs node || ((note.node == node) && note.last))
whole-runs_with runs note node =
    any-runs_with note (λ run. (run.node == node) && run.whole) ((note.node == node) && note.last) refl (λ run on.
    both (run.node == node) run.whole note.last ∙ ap (λ n. ((run.node == node) && run.whole) || ((n == node) && note.last)) (goes note run on).node) runs

-- Notes of an end of a link that tile the keys of their nodes, and runs of what was loaded by them.
use Rattle.std.proofs.Common.{◌≡◌, ℕ, ◌+◌, ◌<◌, ◌≤◌, Bool, not, true, false, cond, ◌||◌, List, [], ◌∷◌, ◌++◌, length, get_or, set, filter, remove, zero, suc, max, inl, inr, Some, None, refl, sym, ap, subst, ◌∙◌, arith, true≢false}
use Rattle.std.specs.Prelude.{◌==◌, ◌&&◌, nat_le, nat_lt}
use Rattle.std.specs.List.{list_any, list_all}
use Rattle.std.proofs.lemmas.Bool.{cases_Bool, and_parts, and_from, eq-eqb, eqb-true, le-leb, false_from_ne_true}
use Rattle.std.proofs.lemmas.List.{append-nil}
use Rattle.std.proofs.lemmas.List.Elements.{filter-append}
use Rattle.std.proofs.lemmas.List.Folds.{list_any-append}
use Rattle.sq_store.specs.declared.chunk.Note.{Note}
use Rattle.sq_store.specs.ChunkValue.{is_about}
use Rattle.sq_moves.specs.declared.recon.Extent.{Extent}
use Rattle.sq_moves.specs.declared.recon.Link.{Link}
use Rattle.sq_store.specs.StoreValue.{StoreValue, take_end}
use Rattle.sq_exec.specs.declared.run.Run.{Run}
use Rattle.sq_exec.specs.Work.{WorkValue, is_work_on, no_work, work_at, work_from, work_after}
use Rattle.sq_exec.specs.OutLink.{OutLinkValue, IsCut, note_for}
use Rattle.sq_exec.specs.Moving.{with_work}
use Rattle.sq_exec.specs.Runs.{goes_on, grown, runs_with}
use Rattle.sq_exec.specs.Laws.{about, one_is_last, covered_to, IsTile, AreTiles, IsOpen, AreOpen, TilesNodes, HasNoneOf, work_on, runs_after}
use Rattle.sq_exec.proofs.Works.{next_within}

neither : (a b : Bool) → (a || b) ≡ false → (a ≡ false) × (b ≡ false)
neither true b h = absurd (true≢false h)
neither false b h = (refl, h)

or_none : (b : Bool) → (b || false) ≡ b
or_none true = refl
or_none false = refl

-- one more note where the others end
tiles_more : (lo hi : ℕ) (notes : List Note) (note : Note) → AreTiles lo hi notes → one_is_last notes ≡ false → note.lo ≡ covered_to lo notes → note.lo ≤ note.hi → note.hi ≤ hi → note.last ≡ (note.hi == hi)
    → AreTiles lo hi (notes ++ note ∷ [])
tiles_more lo hi [] note tiles none begins rises within last = (record { begins = begins; rises = rises; within = within; last = last; none_later = λ is. refl }, tt)
tiles_more lo hi (first ∷ notes) note tiles none begins rises within last =
    let off = neither first.last (one_is_last notes) none in (
      record {
        begins = tiles.0.begins;
        rises = tiles.0.rises;
        within = tiles.0.within;
        last = tiles.0.last;
        none_later = λ is. absurd (true≢false (sym is ∙ off.0));
      },
      tiles_more first.hi hi notes note tiles.1 off.1 begins rises within last,
    )

reached_more : (lo : ℕ) (notes : List Note) (note : Note) → covered_to lo (notes ++ note ∷ []) ≡ note.hi
reached_more lo [] note = refl
reached_more lo (first ∷ notes) note = reached_more first.hi notes note

last_more : (notes : List Note) (note : Note) → one_is_last notes ≡ false → note.last ≡ false → one_is_last (notes ++ note ∷ []) ≡ false
last_more notes note none off = list_any-append (λ (n : Note). n.last) notes (note ∷ []) ∙ (λ k. none k || (off k || false))

-- a node and its segment are one pair
same_pair : (a b c d : ℕ) → ((a == b) && (c == d)) ≡ true → (a ≡ b) × (c ≡ d)
same_pair a b c d is = let parts = and_parts (a == b) (c == d) is in (eqb-true a b parts.0, eqb-true c d parts.1)

pair_same : (a b c d : ℕ) → a ≡ b → c ≡ d → ((a == b) && (c == d)) ≡ true
pair_same a b c d one other = and_from (a == b) (c == d) (eq-eqb a b one) (eq-eqb c d other)

turned : (a b c d : ℕ) → ((a == b) && (c == d)) ≡ false → ((b == a) && (d == c)) ≡ false
turned a b c d off =
    false_from_ne_true ((b == a) && (d == c)) (λ is.
    let same = same_pair b a d c is in
    true≢false (sym (pair_same a b c d (sym same.0) (sym same.1)) ∙ off))

about_one : (seg node : ℕ) (notes : List Note) (note : Note) → is_about seg node note ≡ true → about seg node (notes ++ note ∷ []) ≡ about seg node notes ++ note ∷ []
about_one seg node notes note is = filter-append (is_about seg node) notes (note ∷ []) ∙ ap (λ b. about seg node notes ++ cond b (note ∷ []) []) is

about_other : (seg node : ℕ) (notes : List Note) (note : Note) → is_about seg node note ≡ false → about seg node (notes ++ note ∷ []) ≡ about seg node notes
about_other seg node notes note off =
    filter-append (is_about seg node) notes (note ∷ []) ∙ ap (λ b. about seg node notes ++ cond b (note ∷ []) []) off ∙ append-nil (about seg node notes)

about_none : (seg node : ℕ) (notes : List Note) → list_any (is_about seg node) notes ≡ false → about seg node notes ≡ []
about_none seg node [] none = refl
about_none seg node (note ∷ notes) none =
    let off = neither (is_about seg node note) (list_any (is_about seg node) notes) none in
    ap (λ b. cond b (note ∷ about seg node notes) (about seg node notes)) off.0 ∙ about_none seg node notes off.1

-- of works on other nodes each is on another
other_at : (p : WorkValue → Bool) (works : List WorkValue) (i : ℕ) → list_any p works ≡ false → i < length works → p (get_or works i no_work) ≡ false
other_at p [] i none lt = absurd (omega arith)
other_at p (work ∷ works) zero none lt = (neither (p work) (list_any p works) none).0
other_at p (work ∷ works) (suc i) none lt = other_at p works i (neither (p work) (list_any p works) none).1 (omega arith)

others_left : (p : WorkValue → Bool) (works : List WorkValue) (i : ℕ) → list_any p works ≡ false → list_any p (remove works i) ≡ false
others_left p [] zero none = none
others_left p [] (suc i) none = none
others_left p (work ∷ works) zero none = (neither (p work) (list_any p works) none).1
others_left p (work ∷ works) (suc i) none =
    let off = neither (p work) (list_any p works) none in
    λ k. off.0 k || others_left p works i off.1 k

others_moved : (p : WorkValue → Bool) (works : List WorkValue) (i : ℕ) (work : WorkValue) → list_any p works ≡ false → p work ≡ false → list_any p (set works i work) ≡ false
others_moved p [] i work none off = none
others_moved p (first ∷ works) zero work none off = λ k. off k || (neither (p first) (list_any p works) none).1 k
others_moved p (first ∷ works) (suc i) work none off =
    let parts = neither (p first) (list_any p works) none in
    λ k. parts.0 k || others_moved p works i work parts.1 off k

module _ (keys : ℕ → ℕ → Extent) where
  open_at : (notes : List Note) (works : List WorkValue) (i : ℕ) → AreOpen keys notes works → i < length works → IsOpen keys notes (get_or works i no_work)
  open_at notes [] i open_work lt = absurd (omega arith)
  open_at notes (work ∷ works) zero open_work lt = open_work.0
  open_at notes (work ∷ works) (suc i) open_work lt = open_at notes works i open_work.2 (omega arith)

  -- a chunk was cut of this work, with this note
  record IsNoteOf (work : WorkValue) (note : Note) : Type 0 where
    seg : note.seg ≡ work.seg
    node : note.node ≡ work.node
    lo : note.lo ≡ work.rest
    last : note.last ≡ (note.hi == work.hi)
    rises : note.lo ≤ note.hi
    within : note.hi ≤ work.hi

  module _ (notes : List Note) (note : Note) where
    abbrev more : List Note
    more = notes ++ note ∷ []

    -- work on another node stays as it is
    still : (work : WorkValue) → is_work_on note.seg note.node work ≡ false → IsOpen keys notes work → IsOpen keys more work
    still work off is =
        let same = about_other work.seg work.node notes note (turned work.seg note.seg work.node note.node off) in
        record {
          rest = is.rest ∙ ap (covered_to (keys work.seg work.node).lo) (sym same);
          upto = is.upto;
          unfinished = ap one_is_last same ∙ is.unfinished;
        }

    all_still : (works : List WorkValue) → list_any (is_work_on note.seg note.node) works ≡ false → AreOpen keys notes works → AreOpen keys more works
    all_still [] off is = tt
    all_still (work ∷ works) off is =
        let parts = neither (is_work_on note.seg note.node work) (list_any (is_work_on note.seg note.node) works) off in
        (still work parts.0 is.0, is.1, all_still works parts.1 is.2)

    -- the work of which the chunk was cut goes on where its note ends
    goes_further : (work : WorkValue) → IsNoteOf work note → (note.hi == work.hi) ≡ false → IsOpen keys notes work → IsOpen keys more (work_from work note.hi)
    goes_further work of off is =
        let same = about_one work.seg work.node notes note (pair_same note.seg work.seg note.node work.node of.seg of.node) in
        record {
          rest = sym (ap (covered_to (keys work.seg work.node).lo) same ∙ reached_more (keys work.seg work.node).lo (about work.seg work.node notes) note);
          upto = is.upto;
          unfinished = ap one_is_last same ∙ last_more (about work.seg work.node notes) note is.unfinished (of.last ∙ off);
        }

    -- work that isn't on the node of this work isn't on the note's
    by_note : (work : WorkValue) (works : List WorkValue) → IsNoteOf work note → list_any (is_work_on work.seg work.node) works ≡ false → list_any (is_work_on note.seg note.node) works ≡ false
    by_note work works of none = (λ k. list_any (is_work_on (of.seg k) (of.node k)) works) ∙ none

    apart : (work other : WorkValue) → IsNoteOf other note → is_work_on work.seg work.node other ≡ false → is_work_on note.seg note.node work ≡ false
    apart work other of off = (λ k. is_work_on (of.seg k) (of.node k) work) ∙ turned other.seg work.seg other.node work.node off

    left_open : (works : List WorkValue) (i : ℕ) → i < length works → IsNoteOf (get_or works i no_work) note → AreOpen keys notes works → AreOpen keys more (remove works i)
    left_open [] i lt of is = absurd (omega arith)
    left_open (work ∷ works) zero lt of is = all_still works (by_note work works of is.1) is.2
    left_open (work ∷ works) (suc i) lt of is = (
      still work (apart work (get_or works i no_work) of (other_at (is_work_on work.seg work.node) works i is.1 (omega arith))) is.0,
      others_left (is_work_on work.seg work.node) works i is.1,
      left_open works i (omega arith) of is.2,
    )

    moved_open : (works : List WorkValue) (i : ℕ) → i < length works → IsNoteOf (get_or works i no_work) note → (note.hi == (get_or works i no_work).hi) ≡ false → AreOpen keys notes works
        → AreOpen keys more (set works i (work_from (get_or works i no_work) note.hi))
    moved_open [] i lt of off is = absurd (omega arith)
    moved_open (work ∷ works) zero lt of off is = (goes_further work of off is.0, is.1, all_still works (by_note work works of is.1) is.2)
    moved_open (work ∷ works) (suc i) lt of off is =
        let other = other_at (is_work_on work.seg work.node) works i is.1 (omega arith) in (
          still work (apart work (get_or works i no_work) of other) is.0,
          others_moved (is_work_on work.seg work.node) works i (work_from (get_or works i no_work) note.hi) is.1 other,
          moved_open works i (omega arith) of off is.2,
        )

    after_open : (works : List WorkValue) (i : ℕ) → i < length works → IsNoteOf (get_or works i no_work) note → AreOpen keys notes works → AreOpen keys more (work_after works i note.hi)
    after_open works i lt of is =
        elim (cases_Bool (note.hi == (get_or works i no_work).hi)) [
          | inl here ↦ subst by_test (sym here) (left_open works i lt of is)
          | inr off ↦ subst by_test (sym off) (moved_open works i lt of off is)
        ]
      where
        by_test : Bool → Type 0
        by_test b = AreOpen keys more (cond b (remove works i) (set works i (work_from (get_or works i no_work) note.hi)))

    -- and the notes still tile their nodes
    still_tiles : (work : WorkValue) → IsNoteOf work note → IsOpen keys notes work → ((seg node : ℕ) → AreTiles (keys seg node).lo (keys seg node).hi (about seg node notes))
        → (seg node : ℕ) → AreTiles (keys seg node).lo (keys seg node).hi (about seg node more)
    still_tiles work of is tiles seg node =
        elim (cases_Bool (is_about seg node note)) [
          | inl here ↦
              let same = same_pair note.seg seg note.node node here in
              let segs : work.seg ≡ seg = sym of.seg ∙ same.0 in
              let nodes : work.node ≡ node = sym of.node ∙ same.1 in
              let upto : work.hi ≡ (keys seg node).hi = is.upto ∙ (λ k. (keys (segs k) (nodes k)).hi) in
              let within = of.within in
              subst (AreTiles (keys seg node).lo (keys seg node).hi) (sym (about_one seg node notes note here))
              (tiles_more (keys seg node).lo (keys seg node).hi (about seg node notes) note (tiles seg node)
              ((λ k. one_is_last (about (sym segs k) (sym nodes k) notes)) ∙ is.unfinished)
              (of.lo ∙ is.rest ∙ (λ k. covered_to (keys (segs k) (nodes k)).lo (about (segs k) (nodes k) notes)))
              of.rises (omega (arith, within, upto)) (of.last ∙ ap (λ n. note.hi == n) upto))
          | inr off ↦ subst (AreTiles (keys seg node).lo (keys seg node).hi) (sym (about_other seg node notes note off)) (tiles seg node)
        ]

  pub tiles_after_cut : (limit : ℕ) (ends : Link) (out after : OutLinkValue) (store left : StoreValue) (note : Note) → TilesNodes keys out → IsCut limit ends out store note after left → TilesNodes keys after
  tiles_after_cut limit ends out after store left note tiles cut =
      let i = cut.place in
      let work = work_at out.work i in
      let lt : i < length out.work = next_within out.work i cut.next in
      let noted : note ≡ note_for ends out work (take_end store work.rest work.hi limit) = ap (λ (r : Note × (OutLinkValue × StoreValue)). r.0) cut.cut in
      let high : note.hi ≡ take_end store work.rest work.hi limit = ap (λ (n : Note). n.hi) noted in
      let of : IsNoteOf work note =
      record {
        seg = ap (λ (n : Note). n.seg) noted;
        node = ap (λ (n : Note). n.node) noted;
        lo = ap (λ (n : Note). n.lo) noted;
        last = ap (λ (n : Note). n.last) noted ∙ ap (λ n. n == work.hi) (sym high);
        rises = cut.rises;
        within = cut.within;
      } in
      let notes : out.notes ++ note ∷ [] ≡ after.notes =
      ap (λ n. out.notes ++ n ∷ []) noted ∙ sym (ap (λ (r : Note × (OutLinkValue × StoreValue)). r.1.0.notes) cut.cut) in
      let works : work_after out.work i note.hi ≡ after.work =
      ap (work_after out.work i) high ∙ sym (ap (λ (r : Note × (OutLinkValue × StoreValue)). r.1.0.work) cut.cut) in
      record {
        tiles = λ seg node. subst (λ ns. AreTiles (keys seg node).lo (keys seg node).hi (about seg node ns)) notes
            (still_tiles out.notes note work of (open_at out.notes out.work i tiles.open_work lt) tiles.tiles seg node);
        open_work = subst (λ ns. AreOpen keys ns after.work) notes
            (subst (AreOpen keys (out.notes ++ note ∷ [])) works (after_open out.notes note out.work i lt of tiles.open_work));
      }

  -- a node that nothing is about is begun
  module _ (notes : List Note) (seg node pull : ℕ) (none : list_any (is_about seg node) notes ≡ false) where
    new_open : IsOpen keys notes (work_on keys seg node pull)
    new_open = let nothing = about_none seg node notes none in record {
      rest = ap (covered_to (keys seg node).lo) (sym nothing);
      upto = refl;
      unfinished = ap one_is_last nothing;
    }

    one_more_open : (works : List WorkValue) → list_any (is_work_on seg node) works ≡ false → AreOpen keys notes works → AreOpen keys notes (works ++ work_on keys seg node pull ∷ [])
    one_more_open [] off is = (new_open, refl, tt)
    one_more_open (work ∷ works) off is =
        let parts = neither (is_work_on seg node work) (list_any (is_work_on seg node) works) off in (
          is.0,
          list_any-append (is_work_on work.seg work.node) works (work_on keys seg node pull ∷ [])
              ∙ (λ k. is.1 k || (turned work.seg seg work.node node parts.0 k || false)),
          one_more_open works parts.1 is.2,
        )

  pub tiles_begun : (out : OutLinkValue) (seg node pull : ℕ) → TilesNodes keys out → HasNoneOf out seg node → TilesNodes keys (with_work out (work_on keys seg node pull))
  tiles_begun out seg node pull tiles none = record {
    tiles = tiles.tiles;
    open_work = one_more_open out.notes seg node pull none.notes out.work none.work tiles.open_work;
  }

-- the run of a node up to where its notes end
abbrev run_upto : ℕ → ℕ → ℕ → Bool → Run
run_upto node lo hi whole = record { node = node; lo = lo; hi = hi; whole = whole }

continues : (node lo hi : ℕ) (whole : Bool) (note : Note) → note.node ≡ node → note.lo ≡ hi → lo ≤ hi → note.lo ≤ note.hi
    → runs_with (run_upto node lo hi whole ∷ []) note ≡ run_upto node lo note.hi (whole || note.last) ∷ []
continues node lo hi whole note same begins upto rises =
    let on : goes_on note (run_upto node lo hi whole) ≡ true =
    and_from (node == note.node) (nat_le lo hi && (hi == note.lo)) (eq-eqb node note.node (sym same))
    (and_from (nat_le lo hi) (hi == note.lo) (le-leb lo hi upto) (eq-eqb hi note.lo (sym begins))) in
    let end : max hi note.hi ≡ note.hi = omega (arith, begins, rises) in
    ap (λ b. grown (run_upto node lo hi whole ∷ []) note (cond (nat_lt (cond (not b) (1 + 0) 0) 1) (Some (cond (not b) (1 + 0) 0)) None)) on
    ∙ ap (λ e. run_upto node lo e (whole || note.last) ∷ []) end

or_grouped : (a b c : Bool) → ((a || b) || c) ≡ (a || (b || c))
or_grouped true b c = refl
or_grouped false b c = refl

loaded_on : (lo from hi node : ℕ) (whole : Bool) (notes : List Note) → lo ≤ from → AreTiles from hi notes → list_all (λ n. n.node == node) notes ≡ true
    → runs_after (run_upto node lo from whole ∷ []) notes ≡ run_upto node lo (covered_to from notes) (whole || one_is_last notes) ∷ []
loaded_on lo from hi node whole [] upto tiles on = ap (λ b. run_upto node lo from b ∷ []) (sym (or_none whole))
loaded_on lo from hi node whole (note ∷ notes) upto tiles on =
    let parts = and_parts (note.node == node) (list_all (λ (n : Note). n.node == node) notes) on in
    let begins = tiles.0.begins in
    let rises = tiles.0.rises in
    ap (λ runs. runs_after runs notes) (continues node lo from whole note (eqb-true note.node node parts.0) begins upto rises)
    ∙ loaded_on lo note.hi hi node (whole || note.last) notes (omega (arith, upto, begins, rises)) tiles.1 parts.1
    ∙ ap (λ b. run_upto node lo (covered_to note.hi notes) b ∷ []) (or_grouped whole note.last (one_is_last notes))

pub one_run : (lo hi node : ℕ) (note : Note) (notes : List Note) → AreTiles lo hi (note ∷ notes) → list_all (λ n. n.node == node) (note ∷ notes) ≡ true
    → runs_after [] (note ∷ notes) ≡ record { node = node; lo = lo; hi = covered_to lo (note ∷ notes); whole = one_is_last (note ∷ notes) } ∷ []
one_run lo hi node note notes tiles on =
    let parts = and_parts (note.node == node) (list_all (λ (n : Note). n.node == node) notes) on in
    let begins = tiles.0.begins in
    let rises = tiles.0.rises in
    (λ k. runs_after (run_upto (eqb-true note.node node parts.0 k) (begins k) note.hi note.last ∷ []) notes)
    ∙ loaded_on lo note.hi hi node note.last notes (omega (arith, begins, rises)) tiles.1 parts.1

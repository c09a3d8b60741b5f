-- The nodes whose last notes were loaded.
use Rattle.std.proofs.Common.{◌≡◌, ⊎_elim, ℕ, ◌+◌, ◌<◌, ◌≤◌, ◌==◌, ◌&&◌, ◌||◌, Bool, true, false, List, [], ◌∷◌, ◌++◌, length, take, slice_get, Some, refl, sym, ap, ◌∙◌, arith, true≢false, add-one}
use Rattle.std.specs.Prelude.{cond, slice_index_or}
use Rattle.std.specs.List.{flat_map}
use Rattle.std.specs.Ordering.{nat_cmp}
use Rattle.std.specs.Cmp.{unsigned_tied, both_tied}
use Rattle.std.specs.BTreeSet.{BTreeSet, contains, Updates}
use Rattle.std.proofs.lemmas.Bool.{cases_lt}
use Rattle.std.proofs.lemmas.List.{get_or_past}
use Rattle.std.proofs.lemmas.List.Folds.{list_any-append}
use Rattle.std.proofs.lemmas.Option.{slice_get_within, get_or_from_slice_get}
use Rattle.std.proofs.Math.Seq.{take-suc}
use Rattle.sq_gather.specs.Prelude.{Status, is_complete, status_at, Note, is_about, has_last, GatheredValue, loads_of}
use Rattle.sq_audit.specs.Counts.{key_order}
use Rattle.sq_audit.specs.Statuses.{CompleteAreLoaded, AreEnded}
use Rattle.sq_audit.proofs.Growing.{nothing_at}

skipped : (was before about last : Bool) → last ≡ false → (was || before) ≡ (was || (before || ((about && last) || false)))
skipped true before about last none = refl
skipped false true about last none = refl
skipped false false true last none = sym (ap (λ b. b || false) none)
skipped false false false last none = refl

added : (was before about last : Bool) → last ≡ true → cond about true (was || before) ≡ (was || (before || ((about && last) || false)))
added true before true last one = refl
added true before false last one = refl
added false true true last one = refl
added false true false last one = refl
added false false true last one = sym (ap (λ b. b || false) one)
added false false false last one = refl

module _ (notes : List Note) (i : ℕ) (note : Note) (at : slice_get notes i ≡ Some note) (seg node : ℕ) where
  -- one more note
  last_more : has_last seg node (take (i + 1) notes) ≡ (has_last seg node (take i notes) || ((is_about seg node note && note.last) || false))
  last_more =
      let within = slice_get_within notes i note at in
      ap (λ n. has_last seg node (take n notes)) (add-one i) ∙ ap (has_last seg node) (take-suc notes i note within)
      ∙ ap (λ (n : Note). has_last seg node (take i notes ++ n ∷ [])) (get_or_from_slice_get notes i note note at)
      ∙ list_any-append (λ (n : Note). is_about seg node n && n.last) (take i notes) (note ∷ [])

  module _ (was : Bool) (old : BTreeSet (ℕ × ℕ)) (so_far : contains key_order old (seg, node) ≡ (was || has_last seg node (take i notes))) where
    -- a note that isn't its node's last says nothing
    pub not_ended : note.last ≡ false → contains key_order old (seg, node) ≡ (was || has_last seg node (take (i + 1) notes))
    not_ended none = so_far ∙ skipped was (has_last seg node (take i notes)) (is_about seg node note) note.last none ∙ ap (λ b. was || b) (sym last_more)

    pub ended_next : (new : BTreeSet (ℕ × ℕ)) → note.last ≡ true → Updates key_order old new (note.seg, note.node) true → contains key_order new (seg, node) ≡ (was || has_last seg node (take (i + 1) notes))
    ended_next new last updates =
        let tied = both_tied (note.seg == seg) (note.node == node) (nat_cmp note.seg seg) (nat_cmp note.node node) (sym (unsigned_tied note.seg seg)) (sym (unsigned_tied note.node node)) in
        updates.0 (seg, node)
        ∙ ap (λ b. cond b true (contains key_order old (seg, node))) (sym tied)
        ∙ ap (cond (is_about seg node note) true) so_far
        ∙ added was (has_last seg node (take i notes)) (is_about seg node note) note.last last
        ∙ ap (λ b. was || b) (sym last_more)

module _ (g : GatheredValue) (ended : BTreeSet (ℕ × ℕ)) (is : (seg node : ℕ) → contains key_order ended (seg, node) ≡ has_last seg node (flat_map loads_of g.links)) where
  pub all_complete : (upto : ℕ) → length g.statuses ≤ upto → ((i : ℕ) → i < upto → AreEnded ended i (status_at (slice_index_or g.statuses i []))) → CompleteAreLoaded g
  all_complete upto whole each seg n complete =
      ⊎_elim
      (λ low. sym (is seg n) ∙ each seg low n complete)
      (λ past. absurd (true≢false (sym complete ∙ ap (λ (sts : List Status). is_complete (status_at sts n)) (get_or_past g.statuses seg [] (omega (arith, whole, past))) ∙ ap is_complete (nothing_at n))))
      (cases_lt seg upto)

  pub ended_from : CompleteAreLoaded g → (seg : ℕ) → AreEnded ended seg (status_at (slice_index_or g.statuses seg []))
  ended_from complete seg n here = is seg n ∙ complete seg n here

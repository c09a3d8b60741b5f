-- Once the segments of a stage are complete, no chunk is under way.
use Rattle.std.proofs.Common.{◌≡◌, ⊎_elim, ℕ, ◌<◌, Bool, true, false, ◌&&◌, ◌||◌, nat_le, List, [], ◌∷◌, ◌++◌, reverse, take, drop, slice_get, Contains, Some, refl, sym, ap, ◌∙◌, subst, true≢false, arith}
use Rattle.std.specs.List.{list_any}
use Rattle.std.proofs.lemmas.Bool.{and_parts, leb-true, eqb-true}
use Rattle.std.proofs.lemmas.Bool.Decides.{nat_tests}
use Rattle.std.proofs.lemmas.List.{reverse-append, take-append-drop}
use Rattle.std.proofs.lemmas.List.Folds.{list_any-append}
use Rattle.std.proofs.lemmas.List.Elements.{Contains-append_left, Contains-append_right}
use Rattle.std.proofs.lemmas.Option.{same_Some}
use Rattle.std.proofs.Math.Bool.{or_comm}
use Rattle.sq_moves.specs.declared.status.Status.{Status}
use Rattle.sq_moves.specs.declared.status.Status.TheVariants.{Partial, Complete}
use Rattle.sq_moves.specs.Node.{is_node, first_leaf, span}
use Rattle.sq_moves.specs.Status.{is_free, is_split, is_begun, is_complete}
use Rattle.sq_moves.proofs.Nested.{above_within}
use Rattle.sq_moves.proofs.Covering.{covering_touched}
use Rattle.sq_model.proofs.Statuses.{all_complete}
use Rattle.sq_store.specs.declared.chunk.Note.{Note}
use Rattle.sq_store.specs.ChunkValue.{ChunkValue}
use Rattle.sq_moves.specs.ReconValue.{stage_on, stage_in}
use Rattle.sq_moves.specs.OpeningValue.{OpeningValue}
use Rattle.sq_model.specs.Links.{is_about, has_last}
use Rattle.sq_model.specs.Orderly.{Tiles}
use Rattle.sq_model.proofs.Lists.{any_in, list_any-Contains, flat_map_in, slice_get-Contains, Contains-cases, Contains-first, Contains-nothing}
use Rattle.sq_model.proofs.Notes.{SegmentGoes, goes_once}
use Rattle.sq_model.proofs.Tiles.{about_is}
use Rattle.sq_node_model.specs.Stages.{runs_in}
use Rattle.sq_node_model.specs.Gathered.{GatheredLink, GatheredValue}
use Rattle.sq_node_model.specs.Spots.{gathered_status, loaded_notes, loaded_count, loads_of}
use Rattle.sq_node_model.specs.Placed.{IsPlaced}
use Rattle.sq_node_model.specs.Next.{IsStageDone}
use Rattle.sq_node_model.proofs.Members.{Contains-reverse, Contains-map}
use Rattle.sq_node_model.proofs.Staged.{on_link_goes, link_runs}

begun_touched : (st : Status) → is_begun st ≡ true → (is_free st ≡ false) × (is_split st ≡ false)
begun_touched (Partial p) begun = (refl, refl)
begun_touched (Complete p) begun = (refl, refl)
begun_touched st begun = absurd cc

some_span : (n : ℕ) → 0 < span n
some_span n = grind (arith, nat_tests)

low_leaf : (n : ℕ) → is_node n ≡ true → first_leaf n < 32
low_leaf n node = let few = leb-true n 63 (and_parts (nat_le 1 n) (nat_le n 63) node).1 in grind (arith, nat_tests, few)

-- after the last note of a tree node none of it follows
none_after : (o : OpeningValue) (newer older : List Note) (note : Note) → Tiles o (newer ++ older) → Contains newer note → has_last note.seg note.node older ≡ true → ⊥
none_after o [] older note tiles has last = Contains-nothing note has
none_after o (first ∷ newer) older note tiles has last =
    ⊎_elim
    (λ same.
    let here : has_last first.seg first.node older ≡ true = subst (λ (n : Note). has_last n.seg n.node older ≡ true) (sym same) last in
    let test : Note → Bool = λ n. is_about first.seg first.node n && n.last in
    let all : has_last first.seg first.node (newer ++ older) ≡ true = list_any-append test newer older ∙ ap (λ b. list_any test newer || b) here ∙ or_comm (list_any test newer) true in
    true≢false (sym all ∙ tiles.0.first_last))
    (λ later. none_after o newer older note tiles.1 later last)
    (Contains-cases first newer note has)

-- a list that contains nothing is empty
pub nothing_in : {X : Type 0} (xs : List X) → ((x : X) → Contains xs x → ⊥) → xs ≡ []
nothing_in [] none = refl
nothing_in (x ∷ xs) none = absurd (none x (Contains-first x xs))

module _ (o : OpeningValue) (g : GatheredValue) (p : IsPlaced o g) (done : IsStageDone o g) where
  -- a begun tree node of the stage is complete
  begun_complete : (seg n src dst : ℕ) → (goes : SegmentGoes o seg src dst) → runs_in o g.stage src dst ≡ true → is_node n ≡ true → is_begun (gathered_status g seg n) ≡ true → is_complete (gathered_status g seg n) ≡ true
  begun_complete seg n src dst goes runs node begun =
      let status = gathered_status g seg in
      let running : stage_in o.recon goes.segment ≡ g.stage = (λ i. stage_on o.recon (goes.source i) (goes.destination i)) ∙ eqb-true (stage_on o.recon src dst) g.stage runs in
      let whole = all_complete status (p.fit.grown seg) (done seg goes.segment goes.there running) in
      let leaf = first_leaf n in
      let few = low_leaf n node in
      let some = some_span n in
      let touched = begun_touched (status n) begun in
      let same = covering_touched status (p.fit.grown seg) leaf n few node (above_within n leaf (omega arith) (omega (arith, some))) touched.0 touched.1 in
      ap (λ k. is_complete (status k)) (sym same) ∙ whole leaf few

  pub none_way : (i : ℕ) (link : GatheredLink) → slice_get g.links i ≡ Some link → (chunk : ChunkValue) → Contains link.under_way chunk → ⊥
  none_way i link there chunk has =
      let placed = p.fit.links i link there in
      let k = loaded_count link in
      let note = chunk.note in
      let behind : Contains (drop k link.notes) note = subst (λ notes. Contains notes note) placed.way (Contains-map (λ (c : ChunkValue). c.note) link.under_way chunk has) in
      let among : Contains link.notes note = subst (λ notes. Contains notes note) (take-append-drop k link.notes) (Contains-append_right (take k link.notes) (drop k link.notes) note behind) in
      let about = placed.about note among in
      let goes = on_link_goes o g.stage link.src link.dst note.seg about.segment in
      let complete = begun_complete note.seg note.node link.src link.dst goes (link_runs o g.stage link.src link.dst note.seg about.segment) about.node about.begun in
      let test : Note → Bool = λ n. is_about note.seg note.node n && n.last in
      let some = any_in test (loaded_notes g) (p.fit.complete note.seg note.node complete) in
      let last = some.0 in
      let from = flat_map_in loads_of g.links last some.1 in
      let other = from.0 in
      let j = (from.1).0 in
      let there' = slice_get-Contains g.links other from.1 in
      let placed' = p.fit.links j other there' in
      let among' : Contains other.notes last = subst (λ notes. Contains notes last) (take-append-drop (loaded_count other) other.notes) (front (loads_of other) (drop (loaded_count other) other.notes) last from.2) in
      let about' = placed'.about last among' in
      let same_seg : last.seg ≡ note.seg = (about_is note.seg note.node last (and_parts (is_about note.seg note.node last) last.last some.2).0).0 in
      let goes' : SegmentGoes o note.seg other.src other.dst = subst (λ s. SegmentGoes o s other.src other.dst) same_seg (on_link_goes o g.stage other.src other.dst last.seg about'.segment) in
      let ends = goes_once o note.seg link.src link.dst other.src other.dst goes goes' in
      let one = p.fit.parts.each_link.one_each i j link other there there' ends.0 ends.1 in
      let same : other ≡ link = same_Some other link (sym there' ∙ subst (λ q. slice_get g.links q ≡ Some link) one there) in
      let loaded : Contains (loads_of link) last = subst (λ (l : GatheredLink). Contains (loads_of l) last) same from.2 in
      let ended : has_last note.seg note.node (reverse (take k link.notes)) ≡ true = list_any-Contains test (reverse (take k link.notes)) last (Contains-reverse (take k link.notes) last loaded) some.2 in
      let tiles : Tiles o (reverse (drop k link.notes) ++ reverse (take k link.notes)) =
      subst (Tiles o) (ap reverse (sym (take-append-drop k link.notes)) ∙ reverse-append (take k link.notes) (drop k link.notes)) placed.tiles in
      none_after o (reverse (drop k link.notes)) (reverse (take k link.notes)) note tiles (Contains-reverse (drop k link.notes) note behind) ended
    where
      front : (xs ys : List Note) (x : Note) → Contains xs x → Contains (xs ++ ys) x
      front xs ys x has = Contains-append_left xs ys x has

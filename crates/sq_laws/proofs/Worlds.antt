-- The families of a world fit, and no two of them have one root key.
use Rattle.std.proofs.Common.{◌≡◌, ℕ, ◌+◌, ◌<◌, ◌≤◌, ◌==◌, ◌&&◌, Bool, true, false, List, [], length, get_or, drop, refl, sym, ap, ◌∙◌, subst, arith}
use Rattle.std.specs.Prelude.{if◌then◌else◌, Option, Some, None, is_some, slice_get, reverse}
use Rattle.std.specs.List.{All, Contains, flat_map, range_with_len}
use Rattle.std.specs.Ordering.{nat_cmp}
use Rattle.std.specs.FinMap.{get, entries, get-entries}
use Rattle.std.specs.FinMap.Entries.{find}
use Rattle.std.proofs.lemmas.Bool.{and_parts, and_from, eq-eqb}
use Rattle.std.proofs.lemmas.List.{reverse-reverse}
use Rattle.std.proofs.lemmas.List.Elements.{All-nil, All-append, All-from_get_or, Contains-append_left}
use Rattle.std.proofs.lemmas.List.Sums.{sum_by-append}
use Rattle.std.proofs.lemmas.Option.{slice_get-get_or}
use Rattle.sq_schema.specs.declared.root.TheConstants.{ROOT_END}
use Rattle.sq_schema.specs.Family.{FamilyValue}
use Rattle.sq_store.specs.declared.chunk.Note.{Note}
use Rattle.sq_store.specs.ChunkValue.{ChunkValue, covers, are_within}
use Rattle.sq_store.specs.InOrder.{families_in}
use Rattle.sq_store.specs.StoreValue.{StoreValue, family_in}
use Rattle.sq_store.proofs.Between.{family_in-entries, within-entries, sorted_is}
use Rattle.sq_moves.specs.Opening.{IsOpening}
use Rattle.sq_moves.specs.OpeningValue.{OpeningValue}
use Rattle.sq_exec.specs.CoreValue.{CoreValue}
use Rattle.sq_model.specs.Trace.{Trace, notes, loads, link, load_count}
use Rattle.sq_model.specs.Legal.{IsLegal}
use Rattle.sq_model.specs.Place.{Place, At, Under_way, place}
use Rattle.sq_model.specs.Tables.{opening_rows, family_of, stands}
use Rattle.sq_model.proofs.Link.{link_has}
use Rattle.sq_model.proofs.Notes.{numbered, prefix}
use Rattle.sq_model.proofs.Places.{way_place}
use Rattle.sq_transition.specs.WorldValue.{WorldValue, WholeLink, no_core, core_at, link_index, link_value, under_way}
use Rattle.sq_transition.specs.Holds.{Holds, LinkHolds, ChunkHolds, CoreHolds, is_at, share, share_at}
use Rattle.sq_transition.proofs.Links.{index_found}
use Rattle.sq_transition.proofs.LinkFacts.{on_its_way}
use Rattle.sq_transition.proofs.Loads.{way_and_loads}
use Rattle.sq_world.specs.Readers.{way_of}
use Rattle.sq_laws.specs.Fit.{IsFitFamily, IsFitTable, AreFitSteps}
use Rattle.sq_laws.proofs.Histories.{family_fits}
use Rattle.sq_results.specs.Standing.{carried, stored_families, link_families, source_families, world_families}
use Rattle.sq_laws.specs.ReadAgain.{AreFit}
use Rattle.sq_laws.proofs.Counts.{families_of, count_if, one_of, rising_few, rising_all, flat_all, flat_none, flat_few, range_row, row_by, way_row, AreInRow}

same_value : {A : Type 0} (a b : A) → ◌≡◌ {A = Option A} (Some a) (Some b) → a ≡ b
same_value a b same = cc

module _ (o : OpeningValue) (t : Trace) (is : IsOpening o) (legal : IsLegal o t) (tables : ℕ) (table : IsFitTable tables (opening_rows o)) (fit : AreFitSteps tables t) where
  abbrev Fits : FamilyValue → Type 0
  Fits family = IsFitFamily tables family

  -- a family of a share is the one of its root key, which stands
  record IsFamilyOf (root : ℕ) (family : FamilyValue) : Type 0 where
    stands_there : stands o t root ≡ true
    same : family_of o t root ≡ family

  of_share : (here : ℕ → Bool) (root : ℕ) (family : FamilyValue) → share o t here root ≡ Some family → IsFamilyOf root family
  of_share here root family found =
      elim (stands o t root && here root) as (λ b. (stands o t root && here root) ≡ b → (if b then Some (family_of o t root) else None) ≡ Some family → IsFamilyOf root family) [
        | true ↦ λ both one. record { stands_there = (and_parts (stands o t root) (here root) both).0; same = same_value (family_of o t root) family one }
        | false ↦ λ none one. absurd cc
      ] refl found

  fits_of : (root : ℕ) (family : FamilyValue) → IsFamilyOf root family → Fits family
  fits_of root family of = subst Fits of.same (family_fits tables o t legal table fit root of.stands_there)

  share_few : (here : ℕ → Bool) (root : ℕ) → count_if (is_some (share o t here root)) ≤ count_if (here root)
  share_few here root = few (stands o t root) (here root)
    where
      few : (a b : Bool) → count_if (is_some (if a && b then Some (family_of o t root) else None)) ≤ count_if b
      few true true = omega arith
      few true false = omega arith
      few false true = omega arith
      few false false = omega arith

  -- families that rise are those of a share
  record HoldShare (here : ℕ → Bool) (families : List FamilyValue) : Type 0 where
    lo : ℕ
    hi : ℕ
    rising : are_within lo hi families ≡ true
    are : (root : ℕ) → family_in families root ≡ share o t here root

  shares_fit : (here : ℕ → Bool) (families : List FamilyValue) → HoldShare here families → All Fits families
  shares_fit here families holds =
      rising_all Fits holds.lo holds.hi families holds.rising (λ root family found. fits_of root family (of_share here root family (sym (holds.are root) ∙ found)))

  shares_few : (here : ℕ → Bool) (families : List FamilyValue) → HoldShare here families → (root : ℕ) → families_of root families ≤ count_if (here root)
  shares_few here families holds root =
      let found : count_if (is_some (family_in families root)) ≡ count_if (is_some (share o t here root)) = ap (λ (f : Option FamilyValue). count_if (is_some f)) (holds.are root) in
      omega (arith, rising_few holds.lo holds.hi families root holds.rising, found, share_few here root)

  -- stores

  stored_share : (part : ℕ) (store : StoreValue) → ((root : ℕ) → get store root ≡ share_at o t part root) → HoldShare (λ key. is_at part (place o t key)) (families_in store)
  stored_share part store holds =
      let here : ℕ → Bool = λ key. is_at part (place o t key) in
      let found : (key : ℕ) → find nat_cmp key (entries store) ≡ share o t here key = λ key. sym (get-entries store key) ∙ holds key in
      let rooted : (key : ℕ) (family : FamilyValue) → find nat_cmp key (entries store) ≡ Some family → family.root ≡ key =
      λ key family at. ap (λ (f : FamilyValue). f.root) (sym (of_share here key family (sym (found key) ∙ at)).same) in
      record {
        lo = 0;
        hi = ROOT_END;
        rising = within-entries 0 ROOT_END (entries store) (sorted_is store) rooted (λ key some. below here key (found key) some);
        are = λ root. family_in-entries (entries store) root (sorted_is store) rooted ∙ found root;
      }
    where
      some_share : (here : ℕ → Bool) (key : ℕ) → is_some (share o t here key) ≡ true → stands o t key ≡ true
      some_share here key some =
          elim (stands o t key && here key) as (λ b. (stands o t key && here key) ≡ b → is_some (if b then Some (family_of o t key) else None) ≡ true → stands o t key ≡ true) [
            | true ↦ λ both one. (and_parts (stands o t key) (here key) both).0
            | false ↦ λ none one. absurd cc
          ] refl some

      below : (here : ℕ → Bool) (key : ℕ) → find nat_cmp key (entries store) ≡ share o t here key → is_some (find nat_cmp key (entries store)) ≡ true → (0 ≤ key) × (key < ROOT_END)
      below here key found some =
          (omega arith, (family_fits tables o t legal table fit key (some_share here key (sym (ap (λ (f : Option FamilyValue). is_some f) found) ∙ some))).root)

  -- chunks under way

  chunk_share : (chunk : ChunkValue) → ChunkHolds o t chunk → HoldShare (covers chunk.note) chunk.families
  chunk_share chunk holds = record { lo = chunk.note.lo; hi = chunk.note.hi; rising = holds.rising; are = holds.families }

  -- a root key that a chunk under way covers is there
  chunk_place : (l : WholeLink) → LinkHolds o t l → (i : ℕ) (chunk : ChunkValue) → slice_get (under_way l) i ≡ Some chunk → (root : ℕ) → covers chunk.note root ≡ true → place o t root ≡ Under_way chunk.note
  chunk_place l h i chunk at root covered =
      way_place o is t legal l.src l.dst (reverse (drop (load_count t l.src l.dst) l.out.notes)) (way_and_loads o t l h (prefix o t legal l.src l.dst)) chunk.note (on_its_way o t l h i chunk at) root covered

  carried_fit : (l : WholeLink) → LinkHolds o t l → All Fits (carried (under_way l))
  carried_fit l h =
      flat_all Fits (λ (chunk : ChunkValue). chunk.families) (under_way l)
      (λ k d within.
      let chunk = get_or (under_way l) k d in
      shares_fit (covers chunk.note) chunk.families (chunk_share chunk (h.chunks k chunk (slice_get-get_or (under_way l) k d within))))

  -- a chunk has none of a root key that it doesn't cover
  chunk_few : (l : WholeLink) → LinkHolds o t l → (root k : ℕ) (d : ChunkValue) → k < length (under_way l) → families_of root (get_or (under_way l) k d).families ≤ count_if (covers (get_or (under_way l) k d).note root)
  chunk_few l h root k d within =
      let chunk = get_or (under_way l) k d in
      shares_few (covers chunk.note) chunk.families (chunk_share chunk (h.chunks k chunk (slice_get-get_or (under_way l) k d within))) root

  -- one root key
  module _ (root : ℕ) where
    -- it is at a partition, so in no chunk
    module _ (part : ℕ) (placed : place o t root ≡ At part) where
      at_none : (l : WholeLink) → LinkHolds o t l → families_of root (carried (under_way l)) ≡ 0
      at_none l h =
          flat_none root (λ (chunk : ChunkValue). chunk.families) (under_way l)
          (λ k d within.
          let chunk = get_or (under_way l) k d in
          let few = chunk_few l h root k d within in
          elim (covers chunk.note root) as (λ b. covers chunk.note root ≡ b → families_of root chunk.families ≤ count_if b → families_of root chunk.families ≡ 0) [
            | true ↦ λ covered any. let no : At part ≡ Under_way chunk.note = sym placed ∙ chunk_place l h k chunk (slice_get-get_or (under_way l) k d within) root covered in absurd cc
            | false ↦ λ apart any. omega (arith, any)
          ] refl few)

    -- it is in a chunk under way, so only in the one with this note
    module _ (note : Note) (placed : place o t root ≡ Under_way note) where
      covered_is : (l : WholeLink) → LinkHolds o t l → (k : ℕ) (d : ChunkValue) → k < length (under_way l) → covers (get_or (under_way l) k d).note root ≡ true → note ≡ (get_or (under_way l) k d).note
      covered_is l h k d within covered =
          let chunk = get_or (under_way l) k d in
          let same : Under_way note ≡ Under_way chunk.note = sym placed ∙ chunk_place l h k chunk (slice_get-get_or (under_way l) k d within) root covered in
          cc

      -- a chunk has one at most, and none where it has another number
      way_each : (l : WholeLink) → LinkHolds o t l → (k : ℕ) (d : ChunkValue) → k < length (under_way l) → families_of root (get_or (under_way l) k d).families ≤ count_if (note.number == (get_or (under_way l) k d).note.number)
      way_each l h k d within =
          let chunk = get_or (under_way l) k d in
          let few = chunk_few l h root k d within in
          elim (covers chunk.note root) as (λ b. covers chunk.note root ≡ b → families_of root chunk.families ≤ count_if b → families_of root chunk.families ≤ count_if (note.number == chunk.note.number)) [
            | true ↦ λ covered any.
                let same = covered_is l h k d within covered in
                let one : count_if (note.number == chunk.note.number) ≡ 1 = ap count_if (eq-eqb note.number chunk.note.number (ap (λ (n : Note). n.number) same)) in
                omega (arith, any, one)
            | false ↦ λ apart any. omega (arith, any)
          ] refl few

      -- a link has one at most
      way_few : (l : WholeLink) → LinkHolds o t l → families_of root (carried (under_way l)) ≤ 1
      way_few l h =
          let back : l.out.notes ≡ reverse (link l.src l.dst (notes t)) = sym (reverse-reverse l.out.notes) ∙ ap reverse h.notes in
          let row = way_row (under_way l) (load_count t l.src l.dst) (link l.src l.dst (notes t)) (numbered o t legal l.src l.dst) (h.way ∙ ap (drop (load_count t l.src l.dst)) back) in
          (flat_few root (λ (chunk : ChunkValue). chunk.note.number) note.number (λ (chunk : ChunkValue). chunk.families) (under_way l) row.0 row.1 (way_each l h)).few

      -- and none where it isn't the note's link
      ends_are : (l : WholeLink) → LinkHolds o t l → (k : ℕ) (d : ChunkValue) → k < length (under_way l) → covers (get_or (under_way l) k d).note root ≡ true → (note.src ≡ l.src) × (note.dst ≡ l.dst)
      ends_are l h k d within covered =
          let chunk = get_or (under_way l) k d in
          let same = covered_is l h k d within covered in
          let at = slice_get-get_or (under_way l) k d within in
          let among : Contains (link l.src l.dst (notes t)) chunk.note =
          subst (λ (all : List Note). Contains all chunk.note) (way_and_loads o t l h (prefix o t legal l.src l.dst))
          (Contains-append_left (reverse (drop (load_count t l.src l.dst) l.out.notes)) (link l.src l.dst (loads t)) chunk.note (on_its_way o t l h k chunk at)) in
          let of = (link_has l.src l.dst (notes t) chunk.note among).1 in
          (ap (λ (n : Note). n.src) same ∙ of.source, ap (λ (n : Note). n.dst) same ∙ of.destination)

      other_none : (l : WholeLink) → LinkHolds o t l → ((note.src == l.src) && (note.dst == l.dst)) ≡ false → families_of root (carried (under_way l)) ≡ 0
      other_none l h other =
          flat_none root (λ (chunk : ChunkValue). chunk.families) (under_way l)
          (λ k d within.
          let chunk = get_or (under_way l) k d in
          let few = chunk_few l h root k d within in
          elim (covers chunk.note root) as (λ b. covers chunk.note root ≡ b → families_of root chunk.families ≤ count_if b → families_of root chunk.families ≡ 0) [
            | true ↦ λ covered any.
                let ends = ends_are l h k d within covered in
                let both = and_from (note.src == l.src) (note.dst == l.dst) (eq-eqb note.src l.src ends.0) (eq-eqb note.dst l.dst ends.1) in
                let no : true ≡ false = sym both ∙ other in
                absurd cc
            | false ↦ λ apart any. omega (arith, any)
          ] refl few)

      -- so it has one at most, and only where it is the note's link
      carried_few : (l : WholeLink) → LinkHolds o t l → families_of root (carried (under_way l)) ≤ count_if ((note.src == l.src) && (note.dst == l.dst))
      carried_few l h =
          elim ((note.src == l.src) && (note.dst == l.dst)) as (λ b. ((note.src == l.src) && (note.dst == l.dst)) ≡ b → families_of root (carried (under_way l)) ≤ count_if b) [
            | true ↦ λ this. way_few l h
            | false ↦ λ other. let none = other_none l h other in omega (arith, none)
          ] refl

  -- a world that the history leads to
  module _ (w : WorldValue) (h : Holds o t w) where
    -- what holds of each link holds of the one between two partitions, if there is one
    by_link : (P : List FamilyValue → Type 0) (src dst : ℕ) → P [] → ((l : WholeLink) → LinkHolds o t l → l.src ≡ src → l.dst ≡ dst → P (carried (under_way l))) → P (link_families w src dst)
    by_link P src dst none some =
        elim (link_index w src dst) as (λ found. link_index w src dst ≡ found → P (carried (way_of w found))) [
          | None ↦ λ no. none
          | Some i ↦ λ at. let from = index_found w src dst i at in some (link_value w i) (h.links.each i from.within) from.starts from.ends
        ] refl

    -- each family fits

    core_holds : (part : ℕ) → part < length w.cores → CoreHolds o t part (core_at w part)
    core_holds part within = h.partitions.each part (subst (λ (n : ℕ). part < n) h.partitions.count within)

    core_share : (part : ℕ) → part < length w.cores → HoldShare (λ key. is_at part (place o t key)) (families_in (core_at w part).store)
    core_share part within = stored_share part (core_at w part).store (core_holds part within).store

    stored_fit : All Fits (stored_families w)
    stored_fit =
        flat_all Fits (λ (core : CoreValue). families_in core.store) w.cores
        (All-from_get_or (λ (core : CoreValue). All Fits (families_in core.store)) w.cores no_core
        (λ part within. shares_fit (λ key. is_at part (place o t key)) (families_in (core_at w part).store) (core_share part within)))

    link_fit : (src dst : ℕ) → All Fits (link_families w src dst)
    link_fit src dst = by_link (All Fits) src dst (All-nil Fits) (λ l holds starts ends. carried_fit l holds)

    source_fit : (src : ℕ) → All Fits (source_families w src)
    source_fit src = flat_all Fits (link_families w src) (range_with_len 0 (length w.cores)) (λ k d within. link_fit src (get_or (range_with_len 0 (length w.cores)) k d))

    all_fit : All Fits (world_families w)
    all_fit =
        All-append Fits (stored_families w) (flat_map (source_families w) (range_with_len 0 (length w.cores))) stored_fit
        (flat_all Fits (source_families w) (range_with_len 0 (length w.cores)) (λ k d within. source_fit (get_or (range_with_len 0 (length w.cores)) k d)))

    -- one of each root key

    core_few : (root part : ℕ) → part < length w.cores → families_of root (families_in (core_at w part).store) ≤ count_if (is_at part (place o t root))
    core_few root part within = shares_few (λ key. is_at part (place o t key)) (families_in (core_at w part).store) (core_share part within) root

    core_row : AreInRow (λ (core : CoreValue). core.part) 0 w.cores
    core_row = row_by (λ (core : CoreValue). core.part) no_core w.cores 0 (λ part within. let own = (core_holds part within).set.part in omega (arith, own))

    few_of_both : (root : ℕ) → families_of root (world_families w) ≡ families_of root (stored_families w) + families_of root (flat_map (source_families w) (range_with_len 0 (length w.cores)))
    few_of_both root = sum_by-append (one_of root) (stored_families w) (flat_map (source_families w) (range_with_len 0 (length w.cores)))

    -- at a partition
    at_few : (root part : ℕ) → place o t root ≡ At part → families_of root (world_families w) ≤ 1
    at_few root part placed =
        let each : All (λ (core : CoreValue). families_of root (families_in core.store) ≤ count_if (part == core.part)) w.cores =
        All-from_get_or (λ (core : CoreValue). families_of root (families_in core.store) ≤ count_if (part == core.part)) w.cores no_core
        (λ p within.
        subst (λ (k : ℕ). families_of root (families_in (core_at w p).store) ≤ count_if (part == k)) (sym (core_holds p within).set.part)
        (subst (λ (at : Place). families_of root (families_in (core_at w p).store) ≤ count_if (is_at p at)) placed (core_few root p within))) in
        let stored = (flat_few root (λ (core : CoreValue). core.part) part (λ (core : CoreValue). families_in core.store) w.cores 0 core_row each).few in
        let no_link : (src dst : ℕ) → families_of root (link_families w src dst) ≡ 0 = λ src dst.
        by_link (λ (families : List FamilyValue). families_of root families ≡ 0) src dst refl (λ l holds starts ends. at_none root part placed l holds) in
        let no_source : (src : ℕ) → families_of root (source_families w src) ≡ 0 = λ src.
        flat_none root (link_families w src) (range_with_len 0 (length w.cores)) (λ k d within. no_link src (get_or (range_with_len 0 (length w.cores)) k d)) in
        let none = flat_none root (source_families w) (range_with_len 0 (length w.cores)) (λ k d within. no_source (get_or (range_with_len 0 (length w.cores)) k d)) in
        omega (arith, few_of_both root, stored, none)

    -- under way
    on_way_few : (root : ℕ) (note : Note) → place o t root ≡ Under_way note → families_of root (world_families w) ≤ 1
    on_way_few root note placed =
        let no_core_has : (p : ℕ) → p < length w.cores → families_of root (families_in (core_at w p).store) ≡ 0 = λ p within.
        let few = subst (λ (at : Place). families_of root (families_in (core_at w p).store) ≤ count_if (is_at p at)) placed (core_few root p within) in
        omega (arith, few) in
        let none = flat_none root (λ (core : CoreValue). families_in core.store) w.cores
        (All-from_get_or (λ (core : CoreValue). families_of root (families_in core.store) ≡ 0) w.cores no_core no_core_has) in
        let link_few : (src dst : ℕ) → families_of root (link_families w src dst) ≤ count_if ((note.src == src) && (note.dst == dst)) = λ src dst.
        by_link (λ (families : List FamilyValue). families_of root families ≤ count_if ((note.src == src) && (note.dst == dst))) src dst (least (count_if ((note.src == src) && (note.dst == dst))))
        (λ l holds starts ends. subst (λ (k : ℕ). families_of root (carried (under_way l)) ≤ count_if ((note.src == k) && (note.dst == dst))) starts
        (subst (λ (k : ℕ). families_of root (carried (under_way l)) ≤ count_if ((note.src == l.src) && (note.dst == k))) ends (carried_few root note placed l holds))) in
        let source_few : (src : ℕ) → families_of root (source_families w src) ≤ count_if (note.src == src) = λ src. of_source src link_few in
        let ways = (flat_few root (λ (k : ℕ). k) note.src (source_families w) (range_with_len 0 (length w.cores)) 0 (range_row 0 (length w.cores)) (λ k d within. source_few (get_or (range_with_len 0 (length w.cores)) k d))).few in
        omega (arith, few_of_both root, ways, none)
      where
        least : (n : ℕ) → families_of root [] ≤ n
        least n = omega arith

        of_source : (src : ℕ) → ((src dst : ℕ) → families_of root (link_families w src dst) ≤ count_if ((note.src == src) && (note.dst == dst))) → families_of root (source_families w src) ≤ count_if (note.src == src)
        of_source src link_few =
            elim (note.src == src) as (λ b. ((dst : ℕ) → families_of root (link_families w src dst) ≤ count_if (b && (note.dst == dst))) → families_of root (source_families w src) ≤ count_if b) [
              | true ↦ λ each. (flat_few root (λ (k : ℕ). k) note.dst (link_families w src) (range_with_len 0 (length w.cores)) 0 (range_row 0 (length w.cores)) (λ k d within. each (get_or (range_with_len 0 (length w.cores)) k d))).few
              | false ↦ λ each.
                  let none = flat_none root (link_families w src) (range_with_len 0 (length w.cores)) (λ k d within. let few = each (get_or (range_with_len 0 (length w.cores)) k d) in omega (arith, few)) in
                  omega (arith, none)
            ] (link_few src)

    one_each : (root : ℕ) → families_of root (world_families w) ≤ 1
    one_each root =
        elim (place o t root) as (λ at. place o t root ≡ at → families_of root (world_families w) ≤ 1) [
          | At part ↦ at_few root part
          | Under_way note ↦ on_way_few root note
        ] refl

    pub world_fits : AreFit tables (world_families w)
    world_fits = record { each = all_fit; one_each = one_each }

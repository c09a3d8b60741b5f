-- Where a root key lies in an opening: in a segment, whose ends are its owners, and in the nodes above its leaf.
use Rattle.std.proofs.Common.{◌≡◌, ⊎_elim, ℕ, ◌<◌, ◌≤◌, true, false, ◌==◌, ◌&&◌, not, nat_le, nat_lt, List, [], ◌∷◌, slice_get, find, Contains, Option, Some, None, is_some, refl, sym, ap, ◌∙◌, subst, true≢false, arith}
use Rattle.std.specs.List.{range_with_len}
use Rattle.std.proofs.lemmas.Bool.{and_parts, and_from, le-leb, leb-true, ltb-true, lt-ltb, eq-eqb, ne_eqb, cases_lt, cond-false, and_right, le-ltb}
use Rattle.sq_moves.specs.declared.node.TheConstants.{LEAVES}
use Rattle.sq_moves.specs.Node.{is_above}
use Rattle.sq_plan.specs.declared.plan.PlanRange.{PlanRange}
use Rattle.sq_schema.specs.declared.root.TheConstants.{ROOT_END}
use Rattle.sq_plan.specs.PlanValue.{PlanValue, IsPlan, is_tiling, holds, owner, found_owner}
use Rattle.sq_moves.specs.declared.recon.Range.{Range}
use Rattle.sq_moves.specs.declared.recon.TheConstants.{MAX_WIDTH}
use Rattle.sq_moves.specs.ReconValue.{IsRecon, has_key, segment_at, segment_count, segments_in, segments_of, segment_of, leaf_of, extent, is_link}
use Rattle.sq_moves.specs.OpeningValue.{OpeningValue}
use Rattle.sq_moves.proofs.Tilings.{holds_past, tiling_parts, tiling_bounds}
use Rattle.sq_moves.proofs.Joins.{has_key-within}
use Rattle.sq_moves.proofs.Segments.{moves-rising, segment_stands, segment_of_held, segment_owners, found_owners, unfound_owner, found_moves}
use Rattle.sq_moves.proofs.Extents.{Covers, extent_low, extent_high, covers_from_above, above_from_covers, leaf_below}
use Rattle.sq_moves.specs.Opening.{IsOpening}
use Rattle.sq_model.specs.Place.{source, destination, moves, extent_in, extent_of, is_within}
use Rattle.sq_model.proofs.Lists.{Contains-slice_get, found_in, list_any-Contains, list_all-Contains, map_in, flat_map_in}

-- an owner is one of the partitions
owner_below : (plan : PlanValue) (key : ℕ) → IsPlan plan → owner plan key < plan.parts
owner_below plan key is = among (find (λ range. holds range key) plan.ranges) refl
  where
    among : (found : Option PlanRange) → find (λ (range : PlanRange). holds range key) plan.ranges ≡ found → found_owner found < plan.parts
    among None none = omega (arith, is.some_part)
    among (Some range) found =
        let at = found_in (λ (other : PlanRange). holds other key) plan.ranges range found in
        ltb-true range.owner plan.parts (list_all-Contains (λ (other : PlanRange). nat_lt other.owner plan.parts) plan.ranges range is.owners at.0)

-- past the last root key no range of a plan holds a key
past_end : (key lo : ℕ) (ranges : List PlanRange) → ROOT_END ≤ key → is_tiling lo ranges ≡ true → find (λ range. holds range key) ranges ≡ None
past_end key lo [] past tiling = refl
past_end key lo (range ∷ ranges) past tiling =
    let parts = tiling_parts lo range ranges tiling in
    let ends = tiling_bounds range.hi ranges parts.2 in
    cond-false (holds range key) (Some range) (find (λ other. holds other key) ranges) (holds_past range key (omega arith))
    ∙ past_end key range.hi ranges past parts.2

owner_past : (plan : PlanValue) (key : ℕ) → IsPlan plan → ROOT_END ≤ key → owner plan key ≡ 0
owner_past plan key is past = ap found_owner (past_end key 0 plan.ranges past is.tiling)

-- the key is one of these
pub covers_within : (o : OpeningValue) (g n root : ℕ) (segment : Range) → slice_get o.recon.segments g ≡ Some segment → is_within (extent_of o g n) root ≡ true → Covers (extent o.recon.width segment n) root
covers_within o g n root segment there within =
    let keys = extent o.recon.width segment n in
    let here : is_within keys root ≡ true = ap (λ found. is_within (extent_in o.recon.width found n) root) (sym there) ∙ within in
    let parts = and_parts (nat_le keys.lo root) (nat_lt root keys.hi) here in
    record { low = leb-true keys.lo root parts.0; high = ltb-true root keys.hi parts.1 }

pub within_covers : (o : OpeningValue) (g n root : ℕ) (segment : Range) → slice_get o.recon.segments g ≡ Some segment → Covers (extent o.recon.width segment n) root → is_within (extent_of o g n) root ≡ true
within_covers o g n root segment there covers =
    let keys = extent o.recon.width segment n in
    ap (λ found. is_within (extent_in o.recon.width found n) root) there
    ∙ and_from (nat_le keys.lo root) (nat_lt root keys.hi) (le-leb keys.lo root covers.low) (lt-ltb root keys.hi covers.high)

-- the key lies in this segment, whose ends are its owners
pub record IsIn (o : OpeningValue) (root g : ℕ) (segment : Range) : Type 0 where
  pub there : slice_get o.recon.segments g ≡ Some segment
  pub held : has_key segment root ≡ true
  pub source_is : source o root ≡ segment.src
  pub destination_is : destination o root ≡ segment.dst
  pub leaf : leaf_of o.recon.width segment root < LEAVES

-- the key lies in the extent of this node
pub record IsUnder (o : OpeningValue) (root g n : ℕ) : Type 0 where
  pub found : segment_of o.recon.segments root ≡ Some g
  pub segment : Range
  pub there : slice_get o.recon.segments g ≡ Some segment
  pub above : is_above n (leaf_of o.recon.width segment root) ≡ true

module _ (o : OpeningValue) (is : IsOpening o) where
  -- an opening has a reconfiguration
  pub recon_is : IsRecon o.recon
  recon_is = record {
    leaf = and_from (nat_le 1 o.recon.width) (nat_le o.recon.width MAX_WIDTH) (le-leb 1 o.recon.width is.some_width) (le-leb o.recon.width MAX_WIDTH is.small_width);
    rising = moves-rising o.old o.new o.recon.ranges is.moves;
    cut = is.segments;
    few = is.few_segments;
  }

  pub found_in_segment : (root g : ℕ) → segment_of o.recon.segments root ≡ Some g → (segment : Range) × IsIn o root g segment
  found_in_segment root g found =
      let at = found_owners o.recon recon_is o.old o.new is.moves root g found in
      let stands = segment_stands o.recon recon_is g at.0 at.1 in (
        at.0,
        record {
          there = at.1;
          held = at.2;
          source_is = at.3;
          destination_is = at.4;
          leaf = leaf_below o.recon.width at.0 is.some_width root at.2 stands.is.short;
        },
      )

  pub in_segment_found : (root g : ℕ) (segment : Range) → slice_get o.recon.segments g ≡ Some segment → has_key segment root ≡ true → segment_of o.recon.segments root ≡ Some g
  in_segment_found root g segment there held = segment_of_held o.recon recon_is root g segment there held

  -- a key that no segment holds keeps its owner
  pub unfound_stays : (root : ℕ) → segment_of o.recon.segments root ≡ None → source o root ≡ destination o root
  unfound_stays root none = ⊎_elim
      (λ (within : root < ROOT_END). unfound_owner o.recon recon_is o.old o.new is.moves root within none)
      (λ (past : ROOT_END ≤ root). owner_past o.old root is.old_plan past ∙ sym (owner_past o.new root is.new_plan past))
      (cases_lt root ROOT_END)

  pub source_below : (root : ℕ) → source o root < o.old.parts
  source_below root = owner_below o.old root is.old_plan

  pub destination_below : (root : ℕ) → destination o root < o.old.parts
  destination_below root = let below = owner_below o.new root is.new_plan in let same = is.parts in omega arith

  -- so are the ends of a segment
  pub ends_below : (g : ℕ) (segment : Range) → slice_get o.recon.segments g ≡ Some segment → (segment.src < o.old.parts) × (segment.dst < o.old.parts)
  ends_below g segment there =
      let stands = segment_stands o.recon recon_is g segment there in
      let owners = segment_owners o.recon recon_is o.old o.new is.moves segment.lo g segment there (has_key-within segment segment.lo (omega arith) stands.some) in
      (subst (λ p. p < o.old.parts) owners.0 (source_below segment.lo), subst (λ p. p < o.old.parts) owners.1 (destination_below segment.lo))

  -- each segment lies on a link
  pub linked : (g : ℕ) (segment : Range) → slice_get o.recon.segments g ≡ Some segment → is_link o.recon.ranges segment.src segment.dst ≡ true
  linked g segment there =
      let has : Contains (segments_of o.recon.width o.recon.ranges) segment = subst (λ list. Contains list segment) is.segments (Contains-slice_get o.recon.segments g segment there) in
      let range = flat_map_in (segments_in o.recon.width) o.recon.ranges segment has in
      let part = map_in (segment_at o.recon.width range.0) (range_with_len 0 (segment_count o.recon.width range.0)) segment range.2 in
      list_any-Contains (λ (other : Range). (other.src == segment.src) && (other.dst == segment.dst)) o.recon.ranges range.0 range.1
      (and_from (range.0.src == segment.src) (range.0.dst == segment.dst)
      (eq-eqb range.0.src segment.src (ap (λ (s : Range). s.src) part.2))
      (eq-eqb range.0.dst segment.dst (ap (λ (s : Range). s.dst) part.2)))

  -- a key moves just where some segment holds it
  moves_is : (root : ℕ) (at : Option ℕ) → segment_of o.recon.segments root ≡ at → moves o root ≡ is_some at
  moves_is root None none = ap not (eq-eqb (source o root) (destination o root) (unfound_stays root none))
  moves_is root (Some g) found = ap not (ne_eqb (source o root) (destination o root) (found_moves o.recon recon_is o.old o.new is.moves root g found))

  pub moves_found : (root : ℕ) → moves o root ≡ is_some (segment_of o.recon.segments root)
  moves_found root = moves_is root (segment_of o.recon.segments root) refl

  -- a key of a node's extent lies in its segment, and its leaf under the node
  under_at : (root g n : ℕ) (segment : Range) → slice_get o.recon.segments g ≡ Some segment → is_within (extent_of o g n) root ≡ true → IsUnder o root g n
  under_at root g n segment there within =
      let stands = segment_stands o.recon recon_is g segment there in
      let covers = covers_within o g n root segment there within in
      let order : segment.lo ≤ segment.hi = omega (arith, stands.some) in
      let low = extent_low o.recon.width segment n order in
      let high = extent_high o.recon.width segment n in
      let held = has_key-within segment root (omega (arith, covers.low)) (omega (arith, covers.high)) in
      record {
        found = in_segment_found root g segment there held;
        segment = segment;
        there = there;
        above = above_from_covers o.recon.width segment is.some_width root held n covers;
      }

  under_of : (root g n : ℕ) (at : Option Range) → slice_get o.recon.segments g ≡ at → is_within (extent_of o g n) root ≡ true → IsUnder o root g n
  under_of root g n (Some segment) there within = under_at root g n segment there within
  under_of root g n None nowhere within =
      absurd (true≢false (sym within ∙ ap (λ found. is_within (extent_in o.recon.width found n) root) nowhere ∙ no_key root))
    where
      no_key : (root : ℕ) → (nat_le 0 root && nat_lt root 0) ≡ false
      no_key root = and_right (nat_le 0 root) (nat_lt root 0) (le-ltb root 0 (omega arith))

  pub under : (root g n : ℕ) → is_within (extent_of o g n) root ≡ true → IsUnder o root g n
  under root g n within = under_of root g n (slice_get o.recon.segments g) refl within

  -- and a node above the key's leaf has it in its extent
  pub above_within : (root g n : ℕ) (segment : Range) → IsIn o root g segment → is_above n (leaf_of o.recon.width segment root) ≡ true → is_within (extent_of o g n) root ≡ true
  above_within root g n segment at above =
      within_covers o g n root segment at.there (covers_from_above o.recon.width segment is.some_width root at.held n above)

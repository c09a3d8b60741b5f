-- Notes that tile the extents of their nodes.
use Rattle.std.proofs.Common.{◌≡◌, inl, inr, ℕ, ◌+◌, ◌-◌, ◌*◌, ◌≤◌, min, Bool, true, false, ◌==◌, ◌&&◌, ◌||◌, nat_le, nat_lt, if◌then◌else◌, List, [], ◌∷◌, slice_get, find, Contains, Option, Some, None, refl, sym, ap, ◌∙◌, subst, subst₂, true≢false, mul-le-mul_right, le_of_eq, arith}
use Rattle.std.specs.List.{list_any, range_with_len}
use Rattle.std.proofs.lemmas.Bool.{cases_Bool, cond_both, eqb-true}
use Rattle.std.proofs.lemmas.Bool.Decides.{nat_tests}
use Rattle.sq_moves.specs.Node.{first_leaf, span}
use Rattle.sq_store.specs.declared.chunk.Note.{Note}
use Rattle.sq_store.specs.ChunkValue.{covers}
use Rattle.sq_moves.specs.declared.recon.Range.{Range}
use Rattle.sq_moves.specs.CutEnd.{end_within, end_of}
use Rattle.sq_moves.specs.OpeningValue.{OpeningValue}
use Rattle.sq_moves.proofs.Bools.{both_equal, equal-both}
use Rattle.sq_model.specs.Trace.{Trace}
use Rattle.sq_model.specs.Tables.{stands, size_of}
use Rattle.sq_model.specs.Place.{extent_in, extent_of}
use Rattle.sq_model.specs.Links.{is_about, has_last, end_of_note, reached, standing, cut_end}
use Rattle.sq_model.specs.Orderly.{GoesOn, Tiles}
use Rattle.sq_model.proofs.Lists.{Contains-nothing, Contains-cases, Contains-first, Contains-later, kept_in, row_bounds}

-- the low end of a node's extent isn't past its high end
extent_rises_in : (width node : ℕ) (segment : Option Range) → (extent_in width segment node).lo ≤ (extent_in width segment node).hi
extent_rises_in width node None = omega arith
extent_rises_in width node (Some segment) =
    let more = mul-le-mul_right {m = first_leaf node} {n = first_leaf node + span node} width (omega arith) in
    rises segment.lo segment.hi (first_leaf node * width) ((first_leaf node + span node) * width) more
  where
    rises : (lo hi a b : ℕ) → a ≤ b → min hi (lo + a) ≤ min hi (lo + b)
    rises lo hi a b h = omega arith

pub extent_rises : (o : OpeningValue) (seg node : ℕ) → (extent_of o seg node).lo ≤ (extent_of o seg node).hi
extent_rises o seg node = extent_rises_in o.recon.width node (slice_get o.recon.segments seg)

-- a note is about a node where it names it
pub about_is : (seg node : ℕ) (note : Note) → is_about seg node note ≡ true → (note.seg ≡ seg) × (note.node ≡ node)
about_is seg node note about = both_equal note.seg seg note.node node about

pub is_about-from : (seg node : ℕ) (note : Note) → note.seg ≡ seg → note.node ≡ node → is_about seg node note ≡ true
is_about-from seg node note = equal-both note.seg seg note.node node

-- one more note continues to its end, and may be the last one, if it is about the node
pub node_at : (P : ℕ → Bool → Type 0) (o : OpeningValue) (seg node : ℕ) (note : Note) (ns : List Note) → (note.seg ≡ seg → note.node ≡ node → P note.hi (note.last || has_last seg node ns)) → P (reached o seg node ns) (has_last seg node ns) → P (reached o seg node (note ∷ ns)) (has_last seg node (note ∷ ns))
node_at P o seg node note ns here before =
    elim (cases_Bool (is_about seg node note)) [
      | inl about ↦ let is = about_is seg node note about in subst by_test (sym about) (here is.0 is.1)
      | inr other ↦ subst by_test (sym other) before
    ]
  where
    by_test : Bool → Type 0
    by_test b = P (end_of_note (extent_of o seg node).lo (if b then Some note else find (is_about seg node) ns)) ((b && note.last) || has_last seg node ns)

-- how far a node is covered lies within its extent
pub record IsWithin (o : OpeningValue) (seg node key : ℕ) : Type 0 where
  pub from : (extent_of o seg node).lo ≤ key
  pub upto : key ≤ (extent_of o seg node).hi

ends_within : (o : OpeningValue) (note : Note) (ns : List Note) → GoesOn o note ns → IsWithin o note.seg note.node (reached o note.seg note.node ns) → IsWithin o note.seg note.node note.hi
ends_within o note ns goes before =
    let low = before.from in
    let begins = goes.begins in
    let rises = goes.rises in
    record { from = omega arith; upto = goes.within }

pub reached_within : (o : OpeningValue) (ns : List Note) → Tiles o ns → (seg node : ℕ) → IsWithin o seg node (reached o seg node ns)
reached_within o [] tiles seg node = record { from = omega arith; upto = extent_rises o seg node }
reached_within o (note ∷ ns) tiles seg node =
    node_at (λ end _. IsWithin o seg node end) o seg node note ns
    (λ same there. subst₂ (λ g n. IsWithin o g n note.hi) same there (ends_within o note ns tiles.0 (reached_within o ns tiles.1 note.seg note.node)))
    (reached_within o ns tiles.1 seg node)

-- each note lies within the extent of its node, and is reached
pub record IsTile (o : OpeningValue) (ns : List Note) (note : Note) : Type 0 where
  pub from : (extent_of o note.seg note.node).lo ≤ note.lo
  pub rises : note.lo ≤ note.hi
  pub upto : note.hi ≤ (extent_of o note.seg note.node).hi
  pub behind : note.hi ≤ reached o note.seg note.node ns

first_tile : (o : OpeningValue) (note : Note) (ns : List Note) → GoesOn o note ns → Tiles o ns → IsTile o (note ∷ ns) note
first_tile o note ns goes tiles =
    let low = (reached_within o ns tiles note.seg note.node).from in
    let begins = goes.begins in
    record {
      from = omega arith;
      rises = goes.rises;
      upto = goes.within;
      behind = le_of_eq (sym (cond_note (is_about note.seg note.node note) (is_about-from note.seg note.node note refl refl)));
    }
  where
    cond_note : (b : Bool) → b ≡ true → end_of_note (extent_of o note.seg note.node).lo (if b then Some note else find (is_about note.seg note.node) ns) ≡ note.hi
    cond_note true e = refl
    cond_note false e = absurd (true≢false (sym e))

later_tile : (o : OpeningValue) (next : Note) (ns : List Note) (note : Note) → GoesOn o next ns → IsTile o ns note → IsTile o (next ∷ ns) note
later_tile o next ns note goes t = record {
  from = t.from;
  rises = t.rises;
  upto = t.upto;
  behind = node_at (λ end _. note.hi ≤ end) o note.seg note.node next ns
      (λ same there. after (subst₂ (λ g n. next.lo ≡ reached o g n ns) same there goes.begins) goes.rises t.behind)
      t.behind;
}
  where
    after : next.lo ≡ reached o note.seg note.node ns → next.lo ≤ next.hi → note.hi ≤ reached o note.seg note.node ns → note.hi ≤ next.hi
    after begins rises behind = omega arith

pub tile : (o : OpeningValue) (ns : List Note) → Tiles o ns → (note : Note) → Contains ns note → IsTile o ns note
tile o [] tiles note has = absurd (Contains-nothing note has)
tile o (next ∷ ns) tiles note has =
    elim (Contains-cases next ns note has) [
      | inl same ↦ subst (IsTile o (next ∷ ns)) same (first_tile o next ns tiles.0 tiles.1)
      | inr older ↦ later_tile o next ns note tiles.0 (tile o ns tiles.1 note older)
    ]

-- where a node has its last note among them, they reach its high end
pub last_reached : (o : OpeningValue) (ns : List Note) → Tiles o ns → (seg node : ℕ) → has_last seg node ns ≡ true → reached o seg node ns ≡ (extent_of o seg node).hi
last_reached o [] tiles seg node last = absurd (true≢false (sym last))
last_reached o (note ∷ ns) tiles seg node last =
    node_at (λ end has. has ≡ true → end ≡ (extent_of o seg node).hi) o seg node note ns
    (λ same there. ends (subst₂ (λ g n. note.last ≡ (note.hi == (extent_of o g n).hi)) same there tiles.0.last) (subst₂ (λ g n. has_last g n ns ≡ false) same there tiles.0.first_last))
    (last_reached o ns tiles.1 seg node)
    last
  where
    either_left : (a b : Bool) → b ≡ false → (a || b) ≡ true → a ≡ true
    either_left true b none either = refl
    either_left false b none either = absurd (true≢false (sym either ∙ none))

    ends : note.last ≡ (note.hi == (extent_of o seg node).hi) → has_last seg node ns ≡ false → (note.last || has_last seg node ns) ≡ true → note.hi ≡ (extent_of o seg node).hi
    ends last_is none either =
        eqb-true note.hi (extent_of o seg node).hi (sym last_is ∙ either_left note.last (has_last seg node ns) none either)

-- a node's notes cover its keys from the low end to where they reach
abbrev pub covers_of : ℕ → ℕ → ℕ → Note → Bool
covers_of seg node root note = is_about seg node note && covers note root

pub covered_is : (o : OpeningValue) (ns : List Note) → Tiles o ns → (seg node root : ℕ) → list_any (covers_of seg node root) ns ≡ (nat_le (extent_of o seg node).lo root && nat_lt root (reached o seg node ns))
covered_is o [] tiles seg node root = nothing (extent_of o seg node).lo root
  where
    nothing : (lo root : ℕ) → false ≡ (nat_le lo root && nat_lt root lo)
    nothing lo root = grind (arith, nat_tests)
covered_is o (note ∷ ns) tiles seg node root =
    let before = covered_is o ns tiles.1 seg node root in
    elim (cases_Bool (is_about seg node note)) [
      | inl about ↦
          let is = about_is seg node note about in
          let begins : note.lo ≡ reached o seg node ns = subst₂ (λ g n. note.lo ≡ reached o g n ns) is.0 is.1 tiles.0.begins in
          ap (λ b. (b && covers note root) || list_any (covers_of seg node root) ns) about
          ∙ ap (λ b. covers note root || b) before
          ∙ joined (extent_of o seg node).lo (reached o seg node ns) note.lo note.hi root begins tiles.0.rises (reached_within o ns tiles.1 seg node).from
          ∙ ap (λ b. nat_le (extent_of o seg node).lo root && nat_lt root (end_of_note (extent_of o seg node).lo (if b then Some note else find (is_about seg node) ns))) (sym about)
      | inr other ↦
          ap (λ b. (b && covers note root) || list_any (covers_of seg node root) ns) other
          ∙ before
          ∙ ap (λ b. nat_le (extent_of o seg node).lo root && nat_lt root (end_of_note (extent_of o seg node).lo (if b then Some note else find (is_about seg node) ns))) (sym other)
    ]
  where
    joined : (low upto lo hi root : ℕ) → lo ≡ upto → lo ≤ hi → low ≤ upto → ((nat_le lo root && nat_lt root hi) || (nat_le low root && nat_lt root upto)) ≡ (nat_le low root && nat_lt root hi)
    joined low upto lo hi root begins rises from = grind (arith, nat_tests)

-- where a chunk ends: at the high end, or at one of the root keys
end_within_in : (P : ℕ → Type 0) (size : ℕ → ℕ) (hi room : ℕ) (roots : List ℕ) → P hi → ((root : ℕ) → Contains roots root → P root) → P (end_within size hi room roots)
end_within_in P size hi room [] at_end each = at_end
end_within_in P size hi room (root ∷ roots) at_end each =
    cond_both (nat_le (size root) room) (end_within size hi (room - size root) roots) root P
    (λ fits. end_within_in P size hi (room - size root) roots at_end (λ other has. each other (Contains-later root roots other has)))
    (λ full. each root (Contains-first root roots))

pub end_of_in : (P : ℕ → Type 0) (size : ℕ → ℕ) (hi limit : ℕ) (roots : List ℕ) → P hi → ((root : ℕ) → Contains roots root → P root) → P (end_of size hi limit roots)
end_of_in P size hi limit [] at_end each = at_end
end_of_in P size hi limit (root ∷ roots) at_end each = end_within_in P size hi (limit - size root) roots at_end (λ other has. each other (Contains-later root roots other has))

pub cut_end_within : (o : OpeningValue) (t : Trace) (lo hi : ℕ) → lo ≤ hi → (lo ≤ cut_end o t lo hi) × (cut_end o t lo hi ≤ hi)
cut_end_within o t lo hi rises =
    end_of_in (λ end. (lo ≤ end) × (end ≤ hi)) (size_of o t) hi o.config.limit (standing o t lo hi) (rises, omega arith)
    (λ root has. let bounds = row_bounds lo (hi - lo) root (kept_in (stands o t) (range_with_len lo (hi - lo)) root has).0 in (bounds.0, omega arith))

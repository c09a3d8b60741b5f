-- The dump of a history.
use Rattle.std.proofs.Common.{◌≡◌, ℕ, zero, suc, ◌+◌, ◌<◌, List, [], ◌∷◌, ◌++◌, map, drop, slice_get, Option, Some, None, refl, sym, ap, ap₂, ◌∙◌, arith}
use Rattle.std.specs.Prelude.{reverse, is_some}
use Rattle.std.specs.List.{flat_map, range_with_len}
use Rattle.std.proofs.lemmas.List.{reverse-reverse}
use Rattle.sq_plan.specs.PlanValue.{PlanValue}
use Rattle.sq_moves.specs.OpeningValue.{OpeningValue}
use Rattle.sq_store.specs.declared.chunk.Note.{Note}
use Rattle.sq_store.specs.ChunkValue.{ChunkValue}
use Rattle.sq_store.specs.StoreValue.{StoreValue}
use Rattle.sq_store.specs.InOrder.{families_in}
use Rattle.sq_store.proofs.Keys.{same_store}
use Rattle.sq_text.specs.Texts.{end_line, at_line, way_lines}
use Rattle.sq_model.specs.Trace.{Trace, notes, link, load_count}
use Rattle.sq_transition.specs.WorldValue.{WorldValue, WholeLink, core_at, link_index, link_value, under_way}
use Rattle.sq_transition.specs.Holds.{Holds, LinkHolds, ChunkHolds}
use Rattle.sq_transition.proofs.Links.{index_found}
use Rattle.sq_transition.proofs.Alike.{chunk_is}
use Rattle.sq_world.specs.Dump.{dump, part_lines, link_lines, source_lines}

-- texts of numbers in a row are alike where those of each number are
each_alike : (f g : ℕ → List ℕ) (from count : ℕ) → ((k : ℕ) → k < from + count → f k ≡ g k)
    → flat_map f (range_with_len from count) ≡ flat_map g (range_with_len from count)
each_alike f g from zero same = refl
each_alike f g from (suc count) same =
    ap₂ (λ (one others : List ℕ). one ++ others) (same from (omega arith)) (each_alike f g (from + 1) count (λ k below. same k (omega (arith, below))))

abbrev note_of : ChunkValue → Note
note_of chunk = chunk.note

-- chunks of a history are those of their notes
chunks_alike : (o : OpeningValue) (t : Trace) (ones others : List ChunkValue) → map note_of ones ≡ map note_of others
    → ((i : ℕ) (chunk : ChunkValue) → slice_get ones i ≡ Some chunk → ChunkHolds o t chunk)
    → ((i : ℕ) (chunk : ChunkValue) → slice_get others i ≡ Some chunk → ChunkHolds o t chunk) → ones ≡ others
chunks_alike o t [] [] same holds also = refl
chunks_alike o t [] (other ∷ others) same holds also = absurd cc
chunks_alike o t (one ∷ ones) [] same holds also = absurd cc
chunks_alike o t (one ∷ ones) (other ∷ others) same holds also =
    let first : one.note ≡ other.note = cc in
    let rest : map note_of ones ≡ map note_of others = cc in
    let head = chunk_is o t one other (holds zero one refl) (also zero other refl) first in
    let tail = chunks_alike o t ones others rest (λ i chunk there. holds (suc i) chunk there) (λ i chunk there. also (suc i) chunk there) in
    λ k. head k ∷ tail k

-- the notes of the chunks under way from the one partition to the other, by the history
abbrev notes_under_way : Trace → ℕ → ℕ → List Note
notes_under_way t src dst = drop (load_count t src dst) (reverse (link src dst (notes t)))

notes_are : (o : OpeningValue) (t : Trace) (link_now : WholeLink) → LinkHolds o t link_now → map note_of (under_way link_now) ≡ notes_under_way t link_now.src link_now.dst
notes_are o t link_now holds =
    holds.way ∙ ap (drop (load_count t link_now.src link_now.dst)) (sym (reverse-reverse link_now.out.notes) ∙ ap reverse holds.notes)

-- so the chunks under way there are alike in all worlds that the history leads to
links_alike : (o : OpeningValue) (t : Trace) (one other : WorldValue) (src dst : ℕ) → Holds o t one → Holds o t other → (i j : Option ℕ) → link_index one src dst ≡ i → link_index other src dst ≡ j
    → is_some i ≡ is_some j → link_lines one i ≡ link_lines other j
links_alike o t one other src dst h k None None at also both = refl
links_alike o t one other src dst h k None (Some j) at also both = absurd cc
links_alike o t one other src dst h k (Some i) None at also both = absurd cc
links_alike o t one other src dst h k (Some i) (Some j) at also both =
    let from = index_found one src dst i at in
    let back = index_found other src dst j also in
    let a = h.links.each i from.within in
    let b = k.links.each j back.within in
    let here = notes_are o t (link_value one i) a ∙ (λ s. notes_under_way t (from.starts s) (from.ends s)) in
    let there = notes_are o t (link_value other j) b ∙ (λ s. notes_under_way t (back.starts s) (back.ends s)) in
    ap (flat_map way_lines) (chunks_alike o t (under_way (link_value one i)) (under_way (link_value other j)) (here ∙ sym there) a.chunks b.chunks)

-- the partitions of a world that a history leads to are those of the opening
parts_are : (o : OpeningValue) (t : Trace) (w : WorldValue) → Holds o t w → w.old.parts ≡ o.old.parts
parts_are o t w h = ap (λ (plan : PlanValue). plan.parts) h.plans.old

-- two worlds that a history leads to are dumped alike
pub dumped_alike : (o : OpeningValue) (t : Trace) (one other : WorldValue) → Holds o t one → Holds o t other → dump one ≡ dump other
dumped_alike o t one other h k =
    let count : one.old.parts ≡ o.old.parts = parts_are o t one h in
    let counts : one.old.parts ≡ other.old.parts = count ∙ sym (parts_are o t other k) in
    let parts : (part : ℕ) → part < 0 + one.old.parts → part_lines one part ≡ part_lines other part =
    λ part below.
    let within : part < o.old.parts = omega (arith, below, count) in
    let a = h.partitions.each part within in
    let b = k.partitions.each part within in
    ap (λ (store : StoreValue). flat_map (at_line part) (families_in store))
    (same_store (core_at one part).store (core_at other part).store (λ root. a.store root ∙ sym (b.store root))) in
    let links : (src dst : ℕ) → link_lines one (link_index one src dst) ≡ link_lines other (link_index other src dst) =
    λ src dst.
    links_alike o t one other src dst h k (link_index one src dst) (link_index other src dst) refl refl (h.links.ends src dst ∙ sym (k.links.ends src dst)) in
    let sources : (src : ℕ) → source_lines one src ≡ source_lines other src =
    λ src.
    each_alike (λ dst. link_lines one (link_index one src dst)) (λ dst. link_lines other (link_index other src dst)) 0 one.old.parts (λ dst below. links src dst)
    ∙ ap (λ n. flat_map (λ dst. link_lines other (link_index other src dst)) (range_with_len 0 n)) counts in
    let phases = ap end_line (h.leader.phase ∙ sym k.leader.phase) in
    let at = each_alike (part_lines one) (part_lines other) 0 one.old.parts parts ∙ ap (λ n. flat_map (part_lines other) (range_with_len 0 n)) counts in
    let way = each_alike (source_lines one) (source_lines other) 0 one.old.parts (λ src below. sources src) ∙ ap (λ n. flat_map (source_lines other) (range_with_len 0 n)) counts in
    λ s. phases s ++ (at s ++ way s)

-- Root keys in the extents of tree nodes.
use Rattle.std.proofs.Common.{◌≡◌, ℕ, true, nat_le, nat_lt, sym, ap, ◌∙◌, true≢false, arith}
use Rattle.std.specs.Prelude.{◌≢◌, not, is_some}
use Rattle.std.proofs.lemmas.Bool.{and_from, le-leb, lt-ltb, eq-eqb}
use Rattle.sq_store.specs.declared.chunk.Note.{Note}
use Rattle.sq_store.specs.ChunkValue.{covers}
use Rattle.sq_moves.specs.declared.recon.Range.{Range}
use Rattle.sq_moves.specs.OpeningValue.{OpeningValue}
use Rattle.sq_moves.specs.Opening.{IsOpening}
use Rattle.sq_model.specs.Place.{source, destination, moves, extent_of, is_within}
use Rattle.sq_model.proofs.Keys.{found_in_segment, moves_found, under}
use Rattle.sq_model.proofs.Apart.{covers_bounds}
use Rattle.sq_model.specs.Staged.{owner_in}
use Rattle.sq_node_model.specs.Stages.{is_on_link_in}
use Rattle.sq_node_model.specs.InHolds.{HasArrived}
use Rattle.sq_node_model.proofs.Staged.{on_link_goes, link_runs, running_source}

-- a note that lies in its node's extent covers keys of that alone
pub arrived_within : (o : OpeningValue) (i src dst : ℕ) (note : Note) (root : ℕ) → HasArrived o i src dst note → covers note root ≡ true → is_within (extent_of o note.seg note.node) root ≡ true
arrived_within o i src dst note root arrived covered =
    let bounds = covers_bounds note root covered in
    let keys = extent_of o note.seg note.node in
    let from = arrived.from in
    let upto = arrived.upto in
    and_from (nat_le keys.lo root) (nat_lt root keys.hi) (le-leb keys.lo root (omega arith)) (lt-ltb root keys.hi (omega arith))

-- the root key goes from the one partition to the other
pub record IsMovedFrom (o : OpeningValue) (i root src dst : ℕ) : Type 0 where
  pub source_is : owner_in o i root ≡ src
  pub destination_is : destination o root ≡ dst
  pub moves : src ≢ dst

module _ (o : OpeningValue) (is : IsOpening o) where
  -- a key gives its segment
  pub one_segment : (root g n h m : ℕ) → is_within (extent_of o g n) root ≡ true → is_within (extent_of o h m) root ≡ true → g ≡ h
  one_segment root g n h m one other = let e = sym (under o is root g n one).found ∙ (under o is root h m other).found in cc

  -- and the ends of its link
  pub moved_from : (i root g n src dst : ℕ) → is_within (extent_of o g n) root ≡ true → is_on_link_in o i src dst g ≡ true → IsMovedFrom o i root src dst
  moved_from i root g n src dst within linked =
      let below = under o is root g n within in
      let at = found_in_segment o is root g below.found in
      let goes = on_link_goes o i src dst g linked in
      let same : at.0 ≡ goes.segment = let e = sym at.1.there ∙ goes.there in cc in
      let from : source o root ≡ src = at.1.source_is ∙ ap (λ (s : Range). s.src) same ∙ goes.source in
      let to : destination o root ≡ dst = at.1.destination_is ∙ ap (λ (s : Range). s.dst) same ∙ goes.destination in
      let going : moves o root ≡ true = moves_found o is root ∙ ap is_some below.found in
      record {
        source_is = running_source o i root src dst from to (link_runs o i src dst g linked);
        destination_is = to;
        moves = λ e. true≢false (sym going ∙ ap not (eq-eqb (source o root) (destination o root) (from ∙ e ∙ sym to)));
      }

  -- a key that comes to a partition isn't its own
  pub not_owned : (i root g n src part : ℕ) → is_within (extent_of o g n) root ≡ true → is_on_link_in o i src part g ≡ true → owner_in o i root ≢ part
  not_owned i root g n src part within linked = let moved = moved_from i root g n src part within linked in λ e. moved.moves (sym moved.source_is ∙ e)

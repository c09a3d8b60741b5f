-- Each family of a reconfigured range is cut at most once and loaded at most once, in the order in
-- which its link numbered it, and nothing of a complete node moves.
use Rattle.std.specs.Prelude.{◌≡◌, ℕ, ◌≤◌, ◌==◌, true, false, List, [], ◌∷◌, ◌++◌, length, slice_get, Some}
use Rattle.sq_moves.specs.Status.{is_complete}
use Rattle.sq_store.specs.declared.chunk.Note.{Note}
use Rattle.sq_store.specs.ChunkValue.{covers}
use Rattle.sq_moves.specs.OpeningValue.{OpeningValue}
use Rattle.sq_model.specs.declared.step.Step.{Step}
use Rattle.sq_model.specs.declared.step.Step.TheVariants.{Cut, Load}
use Rattle.sq_model.specs.declared.answer.Answer.{Answer}
use Rattle.sq_model.specs.declared.answer.Answer.TheVariants.{WasCut, WasLoaded}
use Rattle.sq_model.specs.Trace.{Trace, notes, loads, link}
use Rattle.sq_model.specs.Nodes.{status_of}
use Rattle.sq_model.specs.Place.{extent_of}
use Rattle.sq_model.specs.Links.{reached, has_last}

-- the loads of a link are the beginning of its notes
abbrev pub IsPrefix : Trace → ℕ → ℕ → Type 0
IsPrefix t src dst = (way : List Note) × (way ++ link src dst (loads t) ≡ link src dst (notes t))

-- notes of one link, the newest first, are numbered from 0
abbrev pub AreNumbered : List Note → Type 0
AreNumbered [] = Unit {0}
AreNumbered (note ∷ notes) = (note.number ≡ length notes) × AreNumbered notes

-- the note continues where the earlier notes of its node end, is last exactly if it ends where the
-- node does, and no last one came before it
pub record GoesOn (o : OpeningValue) (note : Note) (notes : List Note) : Type 0 where
  pub begins : note.lo ≡ reached o note.seg note.node notes
  pub rises : note.lo ≤ note.hi
  pub within : note.hi ≤ (extent_of o note.seg note.node).hi
  pub last : note.last ≡ (note.hi == (extent_of o note.seg note.node).hi)
  pub first_last : has_last note.seg note.node notes ≡ false

-- the notes of each node tile its extent from the low end
abbrev pub Tiles : OpeningValue → List Note → Type 0
Tiles o [] = Unit {0}
Tiles o (note ∷ notes) = GoesOn o note notes × Tiles o notes

-- no root key is covered by notes of two nodes
abbrev pub AreDisjoint : List Note → Type 0
AreDisjoint notes =
    (i j : ℕ) (one other : Note) (root : ℕ) → slice_get notes i ≡ Some one → slice_get notes j ≡ Some other
    → covers one root ≡ true → covers other root ≡ true → (one.seg ≡ other.seg) × (one.node ≡ other.node)

-- no two places in the list have notes that cover the same root key
abbrev pub CoverOnce : List Note → Type 0
CoverOnce notes =
    (i j root : ℕ) (one other : Note) → slice_get notes i ≡ Some one → slice_get notes j ≡ Some other
    → covers one root ≡ true → covers other root ≡ true → i ≡ j

-- what a step moves is of a node that isn't complete
abbrev pub LeavesComplete : Trace → Step → Answer → Type 0
LeavesComplete t (Cut src dst) (WasCut note families) = is_complete (status_of t note.seg note.node) ≡ false
LeavesComplete t (Load src dst) (WasLoaded note families) = is_complete (status_of t note.seg note.node) ≡ false
LeavesComplete t _ _ = Unit {0}

abbrev pub AllLeaveComplete : Trace → Type 0
AllLeaveComplete [] = Unit {0}
AllLeaveComplete ((step, answer) ∷ trace) = LeavesComplete trace step answer × AllLeaveComplete trace

pub record IsOrderly (o : OpeningValue) (t : Trace) : Type 0 where
  pub cut_once : CoverOnce (notes t)
  pub loaded_once : CoverOnce (loads t)
  pub prefix : (src dst : ℕ) → IsPrefix t src dst
  pub numbered : (src dst : ℕ) → AreNumbered (link src dst (notes t))
  pub tiles : Tiles o (notes t)
  pub apart : AreDisjoint (notes t)
  pub complete : AllLeaveComplete t

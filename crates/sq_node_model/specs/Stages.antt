-- The links and segments of one stage of a move, and where its notes place a root key.
use Rattle.std.specs.Prelude.{ℕ, Bool, ◌==◌, ◌&&◌, Option}
use Rattle.sq_store.specs.declared.chunk.Note.{Note}
use Rattle.sq_moves.specs.ReconValue.{stage_on, is_link}
use Rattle.sq_moves.specs.OpeningValue.{OpeningValue}
use Rattle.sq_model.specs.Place.{Place, cut_place}
use Rattle.sq_model.specs.Links.{is_on_link}
use Rattle.sq_model.specs.Staged.{owner_in}

-- keys go from the one partition to the other in this stage
abbrev pub runs_in : OpeningValue → ℕ → ℕ → ℕ → Bool
runs_in o i src dst = stage_on o.recon src dst == i

-- the segment moves from the one partition to the other in this stage
abbrev pub is_on_link_in : OpeningValue → ℕ → ℕ → ℕ → ℕ → Bool
is_on_link_in o i src dst seg = is_on_link o src dst seg && runs_in o i src dst

-- some range goes from the one partition to the other in this stage
abbrev pub is_link_in : OpeningValue → ℕ → ℕ → ℕ → Bool
is_link_in o i src dst = is_link o.recon.ranges src dst && runs_in o i src dst

-- a key that no note of the stage covers is where it was as the stage began
abbrev pub cut_place_in : OpeningValue → ℕ → ℕ → Option Note → Place
cut_place_in o i root note = cut_place (owner_in o i root) note

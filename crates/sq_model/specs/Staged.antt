-- What the running stage alone determines: the steps since the last successful Next, and the owner
-- of a root key as the stage began.
use Rattle.std.specs.Prelude.{◌≡◌, ℕ, Bool, true, false, ◌&&◌, nat_lt, is_none, if◌then◌else◌, [], ◌∷◌, Option}
use Rattle.sq_moves.specs.ReconValue.{stage_on}
use Rattle.sq_moves.specs.OpeningValue.{OpeningValue}
use Rattle.sq_model.specs.declared.step.Step.{Step}
use Rattle.sq_model.specs.declared.step.Step.TheVariants.{Next}
use Rattle.sq_model.specs.declared.answer.Answer.{Answer}
use Rattle.sq_model.specs.declared.answer.Answer.TheVariants.{Done}
use Rattle.sq_model.specs.Trace.{Trace, by_steps, stage, notes, loads, link, push_count, pop_count}
use Rattle.sq_model.specs.Nodes.{status_of}
use Rattle.sq_model.specs.Place.{Place, source, destination, moves, place_from, place, runner_from, runner}
use Rattle.sq_model.specs.Links.{open_items}
use Rattle.sq_model.specs.Answers.{running, is_running_link}

abbrev pub anew : Step → Answer → Trace → Trace
anew Next Done steps = []
anew step answer steps = (step, answer) ∷ steps

-- the steps since the last successful Next
abbrev pub since : Trace → Trace
since = by_steps anew []

-- the root key moved in an earlier stage
abbrev pub has_moved : OpeningValue → ℕ → ℕ → Bool
has_moved o i root = moves o root && nat_lt (stage_on o.recon (source o root) (destination o root)) i

-- the owner of a root key as the stage began: the new owner if it had moved, otherwise the old one
abbrev pub owner_in : OpeningValue → ℕ → ℕ → ℕ
owner_in o i root = if has_moved o i root then destination o root else source o root

-- where the family of a root key is, by the running stage alone
abbrev pub place_in : OpeningValue → Trace → ℕ → Place
place_in o t root = place_from (owner_in o (stage t) root) (notes (since t)) (loads (since t)) root

-- which partition runs transactions on it, by the running stage alone
abbrev pub runner_in : OpeningValue → Trace → ℕ → Option ℕ
runner_in o t root = runner_from o (since t) (owner_in o (stage t) root) root

-- the running stage alone determines where each root key is and which partition runs it, and all
-- that the answers about its own segments and links depend on
pub record TellsAlone (o : OpeningValue) (t : Trace) : Type 0 where
  pub place : (root : ℕ) → place o t root ≡ place_in o t root
  pub runner : (root : ℕ) → runner o t root ≡ runner_in o t root
  pub statuses : (seg node : ℕ) → is_none (running o t seg) ≡ false → status_of t seg node ≡ status_of (since t) seg node
  pub cut : (src dst : ℕ) → is_running_link o t src dst ≡ true → link src dst (notes t) ≡ link src dst (notes (since t))
  pub loaded : (src dst : ℕ) → is_running_link o t src dst ≡ true → link src dst (loads t) ≡ link src dst (loads (since t))
  pub pushed : (src dst : ℕ) → is_running_link o t src dst ≡ true → push_count t src dst ≡ push_count (since t) src dst
  pub popped : (src dst : ℕ) → is_running_link o t src dst ≡ true → pop_count t src dst ≡ pop_count (since t) src dst
  pub unfinished : (src dst : ℕ) → is_running_link o t src dst ≡ true → open_items o t src dst ≡ open_items o (since t) src dst

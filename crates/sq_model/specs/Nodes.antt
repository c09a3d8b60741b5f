-- The statuses of the nodes, and which nodes their sources gave up.
use Rattle.std.specs.Prelude.{ℕ, ◌==◌, ◌&&◌, if◌then◌else◌, List, [], ◌∷◌, ◌++◌}
use Rattle.sq_moves.specs.declared.status.Status.{Status}
use Rattle.sq_moves.specs.declared.status.Status.TheVariants.{Free}
use Rattle.sq_moves.specs.declared.status.Status.TheVariants as status
use Rattle.sq_model.specs.declared.step.Step.{Step}
use Rattle.sq_model.specs.declared.step.Step.TheVariants.{Split, Claim, Begin, Complete}
use Rattle.sq_model.specs.declared.answer.Answer.{Answer}
use Rattle.sq_model.specs.declared.answer.Answer.TheVariants.{Done}
use Rattle.sq_model.specs.Trace.{Trace, by_steps}

-- the status of one node after another one's is set
abbrev pub set_if : ℕ → ℕ → Status → ℕ → ℕ → Status → Status
set_if seg node new g n before = if (seg == g) && (node == n) then new else before

abbrev pub sets_status : ℕ → ℕ → Step → Answer → Status → Status
sets_status g n (Split seg node) Done before = set_if seg node status.Split g n before
sets_status g n (Claim seg node pull) Done before = set_if seg node (status.Claimed pull) g n before
sets_status g n (Begin seg node pull) Done before = set_if seg node (status.Partial pull) g n before
sets_status g n (Complete seg node pull) Done before = set_if seg node (status.Complete pull) g n before
sets_status g n _ _ before = before

-- the status of a node of a segment: the last that was set, else free
abbrev pub status_of : Trace → ℕ → ℕ → Status
status_of t g n = by_steps (sets_status g n) Free t

-- a node that its source gave up, and the pull that it was given up for
pub record Item : Type 0 where
  pub seg : ℕ
  pub node : ℕ
  pub pull : ℕ

abbrev pub begins : Step → Answer → List Item → List Item
begins (Begin seg node pull) Done items = items ++ record { seg = seg; node = node; pull = pull } ∷ []
begins _ _ items = items

-- the nodes that were begun, in order
abbrev pub items : Trace → List Item
items = by_steps begins []

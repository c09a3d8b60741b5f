-- What an engine does next.
use Rattle.std.proofs.Common.{◌≡◌, Bool, false, sym, ◌∙◌, subst}
use Rattle.sq_node_model.specs.Gathered.{GatheredValue}
use Rattle.sq_node_model.specs.Next.{IsStageDone}
use Rattle.sq_engine.specs.declared.stages.Next.{Next}
use Rattle.sq_engine.specs.declared.stages.Next.TheVariants as next
use Rattle.sq_engine.specs.Values.{Between, EngineValue}
use Rattle.sq_engine.specs.Engine.{FollowsStage, BeginsNext}

-- an engine is between two epochs in one way
same_between : (g other : GatheredValue) (is_due also : Bool) → Between g is_due ≡ Between other also → (other ≡ g) × (also ≡ is_due)
same_between g other is_due also same = ((cc), (cc))

-- after a stage of which `g` was gathered
pub begins_after : (engine : EngineValue) (g : GatheredValue) (what : Next) → engine.at ≡ Between g false
    → FollowsStage engine.opening g what → BeginsNext engine what
begins_after engine g next.Nothing at follows = λ other there done.
    follows (subst (IsStageDone engine.opening) (same_between g other false false (sym at ∙ there)).0 done)
begins_after engine g next.Stage at follows = (g, at, follows)
begins_after engine g next.Rest at follows = record { gathered = g; at = at; done = follows.0; last = follows.1 }
begins_after engine g next.Move at follows = absurd follows

-- an engine that begins the next stage does so after the stage of which `g` was gathered
pub stage_begins : (engine : EngineValue) (g : GatheredValue) → engine.at ≡ Between g false → BeginsNext engine next.Stage
    → FollowsStage engine.opening g next.Stage
stage_begins engine g at begins =
    subst (λ (h : GatheredValue). FollowsStage engine.opening h next.Stage)
    (sym (same_between begins.0 g false false (sym begins.1 ∙ at)).0) begins.2

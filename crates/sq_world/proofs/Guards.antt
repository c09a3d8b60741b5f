-- Checks that come first in a step.
use Rattle.std.proofs.Common.{◌≡◌, ℕ, ◌<◌, Bool, true, false, length, Option, None, Some, Ok, refl, ◌∙◌, arith}
use Rattle.std.specs.Prelude.{if◌then◌else◌, not, nat_le, is_none, slice_get}
use Rattle.std.proofs.lemmas.Option.{slice_get_within}
use Rattle.sq_moves.specs.declared.recon.Range.{Range}
use Rattle.sq_moves.specs.ReconValue.{ReconValue, of_stage}
use Rattle.sq_moves.specs.Node.{is_node}
use Rattle.sq_model.specs.declared.answer.Refusal.{Refusal}
use Rattle.sq_model.specs.declared.answer.Refusal.TheVariants.{NoSuchSegment, NoSuchNode}
use Rattle.sq_transition.specs.WorldValue.{WorldValue, running_stage, running_range}
use Rattle.sq_transition.specs.LeaderResults.{StepResult, refuse}
use Rattle.sq_transition.specs.TreeResults.{if_segment, if_node}
use Rattle.sq_world.specs.Results.{unless, refuse_if}

-- a check that gave a value found nothing wrong, and gave the one that it has
pub nothing_wrong : {X : Type 0} (wrong : Bool) (refusal : Refusal) (x y : X) → Ok x ≡ unless wrong refusal y → wrong ≡ false
nothing_wrong true refusal x y is = cc
nothing_wrong false refusal x y is = refl

gives_its_own : {X : Type 0} (wrong : Bool) (refusal : Refusal) (x y : X) → Ok x ≡ unless wrong refusal y → x ≡ y
gives_its_own true refusal x y is = cc
gives_its_own false refusal x y is = cc

-- where it doesn't, the step continues
pub goes_on : (wrong : Bool) (refusal : Refusal) (w : WorldValue) (rest : StepResult) → wrong ≡ false → rest ≡ (if wrong then refuse w refusal else rest)
goes_on true refusal w rest right = cc
goes_on false refusal w rest right = refl

pub passed : (wrong : Bool) (refusal : Refusal) (w : WorldValue) (rest : StepResult) (done : Unit {0}) → Ok done ≡ refuse_if wrong refusal
    → rest ≡ (if wrong then refuse w refusal else rest)
passed wrong refusal w rest done is = goes_on wrong refusal w rest (nothing_wrong wrong refusal done tt is)

below : (n k : ℕ) → nat_le n k ≡ false → k < n
below n k above = grind (arith, above)

-- there is such a partition where no check refuses it
pub part_exists : (parts part : ℕ) (refusal : Refusal) (done : Unit {0}) → Ok done ≡ refuse_if (nat_le parts part) refusal → part < parts
part_exists parts part refusal done is = below parts part (nothing_wrong (nat_le parts part) refusal done tt is)

-- there is such a node of such a segment
pub record IsNamed (w : WorldValue) (number named seg node : ℕ) : Type 0 where
  pub segment : seg ≡ number
  pub which : node ≡ named
  pub exists : seg < length w.recon.segments
  pub goes : (rest : StepResult) → rest ≡ if_segment w number (if_node w named rest)

-- a segment that a stage has is one of all
pub in_all : (recon : ReconValue) (stage seg : ℕ) → is_none (of_stage recon stage (slice_get recon.segments seg)) ≡ false → seg < length recon.segments
in_all recon stage seg some = by_read (slice_get recon.segments seg) refl some
  where
    by_read : (read : Option Range) → slice_get recon.segments seg ≡ read → is_none (of_stage recon stage read) ≡ false → seg < length recon.segments
    by_read None is some = absurd cc
    by_read (Some range) is some = slice_get_within recon.segments seg range is

pub node_here : (w : WorldValue) (number named seg node : ℕ) → Ok seg ≡ unless (is_none (running_range w number)) NoSuchSegment number
    → Ok node ≡ unless (not (is_node named)) NoSuchNode named → IsNamed w number named seg node
node_here w number named seg node seg_is node_is =
    let other = is_none (running_range w number) in
    let segment : seg ≡ number = gives_its_own other NoSuchSegment seg number seg_is in
    let within : number < length w.recon.segments = in_all w.recon (running_stage w) number (nothing_wrong other NoSuchSegment seg number seg_is) in
    record {
      segment = segment;
      which = gives_its_own (not (is_node named)) NoSuchNode node named node_is;
      exists = omega (arith, segment, within);
      goes = λ (rest : StepResult).
          goes_on (not (is_node named)) NoSuchNode w rest (nothing_wrong (not (is_node named)) NoSuchNode node named node_is)
          ∙ goes_on other NoSuchSegment w (if_node w named rest) (nothing_wrong other NoSuchSegment seg number seg_is);
    }

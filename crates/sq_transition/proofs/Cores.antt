-- A world in which one partition changed.
use Rattle.std.proofs.Common.{◌≡◌, ℕ, List, refl, sym, ap, ◌∙◌, arith, length}
use Rattle.std.specs.Prelude.{◌<◌, ◌≢◌, ◌==◌, Bool, if◌then◌else◌, Option}
use Rattle.std.proofs.lemmas.List.{length-set}
use Rattle.sq_moves.specs.OpeningValue.{OpeningValue}
use Rattle.sq_store.specs.ChunkValue.{ChunkValue}
use Rattle.sq_exec.specs.declared.run.Run.{Run}
use Rattle.sq_exec.specs.OutLink.{OutLinkValue}
use Rattle.sq_exec.specs.CoreValue.{CoreValue, out_at, inbox_at}
use Rattle.sq_model.specs.Trace.{Trace, stage, loads}
use Rattle.sq_moves.specs.declared.node.TheConstants.{LEAVES}
use Rattle.sq_model.specs.Leader.{is_started}
use Rattle.sq_model.specs.Links.{has_last}
use Rattle.sq_model.specs.Waiting.{waiting}
use Rattle.sq_transition.specs.WorldValue.{WorldValue, no_core, core_at, with_core, queue_at, link_value}
use Rattle.sq_transition.specs.Holds.{share_at, is_leaf_begun, is_key_loaded, leaves_from, comes_into, IsSetFor, MovesHold, CoreHolds, PartitionsHold}
use Rattle.sq_transition.proofs.Sets.{by_place, get_or-set, each-set}

-- the partition that is at a number where one was set
pub core_after : (w : WorldValue) (part p : ℕ) (core : CoreValue) → part < length w.cores → core_at (with_core w part core) p ≡ (if part == p then core else core_at w p)
core_after w part p core there = get_or-set w.cores part p core no_core there

-- the partitions, where one of them is set, and of the others the history says what it said
pub core_set : (o : OpeningValue) (t after : Trace) (w : WorldValue) (part : ℕ) (core : CoreValue) → PartitionsHold o t w → part < o.old.parts
    → CoreHolds o after part core
    → ((p : ℕ) → part ≢ p → p < o.old.parts → CoreHolds o t p (core_at w p) → CoreHolds o after p (core_at w p))
    → PartitionsHold o after (with_core w part core)
core_set o t after w part core h below mine others =
    record {
      count = length-set w.cores part core ∙ h.count;
      each =
          each-set w.cores part core no_core (λ p value. p < o.old.parts → CoreHolds o after p value) (omega (arith, h.count))
          (λ _. mine) (λ p apart within. others p apart within (h.each p within));
    }

-- the end of a link at another partition than the one that was set doesn't change
pub link_stays : (w : WorldValue) (part : ℕ) (core : CoreValue) (j : ℕ) → part < length w.cores
    → ((queue_at w j).src ≡ part → out_at core (queue_at w j).dst ≡ out_at (core_at w part) (queue_at w j).dst)
    → ((queue_at w j).dst ≡ part → inbox_at core (queue_at w j).src ≡ inbox_at (core_at w part) (queue_at w j).src)
    → link_value (with_core w part core) j ≡ link_value w j
link_stays w part core j there out inbox =
    let q = queue_at w j in
    let same_out : out_at (core_at (with_core w part core) q.src) q.dst ≡ out_at (core_at w q.src) q.dst =
    ap (λ c. out_at c q.dst) (core_after w part q.src core there)
    ∙ by_place part q.src (λ b. out_at (if b then core else core_at w q.src) q.dst ≡ out_at (core_at w q.src) q.dst)
    (λ same. out (sym same) ∙ ap (λ p. out_at (core_at w p) q.dst) same)
    (λ _. refl) in
    let same_inbox : inbox_at (core_at (with_core w part core) q.dst) q.src ≡ inbox_at (core_at w q.dst) q.src =
    ap (λ c. inbox_at c q.src) (core_after w part q.dst core there)
    ∙ by_place part q.dst (λ b. inbox_at (if b then core else core_at w q.dst) q.src ≡ inbox_at (core_at w q.dst) q.src)
    (λ same. inbox (sym same) ∙ ap (λ p. inbox_at (core_at w p) q.src) same)
    (λ _. refl) in
    λ i. record { src = q.src; dst = q.dst; out = same_out i; queue = q.chunks; inbox = same_inbox i }

-- two histories say the same of what a partition gave up and what it loaded
abbrev pub SayTheSameMoves : OpeningValue → Trace → Trace → ℕ → Type 0
SayTheSameMoves o t after part =
    record {
      begun : (seg leaf : ℕ) → leaves_from o part seg → leaf < LEAVES → is_leaf_begun after seg leaf ≡ is_leaf_begun t seg leaf;
      loaded : (seg root : ℕ) → comes_into o part seg → is_key_loaded after seg root ≡ is_key_loaded t seg root;
      whole : (seg node : ℕ) → comes_into o part seg → has_last seg node (loads after) ≡ has_last seg node (loads t);
    }

-- which a history does with itself
pub same_moves : (o : OpeningValue) (t : Trace) (part : ℕ) → SayTheSameMoves o t t part
same_moves o t part = assumption

-- two histories say the same of a partition
abbrev pub SaySameOf : OpeningValue → Trace → Trace → ℕ → Type 0
SaySameOf o t after part =
    record {
      started : is_started after ≡ is_started t;
      stage : stage after ≡ stage t;
      shares : (root : ℕ) → share_at o after part root ≡ share_at o t part root;
      waits : waiting o after part ≡ waiting o t part;
      moves : SayTheSameMoves o t after part;
    }

-- a partition is set up after another history, at another stage, with other ends of links and other keys given up and loaded, where there are as many of them
pub set_again : (o : OpeningValue) (t after : Trace) (part : ℕ) (core : CoreValue) (started : Bool) (runs : ℕ) (outs : List OutLinkValue) (inboxes : List (Option ChunkValue)) (given_up : List (List Bool)) (loaded : List (List Run))
    → IsSetFor o t part core → started ≡ is_started after → runs ≡ stage after → length outs ≡ length core.outs → length inboxes ≡ length core.inboxes → length given_up ≡ length core.given_up → length loaded ≡ length core.loaded
    → IsSetFor o after part (record core { started = started; stage = runs; outs = outs; inboxes = inboxes; given_up = given_up; loaded = loaded })
set_again o t after part core started runs outs inboxes given_up loaded h start running out_count inbox_count given_up_count loaded_count =
    assumption (start, running, out_count ∙ h.outs, inbox_count ∙ h.inboxes, given_up_count ∙ h.given_up, loaded_count ∙ h.loaded)

-- what is set of a partition stays as it is where two histories say the same of the start
pub set_kept : (o : OpeningValue) (t after : Trace) (part : ℕ) (core : CoreValue) → IsSetFor o t part core → is_started after ≡ is_started t → stage after ≡ stage t → IsSetFor o after part core
set_kept o t after part core h same same_stage = set_again o t after part core core.started core.stage core.outs core.inboxes core.given_up core.loaded h (h.started ∙ sym same) (h.stage ∙ sym same_stage) refl refl refl refl

-- and so does what it gave up and loaded
pub moves_kept : (o : OpeningValue) (t after : Trace) (part : ℕ) (core : CoreValue) → MovesHold o t part core → SayTheSameMoves o t after part → MovesHold o after part core
moves_kept o t after part core h same = record {
  given_up = λ seg leaf from below. h.given_up seg leaf from below ∙ sym (same.begun seg leaf from below);
  loaded = λ seg root into. h.loaded seg root into ∙ sym (same.loaded seg root into);
  whole = λ seg node into. h.whole seg node into ∙ sym (same.whole seg node into);
}

-- a partition is the same where two histories say the same of it
pub core_kept : (o : OpeningValue) (t after : Trace) (part : ℕ) (core : CoreValue) → CoreHolds o t part core → SaySameOf o t after part → CoreHolds o after part core
core_kept o t after part core h same = record {
  set = set_kept o t after part core h.set same.started same.stage;
  store = λ root. h.store root ∙ sym (same.shares root);
  waiting = h.waiting ∙ sym same.waits;
  moves = moves_kept o t after part core h.moves same.moves;
}

-- all partitions, where two histories say the same of each
pub cores_kept : (o : OpeningValue) (t after : Trace) (w : WorldValue) → PartitionsHold o t w → ((part : ℕ) → part < o.old.parts → SaySameOf o t after part) → PartitionsHold o after w
cores_kept o t after w h same = record {
  count = h.count;
  each = λ part below. core_kept o t after part (core_at w part) (h.each part below) (same part below);
}

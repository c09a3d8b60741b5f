-- Which waiting transactions are due, by what they wait for.
use Rattle.std.proofs.Common.{⊎_elim, ◌≡◌, ◌≢◌, ℕ, ◌<◌, ◌≤◌, Bool, true, false, not, ◌||◌, List, [], ◌∷◌, length, map, get_or, set, Option, Some, None, refl, sym, ap, ◌∙◌}
use Rattle.std.specs.Prelude.{◌==◌, ◌&&◌, slice_get, option_map, option_and_then}
use Rattle.std.specs.Option.{option_map_or}
use Rattle.std.specs.List.{list_all}
use Rattle.std.proofs.lemmas.Bool.{cases_eq, cases_lt, cases_Bool, and_parts}
use Rattle.std.proofs.lemmas.List.{length-set, get_or-set_same, get_or-set_other, set_past}
use Rattle.std.proofs.lemmas.List.Folds.{list_all-map}
use Rattle.sq_moves.specs.declared.recon.Range.{Range}
use Rattle.sq_moves.specs.ReconValue.{ReconValue, leaf_at, stage_in}
use Rattle.sq_store.specs.declared.chunk.Note.{Note}
use Rattle.sq_store.specs.ChunkValue.{ChunkValue, covers}
use Rattle.sq_exec.specs.Index.{is_between}
use Rattle.sq_exec.specs.Waiting.{Arrival, WaitingValue, due_if, with_due}
use Rattle.sq_exec.specs.declared.run.Run.{Run}
use Rattle.sq_exec.specs.Runs.{is_loaded, runs_with}
use Rattle.sq_exec.specs.CoreValue.{CoreValue, PartCoreValue}
use Rattle.sq_exec.specs.Moving.{loaded_core}
use Rattle.sq_exec.specs.Location.{location_in, is_coming_here, is_coming_from}
use Rattle.sq_exec.specs.Kept.{is_due_here, IsCore}
use Rattle.sq_exec.proofs.Runs.{loaded-runs_with}
use Rattle.sq_exec.proofs.Kept.{still_core}

-- what passes one test passes another that follows from it
pub all_follow : {X Y : Type 0} (p : X → Bool) (q : Y → Bool) (f : X → Y) → ((x : X) → p x ≡ true → q (f x) ≡ true) → (xs : List X) → list_all p xs ≡ true → list_all (λ x. q (f x)) xs ≡ true
all_follow p q f follows [] all = refl
all_follow p q f follows (x ∷ xs) all =
    let parts = and_parts (p x) (list_all p xs) all in
    λ k. follows x parts.0 k && all_follow p q f follows xs parts.1 k

all_same : {X : Type 0} (p q : X → Bool) → ((x : X) → p x ≡ q x) → (xs : List X) → list_all p xs ≡ list_all q xs
all_same p q same [] = refl
all_same p q same (x ∷ xs) = λ k. same x k && all_same p q same xs k

-- whether a root key comes here: what it depends on
abbrev coming_in : ReconValue → ℕ → Bool → ℕ → List (List Run) → ℕ → ℕ → Range → Bool
coming_in recon stage started part loaded root i segment = started && ((stage_in recon segment == stage) && ((segment.dst == part) && not (is_loaded (get_or loaded i []) root)))

abbrev pub coming_by : ℕ → Bool → ℕ → ReconValue → List (List Run) → ℕ → Bool
coming_by stage started part recon loaded root = option_map_or (λ at. option_map_or (coming_in recon stage started part loaded root at.0) (slice_get recon.segments at.0) false) (leaf_at recon root) false

pub coming_is : (core : CoreValue) (root : ℕ) → is_coming_here core root ≡ coming_by core.stage core.started core.part core.recon core.loaded root
coming_is core root = by_leaf (leaf_at core.recon root)
  where
    by_segment : (at : ℕ × ℕ) (read : Option Range) → is_coming_from core (option_map (location_in core root at) read) ≡ option_map_or (coming_in core.recon core.stage core.started core.part core.loaded root at.0) read false
    by_segment at None = refl
    by_segment at (Some segment) = refl

    by_leaf : (read : Option (ℕ × ℕ)) → is_coming_from core (option_and_then (λ at. option_map (location_in core root at) (slice_get core.recon.segments at.0)) read)
        ≡ option_map_or (λ at. option_map_or (coming_in core.recon core.stage core.started core.part core.loaded root at.0) (slice_get core.recon.segments at.0) false) read false
    by_leaf None = refl
    by_leaf (Some at) = by_segment at (slice_get core.recon.segments at.0)

abbrev pub due_by : ℕ → Bool → ℕ → ReconValue → List (List Run) → Arrival → Bool
due_by stage started part recon loaded a = a.is_due || coming_by stage started part recon loaded (a.txn).root

pub all_due_by : (core : CoreValue) (arrivals : List Arrival) → list_all (is_due_here core) arrivals ≡ list_all (due_by core.stage core.started core.part core.recon core.loaded) arrivals
all_due_by core arrivals = all_same (is_due_here core) (due_by core.stage core.started core.part core.recon core.loaded) (λ a. ap (λ b. a.is_due || b) (coming_is core (a.txn).root)) arrivals

or_follows : (due a b : Bool) → (a ≡ true → b ≡ true) → (due || a) ≡ true → (due || b) ≡ true
or_follows true a b follows h = refl
or_follows false a b follows h = follows h

module _ (stage part : ℕ) (recon : ReconValue) where
  -- once the move has started no more are to be due
  pub started_due : (started : Bool) (loaded : List (List Run)) (arrivals : List Arrival) → list_all (due_by stage started part recon loaded) arrivals ≡ true → list_all (due_by stage true part recon loaded) arrivals ≡ true
  started_due started loaded arrivals all =
      all_follow (due_by stage started part recon loaded) (due_by stage true part recon loaded) (λ a. a)
      (λ a here. or_follows a.is_due (coming_by stage started part recon loaded (a.txn).root) (coming_by stage true part recon loaded (a.txn).root) (started_coming (a.txn).root (leaf_at recon (a.txn).root)) here) arrivals all
    where
      by_segment : (root i : ℕ) (read : Option Range) → option_map_or (coming_in recon stage started part loaded root i) read false ≡ true → option_map_or (coming_in recon stage true part loaded root i) read false ≡ true
      by_segment root i None h = h
      by_segment root i (Some segment) h = (and_parts started ((stage_in recon segment == stage) && ((segment.dst == part) && not (is_loaded (get_or loaded i []) root))) h).1

      started_coming : (root : ℕ) (read : Option (ℕ × ℕ)) → option_map_or (λ at. option_map_or (coming_in recon stage started part loaded root at.0) (slice_get recon.segments at.0) false) read false ≡ true
          → option_map_or (λ at. option_map_or (coming_in recon stage true part loaded root at.0) (slice_get recon.segments at.0) false) read false ≡ true
      started_coming root None h = h
      started_coming root (Some at) h = by_segment root at.0 (slice_get recon.segments at.0) h

  module _ (started : Bool) (loaded : List (List Run)) (note : Note) where
    abbrev more_loaded : List (List Run)
    more_loaded = set loaded note.seg (runs_with (get_or loaded note.seg []) note)

    or_none : (b : Bool) → (b || false) ≡ b
    or_none true = refl
    or_none false = refl

    -- what the chunk doesn't cover is loaded only if it was
    same_loaded : (root i : ℕ) → covers note root ≡ false → is_loaded (get_or more_loaded i []) root ≡ is_loaded (get_or loaded i []) root
    same_loaded root i outside =
        ⊎_elim
        (λ (here : i ≡ note.seg).
        ⊎_elim
        (λ (within : note.seg < length loaded).
        ap (λ n. is_loaded (get_or more_loaded n []) root) here ∙ ap (λ runs. is_loaded runs root) (get_or-set_same loaded note.seg (runs_with (get_or loaded note.seg []) note) [] within)
        ∙ loaded-runs_with (get_or loaded note.seg []) note root ∙ ap (λ b. is_loaded (get_or loaded note.seg []) root || b) outside ∙ or_none (is_loaded (get_or loaded note.seg []) root)
        ∙ ap (λ n. is_loaded (get_or loaded n []) root) (sym here))
        (λ (past : length loaded ≤ note.seg). ap (λ runs. is_loaded (get_or runs i []) root) (set_past loaded note.seg (runs_with (get_or loaded note.seg []) note) past))
        (cases_lt note.seg (length loaded)))
        (λ (apart : i ≢ note.seg). ap (λ runs. is_loaded runs root) (get_or-set_other loaded note.seg i (runs_with (get_or loaded note.seg []) note) [] apart))
        (cases_eq i note.seg)

    same_coming : (root : ℕ) → covers note root ≡ false → coming_by stage started part recon more_loaded root ≡ coming_by stage started part recon loaded root
    same_coming root outside = by_leaf (leaf_at recon root)
      where
        by_segment : (i : ℕ) (read : Option Range) → option_map_or (coming_in recon stage started part more_loaded root i) read false ≡ option_map_or (coming_in recon stage started part loaded root i) read false
        by_segment i None = refl
        by_segment i (Some segment) = ap (λ b. started && ((stage_in recon segment == stage) && ((segment.dst == part) && not b))) (same_loaded root i outside)

        by_leaf : (read : Option (ℕ × ℕ)) → option_map_or (λ at. option_map_or (coming_in recon stage started part more_loaded root at.0) (slice_get recon.segments at.0) false) read false
            ≡ option_map_or (λ at. option_map_or (coming_in recon stage started part loaded root at.0) (slice_get recon.segments at.0) false) read false
        by_leaf None = refl
        by_leaf (Some at) = by_segment at.0 (slice_get recon.segments at.0)

    abbrev covered : Arrival → Bool
    covered a = is_between note.lo note.hi (a.txn).root

    -- what a chunk covers is due once it is loaded
    loaded_due : (a : Arrival) → due_by stage started part recon loaded a ≡ true → due_by stage started part recon more_loaded (due_if covered a) ≡ true
    loaded_due a here =
        ⊎_elim
        (λ (inside : covered a ≡ true). ap (λ b. (a.is_due || b) || coming_by stage started part recon more_loaded (a.txn).root) inside ∙ whole a.is_due (coming_by stage started part recon more_loaded (a.txn).root))
        (λ (outside : covered a ≡ false).
        (λ k. (a.is_due || outside k) || same_coming (a.txn).root outside k) ∙ ap (λ b. b || coming_by stage started part recon loaded (a.txn).root) (or_none a.is_due) ∙ here)
        (cases_Bool (covered a))
      where
        whole : (x y : Bool) → ((x || true) || y) ≡ true
        whole true y = refl
        whole false y = refl

    pub all_loaded_due : (arrivals : List Arrival) → list_all (due_by stage started part recon loaded) arrivals ≡ true → list_all (λ a. due_by stage started part recon more_loaded (due_if covered a)) arrivals ≡ true
    all_loaded_due arrivals all = all_follow (due_by stage started part recon loaded) (due_by stage started part recon more_loaded) (due_if covered) loaded_due arrivals all

  pub all_more_due : (started : Bool) (loaded : List (List Run)) (passes : Arrival → Bool) (arrivals : List Arrival) → list_all (due_by stage started part recon loaded) arrivals ≡ true
      → list_all (λ a. due_by stage started part recon loaded (due_if passes a)) arrivals ≡ true
  all_more_due started loaded passes arrivals all = all_follow (due_by stage started part recon loaded) (due_by stage started part recon loaded) (due_if passes) (λ a here. more a.is_due (passes a) (coming_by stage started part recon loaded (a.txn).root) here) arrivals all
    where
      more : (x y z : Bool) → (x || z) ≡ true → ((x || y) || z) ≡ true
      more true y z h = refl
      more false true z h = refl
      more false false z h = h

-- the partition keeps what holds of it once the move has started
pub started_kept : {seen now : PartCoreValue} → seen ≡ now → (arrivals : List Arrival) → IsCore seen.core arrivals → IsCore (record seen.core { started = true }) arrivals
started_kept {seen} view_is arrivals is =
    let core = seen.core in
    still_core is true core.store core.waiting arrivals is.moving
    (all_due_by (record core { started = true }) arrivals ∙ started_due core.stage core.part core.recon core.started core.loaded arrivals (sym (all_due_by core arrivals) ∙ is.due))

-- some of those that pass are due too, and all else is as it was
pub record IsMoreDue (passes : Arrival → Bool) (old new : WaitingValue) : Type 0 where
  pub some : Arrival → Bool
  pub more : new ≡ with_due (λ a. passes a && some a) old

-- when more are due
pub more_kept : {passes : Arrival → Bool} (core : CoreValue) (old new : WaitingValue) → IsMoreDue passes old new → IsCore core old.arrivals → IsCore core new.arrivals
more_kept {passes} core old new more is =
    let due : Arrival → Bool = λ a. passes a && more.some a in
    still_core is core.started core.store core.waiting new.arrivals is.moving
    (ap (λ (w : WaitingValue). list_all (is_due_here core) w.arrivals) more.more ∙ all_due_by core (map (due_if due) old.arrivals)
    ∙ list_all-map (due_by core.stage core.started core.part core.recon core.loaded) (due_if due) old.arrivals
    ∙ all_more_due core.stage core.part core.recon core.started core.loaded due old.arrivals (sym (all_due_by core old.arrivals) ∙ is.due))

-- and when a chunk is loaded, whose root keys' transactions are due
pub loaded_kept : (core : CoreValue) (src : ℕ) (chunk : ChunkValue) (arrivals : List Arrival) → IsCore core arrivals → IsCore (loaded_core core src chunk) (map (due_if (λ a. is_between chunk.note.lo chunk.note.hi (a.txn).root)) arrivals)
loaded_kept core src chunk arrivals is =
    let covered : Arrival → Bool = λ a. is_between chunk.note.lo chunk.note.hi (a.txn).root in
    let more : List (List Run) = set core.loaded chunk.note.seg (runs_with (get_or core.loaded chunk.note.seg []) chunk.note) in
    record {
      outs = is.outs;
      inboxes = length-set core.inboxes src None ∙ is.inboxes;
      given_up = is.given_up;
      loaded = length-set core.loaded chunk.note.seg (runs_with (get_or core.loaded chunk.note.seg []) chunk.note) ∙ is.loaded;
      ends = is.ends;
      moving = is.moving;
      due =
          all_due_by (loaded_core core src chunk) (map (due_if covered) arrivals) ∙ list_all-map (due_by core.stage core.started core.part core.recon more) (due_if covered) arrivals
          ∙ all_loaded_due core.stage core.part core.recon core.started core.loaded chunk.note arrivals (sym (all_due_by core arrivals) ∙ is.due);
    }

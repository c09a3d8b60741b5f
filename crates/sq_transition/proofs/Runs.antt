-- A transaction that runs at the partition that has its family keeps what holds.
use Rattle.std.proofs.Common.{subst, ⊎_elim, ◌≡◌, ℕ, Bool, true, false, List, [], ◌∷◌, ◌++◌, refl, sym, ap, ◌∙◌, arith, length, length-append, append-nil, eq-eqb}
use Rattle.std.specs.Prelude.{◌<◌, ◌≢◌, ◌==◌, ◌&&◌, ◌||◌, if◌then◌else◌, not, nat_le, Option, Some, None, slice_get}
use Rattle.std.specs.Cmp.{unsigned_tied, nat_cmp_total}
use Rattle.std.specs.FinMap.{get, get-insert}
use Rattle.std.proofs.Math.Bool.{or-true}
use Rattle.std.proofs.lemmas.Bool.{ne_eqb, cases_eq}
use Rattle.std.proofs.lemmas.List.Elements.{filter-append}
use Rattle.sq_schema.specs.TxnValue.{TxnValue}
use Rattle.sq_schema.specs.declared.txn.Reply.{Reply}
use Rattle.sq_schema.specs.declared.txn.Reply.TheVariants.{Committed, Aborted}
use Rattle.sq_schema.specs.Effect.{RowList, RowTable, reply, only}
use Rattle.sq_schema.specs.Family.{FamilyValue, rows_of, family_stands, logged}
use Rattle.sq_store.specs.ChunkValue.{ChunkValue, covers}
use Rattle.sq_store.specs.StoreValue.{family_at, store_reply, store_after}
use Rattle.sq_moves.specs.OpeningValue.{OpeningValue}
use Rattle.sq_exec.specs.CoreValue.{CoreValue}
use Rattle.sq_exec.specs.Serving.{is_log_full}
use Rattle.sq_model.specs.Trace.{Trace, stage, unfolded}
use Rattle.sq_model.specs.Leader.{phase, is_started_phase, is_prepared, is_reported}
use Rattle.sq_model.specs.Nodes.{status_of}
use Rattle.sq_model.specs.Tables.{now, base_of, is_full}
use Rattle.sq_model.specs.Place.{At, place, destination, runner, is_coming}
use Rattle.sq_model.specs.Waiting.{waiting}
use Rattle.sq_model.proofs.Waiters.{is_on}
use Rattle.sq_model.proofs.Tables.{rows_now}
use Rattle.sq_transition.specs.WorldValue.{WorldValue, WholeLink, core_at, with_core, link_value, under_way}
use Rattle.sq_transition.specs.Holds.{LeaderHolds, SegmentsHold, LinkHolds, ChunkHolds, CoreHolds, share, share_at, is_at}
use Rattle.sq_transition.proofs.Sets.{by_place}
use Rattle.sq_transition.proofs.Changed.{PartsHold}
use Rattle.sq_transition.proofs.Cores.{core_set, link_stays, SayTheSameMoves, set_kept, moves_kept, core_kept}
use Rattle.sq_transition.proofs.Links.{SaySame, same_ends, links_same}
use Rattle.sq_transition.proofs.Parts.{share_none, family_same}
use Rattle.sq_transition.proofs.Locations.{RoutingFacts}

-- no chunk under way covers a root key that is at a partition
abbrev pub IsAway : OpeningValue → Trace → ℕ → ChunkValue → Type 0
IsAway o t root chunk = covers chunk.note root ≡ false

-- what running rests on: a root key that a partition runs is there, and no chunk under way covers it; and a partition runs a root key that a transaction waits for at it, once the key isn't on its way any more
pub record RunningFacts (o : OpeningValue) (t : Trace) : Type 0 where
  pub routing : RoutingFacts o t
  pub placed : (root part : ℕ) → runner o t root ≡ Some part → place o t root ≡ At part
  pub away : (root part : ℕ) → runner o t root ≡ Some part → (l : WholeLink) → LinkHolds o t l → (i : ℕ) (chunk : ChunkValue) → slice_get (under_way l) i ≡ Some chunk → IsAway o t root chunk
  pub resumes : (part root : ℕ) → is_on root (waiting o t part) ≡ true → is_coming o t part root ≡ false → runner o t root ≡ Some part

-- the committed transactions after one with this reply
abbrev pub committed_with : Reply → TxnValue → List TxnValue → List TxnValue
committed_with (Committed answers) txn txns = txns ++ txn ∷ []
committed_with (Aborted at cause) txn txns = txns

-- the share of a part of the table where logs start from these rows, and these transactions committed since
abbrev share_by : OpeningValue → RowTable → (ℕ → List TxnValue) → (ℕ → Bool) → ℕ → Option FamilyValue
share_by o bases txns here root =
    let family : FamilyValue = record { root = root; base = bases root; log = only root (txns (destination o root)) } in
    if family_stands family && here root then Some family else None

-- a history in which a transaction ran at a partition, with this reply, and which for the rest says the same, but of those that wait at the partition
pub record SaysRan (o : OpeningValue) (t after : Trace) (part : ℕ) (txn : TxnValue) (given : Reply) : Type 0 where
  pub bases : (root : ℕ) → base_of o after root ≡ base_of o t root
  pub commits : (p : ℕ) → unfolded after p ≡ committed_with given txn (unfolded t p)
  pub waits : (p : ℕ) → part ≢ p → waiting o after p ≡ waiting o t p
  pub place : (key : ℕ) → place o after key ≡ place o t key
  pub moves : (p : ℕ) → SayTheSameMoves o t after p
  pub links : (src dst : ℕ) → SaySame o t after src dst
  pub phase : phase after ≡ phase t
  pub stage : stage after ≡ stage t
  pub prepared : (p : ℕ) → is_prepared after p ≡ is_prepared t p
  pub reported : (p : ℕ) → is_reported after p ≡ is_reported t p
  pub statuses : (seg node : ℕ) → status_of after seg node ≡ status_of t seg node

only_here : (txn : TxnValue) (xs : List TxnValue) → only txn.root (xs ++ txn ∷ []) ≡ only txn.root xs ++ txn ∷ []
only_here txn xs = filter-append (λ x. x.root == txn.root) xs (txn ∷ []) ∙ ap (λ b. only txn.root xs ++ (if b then txn ∷ [] else [])) (eq-eqb txn.root txn.root refl)

only_other : (root : ℕ) (txn : TxnValue) (xs : List TxnValue) → txn.root ≢ root → only root (xs ++ txn ∷ []) ≡ only root xs
only_other root txn xs apart = filter-append (λ x. x.root == root) xs (txn ∷ []) ∙ ap (λ b. only root xs ++ (if b then txn ∷ [] else [])) (ne_eqb txn.root root apart) ∙ append-nil (only root xs)

-- each root key but the transaction's is as it was
share_other : (o : OpeningValue) (bases : RowTable) (txns : ℕ → List TxnValue) (txn : TxnValue) (given : Reply) (here : ℕ → Bool) (root : ℕ) → txn.root ≢ root
    → share_by o bases (λ p. committed_with given txn (txns p)) here root ≡ share_by o bases txns here root
share_other o bases txns txn (Aborted at cause) here root apart = refl
share_other o bases txns txn (Committed answers) here root apart =
    let same = only_other root txn (txns (destination o root)) apart in
    let family : ℕ → List TxnValue → FamilyValue = λ key log. record { root = key; base = bases key; log = log } in
    λ i. if family_stands (family root (same i)) && here root then Some (family root (same i)) else None

-- a log with a transaction at its end isn't empty
some_log : (base : RowList) (log : List TxnValue) (txn : TxnValue) (root : ℕ) → family_stands (record { root = root; base = base; log = log ++ txn ∷ [] }) ≡ true
some_log base log txn root =
    ap (λ b. not (length base == 0) || not b) (ne_eqb (length (log ++ txn ∷ [])) 0 (λ e. absurd (omega (arith, length-append log (txn ∷ []), e)))) ∙ or-true (not (length base == 0))

-- the transaction's is the family that it had, with the transaction at the end of the log
share_here : (o : OpeningValue) (bases : RowTable) (txns : ℕ → List TxnValue) (txn : TxnValue) (here : ℕ → Bool) → here txn.root ≡ true
    → share_by o bases (λ p. txns p ++ txn ∷ []) here txn.root ≡ Some (record { root = txn.root; base = bases txn.root; log = only txn.root (txns (destination o txn.root)) ++ txn ∷ [] })
share_here o bases txns txn here at_home =
    let log = only_here txn (txns (destination o txn.root)) in
    let family : List TxnValue → FamilyValue = λ log. record { root = txn.root; base = bases txn.root; log = log } in
    (λ i. if family_stands (family (log i)) && at_home i then Some (family (log i)) else None)
    ∙ ap (λ b. if b && true then Some (family (only txn.root (txns (destination o txn.root)) ++ txn ∷ [])) else None) (some_log (bases txn.root) (only txn.root (txns (destination o txn.root))) txn txn.root)

module _ (o : OpeningValue) (t after : Trace) (part : ℕ) (txn : TxnValue) (given : Reply) (says : SaysRan o t after part txn given) where
  -- what the history says of a share
  share_after : (here : ℕ → Bool) (root : ℕ) → share o after here root ≡ share_by o (base_of o t) (λ p. committed_with given txn (unfolded t p)) here root
  share_after here root = λ i. share_by o (λ r. says.bases r i) (λ p. says.commits p i) here root

  -- a part of the table that the transaction's root key isn't in stays
  share_apart : (here : ℕ → Bool) (root : ℕ) → here txn.root ≡ false → share o after here root ≡ share o t here root
  share_apart here root away = ⊎_elim
      (λ (same : root ≡ txn.root).
      let off : here root ≡ false = ap here same ∙ away in
      share_none o after here root off ∙ sym (share_none o t here root off))
      (λ (far : root ≢ txn.root). share_after here root ∙ share_other o (base_of o t) (unfolded t) txn given here root (λ e. far (sym e)))
      (cases_eq root txn.root)

  -- the share of a partition is by the places that the keys had
  share_at_after : (p root : ℕ) → share_at o after p root ≡ share o after (λ key. is_at p (place o t key)) root
  share_at_after p root = λ i. share o after (λ key. is_at p (says.place key i)) root

  -- the partitions at which it didn't run
  others_keep : (p : ℕ) (core : CoreValue) → place o t txn.root ≡ At part → part ≢ p → CoreHolds o t p core → CoreHolds o after p core
  others_keep p core placed apart h =
      core_kept o t after p core h (record {
        started = ap is_started_phase says.phase;
        stage = says.stage;
        shares = λ root. share_at_after p root ∙ share_apart (λ key. is_at p (place o t key)) root (ap (is_at p) placed ∙ ne_eqb part p apart);
        waits = says.waits p apart;
        moves = says.moves p;
      })

  leader_keeps : (w : WorldValue) → LeaderHolds o t w → LeaderHolds o after w
  leader_keeps w h = record {
    parts = h.parts;
    moves = h.moves;
    phase = h.phase ∙ sym says.phase;
    stage = h.stage ∙ sym says.stage;
    prepared = λ p below. h.prepared p below ∙ sym (says.prepared p);
    reported = λ p below. h.reported p below ∙ sym (says.reported p);
  }

  segments_keep : (w : WorldValue) → SegmentsHold o t w → SegmentsHold o after w
  segments_keep w h = record { count = h.count; statuses = λ seg node below. h.statuses seg node below ∙ sym (says.statuses seg node) }

  -- a chunk that doesn't have the root key's family
  chunk_keeps : (chunk : ChunkValue) → IsAway o t txn.root chunk → ChunkHolds o t chunk → ChunkHolds o after chunk
  chunk_keeps chunk away h = record { families = λ root. h.families root ∙ sym (share_apart (covers chunk.note) root away); rising = h.rising }

-- the store after a transaction that ran at its partition
ran_store : (o : OpeningValue) (t : Trace) (w : WorldValue) (part : ℕ) (txn : TxnValue) (given : Reply) (root : ℕ) → PartsHold o t w → part < o.old.parts → place o t txn.root ≡ At part
    → get (store_after (core_at w part).store txn given) root ≡ share_by o (base_of o t) (λ p. committed_with given txn (unfolded t p)) (λ key. is_at part (place o t key)) root
ran_store o t w part txn (Aborted at cause) root h there placed = (h.partitions.each part there).store root
ran_store o t w part txn (Committed answers) root h there placed =
    let store = (core_at w part).store in
    let new = logged (family_at store txn.root) txn in
    let here : ℕ → Bool = λ key. is_at part (place o t key) in
    get-insert nat_cmp_total store txn.root new root
    ∙ ap (λ b. if b then Some new else get store root) (unsigned_tied root txn.root)
    ∙ by_place root txn.root (λ b. (if b then Some new else get store root) ≡ share_by o (base_of o t) (λ p. unfolded t p ++ txn ∷ []) here root)
    (λ same.
    subst (λ r. Some new ≡ share_by o (base_of o t) (λ p. unfolded t p ++ txn ∷ []) here r) (sym same)
    (ap (λ f. Some (logged f txn)) (family_same o t w part txn.root h there placed)
    ∙ sym (share_here o (base_of o t) (unfolded t) txn here (ap (is_at part) placed ∙ eq-eqb part part refl))))
    (λ apart. (h.partitions.each part there).store root ∙ sym (share_other o (base_of o t) (unfolded t) txn (Committed answers) here root (λ e. apart (sym e))))

-- a partition after a transaction ran at it, and these wait
abbrev pub ran_core : CoreValue → TxnValue → Reply → List TxnValue → CoreValue
ran_core core txn given waits = record core { store = store_after core.store txn given; waiting = waits }

-- the world after a transaction ran: a chunk under way has no family of its root key, so it stays what it is
pub ran_holds : (o : OpeningValue) (t after : Trace) (w : WorldValue) (part : ℕ) (txn : TxnValue) (given : Reply) (waits : List TxnValue) → SaysRan o t after part txn given → PartsHold o t w → part < o.old.parts → place o t txn.root ≡ At part
    → ((l : WholeLink) → LinkHolds o t l → (i : ℕ) (chunk : ChunkValue) → slice_get (under_way l) i ≡ Some chunk → IsAway o t txn.root chunk)
    → waits ≡ waiting o after part
    → PartsHold o after (with_core w part (ran_core (core_at w part) txn given waits))
ran_holds o t after w part txn given waits says h there placed away waits_are =
    let core = ran_core (core_at w part) txn given waits in
    let was = h.partitions.each part there in
    let within : part < length w.cores = omega (arith, h.partitions.count, there) in
    record {
      plans = h.plans;
      leader = leader_keeps o t after part txn given says w h.leader;
      partitions = core_set o t after w part core h.partitions there
          (record {
            set = set_kept o t after part core was.set (ap is_started_phase says.phase) says.stage;
            store = λ root.
                ran_store o t w part txn given root h there placed
                ∙ sym (share_at_after o t after part txn given says part root ∙ share_after o t after part txn given says (λ key. is_at part (place o t key)) root);
            waiting = waits_are;
            moves = moves_kept o t after part core was.moves (says.moves part);
          })
          (λ p apart _. others_keep o t after part txn given says p (core_at w p) placed apart);
      segments = segments_keep o t after part txn given says w h.segments;
      links = links_same o t after w (with_core w part core) h.links (same_ends w (with_core w part core) refl)
          (λ j _. link_stays w part core j within (λ _. refl) (λ _. refl))
          says.links
          (λ j below i chunk at. chunk_keeps o t after part txn given says chunk (away (link_value w j) (h.links.each j below) i chunk at));
    }

-- what a transaction is answered at its partition is what it is answered on the whole table
pub reply_same : (o : OpeningValue) (t : Trace) (w : WorldValue) (part : ℕ) (txn : TxnValue) → PartsHold o t w → part < o.old.parts → place o t txn.root ≡ At part
    → store_reply (core_at w part).store txn ≡ reply (now o t txn.root) txn
reply_same o t w part txn h there placed = ap (λ f. reply (rows_of f) txn) (family_same o t w part txn.root h there placed) ∙ ap (λ rows. reply rows txn) (rows_now o t txn.root)

-- the log of its family is as full as the history says
pub full_same : (o : OpeningValue) (t : Trace) (w : WorldValue) (part : ℕ) (txn : TxnValue) → PartsHold o t w → part < o.old.parts → place o t txn.root ≡ At part
    → is_log_full (core_at w part).log_limit (core_at w part).store txn.root ≡ is_full o t txn.root
full_same o t w part txn h there placed = λ i. nat_le ((h.partitions.each part there).set.log_limit i) (length ((family_same o t w part txn.root h there placed i).log))

-- The state that a world opens in.
use Rattle.std.proofs.Common.{subst, ⊎_elim, ◌≡◌, ℕ, false, refl, sym, ap, ◌∙◌, arith, length, get_or, map, replicate}
use Rattle.std.specs.Prelude.{◌∷◌, ◌<◌, ◌≤◌, ◌==◌, ◌&&◌, if◌then◌else◌, not, [], slice_get, Option, Some, None}
use Rattle.std.specs.List.{range_with_len}
use Rattle.std.proofs.Math.Bool.{or-false}
use Rattle.std.proofs.lemmas.Bool.{cases_lt}
use Rattle.std.proofs.lemmas.List.{get_or-map, get_or-replicate, get_or_past, length-map, length-replicate}
use Rattle.std.proofs.lemmas.List.FromFn.{get_or-map-range_with_len, length-map-range_with_len}
use Rattle.std.proofs.lemmas.List.Sums.{list_all-from_AllPass}
use Rattle.std.specs.Prelude.{nat_lt, List}
use Rattle.sq_schema.specs.Effect.{RowList}
use Rattle.sq_schema.specs.Table.{is_opening}
use Rattle.sq_schema.specs.declared.root.TheConstants.{ROOT_END}
use Rattle.sq_moves.specs.declared.node.TheConstants.{LEAVES}
use Rattle.sq_moves.specs.declared.recon.Link.{Link}
use Rattle.sq_moves.specs.ReconValue.{AreLinks}
use Rattle.sq_moves.specs.OpeningValue.{OpeningValue}
use Rattle.sq_moves.specs.SetUp.{IsSetUp}
use Rattle.sq_moves.proofs.LinksFrom.{one_at, each_link}
use Rattle.sq_leader.specs.declared.leader.Leader.TheVariants.{Idle}
use Rattle.sq_store.specs.ChunkValue.{ChunkValue}
use Rattle.sq_exec.specs.declared.run.Run.{Run}
use Rattle.sq_exec.specs.GivenUp.{is_given_up, none_given_up}
use Rattle.sq_exec.specs.Runs.{is_loaded, is_whole}
use Rattle.sq_exec.specs.OutLink.{new_out_link}
use Rattle.sq_exec.specs.CoreValue.{CoreValue, out_at, inbox_at}
use Rattle.sq_model.specs.Tables.{opening_rows, family_of}
use Rattle.sq_model.specs.Place.{source}
use Rattle.sq_transition.specs.WorldValue.{WorldValue, QueueValue, WholeLink, no_core, no_queue, core_at, queue_at, link_of, link_value}
use Rattle.sq_transition.specs.Leading.{phase_of, parts_of, moved_by, stage_of, has_prepared, has_reported}
use Rattle.sq_transition.specs.Holds.{share_at, LinkHolds, MovesHold, IsSetFor, CoreHolds, Holds}
use Rattle.sq_world.specs.Queue.{opened_queue}
use Rattle.sq_exec.specs.Opened.{opened_part}
use Rattle.sq_exec.proofs.Families.{get_opened}
use Rattle.sq_world.specs.Openings.{AreNewTrees, AreNewQueues}

-- a link that has carried nothing
abbrev new_link : Link → WholeLink
new_link link = record { src = link.src; dst = link.dst; out = new_out_link; queue = []; inbox = None }

-- it is what the empty history says of it
new_link_holds : (o : OpeningValue) (link : Link) → LinkHolds o [] (new_link link)
new_link_holds o link =
    record {
      work = refl;
      notes = refl;
      few_loaded = omega arith;
      popped = refl;
      pushed = refl;
      way = refl;
      chunks = λ i chunk at. absurd (none_there i chunk at);
    }
  where
    none_there : (i : ℕ) (chunk : ChunkValue) → slice_get [] i ≡ Some chunk → ⊥
    none_there i chunk e = cc

-- the family of a key with opening rows
stood : (o : OpeningValue) (part root : ℕ) → (if not (length (opening_rows o root) == 0) && (source o root == part) then Some (record { root = root; base = opening_rows o root; log = [] }) else None) ≡ share_at o [] part root
stood o part root = ap (λ b. if b && (source o root == part) then Some (family_of o [] root) else None) (sym (or-false (not (length (opening_rows o root) == 0))))

abbrev no_ends : Link
no_ends = record { src = 0; dst = 0 }

-- each place of a list of one value holds it, and so does what is read past its end
alike : {X : Type 0} (n i : ℕ) (x : X) → get_or (replicate n x) i x ≡ x
alike n i x =
    ⊎_elim
    (λ (low : i < n). get_or-replicate n i x x low)
    (λ (past : n ≤ i). get_or_past (replicate n x) i x (let count : length (replicate n x) ≡ n = length-replicate n x in omega (arith, count, past)))
    (cases_lt i n)

-- the partitions that a queue leads from and to
abbrev ends_of : QueueValue → Link
ends_of queue = record { src = queue.src; dst = queue.dst }

ends_again : (links : List Link) → map ends_of (map opened_queue links) ≡ links
ends_again [] = refl
ends_again (link ∷ links) = ap (λ (others : List Link). link ∷ others) (ends_again links)

-- a partition of an opening holds what the empty history says of it
module _ (o : OpeningValue) (part : ℕ) where
  new_set : IsSetFor o [] part (opened_part o part)
  new_set =
      assumption (
        length-replicate o.old.parts new_out_link,
        length-replicate {A = Option ChunkValue} o.old.parts None,
        length-replicate (length o.recon.segments) none_given_up,
        length-replicate {A = List Run} (length o.recon.segments) [],
      )

  new_moves : MovesHold o [] part (opened_part o part)
  new_moves = record {
    given_up = λ seg leaf _ low. ap (λ leaves. is_given_up leaves leaf) (alike (length o.recon.segments) seg none_given_up) ∙ alike LEAVES leaf false;
    loaded = λ seg root _. ap (λ (runs : List Run). is_loaded runs root) (alike (length o.recon.segments) seg []);
    whole = λ seg node _. ap (λ (runs : List Run). is_whole runs node) (alike (length o.recon.segments) seg []);
  }

  new_core : IsSetUp o → CoreHolds o [] part (opened_part o part)
  new_core set_up =
      let roots = list_all-from_AllPass (λ (entry : ℕ × RowList). nat_lt entry.0 ROOT_END) o.table set_up.roots in
      let each = list_all-from_AllPass (λ (entry : ℕ × RowList). is_opening entry.1) o.table set_up.rows in
      record {
        set = new_set;
        store = λ root. get_opened o.old part root ROOT_END o.table set_up.rising roots each ∙ stood o part root;
        waiting = refl;
        moves = new_moves;
      }

-- what a world opens with, part by part
pub record IsBuilt (o : OpeningValue) (w : WorldValue) : Type 0 where
  pub old : w.old ≡ o.old
  pub new : w.new ≡ o.new
  pub recon : w.recon ≡ o.recon
  pub config : w.config ≡ o.config
  pub leader : w.leader ≡ Idle (record { parts = o.old.parts; recon = o.recon })
  pub cores : w.cores ≡ map (opened_part o) (range_with_len 0 o.old.parts)
  pub trees : AreNewTrees o.recon.segments w.trees
  pub queues : AreNewQueues o.recon.ranges w.queues

module _ (o : OpeningValue) (w : WorldValue) (built : IsBuilt o w) where
  core_is : (part : ℕ) → part < o.old.parts → core_at w part ≡ opened_part o part
  core_is part there = ap (λ cores. get_or cores part no_core) built.cores ∙ get_or-map-range_with_len (opened_part o) 0 o.old.parts part part no_core there (omega arith)

  -- there is no partition past the last
  no_core_past : (part : ℕ) → o.old.parts ≤ part → core_at w part ≡ no_core
  no_core_past part past =
      let count : length w.cores ≡ o.old.parts = ap length built.cores ∙ length-map-range_with_len (opened_part o) 0 o.old.parts in
      get_or_past w.cores part no_core (omega (arith, count, past))

  -- what reads alike of each partition that was opened and past the last
  new_read : {X : Type 0} (read : CoreValue → X) (value : X) → ((part : ℕ) → read (opened_part o part) ≡ value) → read no_core ≡ value → (part : ℕ) → read (core_at w part) ≡ value
  new_read read value opened past part =
      ⊎_elim
      (λ (low : part < o.old.parts). ap read (core_is part low) ∙ opened part)
      (λ (high : o.old.parts ≤ part). ap read (no_core_past part high) ∙ past)
      (cases_lt part o.old.parts)

  -- nothing was begun for a partition at another, and nothing arrived at one from another
  new_out : (src dst : ℕ) → out_at (core_at w src) dst ≡ new_out_link
  new_out src dst = new_read (λ core. out_at core dst) new_out_link (λ _. alike o.old.parts dst new_out_link) refl src

  new_inbox : (src dst : ℕ) → inbox_at (core_at w dst) src ≡ None
  new_inbox src dst = new_read (λ core. inbox_at core src) None (λ _. alike o.old.parts src None) refl dst

  within : (i : ℕ) → i < length w.queues → i < length built.queues.links
  within i low =
      let count : length w.queues ≡ length built.queues.links = ap length built.queues.same ∙ length-map built.queues.links opened_queue in
      omega (arith, count, low)

  queue_is : (i : ℕ) → i < length w.queues → queue_at w i ≡ opened_queue (get_or built.queues.links i no_ends)
  queue_is i low = ap (λ queues. get_or queues i no_queue) built.queues.same ∙ get_or-map opened_queue built.queues.links i no_ends no_queue (within i low)

  link_is : (i : ℕ) → i < length w.queues → link_value w i ≡ new_link (get_or built.queues.links i no_ends)
  link_is i low =
      let link = get_or built.queues.links i no_ends in
      ap (link_of w) (queue_is i low)
      ∙ (λ k. record { src = link.src; dst = link.dst; out = new_out link.src link.dst k; queue = []; inbox = new_inbox link.src link.dst k })

  pub opened_holds : IsSetUp o → Holds o [] w
  opened_holds set_up =
      let links = built.queues.links in
      let are : AreLinks o.recon.ranges (map ends_of w.queues) = subst (AreLinks o.recon.ranges) (sym (ap (map ends_of) built.queues.same ∙ ends_again links)) built.queues.all in
      record {
        plans = record { old = built.old; new = built.new; recon = built.recon; config = built.config };
        leader = record {
          parts = ap parts_of built.leader;
          moves = ap moved_by built.leader;
          stage = ap stage_of built.leader;
          phase = ap phase_of built.leader;
          prepared = λ part low. ap (λ leader. has_prepared leader part) built.leader;
          reported = λ part low. ap (λ leader. has_reported leader part) built.leader;
        };
        partitions = record {
          count = ap length built.cores ∙ length-map-range_with_len (opened_part o) 0 o.old.parts;
          each = λ part there. subst (CoreHolds o [] part) (sym (core_is part there)) (new_core o part set_up);
        };
        segments = record {
          count = built.trees.count;
          statuses = λ seg node low. built.trees.each seg node (omega (arith, low, built.trees.count));
        };
        links = record {
          each = λ i low. subst (LinkHolds o []) (sym (link_is i low)) (new_link_holds o (get_or links i no_ends));
          ends = each_link ends_of o.recon.ranges w.queues no_queue are;
          one_each = one_at ends_of o.recon.ranges w.queues no_queue are;
        };
      }

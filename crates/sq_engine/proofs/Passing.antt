-- What happens between an engine and a client, one event after another.
use Rattle.std.proofs.Common.{◌≡◌, inl, inr, ℕ, zero, suc, ◌<◌, ◌==◌, if◌then◌else◌, Bool, true, false, true≢false, List, [], ◌∷◌, ◌++◌, length, get_or, set, slice_get, Option, Some, refl, sym, ap, ◌∙◌, subst, append_assoc, eq-eqb, arith, take, drop, get_or-set_same, get_or-set_other}
use Rattle.std.proofs.Math.Seq.{take-append_seam}
use Rattle.std.specs.Prelude.{◌&&◌, All}
use Rattle.std.specs.Option.{option_map_or}
use Rattle.std.proofs.lemmas.Bool.{cases_eq, ne_eqb}
use Rattle.std.proofs.lemmas.Option.{slice_get_within, get_or_from_slice_get}
use Rattle.std.proofs.lemmas.List.{append-nil, length-set}
use Rattle.std.proofs.lemmas.List.Elements.{All-nil, All-cons, All-append}
use Rattle.std.proofs.lemmas.List.Folds.{list_all-append}
use Rattle.std.proofs.lemmas.Grind.{flat_map-append}
use Rattle.rtrb.specs.Ring.{received, SameConsumer}
use Rattle.rtrb.specs.declared.consumer.Consumer.{Consumer}
use Rattle.sq_node_model.specs.NodeValue.{ReceiptValue}
use Rattle.sq_audit.specs.declared.job.Job.{Job}
use Rattle.sq_engine.specs.declared.client.Command.{Command}
use Rattle.sq_engine.specs.declared.client.Command.TheVariants.{Post, Rest, End}
use Rattle.sq_engine.specs.declared.event.Event.{Event}
use Rattle.sq_engine.specs.declared.event.Event.TheVariants.{Posts, Refuses, Answers, Drops, Loses, Rests, Ends, MovesTo}
use Rattle.sq_engine.specs.Events.{arrival_in, arrivals_in, arrival_at, arrived_from, is_arrived, are_whole, command_in, commands_in}
use Rattle.sq_engine.specs.Open.{OpenJobsValue, Adds}
use Rattle.sq_engine.specs.Clients.{ClientCall, InStage, IsAsked, ChangesClientEach, Happens, NamesPartition, IsOffered, DoesCommand}
use Rattle.sq_engine.specs.Rings.{received_at, AreSameRings, Passes, GivesArrived, Serves, GivesGrown}
use Rattle.sq_engine.proofs.Jobs.{adds_none, adds_one, adds_on}

client_on : {X : Type 0} (becomes : X → ClientCall → X → Type 0) (first mid last : X) (one more : List Event)
    → ChangesClientEach becomes first one mid → ChangesClientEach becomes mid more last → ChangesClientEach becomes first (one ++ more) last
client_on becomes first mid last [] more same goes = subst (λ x. ChangesClientEach becomes x more last) same goes
client_on becomes first mid last (event ∷ one) more each goes =
    (each.0, each.1, client_on becomes each.0 mid last one more each.2 goes)

pub arrived_on : (part : ℕ) (one more : List Event) → arrived_from part (one ++ more) ≡ arrived_from part one ++ arrived_from part more
arrived_on part one more = flat_map-append (arrival_at part) one more

pub arrivals_on : (one more : List Event) → arrivals_in (one ++ more) ≡ arrivals_in one ++ arrivals_in more
arrivals_on one more = flat_map-append arrival_in one more

asked_on : (one more : List Event) → commands_in (one ++ more) ≡ commands_in one ++ commands_in more
asked_on one more = flat_map-append command_in one more

pub whole_on : (one more : List Event) → are_whole one ≡ true → are_whole more ≡ true → are_whole (one ++ more) ≡ true
whole_on one more first second =
    list_all-append is_arrived one more ∙ ap (λ (b : Bool). b && are_whole more) first ∙ second

-- a client that was asked for nothing before and after was asked for nothing
pub none_asked_on : (one more : List Event) → commands_in one ≡ [] → commands_in more ≡ [] → commands_in (one ++ more) ≡ []
none_asked_on one more first second = asked_on one more ∙ ap (λ (list : List Command). list ++ commands_in more) first ∙ second

not_none : (command : Command) (more : List Command) → command ∷ more ≡ [] → ⊥
not_none command more none = cc

-- a receipt that arrived is its partition's, and no other's
own_one : (part : ℕ) (receipt : ReceiptValue) → (if part == part then receipt ∷ [] else []) ++ [] ≡ receipt ∷ []
own_one part receipt = ap (λ (b : Bool). (if b then receipt ∷ [] else []) ++ []) (eq-eqb part part refl)

other_none : (other part : ℕ) (receipt : ReceiptValue) → (other ≡ part → ⊥) → (if part == other then receipt ∷ [] else []) ++ [] ≡ []
other_none other part receipt apart =
    ap (λ (b : Bool). (if b then receipt ∷ [] else []) ++ []) (ne_eqb part other (λ same. apart (sym same)))

-- an event by which one receipt arrived, and for which a client was asked for nothing
pub record IsArrival (part : ℕ) (receipt : ReceiptValue) (event : Event) : Type 0 where
  pub own : arrived_from part (event ∷ []) ≡ receipt ∷ []
  pub other : (from : ℕ) → (from ≡ part → ⊥) → arrived_from from (event ∷ []) ≡ []
  pub none_asked : commands_in (event ∷ []) ≡ []
  pub whole : are_whole (event ∷ []) ≡ true

pub answers_arrive : (part : ℕ) (receipt : ReceiptValue) → IsArrival part receipt (Answers part receipt)
answers_arrive part receipt =
    record { own = own_one part receipt; other = λ from apart. other_none from part receipt apart; none_asked = refl; whole = refl }

pub drops_arrive : (part : ℕ) (receipt : ReceiptValue) → IsArrival part receipt (Drops part receipt)
drops_arrive part receipt =
    record { own = own_one part receipt; other = λ from apart. other_none from part receipt apart; none_asked = refl; whole = refl }

module _ {X : Type 0} (becomes : X → ClientCall → X → Type 0) where
  pub happens_none : (jobs : OpenJobsValue) (client : X) → Happens becomes [] jobs client jobs client
  happens_none jobs client = record { jobs = adds_none jobs; client = refl }

  pub happens_on : (one more : List Event) (old : OpenJobsValue) (before : X) (mid : OpenJobsValue) (between : X) (new : OpenJobsValue) (after : X)
      → Happens becomes one old before mid between → Happens becomes more mid between new after
      → Happens becomes (one ++ more) old before new after
  happens_on one more old before mid between new after was next = record {
    jobs = adds_on one more old mid new was.jobs next.jobs;
    client = client_on becomes before between after one more was.client next.client;
  }

  -- one receipt more arrived, by this event
  pub grown_on : (part : ℕ) (old : OpenJobsValue) (was : List ReceiptValue) (before : X) (mid : OpenJobsValue) (so_far : List ReceiptValue) (between : X)
      (event : Event) (receipt : ReceiptValue) (new : OpenJobsValue) (now : List ReceiptValue) (after : X)
      → IsArrival part receipt event → GivesGrown becomes part old was before mid so_far between
      → Happens becomes (event ∷ []) mid between new after
      → now ≡ so_far ++ receipt ∷ [] → GivesGrown becomes part old was before new now after
  grown_on part old was before mid so_far between event receipt new now after is grown happens one = record {
    more = grown.more ++ event ∷ [];
    happens = happens_on grown.more (event ∷ []) old before mid between new after grown.happens happens;
    arrived = one ∙ ap (λ (list : List ReceiptValue). list ++ receipt ∷ []) grown.arrived
        ∙ append_assoc was (arrived_from part grown.more) (receipt ∷ [])
        ∙ ap (λ (list : List ReceiptValue). was ++ (arrived_from part grown.more ++ list)) (sym is.own)
        ∙ ap (λ (list : List ReceiptValue). was ++ list) (sym (arrived_on part grown.more (event ∷ [])));
    no_other = λ other apart. arrived_on other grown.more (event ∷ [])
        ∙ ap (λ (list : List ReceiptValue). list ++ arrived_from other (event ∷ [])) (grown.no_other other apart)
        ∙ is.other other apart;
    none_asked = none_asked_on grown.more (event ∷ []) grown.none_asked is.none_asked;
    whole = whole_on grown.more (event ∷ []) grown.whole is.whole;
  }

  -- one event, after which the client is this
  pub one_happens : (event : Event) (old : OpenJobsValue) (before : X) (new : OpenJobsValue) (after : X)
      → Adds event old new → ChangesClientEach becomes before (event ∷ []) after → Happens becomes (event ∷ []) old before new after
  one_happens event old before new after adds client = record { jobs = adds_one event old new adds; client = client }

  -- a command of a client was executed, by one event that is no arrival
  one_command : (parts : ℕ) (event : Event) (old : OpenJobsValue) (before : X) (new : OpenJobsValue) (after : X)
      → Adds event old new → ChangesClientEach becomes before (event ∷ []) after → NamesPartition parts event
      → ((part : ℕ) → arrived_from part (event ∷ []) ≡ []) → are_whole (event ∷ []) ≡ true → DoesCommand parts becomes old before new after
  one_command parts event old before new after adds client names none whole = record {
    more = event ∷ [];
    happens = one_happens event old before new after adds client;
    named = All-cons (NamesPartition parts) event [] names (All-nil (NamesPartition parts));
    none_arrived = none;
    whole = whole;
  }

  pub command_posts : (parts : ℕ) (job : Job) (old : OpenJobsValue) (before between : X) (new : OpenJobsValue) (after : X)
      → IsAsked becomes before (Post job) between → IsOffered parts becomes job old between new after
      → DoesCommand parts becomes old before new after
  command_posts parts job old before between new after asked offered =
      elim offered [
        | inl posted ↦ one_command parts (Posts job) old before new after posted.0 (between, asked, posted.1) tt (λ part. refl) refl
        | inr refused ↦ one_command parts (Refuses job refused.0) old before new after refused.2
            (after, (between, asked, refused.3), refl) refused.1 (λ part. refl) refl
      ]

  pub command_rests : (parts : ℕ) (old : OpenJobsValue) (before : X) (new : OpenJobsValue) (after : X)
      → IsAsked becomes before Rest after → Adds Rests old new → DoesCommand parts becomes old before new after
  command_rests parts old before new after asked adds =
      one_command parts Rests old before new after adds (after, asked, refl) tt (λ part. refl) refl

  pub command_ends : (parts : ℕ) (old : OpenJobsValue) (before : X) (new : OpenJobsValue) (after : X)
      → IsAsked becomes before End after → Adds Ends old new → DoesCommand parts becomes old before new after
  command_ends parts old before new after asked adds =
      one_command parts Ends old before new after adds (after, asked, refl) tt (λ part. refl) refl

  pub commands_none : (parts : ℕ) (jobs : OpenJobsValue) (client : X) → DoesCommand parts becomes jobs client jobs client
  commands_none parts jobs client =
      record { more = []; happens = happens_none jobs client; named = All-nil (NamesPartition parts); none_arrived = λ part. refl; whole = refl }

  pub commands_on : (parts : ℕ) (old : OpenJobsValue) (before : X) (mid : OpenJobsValue) (between : X) (new : OpenJobsValue) (after : X)
      → DoesCommand parts becomes old before mid between → DoesCommand parts becomes mid between new after
      → DoesCommand parts becomes old before new after
  commands_on parts old before mid between new after was next = record {
    more = was.more ++ next.more;
    happens = happens_on was.more next.more old before mid between new after was.happens next.happens;
    named = All-append (NamesPartition parts) was.more next.more was.named next.named;
    none_arrived = λ part. arrived_on part was.more next.more
        ∙ ap (λ (list : List ReceiptValue). list ++ arrived_from part next.more) (was.none_arrived part) ∙ next.none_arrived part;
    whole = whole_on was.more next.more was.whole next.whole;
  }

  -- a client that was asked for nothing was told nothing of a stage
  pub each_in_stage : (segments : ℕ) (events : List Event) (first last : X) → commands_in events ≡ []
      → ChangesClientEach becomes first events last → ChangesClientEach (InStage segments becomes) first events last
  each_in_stage segments [] first last none same = same
  each_in_stage segments (Answers part receipt ∷ more) first last none went =
      (went.0, went.1, each_in_stage segments more went.0 last none went.2)
  each_in_stage segments (Drops part receipt ∷ more) first last none went =
      (went.0, went.1, each_in_stage segments more went.0 last none went.2)
  each_in_stage segments (Loses ∷ more) first last none went =
      (went.0, went.1, each_in_stage segments more went.0 last none went.2)
  each_in_stage segments (MovesTo plan ∷ more) first last none went = absurd went.1
  each_in_stage segments (Posts job ∷ more) first last none went = absurd (not_none (Post job) (commands_in more) none)
  each_in_stage segments (Refuses job fault ∷ more) first last none went = absurd (not_none (Post job) (commands_in more) none)
  each_in_stage segments (Rests ∷ more) first last none went = absurd (not_none Rest (commands_in more) none)
  each_in_stage segments (Ends ∷ more) first last none went = absurd (not_none End (commands_in more) none)

-- events by which nobody was asked for anything name no partition
named_unasked : (parts : ℕ) (events : List Event) → commands_in events ≡ [] → All (NamesPartition parts) events
named_unasked parts [] none = All-nil (NamesPartition parts)
named_unasked parts (Answers part receipt ∷ more) none =
    All-cons (NamesPartition parts) (Answers part receipt) more tt (named_unasked parts more none)
named_unasked parts (Drops part receipt ∷ more) none =
    All-cons (NamesPartition parts) (Drops part receipt) more tt (named_unasked parts more none)
named_unasked parts (Loses ∷ more) none =
    All-cons (NamesPartition parts) Loses more tt (named_unasked parts more none)
named_unasked parts (MovesTo plan ∷ more) none =
    All-cons (NamesPartition parts) (MovesTo plan) more tt (named_unasked parts more none)
named_unasked parts (Posts job ∷ more) none = absurd (not_none (Post job) (commands_in more) none)
named_unasked parts (Refuses job fault ∷ more) none = absurd (not_none (Post job) (commands_in more) none)
named_unasked parts (Rests ∷ more) none = absurd (not_none Rest (commands_in more) none)
named_unasked parts (Ends ∷ more) none = absurd (not_none End (commands_in more) none)

module _ {A P : Type 0} where
  pub same_through : (one two three : Consumer ReceiptValue A P) → SameConsumer one two → SameConsumer two three → SameConsumer one three
  same_through one two three a b = ((b.0.0 ∙ a.0.0, b.0.1 ∙ a.0.1, b.0.2 ∙ a.0.2, b.0.3 ∙ a.0.3), b.1 ∙ a.1)

  same_rings : (rings : List (Consumer ReceiptValue A P)) → AreSameRings rings rings
  same_rings rings = record { count = refl; each = λ i d lt. ((refl, refl, refl, refl), refl) }

  rings_through : (one two three : List (Consumer ReceiptValue A P)) → AreSameRings one two → AreSameRings two three → AreSameRings one three
  rings_through one two three a b = record {
    count = b.count ∙ a.count;
    each = λ i d lt.
        let there : i < length two = omega (arith, lt, a.count) in
        same_through (get_or one i d) (get_or two i d) (get_or three i d) (a.each i d lt) (b.each i d there);
  }

  -- what came over a ring that is put in the place of another
  received-set_same : (rings : List (Consumer ReceiptValue A P)) (i : ℕ) (ring : Consumer ReceiptValue A P)
      → i < length rings → received_at (set rings i ring) i ≡ received ring
  received-set_same [] i ring lt = absurd (omega (arith, lt))
  received-set_same (first ∷ rings) zero ring lt = refl
  received-set_same (first ∷ rings) (suc i) ring lt = received-set_same rings i ring (omega (arith, lt))

  received-set_other : (rings : List (Consumer ReceiptValue A P)) (i j : ℕ) (ring : Consumer ReceiptValue A P)
      → (j ≡ i → ⊥) → received_at (set rings i ring) j ≡ received_at rings j
  received-set_other [] i j ring apart = refl
  received-set_other (first ∷ rings) zero zero ring apart = absurd (apart refl)
  received-set_other (first ∷ rings) zero (suc j) ring apart = refl
  received-set_other (first ∷ rings) (suc i) zero ring apart = refl
  received-set_other (first ∷ rings) (suc i) (suc j) ring apart =
      received-set_other rings i j ring (λ same. apart (ap suc same))

  rings-set : (rings : List (Consumer ReceiptValue A P)) (i : ℕ) (old new : Consumer ReceiptValue A P)
      → slice_get rings i ≡ Some old → SameConsumer old new → AreSameRings rings (set rings i new)
  rings-set rings i old new there same = record {
    count = length-set rings i new;
    each = λ j d lt. elim (cases_eq j i) [
      | inl at ↦
          let within = slice_get_within rings i old there in
          subst (λ (k : ℕ). SameConsumer (get_or rings k d) (get_or (set rings i new) k d)) (sym at)
          (subst (λ (p : Consumer ReceiptValue A P × Consumer ReceiptValue A P). SameConsumer p.0 p.1)
          (λ k. (sym (get_or_from_slice_get rings i old d there) k, sym (get_or-set_same rings i new d within) k)) same)
      | inr apart ↦
          subst (λ (ring : Consumer ReceiptValue A P). SameConsumer (get_or rings j d) ring)
          (sym (get_or-set_other rings i j new d apart)) ((refl, refl, refl, refl), refl)
    ];
  }

  -- what came over a ring in its place
  pub received_there : (rings : List (Consumer ReceiptValue A P)) (i : ℕ) (ring : Consumer ReceiptValue A P)
      → slice_get rings i ≡ Some ring → received_at rings i ≡ received ring
  received_there rings i ring there = ap (λ (o : Option (Consumer ReceiptValue A P)). option_map_or received o []) there

  module _ {X : Type 0} (becomes : X → ClientCall → X → Type 0) where
    pub passes_none : (jobs : OpenJobsValue) (rings : List (Consumer ReceiptValue A P)) (client : X) → Passes becomes [] jobs rings client jobs rings client
    passes_none jobs rings client = record {
      happens = happens_none becomes jobs client;
      rings = same_rings rings;
      arrived = λ part. sym (append-nil (received_at rings part));
      named = All-nil (NamesPartition (length rings));
      whole = refl;
    }

    pub passes_on : (one more : List Event) (old : OpenJobsValue) (first : List (Consumer ReceiptValue A P)) (before : X)
        (between_jobs : OpenJobsValue) (mid : List (Consumer ReceiptValue A P)) (between : X)
        (new : OpenJobsValue) (last : List (Consumer ReceiptValue A P)) (after : X)
        → Passes becomes one old first before between_jobs mid between → Passes becomes more between_jobs mid between new last after
        → Passes becomes (one ++ more) old first before new last after
    passes_on one more old first before between_jobs mid between new last after was next = record {
      happens = happens_on becomes one more old before between_jobs between new after was.happens next.happens;
      rings = rings_through first mid last was.rings next.rings;
      arrived = λ part. next.arrived part
          ∙ ap (λ (list : List ReceiptValue). list ++ arrived_from part more) (was.arrived part)
          ∙ append_assoc (received_at first part) (arrived_from part one) (arrived_from part more)
          ∙ ap (λ (list : List ReceiptValue). received_at first part ++ list) (sym (arrived_on part one more));
      named = All-append (NamesPartition (length first)) one more was.named
          (subst (λ (parts : ℕ). All (NamesPartition parts) more) was.rings.count next.named);
      whole = whole_on one more was.whole next.whole;
    }

    -- what arrived over one more ring was given
    pub arrived_over : (old : OpenJobsValue) (first : List (Consumer ReceiptValue A P)) (before : X)
        (between_jobs : OpenJobsValue) (mid : List (Consumer ReceiptValue A P)) (between : X)
        (i : ℕ) (was ring : Consumer ReceiptValue A P) (new : OpenJobsValue) (after : X)
        → GivesArrived becomes old first before between_jobs mid between → slice_get mid i ≡ Some was → SameConsumer was ring
        → GivesGrown becomes i between_jobs (received was) between new (received ring) after
        → GivesArrived becomes old first before new (set mid i ring) after
    arrived_over old first before between_jobs mid between i was ring new after come there same grown =
        let within = slice_get_within mid i was there in
        let one : Passes becomes grown.more between_jobs mid between new (set mid i ring) after = record {
          happens = grown.happens;
          rings = rings-set mid i was ring there same;
          arrived = λ part. elim (cases_eq part i) [
            | inl at ↦ subst (λ (k : ℕ). received_at (set mid i ring) k ≡ received_at mid k ++ arrived_from k grown.more) (sym at)
                (received-set_same mid i ring within ∙ grown.arrived
                ∙ ap (λ (list : List ReceiptValue). list ++ arrived_from i grown.more) (sym (received_there mid i was there)))
            | inr apart ↦ received-set_other mid i part ring apart ∙ sym (append-nil (received_at mid part))
                ∙ ap (λ (list : List ReceiptValue). received_at mid part ++ list) (sym (grown.no_other part apart))
          ];
          named = named_unasked (length mid) grown.more grown.none_asked;
          whole = grown.whole;
        } in
        record {
          more = come.more ++ grown.more;
          passes = passes_on come.more grown.more old first before between_jobs mid between new (set mid i ring) after come.passes one;
          none_asked = none_asked_on come.more grown.more come.none_asked grown.none_asked;
        }

    pub arrived_none : (jobs : OpenJobsValue) (rings : List (Consumer ReceiptValue A P)) (client : X) → GivesArrived becomes jobs rings client jobs rings client
    arrived_none jobs rings client = record { more = []; passes = passes_none jobs rings client; none_asked = refl }

    pub arrived_further : (old : OpenJobsValue) (first : List (Consumer ReceiptValue A P)) (before : X)
        (between_jobs : OpenJobsValue) (mid : List (Consumer ReceiptValue A P)) (between : X)
        (new : OpenJobsValue) (last : List (Consumer ReceiptValue A P)) (after : X)
        → GivesArrived becomes old first before between_jobs mid between → GivesArrived becomes between_jobs mid between new last after
        → GivesArrived becomes old first before new last after
    arrived_further old first before between_jobs mid between new last after was next = record {
      more = was.more ++ next.more;
      passes = passes_on was.more next.more old first before between_jobs mid between new last after was.passes next.passes;
      none_asked = none_asked_on was.more next.more was.none_asked next.none_asked;
    }

    -- the same, with what a client is told of a stage
    pub arrived_in_stage : (segments : ℕ) (old_jobs : OpenJobsValue) (old : List (Consumer ReceiptValue A P)) (before : X)
        (new_jobs : OpenJobsValue) (new : List (Consumer ReceiptValue A P)) (after : X)
        → GivesArrived becomes old_jobs old before new_jobs new after → GivesArrived (InStage segments becomes) old_jobs old before new_jobs new after
    arrived_in_stage segments old_jobs old before new_jobs new after come = record {
      more = come.more;
      passes = record {
        happens = record {
          jobs = come.passes.happens.jobs;
          client = each_in_stage becomes segments come.more before after come.none_asked come.passes.happens.client;
        };
        rings = come.passes.rings;
        arrived = come.passes.arrived;
        named = come.passes.named;
        whole = come.passes.whole;
      };
      none_asked = come.none_asked;
    }

    -- what arrived was served, whether each node had a thread or not
    pub arrived_serves : (old_jobs : OpenJobsValue) (old : List (Consumer ReceiptValue A P)) (before : X)
        (new_jobs : OpenJobsValue) (new : List (Consumer ReceiptValue A P)) (after : X) (has_threads : Bool)
        → GivesArrived becomes old_jobs old before new_jobs new after → Serves becomes old_jobs old before new_jobs new after has_threads
    arrived_serves old_jobs old before new_jobs new after has_threads come =
        record { more = come.more; passes = come.passes; none_asked = λ lacks. come.none_asked }

    -- what is served further was served
    pub serves_on : (first_jobs : OpenJobsValue) (first : List (Consumer ReceiptValue A P)) (before : X)
        (mid_jobs : OpenJobsValue) (mid : List (Consumer ReceiptValue A P)) (between : X)
        (last_jobs : OpenJobsValue) (last : List (Consumer ReceiptValue A P)) (after : X) (has_threads : Bool)
        → Serves becomes first_jobs first before mid_jobs mid between has_threads
        → Serves becomes mid_jobs mid between last_jobs last after has_threads
        → Serves becomes first_jobs first before last_jobs last after has_threads
    serves_on first_jobs first before mid_jobs mid between last_jobs last after has_threads was next = record {
      more = was.more ++ next.more;
      passes = passes_on was.more next.more first_jobs first before mid_jobs mid between last_jobs last after was.passes next.passes;
      none_asked = λ lacks. none_asked_on was.more next.more (was.none_asked lacks) (next.none_asked lacks);
    }

    -- commands were executed
    pub commands_serve : (parts : ℕ) (old_jobs : OpenJobsValue) (rings : List (Consumer ReceiptValue A P)) (before : X) (new_jobs : OpenJobsValue) (after : X)
        → length rings ≡ parts → DoesCommand parts becomes old_jobs before new_jobs after
        → Serves becomes old_jobs rings before new_jobs rings after true
    commands_serve parts old_jobs rings before new_jobs after count does = record {
      more = does.more;
      passes = record {
        happens = does.happens;
        rings = same_rings rings;
        arrived = λ part. sym (ap (λ (list : List ReceiptValue). received_at rings part ++ list) (does.none_arrived part)
            ∙ append-nil (received_at rings part));
        named = subst (λ (n : ℕ). All (NamesPartition n) does.more) (sym count) does.named;
        whole = does.whole;
      };
      none_asked = λ lacks. absurd (true≢false lacks);
    }

-- what a vector has once all its elements were written through a slice of it
pub written : {X : Type 0} (old new : List X) (len : ℕ) → len ≡ length new → take len (new ++ drop (length new) old) ≡ new
written old new len whole = ap (λ n. take n (new ++ drop (length new) old)) whole ∙ take-append_seam new (drop (length new) old)

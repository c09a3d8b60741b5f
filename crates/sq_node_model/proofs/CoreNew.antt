-- A new node, which did nothing yet.
use Rattle.std.proofs.Common.{◌≡◌, inl, ⊎_elim, ℕ, ◌<◌, Bool, true, false, ◌==◌, ◌&&◌, nat_le, nat_lt, if◌then◌else◌, List, [], length, replicate, get_or, Option, Some, None, refl, sym, ap, ◌∙◌, subst, true≢false, arith}
use Rattle.std.specs.Prelude.{is_some, unwrap_or}
use Rattle.std.proofs.lemmas.Bool.{cases_lt, eqb-true, eq-eqb}
use Rattle.std.proofs.lemmas.List.{get_or-replicate, length-replicate, get_or_past}
use Rattle.sq_schema.specs.Family.{FamilyValue}
use Rattle.sq_moves.specs.declared.node.TheConstants.{LEAVES}
use Rattle.sq_store.specs.StoreValue.{StoreValue, absent}
use Rattle.sq_store.specs.ChunkValue.{ChunkValue}
use Rattle.sq_moves.specs.OpeningValue.{OpeningValue}
use Rattle.sq_exec.specs.declared.run.Run.{Run}
use Rattle.sq_exec.specs.GivenUp.{none_given_up}
use Rattle.sq_exec.specs.OutLink.{new_out_link}
use Rattle.sq_model.proofs.Lists.{Contains-nothing}
use Rattle.sq_model.specs.Staged.{owner_in}
use Rattle.sq_shared.specs.declared.view.View.{View}
use Rattle.sq_shared.specs.View.{one_if}
use Rattle.sq_node_model.specs.BeganWith.{BeganWith, given_family, CanBegin}
use Rattle.sq_node_model.specs.NodeValue.{NodeValue}
use Rattle.sq_node_model.specs.Chunks.{HasCut, HasLoaded}
use Rattle.sq_node_model.specs.FamiliesHold.{IsStored, IsStoredOrCut, GrowsFrom}
use Rattle.sq_node_model.specs.NodeHolds.{NodeHolds}
use Rattle.sq_node_model.specs.Cores.{staged_core, OpensWith, IsUnused}
use Rattle.sq_node_model.proofs.Made.{node_with}
use Rattle.sq_node_model.proofs.Named.{none_between}
use Rattle.sq_node_model.proofs.FamiliesAnswered.{grows_itself}

some_is : {X : Type 0} (found : Option X) → is_some found ≡ true → (x : X) × (found ≡ Some x)
some_is None e = absurd (true≢false (sym e))
some_is (Some x) e = (x, refl)

-- a list of one value has that everywhere
pub get_or-same : {X : Type 0} (n i : ℕ) (x : X) → get_or (replicate n x) i x ≡ x
get_or-same n i x =
    ⊎_elim
    (λ below. get_or-replicate n i x x below)
    (λ past. get_or_past (replicate n x) i x (let len = length-replicate n x in omega (arith, past, len)))
    (cases_lt i n)

module _ (o : OpeningValue) (began : BeganWith) (can : CanBegin o began) (part : ℕ) (store : StoreValue) (below : part < o.old.parts) (opens : OpensWith o began part store) where
  -- a node that did nothing
  abbrev new : NodeValue
  new = record {
    part = part;
    store = store;
    receipts = [];
    begun = λ seg. [];
    completed = λ seg. [];
    given_up = λ seg. none_given_up;
    loaded = λ seg. [];
    outs = λ dst. new_out_link;
    sent = λ dst. [];
    received = λ src. [];
    inboxes = λ src. None;
  }

  none_cut : (chunk : ChunkValue) → HasCut new chunk → ⊥
  none_cut chunk has = Contains-nothing chunk has.1

  none_loaded : (chunk : ChunkValue) → HasLoaded new chunk → ⊥
  none_loaded chunk has = Contains-nothing chunk has.1

  -- a family that is there is what the root key was given, and the partition owned it
  stored_is : (root : ℕ) (family : FamilyValue) → IsStored store root family → (owner_in o began.stage root ≡ part) × (began.families root ≡ Some family)
  stored_is root family has = here (owner_in o began.stage root == part) refl
    where
      here : (b : Bool) → (owner_in o began.stage root == part) ≡ b → (owner_in o began.stage root ≡ part) × (began.families root ≡ Some family)
      here true owned = (eqb-true (owner_in o began.stage root) part owned, sym (opens root ∙ ap (λ b. if b then began.families root else None) owned) ∙ has)
      here false owned = absurd (let e = sym (opens root ∙ ap (λ b. if b then began.families root else None) owned) ∙ has in cc)

  kept_is : (root : ℕ) (family : FamilyValue) → IsStoredOrCut (HasCut new) store root family → began.families root ≡ Some family
  kept_is root family kept = ⊎_elim (λ stored. (stored_is root family stored).1) (λ went. absurd (none_cut went.0 went.1)) kept

  given_is : (root : ℕ) (family : FamilyValue) → began.families root ≡ Some family → given_family began root ≡ family
  given_is root family e = ap (λ found. unwrap_or found (absent root)) e

  new_holds : NodeHolds o began new
  new_holds = record {
    below = below;
    begun = record {
      outward = λ seg n named. absurd (Contains-nothing (n, named.0) named.1);
      nodes = λ seg n named. absurd (Contains-nothing (n, named.0) named.1);
      apart = λ root seg n m named. absurd (Contains-nothing (n, named.0) named.1);
      leaves = λ seg leaf low. get_or-same LEAVES leaf false;
    };
    outs = λ dst. record {
      noted = refl;
      numbered = tt;
      own = λ note has. absurd (Contains-nothing note has);
      tiles = tt;
      chunks = λ chunk has. absurd (Contains-nothing chunk has);
      work = λ work has. absurd (Contains-nothing work has);
      each = λ seg n pull linked has. absurd (Contains-nothing (n, pull) has);
      once = λ i j one other at. absurd cc;
    };
    ins = λ src. record {
      order = refl;
      arrived = λ chunk has. absurd (Contains-nothing chunk has);
      rising = λ chunk has. absurd (Contains-nothing chunk has);
    };
    loaded = record {
      keys = λ seg root e. absurd (true≢false (sym e));
      all_keys = λ seg root c. absurd (none_loaded c.0 c.1);
      whole = λ seg n e. absurd (true≢false (sym e));
      all_whole = λ seg n l. absurd (none_loaded l.0 l.1);
    };
    completed = λ seg n pull has. absurd (Contains-nothing (n, pull) has);
    store = record {
      stored = λ root family has. inl (record { owned = (stored_is root family has).0; uncut = λ chunk cut. absurd (none_cut chunk cut) });
      home = λ root at_home given.
          let has = some_is (began.families root) given in
          (has.0, opens root ∙ ap (λ b. if b then began.families root else None) (eq-eqb (owner_in o began.stage root) part at_home.owned) ∙ has.1);
      came = λ root chunk family has carried. absurd (none_loaded chunk has);
    };
    families = record {
      keyed = λ root family kept. can.keyed root family (kept_is root family kept);
      home_grown = λ root family at_home has. subst (λ first. GrowsFrom first family) (sym (given_is root family (stored_is root family has).1)) (grows_itself family);
      cut_grown = λ root chunk family has carried. absurd (none_cut chunk has);
      grown = λ root chunk family has covered stored. absurd (none_loaded chunk has);
    };
    receipts = record {
      named_home = λ root family kept owned position.
          sym (ap (λ (one : FamilyValue). one_if (nat_le (length one.log) position && nat_lt position (length family.log))) (given_is root family (kept_is root family kept))
          ∙ none_between (length family.log) position);
      named_came = λ root chunk family has covered stored position. absurd (none_loaded chunk has);
      told = λ receipt has commit. absurd (Contains-nothing receipt has);
      aborted = λ receipt has aborts. absurd (Contains-nothing receipt has);
    };
  }

  pub core_new : (views : ℕ → View) (sent received : ℕ → List ChunkValue) → IsUnused views sent received → NodeHolds o began (node_with (staged_core o began.stage part store) views sent received [])
  core_new views sent received unused =
      subst (NodeHolds o began)
      (λ i. record new {
        begun = λ seg. sym (unused.begun seg) i;
        completed = λ seg. sym (unused.completed seg) i;
        given_up = λ seg. sym (get_or-same (length o.recon.segments) seg none_given_up) i;
        loaded = λ seg. sym (get_or-same {X = List Run} (length o.recon.segments) seg []) i;
        outs = λ dst. sym (get_or-same o.old.parts dst new_out_link) i;
        sent = λ dst. sym (unused.none_sent dst) i;
        received = λ src. sym (unused.none_received src) i;
        inboxes = λ src. sym (get_or-same {X = Option ChunkValue} o.old.parts src None) i;
      })
      new_holds

-- What was gathered of a stage whose segments are complete is placed again once its logs are folded, with the opening whose table is its rows.
use Rattle.std.proofs.Common.{◌≡◌, inl, inr, ℕ, ◌+◌, Bool, true, false, ◌==◌, nat_lt, if◌then◌else◌, List, [], ◌∷◌, length, reverse, slice_get, Some, None, refl, sym, ap, ◌∙◌, subst, true≢false}
use Rattle.std.specs.Prelude.{not, option_and_then}
use Rattle.std.proofs.lemmas.Bool.{cases_Bool}
use Rattle.std.proofs.lemmas.List.Elements.{All-nil}
use Rattle.std.proofs.lemmas.Option.{option_and_then_some}
use Rattle.sq_schema.specs.TxnValue.{TxnValue}
use Rattle.sq_schema.specs.Table.{TableValue}
use Rattle.sq_schema.specs.Family.{FamilyValue, rows_of}
use Rattle.sq_store.specs.StoreValue.{StoreValue}
use Rattle.sq_store.specs.declared.chunk.Note.{Note}
use Rattle.sq_moves.specs.OpeningValue.{OpeningValue}
use Rattle.sq_moves.specs.Opening.{IsOpening}
use Rattle.sq_model.specs.Tables.{opening_rows}
use Rattle.sq_model.specs.Orderly.{Tiles}
use Rattle.sq_model.proofs.Lists.{Contains-nothing}
use Rattle.sq_shared.specs.View.{one_if}
use Rattle.sq_node_model.specs.BeganWith.{is_opened, IsOf}
use Rattle.sq_node_model.specs.declared.spot.Spot.{Spot}
use Rattle.sq_node_model.specs.declared.spot.Spot.TheVariants.{Store, Chunk}
use Rattle.sq_node_model.specs.Gathered.{GatheredLink, GatheredValue}
use Rattle.sq_node_model.specs.Spots.{gathered_place, family_at_spot, StandsAt, IsSpotOf}
use Rattle.sq_node_model.specs.Placed.{IsLinkPlaced, FitTogether, StandOnce, IsPlaced}
use Rattle.sq_node_model.specs.Next.{IsStageDone}
use Rattle.sq_node_model.specs.Folded.{folded_family, folded_opening, folded_gathered, IsFolded}
use Rattle.sq_model.specs.Staged.{owner_in}
use Rattle.sq_node_model.proofs.Began.{none_first}
use Rattle.sq_node_model.proofs.Next.{stands_fit}

abbrev as_folded : FamilyValue → FamilyValue
as_folded family = record { root = family.root; base = rows_of family; log = [] }

folded_is : (was family : FamilyValue) → folded_family was ≡ Some family → as_folded was ≡ family
folded_is was family e = by (length (rows_of was) == 0) e
  where
    by : (b : Bool) → (if b then None else Some (as_folded was)) ≡ Some family → as_folded was ≡ family
    by true f = absurd (let e = f in cc)
    by false f = let e = f in cc

-- tiles are of the extents alone
tiles_too : (o : OpeningValue) (table : TableValue) (notes : List Note) → Tiles o notes → Tiles (folded_opening o table) notes
tiles_too o table [] tiles = tiles
tiles_too o table (note ∷ notes) tiles = (
  record { begins = tiles.0.begins; rises = tiles.0.rises; within = tiles.0.within; last = tiles.0.last; first_last = tiles.0.first_last },
  tiles_too o table notes tiles.1,
)

-- it is an opening whatever its rows
pub rowless_opening : (o : OpeningValue) (table : TableValue) → IsOpening o → IsOpening (folded_opening o table)
rowless_opening o table is =
    record {
      old_plan = is.old_plan;
      new_plan = is.new_plan;
      parts = is.parts;
      moves = is.moves;
      segments = is.segments;
      few_segments = is.few_segments;
      some_width = is.some_width;
      small_width = is.small_width;
      some_limit = is.some_limit;
      some_capacity = is.some_capacity;
      small_capacity = is.small_capacity;
    }

module _ (o : OpeningValue) (is : IsOpening o) (g : GatheredValue) (fits : FitTogether o g) (stood : StandOnce g) (done : IsStageDone o g) (table : TableValue) (stores : List StoreValue) (f : IsFolded o g table stores) where
  abbrev now : OpeningValue
  now = folded_opening o table

  abbrev h : GatheredValue
  h = folded_gathered g stores

  -- a family that stands is one that was at its spot, folded
  came_of : (spot : Spot) (root : ℕ) (family : FamilyValue) → StandsAt h spot root family → (was : FamilyValue) × StandsAt g spot root was × (as_folded was ≡ family)
  came_of (Store part) root family stands =
      option_and_then_some folded_family (family_at_spot g (Store part) root) family (sym (f.families part root) ∙ stands)
      (λ was there e. (was, there, folded_is was family e))
  came_of (Chunk i j) root family stands = absurd (let e = stands_fit o is g fits done (Chunk i j) root family stands in cc)

  same_place : (root : ℕ) → gathered_place now h root ≡ gathered_place o g root
  same_place root = refl

  placed_too : (spot : Spot) (root : ℕ) (family : FamilyValue) → StandsAt h spot root family → IsSpotOf h spot (gathered_place now h root)
  placed_too (Store part) root family stands =
      let was = came_of (Store part) root family stands in
      same_place root ∙ fits.placed (Store part) root was.0 was.1
  placed_too (Chunk i j) root family stands = absurd (let e = stands_fit o is g fits done (Chunk i j) root family stands in cc)

  link_too : (i : ℕ) (link : GatheredLink) → slice_get g.links i ≡ Some link → IsLinkPlaced now h link
  link_too i link there =
      let placed = fits.links i link there in
      record {
        way = placed.way;
        numbered = placed.numbered;
        about = λ note has.
            let about = placed.about note has in
            assumption (about);
        tiles = tiles_too o table (reverse link.notes) placed.tiles;
        within = placed.within;
      }

  has_rows : (root : ℕ) (family : FamilyValue) → rows_of family ≡ opening_rows now root → is_opened now root ≡ true → folded_family family ≡ Some (as_folded family)
  has_rows root family same opened =
      ap (λ b. if b then None else Some (as_folded family)) (ap (λ rows. length rows == 0) same ∙ none)
    where
      none : (length (opening_rows now root) == 0) ≡ false
      none =
          elim (cases_Bool (length (opening_rows now root) == 0)) [
            | inl e ↦ absurd (true≢false (sym opened ∙ ap not e))
            | inr e ↦ e
          ]

  pub fit_folded : IsPlaced now h
  fit_folded = record {
    fit = record {
      parts = record {
        all_stores = f.count ∙ fits.parts.all_stores;
        each_link = assumption (fits.parts.each_link);
        all_statuses = fits.parts.all_statuses;
      };
      links = link_too;
      apart = fits.apart;
      grown = fits.grown;
      complete = fits.complete;
      placed = placed_too;
      keyed = λ spot root family stands.
          let was = came_of spot root family stands in
          record {
            same_root = ap (λ (one : FamilyValue). one.root) (sym was.2) ∙ (fits.keyed spot root was.0 was.1).same_root;
            own_log = (subst (IsOf root) was.2 (record { same_root = (fits.keyed spot root was.0 was.1).same_root; own_log = All-nil (λ (txn : TxnValue). txn.root ≡ root) })).own_log;
          };
    };
    once = λ one other root family again stands stands'. stood one other root (came_of one root family stands).0 (came_of other root again stands').0 (came_of one root family stands).1 (came_of other root again stands').1;
    opening = λ root opened.
        let found = f.opened root opened in
        let at = stands_fit o is g fits done found.0 root found.1 found.2 in
        let there = subst (λ spot. StandsAt g spot root found.1) at found.2 in (
          Store (owner_in o (g.stage + 1) root),
          as_folded found.1,
          f.families (owner_in o (g.stage + 1) root) root
              ∙ ap (option_and_then folded_family) there
              ∙ has_rows root found.1 (sym (f.rows found.0 root found.1 found.2)) opened,
        );
    base = λ spot root family stands.
        let was = came_of spot root family stands in
        ap (λ (one : FamilyValue). one.base) (sym was.2) ∙ sym (f.rows spot root was.0 was.1);
    named = λ spot root family stands position.
        let was = came_of spot root family stands in
        none_first position ∙ ap (λ (one : FamilyValue). one_if (nat_lt position (length one.log))) was.2;
    told = λ receipt has commit. absurd (Contains-nothing receipt has);
    aborted = λ receipt has aborts. absurd (Contains-nothing receipt has);
  }

  pub done_folded : IsStageDone now h
  done_folded seg segment there runs = done seg segment there runs

pub folded_placed : (o : OpeningValue) → IsOpening o → (g : GatheredValue) → IsPlaced o g → IsStageDone o g → (table : TableValue) (stores : List StoreValue) → IsFolded o g table stores
    → IsPlaced (folded_opening o table) (folded_gathered g stores)
folded_placed o is g p done table stores f = fit_folded o is g p.fit p.once done table stores f

pub folded_done : (o : OpeningValue) → IsOpening o → (g : GatheredValue) → IsPlaced o g → IsStageDone o g → (table : TableValue) (stores : List StoreValue) → IsFolded o g table stores
    → IsStageDone (folded_opening o table) (folded_gathered g stores)
folded_done o is g p done table stores f = done_folded o is g p.fit p.once done table stores f

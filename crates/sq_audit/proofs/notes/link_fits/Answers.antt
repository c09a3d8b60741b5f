use Rattle.std.proofs.Common.{◌≡◌, List, sym, ap, ◌∙◌, subst, subst₂}
use Rattle.std.specs.Prelude.{reverse}
use Rattle.std.specs.Bool.{Decides}
use Rattle.std.proofs.lemmas.Bool.Decides.{Decides-like}
use Rattle.std.proofs.lemmas.Result.{IfOk-weaker}
use Rattle.sq_gather.specs.Prelude.{Note, AreNumbered, Tiles, GatheredLink, IsLinkPlaced}
use Rattle.sq_audit.specs.Notes.{AreOfLast, HoldTheirKeys}
use Rattle.sq_audit.proofs.Each.{shown}
use Rattle.sq_audit.proofs.notes.link_fits.Goals as goal

pub returns : goal.returns
returns c =
    let o = c.args.opening.now in
    let g = c.args.g.now in
    let link = c.args.link.now in
    let chunks : c.deref.result.now ≡ link.under_way = c.deref.ensures.value ∙ ap (λ (l : GatheredLink). l.under_way) c.link.view_is in
    let notes : c.deref-2.result.now ≡ link.notes = c.deref-2.ensures.value ∙ ap (λ (l : GatheredLink). l.notes) c.link.view_is in
    let notes_3 : c.deref-3.result.now ≡ link.notes = c.deref-3.ensures.value ∙ ap (λ (l : GatheredLink). l.notes) c.link.view_is in
    let notes_4 : c.deref-4.result.now ≡ link.notes = c.deref-4.ensures.value ∙ ap (λ (l : GatheredLink). l.notes) c.link.view_is in
    let way : AreOfLast link.under_way link.notes = subst₂ AreOfLast chunks notes (shown c.are_of_last.result c.are_of_last.ensures.last c.if-not-are_of_last.false) in
    let within : HoldTheirKeys link.under_way = subst HoldTheirKeys chunks (c.are_of_last.ensures.within c.if-not-are_of_last.false) in
    let numbered : AreNumbered (reverse link.notes) = subst (λ (ns : List Note). AreNumbered (reverse ns)) notes_3 (shown c.are_numbered.result c.are_numbered.ensures c.if-not-are_numbered.false) in
    let about = shown c.are_link_notes.result c.are_link_notes.ensures c.if-not-are_link_notes.false in
    IfOk-weaker c.tile.result (λ tile. Decides tile (Tiles o (reverse c.deref-4.result.now))) (λ fits. Decides fits (IsLinkPlaced o g link))
    (λ tile decides. Decides-like tile
    (λ tiles. record { way = way; numbered = numbered; about = about; tiles = subst (λ (ns : List Note). Tiles o (reverse ns)) notes_4 tiles; within = within })
    (λ placed. subst (λ (ns : List Note). Tiles o (reverse ns)) (sym notes_4) placed.tiles)
    decides)
    c.tile.ensures

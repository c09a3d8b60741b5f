use Rattle.std.proofs.Common.{rules, ◌≡◌, true, List, [], sym, ap, ap₂, ◌∙◌, true≢false, eqb-true, eq-eqb}
use Rattle.std.specs.Prelude.{slice_get, slice_index_or}
use Rattle.std.specs.Option.{option_copied}
use Rattle.std.proofs.lemmas.Bool.{and_parts, and_from}
use Rattle.sq_gather.specs.Prelude.{Status, is_begun, status_at, Note, Range, OpeningValue, ReconValue, stage_on, goes, is_on_link, GatheredLink, GatheredValue, runs_in, gathered_status, IsLinkNote}
use Rattle.sq_audit.proofs.Each.{decides_not, looked_up}
use Rattle.sq_audit.proofs.notes.is_link_note.Goals as goal
use Rattle.sq_audit.proofs.notes.is_link_note.Goals.{After-goes, After-stage_on}

-- whether the note's segment goes along the link
goes_along : (c : After-goes) → c.goes.result ≡ is_on_link c.args.opening.now c.args.link.now.src c.args.link.now.dst c.args.note.now.seg
goes_along c =
    let o = c.args.opening.now in
    let note = c.args.note.now in
    let src = ap (λ (l : GatheredLink). l.src) c.link.view_is in
    let dst = ap (λ (l : GatheredLink). l.dst) c.link.view_is in
    let segments : c.segments.result.now ≡ o.recon.segments = c.segments.ensures.segments ∙ ap (λ (r : ReconValue). r.segments) c.recon.ensures.recon in
    let segment : option_copied c.get-segment.result ≡ slice_get o.recon.segments note.seg =
    looked_up c.segments.result.now c.index.result c.get-segment.result c.get-segment.ensures.lookup ∙ ap₂ (λ (ss : List Range) k. slice_get ss k) segments c.index.ensures.place in
    c.goes.ensures ∙ (λ k. goes (segment k) (src k) (dst k))

-- the stage of the link
stage_is : (c : After-stage_on) → c.stage_on.result ≡ stage_on c.args.opening.now.recon c.args.link.now.src c.args.link.now.dst
stage_is c =
    let src = ap (λ (l : GatheredLink). l.src) c.link.view_is in
    let dst = ap (λ (l : GatheredLink). l.dst) c.link.view_is in
    c.stage_on.ensures.stage ∙ (λ k. stage_on (c.recon-2.ensures.recon k) (src k) (dst k))

-- the segment of a note of the link goes along it, in the stage
segment_is : (o : OpeningValue) (g : GatheredValue) (link : GatheredLink) (note : Note) → IsLinkNote o g link note
    → (is_on_link o link.src link.dst note.seg ≡ true) × (stage_on o.recon link.src link.dst ≡ g.stage)
segment_is o g link note is =
    let parts = and_parts (is_on_link o link.src link.dst note.seg) (runs_in o g.stage link.src link.dst) is.segment in
    (parts.0, eqb-true (stage_on o.recon link.src link.dst) g.stage parts.1)

pub returns-then-not-goes : goal.returns-then-not-goes
returns-then-not-goes c =
    let along = goes_along (goal.at.returns-then-not-goes c).After-goes in
    decides_not (λ is. true≢false (sym (segment_is c.args.opening.now c.args.g.now c.args.link.now c.args.note.now is).0 ∙ sym along ∙ c.if-not-goes.true))

pub returns-then-stage_on-g : goal.returns-then-stage_on-g
returns-then-stage_on-g c =
    let stage = stage_is (goal.at.returns-then-stage_on-g c).After-stage_on in
    decides_not (λ is. c.if-stage_on-g.true (stage ∙ (segment_is c.args.opening.now c.args.g.now c.args.link.now c.args.note.now is).1 ∙ sym (ap (λ (v : GatheredValue). v.stage) c.g.view_is)))

pub returns : goal.returns
returns c =
    let o = c.args.opening.now in
    let g = c.args.g.now in
    let link = c.args.link.now in
    let note = c.args.note.now in
    let src : c.link.inside.src ≡ link.src = ap (λ (l : GatheredLink). l.src) c.link.view_is in
    let dst : c.link.inside.dst ≡ link.dst = ap (λ (l : GatheredLink). l.dst) c.link.view_is in
    let from : note.src ≡ c.link.inside.src = search rules in
    let to : note.dst ≡ c.link.inside.dst = search rules in
    let along : is_on_link o link.src link.dst note.seg ≡ true = sym (goes_along (goal.at.returns c).After-goes) ∙ c.if-not-goes.false in
    let stage : stage_on o.recon link.src link.dst ≡ g.stage = sym (stage_is (goal.at.returns c).After-stage_on) ∙ c.if-stage_on-g.false ∙ ap (λ (v : GatheredValue). v.stage) c.g.view_is in
    let statuses : c.deref.result.now ≡ g.statuses = c.deref.ensures.value ∙ ap (λ (g : GatheredValue). g.statuses) c.g.view_is in
    let status : c.status_of.result ≡ gathered_status g note.seg note.node = c.status_of.ensures.status ∙ ap (λ (ws : List (List Status)). status_at (slice_index_or ws note.seg []) note.node) statuses in
    let begun : c.is_begun.result ≡ is_begun (gathered_status g note.seg note.node) = c.is_begun.ensures ∙ ap is_begun status in (
      (λ e. record {
        comes_from = from ∙ src;
        goes_to = to ∙ dst;
        segment = and_from (is_on_link o link.src link.dst note.seg) (runs_in o g.stage link.src link.dst) along (eq-eqb (stage_on o.recon link.src link.dst) g.stage stage);
        node = c.status_of.ensures.node;
        begun = sym begun ∙ e;
      }),
      (λ is. begun ∙ is.begun),
    )

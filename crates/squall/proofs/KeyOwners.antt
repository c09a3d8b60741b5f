-- What was written of owners.
use Rattle.std.proofs.Common.{◌≡◌, ◌∙◌, ℕ, Bool, List, inl, ap, subst}
use Rattle.std.specs.Prelude.{Option, Some, is_some, Result, IfOk}
use Rattle.std.specs.Fmt.{option_append}
use Rattle.sq_schema.specs.declared.schema.TheConstants.{MAX_TABLES}
use Rattle.sq_input.specs.Inputs.{plan_lines}
use Rattle.sq_text.specs.declared.output_fault.WriteFault.{WriteFault}
use Rattle.sq_world.specs.declared.ending.Ending.{Ending}
use Rattle.sq_picture.specs.Asked.{TellsOpening}
use Rattle.squall.specs.Session.{exit_status, widest_config, OwnersAs, EndsOwners}

-- the text is of an opening that the lines of two plans and of the sizes spell
pub told_owners : (keys roots : List ℕ) (width : Option ℕ) (tells_leaves json : Bool) (lines given config : List ℕ) (held before now : Option (List ℕ)) (told : Result Ending WriteFault) (status : ℕ)
    → ((old : List ℕ) × (new : List ℕ) × (lines ≡ plan_lines old new)) → given ≡ lines → config ≡ widest_config width → held ≡ option_append (Some given) (Some config) → roots ≡ keys → tells_leaves ≡ is_some width
    → IfOk told (TellsOpening (OwnersAs json tells_leaves roots) MAX_TABLES held before now) → status ≡ exit_status told → EndsOwners keys width json before now status
told_owners keys roots width tells_leaves json lines given config held before now told status spelled same spells put are tells says ends =
    let header : Option (List ℕ) = option_append (Some (plan_lines spelled.0 spelled.1)) (Some (widest_config width)) in
    let is : held ≡ header = put ∙ ap (λ (front : List ℕ). option_append (Some front) (Some config)) (same ∙ spelled.2) ∙ ap (λ (end : List ℕ). option_append (Some (plan_lines spelled.0 spelled.1)) (Some end)) spells in
    let of_header : IfOk told (TellsOpening (OwnersAs json tells_leaves roots) MAX_TABLES header before now) = subst (λ (h : Option (List ℕ)). IfOk told (TellsOpening (OwnersAs json tells_leaves roots) MAX_TABLES h before now)) is says in
    let of_keys : IfOk told (TellsOpening (OwnersAs json tells_leaves keys) MAX_TABLES header before now) = subst (λ (ks : List ℕ). IfOk told (TellsOpening (OwnersAs json tells_leaves ks) MAX_TABLES header before now)) are of_header in
    inl (
      spelled.0,
      spelled.1,
      record {
        ran = told;
        holds = subst (λ (b : Bool). IfOk told (TellsOpening (OwnersAs json b keys) MAX_TABLES header before now)) tells of_keys;
        status_is = ends;
      },
    )

-- Versions, by what a JSON value says of them.
use Rattle.std.proofs.Common.{◌≡◌, ℕ, eqb, true, ◌||◌, List, Option, None, Some, option_map, option_and_then, codes, refl, sym, ap, subst, inl, inr, ◌∙◌}
use Rattle.std.specs.Prelude.{bytes_eq}
use Rattle.std.proofs.lemmas.Bool.{cases_Bool, cond-true, cond-false, eqb-true}
use Rattle.std.proofs.lemmas.Option.{same_Some, none-some, option_and_then_some}
use Rattle.std.proofs.lemmas.Slice.Eq.{bytes_eq-Decides}
use Rattle.serde_json.specs.Data.{Data, null, boolean, number, string, array, object}
use Rattle.serde_json.specs.Find.{get, as_str}
use Rattle.sq_plan.specs.declared.version.Stages.{Stages}
use Rattle.sq_plan.specs.declared.version.Stages.TheVariants.{One, Auto}
use Rattle.sq_plan.specs.declared.version.Version.{Version}
use Rattle.sq_plan.specs.declared.version.Version.TheVariants.{First, Second}
use Rattle.sq_plan.specs.Version.{version_number, stages_name, stages_named}
use Rattle.sq_plan.specs.Spelling.{SpellsStages}
use Rattle.sq_plan.specs.Reading.{text_at, stages_at, version_by}

-- a text that compares equal is the same
same_text : (one other : List ℕ) → bytes_eq one other ≡ true → one ≡ other
same_text one other is = (bytes_eq-Decides one other).0 is

-- what a text names has this name
stages_named-is : (name : List ℕ) (stages : Stages) → stages_named name ≡ Some stages → stages_name stages ≡ name
unfolding stages_named
stages_named-is name stages is =
    elim (cases_Bool (bytes_eq (codes "one") name)) [
      | inl one ↦ subst (λ (s : Stages). stages_name s ≡ name) (same_Some _ _ (sym (cond-true _ _ _ one) ∙ is)) (same_text _ _ one)
      | inr not_one ↦
          elim (cases_Bool (bytes_eq (codes "auto") name)) [
            | inl auto ↦ subst (λ (s : Stages). stages_name s ≡ name) (same_Some _ _ (sym (cond-false _ _ _ not_one ∙ cond-true _ _ _ auto) ∙ is)) (same_text _ _ auto)
            | inr not_auto ↦ absurd (none-some stages (sym (cond-false _ _ _ not_one ∙ cond-false _ _ _ not_auto) ∙ is))
          ]
    ]

pub named-stages_name : (stages : Stages) → stages_named (stages_name stages) ≡ Some stages
unfolding stages_named
named-stages_name One = refl
named-stages_name Auto = refl

text_is : (value : Data) (text : List ℕ) → as_str value ≡ Some text → value ≡ string text
text_is null text is = absurd cc
text_is (boolean b) text is = absurd cc
text_is (number n) text is = absurd cc
text_is (string s) text is = ap string (same_Some _ _ is)
text_is (array ds) text is = absurd cc
text_is (object ms) text is = absurd cc

text_at-is : (name : List ℕ) (value : Data) (text : List ℕ) → text_at name value ≡ Some text → get name value ≡ Some (string text)
text_at-is name value text is = option_and_then_some as_str (get name value) text is (λ d e f. e ∙ ap Some (text_is d text f))

-- the version is spelled that a number and the plan's word on stages give
pub record IsSpelled (n : ℕ) (value : Data) (version : Version) : Type 0 where
  pub has_number : n ≡ version_number version
  pub has_stages : SpellsStages value version

second_spelled : (value : Data) (stages text : Option (List ℕ)) (version : Version) → text_at (codes "stages") value ≡ text → option_map Some text ≡ Some stages → version_by stages ≡ Some version → IsSpelled 2 value version
second_spelled value stages None version found said told = absurd cc
second_spelled value stages (Some text) version found said told =
    by_name (stages_named text) refl (ap version_by (same_Some _ _ said) ∙ told)
  where
    by_name : (named : Option Stages) → stages_named text ≡ named → option_map Second named ≡ Some version → IsSpelled 2 value version
    by_name None is told = absurd cc
    by_name (Some which) is told =
        subst (IsSpelled 2 value) (same_Some _ _ told)
        (record { has_number = refl; has_stages = text_at-is (codes "stages") value text found ∙ ap (λ (t : List ℕ). Some (string t)) (sym (stages_named-is text which is)) })

pub version_spelled : (n : ℕ) (value : Data) (stages : Option (List ℕ)) (version : Version) → (eqb n 1 || eqb n 2) ≡ true → stages_at n value ≡ Some stages → version_by stages ≡ Some version → IsSpelled n value version
version_spelled n value stages version known said told =
    elim (cases_Bool (eqb n 1)) [
      | inl first ↦
          let none : None ≡ stages = same_Some _ _ (sym (cond-true _ _ _ first) ∙ said) in
          subst (IsSpelled n value) (same_Some _ _ (ap version_by none ∙ told)) (record { has_number = eqb-true _ _ first; has_stages = tt })
      | inr later ↦
          let second : eqb n 2 ≡ true = sym (ap (λ b. b || eqb n 2) later) ∙ known in
          subst (λ m. IsSpelled m value version) (sym (eqb-true _ _ second)) (second_spelled value stages _ version refl (sym (cond-false _ _ _ later) ∙ said) told)
    ]

-- what a plan of this version says of stages
abbrev pub stages_said : Version → Option (List ℕ)
stages_said First = None
stages_said (Second stages) = Some (stages_name stages)

pub version_said : (version : Version) → version_by (stages_said version) ≡ Some version
version_said First = refl
version_said (Second stages) = ap (option_map Second) (named-stages_name stages)

pub known_number : (version : Version) → (eqb (version_number version) 1 || eqb (version_number version) 2) ≡ true
known_number First = refl
known_number (Second stages) = refl

pub stages_at-said : (value : Data) (version : Version) → SpellsStages value version → stages_at (version_number version) value ≡ Some (stages_said version)
stages_at-said value First spells = refl
stages_at-said value (Second stages) spells = ap (λ (d : Option Data). option_map Some (option_and_then as_str d)) spells

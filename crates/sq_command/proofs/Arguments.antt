-- Arguments and subcommands that are added to a command.
use Rattle.std.proofs.Common.{◌≡◌, false, ap, ◌∙◌}
use Rattle.std.specs.Prelude.{◌||◌, Result, Ok, IfOk}
use Rattle.std.specs.declared.alloc.AllocError.{AllocError}
use Rattle.std.proofs.Math.Bool.{or-false}
use Rattle.std.proofs.lemmas.Result.{IfOk-at_ok, IfOk-weaker}
use Rattle.clap.specs.Walk.{Rule, rule_of}
use Rattle.clap.specs.Simple.{App, Shape, app_of, shape_of, with_subcommand}
use Rattle.clap.specs.Built.{AddsArg, AddsSubcommand}
use Rattle.clap.specs.declared.builder.arg.Arg.{Arg}
use Rattle.clap.specs.declared.builder.command.Command.{Command}
use Rattle.clap.specs.declared.builder.command.Command.TheViews.{out-Command}
use Rattle.sq_command.specs.Commands.{HasShape, larger}

-- an argument that goes for the command alone adds its rule, and nothing that goes for all
module _ (old new : Command) (arg : Arg) (adds : AddsArg old arg new) (own : arg.global ≡ false) where
  shape_then : shape_of new ≡ larger (shape_of old) (rule_of arg)
  shape_then = ap (λ (app : App). app.top) (adds.shape own)

  still_own : (out-Command new).has_globals ≡ (out-Command old).has_globals
  still_own = adds.globals ∙ ap (λ is. (out-Command old).has_globals || is) own ∙ or-false (out-Command old).has_globals

-- one rule more, of a known shape
larger_is : (was : Shape) (is : Shape) (rule known : Rule) → was ≡ is → rule ≡ known → larger was rule ≡ larger is known
larger_is was is rule known same told = λ i. larger (same i) (told i)

-- one subcommand more, of a known shape
added_is : (was is : App) (shape known : Shape) → was ≡ is → shape ≡ known → with_subcommand was shape ≡ with_subcommand is known
added_is was is shape known same told = λ i. with_subcommand (same i) (told i)

-- a command to begin with, of a known shape
pub begun : (command : Command) (shape : Shape) → shape_of command ≡ shape → (out-Command command).has_globals ≡ false → HasShape shape (Ok command)
begun command shape same own = record { shaped = same; local = own }

-- an argument of a known rule is added to a command of a known shape
pub argument_added : (made : Result Command AllocError) (old : Command) (arg : Arg) (added : Result Command AllocError) (shape : Shape) (rule : Rule) → made ≡ Ok old → IfOk added (AddsArg old arg)
    → arg.global ≡ false → HasShape shape made → rule_of arg ≡ rule → HasShape (larger shape rule) added
argument_added made old arg added shape rule is adds own had told =
    let same = IfOk-at_ok (λ command. shape_of command ≡ shape) is had.shaped in
    let local = IfOk-at_ok (λ command. (out-Command command).has_globals ≡ false) is had.local in
    record {
      shaped = IfOk-weaker added (AddsArg old arg) (λ new. shape_of new ≡ larger shape rule) (λ new more. shape_then old new arg more own ∙ larger_is _ _ _ _ same told) adds;
      local = IfOk-weaker added (AddsArg old arg) (λ new. (out-Command new).has_globals ≡ false) (λ new more. still_own old new arg more own ∙ local) adds;
    }

-- a subcommand of a known shape is added to a known command
pub subcommand_added : (made sub : Result Command AllocError) (old inner : Command) (added : Result Command AllocError) (app : App) (shape : Shape) → made ≡ Ok old → sub ≡ Ok inner
    → IfOk added (AddsSubcommand old inner) → IfOk made (λ had. app_of had ≡ app) → HasShape shape sub → IfOk added (λ more. app_of more ≡ with_subcommand app shape)
subcommand_added made sub old inner added app shape is of adds had shaped =
    let was = IfOk-at_ok (λ command. app_of command ≡ app) is had in
    let same = IfOk-at_ok (λ command. shape_of command ≡ shape) of shaped.shaped in
    let local = IfOk-at_ok (λ command. (out-Command command).has_globals ≡ false) of shaped.local in
    IfOk-weaker added (AddsSubcommand old inner) (λ more. app_of more ≡ with_subcommand app shape) (λ new more. more.shape local ∙ added_is _ _ _ _ was same) adds

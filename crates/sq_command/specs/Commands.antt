-- The program's command, as `clap` reads it.
use Rattle.std.specs.Prelude.{◌≡◌, ℕ, true, false, [], ◌∷◌, ◌++◌, codes, pos, Some, Result, IfOk}
use Rattle.std.specs.declared.alloc.AllocError.{AllocError}
use Rattle.clap.specs.Walk.{Text, Rule}
use Rattle.clap.specs.Words.{App, shape_of, with_subcommand}
use Rattle.clap.specs.Simple.{Shape, new_shape, new_rule}
use Rattle.clap.specs.declared.builder.action.ArgAction.TheVariants.{SetTrue, Append}
use Rattle.clap.specs.declared.builder.command.Command.{Command}
use Rattle.clap.specs.declared.builder.command.Command.TheViews.{out-Command}
use Rattle.clap.specs.declared.builder.value_parser.ValueParser.{ValueParser}
use Rattle.clap.specs.declared.builder.value_parser.ValueParser.TheVariants.{Signed, Unsigned}
use Rattle.sq_command.specs.declared.tasks.TheConstants.{MAX_TURNS, MAX_PUMPS}
use Rattle.sq_command.specs.declared.owner.TheConstants.{MAX_WIDTH}
use Rattle.sq_command.specs.declared.demo.TheConstants.{LEAST_PARTITIONS, MAX_PARTITIONS, MAX_ROOTS, MAX_ROWS_PER_ROOT, MAX_JOBS, MAX_HOT, MAX_SEED}

-- the command has this shape and no argument that its subcommands inherit, unless memory ran out
pub record HasShape (shape : Shape) (made : Result Command AllocError) : Type 0 where
  pub shaped : IfOk made (λ command. shape_of command ≡ shape)
  pub local : IfOk made (λ command. (out-Command command).has_globals ≡ false)

-- the program has a version, and wants a subcommand
abbrev pub program : Shape
program = record (new_shape (codes "squall")) { has_version = true; subcommand_required = true }

-- an option with a value, for example the name of a file
abbrev pub valued_rule : Text → Rule
valued_rule name = record (new_rule name) { long = Some name; value_names = 1 }

-- an option whose value this parser accepts, with its default
abbrev pub option_rule : Text → ValueParser → Text → Rule
option_rule name parser default =
    record (valued_rule name) { parser = Some parser; defaults = default ∷ [] }

-- an option that takes no value
abbrev pub flag_rule : Text → Rule
flag_rule name = record (new_rule name) { long = Some name; action = Some SetTrue }

-- a word without an option's name: the file to read
abbrev pub file_rule : Rule
file_rule = record (new_rule (codes "file")) { value_names = 1 }

-- a word that is a number of 16 bits
abbrev pub number_rule : Rule
number_rule =
    record (new_rule (codes "number")) {
      value_names = 1;
      parser = Some (Signed (pos 0) (pos 65535));
    }

-- the subcommand with one argument more
abbrev pub larger : Shape → Rule → Shape
larger shape rule = record shape { rules = shape.rules ++ rule ∷ [] }

-- the subcommand with the arguments for the files of an input: the file itself, and those of the
-- plans and the rows
abbrev pub with_input : Shape → Shape
with_input shape =
    larger (larger (larger (larger shape file_rule) (valued_rule (codes "old")))
    (valued_rule (codes "new"))) (valued_rule (codes "rows"))

-- the subcommand that executes the steps of a script
abbrev pub run_shape : Shape
run_shape =
    with_input (larger (larger (larger (larger (new_shape (codes "run"))
    (flag_rule (codes "echo"))) (flag_rule (codes "json"))) (flag_rule (codes "strict")))
    (valued_rule (codes "rows-out")))

-- the subcommand that lists what moves
abbrev pub ranges_shape : Shape
ranges_shape =
    with_input (larger (larger (larger (new_shape (codes "ranges"))
    (flag_rule (codes "json"))) (flag_rule (codes "svg"))) (flag_rule (codes "sizes")))

-- an option for a number from `least` to `most`, with the text of its default
abbrev pub counted_rule : Text → ℕ → ℕ → Text → Rule
counted_rule name least most default = option_rule name (Unsigned least most) default

-- the subcommand that runs jobs in threads, with its numeric options
abbrev pub numbered_shape : Shape
numbered_shape =
    larger (larger (new_shape (codes "live"))
    (counted_rule (codes "turns") 1 MAX_TURNS (codes "1000000")))
    (counted_rule (codes "pumps") 1 MAX_PUMPS (codes "1"))

-- the same with all its options
abbrev pub live_shape : Shape
live_shape =
    with_input (larger (larger (larger (larger (larger (larger (larger numbered_shape
    (flag_rule (codes "fold"))) (flag_rule (codes "json"))) (flag_rule (codes "summary")))
    (valued_rule (codes "summary-out")))
    (valued_rule (codes "timeline"))) (valued_rule (codes "replies")))
    (valued_rule (codes "rows-out")))

-- the subcommand that writes the script of a move
abbrev pub steps_shape : Shape
steps_shape = with_input (new_shape (codes "steps"))

-- a required option with a value
abbrev pub needed_rule : Text → Rule
needed_rule name = record (valued_rule name) { required = true }

-- the words that are root keys, at least one
abbrev pub keys_rule : Rule
keys_rule = record (new_rule (codes "key")) {
  value_names = 1;
  action = Some Append;
  parser = Some (Signed (pos 0) (pos 4294967295));
  required = true;
}

-- the option for the number of root keys in a leaf
abbrev pub width_rule : Rule
width_rule = record (valued_rule (codes "width")) { parser = Some (Unsigned 1 MAX_WIDTH) }

-- the subcommand that writes the owners of root keys
abbrev pub owner_shape : Shape
owner_shape =
    larger (larger (larger (larger (larger (new_shape (codes "owner"))
    (needed_rule (codes "old"))) (needed_rule (codes "new"))) width_rule)
    (flag_rule (codes "json"))) keys_rule

-- the subcommand that writes a sample input, with its options for partitions, root keys and rows
abbrev pub placed_shape : Shape
placed_shape =
    larger (larger (larger (new_shape (codes "demo"))
    (counted_rule (codes "partitions") LEAST_PARTITIONS MAX_PARTITIONS (codes "4")))
    (counted_rule (codes "roots") 1 MAX_ROOTS (codes "1000")))
    (counted_rule (codes "rows-per-root") 1 MAX_ROWS_PER_ROOT (codes "4"))

-- the same with its options for jobs
abbrev pub worked_shape : Shape
worked_shape =
    larger (larger (larger placed_shape (counted_rule (codes "jobs") 0 MAX_JOBS (codes "2000")))
    (counted_rule (codes "hot") 0 MAX_HOT (codes "50")))
    (counted_rule (codes "seed") 0 MAX_SEED (codes "1"))

-- a word that is the name of a folder
abbrev pub folder_rule : Rule
folder_rule = record (new_rule (codes "folder")) { value_names = 1; required = true }

-- the same with all its options and its folder
abbrev pub demo_shape : Shape
demo_shape = larger (larger worked_shape (flag_rule (codes "stages"))) folder_rule

-- the subcommand that serves an engine, with its numeric option and the flag that ends it early
abbrev pub served_shape : Shape
served_shape =
    larger (larger (new_shape (codes "serve"))
    (counted_rule (codes "pumps") 1 MAX_PUMPS (codes "1")))
    (flag_rule (codes "strict"))

-- the same with its options for reports and for the rows at the end
abbrev pub reported_shape : Shape
reported_shape =
    larger (larger (larger (larger served_shape (valued_rule (codes "summary-out")))
    (valued_rule (codes "timeline"))) (valued_rule (codes "rows-out"))) (valued_rule (codes "metrics"))

-- the same with all its options
abbrev pub serve_shape : Shape
serve_shape =
    larger (larger (larger reported_shape (valued_rule (codes "plan"))) (valued_rule (codes "rows")))
    file_rule

-- the subcommand that explains numbers
abbrev pub explain_shape : Shape
explain_shape = larger (new_shape (codes "explain")) number_rule

-- the command with the subcommands that work on an input
abbrev pub working : App
working =
    with_subcommand (with_subcommand (with_subcommand (with_subcommand
    (record { top = program; subs = [] }) run_shape) ranges_shape) live_shape) steps_shape

-- the command with all its subcommands
abbrev pub squall : App
squall =
    with_subcommand (with_subcommand (with_subcommand (with_subcommand
    working owner_shape) demo_shape) serve_shape) explain_shape

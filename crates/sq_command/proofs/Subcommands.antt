-- What the words of a command line name where `clap` finds no fault in them.
use Rattle.std.proofs.Common.{◌≡◌, inl, inr, ◌∙◌, ℕ, Bool, true, false, not, ◌&&◌, ◌||◌, if◌then◌else◌, cond, List, [], ◌∷◌, Option, Some, None, refl, sym, ap, subst, codes, bytes_eq, unwrap_or, drop, fold, option_map, is_some, true≢false}
use Rattle.std.proofs.lemmas.Slice.Eq.{bytes_eq-Decides}
use Rattle.std.proofs.Math.Bool.{or-false}
use Rattle.std.specs.Bool.{one_answer}
use Rattle.std.specs.List.{list_any}
use Rattle.std.specs.Prelude.{IsSomeAnd, find, map, take, slice_get, ◌++◌}
use Rattle.clap.specs.Walk.{answers_to, Held, Names, Outcome, Row, Rule, Step, Text, Waiting, Walk, idle, option, positional, next, trailing, subcommand, value, done, waits, plain, refused, after_flag, after_step, finished, settled, arg_by_index, arg_by_long, bundle, long_met, long_or_other, nothing_held, plain_word, short_or_plain, stop_after, subcommand_met, subcommand_or_other, to_positional, walk_from, walk, walked, walked_from, word_met}
use Rattle.clap.specs.Lexer.{long_of, short_of}
use Rattle.clap.specs.Kinds.{Kinds, HasKind, or_else}
use Rattle.clap.specs.Faults.{check_fault, defaults_fault, entered_fault, fault_of, other_fault, settle_fault, step_fault, turn_fault, walk_fault, word_fault, is_simple_and_free}
use Rattle.clap.specs.Simple.{Shape, built, entered, names_of, label_of, new_shape, rows_at, subcommand_of, App, HasMatchesOf, app_of, is_simple, subcommand_rows, subcommand_rows_of}
use Rattle.clap.specs.Matches.{subcommand_name_of}
use Rattle.clap.specs.declared.builder.command.Command.{Command}
use Rattle.clap.specs.declared.parser.matches.ArgMatches.{ArgMatches}
use Rattle.clap.specs.declared.parser.matches.ArgMatches.TheViews.{out-ArgMatches, out-SubCommand}
use Rattle.clap.specs.declared.parser.matches.SubCommand.{SubCommand}
use Rattle.std.specs.Prelude.{Box}
use Rattle.std.specs.Box.{box_value}
use Rattle.clap.specs.declared.error.kind.ErrorKind.TheVariants.{DisplayHelp, InvalidSubcommand}
use Rattle.std.specs.Prelude.{Result, Ok, Err, IfOk}
use Rattle.clap.specs.declared.error.Error.{Error}
use Rattle.sq_command.specs.Commands.{squall}
use Rattle.sq_command.specs.Line.{IsSubcommand, IsAskedOf, Settles, ComesOf, LineIsWithin}
use Rattle.sq_command.specs.declared.clash.Clash.{Clash}
use Rattle.sq_command.specs.declared.line.Line.{Line}

-- ---- what finds no fault

none_before : (a b : Kinds) → or_else a b ≡ [] → a ≡ []
none_before [] b e = refl
none_before (k ∷ ks) b e = e

none_after : (a b : Kinds) → or_else a b ≡ [] → b ≡ []
none_after [] b e = e
none_after (k ∷ ks) b e = cc

-- ---- a word that names no subcommand enters none

abbrev goes_on : Step → Bool
goes_on (subcommand name) = false
goes_on _ = true

plain_goes_on : (c : List Rule) (waiting : Waiting) (word : Text) (h : Held) → goes_on (plain_word c waiting word h).1 ≡ true
plain_goes_on c idle word h = refl
plain_goes_on c (option id) word h = refl
plain_goes_on c positional word h = refl

flag_goes_on : (c : List Rule) (waiting : Waiting) (word : Text) (h : Held) (o : Outcome) → goes_on (after_flag c waiting word h o).1 ≡ true
flag_goes_on c waiting word h done = refl
flag_goes_on c waiting word h (waits id) = refl
flag_goes_on c waiting word h plain = plain_goes_on c waiting word h
flag_goes_on c waiting word h refused = plain_goes_on c waiting word h

short_goes_on : (c : List Rule) (waiting : Waiting) (word : Text) (flags : Option Text) (h : Held) → goes_on (short_or_plain c waiting word flags h).1 ≡ true
short_goes_on c waiting word (Some flags) h = flag_goes_on c waiting word (bundle c flags h).0 (bundle c flags h).1
short_goes_on c waiting word None h = plain_goes_on c waiting word h

long_goes_on : (c : List Rule) (waiting : Waiting) (word : Text) (p : Option (Text × Option Text)) (h : Held) → goes_on (long_or_other c waiting word p h).1 ≡ true
long_goes_on c waiting word (Some p) h =
    flag_goes_on c waiting word (long_met c (arg_by_long c p.0) p.1 h).0 (long_met c (arg_by_long c p.0) p.1 h).1
long_goes_on c waiting word None h = short_goes_on c waiting word (short_of word) h

other_goes_on : (c : List Rule) (waiting : Waiting) (position : ℕ) (word : Text) (h : Held) → goes_on (subcommand_or_other c None waiting position word h).1 ≡ true
other_goes_on c waiting position word h = either (bytes_eq word (45 ∷ 45 ∷ []))
  where
    either : (b : Bool) → goes_on (if b then (h, trailing position) else long_or_other c waiting word (long_of word) h).1 ≡ true
    either true = refl
    either false = long_goes_on c waiting word (long_of word) h

to_positional_stays : (c : List Rule) (a : Option Rule) (word : Text) (w : Walk) (h : Held) → w.stopped ≡ None → (to_positional c a word w h).stopped ≡ None
to_positional_stays c None word w h e = e
to_positional_stays c (Some a) word w h e = refl

stays : (c : List Rule) (word : Text) (w : Walk) (h : Held) (step : Step) → w.stopped ≡ None → goes_on step ≡ true → (after_step c word w h step).stopped ≡ None
stays c word w h (next waiting) e on = e
stays c word w h (trailing position) e on = e
stays c word w h (subcommand name) e on = absurd (true≢false (sym on))
stays c word w h value e on = to_positional_stays c (arg_by_index c w.position) word w h e

-- ---- the walk stops at no call for help

abbrev is_own : Option (Text × List Text) → Bool
is_own None = true
is_own (Some p) = not (bytes_eq (codes "help") p.0)

same_back : (a b : Text) → bytes_eq a b ≡ bytes_eq b a
same_back a b = one_answer (bytes_eq a b) (bytes_eq b a) (bytes_eq-Decides a b) (λ e. sym ((bytes_eq-Decides b a).0 e), λ e. (bytes_eq-Decides b a).1 (sym e))

no_help : (asked disabled : Bool) → disabled ≡ false → (if asked && not disabled then DisplayHelp ∷ InvalidSubcommand ∷ [] else []) ≡ [] → not asked ≡ true
no_help false disabled enabled fault = refl
no_help true true enabled fault = absurd (true≢false enabled)
no_help true false enabled fault = cc

module _ (s : Shape) (names : Names) (enabled : s.disable_help_subcommand ≡ false) where
  named : (met : Option Text) (w : Walk) (word : Text) → w.stopped ≡ None → other_fault s met word w.held ≡ []
      → is_own (after_step s.rules word w (subcommand_or_other s.rules met w.waiting w.position word w.held).0 (subcommand_or_other s.rules met w.waiting w.position word w.held).1).stopped ≡ true
  named (Some name) w word still fault =
      ap not (same_back (codes "help") name) ∙ no_help (bytes_eq name (codes "help")) s.disable_help_subcommand enabled fault
  named None w word still fault =
      let step = subcommand_or_other s.rules None w.waiting w.position word w.held in
      ap is_own (stays s.rules word w step.0 step.1 still (other_goes_on s.rules w.waiting w.position word w.held))

  read : (is_trailing : Bool) (w : Walk) (word : Text) → w.stopped ≡ None → word_fault s names is_trailing w.waiting word w.held ≡ []
      → is_own (after_step s.rules word w (word_met s.rules names is_trailing w.waiting w.position word w.held).0 (word_met s.rules names is_trailing w.waiting w.position word w.held).1).stopped ≡ true
  read true w word still fault = ap is_own (stays s.rules word w w.held value still refl)
  read false w word still fault = named (subcommand_met names w.waiting word) w word still fault

  step_result : (stop : Option (Text × List Text)) (w : Walk) (word : Text) (rest : Kinds) → w.stopped ≡ stop → is_own stop ≡ true
      → (if is_some stop then [] else or_else (word_fault s names w.is_trailing w.waiting word w.held) rest) ≡ []
      → is_own (walked_from s.rules names stop w word).stopped ≡ true
  step_result (Some p) w word rest at own fault = own
  step_result None w word rest at own fault = read w.is_trailing w word at (none_before (word_fault s names w.is_trailing w.waiting word w.held) rest fault)

  walks : (w : Walk) (words : List Text) → is_own w.stopped ≡ true → walk_fault s names w words ≡ [] → is_own (fold (walked s.rules names) w words).stopped ≡ true
  unfolding walk_fault walked
  walks w [] own fault = own
  walks w (word ∷ words) own fault =
      let met = word_met s.rules names w.is_trailing w.waiting w.position word w.held in
      let after = walk_fault s names (walked s.rules names w word) words in
      walks (walked s.rules names w word) words
      (step_result w.stopped w word (step_fault s w.position met.0 met.1) refl own (none_before (turn_fault s names w word) after fault))
      (none_after (turn_fault s names w word) after fault)

-- ---- the command's own subcommands

abbrev name_met : Option (Text × List Row) → Option Text
name_met = option_map (λ sub. sub.0)

-- the name is one of these commands' names
abbrev IsNamed : List Shape → Option Text → Type 0
IsNamed shapes name = IsSomeAnd name (λ n. list_any (bytes_eq n) (map (λ s. s.name) shapes) ≡ true)

or_true : (b : Bool) → (b || true) ≡ true
or_true true = refl
or_true false = refl

-- the subcommand that words enter, among these and a last one that they don't name, is one of these
found : (answers : Shape → Bool) (words : List Text) (shapes : List Shape) (last : Shape) → answers last ≡ false
    → is_some (option_map (λ s. rows_at s words) (find answers (shapes ++ last ∷ []))) ≡ true
    → IsNamed shapes (name_met (option_map (λ s. rows_at s words) (find answers (shapes ++ last ∷ []))))
found answers words [] last other met = absurd (true≢false (sym met ∙ ap (λ is. is_some (option_map (λ s. rows_at s words) (cond is (Some last) None))) other))
found answers words (s ∷ shapes) last other met = either (answers s) (λ is. found answers words shapes last other is) met
  where
    later : (name : Option Text) → IsNamed shapes name → IsNamed (s ∷ shapes) name
    later None own = own
    later (Some name) own = ap (λ is. bytes_eq name s.name || is) own ∙ or_true (bytes_eq name s.name)

    either : (is : Bool)
        → (is_some (option_map (λ s. rows_at s words) (find answers (shapes ++ last ∷ []))) ≡ true
        → IsNamed shapes (name_met (option_map (λ s. rows_at s words) (find answers (shapes ++ last ∷ [])))))
        → is_some (option_map (λ s. rows_at s words) (cond is (Some s) (find answers (shapes ++ last ∷ [])))) ≡ true
        → IsNamed (s ∷ shapes) (name_met (option_map (λ s. rows_at s words) (cond is (Some s) (find answers (shapes ++ last ∷ [])))))
    either true among met = ap (λ same. same || list_any (bytes_eq s.name) (map (λ s. s.name) shapes)) ((bytes_eq-Decides s.name s.name).1 refl)
    either false among met = later (name_met (option_map (λ s. rows_at s words) (find answers (shapes ++ last ∷ [])))) (among met)

-- the name is a subcommand's name of the command
abbrev pub IsOwn : Option Text → Type 0
IsOwn name = IsSomeAnd name IsSubcommand

-- the command's own subcommands
abbrev own_shapes : List Shape
own_shapes = take 8 (built squall).subs

not_false : (b : Bool) → not b ≡ true → b ≡ false
not_false true e = absurd (true≢false (sym e))
not_false false e = refl

or_false : (b : Bool) → b ≡ false → (b || false) ≡ false
or_false b e = ap (λ is. is || false) e

names_own : (stop : Option (Text × List Text)) → is_own stop ≡ true → is_some (entered (built squall) stop) ≡ true
    → IsOwn (name_met (entered (built squall) stop))
names_own None own met = absurd (true≢false (sym met))
names_own (Some p) own met =
    found (λ s. answers_to p.0 (label_of s)) p.1 own_shapes (unwrap_or (slice_get (built squall).subs 8) (new_shape []))
    (or_false (bytes_eq (codes "help") p.0) (not_false (bytes_eq (codes "help") p.0) own)) met

is_required : (has : Bool) (rows : List Row) → check_fault (built squall).top rows has ≡ [] → has ≡ true
is_required true rows e = refl
is_required false rows e = cc

-- where the words have no fault they name a subcommand of the command
names_one : (words : List Text) → fault_of squall words ≡ [] → IsOwn (name_met (subcommand_of squall words))
names_one words fault =
    let a = built squall in
    let args = drop 1 words in
    let end = (walk a.top.rules (names_of a) nothing_held args).held in
    let stop = stop_after a.top.rules (names_of a) args in
    let has = is_some (entered a stop) in
    let walk_kinds = walk_fault a.top (names_of a) (walk_from nothing_held) args in
    let below = entered_fault a stop in
    let settle = settle_fault a.top.rules a.top.args_override_self end in
    let defaults = defaults_fault (settled a.top.rules end).rows a.top.rules in
    let rows = finished a.top.rules end in
    let check = check_fault a.top rows has in
    let past_walk : or_else below (or_else settle (or_else defaults check)) ≡ [] = none_after walk_kinds (or_else below (or_else settle (or_else defaults check))) fault in
    let past_below : or_else settle (or_else defaults check) ≡ [] = none_after below (or_else settle (or_else defaults check)) past_walk in
    let past_settle : or_else defaults check ≡ [] = none_after settle (or_else defaults check) past_below in
    let past_all : check ≡ [] = none_after defaults check past_settle in
    let own : is_own stop ≡ true = walks a.top (names_of a) refl (walk_from nothing_held) args refl (none_before walk_kinds (or_else below (or_else settle (or_else defaults check))) fault) in
    names_own stop own (is_required has rows past_all)

-- ---- what the caller of `clap` reads

module _ {Z : Type 0} where
  name_in_rows : (o : Option (Box SubCommand Z)) → option_map (λ b. (out-SubCommand (box_value b)).name.now) o ≡ name_met (subcommand_rows o)
  name_in_rows None = refl
  name_in_rows (Some b) = refl

-- a parse that succeeds finds no fault in the words
pub without_fault : (command : Command) (words : List Text) → app_of command ≡ squall
    → (is_simple_and_free (app_of command) ≡ true → fault_of (app_of command) words ≡ []) → fault_of squall words ≡ []
without_fault command words is_squall kinds = subst (λ (a : App). fault_of a words ≡ []) is_squall (kinds (ap is_simple_and_free is_squall))

-- and one that fails finds one
pub with_fault : (command : Command) (words : List Text) (error : Error) → app_of command ≡ squall
    → (is_simple_and_free (app_of command) ≡ true → HasKind (fault_of (app_of command) words) error) → HasKind (fault_of squall words) error
with_fault command words error is_squall kinds = subst (λ (a : App). HasKind (fault_of a words) error) is_squall (kinds (ap is_simple_and_free is_squall))

-- a parse that succeeds has met a subcommand of the command
pub met_own : (command : Command) (words : List Text) (m : ArgMatches) → app_of command ≡ squall
    → (is_simple_and_free (app_of command) ≡ true → fault_of (app_of command) words ≡ []) → HasMatchesOf (app_of command) words m
    → IsOwn (subcommand_name_of m)
met_own command words m is_squall kinds matches =
    let rows : subcommand_rows_of m ≡ subcommand_of squall words = (matches (ap is_simple is_squall)).1 ∙ ap (λ (a : App). subcommand_of a words) is_squall in
    let same : subcommand_name_of m ≡ name_met (subcommand_of squall words) = name_in_rows (out-ArgMatches m).subcommand ∙ ap name_met rows in
    subst IsOwn (sym same) (names_one words (without_fault command words is_squall kinds))

-- a subcommand by its name and by its rows
by_parts : (sub : Option (Text × List Row)) (name : Text) (rows : List Row) → Some name ≡ name_met sub → Some rows ≡ option_map (λ p. p.1) sub → sub ≡ Some (name, rows)
by_parts None name rows named told = cc named
by_parts (Some p) name rows named told = λ i. Some (unwrap_or (sym named i) name, unwrap_or (sym told i) rows)

-- the subcommand that a parse has met is the one that the words name
pub met_is : (command : Command) (words : List Text) (m : ArgMatches) (name : Text) (rows : List Row) → app_of command ≡ squall → HasMatchesOf (app_of command) words m
    → Some name ≡ subcommand_name_of m → Some rows ≡ option_map (λ p. p.1) (subcommand_rows_of m) → subcommand_of squall words ≡ Some (name, rows)
met_is command words m name rows is_squall matches named told =
    let same : subcommand_rows_of m ≡ subcommand_of squall words = (matches (ap is_simple is_squall)).1 ∙ ap (λ (a : App). subcommand_of a words) is_squall in
    sym same ∙ by_parts (subcommand_rows_of m) name rows (named ∙ name_in_rows (out-ArgMatches m).subcommand) told

-- a name that is compared with a text is this text
pub is_text : (name text : Text) → true ≡ bytes_eq name text → name ≡ text
is_text name text same = (bytes_eq-Decides name text).0 (sym same)

-- a subcommand that is one of the command's is met
pub is_met : (met : Option Text) → IsOwn met → is_some met ≡ true
is_met None own = absurd own
is_met (Some name) own = refl

-- and its name is one of theirs
pub own_name : (name : Text) (met : Option Text) → Some name ≡ met → IsOwn met → IsSubcommand name
own_name name met is own = subst IsOwn (sym is) own

-- what holds of a list is true of what is behind a test that fails
past : (first rest : Bool) → false ≡ first → (first || rest) ≡ true → rest ≡ true
past true rest fails holds = absurd (true≢false (sym fails))
past false rest fails holds = holds

-- the name that is none of the others
pub is_explain : (name : Text) → IsSubcommand name → false ≡ bytes_eq name (codes "run") → false ≡ bytes_eq name (codes "ranges") → false ≡ bytes_eq name (codes "live")
    → false ≡ bytes_eq name (codes "steps") → false ≡ bytes_eq name (codes "owner") → false ≡ bytes_eq name (codes "demo") → false ≡ bytes_eq name (codes "serve") → name ≡ codes "explain"
is_explain name own no_run no_ranges no_live no_steps no_owner no_demo no_serve =
    let past_run = past _ _ no_run own in
    let past_ranges = past _ _ no_ranges past_run in
    let past_live = past _ _ no_live past_ranges in
    let past_steps = past _ _ no_steps past_live in
    let past_owner = past _ _ no_owner past_steps in
    let past_demo = past _ _ no_demo past_owner in
    let last : (bytes_eq name (codes "explain") || false) ≡ true = past _ _ no_serve past_demo in
    (bytes_eq-Decides name (codes "explain")).0 (sym (or-false (bytes_eq name (codes "explain"))) ∙ last)

-- the result of words in which no fault is found, by what the options of their subcommand ask for
module _ (words : List Text) (name : Text) (rows : List Row) (free : fault_of squall words ≡ []) (met : subcommand_of squall words ≡ Some (name, rows)) where
  pub settled_comes : (asked : Result Line Clash) (result : Result Line Error) → Settles asked result → IsAskedOf (Some (name, rows)) asked → ComesOf words result
  settled_comes (Ok line) (Ok settled) same asks = (free, rw (met, same) asks)
  settled_comes (Ok line) (Err error) same asks = absurd same
  settled_comes (Err clash) (Ok settled) same asks = absurd same
  settled_comes (Err clash) (Err error) (inl memory) asks = inl (inl memory)
  settled_comes (Err clash) (Err error) (inr kind) asks = inr (free, (clash, rw met asks, kind))

-- a line that settles is within its limits where the one that was asked for is
pub settled_within : (asked : Result Line Clash) (result : Result Line Error) → Settles asked result → IfOk asked LineIsWithin → IfOk result LineIsWithin
settled_within (Ok line) (Ok settled) same within = rw same within
settled_within (Ok line) (Err error) same within = absurd same
settled_within (Err clash) (Ok settled) same within = absurd same
settled_within (Err clash) (Err error) same within = tt

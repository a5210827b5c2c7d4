-- What `clap` makes of one word more that does not begin with `-`.
use Rattle.std.proofs.Common.{◌≡◌, refl, sym, ap, ap₂, append-nil, append_assoc, ◌∙◌, ℕ, Bool, false, List, [], ◌∷◌, ◌++◌, Some, None}
use Rattle.std.specs.Prelude.{Option, ◌&&◌, fold, option_and_then, if◌then◌else◌}
use Rattle.std.specs.Str.{bytes_eq}
use Rattle.std.specs.Option.{option_map_or}
use Rattle.clap.specs.Lexer.{long_of, short_of, long_of_rest, short_of_rest, strip_byte}
use Rattle.clap.specs.Walk.{Held, Names, Rule, Text, Walk, idle, value, trailing, arg_by_index, to_positional, subcommand_or_other, long_or_other, short_or_plain, after_step, walked, finished, settled}
use Rattle.clap.specs.Simple.{Shape}
use Rattle.clap.specs.Kinds.{Kinds, or_else}
use Rattle.clap.specs.Faults.{walk_fault, step_fault, settle_fault, defaults_fault, check_fault, other_fault, flag_word_fault, bundle_fault}
use Rattle.clap.specs.declared.error.kind.ErrorKind.TheVariants.{UnknownArgument}
use Rattle.pdl_cli_args.specs.Line.{where_taken, Command}
use Rattle.pdl_plain.specs.CommandLines.{begins_dashed}

-- a walk over words before any `--` or subcommand, where nothing waits for a value
abbrev pub at : Held → ℕ → Walk
at h position = record { held = h; waiting = idle; position = position; is_trailing = false; stopped = None }

-- such a walk after a word that goes to the next positional
abbrev pub placed : List Rule → Held → ℕ → Text → Walk
placed c h position word = to_positional c (arg_by_index c position) word (at h position) h

-- a word that does not begin with `-` is no `--`
not_dashes : (word : Text) → begins_dashed word ≡ false → bytes_eq word (45 ∷ 45 ∷ []) ≡ false
not_dashes [] e = refl
not_dashes (x ∷ xs) e = ap (λ b. b && bytes_eq xs (45 ∷ [])) e

-- no long flag
not_long : (word : Text) → begins_dashed word ≡ false → long_of word ≡ None
not_long [] e = refl
not_long (x ∷ xs) e = ap (λ (b : Bool). option_and_then long_of_rest (option_and_then (strip_byte 45) (if b then Some xs else None))) e

-- and no short one
not_short : (word : Text) → begins_dashed word ≡ false → short_of word ≡ None
not_short [] e = refl
not_short (x ∷ xs) e = ap (λ (b : Bool). option_and_then short_of_rest (if b then Some xs else None)) e

-- so it is a value, where no subcommand is met
pub met : (c : List Rule) (position : ℕ) (word : Text) (h : Held) → begins_dashed word ≡ false
    → subcommand_or_other c None idle position word h ≡ (h, value)
met c position word h e =
    ap (λ (b : Bool). if b then (h, trailing position) else long_or_other c idle word (long_of word) h) (not_dashes word e)
    ∙ ap (λ l. long_or_other c idle word l h) (not_long word e)
    ∙ ap (λ f. short_or_plain c idle word f h) (not_short word e)

-- with nothing wrong in itself
pub clean : (s : Shape) (word : Text) (h : Held) → begins_dashed word ≡ false → other_fault s None word h ≡ []
clean s word h e =
    ap (λ (b : Bool). if b then [] else flag_word_fault s.rules s.args_override_self (long_of word) word h) (not_dashes word e)
    ∙ ap (λ l. flag_word_fault s.rules s.args_override_self l word h) (not_long word e)
    ∙ ap (λ (f : Option Text). option_map_or (λ flags. bundle_fault s.rules s.args_override_self flags h) f []) (not_short word e)

-- so it goes to the next positional
pub stepped : (c : List Rule) (h : Held) (position : ℕ) (word : Text) → begins_dashed word ≡ false
    → walked c [] (at h position) word ≡ placed c h position word
unfolding walked
stepped c h position word e = ap (λ m. after_step c word (at h position) m.0 m.1) (met c position word h e)

-- and what may be wrong with it is what is wrong with a value there
pub faulted : (s : Shape) (h : Held) (position : ℕ) (word : Text) (rest : List Text) → begins_dashed word ≡ false
    → walk_fault s [] (at h position) (word ∷ rest)
    ≡ or_else (step_fault s position h value) (walk_fault s [] (placed s.rules h position word) rest)
unfolding walk_fault
faulted s h position word rest e =
    ap₂ (λ (k : Kinds) m. or_else (or_else k (step_fault s position m.0 m.1)) (walk_fault s [] (walked s.rules [] (at h position) word) rest))
    (clean s word h e) (met s.rules position word h e)
    ∙ ap (λ w. or_else (step_fault s position h value) (walk_fault s [] w rest)) (stepped s.rules h position word e)

-- the kinds of a subcommand's faults, of what is wrong with its words and of the walk at their end
abbrev pub leaf_fault : Shape → Kinds → Walk → Kinds
leaf_fault s wrong end =
    or_else wrong (or_else (settle_fault s.rules s.args_override_self end.held)
    (or_else (defaults_fault (settled s.rules end.held).rows s.rules) (check_fault s (finished s.rules end.held) false)))

-- the command of a subcommand's words
abbrev pub outcome : Shape → Kinds → Walk → Option Command
outcome s wrong end = where_taken (or_else (leaf_fault s wrong end) []) (Some (s.name, finished s.rules end.held))

-- the command of a subcommand's words from a place on
abbrev pub run_to : Shape → Held → ℕ → List Text → Option Command
run_to s h position rest = outcome s (walk_fault s [] (at h position) rest) (fold (walked s.rules []) (at h position) rest)

-- what is held after a word that goes to a positional
abbrev pub after : Shape → Held → ℕ → Text → Held
after s h position word = (placed s.rules h position word).held

-- a word that a positional takes is passed
pub on : (s : Shape) (h : Held) (position next : ℕ) (word : Text) (rest : List Text) → begins_dashed word ≡ false
    → step_fault s position h value ≡ [] → placed s.rules h position word ≡ at (after s h position word) next
    → run_to s h position (word ∷ rest) ≡ run_to s (after s h position word) next rest
on s h position next word rest e right goes =
    ap₂ (outcome s)
    (faulted s h position word rest e ∙ ap₂ or_else right (ap (λ w. walk_fault s [] w rest) goes))
    (ap (λ w. fold (walked s.rules []) w rest) (stepped s.rules h position word e ∙ goes))

-- a word that none takes is one too many
pub stray : (s : Shape) (h : Held) (position : ℕ) (word : Text) (rest : List Text) → begins_dashed word ≡ false
    → step_fault s position h value ≡ UnknownArgument ∷ []
    → run_to s h position (word ∷ rest) ≡ None
stray s h position word rest e wrong =
    ap (λ (kinds : Kinds). outcome s kinds (fold (walked s.rules []) (at h position) (word ∷ rest)))
    (faulted s h position word rest e ∙ ap (λ kinds. or_else kinds (walk_fault s [] (placed s.rules h position word) rest)) wrong)

-- once a subcommand is met, the words after it are its own
pub stays : (c : List Rule) (names : Names) (h : Held) (position : ℕ) (name : Text) (before rest : List Text)
    → fold (walked c names) (record (at h position) { stopped = Some (name, before) }) rest
    ≡ record (at h position) { stopped = Some (name, before ++ rest) }
unfolding walked
stays c names h position name before [] = ap (λ b. record (at h position) { stopped = Some (name, b) }) (sym (append-nil before))
stays c names h position name before (word ∷ rest) =
    stays c names h position name (before ++ word ∷ []) rest
    ∙ ap (λ b. record (at h position) { stopped = Some (name, b) }) (append_assoc before (word ∷ []) rest)

-- and no fault of the command above it
pub none_after : (s : Shape) (names : Names) (h : Held) (position : ℕ) (name : Text) (before rest : List Text)
    → walk_fault s names (record (at h position) { stopped = Some (name, before) }) rest ≡ []
unfolding walk_fault walked
none_after s names h position name before [] = refl
none_after s names h position name before (word ∷ rest) = none_after s names h position name (before ++ word ∷ []) rest

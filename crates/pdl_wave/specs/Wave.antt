-- What a value change dump says: its lines, their words, then the header, the changes at each time, and the value of a port by looking backwards.
use Rattle.std.specs.Prelude.{ℕ, suc, ◌+◌, ◌-◌, ◌<◌, ◌==◌, nat_eq, nat_le, nat_lt, Bool, true, false, not, ◌&&◌, ◌≡◌, List, [], ◌∷◌, length, map, drop, Option, Some, None, IsSomeAnd, slice_index, slice_index_or, bytes_eq, codes, decimal, if◌then◌else◌}
use Rattle.std.specs.List.{list_all, slice_split, starts_with}
use Rattle.std.specs.Option.{option_map}
use Rattle.std.specs.Str.Parse.{digits_value}
use Rattle.pdl_word.specs.Digits.{is_digit_of}
use Rattle.pdl_wave.specs.declared.port.WavePort.{WavePort}
use Rattle.pdl_wave.specs.Moments.{Change, Moment, differs, value_in}
use Rattle.pdl_wave.specs.Dump.{code}

-- ---- lines

-- what a line says
pub data DumpLine : Type 0 where
  Timescale : DumpLine
  Scope : List ℕ → DumpLine
  Var : ℕ → List ℕ → List ℕ → DumpLine
  Upscope : DumpLine
  EndDefinitions : DumpLine
  Time : ℕ → DumpLine
  NewValue : List ℕ → List ℕ → DumpLine
  Nothing : DumpLine
  Other : DumpLine

-- the number that these bytes are the decimal digits of
abbrev pub number : List ℕ → Option ℕ
number ds = if bytes_eq (decimal (digits_value 10 ds)) ds then Some (digits_value 10 ds) else None

-- what follows a front, where a word begins with it
abbrev pub after : List ℕ → List ℕ → Option (List ℕ)
after front word = if starts_with nat_eq word front then Some (drop (length front) word) else None

-- a word is `$end`
abbrev pub is_end : List ℕ → Bool
is_end word = bytes_eq word (codes "$end")

-- what an option tells, else another line
abbrev pub told : Option DumpLine → DumpLine
told None = Other
told (Some line) = line

-- `#` and a number
abbrev pub time_line : Option (List ℕ) → DumpLine
time_line None = Other
time_line (Some ds) = told (option_map Time (number ds))

-- `b` and binary digits, and a code
abbrev pub value_line : Option (List ℕ) → List ℕ → DumpLine
value_line None word = Other
value_line (Some ds) word = if list_all (is_digit_of 2) ds then NewValue ds word else Other

-- a line of one word: a time, or nothing
abbrev pub one_word : List ℕ → DumpLine
one_word [] = Nothing
one_word (c ∷ cs) = time_line (after (codes "#") (c ∷ cs))

-- of two: the end of the scope, that of the header, or a value
abbrev pub two_words : List ℕ → List ℕ → DumpLine
two_words a b =
    if bytes_eq a (codes "$upscope") && is_end b then Upscope
    else if bytes_eq a (codes "$enddefinitions") && is_end b then EndDefinitions
    else value_line (after (codes "b") a) b

-- of four: the time scale, or the scope
abbrev pub four_words : List ℕ → List ℕ → List ℕ → List ℕ → DumpLine
four_words a b c d =
    if bytes_eq a (codes "$timescale") && (bytes_eq b (codes "1") && (bytes_eq c (codes "ns") && is_end d)) then Timescale
    else if bytes_eq a (codes "$scope") && (bytes_eq b (codes "module") && is_end d) then told (option_map Scope (after (codes "pdl_") c))
    else Other

-- of six: a port with its width, its code and its name
abbrev pub six_words : List ℕ → List ℕ → List ℕ → List ℕ → List ℕ → List ℕ → DumpLine
six_words a b c d e f =
    if bytes_eq a (codes "$var") && (bytes_eq b (codes "wire") && is_end f) then told (option_map (λ w. Var w d e) (number c)) else Other

-- what a line of these words says
abbrev pub of_words : List (List ℕ) → DumpLine
of_words (a ∷ []) = one_word a
of_words (a ∷ b ∷ []) = two_words a b
of_words (a ∷ b ∷ c ∷ d ∷ []) = four_words a b c d
of_words (a ∷ b ∷ c ∷ d ∷ e ∷ f ∷ []) = six_words a b c d e f
of_words _ = Other

-- what a line says, by its words between blanks
abbrev pub of_line : List ℕ → DumpLine
of_line line = of_words (slice_split (λ c. c == 32) line)

-- what the lines of a text say, and last what stands after its last line feed
abbrev pub lines_of : List ℕ → List DumpLine
lines_of text = map of_line (slice_split (λ c. c == 10) text)

-- ---- the header

-- the ports that are declared, and the lines after
pub record Declared : Type 0 where
  pub ports : List WavePort
  pub rest : List DumpLine

-- what is declared, with one port more at the front
abbrev pub with_port : WavePort → Declared → Declared
with_port p d = record { ports = p ∷ d.ports; rest = d.rest }

-- a port of 1 to 128 bits, the i-th, with its code
abbrev pub declares : ℕ → ℕ → List ℕ → Bool
declares i width word = nat_le 1 width && (nat_le width 128 && bytes_eq (code i) word)

-- the ports from the i-th on, up to the end of the header
abbrev pub declared : ℕ → List DumpLine → Option Declared
declared i (Var width word name ∷ more) =
    if declares i width word then option_map (with_port (record { name = name; width = width })) (declared (suc i) more) else None
declared i (Upscope ∷ EndDefinitions ∷ rest) = Some (record { ports = []; rest = rest })
declared i _ = None

-- a header: the name, the ports, and the lines after
pub record Header : Type 0 where
  pub name : List ℕ
  pub ports : List WavePort
  pub rest : List DumpLine

-- the time scale, the scope, and the ports
abbrev pub header_of : List DumpLine → Option Header
header_of (Timescale ∷ Scope name ∷ more) = option_map (λ (d : Declared). record { name = name; ports = d.ports; rest = d.rest }) (declared 0 more)
header_of _ = None

-- ---- times and changes

-- the port, from the i-th on, that has a code: its number, and its width
abbrev pub port_with : ℕ → List WavePort → List ℕ → Option (ℕ × ℕ)
port_with i [] word = None
port_with i (p ∷ ps) word = if bytes_eq (code i) word then Some (i, p.width) else port_with (suc i) ps word

-- the change to a value of as many digits as the port is wide
abbrev pub change_with : List ℕ → Option (ℕ × ℕ) → Option Change
change_with ds None = None
change_with ds (Some (i, width)) = if length ds == width then Some (record { port = i; value = digits_value 2 ds }) else None

-- the changes before the first time of some lines, and the moments from it on
pub record Told : Type 0 where
  pub changes : List Change
  pub moments : List Moment

-- what later lines tell, with one change more at the front, if both are there
abbrev pub with_change : Option Change → Option Told → Option Told
with_change None later = None
with_change (Some x) later = option_map (λ (t : Told). record { changes = x ∷ t.changes; moments = t.moments }) later

-- the changes that follow a time are those at it
abbrev pub at_time : ℕ → Told → Told
at_time time t = record { changes = []; moments = record { time = time; changes = t.changes } ∷ t.moments }

-- what the lines after the header tell
abbrev pub told_by : List WavePort → List DumpLine → Option Told
told_by ports (Time time ∷ more) = option_map (at_time time) (told_by ports more)
told_by ports (NewValue ds word ∷ more) = with_change (change_with ds (port_with 0 ports word)) (told_by ports more)
told_by ports (Nothing ∷ []) = Some (record { changes = []; moments = [] })
told_by ports _ = None

-- ---- the form

-- there are no changes
abbrev pub is_none : List Change → Bool
is_none [] = true
is_none (x ∷ xs) = false

-- changes of ports from the i-th on, in their order, each once
abbrev pub are_ordered : ℕ → List Change → Bool
are_ordered i [] = true
are_ordered i (x ∷ xs) = nat_le i x.port && are_ordered (suc x.port) xs

-- moments that end, each not before a time and after the one before it: the last has no changes, and each other has some
abbrev pub go_on : ℕ → List Moment → Bool
go_on time [] = false
go_on time (m ∷ []) = nat_le time m.time && is_none m.changes
go_on time (m ∷ n ∷ later) = nat_le time m.time && (not (is_none m.changes) && go_on (suc m.time) (n ∷ later))

-- moments that begin at time 1, where each of so many ports changes; or that is the only time
abbrev pub begin : ℕ → List Moment → Bool
begin count [] = false
begin count (m ∷ []) = m.time == 1 && is_none m.changes
begin count (m ∷ n ∷ later) = m.time == 1 && (length m.changes == count && go_on 2 (n ∷ later))

-- a change to another value than the port had in the cycle before
abbrev pub is_new : List Moment → ℕ → Change → Bool
is_new all time x = differs (value_in all (time - 1) x.port) x.value

-- the changes of a moment are in order, and new
abbrev pub are_new : List Moment → Moment → Bool
are_new all m = are_ordered 0 m.changes && list_all (is_new all m.time) m.changes

-- moments of so many ports that tell each change once, and nothing else
abbrev pub is_form : ℕ → Told → Bool
is_form count t = nat_lt count 8930 && (is_none t.changes && (begin count t.moments && list_all (are_new t.moments) t.moments))

-- ---- the whole

-- what a dump says: the pipe's name, its ports, how many cycles the run had, and when ports changed
pub record Wave : Type 0 where
  pub name : List ℕ
  pub ports : List WavePort
  pub cycles : ℕ
  pub moments : List Moment

-- the last of moments, at least at this time
abbrev pub last_time : ℕ → List Moment → ℕ
last_time time [] = time
last_time time (m ∷ later) = last_time m.time later

-- the last time is the one after the last cycle
abbrev pub wave_with : Header → Option Told → Option Wave
wave_with h None = None
wave_with h (Some t) =
    if is_form (length h.ports) t then Some (record { name = h.name; ports = h.ports; cycles = last_time 0 t.moments - 1; moments = t.moments }) else None

-- what a dump says by its header, and none where that is missing
abbrev pub wave_of : Option Header → Option Wave
wave_of None = None
wave_of (Some h) = wave_with h (told_by h.ports h.rest)

-- what a text says, if it is a dump
unfoldable pub wave : List ℕ → Option Wave
wave text = wave_of (header_of (lines_of text))

-- a wave has this name and these ports, as many cycles as rows, and in each cycle and for each port the value of the row
pub record Shows (w : Wave) (name : List ℕ) (ports : List WavePort) (rows : List (List ℕ)) : Type 0 where
  pub named : w.name ≡ name
  pub declared : w.ports ≡ ports
  pub counted : w.cycles ≡ length rows
  pub values : (c i : ℕ) → c < length rows → i < length ports → value_in w.moments (c + 1) i ≡ Some (slice_index (slice_index_or rows c []) i)

-- a text is a dump that shows this
abbrev pub IsWaveOf : List ℕ → List ℕ → List WavePort → List (List ℕ) → Type 0
IsWaveOf text name ports rows = IsSomeAnd (wave text) (λ w. Shows w name ports rows)

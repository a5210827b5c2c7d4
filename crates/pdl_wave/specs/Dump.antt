-- The text of a value change dump.
use Rattle.std.specs.Prelude.{ℕ, zero, suc, ◌+◌, ◌-◌, ◌/◌, ◌%◌, ◌^◌, ◌<◌, ◌≤◌, nat_lt, Bool, true, ◌≡◌, List, [], ◌∷◌, ◌++◌, length, map, flat_map, slice_index_or, codes, decimal, if◌then◌else◌}
use Rattle.std.specs.List.{list_all, AllZip}
use Rattle.pdl_word.specs.Each.{Each}
use Rattle.pdl_wave.specs.declared.port.WavePort.{WavePort}
use Rattle.pdl_wave.specs.Moments.{Change, Moment, run_moments}

-- ---- what stands in the lines

-- the code of the i-th port, from 0: a byte from 33 up to 126, or two of them
unfoldable pub code : ℕ → List ℕ
code i = if nat_lt i 94 then (33 + i) ∷ [] else (33 + (i / 94 - 1)) ∷ (33 + i % 94) ∷ []

-- the lowest n binary digits of a number, the highest of them first
abbrev pub binary : ℕ → ℕ → List ℕ
binary zero v = []
binary (suc n) v = binary n (v / 2) ++ (48 + v % 2) ∷ []

-- ---- the lines, without their line feeds

-- the line that tells the unit of time
abbrev pub timescale : List ℕ
timescale = codes "$timescale 1 ns $end"

-- the line that names the pipe
abbrev pub scope : List ℕ → List ℕ
scope name = codes "$scope module pdl_" ++ name ++ codes " $end"

-- the line that declares the i-th port
abbrev pub declaration : ℕ → WavePort → List ℕ
declaration i p = codes "$var wire " ++ decimal p.width ++ codes " " ++ code i ++ codes " " ++ p.name ++ codes " $end"

-- the lines that declare the ports from the i-th on
abbrev pub declarations : ℕ → List WavePort → List (List ℕ)
declarations i [] = []
declarations i (p ∷ ps) = declaration i p ∷ declarations (suc i) ps

-- the line that ends the scope
abbrev pub upscope : List ℕ
upscope = codes "$upscope $end"

-- the last line of the header
abbrev pub enddefinitions : List ℕ
enddefinitions = codes "$enddefinitions $end"

-- the lines before the first time
abbrev pub header : List ℕ → List WavePort → List (List ℕ)
header name ports = timescale ∷ scope name ∷ (declarations 0 ports ++ upscope ∷ enddefinitions ∷ [])

-- the line of a time
abbrev pub time_text : ℕ → List ℕ
time_text time = codes "#" ++ decimal time

-- the line of the i-th port's new value, with all its digits
abbrev pub change_text : ℕ → ℕ → ℕ → List ℕ
change_text value width i = codes "b" ++ binary width value ++ codes " " ++ code i

-- ---- the dump

-- a line with its line feed
abbrev pub ended : List ℕ → List ℕ
ended line = line ++ codes "\n"

-- a port in place of one that isn't there
abbrev pub no_port : WavePort
no_port = record { name = []; width = 0 }

-- the width of the i-th port
abbrev pub width_of : List WavePort → ℕ → ℕ
width_of ports i = (slice_index_or ports i no_port).width

-- the line of a change
abbrev pub change_line : List WavePort → Change → List ℕ
change_line ports x = change_text x.value (width_of ports x.port) x.port

-- the lines of a moment: its time, and its changes
abbrev pub moment_lines : List WavePort → Moment → List (List ℕ)
moment_lines ports m = time_text m.time ∷ map (change_line ports) m.changes

-- the lines of a dump of a pipe of this name, where these ports have these values in the cycles from 1 on: the header, the moments, and the time after the last cycle
abbrev pub dump_lines : List ℕ → List WavePort → List (List ℕ) → List (List ℕ)
dump_lines name ports rows = header name ports ++ flat_map (moment_lines ports) (run_moments rows) ++ time_text (length rows + 1) ∷ []

-- the text of that dump
unfoldable pub dump : List ℕ → List WavePort → List (List ℕ) → List ℕ
dump name ports rows = flat_map ended (dump_lines name ports rows)

-- ---- what can be dumped

-- each byte stands above the blank, as those of letters, digits and `_` do
abbrev pub is_word : List ℕ → Bool
is_word bytes = list_all (nat_lt 32) bytes

-- a port that can be declared: 1 to 128 bits
pub record IsPort (p : WavePort) : Type 0 where
  pub name : is_word p.name ≡ true
  pub low : 1 ≤ p.width
  pub high : p.width ≤ 128

-- a value for each port, which fits its width
abbrev pub IsRow : List WavePort → List ℕ → Type 0
IsRow ports row = AllZip (λ p v. v < 2 ^ p.width) ports row

-- a run that can be dumped: fewer than 8,930 ports, and times below 2^64
pub record IsRun (name : List ℕ) (ports : List WavePort) (rows : List (List ℕ)) : Type 0 where
  pub named : is_word name ≡ true
  pub declared : Each IsPort ports
  pub few : length ports < 8930
  pub fits : Each (IsRow ports) rows
  pub counted : length rows + 1 < 2 ^ 64

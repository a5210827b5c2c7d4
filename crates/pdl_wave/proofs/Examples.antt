-- Two dumps, byte by byte, and what they say; texts that are no dumps; and codes.
use Rattle.std.proofs.Common.{◌≡◌, refl, ℕ, List, [], ◌∷◌, ◌++◌, flat_map, Some, None, Option}
use Rattle.std.specs.Prelude.{codes}
use Rattle.std.specs.Fmt.{digits}
use Rattle.std.specs.Option.{option_map}
use Rattle.pdl_wave.specs.declared.port.WavePort.{WavePort}
use Rattle.pdl_wave.specs.Moments.{value_in}
use Rattle.pdl_wave.specs.Dump.{code, ended, dump}
use Rattle.pdl_wave.specs.Wave.{Wave, wave}

-- the ports of a counter of one stage
ports : List WavePort
ports =
    record { name = codes "v_0"; width = 1 } ∷ record { name = codes "g_0"; width = 1 } ∷ record { name = codes "c_m"; width = 1 }
    ∷ record { name = codes "ca_m"; width = 2 } ∷ record { name = codes "cd_m"; width = 8 } ∷ record { name = codes "ended"; width = 1 }
    ∷ record { name = codes "squash"; width = 1 } ∷ []

header : List (List ℕ)
header =
    codes "$timescale 1 ns $end" ∷ codes "$scope module pdl_p $end" ∷ codes "$var wire 1 ! v_0 $end" ∷ codes "$var wire 1 \" g_0 $end"
    ∷ codes "$var wire 1 # c_m $end" ∷ codes "$var wire 2 $ ca_m $end" ∷ codes "$var wire 8 % cd_m $end" ∷ codes "$var wire 1 & ended $end"
    ∷ codes "$var wire 1 ' squash $end" ∷ codes "$upscope $end" ∷ codes "$enddefinitions $end" ∷ []

rows : List (List ℕ)
rows = (1 ∷ 1 ∷ 1 ∷ 0 ∷ 0 ∷ 1 ∷ 0 ∷ []) ∷ (1 ∷ 1 ∷ 1 ∷ 1 ∷ 1 ∷ 1 ∷ 0 ∷ []) ∷ []

-- cycle 1, and what changes in cycle 2
first : List (List ℕ)
first = codes "#1" ∷ codes "b1 !" ∷ codes "b1 \"" ∷ codes "b1 #" ∷ codes "b00 $" ∷ codes "b00000000 %" ∷ codes "b1 &" ∷ codes "b0 '" ∷ []

second : List (List ℕ)
second = codes "#2" ∷ codes "b01 $" ∷ codes "b00000001 %" ∷ []

abbrev two_cycles : List (List ℕ)
two_cycles = header ++ first ++ second ++ codes "#3" ∷ []

example_a : dump (codes "p") ports rows ≡ flat_map ended two_cycles
unfolding digits code dump ports header first second rows
example_a = refl

example_b : dump (codes "p") ports [] ≡ flat_map ended (header ++ codes "#1" ∷ [])
unfolding digits code dump ports header
example_b = refl

-- ---- what they say

abbrev said : List (List ℕ) → Option Wave
said lines = wave (flat_map ended lines)

value_a : option_map (λ (w : Wave). value_in w.moments 2 4) (said two_cycles) ≡ Some (Some 1)
unfolding digits code header first second wave
value_a = refl

-- a port that doesn't change in cycle 2 has its value of cycle 1
kept_a : option_map (λ (w : Wave). value_in w.moments 2 2) (said two_cycles) ≡ Some (Some 1)
unfolding digits code header first second wave
kept_a = refl

cycles_a : option_map (λ (w : Wave). w.cycles) (said two_cycles) ≡ Some 2
unfolding digits code header first second wave
cycles_a = refl

ports_a : option_map (λ (w : Wave). w.ports) (said two_cycles) ≡ Some ports
unfolding digits code ports header first second wave
ports_a = refl

cycles_b : option_map (λ (w : Wave). w.cycles) (said (header ++ codes "#1" ∷ [])) ≡ Some 0
unfolding digits code header wave
cycles_b = refl

-- ---- no dumps

-- a change to the value that the port had
told_again : said (header ++ first ++ (codes "#2" ∷ codes "b1 #" ∷ codes "b01 $" ∷ codes "#3" ∷ [])) ≡ None
unfolding digits code header first wave
told_again = refl

-- a port that isn't told in cycle 1
left_out : said (header ++ (codes "#1" ∷ codes "b1 !" ∷ codes "#2" ∷ [])) ≡ None
unfolding digits code header wave
left_out = refl

-- a time without changes, before the last
without_change : said (header ++ first ++ (codes "#2" ∷ codes "#3" ∷ [])) ≡ None
unfolding digits code header first wave
without_change = refl

-- no time after the last cycle
without_end : said (header ++ first) ≡ None
unfolding digits code header first wave
without_end = refl

-- a value of one digit, of a port of two bits
digit_short : said (header ++ first ++ (codes "#2" ∷ codes "b1 $" ∷ codes "#3" ∷ [])) ≡ None
unfolding digits code header first wave
digit_short = refl

-- changes in another order than the ports
out_of_order : said (header ++ first ++ (codes "#2" ∷ codes "b00000001 %" ∷ codes "b01 $" ∷ codes "#3" ∷ [])) ≡ None
unfolding digits code header first wave
out_of_order = refl

-- no line feed at the end
unended : wave (flat_map ended (header ++ first) ++ codes "#2") ≡ None
unfolding digits code header first wave
unended = refl

-- ---- codes

one_byte : code 93 ≡ codes "~"
unfolding code
one_byte = refl

two_bytes : code 94 ≡ codes "!!"
unfolding code
two_bytes = refl

last_code : code 8929 ≡ codes "~~"
unfolding code
last_code = refl

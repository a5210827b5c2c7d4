-- Lists of nets, and what they mean in a circuit.
use Rattle.std.specs.Prelude.{ℕ, List, [], ◌∷◌, map, slice_index_or, ⊤}
use Rattle.pdl_net.specs.declared.Net.{Net}
use Rattle.pdl_net.specs.Circuit.{Circuit}
use Rattle.pdl_net.specs.Signal.{Signal, no_signal}
use Rattle.pdl_net.specs.Meaning.{signal, IsThere}

-- each net is there
abbrev pub NetsThere : Circuit → List Net → Type 0
NetsThere c [] = ⊤
NetsThere c (x ∷ xs) = IsThere c x × NetsThere c xs

-- the signals of nets in a circuit
abbrev pub signals_in : Circuit → List Net → List Signal
signals_in c xs = map (signal c) xs

-- the signal of a number, and none where there is none
abbrev pub signal_at : List Signal → ℕ → Signal
signal_at fs x = slice_index_or fs x no_signal

-- the width of a signal
abbrev pub width_of_signal : Signal → ℕ
width_of_signal f = f.width

-- the widths of signals
abbrev pub widths_of : List Signal → List ℕ
widths_of fs = map width_of_signal fs

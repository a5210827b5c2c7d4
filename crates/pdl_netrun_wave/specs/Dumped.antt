-- The dump of a run of a netlist.
use Rattle.std.specs.Prelude.{ℕ, ◌<◌, ◌≤◌, List, All, length, map, filter_map, Option, Some, None}
use Rattle.pdl_net.specs.declared.Dir.{Dir}
use Rattle.pdl_net.specs.declared.Dir.TheVariants.{In, Out}
use Rattle.pdl_net.specs.declared.Port.{Port}
use Rattle.pdl_net.specs.declared.Netlist.{Netlist}
use Rattle.pdl_net.specs.Run.{Shown, nports}
use Rattle.pdl_wave.specs.declared.port.WavePort.{WavePort}
use Rattle.pdl_wave.specs.Dump.{dump}

-- a port as a dump declares it, where it is an output
abbrev pub wave_with : Dir → List ℕ → ℕ → Option WavePort
wave_with In name width = None
wave_with (Out x) name width = Some (record { name = name; width = width })

-- a port of a netlist as a dump declares it; none for an input
abbrev pub wave_port : Port → Option WavePort
wave_port p = wave_with p.dir p.name p.width

-- the output ports of a netlist, in order
abbrev pub wave_ports : Netlist → List WavePort
wave_ports n = filter_map wave_port n.ports

-- the values of the output ports in each of some cycles
abbrev pub rows_of : List Shown → List (List ℕ)
rows_of seen = map (λ (s : Shown). s.ports) seen

-- the dump of a run of a netlist from an image, with the reply bits of each cycle
abbrev pub run_dump : Netlist → List (List ℕ) → List ℕ → List ℕ
run_dump n image replies = dump n.name (wave_ports n) (rows_of (nports n image replies))

-- a netlist whose runs can be dumped: fewer than 8,930 output ports, and names of at most 64 bytes
pub record CanBeDumped (n : Netlist) : Type 0 where
  pub name : length n.name ≤ 64
  pub names : All (λ p. length p.name ≤ 64) (wave_ports n)
  pub few : length (wave_ports n) < 8930

-- What is dumped of the netlist of a source says its run.
use Rattle.std.proofs.Common.{ap, ℕ, suc, ◌≤◌, Bool, List, [], ◌∷◌, length, map, All, arith}
use Rattle.std.proofs.lemmas.List.{length-map, length-append}
use Rattle.pdl_word.specs.Each.{Each}
use Rattle.pdl_word.proofs.Each.{each_get}
use Rattle.pdl_semantics.specs.Tree.{Pipe}
use Rattle.pdl_semantics.specs.Flatten.{flat}
use Rattle.pdl_semantics.specs.SecondWrites.{reserves_twice}
use Rattle.pdl_syntax_grammar.specs.Text.{IsText}
use Rattle.pdl_rules.specs.Memories.{info_of}
use Rattle.pdl_rules.specs.Refusal.{KeepsRules}
use Rattle.pdl_image.specs.Images.{IsImage}
use Rattle.pdl_net.specs.declared.Netlist.{Netlist}
use Rattle.pdl_net.specs.Run.{Held, nports, nports_from, next, start}
use Rattle.pdl_law_follows.specs.Memories.{delayed_of, comb_of}
use Rattle.pdl_law_follows.specs.Follows.{Follows}
use Rattle.pdl_law_follows.proofs.Memories.{as_many}
use Rattle.pdl_law_parts.proofs.WellFormedStages.{few_stages}
use Rattle.pdl_source_written.proofs.Sources.{names as names_written}
use Rattle.pdl_wave.specs.declared.port.WavePort.{WavePort}
use Rattle.pdl_wave.specs.Dump.{IsPort, IsRow}
use Rattle.pdl_wave.specs.Wave.{IsWaveOf}
use Rattle.pdl_wave.proofs.WaveForm.{wave_form}
use Rattle.pdl_netrun_wave.specs.Cycles.{IsFit}
use Rattle.pdl_netrun_wave.specs.Dumped.{CanBeDumped, wave_ports, rows_of, run_dump}
use Rattle.pdl_netrun_wave.proofs.PortWidths.{fit_next, fit_row, fit_start, port_widths}
use Rattle.pdl_netrun_wave.proofs.DumpedRuns.{rows_length}
use Rattle.pdl_source_written.proofs.Names.{IsShortWord, name_word}
use Rattle.pdl_source_written.proofs.Ports.{named_by, pipe_words, pipe_count, wave_words, wave_count}
use Rattle.pdl_word.specs.Words.{widest}

module _ (source : List ℕ) (p : Pipe) (n : Netlist) (t : IsText source p) (kept : KeepsRules p) (f : Follows p n) where
  -- whether some path reserves a memory twice for writing
  abbrev twice : ℕ → Bool
  twice m = reserves_twice m (flat p).stmts

  few : length (flat p).stages ≤ 64
  few = few_stages p kept

  mems : length p.mems ≤ 16
  mems =
      let k = f.well_formed.pipe.count in
      let delayed = length-map (delayed_of p.mems) info_of in
      let comb = length-map (comb_of p.mems) info_of in
      let all = length-append (map info_of (delayed_of p.mems)) (map info_of (comb_of p.mems)) in
      let both = as_many p.mems in
      omega (arith, k, delayed, comb, all, both, ap length f.mems)

  port_words : Each (λ (q : WavePort). IsShortWord 64 q.name) (wave_ports n)
  port_words =
      wave_words n.ports _ f.ports
      (pipe_words (length (flat p).stages) twice p.mems few (named_by p.mems n.mems f.mems (names_written source p n t f).mems))

  own_name : IsShortWord 32 n.name
  own_name = name_word n.name (names_written source p n t f).netlist

  few_ports : length (wave_ports n) ≤ 290
  few_ports = let a = wave_count n.ports _ f.ports in let b = pipe_count (length (flat p).stages) twice p.mems few mems in omega (arith, a, b)

  -- the netlist can be dumped: its names are short, and its ports few
  pub dumpable : CanBeDumped n
  dumpable = record {
    name = let s = own_name.short in omega (arith, s);
    names = λ k d l. (each_get (λ (q : WavePort). IsShortWord 64 q.name) (wave_ports n) k d l port_words).short;
    few = let m = few_ports in omega (arith, m);
  }

  ports_well : (ps : List WavePort) → Each (λ (q : WavePort). IsShortWord 64 q.name) ps
      → All (λ (q : WavePort). (1 ≤ q.width) × (q.width ≤ widest)) ps → Each IsPort ps
  ports_well [] h w = tt
  ports_well (q ∷ qs) h w =
      let here = w 0 q (omega arith) in
      let high = here.1 in
      (record { name = h.0.word; low = here.0; high = omega (arith, high) }, ports_well qs h.1 (λ k d l. w (suc k) d (omega (arith, l))))

  rows_fit : (h : Held) (schedule : List ℕ) → IsFit n h → Each (IsRow (wave_ports n)) (rows_of (nports_from n h schedule))
  rows_fit h [] fit = tt
  rows_fit h (bits ∷ schedule) fit = (fit_row n h bits fit, rows_fit (next n h bits) schedule (fit_next n h bits fit))

  -- each of its runs can be dumped, and the dump says it
  pub says : (image : List (List ℕ)) (schedule : List ℕ) → IsImage n.mems image → length schedule ≤ 1000000
      → IsWaveOf (run_dump n image schedule) n.name (wave_ports n) (rows_of (nports n image schedule))
  says image schedule i few_cycles =
      let m = few_ports in
      let count = rows_length n (start n image) schedule in
      wave_form n.name (wave_ports n) (rows_of (nports n image schedule)) (record {
        named = own_name.word;
        declared = ports_well (wave_ports n) port_words (port_widths n f.well_formed.well);
        few = omega (arith, m);
        fits = rows_fit (start n image) schedule (fit_start n image f.well_formed i);
        counted = omega (arith, count, few_cycles);
      })

-- The values that a netlist shows fit its ports, in each cycle of a run.
use Rattle.std.proofs.Common.{◌≡◌, refl, sym, ◌∙◌, ap, subst, ℕ, suc, ◌+◌, ◌^◌, ◌<◌, ◌≤◌, List, [], ◌∷◌, ◌++◌, append_assoc, length, map, drop, get_or, All, Some, slice_get, arith}
use Rattle.std.specs.Prelude.{filter_map}
use Rattle.std.specs.List.{cons_option}
use Rattle.std.proofs.lemmas.List.{drop_more}
use Rattle.std.proofs.lemmas.List.Elements.{All-nil, All-cons}
use Rattle.pdl_net.specs.declared.Dir.{Dir}
use Rattle.pdl_net.specs.declared.Dir.TheVariants.{In, Out}
use Rattle.pdl_net.specs.declared.Net.{Net}
use Rattle.pdl_net.specs.declared.Port.{Port}
use Rattle.pdl_net.specs.declared.Netlist.{Netlist}
use Rattle.pdl_net.specs.Circuit.{Circuit, State, Output, circuit_of, inputs_of, outputs_of, output_with, port_output}
use Rattle.pdl_net.specs.Cycle.{net_value, output_values}
use Rattle.pdl_net.specs.Pipe.{IsWellFormed}
use Rattle.pdl_net.specs.Run.{Held, state_in, shown_ports, delayed_mems, loaded_arrays, next, start}
use Rattle.pdl_net.specs.Well.{IsWell, IsWellPort, IsDriven, Suits}
use Rattle.pdl_net.proofs.Bounds.{bounded}
use Rattle.pdl_net.proofs.Holds.{next_holds}
use Rattle.pdl_net.proofs.StartState.{image_part_fits, holds_start}
use Rattle.pdl_netrun.proofs.Environment.{inputs_fit, words_kept, fit_at_start}
use Rattle.pdl_image.specs.Images.{IsImage}
use Rattle.pdl_wave.specs.declared.port.WavePort.{WavePort}
use Rattle.pdl_wave.specs.Dump.{IsRow}
use Rattle.pdl_netrun_wave.specs.Dumped.{wave_with, wave_port, wave_ports}
use Rattle.pdl_netrun_wave.specs.Cycles.{AreDumpable, IsFit}
use Rattle.pdl_word.specs.Words.{widest}

-- ---- in one cycle

module _ (c : Circuit) (s : State) (well : IsWell c) (suits : Suits c s) where
  -- the values of these ports fit
  fits_by : (d : Dir) (name : List ℕ) (w : ℕ) (ps : List WavePort) (os : List Output) → IsDriven c w d
      → IsRow ps (map (λ (o : Output). net_value c s o.net) os) →
      IsRow (cons_option (wave_with d name w) ps) (map (λ (o : Output). net_value c s o.net) (cons_option (output_with d name) os))
  fits_by In name w ps os h rest = rest
  fits_by (Out x) name w ps os h rest =
      let small = (bounded c s well suits x h.0).fits in
      let P : ℕ → Type 0 = λ k. net_value c s x < 2 ^ k in
      (subst P h.1 small, rest)

  values_fit : (ps : List Port) → ((i : ℕ) (p : Port) → slice_get ps i ≡ Some p → IsWellPort c p) →
      IsRow (filter_map wave_port ps) (map (λ (o : Output). net_value c s o.net) (filter_map port_output ps))
  values_fit [] h = tt
  values_fit (p ∷ ps) h =
      fits_by p.dir p.name p.width (filter_map wave_port ps) (filter_map port_output ps) (h 0 p refl).driven (values_fit ps (λ i q e. h (suc i) q e))

  outputs_fit : (ports : List WavePort) → ports ≡ filter_map wave_port c.ports → IsRow ports (output_values c s)
  unfolding output_values
  outputs_fit ports e = subst (λ (ps : List WavePort). IsRow ps (output_values c s)) (sym e) (values_fit c.ports well.ports)

suits_now : (n : Netlist) (h : Held) (bits : ℕ) → IsFit n h → Suits (circuit_of n) (state_in h bits)
suits_now n h bits f =
    let k = f.holds in
    let i = inputs_fit (inputs_of (circuit_of n)) h.stores bits f.words in
    record { input_count = i.count; inputs = i.each; reg_count = k.reg_count; regs = k.each; array_count = k.array_count; depth = k.depth; words = k.words }

-- what is shown fits the ports
pub fit_row : (n : Netlist) (h : Held) (bits : ℕ) → IsFit n h → IsRow (wave_ports n) (shown_ports n h bits).ports
fit_row n h bits f = outputs_fit (circuit_of n) (state_in h bits) f.well (suits_now n h bits f) (wave_ports n) refl

-- ---- from cycle to cycle

-- a state that fits a netlist is followed by one that fits it, whatever the reply bits
pub fit_next : (n : Netlist) (h : Held) (bits : ℕ) → IsFit n h → IsFit n (next n h bits)
fit_next n h bits f = record {
  well = f.well;
  holds = next_holds (circuit_of n) (state_in h bits) f.well (suits_now n h bits f);
  words = words_kept (circuit_of n) (state_in h bits) (inputs_of (circuit_of n)) (delayed_mems n) h.stores bits (suits_now n h bits f) f.commits f.words;
  commits = f.commits;
}

-- the state at the start fits a well formed netlist, where the image is one for its memories
pub fit_start : (n : Netlist) (image : List (List ℕ)) → IsWellFormed n → IsImage n.mems image → IsFit n (start n image)
fit_start n image w i =
    let fits = image_part_fits n image w i.count i.depth i.width in
    let outside = fit_at_start n image w i in
    let arrays = drop (length (delayed_mems n)) image in
    record {
      well = w.well;
      holds = holds_start n arrays (map (λ r. r.reset) n.regs) (loaded_arrays n.arrays arrays) w.well fits refl refl;
      words = outside.words;
      commits = outside.commits;
    }

-- ---- ports

widths_by : (c : Circuit) (ps : List Port)
    → ((i : ℕ) (p : Port) → slice_get ps i ≡ Some p → IsWellPort c p)
    → All (λ (p : WavePort). (1 ≤ p.width) × (p.width ≤ widest)) (filter_map wave_port ps)
widths_by c [] h = All-nil (λ (p : WavePort). (1 ≤ p.width) × (p.width ≤ widest))
widths_by c (p ∷ ps) h = one p.dir p.width (h 0 p refl).low (h 0 p refl).high (widths_by c ps (λ i q e. h (suc i) q e))
  where
    one : (d : Dir) (w : ℕ) → 1 ≤ w → w ≤ widest
        → All (λ (q : WavePort). (1 ≤ q.width) × (q.width ≤ widest)) (filter_map wave_port ps)
        → All (λ (q : WavePort). (1 ≤ q.width) × (q.width ≤ widest)) (cons_option (wave_with d p.name w) (filter_map wave_port ps))
    one In w low high rest = rest
    one (Out x) w low high rest =
        All-cons (λ (q : WavePort). (1 ≤ q.width) × (q.width ≤ widest)) (record { name = p.name; width = w }) (filter_map wave_port ps) (low, high) rest

-- the ports of a netlist have 1 to widest bits
pub port_widths : (n : Netlist) → IsWell (circuit_of n) → All (λ (p : WavePort). (1 ≤ p.width) × (p.width ≤ widest)) (wave_ports n)
port_widths n w = widths_by (circuit_of n) n.ports w.ports

-- as many as outputs
count_by : (ps : List Port) → length (filter_map wave_port ps) ≡ length (filter_map port_output ps)
count_by [] = refl
count_by (p ∷ ps) = one p.dir (count_by ps)
  where
    one : (d : Dir) → length (filter_map wave_port ps) ≡ length (filter_map port_output ps)
        → length (cons_option (wave_with d p.name p.width) (filter_map wave_port ps)) ≡ length (cons_option (output_with d p.name) (filter_map port_output ps))
    one In e = e
    one (Out x) e = ap suc e

-- the ports of a dump are as many as the outputs of the netlist's circuit
pub outputs_count : (n : Netlist) (ports : List WavePort) → ports ≡ wave_ports n → length ports ≡ length (outputs_of (circuit_of n))
outputs_count n ports e = ap length e ∙ count_by n.ports

-- ---- the ports, one by one

next_port : (ports : List Port) (k : ℕ) (p : Port)
    → k < length ports → p ≡ get_or ports k p
    → filter_map wave_port (drop k ports) ≡ cons_option (wave_port p) (filter_map wave_port (drop (k + 1) ports))
next_port ports k p l e = ap (filter_map wave_port) (drop_more ports k p l ∙ ap (λ q. q ∷ drop (k + 1) ports) (sym e))

-- with an output taken as a port of the dump, those taken and those of the later ports are still all
pub output_more : (ports : List Port) (k : ℕ) (p : Port) (x : Net) (old new all : List WavePort) → k < length ports → p ≡ get_or ports k p → p.dir ≡ Out x →
    new ≡ old ++ record { name = p.name; width = p.width } ∷ [] → old ++ filter_map wave_port (drop k ports) ≡ all
    → new ++ filter_map wave_port (drop (k + 1) ports) ≡ all
output_more ports k p x old new all l e out more so_far =
    let rest = filter_map wave_port (drop (k + 1) ports) in
    ap (λ ps. ps ++ rest) more
    ∙ append_assoc old (record { name = p.name; width = p.width } ∷ []) rest
    ∙ ap (λ ps. old ++ ps) (sym (next_port ports k p l e ∙ ap (λ d. cons_option (wave_with d p.name p.width) rest) out))
    ∙ so_far

-- past an input, the ports of the dump that were taken and those of the later ports are still all
pub input_more : (ports : List Port) (k : ℕ) (p : Port) (old all : List WavePort) → k < length ports → p ≡ get_or ports k p → p.dir ≡ In →
    old ++ filter_map wave_port (drop k ports) ≡ all → old ++ filter_map wave_port (drop (k + 1) ports) ≡ all
input_more ports k p old all l e input so_far =
    ap (λ ps. old ++ ps) (sym (next_port ports k p l e ∙ ap (λ d. cons_option (wave_with d p.name p.width) (filter_map wave_port (drop (k + 1) ports))) input))
    ∙ so_far

-- the ports of a netlist, where they are few
pub dumpable : (n : Netlist) → IsWell (circuit_of n) → length (wave_ports n) < 8930 → AreDumpable (wave_ports n)
dumpable n w few =
    let widths = port_widths n w in
    record {
      few = few;
      low = λ k d l. (widths k d l).0;
      high = λ k d l. let h = (widths k d l).1 in omega (arith, h);
    }

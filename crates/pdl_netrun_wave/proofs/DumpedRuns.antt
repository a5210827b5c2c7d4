-- A run of a netlist, cycle by cycle, as it is dumped.
use Rattle.std.proofs.Common.{◌≡◌, refl, sym, ◌∙◌, ap, subst, ℕ, suc, ◌+◌, ◌-◌, ◌<◌, List, [], ◌∷◌, ◌++◌, length, Option, append-nil, arith}
use Rattle.std.specs.Prelude.{Result, Ok, Err}
use Rattle.pdl_net.specs.declared.Netlist.{Netlist}
use Rattle.pdl_net.specs.Run.{Held, shown_ports, next, nports_from}
use Rattle.pdl_image.specs.Delays.{bits_in}
use Rattle.pdl_netrun.specs.Sim.{Run, run_after}
use Rattle.pdl_netrun_lines.specs.Printed.{replies_from, schedule}
use Rattle.pdl_netrun_lines.proofs.RunSteps.{schedule_length}
use Rattle.pdl_trace.specs.Passed.{Passes}
use Rattle.pdl_trace.proofs.BytePieces.{IsUnderWay, at_last, step_on, step_off}
use Rattle.pdl_wave.specs.declared.port.WavePort.{WavePort}
use Rattle.pdl_netrun_wave.specs.Dumped.{wave_ports, rows_of}
use Rattle.pdl_netrun_wave.specs.Cycles.{cycle_text, cycles_text, IsFit, IsShownBy}
use Rattle.pdl_netrun_wave.proofs.PortWidths.{fit_next, fit_row}

-- the rows of a run
abbrev pub whole : Run → List ℕ → ℕ → List (List ℕ)
whole r delays cycles = rows_of (nports_from r.netlist r.held (schedule delays cycles))

-- the rows that are left of a run of so many cycles, where some are done
abbrev pub left : Run → List ℕ → ℕ → ℕ → List (List ℕ)
left r delays done cycles = rows_of (nports_from r.netlist r.held (replies_from delays (done + 1) (cycles - done)))

-- a run shows one row of values for the reply bits of each cycle
pub rows_length : (n : Netlist) (h : Held) (bits : List ℕ) → length (rows_of (nports_from n h bits)) ≡ length bits
rows_length n h [] = refl
rows_length n h (b ∷ bits) = ap suc (rows_length n (next n h b) bits)

-- as many rows of values are shown as there are cycles
pub left_length : (n : Netlist) (h : Held) (delays : List ℕ) (cycles : ℕ)
    → length (rows_of (nports_from n h (schedule delays cycles))) ≡ cycles
left_length n h delays cycles = rows_length n h (schedule delays cycles) ∙ schedule_length delays 1 cycles

module _ (old new : Run) (bits : ℕ) (e : new ≡ run_after old bits) where
  -- what a run shows after a cycle fits the ports of its netlist
  pub shown : (ports : List WavePort) → ports ≡ wave_ports old.netlist → IsFit old.netlist old.held → IsShownBy ports new
  shown ports own fit =
      let P : List WavePort → Type 0 = λ ps. IsShownBy ps (run_after old bits) in
      subst (IsShownBy ports) (sym e) (subst P (sym own) (record { own = refl; row = fit_row old.netlist old.held bits fit }))

  -- after a cycle the run still fits its netlist
  pub fit_after : IsFit old.netlist old.held → IsFit new.netlist new.held
  fit_after fit = subst (λ (r : Run). IsFit r.netlist r.held) (sym e) (fit_next old.netlist old.held bits fit)

  left_step : (delays : List ℕ) (done cycles : ℕ) → bits ≡ bits_in delays (done + 1) → done < cycles
      → left old delays done cycles ≡ new.last.ports ∷ left new delays (done + 1) cycles
  left_step delays done cycles is l =
      let more : cycles - done ≡ suc (cycles - (done + 1)) = omega arith in
      let first : left old delays done cycles ≡ (shown_ports old.netlist old.held bits).ports ∷ left (run_after old bits) delays (done + 1) cycles =
      rw (more, is) refl in
      first
      ∙ subst
      (λ (r : Run). (shown_ports old.netlist old.held bits).ports ∷ left (run_after old bits) delays (done + 1) cycles
      ≡ r.last.ports ∷ left r delays (done + 1) cycles)
      (sym e) refl

  -- the text of the cycles that are left is that of the next one and that of those after it
  pub cycle_step : (ports : List WavePort) (delays : List ℕ) (done cycles : ℕ) (before : List ℕ) → bits ≡ bits_in delays (done + 1) → done < cycles →
      cycles_text ports (done + 1) before (left old delays done cycles)
      ≡ cycle_text ports (done + 1) before new.last.ports ++ cycles_text ports (done + 1 + 1) new.last.ports (left new delays (done + 1) cycles)
  cycle_step ports delays done cycles before is l =
      let number : suc (done + 1) ≡ done + 1 + 1 = omega arith in
      ap (cycles_text ports (done + 1) before) (left_step delays done cycles is l)
      ∙ ap (λ k. cycle_text ports (done + 1) before new.last.ports ++ cycles_text ports k new.last.ports (left new delays (done + 1) cycles)) number

-- where the last piece is passed on, all bytes have been passed on, but for those that are held
pub finish_on : (o a b : Option (List ℕ)) (all rest held piece : List ℕ)
    → rest ≡ piece → IsUnderWay o a all rest held → {X Y : Type 0} (r : Result X Y) (held' : List ℕ)
    → Passes a b r (held ++ piece) held' → Passes o b r all held'
finish_on o a b all rest held piece e w (Ok x) held' p =
    at_last o b all [] held' refl (step_on o a b all rest held piece [] (e ∙ sym (append-nil piece)) w held' p)
finish_on o a b all rest held piece e w (Err x) held' t = step_off o a b all rest held piece [] (e ∙ sym (append-nil piece)) w t

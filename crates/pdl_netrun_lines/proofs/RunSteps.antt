-- One cycle more of a run.
use Rattle.std.proofs.Common.{◌≡◌, ℕ, suc, ◌+◌, ◌-◌, ◌<◌, List, [], ◌∷◌, ◌++◌, length, ◌≤◌, true, false, refl, sym, ap, subst, ◌∙◌, arith}
use Rattle.std.specs.Prelude.{Bool, count_by, if◌then◌else◌}
use Rattle.std.specs.List.{range_with_len}
use Rattle.std.proofs.lemmas.List.{length-map}
use Rattle.std.proofs.lemmas.List.FromFn.{length-range_with_len}
use Rattle.std.proofs.lemmas.List.Sums.{sum_by-cons}
use Rattle.pdl_semantics.specs.Lines.{Column, Cycle, cycle_lines, lines_from}
use Rattle.pdl_net.specs.declared.Netlist.{Netlist}
use Rattle.pdl_net.specs.Run.{Held, shown_ports, next, nports_from}
use Rattle.pdl_netrun.specs.Sim.{Run, run_after}
use Rattle.pdl_law_parts.specs.Runs.{cycle_of}
use Rattle.pdl_image.specs.Delays.{bits_in}
use Rattle.pdl_netrun_lines.specs.Printed.{cycles_from, replies_from, schedule}
use Rattle.pdl_netrun_lines.specs.declared.print.RunCounts.{RunCounts}
use Rattle.pdl_netrun_lines.specs.Tally.{one_if, tallied_of}

-- the cycles of a run
abbrev pub whole : Netlist → Held → List ℕ → ℕ → List Cycle
whole n h rows cycles = cycles_from n h (schedule rows cycles)

-- the cycles that are left of a run of so many cycles, where some are done
abbrev pub left : Netlist → Held → List ℕ → ℕ → ℕ → List Cycle
left n h rows done cycles = cycles_from n h (replies_from rows (done + 1) (cycles - done))

-- while cycles are left, these are the next one, with the reply bits of its row, and those that are left after it
pub left_step : (n : Netlist) (h : Held) (rows : List ℕ) (done cycles : ℕ)
    → done < cycles
    → left n h rows done cycles
    ≡ cycle_of n (shown_ports n h (bits_in rows (done + 1))) ∷ left n (next n h (bits_in rows (done + 1))) rows (done + 1) cycles
left_step n h rows done cycles lt =
    let e : cycles - done ≡ suc (cycles - (done + 1)) = omega arith in
    rw e refl

-- the lines of cycles are those of the first cycle and those of the cycles after it
pub lines_step : (number : ℕ) (ms : List Column) (c : Cycle) (cs rest : List Cycle)
    → cs ≡ c ∷ rest → lines_from number ms cs ≡ cycle_lines number ms c.puts ++ lines_from (number + 1) ms rest
lines_step number ms c cs rest e =
    let s : suc number ≡ number + 1 = omega arith in
    ap (lines_from number ms) e ∙ ap (λ k. cycle_lines number ms c.puts ++ lines_from k ms rest) s

count_step : (test : Cycle → Bool) (c : Cycle) (cs rest : List Cycle) (old new all : ℕ)
    → cs ≡ c ∷ rest → new ≡ old + one_if (test c) → old + count_by test cs ≡ all → new + count_by test rest ≡ all
count_step test c cs rest old new all e n a =
    omega (arith, n, a, ap (count_by test) e, sum_by-cons (λ x. if test x then 1 else 0) c rest)

-- the cycles that are left where a simulator has run one more
pub sim_step : (old new : Run) (rows : List ℕ) (done cycles : ℕ) → new ≡ run_after old (bits_in rows (done + 1)) → done < cycles
    → left old.netlist old.held rows done cycles ≡ cycle_of new.netlist new.last ∷ left new.netlist new.held rows (done + 1) cycles
sim_step old new rows done cycles e lt =
    subst (λ (r : Run). left old.netlist old.held rows done cycles ≡ cycle_of r.netlist r.last ∷ left r.netlist r.held rows (done + 1) cycles)
    (sym e) (left_step old.netlist old.held rows done cycles lt)

at_most_one : (b : Bool) → one_if b ≤ 1
at_most_one true = omega arith
at_most_one false = omega arith

few_more : (b : Bool) (old new done : ℕ) → new ≡ old + one_if b → old ≤ done → new ≤ done + 1
few_more b old new done e h = omega (arith, e, at_most_one b)

-- counts of the cycles so far, which with those of the rest are those of all
pub record Counted (n : RunCounts) (rest all : List Cycle) (done : ℕ) : Type 0 where
  pub ended : n.ended + count_by (λ (c : Cycle). c.ended) rest ≡ count_by (λ (c : Cycle). c.ended) all
  pub waits : n.waits + count_by (λ (c : Cycle). c.wait) rest ≡ count_by (λ (c : Cycle). c.wait) all
  pub squashes : n.squashes + count_by (λ (c : Cycle). c.squash) rest ≡ count_by (λ (c : Cycle). c.squash) all
  pub few_ended : n.ended ≤ done
  pub few_waits : n.waits ≤ done
  pub few_squashes : n.squashes ≤ done

-- with one cycle more tallied, the counts are those of one cycle more
pub counted_more : (old new : RunCounts) (c : Cycle) (cs rest all : List Cycle) (done : ℕ) → cs ≡ c ∷ rest → new ≡ tallied_of old c
    → Counted old cs all done → Counted new rest all (done + 1)
counted_more old new c cs rest all done more e h =
    let ended = ap (λ (k : RunCounts). k.ended) e in
    let waits = ap (λ (k : RunCounts). k.waits) e in
    let squashes = ap (λ (k : RunCounts). k.squashes) e in
    record {
      ended = count_step (λ (x : Cycle). x.ended) c cs rest old.ended new.ended (count_by (λ (x : Cycle). x.ended) all) more ended h.ended;
      waits = count_step (λ (x : Cycle). x.wait) c cs rest old.waits new.waits (count_by (λ (x : Cycle). x.wait) all) more waits h.waits;
      squashes = count_step (λ (x : Cycle). x.squash) c cs rest old.squashes new.squashes (count_by (λ (x : Cycle). x.squash) all) more squashes h.squashes;
      few_ended = few_more c.ended old.ended new.ended done ended h.few_ended;
      few_waits = few_more c.wait old.waits new.waits done waits h.few_waits;
      few_squashes = few_more c.squash old.squashes new.squashes done squashes h.few_squashes;
    }

shown_length : (n : Netlist) (h : Held) (bits : List ℕ) → length (nports_from n h bits) ≡ length bits
shown_length n h [] = refl
shown_length n h (b ∷ bits) = ap suc (shown_length n (next n h b) bits)

-- there are reply bits for each of so many cycles, from any first one on
pub schedule_length : (rows : List ℕ) (first cycles : ℕ) → length (replies_from rows first cycles) ≡ cycles
schedule_length rows first cycles = length-map (range_with_len first cycles) (bits_in rows) ∙ length-range_with_len first cycles

-- a run has as many cycles as reply bits
pub left_length : (n : Netlist) (h : Held) (bits : List ℕ) → length (cycles_from n h bits) ≡ length bits
left_length n h bits = length-map (nports_from n h bits) (cycle_of n) ∙ shown_length n h bits

-- a run has as many cycles as were asked for
pub run_length : (n : Netlist) (h : Held) (rows : List ℕ) (cycles : ℕ) → length (cycles_from n h (schedule rows cycles)) ≡ cycles
run_length n h rows cycles = left_length n h (schedule rows cycles) ∙ schedule_length rows 1 cycles

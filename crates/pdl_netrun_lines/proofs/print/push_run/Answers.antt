use Rattle.std.proofs.Common.{◌≡◌, ◌∙◌, ◌++◌, ap, length, map, subst, sym}
use Rattle.pdl_semantics.specs.Lines.{end_line, lines_from}
use Rattle.pdl_law_parts.specs.Runs.{column_of, commit_mems}
use Rattle.pdl_trace.specs.Passed.{Passes}
use Rattle.pdl_trace.proofs.BytePieces.{prefix_front, both_on, faulted}
use Rattle.pdl_netrun_lines.specs.Printed.{cycles_from, schedule}
use Rattle.pdl_netrun_lines.specs.Tally.{counts_of}
use Rattle.pdl_netrun_lines.specs.declared.print.RunCounts.{RunCounts}
use Rattle.pdl_netrun_lines.proofs.RunSteps.{run_length}
use Rattle.pdl_netrun_lines.proofs.print.push_run.Goals as goal

pub returns-in_err-counts-clause-bytes : goal.returns-in_err-counts-clause-bytes
returns-in_err-counts-clause-bytes g c =
    let o = g.S.Sink.written c.args.sink.now in
    let a = g.S.Sink.written c.run_cycles.new.sink in
    let sim = c.args.sim.now in
    let cs = cycles_from sim.netlist sim.held (schedule c.args.schedule.now.delays.now c.args.schedule.now.cycles) in
    let counts = counts_of cs in
    let front = lines_from 1 (map column_of (commit_mems sim.netlist)) cs in
    let last = end_line (length cs) counts.ended counts.waits counts.squashes in
    faulted c.from_residual.result o a (c.args.out.now ++ (front ++ last)) c.run_cycles.new.out c.from_residual.ensures.0
    (prefix_front o a c.args.out.now front last c.in_err-counts.ensures.bytes)

pub returns-clause-bytes : goal.returns-clause-bytes
returns-clause-bytes g c =
    let o = g.S.Sink.written c.args.sink.now in
    let a = g.S.Sink.written c.run_cycles.new.sink in
    let b = g.S.Sink.written c.push.new.sink in
    let sim = c.args.sim.now in
    let cs = cycles_from sim.netlist sim.held (schedule c.args.schedule.now.delays.now c.args.schedule.now.cycles) in
    let counts = counts_of cs in
    let front = lines_from 1 (map column_of (commit_mems sim.netlist)) cs in
    let same : c.as_bytes.result.now ≡ end_line (length cs) counts.ended counts.waits counts.squashes =
    c.as_bytes.ensures.bytes ∙ c.end_line-line.ensures
    ∙ ap (λ (k : RunCounts). end_line c.args.schedule.now.cycles k.ended k.waits k.squashes) c.in_ok-counts.ensures.counts
    ∙ ap (λ k. end_line k counts.ended counts.waits counts.squashes)
    (sym (run_length sim.netlist sim.held c.args.schedule.now.delays.now c.args.schedule.now.cycles)) in
    subst (λ l. Passes o b c.push.result (c.args.out.now ++ (front ++ l)) c.push.new.self) same
    (both_on o a b c.args.out.now front c.as_bytes.result.now c.run_cycles.new.out c.push.new.self c.in_ok-counts.ensures.bytes c.push.result c.push.ensures.bytes)

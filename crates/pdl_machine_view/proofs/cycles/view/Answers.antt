use Rattle.std.proofs.Common.{◌∙◌, ap, arith, length, subst, sym}
use Rattle.pdl_syntax_tree.specs.View.{pipe_view}
use Rattle.pdl_semantics.specs.Flatten.{flat}
use Rattle.pdl_stages.specs.Graph.{Graph}
use Rattle.pdl_law_parts.proofs.WellFormedStages.{few_stages}
use Rattle.pdl_netrun_lines.specs.Printed.{schedule}
use Rattle.pdl_trace.specs.Passed.{Streams}
use Rattle.pdl_machine_view.proofs.ViewedRuns.{begun}
use Rattle.pdl_machine_view.proofs.cycles.view.Goals as goal

pub print_view-requires-clause-stages : goal.print_view-requires-clause-stages
print_view-requires-clause-stages g c =
    c.count-stages.ensures
    ∙ ap (λ (graph : Graph). length graph.stages) c.graph.ensures
    ∙ sym (ap (λ q. length (flat (pipe_view q)).stages) c.in_ok-machine.ensures.pipe)

pub print_view-requires-clause-few_stages : goal.print_view-requires-clause-few_stages
print_view-requires-clause-few_stages g c =
    let a = c.args.accepted.now in
    let count = c.count-stages.ensures ∙ ap (λ (graph : Graph). length graph.stages) c.graph.ensures in
    omega (arith, count, few_stages (pipe_view a.typed.pipe) a.kept)

pub returns-clause-text : goal.returns-clause-text
returns-clause-text g c =
    let m = c.in_ok-machine.machine in
    let shown =
    begun m c.args.accepted.now.typed.pipe c.args.image.now
    (schedule c.args.delays.now c.args.cycles) c.in_ok-machine.ensures.pipe c.in_ok-machine.ensures.first in
    subst
    (λ text. Streams (g.S.Sink.written c.args.sink.now) (g.S.Sink.written c.print_view.new.sink)
    (g.S.Sink.faults c.args.sink.now) (g.S.Sink.faults c.print_view.new.sink) text c.print_view.result) shown
    c.print_view.ensures.text

use Rattle.std.proofs.Common.{◌≡◌, ◌++◌, subst, sym}
use Rattle.pdl_kit.specs.Sinks.{TakesPrefix}
use Rattle.pdl_semantics.specs.Lines.{mem_lines}
use Rattle.pdl_law_parts.specs.Runs.{column_of, puts_of}
use Rattle.pdl_trace.specs.Passed.{Passes}
use Rattle.pdl_trace.proofs.BytePieces.{prefix_front, both_on, faulted}
use Rattle.pdl_netrun_lines.proofs.CycleLines.{lines_append}
use Rattle.pdl_netrun_lines.proofs.commits.push_memory.Goals as goal

pub returns-in_err-push_commit-clause-bytes : goal.returns-in_err-push_commit-clause-bytes
returns-in_err-push_commit-clause-bytes g c =
    let o = g.S.Sink.written c.args.sink.now in
    let a = g.S.Sink.written c.push_commit.new.sink in
    let column = column_of c.args.mem.now in
    let front = mem_lines c.args.cycle column (puts_of c.args.first) in
    let last = mem_lines c.args.cycle column (puts_of c.args.second) in
    let both = lines_append c.args.cycle column (puts_of c.args.first) (puts_of c.args.second) in
    faulted c.from_residual.result o a _ c.push_commit.new.out c.from_residual.ensures.0
    (subst (λ l. TakesPrefix o a (c.args.out.now ++ l)) (sym both)
    (prefix_front o a c.args.out.now front last c.in_err-push_commit.ensures.bytes))

pub returns-clause-bytes : goal.returns-clause-bytes
returns-clause-bytes g c =
    let o = g.S.Sink.written c.args.sink.now in
    let a = g.S.Sink.written c.push_commit.new.sink in
    let b = g.S.Sink.written c.push_commit-2.new.sink in
    let column = column_of c.args.mem.now in
    let front = mem_lines c.args.cycle column (puts_of c.args.first) in
    let last = mem_lines c.args.cycle column (puts_of c.args.second) in
    let both = lines_append c.args.cycle column (puts_of c.args.first) (puts_of c.args.second) in
    subst (λ l. Passes o b c.push_commit-2.result (c.args.out.now ++ l) c.push_commit-2.new.out) (sym both)
    (both_on o a b c.args.out.now front last c.push_commit.new.out c.push_commit-2.new.out
    c.in_ok-push_commit.ensures.bytes c.push_commit-2.result c.push_commit-2.ensures.bytes)

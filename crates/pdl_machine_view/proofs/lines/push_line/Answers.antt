use Rattle.std.proofs.Common.{◌++◌, codes}
use Rattle.std.specs.Prelude.{decimal}
use Rattle.pdl_trace.proofs.BytePieces.{both_on}
use Rattle.pdl_machine_view.specs.Lines.{letters_from}
use Rattle.pdl_machine_view.proofs.lines.push_line.Goals as goal

pub returns-clause-bytes : goal.returns-clause-bytes
returns-clause-bytes g c =
    let o = g.S.Sink.written c.args.sink.now in
    let a = g.S.Sink.written c.push_number.new.sink in
    let b = g.S.Sink.written c.push_stages.new.sink in
    let number = decimal c.args.cycle ++ codes " " in
    let stages = letters_from c.args.machine.now.shown 0 c.args.stages ++ codes "\n" in
    both_on o a b c.args.out.now number stages c.push_number.new.out c.push_stages.new.out c.in_ok-push_number.ensures.bytes c.push_stages.result c.push_stages.ensures.bytes

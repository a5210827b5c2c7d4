use Rattle.std.proofs.Common.{codes}
use Rattle.pdl_trace.proofs.BytePieces.{both_on}
use Rattle.pdl_machine_view.specs.Lines.{letters_from}
use Rattle.pdl_machine_view.proofs.lines.push_stages.Goals as goal

pub returns-clause-bytes : goal.returns-clause-bytes
returns-clause-bytes g c =
    let o = g.S.Sink.written c.args.sink.now in
    let a = g.S.Sink.written c.push_letters.new.sink in
    let b = g.S.Sink.written c.push.new.sink in
    let letters = letters_from c.args.machine.now.shown 0 c.args.stages in
    both_on o a b c.args.out.now letters
    (codes "\n") c.push_letters.new.out c.push.new.self c.in_ok-push_letters.ensures.bytes c.push.result c.push.ensures.bytes

use Rattle.std.proofs.Common.{◌≡◌, ◌∙◌, ◌++◌, codes, decimal, subst}
use Rattle.pdl_trace.specs.Passed.{HasPassed}
use Rattle.pdl_trace.proofs.BytePieces.{both_on}
use Rattle.pdl_machine_view.proofs.lines.push_number.Goals as goal

pub returns-clause-bytes : goal.returns-clause-bytes
returns-clause-bytes g c =
    let o = g.S.Sink.written c.args.sink.now in
    let a = g.S.Sink.written c.push.new.sink in
    let b = g.S.Sink.written c.push-2.new.sink in
    let out = c.args.out.now in
    let number : c.as_bytes.result.now ≡ decimal c.args.number = c.as_bytes.ensures.value ∙ c.format.ensures.text in
    let first = subst (λ l. HasPassed o a (out ++ l) c.push.new.self) number c.in_ok-push.ensures.bytes in
    both_on o a b out (decimal c.args.number) (codes " ") c.push.new.self c.push-2.new.self first c.push-2.result c.push-2.ensures.bytes

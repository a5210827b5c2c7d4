use Rattle.std.proofs.Common.{◌-◌, ◌∙◌, sym, ap, arith}
use Rattle.pdl_wave.specs.Dump.{ended, declaration}
use Rattle.pdl_wave.proofs.Header.{declared_line, upscope_line, last_line}
use Rattle.pdl_wave.proofs.lines.header_line.Goals as goal

pub returns-then-k-ports : goal.returns-then-k-ports
returns-then-k-ports c =
    let e = declared_line c.args.name.now c.args.ports.now c.args.k c.index-ports-k.result (omega arith) c.if-k-ports.true in
    c.declaration_line.ensures ∙ ap ended (ap (declaration (c.args.k - 2)) c.index-ports-k.is ∙ sym e)

pub returns-then-k-ports-2 : goal.returns-then-k-ports-2
returns-then-k-ports-2 c =
    c.fixed_line-then-k-ports-2.ensures ∙ ap ended (sym (upscope_line c.args.name.now c.args.ports.now c.args.k (omega arith) (omega arith)))

pub returns-else-k-ports-2 : goal.returns-else-k-ports-2
returns-else-k-ports-2 c = c.fixed_line-else-k-ports-2.ensures ∙ ap ended (sym (last_line c.args.name.now c.args.ports.now c.args.k (omega arith)))

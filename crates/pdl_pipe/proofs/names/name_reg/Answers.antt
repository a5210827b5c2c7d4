use Rattle.std.proofs.Common.{subst, sym, arith}
use Rattle.pdl_pipe.specs.NamedNets.{AddsNames}
use Rattle.pdl_pipe.proofs.NamedParts.{adds_one, untold}
use Rattle.pdl_pipe.proofs.names.name_reg.Goals as goal

pub returns : goal.returns
returns c =
    let b = c.args.b.now in
    let x = c.args.line.now in
    let t = c.if-r-reg_count.false in
    let n = c.reg_count.ensures in
    subst (AddsNames b x c.args.names.now.items) (sym c.in_ok-name.ensures)
    (adds_one b x c.args.names.now.items _ (untold b x c.args.r c.args.role (omega (arith, t, n)) c.requires))

use Rattle.std.proofs.Common.{◌∙◌, List, Bool, false, length, get_or, ap, arith}
use Rattle.pdl_form.specs.FormView.{form}
use Rattle.pdl_law_parts.proofs.TwiceFlags.{flag_count, flag_is}
use Rattle.pdl_pipe_walk.proofs.reserves.is_twice.Goals as goal

pub bounds-setting-m : goal.bounds-setting-m
bounds-setting-m g c =
    let p = (form c.args.setting.now.pipe.now).pipe in
    let long = ap (λ (xs : List Bool). length xs) c.requires.twice ∙ flag_count p.stmts 0 p.mems in
    omega (arith, long, c.requires.low)

pub returns : goal.returns
returns g c =
    let p = (form c.args.setting.now.pipe.now).pipe in
    ap (λ (xs : List Bool). get_or xs c.args.m false) c.requires.twice ∙ flag_is p.stmts p.mems c.args.m c.requires.low

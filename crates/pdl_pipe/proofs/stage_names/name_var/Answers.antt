use Rattle.std.proofs.Common.{◌<◌, length, sym, subst, arith}
use Rattle.std.specs.Prelude.{◌++◌, ◌∷◌, []}
use Rattle.pdl_net.specs.Meaning.{Means}
use Rattle.pdl_pipe_exprs.specs.Nets.{NetsThere, signals_in, signal_at}
use Rattle.pdl_pipe.specs.declared.names.Role.TheVariants.{Keeps, Ends}
use Rattle.pdl_pipe.specs.NamedNets.{MeansRole, AddsNames, HasVarNames}
use Rattle.pdl_pipe.proofs.NamedParts.{with_role, adds_one, adds_more, kept_there, kept_long, ended_there, ended_long, keeps_named, ends_means, ends_named, passed_named, both_named}
use Rattle.pdl_pipe.proofs.stage_names.name_var.Goals as goal

pub variable-kept-requires-clause-there : goal.variable-kept-requires-clause-there
variable-kept-requires-clause-there c =
    let b = c.args.b.now in
    let n = c.requires.line.count in
    let l = c.requires.live.0 in
    subst (NetsThere b) (sym c.as_slice.ensures)
    (kept_there b c.args.line.now c.args.stage c.stage_of-here.result.now (omega (arith, n, l)) (sym c.stage_of-here.ensures) c.requires.line)

pub variable-kept-requires-clause-low : goal.variable-kept-requires-clause-low
variable-kept-requires-clause-low c =
    let n = c.requires.line.count in
    let l = c.requires.live.0 in
    let long = kept_long c.args.b.now c.args.line.now c.args.stage c.stage_of-here.result.now (omega (arith, n, l)) (sym c.stage_of-here.ensures) c.requires.line in
    let low = c.requires.live.1 in
    subst (λ xs. c.args.var < length xs) (sym c.as_slice.ensures) (omega (arith, long, low))

pub variable-ended-requires-clause-there : goal.variable-ended-requires-clause-there
variable-ended-requires-clause-there c =
    let b = c.args.b.now in
    let n = c.requires.line.count in
    let l = c.requires.live.0 in
    subst (NetsThere b) (sym c.as_slice-2.ensures.value)
    (ended_there b c.args.line.now c.args.stage c.stage_of-here.result.now (omega (arith, n, l)) (sym c.stage_of-here.ensures) c.requires.line)

pub variable-ended-requires-clause-low : goal.variable-ended-requires-clause-low
variable-ended-requires-clause-low c =
    let n = c.requires.line.count in
    let l = c.requires.live.0 in
    let long = ended_long c.args.b.now c.args.line.now c.args.stage c.stage_of-here.result.now (omega (arith, n, l)) (sym c.stage_of-here.ensures) c.requires.line in
    let low = c.requires.live.1 in
    subst (λ xs. c.args.var < length xs) (sym c.as_slice-2.ensures.value) (omega (arith, long, low))

pub returns-then-are_same-clause-adds : goal.returns-then-are_same-clause-adds
returns-then-are_same-clause-adds c =
    let b = c.args.b.now in
    let x = c.args.line.now in
    let k = c.args.stage in
    let v = c.args.var in
    let s = c.stage_of-here.result.now in
    let n = c.requires.line.count in
    let l = c.requires.live.0 in
    let old = c.args.names.now.items in
    let kept = subst (λ xs. Means b c.variable-kept.result (signal_at (signals_in b xs) v)) c.as_slice.ensures c.variable-kept.ensures in
    subst (AddsNames b x old) (sym c.in_ok-name.ensures)
    (adds_one b x old (with_role c.variable-kept.result (Keeps k v))
    (keeps_named b x k s (omega (arith, n, l)) (sym c.stage_of-here.ensures) v c.variable-kept.result c.requires.live kept))

pub returns-then-are_same-clause-has : goal.returns-then-are_same-clause-has
returns-then-are_same-clause-has c =
    let b = c.args.b.now in
    let x = c.args.line.now in
    let k = c.args.stage in
    let v = c.args.var in
    let s = c.stage_of-here.result.now in
    let n = c.requires.line.count in
    let l = c.requires.live.0 in
    let ended = subst (λ xs. Means b c.variable-ended.result (signal_at (signals_in b xs) v)) c.as_slice-2.ensures.value c.variable-ended.ensures in
    let means = ends_means b x k s (omega (arith, n, l)) (sym c.stage_of-here.ensures) v c.variable-ended.result ended in
    subst (λ names. HasVarNames b x names k v) (sym c.in_ok-name.ensures)
    (passed_named b x c.args.names.now.items k v c.variable-kept.result
    (subst (MeansRole b x (Ends k v)) (sym (c.are_same.ensures c.if-are_same.true)) means))

pub returns-clause-adds : goal.returns-clause-adds
returns-clause-adds c =
    let b = c.args.b.now in
    let x = c.args.line.now in
    let k = c.args.stage in
    let v = c.args.var in
    let s = c.stage_of-here.result.now in
    let n = c.requires.line.count in
    let l = c.requires.live.0 in
    let old = c.args.names.now.items in
    let one = c.name.new.names.items in
    let two = c.name-2.new.names.items in
    let ended = subst (λ xs. Means b c.variable-ended.result (signal_at (signals_in b xs) v)) c.as_slice-2.ensures.value c.variable-ended.ensures in
    let kept = subst (λ xs. Means b c.variable-kept.result (signal_at (signals_in b xs) v)) c.as_slice.ensures c.variable-kept.ensures in
    adds_more b x old one two
    (subst (AddsNames b x old) (sym c.in_ok-name.ensures)
    (adds_one b x old (with_role c.variable-kept.result (Keeps k v))
    (keeps_named b x k s (omega (arith, n, l)) (sym c.stage_of-here.ensures) v c.variable-kept.result c.requires.live kept)))
    (subst (AddsNames b x one) (sym c.in_ok-name-2.ensures)
    (adds_one b x one (with_role c.variable-ended.result (Ends k v))
    (ends_named b x k s (omega (arith, n, l)) (sym c.stage_of-here.ensures) v c.variable-ended.result c.requires.live ended)))

pub returns-clause-has : goal.returns-clause-has
returns-clause-has c =
    let b = c.args.b.now in
    let x = c.args.line.now in
    let k = c.args.stage in
    let v = c.args.var in
    let ends = with_role c.variable-ended.result (Ends k v) in
    subst (λ names. HasVarNames b x names k v) (sym c.in_ok-name-2.ensures)
    (subst (λ names. HasVarNames b x (names ++ ends ∷ []) k v) (sym c.in_ok-name.ensures)
    (both_named b x c.args.names.now.items k v c.variable-kept.result c.variable-ended.result))

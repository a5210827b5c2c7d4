use Rattle.std.proofs.Common.{refl, sym, ap, arith}
use Rattle.pdl_net.specs.Meaning.{signal}
use Rattle.pdl_squash.specs.Laws.{signal_at as squash_net}
use Rattle.pdl_law_parts.specs.Views.{View}
use Rattle.pdl_pipe_nexts.proofs.pipe_registers.Lists.{view_at}
use Rattle.pdl_pipe_nexts.specs.Lines.{line_views}
use Rattle.pdl_pipe_moves.proofs.AllMoves.{squash_as, valid_bits, valid_is}
use Rattle.pdl_pipe_moves.proofs.squash.squash_by.Goals as goal

pub emit_squash-requires-clause-valid : goal.emit_squash-requires-clause-valid
emit_squash-requires-clause-valid c = valid_bits c.args.b.now c.args.line.now c.in_ok-valid.valid c.requires.line c.in_ok-valid.ensures

pub returns-clause-law : goal.returns-clause-law
returns-clause-law c =
    let a = c.args.b.now in
    let b = c.emit_squash.new.b in
    let x = c.args.line.now in
    let v = c.args.v in
    let xs = c.in_ok-valid.valid in
    let s = c.stage_of.result.now in
    let n = c.requires.line.count in
    let l = c.requires.low in
    let h = c.in_ok-valid.ensures in
    let m = h.count in
    let view = view_at a x.stages.now v s (omega (arith, n, l)) (sym c.stage_of.ensures) in
    let nets = c.in_ok-nets.nets in
    squash_as v (squash_net a xs) (λ k. (line_views a x k).valid) (signal a c.args.moves) (signal a c.args.moves)
    (signal a s.end.fails) (line_views a x v).ended.fails (signal b nets.squash) (signal b nets.squash)
    (squash_net b nets.removed) (squash_net b nets.removed) (squash_net b nets.clear) (squash_net b nets.clear)
    (λ k q. valid_is a x xs c.requires.line h k (omega (arith, q, n, l, m))) refl (sym (ap (λ (w : View). w.ended.fails) view)) refl (λ k q. refl)
    (λ k q. refl) c.in_ok-nets.ensures.law

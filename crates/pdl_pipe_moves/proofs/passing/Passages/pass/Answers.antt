use Rattle.std.proofs.Common.{sym, subst, ap, ◌∙◌, arith}
use Rattle.std.specs.Prelude.{slice_set}
use Rattle.std.proofs.lemmas.List.{get_or-set_other}
use Rattle.pdl_net.specs.declared.Net.TheVariants.{Input}
use Rattle.pdl_squash.specs.Laws.{net_at}
use Rattle.pdl_net.proofs.Keeps.{extends_keeps}
use Rattle.pdl_pipe_moves.specs.Signs.{signs_by}
use Rattle.pdl_pipe_moves.specs.Passed.{ArePassed}
use Rattle.pdl_pipe_moves.proofs.AllMoves.{passed_more}
use Rattle.pdl_pipe_moves.proofs.passing.Passages.pass.Goals as goal

pub returns-clause-passed : goal.returns-clause-passed
returns-clause-passed c =
    let a = c.args.b.now in
    let d = c.stage_passage.new.b in
    let x = c.args.line.now in
    let y = c.args.controls.now in
    let k = c.args.k in
    let e = extends_keeps a d c.stage_passage.ensures.extends in
    let one = c.in_ok-one.one in
    let it = c.in_ok-one.ensures.passage in
    let more =
    passed_more a d e x y c.requires.line c.requires.inside c.requires.stand c.requires.controls c.args.self.now.moves.items c.args.self.now.frees.items k one
    (record x { moves = c.as_slice.result }) c.as_slice.ensures.value c.requires.low c.requires.passed
    it.bit (record { count = it.frees.count; bits = it.frees.bits; free = it.frees.free }) it.moves in
    subst (λ ms. ArePassed d x (signs_by d x y) ms c.set.new.self.frees.items k) (sym c.set.ensures.moves)
    (subst (λ fs. ArePassed d x (signs_by d x y) (slice_set c.args.self.now.moves.items k one.moves) fs k) (sym c.set.ensures.frees) more)

pub returns-clause-later : goal.returns-clause-later
returns-clause-later c =
    λ q l. ap (λ ns. net_at ns q) c.set.ensures.moves
    ∙ get_or-set_other c.args.self.now.moves.items c.args.k q c.in_ok-one.one.moves (Input 0) (λ e. omega (arith, l, e))

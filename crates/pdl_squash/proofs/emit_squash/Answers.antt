use Rattle.std.proofs.Common.{◌∙◌}
use Rattle.pdl_net.specs.Growth.{Extends}
use Rattle.pdl_net.proofs.Keeps.{extends_trans}
use Rattle.pdl_squash.specs.Laws.{squash_signals}
use Rattle.pdl_squash.specs.Nets.{MeanFrom, removed_signal}
use Rattle.pdl_squash.proofs.Law.{squash_law}
use Rattle.pdl_squash.proofs.Lists.{mean_kept, mean_bits, clear_one, squash_is, signals_alike, removed_alike, clear_alike}
use Rattle.pdl_squash.proofs.emit_squash.Goals as goal

pub returns-clause-clear : goal.returns-clause-clear
returns-clause-clear c = mean_bits c.emit_clear.new.b _ c.args.p.now.stage _ c.in_ok-clear.ensures.means (λ k l. clear_one _ k l)

pub returns-clause-law : goal.returns-clause-law
returns-clause-law c =
    let a = c.args.b.now in
    let b = c.mux.new.self in
    let r = c.emit_removed.new.b in
    let d = c.emit_clear.new.b in
    let p = c.args.p.now in
    let q = c.requires in
    let x : Extends a b = extends_trans a c.constant.new.self b c.in_ok-zero.ensures.extends c.in_ok-squash.ensures.extends in
    let y : Extends a r = extends_trans a b r x c.in_ok-removed.ensures.extends in
    let z : Extends b d = extends_trans b r d c.in_ok-removed.ensures.extends c.in_ok-clear.ensures.extends in
    let removed : MeanFrom d c.in_ok-removed.removed 0 p.stage (removed_signal (squash_signals b p)) =
    mean_kept r d _ 0 p.stage _ c.in_ok-removed.ensures.means c.in_ok-clear.ensures.extends in
    let clear = c.in_ok-clear.ensures.means in
    let early = signals_alike a b p q.stage q.valid q.moves.there q.fails.there x in
    let late = signals_alike a r p q.stage q.valid q.moves.there q.fails.there y in
    let o = c.in_ok-squash.ensures.means in
    squash_law (squash_signals a p) _ _ _
    (z.kept _ o.there ∙ o.same
    ∙ squash_is a c.constant.new.self p c.in_ok-zero.zero q.moves.there q.fails.there c.in_ok-zero.ensures.extends c.in_ok-zero.ensures.means)
    (λ k lo hi. removed.same k lo hi ∙ removed_alike _ _ k early hi)
    (λ k lo hi. clear.same k lo hi ∙ clear_alike _ _ k late hi)

use Rattle.std.proofs.Common.{◌≡◌, ◌∙◌, ◌+◌, ◌++◌, ◌∷◌, [], List, length, sym, ap, ap₂, subst, arith}
use Rattle.std.proofs.lemmas.List.{map-append}
use Rattle.pdl_word.specs.Each.{Each}
use Rattle.pdl_word.proofs.Each.{each_push}
use Rattle.pdl_net.specs.Signal.{Signal}
use Rattle.pdl_net.specs.Meaning.{signal}
use Rattle.pdl_net.proofs.Keeps.{extends_keeps, extends_trans}
use Rattle.pdl_squash.specs.Laws.{net_at}
use Rattle.pdl_pipe_exprs.specs.Nets.{signals_in, signal_at}
use Rattle.pdl_pipe_exprs.proofs.NetLists.{signals_keep}
use Rattle.pdl_pipe_answers.specs.Ports.{IsBit}
use Rattle.pdl_pipe_nexts.proofs.LineGrowth.{bits_there}
use Rattle.pdl_pipe_moves.specs.StageSquashes.{joined_signal, AreJoined}
use Rattle.pdl_pipe_moves.proofs.FreePorts.{net_signal}
use Rattle.pdl_pipe_moves.proofs.GateParts.{bit_keep, bits_keep}
use Rattle.pdl_pipe_moves.proofs.AllMoves.{net_bit}
use Rattle.pdl_pipe_moves.proofs.StageSquashes.{joined_more}
use Rattle.pdl_pipe_moves.proofs.squash.joined.Goals as goal

pub joined_at-requires-clause-first : goal.joined_at-requires-clause-first
joined_at-requires-clause-first c =
    let a = c.args.b.now in
    let b = c.loop-k.b in
    let e = extends_keeps a b c.loop-k.invariant.extends in
    subst (IsBit b) (sym c.net_of-x.ensures)
    (bit_keep a b (net_at c.args.first.now c.loop-k.k) e (net_bit a c.args.first.now c.loop-k.k c.loop-k-test.true c.requires.first))

pub joined_at-requires-clause-second : goal.joined_at-requires-clause-second
joined_at-requires-clause-second c =
    let a = c.args.b.now in
    let b = c.loop-k.b in
    let e = extends_keeps a b c.loop-k.invariant.extends in
    let low = c.loop-k-test.true in
    let n = c.requires.count in
    subst (IsBit b) (sym c.net_of-y.ensures)
    (bit_keep a b (net_at c.args.second.now c.loop-k.k) e (net_bit a c.args.second.now c.loop-k.k (omega (arith, low, n)) c.requires.second))

pub loop-k-preserved : goal.loop-k-preserved
loop-k-preserved c =
    let a = c.args.b.now in
    let b = c.loop-k.b in
    let d = c.joined_at.new.b in
    let k = c.loop-k.k in
    let u = c.args.u in
    let xs = c.args.first.now in
    let ys = c.args.second.now in
    let nets = c.loop-k.list.items in
    let z = c.in_ok-net.net in
    let it = c.loop-k.invariant in
    let f = c.joined_at.ensures.extends in
    let ab = extends_keeps a b it.extends in
    let bd = extends_keeps b d f in
    let low = c.loop-k-test.true in
    let n = c.requires.count in
    let first = net_bit a xs k low c.requires.first in
    let second = net_bit a ys k (omega (arith, low, n)) c.requires.second in
    let x_is : signal b c.net_of-x.result ≡ signal_at (signals_in a xs) k =
    ap (signal b) c.net_of-x.ensures ∙ ab.kept (net_at xs k) first.there ∙ net_signal a xs k low in
    let y_is : signal b c.net_of-y.result ≡ signal_at (signals_in a ys) k =
    ap (signal b) c.net_of-y.ensures ∙ ab.kept (net_at ys k) second.there ∙ net_signal a ys k (omega (arith, low, n)) in
    let z_is = c.in_ok-net.ensures.means.same ∙ ap₂ (joined_signal u k) x_is y_is in
    let pushed = c.in_ok-push.ensures.items in
    let old = signals_keep b d nets bd (bits_there b nets it.bits) in
    record {
      bits = subst (Each (IsBit d)) (sym pushed) (each_push (IsBit d) nets z (bits_keep b d nets bd it.bits) c.in_ok-net.ensures.bit);
      joined =
          subst (AreJoined (signal_at (signals_in a xs)) (signal_at (signals_in a ys)) u (k + 1))
          (sym (ap (signals_in d) pushed ∙ map-append (signal d) nets (z ∷ []) ∙ ap (λ (fs : List Signal). fs ++ signal d z ∷ []) old))
          (joined_more (signal_at (signals_in a xs)) (signal_at (signals_in a ys)) u k (signals_in b nets) (signal d z) it.joined z_is);
      extends = extends_trans a b d it.extends f;
    }

pub returns-clause-joined : goal.returns-clause-joined
returns-clause-joined c =
    let out = c.loop-k-test.false in
    let end = c.loop-k.auto.k-end in
    let k_is : c.loop-k.k ≡ length c.args.first.now = omega (arith, out, end) in
    subst
    (λ n. AreJoined (signal_at (signals_in c.args.b.now c.args.first.now)) (signal_at (signals_in c.args.b.now c.args.second.now)) c.args.u n
    (signals_in c.loop-k.b c.loop-k.list.items)) k_is c.loop-k.invariant.joined

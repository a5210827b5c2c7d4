use Rattle.std.proofs.Common.{◌≡◌, ◌∙◌, ◌++◌, ◌∷◌, [], List, Some, ap, ℕ}
use Rattle.pdl_net.specs.Pipe.{Head, output}
use Rattle.pdl_vread_pipe.specs.ExpectedPorts.{after, heads}
use Rattle.pdl_vread_pipe.proofs.Strips.{after_cons}
use Rattle.pdl_vread_pipe.proofs.ports.three.Goals as goal

pub returns : goal.returns
returns c =
    let m = c.args.mem.now in
    let hs = heads c.args.ports.now in
    let x1 = heads c.in_ok-left.left.now in
    let x2 = heads c.in_ok-left-2.left.now in
    let named : c.as_bytes-name.result.now ≡ m.name = c.as_bytes-name.ensures ∙ c.name.ensures in
    let one = output (c.args.enable.now ++ m.name) 1 in
    let two = output (c.args.addr.now ++ m.name) m.bits in
    let three = output (c.args.value.now ++ m.name) m.width in
    let h1 : Some x1 ≡ after (one ∷ []) hs = c.in_ok-left.ensures ∙ ap (λ n. after (output (c.args.enable.now ++ n) 1 ∷ []) hs) named in
    let h2 : Some x2 ≡ after (two ∷ []) x1 =
    c.in_ok-left-2.ensures ∙ (ap (λ n. after (output (c.args.addr.now ++ n) c.bits.result ∷ []) x1) named
    ∙ ap (λ w. after (output (c.args.addr.now ++ m.name) w ∷ []) x1) c.bits.ensures) in
    c.expect-3.ensures
    ∙ (ap (λ n. after (output (c.args.value.now ++ n) c.width.result ∷ []) x2) named
    ∙ (ap (λ w. after (output (c.args.value.now ++ m.name) w ∷ []) x2) c.width.ensures
    ∙ (after_cons two (three ∷ []) x1 x2 h2 ∙ after_cons one (two ∷ three ∷ []) hs x1 h1)))

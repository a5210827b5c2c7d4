use Rattle.std.proofs.Common.{◌≡◌, ◌++◌, ◌∙◌, flat_map, Some, ap}
use Rattle.std.specs.List.{range_with_len}
use Rattle.pdl_net.specs.Pipe.{reply_ports, stage_ports, commit_ports, request_ports}
use Rattle.pdl_vread_pipe.specs.ExpectedPorts.{after, heads}
use Rattle.pdl_vread_pipe.specs.Tests.{last_ports}
use Rattle.pdl_vread_pipe.proofs.Strips.{after_both}
use Rattle.pdl_vread_pipe.proofs.ports.all.Goals as goal

pub returns : goal.returns
returns c =
    let hs = heads c.args.ports.now in
    let s = c.args.shape.now in
    let x1 = heads c.in_ok-left.left.now in
    let x2 = heads c.in_ok-left-2.left.now in
    let x3 = heads c.in_ok-left-3.left.now in
    let x4 = heads c.in_ok-left-4.left.now in
    let a = flat_map reply_ports s.delayed in
    let b = flat_map stage_ports (range_with_len 0 s.stages) in
    let d = flat_map commit_ports s.locked in
    let e = flat_map request_ports s.delayed in
    let h1 : Some x1 ≡ after a hs = c.in_ok-left.ensures ∙ ap (λ z. after (flat_map reply_ports z) hs) c.as_slice.ensures in
    let h2 : Some x2 ≡ after (a ++ b) hs = c.in_ok-left-2.ensures ∙ after_both a b hs x1 h1 in
    let h3 : Some x3 ≡ after ((a ++ b) ++ d) hs =
    c.in_ok-left-3.ensures ∙ (ap (λ z. after (flat_map commit_ports z) x2) c.as_slice-2.ensures ∙ after_both (a ++ b) d hs x2 h2) in
    let h4 : Some x4 ≡ after (((a ++ b) ++ d) ++ e) hs =
    c.in_ok-left-4.ensures ∙ (ap (λ z. after (flat_map request_ports z) x3) c.as_slice-3.ensures ∙ after_both ((a ++ b) ++ d) e hs x3 h3) in
    c.ends.ensures ∙ after_both (((a ++ b) ++ d) ++ e) last_ports hs x4 h4

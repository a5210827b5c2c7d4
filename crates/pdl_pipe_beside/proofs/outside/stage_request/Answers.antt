use Rattle.std.proofs.Common.{◌∙◌, List, ap₂}
use Rattle.pdl_net.specs.Signal.{Signal, const_signal}
use Rattle.pdl_net.proofs.Keeps.{extends_keeps}
use Rattle.pdl_law_parts.specs.Walk.{Ask}
use Rattle.pdl_pipe_beside.specs.Requests.{address_from}
use Rattle.pdl_pipe_beside.proofs.StageRequests.{asks_same}
use Rattle.pdl_pipe_beside.proofs.outside.stage_request.Goals as goal

pub returns-clause-addr : goal.returns-clause-addr
returns-clause-addr c =
    let a = c.args.b.now in
    let b = c.asks_memory.new.b in
    let e = c.in_ok-enable.ensures.extends in
    let addr = c.in_ok-addr.ensures.means in
    record {
      there = addr.there;
      same =
          addr.same
          ∙ ap₂ (λ (f : Signal) (qs : List Ask). address_from c.args.m f (const_signal c.args.width 0) qs)
          (e.kept c.args.moves c.requires.moves.there)
          (asks_same a b c.args.m c.args.width c.args.asks.now (extends_keeps a b e) c.requires.asks);
    }

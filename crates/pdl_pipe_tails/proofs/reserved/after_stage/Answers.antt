use Rattle.std.proofs.Common.{◌∙◌, map, refl, subst}
use Rattle.std.proofs.lemmas.List.{take_all}
use Rattle.pdl_word.proofs.Each.{each_get}
use Rattle.pdl_net.specs.declared.Net.TheVariants.{Input}
use Rattle.pdl_net.specs.Meaning.{signal}
use Rattle.pdl_net.proofs.Keeps.{extends_keeps, extends_refl, extends_trans}
use Rattle.pdl_net.proofs.KeptWidths.{width_kept}
use Rattle.pdl_pipe_exprs.proofs.NetLists.{bits_kept}
use Rattle.pdl_law_parts.specs.Ports.{reserves_to}
use Rattle.pdl_pipe_walk.specs.declared.nets.ReserveNet.{ReserveNet}
use Rattle.pdl_pipe_walk.specs.Parts.{reservation_in}
use Rattle.pdl_pipe_tails.specs.Reserved.{IsReserve, IsAfter}
use Rattle.pdl_pipe_tails.proofs.ReservedTickets.{after_none, reserves_keep, stage_more}
use Rattle.pdl_pipe_tails.proofs.reserved.after_stage.Goals as goal

abbrev no_reserve : ReserveNet
no_reserve = record { mem = 0; var = 0; on = Input 0; addr = Input 0 }

pub loop-r-init : goal.loop-r-init
loop-r-init c = record { there = c.requires.ticket; after = after_none (signal c.args.b.now c.args.ticket); extends = extends_refl c.args.b.now; regs = refl }

pub after_reserve-requires-clause-bits : goal.after_reserve-requires-clause-bits
after_reserve-requires-clause-bits c = bits_kept c.args.b.now c.loop-r.b c.args.bits c.loop-r.invariant.extends c.requires.bits

pub after_reserve-requires-clause-reserve : goal.after_reserve-requires-clause-reserve
after_reserve-requires-clause-reserve c =
    let k = extends_keeps c.args.b.now c.loop-r.b c.loop-r.invariant.extends in
    (each_get (IsReserve c.loop-r.b) c.args.reserves.now c.loop-r.r-index no_reserve c.loop-r-test.true
    (reserves_keep c.args.b.now c.loop-r.b c.args.reserves.now k c.requires.reserves)).0

pub after_reserve-requires-clause-moves : goal.after_reserve-requires-clause-moves
after_reserve-requires-clause-moves c =
    let e = c.loop-r.invariant.extends in
    width_kept c.args.b.now c.loop-r.b c.args.moves 1 e c.requires.moves

pub loop-r-preserved : goal.loop-r-preserved
loop-r-preserved c =
    let a = c.args.b.now in
    let b = c.loop-r.b in
    let d = c.after_reserve.new.b in
    let v = c.loop-r.invariant in
    record {
      there = c.in_ok-net.ensures.there;
      after =
          stage_more a b d c.args.mem c.args.moves (signal a c.args.ticket) (signal b c.loop-r.net)
          (signal d c.in_ok-net.net) c.args.reserves.now c.loop-r.r-index no_reserve
          (extends_keeps a b v.extends) c.requires.moves.there c.requires.reserves c.loop-r-test.true v.after c.in_ok-net.ensures.after;
      extends = extends_trans a b d v.extends c.after_reserve.ensures.extends;
      regs = c.after_reserve.ensures.regs ∙ v.regs;
    }

pub returns-clause-after : goal.returns-clause-after
returns-clause-after c =
    let a = c.args.b.now in
    let rs = c.args.reserves.now in
    subst
    (λ (xs : Rattle.std.proofs.Common.List ReserveNet). IsAfter (signal a c.args.ticket)
    (signal c.loop-r.b c.loop-r.net) (reserves_to c.args.mem (signal a c.args.moves) (map (reservation_in a) xs)))
    (take_all c.loop-r.r-index rs c.loop-r-test.false) c.loop-r.invariant.after

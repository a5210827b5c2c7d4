use Rattle.std.proofs.Common.{refl, sym, ◌∙◌, subst, length, map, arith}
use Rattle.pdl_net.specs.Growth.{ExtendsPorts}
use Rattle.pdl_net.proofs.Keeps.{extends_keeps, keeps_trans, ports_keeps, regs_grow}
use Rattle.pdl_pipe_walk.specs.Locked.{members}
use Rattle.pdl_pipe_locks.proofs.LockGrowth.{locked_kept, laws_kept}
use Rattle.pdl_law_parts.specs.Compiled.{port_in}
use Rattle.pdl_pipe_beside.specs.Ends.{AreEnds}
use Rattle.pdl_pipe_beside.proofs.EndGrowth.{ends_keep}
use Rattle.pdl_pipe_beside.proofs.PortSteps.{ports_stand}
use Rattle.pdl_pipe_beside.proofs.OrderSteps.{orders_stand, squashes_keep}
use Rattle.pdl_pipe_nexts.specs.Lines.{line_form, line_pipe}
use Rattle.pdl_pipe_nexts.proofs.LineGrowth.{line_keep}
use Rattle.pdl_pipe_emitted.proofs.pipe_moves.GateParts.{bit_keep}
use Rattle.pdl_pipe_ports.specs.ToldOutputs.{AreTold, AreCommits, AreAsked, OutsThere, ShowAll, output_of}
use Rattle.pdl_pipe_ports.proofs.RequestPorts.{are_asked}
use Rattle.pdl_pipe_emitted.specs.Emitted.{AreEndsOf, Emission, Nets}
use Rattle.pdl_pipe.specs.Emitted.{AreShownOf, IsEmitted}
use Rattle.pdl_pipe.proofs.MadeNames.{named_emitted}
use Rattle.pdl_pipe.proofs.DeedNets.{ends_there}
use Rattle.pdl_pipe.proofs.KeptSteps.{next_kept, unwritten_kept, apart_from, steps_keep}
use Rattle.pdl_pipe_beside.specs.Requests.{AreRequests}
use Rattle.pdl_pipe_beside.specs.Steps.{IsPortStepped, IsOrderStepped}
use Rattle.pdl_pipe.proofs.OutputNets.{shown_there, commits_there, asked_kept}
use Rattle.pdl_pipe.proofs.emitting.emit_steps.Goals as goal

pub requests-requires-clause-ends : goal.requests-requires-clause-ends
requests-requires-clause-ends g c =
    let b = c.args.b.now in
    let x = c.args.line.now in
    let moved = c.requires.moved in
    let a = moved.a in
    let layout = moved.layout.3 in
    let l = members g.L.LockModule in
    let locks = c.args.locks.now in
    let ab = extends_keeps a b moved.to_moves in
    let ends = subst (AreEndsOf x) (sym c.as_slice.ensures.value) c.in_ok-ends.ensures in
    ends_there b x c.as_slice.result.now c.requires.line ends

pub set_registers-requires-clause-line : goal.set_registers-requires-clause-line
set_registers-requires-clause-line g c =
    let b = c.args.b.now in
    let x = c.args.line.now in
    let moved = c.requires.moved in
    let a = moved.a in
    let layout = moved.layout.3 in
    let l = members g.L.LockModule in
    let locks = c.args.locks.now in
    let ab = extends_keeps a b moved.to_moves in
    let ends = subst (AreEndsOf x) (sym c.as_slice.ensures.value) c.in_ok-ends.ensures in
    let r = c.requests.new.b in
    let br = extends_keeps b r c.requests.ensures.extends in
    let ar = keeps_trans a b r ab br in
    line_keep b r x br c.requires.line

pub set_registers-requires-clause-apart : goal.set_registers-requires-clause-apart
set_registers-requires-clause-apart g c =
    let b = c.args.b.now in
    let x = c.args.line.now in
    let moved = c.requires.moved in
    let a = moved.a in
    let layout = moved.layout.3 in
    let l = members g.L.LockModule in
    let locks = c.args.locks.now in
    let ab = extends_keeps a b moved.to_moves in
    let ends = subst (AreEndsOf x) (sym c.as_slice.ensures.value) c.in_ok-ends.ensures in
    let r = c.requests.new.b in
    let br = extends_keeps b r c.requests.ensures.extends in
    let ar = keeps_trans a b r ab br in
    let n = regs_grow a r ar in
    let all = layout.apart in
    record { from = λ k s q is. omega arith; to = λ k s q is. let m = all.to k s q is in omega (arith, m, n); apart = all.apart }

pub set_registers-requires-clause-ends : goal.set_registers-requires-clause-ends
set_registers-requires-clause-ends g c =
    let b = c.args.b.now in
    let x = c.args.line.now in
    let moved = c.requires.moved in
    let a = moved.a in
    let layout = moved.layout.3 in
    let l = members g.L.LockModule in
    let locks = c.args.locks.now in
    let ab = extends_keeps a b moved.to_moves in
    let ends = subst (AreEndsOf x) (sym c.as_slice.ensures.value) c.in_ok-ends.ensures in
    let r = c.requests.new.b in
    let br = extends_keeps b r c.requests.ensures.extends in
    let ar = keeps_trans a b r ab br in
    subst (AreEnds r (line_form x)) (c.as_slice.ensures.value ∙ sym c.as_slice-2.ensures.value)
    (ends_keep b r br (line_form x) c.as_slice.result.now (ends_there b x c.as_slice.result.now c.requires.line ends))

pub set_registers-requires-clause-ports : goal.set_registers-requires-clause-ports
set_registers-requires-clause-ports g c =
    let b = c.args.b.now in
    let x = c.args.line.now in
    let moved = c.requires.moved in
    let a = moved.a in
    let layout = moved.layout.3 in
    let l = members g.L.LockModule in
    let locks = c.args.locks.now in
    let ab = extends_keeps a b moved.to_moves in
    let ends = subst (AreEndsOf x) (sym c.as_slice.ensures.value) c.in_ok-ends.ensures in
    let r = c.requests.new.b in
    let br = extends_keeps b r c.requests.ensures.extends in
    let ar = keeps_trans a b r ab br in
    ports_stand a r (line_pipe x) x.shared.now.ports.now ar layout.stand_ports

pub set_registers-requires-clause-orders : goal.set_registers-requires-clause-orders
set_registers-requires-clause-orders g c =
    let b = c.args.b.now in
    let x = c.args.line.now in
    let moved = c.requires.moved in
    let a = moved.a in
    let layout = moved.layout.3 in
    let l = members g.L.LockModule in
    let locks = c.args.locks.now in
    let ab = extends_keeps a b moved.to_moves in
    let ends = subst (AreEndsOf x) (sym c.as_slice.ensures.value) c.in_ok-ends.ensures in
    let r = c.requests.new.b in
    let br = extends_keeps b r c.requests.ensures.extends in
    let ar = keeps_trans a b r ab br in
    orders_stand a r (line_pipe x) c.args.orders.now ar layout.stand_orders

pub set_registers-requires-clause-locked : goal.set_registers-requires-clause-locked
set_registers-requires-clause-locked g c =
    let b = c.args.b.now in
    let x = c.args.line.now in
    let moved = c.requires.moved in
    let a = moved.a in
    let layout = moved.layout.3 in
    let l = members g.L.LockModule in
    let locks = c.args.locks.now in
    let ab = extends_keeps a b moved.to_moves in
    let ends = subst (AreEndsOf x) (sym c.as_slice.ensures.value) c.in_ok-ends.ensures in
    let r = c.requests.new.b in
    let br = extends_keeps b r c.requests.ensures.extends in
    let ar = keeps_trans a b r ab br in
    locked_kept l a r (line_pipe x) locks ar g.met.L.LockModule.stays layout.locked

pub set_registers-requires-clause-lawful : goal.set_registers-requires-clause-lawful
set_registers-requires-clause-lawful g c =
    let b = c.args.b.now in
    let x = c.args.line.now in
    let moved = c.requires.moved in
    let a = moved.a in
    let layout = moved.layout.3 in
    let l = members g.L.LockModule in
    let locks = c.args.locks.now in
    let ab = extends_keeps a b moved.to_moves in
    let ends = subst (AreEndsOf x) (sym c.as_slice.ensures.value) c.in_ok-ends.ensures in
    let r = c.requests.new.b in
    let br = extends_keeps b r c.requests.ensures.extends in
    let ar = keeps_trans a b r ab br in
    laws_kept l a r (line_pipe x) locks ar layout.locked layout.lawful

pub set_registers-requires-clause-unwritten : goal.set_registers-requires-clause-unwritten
set_registers-requires-clause-unwritten g c =
    let b = c.args.b.now in
    let x = c.args.line.now in
    let moved = c.requires.moved in
    let a = moved.a in
    let layout = moved.layout.3 in
    let l = members g.L.LockModule in
    let locks = c.args.locks.now in
    let ab = extends_keeps a b moved.to_moves in
    let ends = subst (AreEndsOf x) (sym c.as_slice.ensures.value) c.in_ok-ends.ensures in
    let r = c.requests.new.b in
    let br = extends_keeps b r c.requests.ensures.extends in
    let ar = keeps_trans a b r ab br in
    unwritten_kept a r (line_pipe x)
    (λ k has. c.requests.ensures.extends.writes k (ab.has_array k has) ∙ moved.to_moves.writes k has) layout.locked.has_array layout.unwritten

pub set_registers-requires-clause-next : goal.set_registers-requires-clause-next
set_registers-requires-clause-next g c =
    let b = c.args.b.now in
    let x = c.args.line.now in
    let moved = c.requires.moved in
    let a = moved.a in
    let layout = moved.layout.3 in
    let l = members g.L.LockModule in
    let locks = c.args.locks.now in
    let ab = extends_keeps a b moved.to_moves in
    let ends = subst (AreEndsOf x) (sym c.as_slice.ensures.value) c.in_ok-ends.ensures in
    let r = c.requests.new.b in
    let br = extends_keeps b r c.requests.ensures.extends in
    let ar = keeps_trans a b r ab br in
    next_kept l a r (line_pipe x) locks x.shared.now.next ar layout.locked layout.shared.next_there layout.next

pub set_registers-requires-clause-squash : goal.set_registers-requires-clause-squash
set_registers-requires-clause-squash g c =
    let b = c.args.b.now in
    let x = c.args.line.now in
    let moved = c.requires.moved in
    let a = moved.a in
    let layout = moved.layout.3 in
    let l = members g.L.LockModule in
    let locks = c.args.locks.now in
    let ab = extends_keeps a b moved.to_moves in
    let ends = subst (AreEndsOf x) (sym c.as_slice.ensures.value) c.in_ok-ends.ensures in
    let r = c.requests.new.b in
    let br = extends_keeps b r c.requests.ensures.extends in
    let ar = keeps_trans a b r ab br in
    bit_keep b r c.args.moves.now.squash br moved.moved.squash

pub set_registers-requires-clause-squashes : goal.set_registers-requires-clause-squashes
set_registers-requires-clause-squashes g c =
    let b = c.args.b.now in
    let r = c.requests.new.b in
    squashes_keep b r c.args.moves.now.squashes (extends_keeps b r c.requests.ensures.extends) c.requires.moved.moved.squashes

pub show-requires : goal.show-requires
show-requires g c =
    let b = c.args.b.now in
    let x = c.args.line.now in
    let moved = c.requires.moved in
    let a = moved.a in
    let low = moved.layout.0 in
    let mid = moved.layout.1 in
    let high = moved.layout.2 in
    let layout = moved.layout.3 in
    let l = members g.L.LockModule in
    let locks = c.args.locks.now in
    let orders = c.args.orders.now in
    let y = c.args.moves.now in
    let ab = extends_keeps a b moved.to_moves in
    let r = c.requests.new.b in
    let br = extends_keeps b r c.requests.ensures.extends in
    let ar = keeps_trans a b r ab br in
    let n = regs_grow a r ar in
    let i = c.set_registers.new.b in
    let steps = c.in_ok-steps.ensures in
    let ri =
    steps_keep l r i x locks orders c.as_slice-2.result.now y.squash y.squashes c.in_ok-steps.steps.tails c.in_ok-steps.steps.commits.items
    (apart_from high (length a.regs) (length r.regs) x.stages.now n layout.apart 0 (omega arith)) steps in
    let bi = keeps_trans b r i br ri in
    let line = line_keep b i x bi c.requires.line in
    let shown = subst (AreShownOf x) (sym c.as_slice-3.ensures.value) c.in_ok-shown.ensures in
    let commits = commits_there l a i (line_pipe x) _ locks c.in_ok-steps.steps.commits.items layout.locked steps.last.stepped in
    let asked =
    asked_kept r i (line_pipe x) c.in_ok-asked.asked.items ri
    (are_asked b r (line_pipe x) c.as_slice.result.now c.in_ok-asked.asked.items c.in_ok-asked.ensures.asks) in
    let told : AreTold i (line_pipe x) c.as_slice-3.result.now c.as_slice-4.result.now c.as_slice-5.result.now y.squash =
    record {
      stages = shown_there i x c.as_slice-3.result.now line shown;
      commits = subst (AreCommits i (line_pipe x)) (sym c.as_slice-4.ensures.value) commits;
      asks = subst (AreAsked i (line_pipe x)) (sym c.as_slice-5.ensures.value) asked;
      squash = (bit_keep b i y.squash bi moved.moved.squash).there;
    } in
    record { there = subst (OutsThere i) (sym c.as_slice-6.ensures) (c.in_ok-outs.ensures.there i told) }

pub names_of-requires-clause-line : goal.names_of-requires-clause-line
names_of-requires-clause-line g c =
    let b = c.args.b.now in
    let x = c.args.line.now in
    let moved = c.requires.moved in
    let a = moved.a in
    let high = moved.layout.2 in
    let layout = moved.layout.3 in
    let l = members g.L.LockModule in
    let y = c.args.moves.now in
    let r = c.requests.new.b in
    let br = extends_keeps b r c.requests.ensures.extends in
    let ar = keeps_trans a b r (extends_keeps a b moved.to_moves) br in
    let n = regs_grow a r ar in
    let i = c.set_registers.new.b in
    let ri =
    steps_keep l r i x c.args.locks.now c.args.orders.now c.as_slice-2.result.now y.squash y.squashes c.in_ok-steps.steps.tails c.in_ok-steps.steps.commits.items
    (apart_from high (length a.regs) (length r.regs) x.stages.now n layout.apart 0 (omega arith)) c.in_ok-steps.ensures in
    let bd = keeps_trans b i c.show.new.b (keeps_trans b r i br ri) (ports_keeps i c.show.new.b _ c.in_ok-show.ensures.ports) in
    line_keep b c.show.new.b x bd c.requires.line

pub names_of-requires-clause-reserves : goal.names_of-requires-clause-reserves
names_of-requires-clause-reserves g c = c.requires.can.reserves

pub returns : goal.returns
returns g c =
    let b = c.args.b.now in
    let x = c.args.line.now in
    let moved = c.requires.moved in
    let a = moved.a in
    let low = moved.layout.0 in
    let mid = moved.layout.1 in
    let high = moved.layout.2 in
    let layout = moved.layout.3 in
    let l = members g.L.LockModule in
    let locks = c.args.locks.now in
    let orders = c.args.orders.now in
    let y = c.args.moves.now in
    let ab = extends_keeps a b moved.to_moves in
    let r = c.requests.new.b in
    let br = extends_keeps b r c.requests.ensures.extends in
    let ar = keeps_trans a b r ab br in
    let n = regs_grow a r ar in
    let i = c.set_registers.new.b in
    let steps = c.in_ok-steps.ensures in
    let ri =
    steps_keep l r i x locks orders c.as_slice-2.result.now y.squash y.squashes c.in_ok-steps.steps.tails c.in_ok-steps.steps.commits.items
    (apart_from high (length a.regs) (length r.regs) x.stages.now n layout.apart 0 (omega arith)) steps in
    let bi = keeps_trans b r i br ri in
    let line = line_keep b i x bi c.requires.line in
    let shown = subst (AreShownOf x) (sym c.as_slice-3.ensures.value) c.in_ok-shown.ensures in
    let commits = commits_there l a i (line_pipe x) _ locks c.in_ok-steps.steps.commits.items layout.locked steps.last.stepped in
    let asked =
    asked_kept r i (line_pipe x) c.in_ok-asked.asked.items ri
    (are_asked b r (line_pipe x) c.as_slice.result.now c.in_ok-asked.asked.items c.in_ok-asked.ensures.asks) in
    let told : AreTold i (line_pipe x) c.as_slice-3.result.now c.as_slice-4.result.now c.as_slice-5.result.now y.squash =
    record {
      stages = shown_there i x c.as_slice-3.result.now line shown;
      commits = subst (AreCommits i (line_pipe x)) (sym c.as_slice-4.ensures.value) commits;
      asks = subst (AreAsked i (line_pipe x)) (sym c.as_slice-5.ensures.value) asked;
      squash = (bit_keep b i y.squash bi moved.moved.squash).there;
    } in
    let d = c.show.new.b in
    let es = c.in_ok-ends.ends.items in
    let ports = c.in_ok-show.ensures.ports in
    let outs = c.in_ok-outs.outs in
    let one = c.as_slice.ensures.value in
    let two = c.as_slice-2.ensures.value in
    let nets : Nets g.row.L.Denot =
    record {
      locks = locks;
      orders = orders;
      line = x;
      moves = y;
      requests = c.in_ok-asked.asked.items;
      tails = c.in_ok-steps.steps.tails;
      ends = es;
      deeds = steps.last.deeds;
      commits = c.in_ok-steps.steps.commits.items;
    } in
    let emission : Emission l nets =
    record {
      a = a;
      b = b;
      c = r;
      e = steps.e;
      f = steps.f;
      g = steps.g;
      j = steps.j;
      h = steps.last.h;
      i = i;
      d = d;
      low = low;
      mid = mid;
      high = high;
      can = c.requires.can;
      layout = layout;
      to_moves = moved.to_moves;
      moved = moved.moved;
      line_moves_are = moved.line_moves_are;
      line_kills_are = moved.line_kills_are;
      ends = c.in_ok-ends.ensures;
      deeds = steps.last.are_deeds;
      to_requests = c.requests.ensures.extends;
      asked = subst (λ ys. AreRequests b r (line_pipe x) ys c.in_ok-asked.asked.items (length (line_pipe x).mems)) one c.in_ok-asked.ensures.asks;
      line = line_keep b r x br c.requires.line;
      takes = steps.takes;
      to_nexts = steps.to_nexts high (apart_from high (length a.regs) (length r.regs) x.stages.now n layout.apart high (omega arith));
      cut = steps.cut;
      row = steps.row;
      to_tails = steps.to_tails;
      ports_stepped = λ m. subst (λ ys. IsPortStepped steps.f steps.g (line_pipe x) ys x.shared.now.ports.now m) two (steps.ports_stepped m);
      to_ports = steps.to_ports;
      orders_stepped = λ k q. subst (λ ys. IsOrderStepped steps.g steps.j (line_pipe x) ys y.squashes orders k) two (steps.orders_stepped k q);
      to_orders = steps.to_orders;
      to_advice = steps.last.to_advice;
      stepped = steps.last.stepped;
      to_locks = steps.last.to_locks;
      keeps = ports_keeps i d _ ports;
      nexts = λ k has. ports.nexts k has;
      writes = λ k has. ports.writes k has;
      shapes = ports.shapes;
    } in
    let emitted : IsEmitted l d (line_form x) =
    record {
      nets = nets;
      emission = emission;
      form_is = refl;
      whole = refl;
      stages = c.as_slice-3.result.now;
      are_shown = shown;
      outs = outs;
      there = c.in_ok-outs.ensures.there i told;
      ports = subst (λ os. ExtendsPorts i d (map (port_in i) (map output_of os))) c.as_slice-6.ensures ports;
      shown = subst (λ ns. ShowAll i (line_form x) c.as_slice-3.result.now y.squash ns c.in_ok-asked.asked.items outs) c.as_slice-4.ensures.value
          (subst
          (λ rs. ShowAll i (line_form x) c.as_slice-3.result.now y.squash c.as_slice-4.result.now rs outs) c.as_slice-5.ensures.value
          (c.in_ok-outs.ensures.shown i told));
    } in
    named_emitted l d (line_form x) emitted c.names_of.result c.names_of.ensures

use Rattle.std.proofs.Common.{◌≡◌, [], ◌∷◌, ◌++◌, List, length, refl, ap, subst, ◌∙◌}
use Rattle.std.specs.Prelude.{Option, Some, option_map, filter_map}
use Rattle.pdl_net.specs.declared.Net.{Net}
use Rattle.pdl_net.specs.declared.Port.{Port}
use Rattle.pdl_net.specs.Circuit.{inputs_of, port_output}
use Rattle.pdl_net.specs.Signal.{Signal, input_signal}
use Rattle.pdl_net.specs.Growth.{Extends, ExtendsBut, ExtendsPorts}
use Rattle.pdl_net.specs.Meaning.{signal}
use Rattle.pdl_net.proofs.Keeps.{keeps_trans, extends_trans, extends_keeps, but_keeps, ports_keeps, means_keeps}
use Rattle.pdl_net.proofs.KeptWidths.{width_keeps, width_meant}
use Rattle.pdl_build.specs.Change.{input_port, output_port}
use Rattle.pdl_lockapi.specs.declared.Kind.TheVariants.{R}
use Rattle.pdl_lockapi.specs.Laws.{StepSignals, step_signals, StepLaw, LookLaw, OwnKept, IsFragment, own}
use Rattle.pdl_lockapi.proofs.LockGrowth.{fragment_kept, own_here, own_kept_ports}
use Rattle.pdl_lockapi.proofs.Sequential.{driven, driven_is, follows, IsDriver, driver_there, driver_fits, no_ports_kept, inputs_as}
use Rattle.pdl_lockapi.proofs.writer.emit_driven.Goals as goal

pub emit_look-requires-clause-placed : goal.emit_look-requires-clause-placed
emit_look-requires-clause-placed g c =
    let L = g.L.LockModule in
    let l = c.args.lock.now in
    let r = c.in_ok-regs.regs in
    let s = c.in_ok-regs.ensures in
    let b1 = c.emit_state.new.b in
    let b2 = c.input.new.self in
    let b3 = c.input-2.new.self in
    let b4 = c.constant.new.self in
    let b5 = c.constant-2.new.self in
    let p2 = input_port c.args.mem.now.name r.bits ∷ [] in
    let p3 = input_port c.args.mem.now.name r.width ∷ [] in
    let x2 : ExtendsPorts b1 b2 p2 = c.in_ok-addr.ensures.extends in
    let x3 : ExtendsPorts b2 b3 p3 = c.in_ok-value.ensures.extends in
    let x5 : Extends b3 b5 = extends_trans b3 b4 b5 c.in_ok-one.ensures.extends c.in_ok-zero.ensures.extends in
    let k12 = ports_keeps b1 b2 p2 x2 in
    let k13 = keeps_trans b1 b2 b3 k12 (ports_keeps b2 b3 p3 x3) in
    let k15 = keeps_trans b1 b3 b5 k13 (extends_keeps b3 b5 x5) in
    g.met.L.LockModule.stays l b1 b5 r k15 s.placed

pub emit_step-requires-clause-placed : goal.emit_step-requires-clause-placed
emit_step-requires-clause-placed g c =
    let L = g.L.LockModule in
    let l = c.args.lock.now in
    let r = c.in_ok-regs.regs in
    let s = c.in_ok-regs.ensures in
    let b1 = c.emit_state.new.b in
    let b2 = c.input.new.self in
    let b3 = c.input-2.new.self in
    let b4 = c.constant.new.self in
    let b5 = c.constant-2.new.self in
    let p2 = input_port c.args.mem.now.name r.bits ∷ [] in
    let p3 = input_port c.args.mem.now.name r.width ∷ [] in
    let x2 : ExtendsPorts b1 b2 p2 = c.in_ok-addr.ensures.extends in
    let x3 : ExtendsPorts b2 b3 p3 = c.in_ok-value.ensures.extends in
    let x5 : Extends b3 b5 = extends_trans b3 b4 b5 c.in_ok-one.ensures.extends c.in_ok-zero.ensures.extends in
    let k12 = ports_keeps b1 b2 p2 x2 in
    let k13 = keeps_trans b1 b2 b3 k12 (ports_keeps b2 b3 p3 x3) in
    let k15 = keeps_trans b1 b3 b5 k13 (extends_keeps b3 b5 x5) in
    let b6 = c.emit_look.new.b in
    let x6 : Extends b3 b6 = extends_trans b3 b5 b6 x5 c.in_ok-look.ensures.extends in
    let k16 = keeps_trans b1 b3 b6 k13 (extends_keeps b3 b6 x6) in
    g.met.L.LockModule.stays l b1 b6 r k16 s.placed

pub emit_step-requires-clause-empty : goal.emit_step-requires-clause-empty
emit_step-requires-clause-empty g c =
    let L = g.L.LockModule in
    let l = c.args.lock.now in
    let r = c.in_ok-regs.regs in
    let s = c.in_ok-regs.ensures in
    let b1 = c.emit_state.new.b in
    let b2 = c.input.new.self in
    let b3 = c.input-2.new.self in
    let b4 = c.constant.new.self in
    let b5 = c.constant-2.new.self in
    let p2 = input_port c.args.mem.now.name r.bits ∷ [] in
    let p3 = input_port c.args.mem.now.name r.width ∷ [] in
    let x2 : ExtendsPorts b1 b2 p2 = c.in_ok-addr.ensures.extends in
    let x3 : ExtendsPorts b2 b3 p3 = c.in_ok-value.ensures.extends in
    let x5 : Extends b3 b5 = extends_trans b3 b4 b5 c.in_ok-one.ensures.extends c.in_ok-zero.ensures.extends in
    let k12 = ports_keeps b1 b2 p2 x2 in
    let k13 = keeps_trans b1 b2 b3 k12 (ports_keeps b2 b3 p3 x3) in
    let k15 = keeps_trans b1 b3 b5 k13 (extends_keeps b3 b5 x5) in
    let b6 = c.emit_look.new.b in
    let x6 : Extends b3 b6 = extends_trans b3 b5 b6 x5 c.in_ok-look.ensures.extends in
    let k16 = keeps_trans b1 b3 b6 k13 (extends_keeps b3 b6 x6) in
    no_ports_kept r.array b1 b6 s.empty (λ m e.
    let h1 = s.fragment.has_array m e in
    let h2 = x2.has_array m h1 in
    x6.writes m (x3.has_array m h2) ∙ x3.writes m h2 ∙ x2.writes m h1)

pub emit_step-requires-clause-ports : goal.emit_step-requires-clause-ports
emit_step-requires-clause-ports g c =
    let L = g.L.LockModule in
    let l = c.args.lock.now in
    let r = c.in_ok-regs.regs in
    let s = c.in_ok-regs.ensures in
    let b1 = c.emit_state.new.b in
    let b2 = c.input.new.self in
    let b3 = c.input-2.new.self in
    let b4 = c.constant.new.self in
    let b5 = c.constant-2.new.self in
    let p2 = input_port c.args.mem.now.name r.bits ∷ [] in
    let p3 = input_port c.args.mem.now.name r.width ∷ [] in
    let x2 : ExtendsPorts b1 b2 p2 = c.in_ok-addr.ensures.extends in
    let x3 : ExtendsPorts b2 b3 p3 = c.in_ok-value.ensures.extends in
    let x5 : Extends b3 b5 = extends_trans b3 b4 b5 c.in_ok-one.ensures.extends c.in_ok-zero.ensures.extends in
    let k12 = ports_keeps b1 b2 p2 x2 in
    let k13 = keeps_trans b1 b2 b3 k12 (ports_keeps b2 b3 p3 x3) in
    let k15 = keeps_trans b1 b3 b5 k13 (extends_keeps b3 b5 x5) in
    let b6 = c.emit_look.new.b in
    let x6 : Extends b3 b6 = extends_trans b3 b5 b6 x5 c.in_ok-look.ensures.extends in
    let k16 = keeps_trans b1 b3 b6 k13 (extends_keeps b3 b6 x6) in
    let k36 = extends_keeps b3 b6 x6 in
    let k26 = keeps_trans b2 b3 b6 (ports_keeps b2 b3 p3 x3) k36 in
    let k46 = extends_keeps b4 b6 (extends_trans b4 b5 b6 c.in_ok-zero.ensures.extends c.in_ok-look.ensures.extends) in
    let k56 = extends_keeps b5 b6 c.in_ok-look.ensures.extends in
    let am = c.in_ok-addr.ensures.means in
    let vm = c.in_ok-value.ensures.means in
    let q = c.in_ok-ports.ensures in
    let driver : IsDriver b6 c.in_ok-ports.ports r.bits r.width (L.tickets l) c.in_ok-one.one c.in_ok-zero.zero c.in_ok-addr.addr c.in_ok-value.value r.ticket =
    record {
      reserves = q.reserves;
      writes = q.writes;
      release = q.release;
      release2 = q.release2;
      squash = q.squash;
      tail = q.tail;
      one_means = means_keeps b4 b6 c.in_ok-one.one _ k46 c.in_ok-one.ensures.means;
      off_means = means_keeps b5 b6 c.in_ok-zero.zero _ k56 c.in_ok-zero.ensures.means;
      addr = width_keeps b2 b6 _ _ k26 (width_meant b2 _ _ _ am refl);
      value = width_keeps b3 b6 _ _ k36 (width_meant b3 _ _ _ vm refl);
      ticket = width_keeps b1 b6 r.ticket (L.tickets l) k16 s.nets.ticket;
    } in
    driver_there b6 c.in_ok-ports.ports r.bits r.width (L.tickets l) c.in_ok-one.one c.in_ok-zero.zero c.in_ok-addr.addr c.in_ok-value.value r.ticket driver

pub emit_step-requires-clause-fit : goal.emit_step-requires-clause-fit
emit_step-requires-clause-fit g c =
    let L = g.L.LockModule in
    let l = c.args.lock.now in
    let r = c.in_ok-regs.regs in
    let s = c.in_ok-regs.ensures in
    let b1 = c.emit_state.new.b in
    let b2 = c.input.new.self in
    let b3 = c.input-2.new.self in
    let b4 = c.constant.new.self in
    let b5 = c.constant-2.new.self in
    let p2 = input_port c.args.mem.now.name r.bits ∷ [] in
    let p3 = input_port c.args.mem.now.name r.width ∷ [] in
    let x2 : ExtendsPorts b1 b2 p2 = c.in_ok-addr.ensures.extends in
    let x3 : ExtendsPorts b2 b3 p3 = c.in_ok-value.ensures.extends in
    let x5 : Extends b3 b5 = extends_trans b3 b4 b5 c.in_ok-one.ensures.extends c.in_ok-zero.ensures.extends in
    let k12 = ports_keeps b1 b2 p2 x2 in
    let k13 = keeps_trans b1 b2 b3 k12 (ports_keeps b2 b3 p3 x3) in
    let k15 = keeps_trans b1 b3 b5 k13 (extends_keeps b3 b5 x5) in
    let b6 = c.emit_look.new.b in
    let x6 : Extends b3 b6 = extends_trans b3 b5 b6 x5 c.in_ok-look.ensures.extends in
    let k16 = keeps_trans b1 b3 b6 k13 (extends_keeps b3 b6 x6) in
    let k36 = extends_keeps b3 b6 x6 in
    let k26 = keeps_trans b2 b3 b6 (ports_keeps b2 b3 p3 x3) k36 in
    let k46 = extends_keeps b4 b6 (extends_trans b4 b5 b6 c.in_ok-zero.ensures.extends c.in_ok-look.ensures.extends) in
    let k56 = extends_keeps b5 b6 c.in_ok-look.ensures.extends in
    let am = c.in_ok-addr.ensures.means in
    let vm = c.in_ok-value.ensures.means in
    let q = c.in_ok-ports.ensures in
    let driver : IsDriver b6 c.in_ok-ports.ports r.bits r.width (L.tickets l) c.in_ok-one.one c.in_ok-zero.zero c.in_ok-addr.addr c.in_ok-value.value r.ticket =
    record {
      reserves = q.reserves;
      writes = q.writes;
      release = q.release;
      release2 = q.release2;
      squash = q.squash;
      tail = q.tail;
      one_means = means_keeps b4 b6 c.in_ok-one.one _ k46 c.in_ok-one.ensures.means;
      off_means = means_keeps b5 b6 c.in_ok-zero.zero _ k56 c.in_ok-zero.ensures.means;
      addr = width_keeps b2 b6 _ _ k26 (width_meant b2 _ _ _ am refl);
      value = width_keeps b3 b6 _ _ k36 (width_meant b3 _ _ _ vm refl);
      ticket = width_keeps b1 b6 r.ticket (L.tickets l) k16 s.nets.ticket;
    } in
    driver_fits b6 c.in_ok-ports.ports r.bits r.width (L.tickets l) c.in_ok-one.one c.in_ok-zero.zero c.in_ok-addr.addr c.in_ok-value.value r.ticket driver

pub returns : goal.returns
returns g c =
    let L = g.L.LockModule in
    let l = c.args.lock.now in
    let r = c.in_ok-regs.regs in
    let s = c.in_ok-regs.ensures in
    let b1 = c.emit_state.new.b in
    let b2 = c.input.new.self in
    let b3 = c.input-2.new.self in
    let b4 = c.constant.new.self in
    let b5 = c.constant-2.new.self in
    let p2 = input_port c.args.mem.now.name r.bits ∷ [] in
    let p3 = input_port c.args.mem.now.name r.width ∷ [] in
    let x2 : ExtendsPorts b1 b2 p2 = c.in_ok-addr.ensures.extends in
    let x3 : ExtendsPorts b2 b3 p3 = c.in_ok-value.ensures.extends in
    let x5 : Extends b3 b5 = extends_trans b3 b4 b5 c.in_ok-one.ensures.extends c.in_ok-zero.ensures.extends in
    let k12 = ports_keeps b1 b2 p2 x2 in
    let k13 = keeps_trans b1 b2 b3 k12 (ports_keeps b2 b3 p3 x3) in
    let k15 = keeps_trans b1 b3 b5 k13 (extends_keeps b3 b5 x5) in
    let b6 = c.emit_look.new.b in
    let x6 : Extends b3 b6 = extends_trans b3 b5 b6 x5 c.in_ok-look.ensures.extends in
    let k16 = keeps_trans b1 b3 b6 k13 (extends_keeps b3 b6 x6) in
    let k36 = extends_keeps b3 b6 x6 in
    let k26 = keeps_trans b2 b3 b6 (ports_keeps b2 b3 p3 x3) k36 in
    let k46 = extends_keeps b4 b6 (extends_trans b4 b5 b6 c.in_ok-zero.ensures.extends c.in_ok-look.ensures.extends) in
    let k56 = extends_keeps b5 b6 c.in_ok-look.ensures.extends in
    let am = c.in_ok-addr.ensures.means in
    let vm = c.in_ok-value.ensures.means in
    let q = c.in_ok-ports.ensures in
    let driver : IsDriver b6 c.in_ok-ports.ports r.bits r.width (L.tickets l) c.in_ok-one.one c.in_ok-zero.zero c.in_ok-addr.addr c.in_ok-value.value r.ticket =
    record {
      reserves = q.reserves;
      writes = q.writes;
      release = q.release;
      release2 = q.release2;
      squash = q.squash;
      tail = q.tail;
      one_means = means_keeps b4 b6 c.in_ok-one.one _ k46 c.in_ok-one.ensures.means;
      off_means = means_keeps b5 b6 c.in_ok-zero.zero _ k56 c.in_ok-zero.ensures.means;
      addr = width_keeps b2 b6 _ _ k26 (width_meant b2 _ _ _ am refl);
      value = width_keeps b3 b6 _ _ k36 (width_meant b3 _ _ _ vm refl);
      ticket = width_keeps b1 b6 r.ticket (L.tickets l) k16 s.nets.ticket;
    } in
    let stands = L.stands l r in
    let b0 = c.args.b.now in
    let b7 = c.emit_step.new.b in
    let b8 = c.output.new.self in
    let look = c.in_ok-look.look in
    let n = c.in_ok-emit_step.field-0 in
    let word = c.unwrap-word.result in
    let p = c.in_ok-ports.ports in
    let ports0 : b0.ports ≡ [] = c.requires.first in
    let ports1 : b1.ports ≡ [] = s.extends.ports ∙ ports0 in
    let ports2 : b2.ports ≡ p2 = x2.ports ∙ ap (λ (ps : List Port). ps ++ p2) ports1 in
    let ports3 : b3.ports ≡ p2 ++ p3 = x3.ports ∙ ap (λ (ps : List Port). ps ++ p3) ports2 in
    let x67 : ExtendsBut (own r) b6 b7 = c.in_ok-emit_step.ensures.extends in
    let x78 : ExtendsPorts b7 b8 (output_port b7 c.args.mem.now.name word ∷ []) = c.in_ok-output.ensures.extends in
    let ports8 : b8.ports ≡ (p2 ++ p3) ++ output_port b7 c.args.mem.now.name word ∷ [] =
    x78.ports ∙ ap (λ (ps : List Port). ps ++ output_port b7 c.args.mem.now.name word ∷ []) (x67.ports ∙ x6.ports ∙ ports3) in
    let n1 : length (inputs_of b1) ≡ 0 = ap length (inputs_as b1 [] ports1) in
    let n2 : length (inputs_of b2) ≡ 1 = ap length (inputs_as b2 p2 ports2) in
    let a5 : signal b5 c.in_ok-addr.addr ≡ input_signal r.bits 0 =
    (keeps_trans b2 b3 b5 (ports_keeps b2 b3 p3 x3) (extends_keeps b3 b5 x5)).kept c.in_ok-addr.addr am.there ∙ am.same ∙ ap (input_signal r.bits) n1 in
    let a6 : signal b6 c.in_ok-addr.addr ≡ input_signal r.bits 0 = k26.kept c.in_ok-addr.addr am.there ∙ am.same ∙ ap (input_signal r.bits) n1 in
    let v6 : signal b6 c.in_ok-value.value ≡ input_signal r.width 1 = k36.kept c.in_ok-value.value vm.there ∙ vm.same ∙ ap (input_signal r.width) n2 in
    let t6 : signal b6 r.ticket ≡ signal b1 r.ticket = k16.kept r.ticket s.nets.ticket.there in
    let t5 : signal b5 r.ticket ≡ signal b1 r.ticket = k15.kept r.ticket s.nets.ticket.there in
    let f6 : step_signals b6 p ≡ driven (input_signal r.bits 0) (input_signal r.width 1) (signal b1 r.ticket) =
    driven_is b6 p c.in_ok-one.one c.in_ok-zero.zero c.in_ok-addr.addr c.in_ok-value.value r.ticket q.reserves q.writes q.release
    q.release2 q.squash q.tail driver.one_means.same driver.off_means.same
    ∙ cc (a6, v6, t6) in
    let is_word : look.value ≡ Some word = c.unwrap-word.ensures in
    let there6 = (c.in_ok-look.ensures.value.net word is_word).there in
    let frag7 : IsFragment b0 b7 r = fragment_kept b0 b1 b7 r s.fragment (keeps_trans b1 b6 b7 k16 (but_keeps (own r) b6 b7 x67)) in
    let kept : OwnKept (own r) b7 b8 = own_kept_ports (own r) b7 b7 b8 (output_port b7 c.args.mem.now.name word ∷ []) (own_here b0 b7 r frag7) x78 in
    let G : StepSignals → Type 0 = λ f. StepLaw stands (L.size l) (L.tickets l) (own r) b7 f (signal b7 n.commit) (signal b7 n.addr) (signal b7 n.value) in
    let H : Signal → Type 0 =
    λ f. LookLaw stands (L.kind_of l) (L.tickets l) R f (signal b5 r.ticket) (signal b6 look.ready) (option_map (signal b6) look.value) in
    let I : Signal → Type 0 =
    λ f. LookLaw stands (L.kind_of l) (L.tickets l) R (input_signal r.bits 0) f (signal b6 look.ready) (option_map (signal b6) look.value) in
    let J =
    λ (v : Option Net). LookLaw stands (L.kind_of l) (L.tickets l) R (input_signal r.bits 0) (signal b1 r.ticket)
    (signal b6 look.ready) (option_map (signal b6) v) in
    follows stands (L.kind_of l) (L.size l) (L.tickets l) r.bits r.width r b1 b7 b8 (signal b1 r.ticket) (signal b6 look.ready) (signal b6 word)
    (signal b7 n.commit) (signal b7 n.addr) (signal b7 n.value) word (record {
      some = s.size;
      start = s.start;
      addr_bits = refl;
      has_reg = kept.has_reg;
      reset =
          λ k lo hi. x78.reset k (frag7.has_reg k lo hi) ∙ x67.reset k (k16.has_reg k (s.fragment.has_reg k lo hi)) ∙ k16.reset k (s.fragment.has_reg k lo hi);
      tickets = s.ticket;
      look = subst J is_word (subst I t5 (subst H a5 c.in_ok-look.ensures.law));
      steps = subst G f6 c.in_ok-emit_step.ensures.law;
      kept = kept;
      output = (c.args.mem.now.name, ap (filter_map port_output) ports8);
      shown = x78.kept word (x67.there word there6) ∙ x67.kept word there6;
    })

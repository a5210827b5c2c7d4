use Rattle.std.proofs.Common.{◌≡◌, ◌∙◌, ◌+◌, ◌++◌, ◌∷◌, [], Global, Vec, ap, drop, subst, sym, append-nil}
use Rattle.std.specs.Prelude.{filter_map}
use Rattle.std.proofs.lemmas.List.{drop_all}
use Rattle.pdl_wave.specs.declared.port.WavePort.{WavePort}
use Rattle.pdl_netrun_wave.specs.Dumped.{wave_port}
use Rattle.pdl_netrun_wave.proofs.PortWidths.{output_more, input_more}
use Rattle.pdl_netrun_wave.proofs.ports.wave_ports.Goals.{in-Out+in_ok-name+in_ok-push, in_default}
use Rattle.pdl_netrun_wave.proofs.ports.wave_ports.Goals as goal

pub loop-port-preserved : goal.loop-port-preserved
loop-port-preserved c =
    let ports = c.as_slice-port-items.result.now in
    let k = c.loop-port.port-index in
    let p = c.port-item.result in
    let all = filter_map wave_port ports in
    let rest = filter_map wave_port (drop (k + 1) ports) in
    elim c.match-port.branch [
      | in-Out+in_ok-name+in_ok-push w ↦
          output_more ports k p w.in-Out.field-0 c.loop-port.ports.items c.match-port.ports.items all c.loop-port-test.true c.port-item.is w.in-Out.is
          (ap (λ (v : Vec WavePort Global). v.items) w.ports-is ∙ w.in_ok-push.ensures.items
          ∙ ap (λ name. c.loop-port.ports.items ++ record { name = name; width = p.width } ∷ []) (w.in_ok-name.ensures ∙ w.as_bytes.ensures))
          c.loop-port.invariant
      | in_default w ↦
          subst (λ (v : Vec WavePort Global). v.items ++ rest ≡ all) (sym w.ports-is)
          (input_more ports k p c.loop-port.ports.items all c.loop-port-test.true c.port-item.is w.in_default.is c.loop-port.invariant)
    ]

pub returns : goal.returns
returns c =
    let ports = c.as_slice-port-items.result.now in
    sym (append-nil c.loop-port.ports.items)
    ∙ ap (λ ps. c.loop-port.ports.items ++ filter_map wave_port ps) (sym (drop_all c.loop-port.port-index ports c.loop-port-test.false))
    ∙ c.loop-port.invariant ∙ ap (filter_map wave_port) c.as_slice-port-items.ensures

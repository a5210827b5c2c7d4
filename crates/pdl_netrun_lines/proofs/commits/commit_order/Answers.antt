use Rattle.std.proofs.Common.{◌+◌, ◌++◌, ◌<◌, ◌∙◌, ℕ, List, Option, Vec, Global, ap, ap₂, bytes_eq, codes, drop, length, subst, sym}
use Rattle.std.specs.Prelude.{position}
use Rattle.pdl_kit.specs.declared.mem_info.MemInfo.{MemInfo}
use Rattle.pdl_netrun_lines.proofs.CommitPorts.{AreSoFar, one_more, none_more, input_more}
use Rattle.pdl_netrun_lines.proofs.commits.commit_order.Goals.{in-Out+in-Some+in_ok-push, in-Out+in_default-committing, in_default}
use Rattle.pdl_netrun_lines.proofs.commits.commit_order.Goals as goal

-- the number of the memory of `mems` whose commit port has the name
abbrev number : List ℕ → List MemInfo → Option ℕ
number port mems = position (λ (m : MemInfo). bytes_eq port (codes "c_" ++ m.name)) mems

pub loop-port-preserved : goal.loop-port-preserved
loop-port-preserved c =
    let n = c.args.net.now in
    let ports = c.as_slice-port-items.result.now in
    let k = c.loop-port.port-index in
    let p = c.port-item.result in
    let low = c.loop-port-test.true in
    let here = c.port-item.is in
    let rest = drop (k + 1) ports in
    elim c.match-port.branch [
      | in-Out+in-Some+in_ok-push w ↦
          let named = w.committing.ensures.value ∙ ap₂ number w.as_bytes.ensures w.as_slice.ensures in
          let there = subst (λ (ms : List MemInfo). w.in-Some.mem < length ms) w.as_slice.ensures w.in-Some.ensures.within in
          one_more n ports k p w.in-Out.field-0 w.in-Some.mem c.loop-port.order.items c.match-port.order.items low here w.in-Out.is
          (sym w.in-Some.is ∙ named) there
          (ap (λ (v : Vec ℕ Global). v.items) w.order-is ∙ w.in_ok-push.ensures.items) c.loop-port.invariant
      | in-Out+in_default-committing w ↦
          let named = w.committing.ensures.value ∙ ap₂ number w.as_bytes.ensures w.as_slice.ensures in
          subst (λ (v : Vec ℕ Global). AreSoFar n v.items rest) (sym w.order-is)
          (none_more n ports k p w.in-Out.field-0 c.loop-port.order.items low here w.in-Out.is (sym w.in_default-committing.is ∙ named) c.loop-port.invariant)
      | in_default w ↦
          subst (λ (v : Vec ℕ Global). AreSoFar n v.items rest) (sym w.order-is)
          (input_more n ports k p c.loop-port.order.items low here w.in_default.is c.loop-port.invariant)
    ]

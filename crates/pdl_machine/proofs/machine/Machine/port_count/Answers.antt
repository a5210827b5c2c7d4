use Rattle.std.proofs.Common.{◌≡◌, ◌∙◌, ap, subst, ℕ, List, length}
use Rattle.pdl_form.specs.Form.{Form}
use Rattle.pdl_machine_run.specs.Outputs.{output_count}
use Rattle.pdl_machine.specs.Running.{Running, flat_of}
use Rattle.pdl_machine.proofs.FlatForm.{form_is}
use Rattle.pdl_machine.proofs.machine.Machine.port_count.Goals as goal

pub returns-clause-count : goal.returns-clause-count
returns-clause-count c =
    let m = c.self.inside in
    ap (λ (vs : List ℕ). length vs) c.shown.ensures
    ∙ subst (λ (f : Form). length m.run.shown.items ≡ output_count f.pipe) (form_is m.accepted.now) c.self.invariant.runs.outputs
    ∙ ap (λ (r : Running). output_count (flat_of r)) c.self.view_is

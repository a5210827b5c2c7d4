use Rattle.std.proofs.Common.{ℕ, ap, ◌∙◌}
use Rattle.std.proofs.lemmas.Bool.{eqb-true}
use Rattle.pdl_net.specs.Circuit.{State}
use Rattle.pdl_net.specs.Signal.{const_value}
use Rattle.pdl_lock_ring.proofs.step.is_off.Goals as goal

pub returns-in-Some : goal.returns-in-Some
unfolding const_value
returns-in-Some c = λ t s. ap (λ (g : State → ℕ). g s) c.in-Some.ensures.value ∙ eqb-true _ 0 t

use Rattle.std.proofs.Common.{◌<◌, ◌+◌, ◌++◌, sym, ap, ap₂, ℕ, ◌∙◌, arith}
use Rattle.std.specs.Global.{Vec}
use Rattle.pdl_form.specs.FormView.{form}
use Rattle.pdl_machine_facts.specs.Slots.{leads_to}
use Rattle.pdl_pipe_registers.proofs.WaysMade.{ways_left, one_leads, none_leads}
use Rattle.pdl_pipe_registers.proofs.ways.ways_into.Goals as goal
use Rattle.pdl_pipe_registers.proofs.ways.ways_into.Goals.{then-leads_to+in_ok-push, else-leads_to}

pub loop-j-preserved : goal.loop-j-preserved
loop-j-preserved c =
    let p = (form c.args.pipe.now).pipe in
    let q = c.args.q in
    let j = c.loop-j.j in
    let t = c.loop-j-test.true in
    let low : j < q = omega (arith, t) in
    let leads = sym (c.leads_to.ensures ∙ ap (λ n. leads_to n q) c.next_of.ensures) in
    elim c.if-leads_to.branch [
      | then-leads_to+in_ok-push w ↦ ap (λ xs. xs ++ ways_left p q (j + 1)) (ap (λ (l : Vec ℕ). l.items) w.list-is ∙ w.in_ok-push.ensures.items)
          ∙ one_leads p q j low c.loop-j.list.items (leads ∙ w.if-leads_to.true) ∙ c.loop-j.invariant
      | else-leads_to w ↦ ap₂ (λ xs ys. xs ++ ys) (ap (λ (l : Vec ℕ). l.items) w.list-is) (none_leads p q j low (leads ∙ w.if-leads_to.false))
          ∙ c.loop-j.invariant
    ]

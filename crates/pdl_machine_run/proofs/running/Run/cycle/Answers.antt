use Rattle.std.proofs.Common.{◌≡◌, ◌≤◌, ◌+◌, ◌*◌, ◌∙◌, sym, ap, subst, ℕ, List, length, arith}
use Rattle.std.specs.Prelude.{vec_capacity}
use Rattle.std.specs.Vec.{with_items}
use Rattle.pdl_semantics.specs.Machine.{State}
use Rattle.pdl_semantics.specs.Moves.{all_acts}
use Rattle.pdl_semantics.specs.Cycle as stated
use Rattle.pdl_form.specs.FormView.{form}
use Rattle.pdl_word.proofs.Lists.{items_written}
use Rattle.pdl_machine_run.specs.declared.stage.Stage as r_stage
use Rattle.pdl_machine_run.specs.View.{seats}
use Rattle.pdl_machine_run.specs.Outside.{state_of}
use Rattle.pdl_machine_facts.specs.Ports.{whole_values}
use Rattle.pdl_machine_run.specs.Running.{IsReached, AreReady}
use Rattle.pdl_machine_run.specs.Runs.{state_in}
use Rattle.pdl_machine_run.proofs.Roomy.{reached_next}
use Rattle.pdl_machine_run.proofs.PortCounts.{ports_counted}
use Rattle.pdl_machine_run.proofs.running.Run.cycle.Goals as goal

pub returns-clause-ports : goal.returns-clause-ports
returns-clause-ports c =
    let r = c.args.self.now in
    let p = (form c.args.pipe.now).pipe in
    let bits = c.args.replies.now in
    c.cycle-called.ensures.ports
    ∙ ap
    (λ (ss : List r_stage.Stage). whole_values p
    (stated.ports p (state_of (seats ss) r.beside r.next) (all_acts p (state_of (seats ss) r.beside r.next) bits))) c.as_mut_slice.ensures.value

pub returns-clause-runs : goal.returns-clause-runs
returns-clause-runs c =
    let r = c.args.self.now in
    let f = form c.args.pipe.now in
    let p = f.pipe in
    let bits = c.args.replies.now in
    let new = c.cycle-called.new.stages in
    let after = c.cycle-called.new.beside in
    let stood : length new ≡ length r.stages.items = c.cycle-called.auto.stages ∙ ap (λ (ss : List r_stage.Stage). length ss) c.as_mut_slice.ensures.value in
    let zs : (with_items r.stages new).items ≡ new = items_written r.stages new stood in
    let now : state_of (seats (with_items r.stages new).items) after c.next_number-self.result ≡ stated.cycle p (state_in r) bits =
    ap (λ (ss : List r_stage.Stage). state_of (seats ss) after c.next_number-self.result) zs
    ∙ ap (state_of (seats new) after) c.next_number-self.ensures
    ∙ c.cycle-called.ensures.state
    ∙ ap (λ (ss : List r_stage.Stage). stated.cycle p (state_of (seats ss) r.beside r.next) bits) c.as_mut_slice.ensures.value
    in
    let those = ap (λ (ss : List r_stage.Stage). length ss) zs in
    let was = c.requires.runs.beside.roomy.memories.count in
    let is = c.cycle-called.ensures.beside.roomy.memories.count in
    let room : 2 * length r.stages.items + 8 * length r.beside.memories.items + 2 ≤ vec_capacity r.shown = c.requires.runs.room in
    let kept : vec_capacity c.cycle-called.new.shown ≡ vec_capacity r.shown = c.cycle-called.ensures.room in
    record {
      ready = subst (λ (ss : List r_stage.Stage). AreReady f ss) (sym zs) c.cycle-called.ensures.ready;
      ahead = c.cycle-called.ensures.ahead;
      beside = c.cycle-called.ensures.beside;
      reached = subst (λ (s : State). IsReached p s) (sym now) (reached_next p (state_in r) bits c.requires.runs.reached);
      room = omega arith;
      outputs = ap (λ (vs : List ℕ). length vs) (returns-clause-ports c) ∙ ports_counted p (state_in r) (all_acts p (state_in r) bits);
    }

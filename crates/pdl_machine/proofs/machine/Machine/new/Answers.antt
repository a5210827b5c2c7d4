use Rattle.std.proofs.Common.{◌≡◌, ◌∙◌, sym, ap, subst, List, replicate, arith}
use Rattle.std.specs.Prelude.{count_by}
use Rattle.pdl_semantics.specs.Flat.{Mem, is_delayed}
use Rattle.pdl_semantics.specs.Flat.{arrays_of}
use Rattle.pdl_semantics.specs.Cycle as stated
use Rattle.pdl_syntax_tree.specs.View.{pipe_view}
use Rattle.pdl_form.specs.Form.{Form}
use Rattle.pdl_machine_run.specs.Running.{IsRunnable, AreImages}
use Rattle.pdl_machine_run.specs.Outputs.{output_count}
use Rattle.pdl_machine_run.specs.Runs.{state_in}
use Rattle.pdl_machine.proofs.FlatForm.{form_is}
use Rattle.pdl_machine.proofs.AcceptedPipes.{runnable, images}
use Rattle.pdl_machine.proofs.machine.Machine.new.Goals as goal

pub new-requires-clause-run : goal.new-requires-clause-run
new-requires-clause-run c =
    let a = c.args.accepted.now in
    subst IsRunnable (sym (form_is a))
    (runnable (pipe_view a.typed.pipe) a.kept a.source a.letters (c.typed_form.ensures (pipe_view a.typed.pipe) a.kept a.letters))

pub new-requires-clause-image : goal.new-requires-clause-image
new-requires-clause-image c =
    let a = c.args.accepted.now in
    subst (λ (f : Form). AreImages f.pipe c.args.image.now) (sym (form_is a)) (images (pipe_view a.typed.pipe) c.args.image.now c.requires)

pub returns-clause-first : goal.returns-clause-first
returns-clause-first c =
    subst (λ (f : Form). state_in c.in_ok-run.run' ≡ stated.first f.pipe (arrays_of c.args.image.now)) (form_is c.args.accepted.now) c.in_ok-run.ensures.first

pub returns-clause-run : goal.returns-clause-run
returns-clause-run c =
    subst (λ (f : Form). state_in c.in_ok-run.run' ≡ stated.first f.pipe (arrays_of c.args.image.now)) (form_is c.args.accepted.now) c.in_ok-run.ensures.first

pub returns-clause-shown : goal.returns-clause-shown
returns-clause-shown c =
    subst (λ (f : Form). c.in_ok-run.run'.shown.items ≡ replicate (output_count f.pipe) 0) (form_is c.args.accepted.now) c.in_ok-run.ensures.shown

pub invariant_of-result : goal.invariant_of-result
invariant_of-result c =
    let a = c.args.accepted.now in
    let first : c.in_ok-run.run'.next ≡ 2 = c.in_ok-run.ensures.next in
    record {
      runnable =
          subst IsRunnable (sym (form_is a))
          (runnable (pipe_view a.typed.pipe) a.kept a.source a.letters (c.typed_form.ensures (pipe_view a.typed.pipe) a.kept a.letters));
      runs = c.in_ok-run.ensures.runs;
      replies = c.in_ok-replies.ensures ∙ ap (λ (ms : List Mem). count_by (λ (x : Mem). is_delayed x.kind) ms) c.mems.ensures.mems;
      next = omega arith;
    }

use Rattle.std.proofs.Common.{◌≡◌, ◌∙◌, sym, ap, subst, Bool, List, [], ◌∷◌, ◌++◌, length}
use Rattle.std.specs.Prelude.{IsTrue}
use Rattle.std.specs.Vec.{with_items}
use Rattle.pdl_word.proofs.Lists.{items_written}
use Rattle.pdl_semantics.specs.Flat.{arrays_of, Pipe}
use Rattle.pdl_semantics.specs.Flatten.{flat}
use Rattle.pdl_semantics.specs.Machine.{State}
use Rattle.pdl_semantics.specs.Moves.{all_acts}
use Rattle.pdl_semantics.specs.Cycle as stated
use Rattle.pdl_semantics.specs.Promises.{Advances}
use Rattle.pdl_semantics.specs.Sound.{is_sound}
use Rattle.pdl_syntax_tree.specs.View.{pipe_view}
use Rattle.pdl_form.specs.Form.{Form}
use Rattle.pdl_machine_facts.specs.Ports.{delayed_count, replies_of, whole_values}
use Rattle.pdl_machine_run.specs.Runs.{state_in}
use Rattle.pdl_machine.specs.Running.{Running, flat_of, state_of, replies_to}
use Rattle.pdl_machine.proofs.FlatForm.{form_is}
use Rattle.pdl_machine.proofs.RunPromises.{run_on, refines, advances, paces, idle, updated, stays_sound}
use Rattle.pdl_machine.proofs.machine.Machine.cycle.Goals as goal

pub returns-clause-state : goal.returns-clause-state
returns-clause-state c =
    let m = c.self.inside in
    let p = flat (pipe_view m.accepted.now.typed.pipe) in
    let new = c.put_bits.new.replies in
    let many : length c.as_mut_slice.result.now ≡ length m.replies.items = ap (λ (bs : List Bool). length bs) c.as_mut_slice.ensures.value in
    let written : (with_items m.replies new).items ≡ new = items_written m.replies new (c.put_bits.auto.replies ∙ many) in
    let count : length m.replies.items ≡ delayed_count p = c.self.invariant.replies ∙ ap (λ (f : Form). delayed_count f.pipe) (form_is m.accepted.now) in
    let told : c.as_slice.result.now ≡ replies_of (delayed_count p) c.args.replies =
    c.as_slice.ensures.value ∙ written ∙ c.put_bits.ensures ∙ ap (λ n. replies_of n c.args.replies) (many ∙ count) in
    subst (λ (f : Form). state_in c.cycle.new.self ≡ stated.cycle f.pipe (state_in m.run) c.as_slice.result.now) (form_is m.accepted.now) c.cycle.ensures.state
    ∙ ap (stated.cycle p (state_in m.run)) told
    ∙ ap (λ (r : Running). stated.cycle (flat_of r) (state_of r) (replies_to r c.args.replies)) c.self.view_is

pub returns-clause-ports : goal.returns-clause-ports
returns-clause-ports c =
    let m = c.self.inside in
    let p = flat (pipe_view m.accepted.now.typed.pipe) in
    let new = c.put_bits.new.replies in
    let many : length c.as_mut_slice.result.now ≡ length m.replies.items = ap (λ (bs : List Bool). length bs) c.as_mut_slice.ensures.value in
    let written : (with_items m.replies new).items ≡ new = items_written m.replies new (c.put_bits.auto.replies ∙ many) in
    let count : length m.replies.items ≡ delayed_count p = c.self.invariant.replies ∙ ap (λ (f : Form). delayed_count f.pipe) (form_is m.accepted.now) in
    let told : c.as_slice.result.now ≡ replies_of (delayed_count p) c.args.replies =
    c.as_slice.ensures.value ∙ written ∙ c.put_bits.ensures ∙ ap (λ n. replies_of n c.args.replies) (many ∙ count) in
    subst
    (λ (f : Form). c.cycle.new.self.shown.items
    ≡ whole_values f.pipe (stated.ports f.pipe (state_in m.run) (all_acts f.pipe (state_in m.run) c.as_slice.result.now)))
    (form_is m.accepted.now) c.cycle.ensures.ports
    ∙ ap (λ (bits : List Bool). whole_values p (stated.ports p (state_in m.run) (all_acts p (state_in m.run) bits))) told
    ∙ ap
    (λ (r : Running). whole_values (flat_of r)
    (stated.ports (flat_of r) (state_of r) (all_acts (flat_of r) (state_of r) (replies_to r c.args.replies)))) c.self.view_is

pub returns-clause-waited : goal.returns-clause-waited
returns-clause-waited c =
    let m = c.self.inside in
    let p = flat (pipe_view m.accepted.now.typed.pipe) in
    let new = c.put_bits.new.replies in
    let many : length c.as_mut_slice.result.now ≡ length m.replies.items = ap (λ (bs : List Bool). length bs) c.as_mut_slice.ensures.value in
    let written : (with_items m.replies new).items ≡ new = items_written m.replies new (c.put_bits.auto.replies ∙ many) in
    let count : length m.replies.items ≡ delayed_count p = c.self.invariant.replies ∙ ap (λ (f : Form). delayed_count f.pipe) (form_is m.accepted.now) in
    let told : c.as_slice.result.now ≡ replies_of (delayed_count p) c.args.replies =
    c.as_slice.ensures.value ∙ written ∙ c.put_bits.ensures ∙ ap (λ n. replies_of n c.args.replies) (many ∙ count) in
    subst (λ (f : Form). c.cycle.new.self.waited ≡ stated.is_wait f.pipe (state_in m.run) c.as_slice.result.now) (form_is m.accepted.now) c.cycle.ensures.waited
    ∙ ap (stated.is_wait p (state_in m.run)) told
    ∙ ap (λ (r : Running). stated.is_wait (flat_of r) (state_of r) (replies_to r c.args.replies)) c.self.view_is

pub returns-clause-run : goal.returns-clause-run
returns-clause-run c image schedule h =
    let bits = replies_to c.args.self.now c.args.replies in
    returns-clause-state c
    ∙ ap (λ st. stated.cycle (flat_of c.args.self.now) st bits) h
    ∙ sym (run_on (flat_of c.args.self.now) (stated.first (flat_of c.args.self.now) (arrays_of image)) schedule bits)
    ∙ ap (λ (r : Running). stated.state_after (flat_of r) (stated.first (flat_of r) (arrays_of image)) (schedule ++ bits ∷ [])) (sym c.self.view_is)

pub returns-clause-refines : goal.returns-clause-refines
returns-clause-refines c image schedule h =
    let a = c.self.inside.accepted.now in
    refines (pipe_view a.typed.pipe) a.source a.letters a.kept (arrays_of image) schedule

pub returns-clause-moves : goal.returns-clause-moves
returns-clause-moves c image schedule h =
    let a = c.self.inside.accepted.now in
    subst (λ (r : Running). Advances (flat_of r) (arrays_of image) schedule (replies_to r c.args.replies)) c.self.view_is
    (advances (pipe_view a.typed.pipe) a.source a.letters a.kept (arrays_of image) schedule
    (replies_of (delayed_count (flat (pipe_view a.typed.pipe))) c.args.replies))

pub returns-clause-pace : goal.returns-clause-pace
returns-clause-pace c image schedule h =
    let a = c.self.inside.accepted.now in
    paces (pipe_view a.typed.pipe) a.source a.letters a.kept (arrays_of image) schedule

pub returns-clause-advice : goal.returns-clause-advice
returns-clause-advice c image schedule h other replies differ =
    let a = c.self.inside.accepted.now in
    idle (pipe_view a.typed.pipe) a.source a.letters a.kept (arrays_of image) schedule other replies differ

pub returns-clause-updates : goal.returns-clause-updates
returns-clause-updates c image schedule h replies =
    let a = c.self.inside.accepted.now in
    updated (pipe_view a.typed.pipe) a.source a.letters a.kept (arrays_of image) schedule replies

pub returns-clause-sound : goal.returns-clause-sound
returns-clause-sound c image schedule h =
    let a = c.self.inside.accepted.now in
    let p : Pipe = flat (pipe_view a.typed.pipe) in
    subst (λ (st : State). IsTrue (is_sound p (arrays_of image) (stated.ended_in (stated.turns p (arrays_of image) schedule)) st)) (sym h)
    (stays_sound (pipe_view a.typed.pipe) a.source a.letters a.kept (arrays_of image) schedule)

use Rattle.std.proofs.Common.{◌≡◌, sym, subst, rules}
use Rattle.pdl_syntax_tree.specs.View.{pipe_view}
use Rattle.pdl_form.specs.Form.{Form, form_of}
use Rattle.pdl_net.specs.Circuit.{circuit_of}
use Rattle.pdl_pipe_walk.specs.Locked.{members}
use Rattle.pdl_pipe_locks.specs.Suited.{AreSuited}
use Rattle.pdl_pipe_emitted.specs.Emitted.{CanEmit}
use Rattle.pdl_pipe_emitted.proofs.Emittable.{can_emit}
use Rattle.pdl_pipe.proofs.MadeMemories.{mems_as}
use Rattle.pdl_pipe.proofs.MadeNetlist.{follows_made, locks_made, names_made}
use Rattle.pdl_pipe.proofs.MadeNames.{named_as}
use Rattle.pdl_pipe.proofs.netlist.compile_with.Goals as goal

pub emit_all-requires-clause-can : goal.emit_all-requires-clause-can
emit_all-requires-clause-can g c =
    let a = c.args.accepted.now in
    subst CanEmit (sym c.flat.ensures) (can_emit (pipe_view a.typed.pipe) a.kept a.source a.letters)

pub emit_all-requires-clause-suited : goal.emit_all-requires-clause-suited
emit_all-requires-clause-suited g c =
    subst (λ (f : Form). AreSuited g.L.LockModule.suits (members g.L.LockModule) f c.args.locks.now) (sym c.flat.ensures) c.requires.suited

pub returns-clause-follows : goal.returns-clause-follows
returns-clause-follows g c =
    let a = c.args.accepted.now in
    let p = pipe_view a.typed.pipe in
    let l = members g.L.LockModule in
    let n = c.finish.result in
    let done = c.finish.ensures in
    let name : n.name ≡ p.name.name = search rules in
    let named = named_as l c.emit_all.new.b (circuit_of n) _ (form_of p) c.in_ok-names.names.items (sym done.value) c.flat.ensures c.in_ok-names.ensures in
    follows_made l g.met.L.LockModule.stays p n named.emitted
    name (mems_as p.mems _ _ _ done.mems c.in_ok-mems.ensures c.mems.ensures) done.well a.kept a.source a.letters

pub returns-clause-locks : goal.returns-clause-locks
returns-clause-locks g c =
    let a = c.args.accepted.now in
    let p = pipe_view a.typed.pipe in
    let l = members g.L.LockModule in
    let n = c.finish.result in
    let done = c.finish.ensures in
    let name : n.name ≡ p.name.name = search rules in
    let named = named_as l c.emit_all.new.b (circuit_of n) _ (form_of p) c.in_ok-names.names.items (sym done.value) c.flat.ensures c.in_ok-names.ensures in
    locks_made l g.met.L.LockModule.stays p n named.emitted
    name (mems_as p.mems _ _ _ done.mems c.in_ok-mems.ensures c.mems.ensures) done.well a.kept a.source a.letters

pub returns-clause-names : goal.returns-clause-names
returns-clause-names g c =
    let a = c.args.accepted.now in
    let p = pipe_view a.typed.pipe in
    let l = members g.L.LockModule in
    let n = c.finish.result in
    let done = c.finish.ensures in
    let name : n.name ≡ p.name.name = search rules in
    let named = named_as l c.emit_all.new.b (circuit_of n) _ (form_of p) c.in_ok-names.names.items (sym done.value) c.flat.ensures c.in_ok-names.ensures in
    names_made l g.met.L.LockModule.stays p n named.emitted
    name (mems_as p.mems _ _ _ done.mems c.in_ok-mems.ensures c.mems.ensures) done.well a.kept a.source a.letters c.in_ok-names.names.items named.named

use Rattle.std.proofs.Common.{sym, subst}
use Rattle.pdl_syntax_tree.specs.View.{pipe_view}
use Rattle.pdl_form.specs.Form.{Form}
use Rattle.pdl_form_types.proofs.FormTyping.{typed_whole}
use Rattle.pdl_form_types.specs.Stmts.{AreTypedMems}
use Rattle.pdl_lock_kinds.specs.AskedLocks.{AreInTime, AreSizedLocks}
use Rattle.pdl_law_follows.proofs.Sequential as sequential
use Rattle.pdl_pipe.proofs.LocksAllowed.{sized_locks, locks_in_time, suited_as}
use Rattle.pdl_pipe.proofs.netlist.compile_named.Goals as goal

pub locks_of-requires-clause-mems : goal.locks_of-requires-clause-mems
locks_of-requires-clause-mems c =
    let a = c.args.accepted.now in
    subst (λ (f : Form). AreTypedMems f.pipe.mems) (sym c.flat.ensures) (typed_whole (pipe_view a.typed.pipe) a.kept a.letters).mems

pub locks_of-requires-clause-in_time : goal.locks_of-requires-clause-in_time
locks_of-requires-clause-in_time c =
    let a = c.args.accepted.now in
    subst (λ (f : Form). AreInTime f.pipe.mems) (sym c.flat.ensures) (locks_in_time (pipe_view a.typed.pipe) a.kept)

pub locks_of-requires-clause-sizes : goal.locks_of-requires-clause-sizes
locks_of-requires-clause-sizes c =
    let a = c.args.accepted.now in
    subst (λ (f : Form). AreSizedLocks f.pipe.mems) (sym c.flat.ensures) (sized_locks (pipe_view a.typed.pipe) a.kept)

pub needed_with-requires : goal.needed_with-requires
needed_with-requires c = record { suited = suited_as _ _ _ _ _ _ c.flat.ensures c.as_slice.ensures.value c.in_ok-locks.ensures.suited }

pub returns-clause-writes : goal.returns-clause-writes
returns-clause-writes c =
    let a = c.args.accepted.now in
    let n = c.in_ok-named in
    sequential.refines (pipe_view a.typed.pipe) a.kept a.source a.letters n.named.netlist n.ensures.follows

pub returns-clause-moves : goal.returns-clause-moves
returns-clause-moves c =
    let a = c.args.accepted.now in
    let n = c.in_ok-named in
    sequential.moves (pipe_view a.typed.pipe) a.kept a.source a.letters n.named.netlist n.ensures.follows

pub returns-clause-ends : goal.returns-clause-ends
returns-clause-ends c =
    let a = c.args.accepted.now in
    let n = c.in_ok-named in
    sequential.ends (pipe_view a.typed.pipe) a.kept a.source a.letters n.named.netlist n.ensures.follows

pub returns-clause-runs : goal.returns-clause-runs
returns-clause-runs c =
    let a = c.args.accepted.now in
    let n = c.in_ok-named in
    sequential.runs (pipe_view a.typed.pipe) a.kept a.source a.letters n.named.netlist n.ensures.follows

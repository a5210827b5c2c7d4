use Rattle.std.proofs.Common.{◌≡◌, ◌++◌, ◌∙◌, List, sym, ap, subst, append-nil}
use Rattle.std.specs.Prelude.{Option}
use Rattle.std.proofs.lemmas.List.{drop_all}
use Rattle.pdl_form.specs.declared.form.FlatMem as r_mem
use Rattle.pdl_form.specs.FormView.{form}
use Rattle.pdl_form.specs.View.{mems_view}
use Rattle.pdl_lock_any.specs.declared.AnyLock.{AnyLock}
use Rattle.pdl_lock_any.specs.Any.{any_kind, any_size, any_tickets, any_suits, any_placed, any_stands}
use Rattle.pdl_pipe_walk.specs.Locked.{Members}
use Rattle.pdl_pipe_locks.specs.Suited.{AreSuited}
use Rattle.pdl_lock_kinds.specs.AskedLocks.{locks_asked}
use Rattle.pdl_lock_kinds.proofs.SuitedLocks.{are_suited}
use Rattle.std.proofs.Common.{refl}
use Rattle.pdl_lock_kinds.proofs.kinds.locks_of.Goals as goal

pub returns-clause-asked : goal.returns-clause-asked
returns-clause-asked c =
    let ms = c.mems-mems.result.now in
    sym (append-nil c.loop-m.locks.items)
    ∙ sym (ap (λ (xs : List r_mem.FlatMem). c.loop-m.locks.items ++ locks_asked (mems_view xs)) (drop_all c.loop-m.m-index ms c.loop-m-test.false))
    ∙ c.loop-m.invariant ∙ ap locks_asked c.mems-mems.ensures.mems

pub returns-clause-suited : goal.returns-clause-suited
returns-clause-suited c =
    let ms = c.mems-mems.result.now in
    let f = form c.args.pipe.now in
    let l : Members AnyLock = record { placed = any_placed; stands = any_stands; kind = any_kind; size = any_size; tickets = any_tickets } in
    let asked : c.loop-m.locks.items ≡ locks_asked f.pipe.mems =
    sym (append-nil c.loop-m.locks.items)
    ∙ sym (ap (λ (xs : List r_mem.FlatMem). c.loop-m.locks.items ++ locks_asked (mems_view xs)) (drop_all c.loop-m.m-index ms c.loop-m-test.false))
    ∙ c.loop-m.invariant ∙ ap locks_asked c.mems-mems.ensures.mems in
    subst (λ (xs : List (Option AnyLock)). AreSuited any_suits l f xs) (sym asked)
    (are_suited l f refl refl c.requires.mems c.requires.in_time c.requires.sizes)

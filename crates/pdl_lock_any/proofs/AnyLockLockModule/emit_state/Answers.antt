use Rattle.std.proofs.Common.{sym, subst}
use Rattle.std.specs.Prelude.{IfOk}
use Rattle.pdl_lockapi.specs.Laws.{PlacesLaw}
use Rattle.pdl_lock_any.specs.declared.AnyLock.{AnyLock}
use Rattle.pdl_lock_any.specs.Any.{any_kind, any_stands}
use Rattle.pdl_lock_any.proofs.AnyLockLockModule.emit_state.Goals as goal

pub returns-in-Rename-clause-places : goal.returns-in-Rename-clause-places
returns-in-Rename-clause-places c =
    let P : AnyLock → Type 0 = λ x. IfOk c.emit_state-in-Rename.result (λ r. PlacesLaw (any_stands x r) (any_kind x) r) in
    subst P (sym c.in-Rename.is) c.emit_state-in-Rename.ensures.places

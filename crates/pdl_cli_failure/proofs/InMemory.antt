-- What was made, or that memory was wanting.
use Rattle.std.proofs.Common.{◌≡◌, Result, Ok, Err, IfOk, subst}
use Rattle.pdl_kit.specs.declared.no_memory.NoMemory as r_no_memory
use Rattle.pdl_cli_failure.specs.declared.failure.Failure.{Failure}

-- what holds of all that is made holds of it where it is handed on
pub made_so : {T : Type 0} → (made : Result T r_no_memory.NoMemory) (r : Result T Failure) (P : T → Type 0)
    → IfOk r (λ t. made ≡ Ok t) → IfOk made P → IfOk r P
made_so made (Ok t) P h p = subst (λ m. IfOk m P) h p
made_so made (Err e) P h p = tt

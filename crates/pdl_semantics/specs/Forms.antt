-- Statements by what they have to do with. Each definition names every form, so that a new one must be spoken of here before what stands on it checks.
use Rattle.std.specs.Prelude.{ℕ}
use Rattle.pdl_semantics.specs.Flat.{Op, Bind, CombRead, DelayedRead, Write, ReserveRead, ReserveWrite, Block, Release, Call, SpecCall, Verify, SpecCheck, SpecBarrier, AdviceBind, AdviceRead, AdviceWrite}

-- of the variable that a statement binds; of a statement that binds none the rest
abbrev pub on_binding {ℓ} : {X : Type ℓ} → (ℕ → X) → X → Op → X
on_binding f rest (Bind x e) = f x
on_binding f rest (CombRead x m a) = f x
on_binding f rest (DelayedRead x m a) = f x
on_binding f rest (Write m a e) = rest
on_binding f rest (ReserveRead m a) = rest
on_binding f rest (ReserveWrite m a) = rest
on_binding f rest (Block m a) = rest
on_binding f rest (Release m a) = rest
on_binding f rest (Call args) = rest
on_binding f rest (SpecCall args) = rest
on_binding f rest (Verify last args) = rest
on_binding f rest SpecCheck = rest
on_binding f rest SpecBarrier = rest
on_binding f rest (AdviceBind x e) = rest
on_binding f rest (AdviceRead x m a) = rest
on_binding f rest (AdviceWrite m a e) = rest

-- of a delayed read's variable, its memory and the variable of its address; of any other statement the rest
abbrev pub on_delayed_read {ℓ} : {X : Type ℓ} → (ℕ → ℕ → ℕ → X) → X → Op → X
on_delayed_read f rest (Bind x e) = rest
on_delayed_read f rest (CombRead x m a) = rest
on_delayed_read f rest (DelayedRead x m a) = f x m a
on_delayed_read f rest (Write m a e) = rest
on_delayed_read f rest (ReserveRead m a) = rest
on_delayed_read f rest (ReserveWrite m a) = rest
on_delayed_read f rest (Block m a) = rest
on_delayed_read f rest (Release m a) = rest
on_delayed_read f rest (Call args) = rest
on_delayed_read f rest (SpecCall args) = rest
on_delayed_read f rest (Verify last args) = rest
on_delayed_read f rest SpecCheck = rest
on_delayed_read f rest SpecBarrier = rest
on_delayed_read f rest (AdviceBind x e) = rest
on_delayed_read f rest (AdviceRead x m a) = rest
on_delayed_read f rest (AdviceWrite m a e) = rest

-- of a block's memory and the variable of its address; of any other statement the rest
abbrev pub on_block {ℓ} : {X : Type ℓ} → (ℕ → ℕ → X) → X → Op → X
on_block f rest (Bind x e) = rest
on_block f rest (CombRead x m a) = rest
on_block f rest (DelayedRead x m a) = rest
on_block f rest (Write m a e) = rest
on_block f rest (ReserveRead m a) = rest
on_block f rest (ReserveWrite m a) = rest
on_block f rest (Block m a) = f m a
on_block f rest (Release m a) = rest
on_block f rest (Call args) = rest
on_block f rest (SpecCall args) = rest
on_block f rest (Verify last args) = rest
on_block f rest SpecCheck = rest
on_block f rest SpecBarrier = rest
on_block f rest (AdviceBind x e) = rest
on_block f rest (AdviceRead x m a) = rest
on_block f rest (AdviceWrite m a e) = rest

-- of a release's memory and the variable of its address; of any other statement the rest
abbrev pub on_release {ℓ} : {X : Type ℓ} → (ℕ → ℕ → X) → X → Op → X
on_release f rest (Bind x e) = rest
on_release f rest (CombRead x m a) = rest
on_release f rest (DelayedRead x m a) = rest
on_release f rest (Write m a e) = rest
on_release f rest (ReserveRead m a) = rest
on_release f rest (ReserveWrite m a) = rest
on_release f rest (Block m a) = rest
on_release f rest (Release m a) = f m a
on_release f rest (Call args) = rest
on_release f rest (SpecCall args) = rest
on_release f rest (Verify last args) = rest
on_release f rest SpecCheck = rest
on_release f rest SpecBarrier = rest
on_release f rest (AdviceBind x e) = rest
on_release f rest (AdviceRead x m a) = rest
on_release f rest (AdviceWrite m a e) = rest

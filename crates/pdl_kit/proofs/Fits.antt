-- A sink in memory with no listed call fails only where its room is full.
use Rattle.std.proofs.Common.{◌≡◌, ◌+◌, ◌<◌, ◌≤◌, ℕ, List, [], length, inl, inr, subst, arith, Contains}
use Rattle.pdl_kit.specs.Counts.{raised_count}
use Rattle.pdl_kit.specs.SinkInMemory.{State, WriteFails}

-- a write whose piece fits the room doesn't fail
pub write_fits : (s : State) (piece : List ℕ)
    → s.failing ≡ [] → 0 < s.most → length s.written + length piece ≤ s.room → ¬ (WriteFails s piece)
write_fits s piece unlisted some fits (inl listed) = let none : Contains [] (raised_count s.calls) =
    subst (λ xs. Contains xs (raised_count s.calls)) unlisted listed in
    absurd (omega (arith, none.1))
write_fits s piece unlisted some fits (inr (there, inl full)) = absurd (omega arith)
write_fits s piece unlisted some fits (inr (there, inr closed)) = absurd (omega arith)

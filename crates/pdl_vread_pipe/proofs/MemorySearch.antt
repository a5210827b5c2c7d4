-- A memory that is found is one of those that were searched.
use Rattle.std.proofs.Common.{◌≡◌, ℕ, suc, ◌≤◌, Bool, true, false, cond, List, [], ◌∷◌, Some, None, All, bytes_eq, sym, subst, arith}
use Rattle.pdl_net.specs.Pipe.{PortMem}
use Rattle.pdl_vread_pipe.specs.Tests as spec

some_not_none : {X : Type 0} (x : X) → Some x ≡ None → ⊥
some_not_none x e = cc

-- a memory that is found among some with addresses of at most 16 bits has such addresses
pub find_short : (x : List ℕ) (ms : List PortMem) (m : PortMem) → All spec.IsShort ms → Some m ≡ spec.find_named x ms → m.bits ≤ 16
find_short x [] m a e = absurd (some_not_none m e)
find_short x (y ∷ ys) m a e = go (bytes_eq y.name x) (find_short x ys m (λ k d l. a (suc k) d (omega arith))) e
  where
    go : (b : Bool) → (Some m ≡ spec.find_named x ys → m.bits ≤ 16) → Some m ≡ cond b (Some y) (spec.find_named x ys) → m.bits ≤ 16
    go true i h = let j : m ≡ y = cc in subst (λ (z : PortMem). z.bits ≤ 16) (sym j) (a 0 y (omega arith))
    go false i h = i h

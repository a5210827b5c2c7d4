-- Lists of nets keep what they mean while more is added.
use Rattle.std.proofs.Common.{◌≡◌, ℕ, zero, suc, ◌<◌, List, [], ◌∷◌, ◌++◌, length, refl, ap, ap₂, ◌∙◌, arith}
use Rattle.std.specs.Prelude.{slice_index, slice_index_or}
use Rattle.pdl_net.specs.declared.Net.{Net}
use Rattle.pdl_net.specs.Circuit.{Circuit}
use Rattle.pdl_net.specs.Signal.{Signal}
use Rattle.pdl_net.specs.Meaning.{signal, IsThere, Means}
use Rattle.pdl_net.specs.Growth.{Keeps, Extends}
use Rattle.pdl_pipe_exprs.specs.declared.bits.Bits.{Bits}
use Rattle.pdl_pipe_exprs.specs.Conditions.{AreBits}
use Rattle.pdl_pipe_exprs.specs.Nets.{NetsThere, signals_in, signal_at, widths_of}

-- nets are there in each circuit that keeps what stands in theirs
pub there_keeps : (a b : Circuit) (xs : List Net) → Keeps a b → NetsThere a xs → NetsThere b xs
there_keeps a b [] e t = t
there_keeps a b (x ∷ xs) e t = (e.there x t.0, there_keeps a b xs e t.1)

-- nets mean the same in each circuit that keeps what stands in theirs
pub signals_keep : (a b : Circuit) (xs : List Net) → Keeps a b → NetsThere a xs → signals_in b xs ≡ signals_in a xs
signals_keep a b [] e t = refl
signals_keep a b (x ∷ xs) e t = ap₂ (λ (f : Signal) (fs : List Signal). f ∷ fs) (e.kept x t.0) (signals_keep a b xs e t.1)

-- nets are still there when the circuit has grown
pub nets_there : (a b : Circuit) (xs : List Net) → Extends a b → NetsThere a xs → NetsThere b xs
nets_there a b [] e t = t
nets_there a b (x ∷ xs) e t = (e.there x t.0, nets_there a b xs e t.1)

-- nets mean what they meant when the circuit has grown
pub nets_kept : (a b : Circuit) (xs : List Net) → Extends a b → NetsThere a xs → signals_in b xs ≡ signals_in a xs
nets_kept a b [] e t = refl
nets_kept a b (x ∷ xs) e t = ap₂ (λ (f : Signal) (fs : List Signal). f ∷ fs) (e.kept x t.0) (nets_kept a b xs e t.1)

-- a net that is there, after nets that are there
pub net_more : (c : Circuit) (xs : List Net) (x : Net) → NetsThere c xs → IsThere c x → NetsThere c (xs ++ x ∷ [])
net_more c [] x t h = (h, tt)
net_more c (y ∷ ys) x t h = (t.0, net_more c ys x t.1 h)

-- the net of each number of nets that are there is there
pub there_at : (c : Circuit) (xs : List Net) (i : ℕ) (d : Net) → i < length xs → NetsThere c xs → IsThere c (slice_index_or xs i d)
there_at c [] i d l t = absurd (omega (arith, l))
there_at c (x ∷ xs) zero d l t = t.0
there_at c (x ∷ xs) (suc i) d l t = there_at c xs i d (omega (arith, l)) t.1

-- the i-th of some nets means the i-th of their signals
pub signal_of : (c : Circuit) (xs : List Net) (i : ℕ) (d : Net)
    → i < length xs → signal c (slice_index_or xs i d) ≡ signal_at (signals_in c xs) i
signal_of c [] i d l = absurd (omega (arith, l))
signal_of c (x ∷ xs) zero d l = refl
signal_of c (x ∷ xs) (suc i) d l = signal_of c xs i d (omega (arith, l))

-- the i-th of the widths is that of the i-th signal
pub width_at : (fs : List Signal) (i : ℕ) → slice_index (widths_of fs) i ≡ (signal_at fs i).width
width_at [] i = refl
width_at (f ∷ fs) zero = refl
width_at (f ∷ fs) (suc i) = width_at fs i

-- there are as many widths as signals
pub length_widths : (fs : List Signal) → length (widths_of fs) ≡ length fs
length_widths [] = refl
length_widths (f ∷ fs) = ap suc (length_widths fs)

-- there are as many signals as nets
pub length_signals : (c : Circuit) (xs : List Net) → length (signals_in c xs) ≡ length xs
length_signals c [] = refl
length_signals c (x ∷ xs) = ap suc (length_signals c xs)

-- the i-th of nets that are there is there, and means the i-th of their signals
pub means_at : (c : Circuit) (xs : List Net) (i : ℕ) (d : Net)
    → i < length xs → NetsThere c xs → Means c (slice_index_or xs i d) (signal_at (signals_in c xs) i)
means_at c xs i d l t = record { there = there_at c xs i d l t; same = signal_of c xs i d l }

-- the nets that are always 1 and always 0 stay so when the circuit has grown
pub bits_kept : (a b : Circuit) (x : Bits) → Extends a b → AreBits a x → AreBits b x
bits_kept a b x e t = record {
  one = record { there = e.there x.one t.one.there; same = e.kept x.one t.one.there ∙ t.one.same };
  zero = record { there = e.there x.zero t.zero.there; same = e.kept x.zero t.zero.there ∙ t.zero.same };
}

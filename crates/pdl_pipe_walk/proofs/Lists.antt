-- Lists each of whose elements has a property.
use Rattle.std.proofs.Common.{◌≡◌, ℕ, zero, suc, ◌<◌, Bool, true, false, List, [], ◌∷◌, map, length, refl, sym, ap, ap₂, ◌∙◌, arith, Option, None, ◌++◌}
use Rattle.std.specs.Prelude.{slice_index_or, slice_set, ◌==◌, if◌then◌else◌, Result, Ok, Err, OnOk}
use Rattle.pdl_kit.specs.declared.no_memory.NoMemory.{NoMemory}
use Rattle.std.proofs.lemmas.List.{get_or-set_other, get_or_append_left, get_or_push}
use Rattle.std.proofs.lemmas.Grind.{get_or-set_at}
use Rattle.std.proofs.lemmas.Bool.{eqb-true, eq-eqb, false≢true}
use Rattle.pdl_net.specs.declared.Net.{Net}
use Rattle.pdl_net.specs.Circuit.{Circuit}
use Rattle.pdl_net.specs.Signal.{Signal, no_signal}
use Rattle.pdl_net.specs.Meaning.{IsThere}
use Rattle.pdl_pipe_exprs.specs.Nets.{NetsThere, signal_at, widths_of}
use Rattle.pdl_word.specs.Each.{Each}
use Rattle.pdl_pipe_walk.specs.Locked.{some_at}

-- what holds of each element of a list holds of its i-th one
pub each_at : {X : Type 0} (P : X → Type 0) (xs : List X) (i : ℕ) (d : X) → i < length xs → Each P xs → P (slice_index_or xs i d)
each_at P [] i d l h = absurd (omega (arith, l))
each_at P (x ∷ xs) zero d l h = h.0
each_at P (x ∷ xs) (suc i) d l h = each_at P xs i d (omega (arith, l)) h.1

-- what holds of the i-th element, for each i, holds of each element of a list
pub each_by : {X : Type 0} (P : X → Type 0) (xs : List X) (d : X) → ((i : ℕ) → i < length xs → P (slice_index_or xs i d)) → Each P xs
each_by P [] d h = tt
each_by P (x ∷ xs) d h = (h 0 (omega arith), each_by P xs d (λ i l. h (suc i) (omega (arith, l))))

-- two functions that agree where a property holds agree on a list each of whose elements has it
pub map_each : {X Y : Type 0} (f g : X → Y) (P : X → Type 0) → ((x : X) → P x → f x ≡ g x) → (xs : List X) → Each P xs → map f xs ≡ map g xs
map_each f g P e [] h = refl
map_each f g P e (x ∷ xs) h = ap₂ (λ y ys. y ∷ ys) (e x h.0) (map_each f g P e xs h.1)

-- a net in the place of another
pub there_set : (c : Circuit) (xs : List Net) (i : ℕ) (x : Net) → NetsThere c xs → IsThere c x → NetsThere c (slice_set xs i x)
there_set c [] i x t h = t
there_set c (y ∷ ys) zero x t h = (h, t.1)
there_set c (y ∷ ys) (suc i) x t h = (t.0, there_set c ys i x t.1 h)

-- a signal in the place of one as wide leaves the widths as they were
pub widths_set : (fs : List Signal) (i : ℕ) (f : Signal) → f.width ≡ (signal_at fs i).width → widths_of (slice_set fs i f) ≡ widths_of fs
widths_set [] i f e = refl
widths_set (g ∷ gs) zero f e = ap (λ w. w ∷ widths_of gs) e
widths_set (g ∷ gs) (suc i) f e = ap (λ ws. g.width ∷ ws) (widths_set gs i f e)

-- the signals after one was set: that one at its place, and the others as they were
pub signal_set : (fs : List Signal) (i : ℕ) (f : Signal) (j : ℕ)
    → i < length fs → signal_at (slice_set fs i f) j ≡ (if j == i then f else signal_at fs j)
signal_set fs i f j l = at (j == i) refl
  where
    at : (b : Bool) → (j == i) ≡ b → signal_at (slice_set fs i f) j ≡ (if b then f else signal_at fs j)
    at true e = get_or-set_at fs i j f no_signal (eqb-true j i e) l
    at false e = get_or-set_other fs i j f no_signal (λ h. false≢true (sym e ∙ eq-eqb j i h))

-- a part of a result that went well
pub on_ok : {A B : Type 0} (r : Result (Unit {0}) NoMemory) → (A → B) → OnOk r A → OnOk r B
on_ok (Ok x) f h = f h
on_ok (Err e) f h = h

-- what stands in a list before its last stands there without it
pub some_before : {T : Type 0} (xs : List (Option T)) (o : Option T) (i : ℕ) → i < length xs → some_at (xs ++ o ∷ []) i ≡ some_at xs i
some_before xs o i h = get_or_append_left xs (o ∷ []) None i h

-- the last of a list stands at its number
pub some_last : {T : Type 0} (xs : List (Option T)) (o : Option T) (n : ℕ) → length xs ≡ n → some_at (xs ++ o ∷ []) n ≡ o
some_last xs o n h = get_or_push xs o None n h

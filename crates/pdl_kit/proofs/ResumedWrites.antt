-- Writing on from where a write stopped.
use Rattle.std.proofs.Common.{◌≡◌, ℕ, ◌+◌, ◌-◌, ◌≤◌, List, ◌++◌, length, take, drop, Option, Some, None, refl, sym, ap, ◌∙◌, append_assoc, arith}
use Rattle.std.proofs.lemmas.List.{take-append-drop, length-take, length-drop, append-nil, take_all}
use Rattle.std.proofs.Math.Seq.{take-append-add}
use Rattle.pdl_kit.specs.Sinks.{with_bytes}

take_add : (p : List ℕ) (i n : ℕ) → i ≤ length p → take i p ++ take n (drop i p) ≡ take (i + n) p
take_add p i n h =
    let len : length (take i p) ≡ i = omega (arith, length-take i p) in
    sym (rw (take-append-drop, len) at (take-append-add (take i p) (drop i p) n))

-- `&p[i..]` is all that is left
rest_is : (p : List ℕ) (i : ℕ) → take (length p - i) (drop i p) ≡ drop i p
rest_is p i = take_all (length p - i) (drop i p) (omega (arith, length-drop i p))

-- a text's next bytes, written after its first ones, are with these its first bytes
pub told_on : (o : Option (List ℕ)) (p : List ℕ) (i n : ℕ)
    → i ≤ length p
    → with_bytes (take n (take (length p - i) (drop i p))) (with_bytes (take i p) o) ≡ with_bytes (take (i + n) p) o
told_on None p i n h = refl
told_on (Some w) p i n h = rw (rest_is p i) (ap (λ t. Some t) (append_assoc w (take i p) (take n (drop i p)) ∙ ap (λ t. w ++ t) (take_add p i n h)))

-- before the first byte of a text is written, a sink has what it had
pub told_none : (o : Option (List ℕ)) (p : List ℕ) → o ≡ with_bytes (take 0 p) o
told_none None p = refl
told_none (Some w) p = ap (λ t. Some t) (simp append-nil)

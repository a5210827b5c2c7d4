-- No two ports have one code, so a port is found by its code.
use Rattle.std.proofs.Common.{◌≡◌, sym, ◌∙◌, ap, ℕ, zero, suc, ◌+◌, ◌-◌, ◌/◌, ◌%◌, ◌^◌, ◌<◌, ◌≤◌, false, List, [], ◌∷◌, length, Some, inl, inr, if◌then◌else◌, arith}
use Rattle.std.specs.Prelude.{bytes_eq}
use Rattle.std.proofs.Math.Nat.{div-add-mod, mod-lt}
use Rattle.std.proofs.lemmas.Bool.{cases_lt, cond-true, cond-false, lt-ltb, le-ltb, eq-eqb}
use Rattle.pdl_word.proofs.Bytes.{bytes_refl, bytes_differ}
use Rattle.pdl_wave.specs.declared.port.WavePort.{WavePort}
use Rattle.pdl_wave.specs.Dump.{code, binary, width_of}
use Rattle.pdl_wave.specs.Wave.{port_with, change_with}
use Rattle.pdl_wave.proofs.Digits.{binary_length, binary_value}

code_short : (i : ℕ) → i < 94 → code i ≡ (33 + i) ∷ []
unfolding code
code_short i h = cond-true _ _ _ (lt-ltb i 94 h)

code_long : (i : ℕ) → 94 ≤ i → code i ≡ (33 + (i / 94 - 1)) ∷ (33 + i % 94) ∷ []
unfolding code
code_long i h = cond-false _ _ _ (le-ltb i 94 h)

first_same : {x y : ℕ} {xs ys : List ℕ} → x ∷ xs ≡ y ∷ ys → x ≡ y
first_same e = cc

second_same : {x y u v : ℕ} {xs ys : List ℕ} → x ∷ u ∷ xs ≡ y ∷ v ∷ ys → u ≡ v
second_same e = cc

unlike : {x y u : ℕ} {xs : List ℕ} → x ∷ [] ≡ y ∷ u ∷ xs → {A : Type 0} → A
unlike e = absurd (cc e)

parts_same : (j k : ℕ) → 94 ≤ j → 94 ≤ k → j / 94 - 1 ≡ k / 94 - 1 → j % 94 ≡ k % 94 → j ≡ k
parts_same j k h l q r = omega (arith, div-add-mod j 94, div-add-mod k 94, mod-lt j {m = 94} (omega arith), mod-lt k {m = 94} (omega arith))

-- ports with one code are one
code_same : (j k : ℕ) → code j ≡ code k → j ≡ k
code_same j k e = elim (cases_lt j 94) [
  | inl a ↦ elim (cases_lt k 94) [
    | inl b ↦ let f = first_same (sym (code_short j a) ∙ e ∙ code_short k b) in omega (arith, f)
    | inr b ↦ unlike (sym (code_short j a) ∙ e ∙ code_long k b)
  ]
  | inr a ↦ elim (cases_lt k 94) [
    | inl b ↦ unlike (sym (code_short k b) ∙ sym e ∙ code_long j a)
    | inr b ↦
        let both = sym (code_long j a) ∙ e ∙ code_long k b in
        let high = first_same both in
        let low = second_same both in
        parts_same j k a b (omega (arith, high)) (omega (arith, low))
  ]
]

-- the port is found by its code
found_from : (j : ℕ) (ports : List WavePort) (i : ℕ) → i < length ports → port_with j ports (code (j + i)) ≡ Some (j + i, width_of ports i)
found_from j [] i l = absurd (omega (arith, l))
found_from j (p ∷ ps) zero l =
    let e : j ≡ j + 0 = omega arith in
    ap (λ k. if bytes_eq (code j) (code k) then Some (j, p.width) else port_with (suc j) ps (code k)) (sym e)
    ∙ cond-true _ _ _ (bytes_refl (code j))
    ∙ ap (λ k. Some (k, p.width)) e
found_from j (p ∷ ps) (suc i) l =
    let e : suc j + i ≡ j + suc i = omega arith in
    let other : bytes_eq (code j) (code (j + suc i)) ≡ false = bytes_differ (code j) (code (j + suc i)) (λ same. omega (arith, code_same j (j + suc i) same)) in
    cond-false _ _ _ other
    ∙ ap (λ k. port_with (suc j) ps (code k)) (sym e)
    ∙ found_from (suc j) ps i (omega (arith, l))
    ∙ ap (λ k. Some (k, width_of ps i)) e

-- the i-th port is found by its code, with its number and its width
pub found : (ports : List WavePort) (i : ℕ) → i < length ports → port_with 0 ports (code i) ≡ Some (i, width_of ports i)
found ports i l =
    let e : 0 + i ≡ i = omega arith in
    ap (λ k. port_with 0 ports (code k)) (sym e) ∙ found_from 0 ports i l ∙ ap (λ k. Some (k, width_of ports i)) e

-- the change of the i-th port, written by its code and with its width, is read as it is
pub change_read : (ports : List WavePort) (i v : ℕ) → i < length ports → v < 2 ^ width_of ports i →
    change_with (binary (width_of ports i) v) (port_with 0 ports (code i)) ≡ Some (record { port = i; value = v })
change_read ports i v l h =
    let w = width_of ports i in
    ap (change_with (binary w v)) (found ports i l)
    ∙ cond-true _ _ _ (eq-eqb (length (binary w v)) w (binary_length w v))
    ∙ ap (λ value. Some (record { port = i; value = value })) (binary_value w v h)

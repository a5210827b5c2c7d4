-- The lines of a header by their numbers.
use Rattle.std.proofs.Common.{◌≡◌, refl, ℕ, zero, suc, ◌+◌, ◌-◌, ◌<◌, ◌≤◌, List, [], ◌∷◌, length, get_or, ap, ◌∙◌, arith}
use Rattle.std.proofs.lemmas.List.{get_or_append_left, get_or-append_right}
use Rattle.pdl_wave.specs.declared.port.WavePort.{WavePort}
use Rattle.pdl_wave.specs.Dump.{declaration, declarations, header, upscope, enddefinitions}

-- a header has as many declarations as there are ports
pub declarations_length : (i : ℕ) (ports : List WavePort) → length (declarations i ports) ≡ length ports
declarations_length i [] = refl
declarations_length i (p ∷ ps) = ap suc (declarations_length (suc i) ps)

-- the declaration of the k-th port
declaration_at : (i : ℕ) (ports : List WavePort) (k : ℕ) (d : WavePort)
    → k < length ports → get_or (declarations i ports) k [] ≡ declaration (i + k) (get_or ports k d)
declaration_at i [] k d l = absurd (omega (arith, l))
declaration_at i (p ∷ ps) zero d l = let e : i ≡ i + 0 = omega arith in ap (λ j. declaration j p) e
declaration_at i (p ∷ ps) (suc k) d l =
    let e : suc i + k ≡ i + suc k = omega arith in
    declaration_at (suc i) ps k d (omega (arith, l)) ∙ ap (λ j. declaration j (get_or ps k d)) e

after_two : (k : ℕ) → 2 ≤ k → k ≡ suc (suc (k - 2))
after_two k h = omega arith

-- in the header it is the line after two more
pub declared_line : (name : List ℕ) (ports : List WavePort) (k : ℕ) (d : WavePort) → 2 ≤ k → k - 2 < length ports →
    get_or (header name ports) k [] ≡ declaration (k - 2) (get_or ports (k - 2) d)
declared_line name ports k d low l =
    let n = declarations_length 0 ports in
    let e : 0 + (k - 2) ≡ k - 2 = omega arith in
    ap (λ x. get_or (header name ports) x []) (after_two k low)
    ∙ get_or_append_left (declarations 0 ports) (upscope ∷ enddefinitions ∷ []) [] (k - 2) (omega (arith, l, n))
    ∙ declaration_at 0 ports (k - 2) d l ∙ ap (λ j. declaration j (get_or ports (k - 2) d)) e

-- the line after the declarations ends the scope
pub upscope_line : (name : List ℕ) (ports : List WavePort) (k : ℕ)
    → 2 ≤ k → k - 2 ≡ length ports → get_or (header name ports) k [] ≡ upscope
upscope_line name ports k low e =
    let n = declarations_length 0 ports in
    let at : k - 2 - length ports ≡ 0 = omega (arith, e) in
    ap (λ x. get_or (header name ports) x []) (after_two k low)
    ∙ (get_or-append_right (declarations 0 ports) (upscope ∷ enddefinitions ∷ []) (length ports) (k - 2) [] n (omega (arith, e))
    ∙ ap (λ j. get_or (upscope ∷ enddefinitions ∷ []) j []) at)

-- the last line of a header ends the declarations
pub last_line : (name : List ℕ) (ports : List WavePort) (k : ℕ) → k ≡ length ports + 3 → get_or (header name ports) k [] ≡ enddefinitions
last_line name ports k e =
    let n = declarations_length 0 ports in
    let at : k - 2 - length ports ≡ 1 = omega (arith, e) in
    ap (λ x. get_or (header name ports) x []) (after_two k (omega (arith, e)))
    ∙ (get_or-append_right (declarations 0 ports) (upscope ∷ enddefinitions ∷ []) (length ports) (k - 2) [] n (omega (arith, e))
    ∙ ap (λ j. get_or (upscope ∷ enddefinitions ∷ []) j []) at)

-- The letters of stages, by the values of their ports.
use Rattle.std.proofs.Common.{◌≡◌, refl, ap, ap₂, ◌∙◌, ℕ, suc, ◌+◌, ◌-◌, ◌*◌, ◌<◌, ◌≤◌, ◌==◌, Bool, List, [], ◌∷◌, ◌++◌, length, arith}
use Rattle.std.specs.Prelude.{slice_index}
use Rattle.pdl_word.specs.Words.{bit}
use Rattle.pdl_semantics.specs.Flat.{Stage, Pipe}
use Rattle.pdl_semantics.specs.Machine.{State}
use Rattle.pdl_semantics.specs.Moves.{Act, movers}
use Rattle.pdl_semantics.specs.Stages.{list_any}
use Rattle.pdl_semantics.specs.Cycle.{letter, letters, for_stages, ports}
use Rattle.pdl_law_parts.proofs.LinesEnds.{bit_one}
use Rattle.pdl_machine_facts.specs.Ports.{stage_values, whole_values}
use Rattle.pdl_machine_view.specs.Lines.{letter_at, letters_from}

-- the letters of the stages from one on, by the values from its ports on
by_values : (f g : ℕ → Bool) (k : ℕ) (xs : List Stage) (rest shown : List ℕ) (s : ℕ)
    → ((i : ℕ) → slice_index shown (2 * s + i) ≡ slice_index (stage_values (for_stages f k xs) (for_stages g k xs) ++ rest) i)
    → letters_from shown s (length xs) ≡ letters (for_stages f k xs) (for_stages g k xs)
by_values f g k [] rest shown s h = refl
by_values f g k (x ∷ xs) rest shown s h =
    let zero_more : 2 * s + 0 ≡ 2 * s = omega arith in
    let holds : slice_index shown (2 * s) ≡ bit (f k) = ap (slice_index shown) (omega arith) ∙ h 0 in
    let moves : slice_index shown (2 * s + 1) ≡ bit (g k) = h 1 in
    let later =
    by_values f g (suc k) xs rest shown (s + 1)
    (λ i. let e : 2 * (s + 1) + i ≡ 2 * s + suc (suc i) = omega arith in ap (slice_index shown) e ∙ h (suc (suc i))) in
    ap₂ (λ c cs. c ∷ cs) (ap₂ (λ v m. letter (v == 1) (m == 1)) holds moves ∙ ap₂ letter (bit_one (f k)) (bit_one (g k))) later

-- the letters of all stages, by the values of the ports, are those of the machine's cycle
pub letters_shown : (p : Pipe) (st : State) (these : List Act)
    → letters_from (whole_values p (ports p st these)) 0 (length p.stages) ≡ letters (ports p st these).valid (ports p st these).moves
letters_shown p st these =
    by_values (λ s. list_any (λ (a : Act). a.stage == s) these)
    (λ s. list_any (λ (a : Act). a.stage == s) (movers these)) 0 p.stages _ (whole_values p (ports p st these)) 0
    (λ i. let e : 2 * 0 + i ≡ i = omega arith in ap (slice_index (whole_values p (ports p st these))) e)

-- each stage has two values
two_each : (f g : ℕ → Bool) (k : ℕ) (xs : List Stage) (rest : List ℕ)
    → 2 * length xs ≤ length (stage_values (for_stages f k xs) (for_stages g k xs) ++ rest)
two_each f g k [] rest = omega arith
two_each f g k (x ∷ xs) rest = let h = two_each f g (suc k) xs rest in omega (arith, h)

-- the ports show at least two values for each stage
pub has_stages : (p : Pipe) (st : State) (these : List Act) → 2 * length p.stages ≤ length (whole_values p (ports p st these))
has_stages p st these =
    two_each (λ s. list_any (λ (a : Act). a.stage == s) these) (λ s. list_any (λ (a : Act). a.stage == s) (movers these)) 0 p.stages _

-- the letters from a stage on are that of this stage and those of the later ones
pub letters_step : (shown : List ℕ) (stage stages : ℕ)
    → stage < stages
    → letters_from shown stage (stages - stage) ≡ letter_at shown stage ∷ letters_from shown (stage + 1) (stages - (stage + 1))
letters_step shown stage stages l = let more : stages - stage ≡ suc (stages - (stage + 1)) = omega arith in rw more refl

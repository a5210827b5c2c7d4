-- Widths of variables.
use Rattle.std.proofs.Common.{ℕ, zero, suc, ◌<◌, ◌≤◌, ◌^◌, List, [], ◌∷◌, length, take, arith}
use Rattle.std.specs.Prelude.{slice_index}
use Rattle.pdl_form_types.specs.Stmts.{AreWidths, AreBelow}
use Rattle.pdl_word.specs.Words.{widest}

-- a variable has at least 1 bit
pub wide_low : (ws : List ℕ) (x : ℕ) → x < length ws → AreWidths ws → 1 ≤ slice_index ws x
wide_low [] x l h = absurd (omega (arith, l))
wide_low (w ∷ ws) zero l h = h.0
wide_low (w ∷ ws) (suc x) l h = wide_low ws x (omega (arith, l)) h.2

-- a variable has at most widest bits
pub wide_high : (ws : List ℕ) (x : ℕ) → x < length ws → AreWidths ws → slice_index ws x ≤ widest
wide_high [] x l h = absurd (omega (arith, l))
wide_high (w ∷ ws) zero l h = h.1
wide_high (w ∷ ws) (suc x) l h = wide_high ws x (omega (arith, l)) h.2

-- a first argument fits the width of its variable, where all first arguments do
pub start_fits : (ws vs : List ℕ) (x : ℕ) → x < length vs → AreBelow (take (length vs) ws) vs → slice_index vs x < 2 ^ slice_index ws x
start_fits ws [] x l h = absurd (omega (arith, l))
start_fits [] (v ∷ vs) x l h = absurd h
start_fits (w ∷ ws) (v ∷ vs) zero l h = h.0
start_fits (w ∷ ws) (v ∷ vs) (suc x) l h = start_fits ws vs x (omega (arith, l)) h.1

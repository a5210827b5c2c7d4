-- Conditions of guards have the values that they should, where the variables have values of one bit.
use Rattle.std.proofs.Common.{◌≡◌, ℕ, zero, suc, ◌<◌, ◌^◌, Bool, true, false, ◌&&◌, not, ◌==◌, List, [], ◌∷◌, refl, sym, ap, ◌∙◌, subst, arith}
use Rattle.std.specs.Prelude.{length, slice_index_or}
use Rattle.std.proofs.Math.Bool.{and_assoc}
use Rattle.pdl_word.specs.Words as words
use Rattle.pdl_word.specs.Words.{bit}
use Rattle.pdl_semantics.specs.Flat.{Guard, takes_branch}
use Rattle.pdl_net.specs.declared.Net.{Net}
use Rattle.pdl_net.specs.declared.Net.TheVariants.{Input}
use Rattle.pdl_net.specs.Circuit.{Circuit, State}
use Rattle.pdl_net.specs.Signal.{Signal, not_value}
use Rattle.pdl_net.specs.Well.{IsWell, Suits, IsBounded}
use Rattle.pdl_net.proofs.Bounds.{bounded}
use Rattle.pdl_pipe_exprs.specs.Nets.{NetsThere, signals_in, signal_at, widths_of}
use Rattle.pdl_pipe_exprs.specs.Values.{AreBounded}
use Rattle.pdl_pipe_exprs.specs.Conditions.{literal, taken_from, taken_signal}
use Rattle.pdl_form_types.specs.Stmts.{AreGuards}
use Rattle.pdl_pipe_exprs.specs.Conditions as conditions
use Rattle.pdl_pipe_exprs.proofs.NetLists.{there_at, signal_of, width_at, length_widths, length_signals}
use Rattle.pdl_law_parts.specs.Walk.{Walk, taken_in}
use Rattle.pdl_law_parts.proofs.Signals.{both_at, one_is}

-- each net has a value within its width
pub nets_bounded : (d : Circuit) (s : State) → IsWell d → Suits d s → (xs : List Net) → NetsThere d xs → AreBounded s (signals_in d xs)
nets_bounded d s well suits xs t x l =
    let k : x < length xs = omega (arith, l, length_signals d xs) in
    subst (IsBounded s) (signal_of d xs x (Input 0) k) (bounded d s well suits (slice_index_or xs x (Input 0)) (there_at d xs x (Input 0) k t))

-- a number below 2
bit_of : (v : ℕ) → v < 2 → v ≡ bit (v == 1)
bit_of zero l = refl
bit_of (suc zero) l = refl
bit_of (suc (suc v)) l = absurd (omega (arith, l))

turned : (v : ℕ) → v < 2 → words.complement 1 v ≡ bit (not (v == 1))
unfolding words.complement
turned zero l = refl
turned (suc zero) l = refl
turned (suc (suc v)) l = absurd (omega (arith, l))

-- a signal of 1 bit has a value below 2, where that is within its width
pub below_two : (s : State) (f : Signal) → f.width ≡ 1 → IsBounded s f → f.value s < 2
below_two s f e b = subst (λ w. f.value s < 2 ^ w) e b.fits

literal_value : (s : State) (first : Bool) (f : Signal)
    → f.width ≡ 1 → IsBounded s f → (literal first f).value s ≡ bit (takes_branch first (f.value s))
unfolding not_value
literal_value s true f e b = bit_of (f.value s) (below_two s f e b)
literal_value s false f e b = ap (λ w. words.complement w (f.value s)) e ∙ turned (f.value s) (below_two s f e b)

taken_more : (s : State) (fs : List Signal) (w : Walk)
    → ((x : ℕ) → w.vars x ≡ signal_at fs x) → AreBounded s fs → (gs : List Guard) → AreGuards (widths_of fs) gs
    → (f : Signal) (x : Bool) → f.value s ≡ bit x → (taken_from fs f gs).value s ≡ bit (x && taken_in gs w s)
taken_more s fs w same bounds [] h f true e = e
taken_more s fs w same bounds [] h f false e = e
taken_more s fs w same bounds (g ∷ gs) h f x e =
    let g_signal = signal_at fs g.var in
    let one : g_signal.width ≡ 1 = sym (width_at fs g.var) ∙ h.1 in
    let low : g.var < length fs = omega (arith, h.0, length_widths fs) in
    let now =
    both_at s f (literal g.first g_signal) x (takes_branch g.first (g_signal.value s)) e (λ u. literal_value s g.first g_signal one (bounds g.var low)) in
    taken_more s fs w same bounds gs h.2 (conditions.both f (literal g.first g_signal)) (x && takes_branch g.first (g_signal.value s)) now
    ∙ ap bit
    (and_assoc x (takes_branch g.first (g_signal.value s)) (taken_in gs w s)
    ∙ ap (λ (h : Signal). x && (takes_branch g.first (h.value s) && taken_in gs w s)) (sym (same g.var)))

-- the condition of guards says whether they are taken
pub taken_value : (s : State) (fs : List Signal) (w : Walk)
    → ((x : ℕ) → w.vars x ≡ signal_at fs x) → AreBounded s fs → (gs : List Guard) → AreGuards (widths_of fs) gs
    → (taken_signal fs gs).value s ≡ bit (taken_in gs w s)
taken_value s fs w same bounds gs h = taken_more s fs w same bounds gs h _ true (one_is s)

-- What requests, guesses and barriers change is a step of the walk.
use Rattle.std.proofs.Common.{◌≡◌, ℕ, ◌≤◌, Bool, true, false, List, [], length, refl, sym, ap, ◌∙◌, subst, arith}
use Rattle.std.proofs.lemmas.List.{length-map}
use Rattle.pdl_word.specs.Words.{bit}
use Rattle.pdl_semantics.specs.Flat as flat
use Rattle.pdl_semantics.specs.Flat.{Guard, Pipe, Expr}
use Rattle.pdl_net.specs.Circuit.{Circuit, State}
use Rattle.pdl_net.specs.Signal.{Signal, no_signal}
use Rattle.pdl_net.specs.Growth.{Keeps}
use Rattle.pdl_net.specs.Well.{IsWell, Suits}
use Rattle.pdl_pipe_exprs.specs.Nets.{widths_of}
use Rattle.pdl_pipe_exprs.specs.Conditions.{taken_signal}
use Rattle.pdl_form_types.specs.Stmts.{AreGuards}
use Rattle.pdl_form_types.specs.Exprs.{AreTyped}
use Rattle.pdl_pipe_exprs.specs.Values.{value_signal, value_signals}
use Rattle.pdl_law_parts.specs.Walk.{Locks, Row, HaveValues}
use Rattle.pdl_pipe_walk.specs.Guesses.{choices, differ_signal}
use Rattle.pdl_pipe_walk.specs.Parts.{Parts, walk_of}
use Rattle.pdl_pipe_walk.specs.Sized.{IsSized}
use Rattle.pdl_pipe_walk.specs.Steps.{IsStep, with_ask, with_guess, with_verify, with_update, with_compare, with_barrier}
use Rattle.pdl_pipe_walk.proofs.Choices.{same_length, choices_length, choices_on, choices_off, wrong_value}
use Rattle.pdl_pipe_walk.proofs.MadeSteps.{HasNets, is_on, bounded_in}
use Rattle.pdl_pipe_walk.proofs.Values.{have_values}

module _ (c : Circuit) (p : Pipe) (ws : List ℕ) (ls : Locks) (tickets : ℕ → Signal) (gs : List Guard) (w : Parts)
    (nets : HasNets c w.vars) (sized : IsSized p ws w) (vars : p.vars ≡ length ws) (guards : AreGuards ws gs) where
  -- a row that brings no signal of its own
  abbrev plain : Row
  plain = record { on = taken_signal w.vars gs; value = no_signal; args = []; guess = [] }

  -- a delayed read asks its memory for the word at the location
  pub ask_step : (x m a : ℕ) (w' : Parts) → w' ≡ with_ask m x a (taken_signal w.vars gs) w
      → IsStep c p ls tickets gs (flat.DelayedRead x m a) (walk_of w) (walk_of w')
  ask_step x m a w' h = record { row = plain; on = is_on c p ws ls tickets gs w nets sized vars guards; does = λ d k well. tt; next = ap walk_of h }

  -- a `spec_check` changes nothing
  pub check_step : IsStep c p ls tickets gs flat.SpecCheck (walk_of w) (walk_of w)
  check_step = record { row = plain; on = is_on c p ws ls tickets gs w nets sized vars guards; does = λ d k well. tt; next = refl }

  -- a `spec_barrier` makes the thread wait for the barrier
  pub barrier_step : (w' : Parts) → w' ≡ with_barrier (taken_signal w.vars gs) w → IsStep c p ls tickets gs flat.SpecBarrier (walk_of w) (walk_of w')
  barrier_step w' h = record { row = plain; on = is_on c p ws ls tickets gs w nets sized vars guards; does = λ d k well. tt; next = ap walk_of h }

  module _ (es : List Expr) (few : length es ≤ length ws) (typed : AreTyped ws es) (wide : widths_of (value_signals w.vars es) ≡ widths_of w.guess) where
    args_few : length (value_signals w.vars es) ≤ p.vars
    args_few = let n = length-map es (value_signal w.vars) in omega (arith, few, vars, n)

    args_have : (d : Circuit) → Keeps c d → IsWell d → (s : State) → Suits d s → HaveValues es (walk_of w) (value_signals w.vars es) s
    args_have d k well s suits =
        have_values s w.vars (walk_of w) (λ y. refl)
        (bounded_in c p ws ls tickets gs w nets sized vars guards d k well s suits) es (subst (λ l. AreTyped l es) (sym sized.vars) typed)

    -- a `spec_call` makes a call whose arguments are kept as the guess
    pub guess_step : (w' : Parts) → w' ≡ with_guess (taken_signal w.vars gs) (value_signals w.vars es) w
        → IsStep c p ls tickets gs (flat.SpecCall es) (walk_of w) (walk_of w')
    guess_step w' h =
        let fs = value_signals w.vars es in
        let o = taken_signal w.vars gs in
        let same = same_length fs w.guess wide in
        let on_is = is_on c p ws ls tickets gs w nets sized vars guards in
        record {
          row = record { on = o; value = no_signal; args = fs; guess = choices o fs w.guess };
          on = on_is;
          does = λ d k well. (
            args_few,
            (λ s suits u. args_have d k well s suits),
            choices_length o fs w.guess same,
            (λ s suits u. choices_on s o fs w.guess same (on_is d k well s suits ∙ ap bit u)),
            (λ s suits u. choices_off s o fs w.guess same (on_is d k well s suits ∙ ap bit u)),
          );
          next = ap walk_of h;
        }

    -- a `verify` makes a call, and the guess fails, where the arguments differ from the guess
    verify_step : (w' : Parts) → w' ≡ with_verify (taken_signal w.vars gs) (value_signals w.vars es) w
        → IsStep c p ls tickets gs (flat.Verify true es) (walk_of w) (walk_of w')
    verify_step w' h =
        let fs = value_signals w.vars es in
        let same = same_length fs w.guess wide in
        record {
          row = record { on = taken_signal w.vars gs; value = differ_signal fs w.guess; args = fs; guess = [] };
          on = is_on c p ws ls tickets gs w nets sized vars guards;
          does = λ d k well. (
            args_few,
            (λ s suits u. args_have d k well s suits),
            (let n = length-map es (value_signal w.vars) in omega (arith, same, n)),
            (λ s suits u. wrong_value s fs w.guess same),
          );
          next = ap walk_of h;
        }

    -- an `update` does the same, and its arguments become the guess
    update_step : (w' : Parts) → w' ≡ with_update (taken_signal w.vars gs) (value_signals w.vars es) w
        → IsStep c p ls tickets gs (flat.Verify false es) (walk_of w) (walk_of w')
    update_step w' h =
        let fs = value_signals w.vars es in
        let o = taken_signal w.vars gs in
        let same = same_length fs w.guess wide in
        let on_is = is_on c p ws ls tickets gs w nets sized vars guards in
        record {
          row = record { on = o; value = differ_signal fs w.guess; args = fs; guess = choices o fs w.guess };
          on = on_is;
          does = λ d k well. (
            args_few,
            (λ s suits u. args_have d k well s suits),
            (let n = length-map es (value_signal w.vars) in omega (arith, same, n)),
            (λ s suits u. wrong_value s fs w.guess same),
            choices_length o fs w.guess same,
            (λ s suits u. choices_on s o fs w.guess same (on_is d k well s suits ∙ ap bit u)),
            (λ s suits u. choices_off s o fs w.guess same (on_is d k well s suits ∙ ap bit u)),
          );
          next = ap walk_of h;
        }

    -- a verify or an update makes a call, and the guess fails, where the arguments differ from the guess
    pub compare_step : (last : Bool) (w' : Parts) → w' ≡ with_compare last (taken_signal w.vars gs) (value_signals w.vars es) w
        → IsStep c p ls tickets gs (flat.Verify last es) (walk_of w) (walk_of w')
    compare_step true = verify_step
    compare_step false = update_step

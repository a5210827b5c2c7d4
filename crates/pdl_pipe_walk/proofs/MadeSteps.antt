-- What each kind of statement changes is a step of the walk.
use Rattle.std.proofs.Common.{◌≡◌, ℕ, ◌<◌, ◌≤◌, ◌^◌, Bool, true, false, List, [], ◌∷◌, ◌++◌, length, refl, sym, ap, ◌∙◌, subst, arith}
use mathlib.Core.Path.{fun_ext}
use Rattle.std.specs.Prelude.{◌==◌, if◌then◌else◌, slice_index, slice_index_or, slice_set}
use Rattle.pdl_word.specs.Words.{bit}
use Rattle.pdl_semantics.specs.Flat as flat
use Rattle.pdl_semantics.specs.Flat.{Guard, Pipe, Expr}
use Rattle.pdl_semantics.specs.Stages.{mem_at}
use Rattle.pdl_net.specs.declared.Net.{Net}
use Rattle.pdl_net.specs.Circuit.{Circuit, State}
use Rattle.pdl_net.specs.Signal.{Signal, no_signal, mux_signal, read_value}
use Rattle.pdl_net.specs.Growth.{Keeps}
use Rattle.pdl_net.specs.Well.{IsWell, Suits}
use Rattle.pdl_pipe_exprs.specs.Nets.{NetsThere, signals_in, signal_at, widths_of}
use Rattle.pdl_pipe_exprs.specs.Conditions.{taken_signal}
use Rattle.pdl_form_types.specs.Stmts.{AreGuards, IsLocation}
use Rattle.pdl_form_types.specs.Exprs.{IsTyped, AreTyped}
use Rattle.pdl_pipe_exprs.specs.Values.{value_signal, value_signals, AreBounded}
use Rattle.pdl_pipe_exprs.proofs.NetLists.{there_keeps, signals_keep}
use Rattle.pdl_lockapi.specs.Laws.{FitsIn}
use Rattle.pdl_law_parts.specs.declared.Mark.TheVariants.{Held, Late}
use Rattle.pdl_law_parts.specs.Walk.{Locks, Reservation, is_locked, taken_in, WhereNot, IsWord, one, both, if_on, reserved_signal, walk_after, with_mark as with_marks}
use Rattle.pdl_law_parts.specs.Places.{comb_place}
use Rattle.pdl_law_parts.proofs.Signals.{mux_at}
use Rattle.pdl_law_parts.proofs.Establish.{word_locked, word_plain}
use Rattle.pdl_pipe_walk.specs.declared.nets.WalkNets.{WalkNets}
use Rattle.pdl_pipe_walk.specs.Parts.{Parts, mark_of, walk_of, parts_in}
use Rattle.pdl_pipe_walk.specs.Sized.{IsSized, IsWalk}
use Rattle.pdl_pipe_walk.specs.Words.{IsWordSignal, IsRead, IsBlocked}
use Rattle.pdl_pipe_walk.specs.Steps.{Later, IsStep, with_var, with_put, with_mark, with_wait, with_second, with_reservation, with_reserve, with_release, with_call, with_advising}
use Rattle.pdl_pipe_walk.proofs.Lists.{signal_set}
use Rattle.pdl_pipe_walk.proofs.NetGrowth.{var_width, var_count}
use Rattle.pdl_pipe_walk.proofs.Conditions.{nets_bounded, taken_value}
use Rattle.pdl_pipe_walk.proofs.Values.{has_value, have_values}

-- variables that are nets of a circuit
pub record HasNets (c : Circuit) (fs : List Signal) : Type 0 where
  pub nets : List Net
  pub there : NetsThere c nets
  pub same : signals_in c nets ≡ fs

-- the variables of a walk in a circuit are nets of the circuit
pub nets_of : (c : Circuit) (p : Pipe) (ws : List ℕ) (w : WalkNets) → IsWalk c p ws w → HasNets c (parts_in c w).vars
nets_of c p ws w h = record { nets = w.vars.items; there = h.there.vars; same = refl }

-- variables that are nets of a circuit are nets of each one that keeps what stands in it
pub has_keep : (a b : Circuit) (fs : List Signal) → Keeps a b → HasNets a fs → HasNets b fs
has_keep a b fs e h = record { nets = h.nets; there = there_keeps a b h.nets e h.there; same = signals_keep a b h.nets e h.there ∙ h.same }

are_bounded : (c d : Circuit) (fs : List Signal) → HasNets c fs → Keeps c d → IsWell d → (s : State) → Suits d s → AreBounded s fs
are_bounded c d fs h k well s suits =
    let n = has_keep c d fs k h in
    subst (AreBounded s) n.same (nets_bounded d s well suits n.nets n.there)

-- a variable after a change
abbrev changed : ℕ → Signal → List Signal → ℕ → Signal
changed x f fs y = if y == x then f else signal_at fs y

set_walk : (x : ℕ) (f : Signal) (w : Parts) → x < length w.vars → signal_at (slice_set w.vars x f) ≡ changed x f w.vars
set_walk x f w l = fun_ext (λ y. signal_set w.vars x f y l)

module _ (ls : Locks) (m a : ℕ) (on : Signal) (w : Parts) where
  abbrev held : Parts
  held = with_mark Held m a on one w

  abbrev made : Reservation
  made = record { mem = m; var = a; on = on; addr = signal_at w.vars a }

  abbrev before : Signal
  before = reserved_signal m w.reserves

  -- the walk after a reservation, whether or not some path reserves the memory twice
  reserve_after : walk_of (with_reserve ls m a on w)
      ≡ walk_after (flat.ReserveWrite m a) (record { on = on; value = no_signal; args = []; guess = [] }) ls (walk_of w)
  reserve_after = by (ls.twice m)
    where
      by : (b : Bool)
          → walk_of (with_reservation made (if b then with_second m a on (ls.room m) (ls.room2 m) held else with_wait on (ls.room m) held))
          ≡ record (walk_of w) {
            marks = if b then with_marks Late m a (mux_signal on before (mark_of w.marks Late m a)) (mark_of held.marks) else mark_of held.marks;
            ready = both w.ready (if_on on (if b then mux_signal before (ls.room2 m) (ls.room m) else ls.room m));
            reserves = w.reserves ++ made ∷ [];
          }
      by true = refl
      by false = refl

module _ (c : Circuit) (p : Pipe) (ws : List ℕ) (ls : Locks) (tickets : ℕ → Signal) (gs : List Guard) (w : Parts)
    (nets : HasNets c w.vars) (sized : IsSized p ws w) (vars : p.vars ≡ length ws) (guards : AreGuards ws gs) where
  -- in each well-formed circuit that this one grows to, the variables' values are within their widths
  pub bounded_in : (d : Circuit) → Keeps c d → IsWell d → (s : State) → Suits d s → AreBounded s w.vars
  bounded_in d k well s suits = are_bounded c d w.vars nets k well s suits

  guarded : AreGuards (widths_of w.vars) gs
  guarded = subst (λ l. AreGuards l gs) (sym sized.vars) guards

  -- the condition is 1 just where the guards are taken
  pub is_on : Later c (λ d. (s : State) → Suits d s → (taken_signal w.vars gs).value s ≡ bit (taken_in gs (walk_of w) s))
  is_on d k well s suits = taken_value s w.vars (walk_of w) (λ x. refl) (bounded_in d k well s suits) gs guarded

  -- a choice by the condition where it is 1, and where it is not
  chosen : (d : Circuit) → Keeps c d → IsWell d → (f g : Signal) (s : State) → Suits d s
      → taken_in gs (walk_of w) s ≡ true → (mux_signal (taken_signal w.vars gs) f g).value s ≡ f.value s
  chosen d k well f g s suits t = mux_at s (taken_signal w.vars gs) f g true (is_on d k well s suits ∙ ap bit t)

  other : (d : Circuit) → Keeps c d → IsWell d → (f g : Signal) → WhereNot d gs (walk_of w) (λ s. (mux_signal (taken_signal w.vars gs) f g).value s ≡ g.value s)
  other d k well f g s suits t = mux_at s (taken_signal w.vars gs) f g false (is_on d k well s suits ∙ ap bit t)

  -- a location's address fits
  fits : (d : Circuit) → Keeps c d → IsWell d → (a : ℕ) → a < length ws → (s : State) → Suits d s → FitsIn (signal_at w.vars a) s
  fits d k well a l s suits = (bounded_in d k well s suits a (omega (arith, l, var_count p ws w sized))).fits

  reach : (m a : ℕ) → IsLocation p ws m a → 2 ^ (signal_at w.vars a).width ≡ (mem_at p m).depth
  reach m a at = ap (λ n. 2 ^ n) (var_width p ws w a sized) ∙ at.reach

  -- ---- each kind of statement

  -- a binding sets the variable to the value of the expression
  pub bind_step : (x : ℕ) (e : Expr) (w' : Parts) → x < length ws → IsTyped ws e
      → w' ≡ with_var x (taken_signal w.vars gs) (value_signal w.vars e) w
      → IsStep c p ls tickets gs (flat.Bind x e) (walk_of w) (walk_of w')
  bind_step x e w' l t h =
      let f = value_signal w.vars e in
      let on = taken_signal w.vars gs in
      let typed = subst (λ l. IsTyped l e) (sym sized.vars) t in
      record {
        row = record { on = on; value = mux_signal on f (signal_at w.vars x); args = []; guess = [] };
        on = is_on;
        does = λ d k well. (
          omega (arith, l, vars),
          (λ s suits u env agree. chosen d k well f (signal_at w.vars x) s suits u
              ∙ has_value s w.vars (walk_of w) (λ y. refl) (bounded_in d k well s suits) e typed env agree),
          other d k well f (signal_at w.vars x),
        );
        next =
            ap walk_of h
            ∙ ap (λ v. record (walk_of w) { vars = v }) (set_walk x (mux_signal on f (signal_at w.vars x)) w (omega (arith, l, var_count p ws w sized)));
      }

  -- and so does one of an advised variable
  pub advice_bind_step : (x : ℕ) (e : Expr) (w' : Parts) → x < length ws → IsTyped ws e
      → w' ≡ with_var x (taken_signal w.vars gs) (value_signal w.vars e) w
      → IsStep c p ls tickets gs (flat.AdviceBind x e) (walk_of w) (walk_of w')
  advice_bind_step x e w' l t h = let s = bind_step x e w' l t h in record { row = s.row; on = s.on; does = s.does; next = s.next }

  -- a write adds a write with the value of the expression
  pub write_step : (m a : ℕ) (e : Expr) (w' : Parts) → IsTyped ws e
      → w' ≡ with_put m a (taken_signal w.vars gs) (value_signal w.vars e) w
      → IsStep c p ls tickets gs (flat.Write m a e) (walk_of w) (walk_of w')
  write_step m a e w' t h =
      let typed = subst (λ l. IsTyped l e) (sym sized.vars) t in
      record {
        row = record { on = taken_signal w.vars gs; value = value_signal w.vars e; args = []; guess = [] };
        on = is_on;
        does = λ d k well s suits u env agree. has_value s w.vars (walk_of w) (λ y. refl) (bounded_in d k well s suits) e typed env agree;
        next = ap walk_of h;
      }

  -- an advisory write adds one, with the address of its location and the value of the expression
  pub advice_write_step : (m a : ℕ) (e : Expr) (w' : Parts) → IsTyped ws e
      → w' ≡ with_advising m a (taken_signal w.vars gs) (value_signal w.vars e) w
      → IsStep c p ls tickets gs (flat.AdviceWrite m a e) (walk_of w) (walk_of w')
  advice_write_step m a e w' t h =
      let typed = subst (λ l. IsTyped l e) (sym sized.vars) t in
      record {
        row = record { on = taken_signal w.vars gs; value = value_signal w.vars e; args = []; guess = [] };
        on = is_on;
        does = λ d k well s suits u env agree. has_value s w.vars (walk_of w) (λ y. refl) (bounded_in d k well s suits) e typed env agree;
        next = ap walk_of h;
      }

  -- a call adds a birth with the values of its arguments
  pub call_step : (es : List Expr) (w' : Parts) → length es ≤ length ws → AreTyped ws es
      → w' ≡ with_call (taken_signal w.vars gs) (value_signals w.vars es) w
      → IsStep c p ls tickets gs (flat.Call es) (walk_of w) (walk_of w')
  call_step es w' l t h =
      let typed = subst (λ l. AreTyped l es) (sym sized.vars) t in
      record {
        row = record { on = taken_signal w.vars gs; value = no_signal; args = value_signals w.vars es; guess = [] };
        on = is_on;
        does =
            λ d k well. (
              omega (arith, l, vars, Rattle.std.proofs.lemmas.List.length-map es (value_signal w.vars)),
              (λ s suits u. have_values s w.vars (walk_of w) (λ y. refl) (bounded_in d k well s suits) es typed),
            );
        next = ap walk_of h;
      }

  -- a release makes the location held no more, and lets its reservation for writing go where it was held
  pub release_step : (m a : ℕ) (w' : Parts) → w' ≡ with_release m a (taken_signal w.vars gs) w
      → IsStep c p ls tickets gs (flat.Release m a) (walk_of w) (walk_of w')
  release_step m a w' h = record {
    row = record { on = taken_signal w.vars gs; value = no_signal; args = []; guess = [] };
    on = is_on;
    does = λ d k well. tt;
    next = ap walk_of h;
  }

  -- a reservation for reading changes nothing
  pub idle_step : (m a : ℕ) → IsStep c p ls tickets gs (flat.ReserveRead m a) (walk_of w) (walk_of w)
  idle_step m a = record {
    row = record { on = taken_signal w.vars gs; value = no_signal; args = []; guess = [] };
    on = is_on;
    does = λ d k well. tt;
    next = refl;
  }

  -- a reservation for writing holds the location, waits for room and reserves the address
  pub reserve_step : (m a : ℕ) (w' : Parts) → IsLocation p ws m a → is_locked p m ≡ true
      → w' ≡ with_reserve ls m a (taken_signal w.vars gs) w
      → IsStep c p ls tickets gs (flat.ReserveWrite m a) (walk_of w) (walk_of w')
  reserve_step m a w' at locked h = record {
    row = record { on = taken_signal w.vars gs; value = no_signal; args = []; guess = [] };
    on = is_on;
    does = λ d k well. (locked, (λ s suits u. fits d k well a at.var s suits));
    next = ap walk_of h ∙ reserve_after ls m a (taken_signal w.vars gs) w;
  }

  -- a block waits until the look for its location is ready
  pub block_step : (m a : ℕ) (w' : Parts) → is_locked p m ≡ true
      → IsBlocked ls tickets (taken_signal w.vars gs) m a w w'
      → IsStep c p ls tickets gs (flat.Block m a) (walk_of w) (walk_of w')
  block_step m a w' locked h = record {
    row = record { on = taken_signal w.vars gs; value = h.look; args = []; guess = [] };
    on = is_on;
    does = λ d k well. (locked, (λ s suits u. h.is_look s));
    next = ap walk_of h.next;
  }

  word_is : (m a : ℕ) (f : Signal) → (ls.array m ≡ comb_place p m) → IsLocation p ws m a
      → IsWordSignal p ls m (signal_at w.vars a) (tickets m) f → (d : Circuit) → Keeps c d → IsWell d → (s : State)
      → Suits d s → IsWord p ls m (signal_at w.vars a) (tickets m) f s
  unfolding read_value
  word_is m a f array at h d k well s suits = by (is_locked p m) refl
    where
      by : (b : Bool) → is_locked p m ≡ b → IsWord p ls m (signal_at w.vars a) (tickets m) f s
      by true e = word_locked p ls m (signal_at w.vars a) (tickets m) h.ready f s e (h.looked e) (reach m a at) (fits d k well a at.var s suits)
      by false e =
          word_plain p ls m (signal_at w.vars a) (tickets m) f s e
          (ap (λ (g : Signal). g.value s) (h.plain e) ∙ ap (λ n. slice_index (slice_index_or s.arrays n []) ((signal_at w.vars a).value s)) (sym array))
          (reach m a at) (fits d k well a at.var s suits)

  -- the same word by a signal of the same value
  same_word : (m : ℕ) (addr ticket f g : Signal) (s : State) → g.value s ≡ f.value s → IsWord p ls m addr ticket f s → IsWord p ls m addr ticket g s
  same_word m addr ticket f g s e h = record {
    reach = h.reach;
    plain = λ u. e ∙ h.plain u;
    locked = λ u x t stands covered holds looked. e ∙ h.locked u x t stands covered holds looked;
  }

  -- a read that answers at once sets the variable to the word at the location
  pub read_step : (x m a : ℕ) (w' : Parts) → ls.array m ≡ comb_place p m → x < length ws → IsLocation p ws m a
      → IsRead p ls tickets (taken_signal w.vars gs) x m a w w'
      → IsStep c p ls tickets gs (flat.CombRead x m a) (walk_of w) (walk_of w')
  read_step x m a w' array l at h =
      let f = h.word in
      let on = taken_signal w.vars gs in
      let old = signal_at w.vars x in
      record {
        row = record { on = on; value = mux_signal on f old; args = []; guess = [] };
        on = is_on;
        does = λ d k well. (
          omega (arith, l, vars),
          (λ s suits u. same_word m (signal_at w.vars a)
              (tickets m) f (mux_signal on f old) s (chosen d k well f old s suits u)
              (word_is m a f array at h.is_word d k well s suits)),
          other d k well f old,
        );
        next = ap walk_of h.next ∙ ap (λ v. record (walk_of w) { vars = v }) (set_walk x (mux_signal on f old) w (omega (arith, l, var_count p ws w sized)));
      }

  -- and so does one of an advisory memory
  pub advice_read_step : (x m a : ℕ) (w' : Parts) → ls.array m ≡ comb_place p m → x < length ws → IsLocation p ws m a
      → IsRead p ls tickets (taken_signal w.vars gs) x m a w w'
      → IsStep c p ls tickets gs (flat.AdviceRead x m a) (walk_of w) (walk_of w')
  advice_read_step x m a w' array l at h = let s = read_step x m a w' array l at h in record { row = s.row; on = s.on; does = s.does; next = s.next }

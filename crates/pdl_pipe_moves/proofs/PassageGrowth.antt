-- Stages of which it is known whether their threads move stay so, while the circuit grows and earlier stages are asked.
use Rattle.std.proofs.Common.{◌≡◌, ◌<◌, ◌==◌, ℕ, zero, suc, Bool, true, false, refl, sym, ap, ap₂, ◌∙◌, subst, length, ◌||◌, slice_index, List, [], ◌∷◌, arith}
use Rattle.std.specs.Prelude.{slice_set, if◌then◌else◌}
use Rattle.std.proofs.lemmas.Bool.{eq-eqb, eqb-true}
use Rattle.pdl_word.specs.Each.{Each}
use Rattle.pdl_semantics.specs.Flat as flat
use Rattle.pdl_semantics.specs.Flat.{Next, Pipe}
use Rattle.pdl_semantics.specs.Stages.{stage_at}
use Rattle.pdl_net.specs.declared.Net.{Net}
use Rattle.pdl_net.specs.Circuit.{Circuit, State}
use Rattle.pdl_net.specs.Signal.{Signal, mux_signal}
use Rattle.pdl_net.specs.Meaning.{signal}
use Rattle.pdl_net.specs.Growth.{Keeps}
use Rattle.pdl_port.specs.Port.{PortState}
use Rattle.pdl_port.specs.Laws.{FreeLaw}
use Rattle.pdl_port.specs.Places.{stands}
use Rattle.pdl_machine_inflight.specs.Readings.{places, places_of, place_at}
use Rattle.pdl_machine_facts.specs.Slots.{leads_to}
use Rattle.pdl_law_parts.specs.Walk.{Walk, both, one, is_on}
use Rattle.pdl_law_parts.specs.Views.{View, free, way_on, moves_where}
use Rattle.pdl_pipe_exprs.specs.Nets.{signals_in, signal_at}
use Rattle.pdl_pipe_exprs.proofs.NetLists.{signals_keep, length_signals}
use Rattle.pdl_pipe_walk.proofs.Lists.{signal_set}
use Rattle.pdl_pipe_beside.specs.Ports.{StandPorts}
use Rattle.pdl_pipe_answers.specs.Ports.{IsBit, IsOnAs}
use Rattle.pdl_pipe_answers.proofs.Bits.{both_as}
use Rattle.pdl_pipe_nexts.specs.declared.line.StageLine.{StageLine}
use Rattle.pdl_pipe_nexts.specs.Lines.{line_pipe, line_views, line_moves, IsLineIn}
use Rattle.pdl_pipe_nexts.proofs.LineGrowth.{views_same, bits_there}
use Rattle.pdl_pipe_moves.specs.Inside.{LeadsInside}
use Rattle.pdl_pipe_moves.specs.Signs.{Signs, gate_by}
use Rattle.pdl_pipe_moves.specs.Passed.{IsFreeBy, HaveFree, IsMovedBy, IsPassed}

-- ---- what a stage goes by

way_as : (n : Next) (f g : ℕ → Signal) (w : Walk) → ((q : ℕ) → leads_to n q ≡ true → f q ≡ g q) → way_on n f w ≡ way_on n g w
way_as flat.Ends f g w h = refl
way_as (flat.Goes to) f g w h = h to (eq-eqb to to refl)
way_as (flat.Forks x first second) f g w h =
    ap₂ (λ a b. mux_signal (w.vars x) a b) (h first (left (second == first) (eq-eqb first first refl)))
    (h second (right (first == second) (eq-eqb second second refl)))
  where
    left : {a : Bool} (b : Bool) → a ≡ true → (a || b) ≡ true
    left b e = ap (λ c. c || b) e

    right : {b : Bool} (a : Bool) → b ≡ true → (a || b) ≡ true
    right true e = refl
    right false e = e

-- a stage's thread moves by the moves of the stages to which it leads
pub moves_as : (p : Pipe) (vs : ℕ → View) (gate moves others : ℕ → Signal) (k : ℕ)
    → ((q : ℕ) → leads_to (stage_at p k).next q ≡ true → moves q ≡ others q)
    → moves_where p vs gate moves k ≡ moves_where p vs gate others k
moves_as p vs gate moves others k h =
    ap (λ f. both (vs k).valid (both (vs k).ended.ready (both (gate k) f)))
    (way_as (stage_at p k).next (free vs moves) (free vs others) (vs k).ended (λ q l. ap (λ f. mux_signal (vs q).valid f one) (h q l)))

-- a port is free by the moves of its places
pub free_as : (stands : State → PortState → Type 0) (n : ℕ) (reply : Signal) (moves others : ℕ → Signal) (free : Signal)
    → ((i : ℕ) → i < n → moves i ≡ others i) → FreeLaw stands n reply moves free → FreeLaw stands n reply others free
free_as stands n reply moves others free h law =
    record { holds = λ s x r on is q each. law.holds s x r on is q (λ k l. ap (λ (f : Signal). f.value s) (h k l) ∙ each k l) }

-- a stage leads to each of its places
pub place_leads : (n : Next) (i : ℕ) → i < length (places_of n) → leads_to n (slice_index (places_of n) i) ≡ true
place_leads flat.Ends i l = absurd (omega (arith, l))
place_leads (flat.Goes to) zero l = eq-eqb to to refl
place_leads (flat.Goes to) (suc i) l = absurd (omega (arith, l))
place_leads (flat.Forks x first second) zero l = ap (λ b. b || (second == first)) (eq-eqb first first refl)
place_leads (flat.Forks x first second) (suc zero) l = right (first == second) (eq-eqb second second refl)
  where
    right : {b : Bool} (a : Bool) → b ≡ true → (a || b) ≡ true
    right true e = refl
    right false e = e
place_leads (flat.Forks x first second) (suc (suc i)) l = absurd (omega (arith, l))

free_by : (c : Circuit) (x : StageLine) (moves others : ℕ → Signal) (k m : ℕ) (f : Signal)
    → ((q : ℕ) → leads_to (stage_at (line_pipe x) k).next q ≡ true → moves q ≡ others q) → IsFreeBy c x moves k m f
    → IsFreeBy c x others k m f
free_by c x moves others k m f h law r q is at some =
    free_as (stands q) (length (places (line_pipe x) r)) (signal c q.reply) (λ i. moves (place_at (line_pipe x) r i))
    (λ i. others (place_at (line_pipe x) r i)) f
    (λ i l. h (place_at (line_pipe x) r i)
    (subst (λ j. leads_to (stage_at (line_pipe x) j).next (place_at (line_pipe x) r i) ≡ true) at (place_leads (stage_at (line_pipe x) r.stage).next i l)))
    (law r q is at some)

-- ---- lists of nets

set_signals : (c : Circuit) (xs : List Net) (k : ℕ) (x : Net) → signals_in c (slice_set xs k x) ≡ slice_set (signals_in c xs) k (signal c x)
set_signals c [] k x = refl
set_signals c (y ∷ ys) zero x = refl
set_signals c (y ∷ ys) (suc k) x = ap (λ fs. signal c y ∷ fs) (set_signals c ys k x)

-- where a net took the place of number k, the k-th signal is that net's
pub set_here : (c : Circuit) (xs : List Net) (k : ℕ) (x : Net) → k < length xs → signal_at (signals_in c (slice_set xs k x)) k ≡ signal c x
set_here c xs k x l =
    let n = length_signals c xs in
    ap (λ fs. signal_at fs k) (set_signals c xs k x)
    ∙ signal_set (signals_in c xs) k (signal c x) k (omega (arith, l, n))
    ∙ ap (λ b. if b then signal c x else signal_at (signals_in c xs) k) (eq-eqb k k refl)

-- where a net took the place of number k, later signals are what they were
pub set_later : (c : Circuit) (xs : List Net) (k : ℕ) (x : Net) (q : ℕ)
    → k < length xs → k < q → signal_at (signals_in c (slice_set xs k x)) q ≡ signal_at (signals_in c xs) q
set_later c xs k x q l m =
    let n = length_signals c xs in
    ap (λ fs. signal_at fs q) (set_signals c xs k x) ∙ signal_set (signals_in c xs) k (signal c x) q (omega (arith, l, n)) ∙ other (q == k) refl
  where
    other : (b : Bool) → (q == k) ≡ b → (if b then signal c x else signal_at (signals_in c xs) q) ≡ signal_at (signals_in c xs) q
    other true e = let f = eqb-true q k e in absurd (omega (arith, m, f))
    other false e = refl

-- what holds of each element and of a new one holds of each where the new one took the place of another
pub each_set : {X : Type 0} (P : X → Type 0) (xs : List X) (k : ℕ) (x : X) → Each P xs → P x → Each P (slice_set xs k x)
each_set P [] k x h p = h
each_set P (y ∷ ys) zero x h p = (p, h.1)
each_set P (y ∷ ys) (suc k) x h p = (h.0, each_set P ys k x h.1 p)

-- ---- gates that are on together

-- a thread moves alike by gates that are 1 together
pub gate_as : (p : Pipe) (vs : ℕ → View) (g h moves : ℕ → Signal) (k : ℕ) → IsOnAs (g k) (h k)
    → IsOnAs (moves_where p vs g moves k) (moves_where p vs h moves k)
gate_as p vs g h moves k e =
    let way = way_on (stage_at p k).next (free vs moves) (vs k).ended in
    both_as (vs k).valid (both (vs k).ended.ready (both (g k) way)) (vs k).valid (both (vs k).ended.ready (both (h k) way)) (λ s. refl)
    (both_as (vs k).ended.ready (both (g k) way) (vs k).ended.ready (both (h k) way) (λ s. refl) (both_as (g k) way (h k) way e (λ s. refl)))

-- ---- one stage

module _ (x : StageLine) (inside : LeadsInside (line_pipe x)) (k : ℕ) (low : k < length (line_pipe x).stages) where
  -- the thread of stage k moves alike by other moves that are the same for later stages
  pub moved_as : (c : Circuit) (g : Signs) (frees moves others : ℕ → Signal) (f : Signal)
      → ((q : ℕ) → k < q → moves q ≡ others q) → IsMovedBy c x g frees moves k f → IsMovedBy c x g frees others k f
  moved_as c g frees moves others f h is s =
      is s
      ∙ ap (λ (i : Signal). is_on i s)
      (moves_as (line_pipe x) (line_views c x) (λ j. gate_by (line_pipe x) (line_views c x) g frees k) moves others k (λ q l. h q (inside k q low l).0))

  -- a port is free for stage k alike by other moves that are the same for later stages
  pub frees_as : (c : Circuit) (moves others : ℕ → Signal) (m : ℕ) (f : Signal) → ((q : ℕ) → k < q → moves q ≡ others q)
      → IsFreeBy c x moves k m f → IsFreeBy c x others k m f
  frees_as c moves others m f h is = free_by c x moves others k m f (λ q l. h q (inside k q low l).0) is

  -- what was found of it, where another stage before it is asked
  pub passed_set : (c : Circuit) (g : Signs) (moves frees : List Net) (j : ℕ) (net : Net) → j < k → j < length moves
      → IsPassed c x g moves frees k → IsPassed c x g (slice_set moves j net) frees k
  passed_set c g moves frees j net l m h =
      let later : (q : ℕ) → k < q → signal_at (signals_in c moves) q ≡ signal_at (signals_in c (slice_set moves j net)) q =
      λ q n. sym (set_later c moves j net q m (omega (arith, l, n))) in
      record {
        moves =
            subst (IsMovedBy c x g (signal_at (signals_in c frees)) (signal_at (signals_in c (slice_set moves j net))) k) (sym (set_later c moves j net k m l))
            (moved_as c g (signal_at (signals_in c frees)) (signal_at (signals_in c moves))
            (signal_at (signals_in c (slice_set moves j net))) (signal_at (signals_in c moves) k) later h.moves);
        free =
            λ i q. frees_as c (signal_at (signals_in c moves))
            (signal_at (signals_in c (slice_set moves j net))) i (signal_at (signals_in c frees) i) later (h.free i q);
      }

  -- of a stage that is asked it is known whether its thread moves, by the net that is set for it
  pub passed_new : (c : Circuit) (g : Signs) (moves frees : List Net) (net : Net) → k < length moves
      → HaveFree c x k frees (length (line_pipe x).mems)
      → ((q : ℕ) → line_moves c x q ≡ signal_at (signals_in c moves) q)
      → IsMovedBy c x g (signal_at (signals_in c frees)) (line_moves c x) k (signal c net) → IsPassed c x g (slice_set moves k net) frees k
  passed_new c g moves frees net m free same is =
      let later : (q : ℕ) → k < q → line_moves c x q ≡ signal_at (signals_in c (slice_set moves k net)) q =
      λ q n. same q ∙ sym (set_later c moves k net q m n) in
      record {
        moves = subst (IsMovedBy c x g (signal_at (signals_in c frees)) (signal_at (signals_in c (slice_set moves k net))) k) (sym (set_here c moves k net m))
            (moved_as c g (signal_at (signals_in c frees)) (line_moves c x) (signal_at (signals_in c (slice_set moves k net))) (signal c net) later is);
        free = λ i q. frees_as c (line_moves c x) (signal_at (signals_in c (slice_set moves k net))) i (signal_at (signals_in c frees) i) later (free.free i q);
      }

-- ---- while the circuit grows

module _ (a b : Circuit) (e : Keeps a b) (x : StageLine) (line : IsLineIn a x) where
  -- a signal that tells whether a port is free for stage k tells it in the circuit that grew
  pub free_keep : (stand : StandPorts a (line_pipe x) x.shared.now.ports.now) (moves : ℕ → Signal) (k m : ℕ) (f : Signal)
      → IsFreeBy a x moves k m f → IsFreeBy b x moves k m f
  free_keep stand moves k m f h r q is at some =
      subst (λ (g : Signal). FreeLaw (stands q) (length (places (line_pipe x) r)) g (λ i. moves (place_at (line_pipe x) r i)) f)
      (sym (e.kept q.reply (stand.each m r q is some).placed.reply.there)) (h r q is at some)

  -- a signal that tells whether the thread of stage k moves tells it in the circuit that grew, where the gate is the same
  pub moved_keep : (g h : Signs) (frees moves : ℕ → Signal) (k : ℕ) (f : Signal)
      → ((fs : ℕ → Signal) → gate_by (line_pipe x) (line_views b x) h fs k ≡ gate_by (line_pipe x) (line_views a x) g fs k)
      → IsMovedBy a x g frees moves k f → IsMovedBy b x h frees moves k f
  moved_keep g h frees moves k f same is s =
      is s
      ∙ ap (λ (vs : ℕ → View). is_on (moves_where (line_pipe x) vs (λ j. gate_by (line_pipe x) (line_views a x) g frees k) moves k) s)
      (sym (views_same a b x e line))
      ∙ ap (λ (i : Signal). is_on (moves_where (line_pipe x) (line_views b x) (λ j. i) moves k) s) (sym (same frees))

  -- a stage of which it is known whether its thread moves stays so in the circuit that grew, where the gate is the same
  pub passed_keep : (stand : StandPorts a (line_pipe x) x.shared.now.ports.now) (g h : Signs) (moves frees : List Net) (k : ℕ)
      → ((fs : ℕ → Signal) → gate_by (line_pipe x) (line_views b x) h fs k ≡ gate_by (line_pipe x) (line_views a x) g fs k)
      → Each (IsBit a) moves → Each (IsBit a) frees → IsPassed a x g moves frees k → IsPassed b x h moves frees k
  passed_keep stand g h moves frees k same ms fs is =
      let m = signals_keep a b moves e (bits_there a moves ms) in
      let f = signals_keep a b frees e (bits_there a frees fs) in
      record {
        moves = λ s.
            ap (λ ss. is_on (signal_at ss k) s) m
            ∙ moved_keep g h (signal_at (signals_in a frees)) (signal_at (signals_in a moves)) k (signal_at (signals_in a moves) k) same is.moves s
            ∙ ap₂
            (λ ms fs. is_on
            (moves_where (line_pipe x) (line_views b x) (λ j. gate_by (line_pipe x) (line_views b x) h (signal_at fs) k) (signal_at ms) k) s)
            (sym m) (sym f);
        free = λ i l. subst (λ ss. IsFreeBy b x (signal_at ss) k i (signal_at (signals_in b frees) i)) (sym m)
            (subst (λ ss. IsFreeBy b x (signal_at (signals_in a moves)) k i (signal_at ss i)) (sym f)
            (free_keep stand (signal_at (signals_in a moves)) k i (signal_at (signals_in a frees) i) (is.free i l)));
      }

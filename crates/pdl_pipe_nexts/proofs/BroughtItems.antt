-- What the threads that come into a stage bring, the last first.
use Rattle.std.proofs.Common.{◌≡◌, refl, sym, ap, ap₂, ◌∙◌, subst, ℕ, zero, suc, ◌+◌, ◌<◌, ◌==◌, Bool, false, List, [], ◌∷◌, ◌++◌, map, length, drop, get_or, append-nil, arith}
use Rattle.std.specs.Prelude.{Option, Some, None, slice_index, if◌then◌else◌}
use Rattle.std.proofs.lemmas.List.{drop_more}
use Rattle.pdl_semantics.specs.Flat.{Pipe}
use Rattle.pdl_machine_facts.specs.Slots.{ways}
use Rattle.pdl_net.specs.Circuit.{Circuit, State}
use Rattle.pdl_net.specs.Signal.{Signal, mux_signal}
use Rattle.pdl_law_parts.specs.Walk.{is_on}
use Rattle.pdl_law_parts.specs.Views.{View, out_of, new_from, comers, first_coming}
use Rattle.pdl_law_parts.proofs.Signals.{mux_by}
use Rattle.pdl_pipe_registers.specs.declared.nets.Item.{Item}
use Rattle.pdl_pipe_registers.specs.declared.nets.Item.TheVariants.{Var, Mark, Ticket, Guess}
use Rattle.pdl_pipe_registers.specs.Items.{ended_item, comer_item}
use Rattle.pdl_pipe_nexts.specs.declared.arrivals.Arrival.{Arrival}
use Rattle.pdl_pipe_nexts.specs.Lines.{ValueAs}
use Rattle.pdl_pipe_nexts.specs.Arrivals.{IsArrival, AreArrivals}
use Rattle.pdl_pipe_nexts.specs.Brings.{brought_signal, brought_out}

-- ---- arrivals by their places

-- there are as many threads that may come as stages out of which they may
pub arrivals_count : (c : Circuit) (p : Pipe) (vs : ℕ → View) (moves : ℕ → Signal) (q : ℕ) (js : List ℕ) (xs : List Arrival)
    → AreArrivals c p vs moves q js xs → length xs ≡ length js
arrivals_count c p vs moves q [] [] h = refl
arrivals_count c p vs moves q [] (x ∷ xs) h = absurd h
arrivals_count c p vs moves q (j ∷ js) [] h = absurd h
arrivals_count c p vs moves q (j ∷ js) (x ∷ xs) h = ap suc (arrivals_count c p vs moves q js xs h.1)

-- the k-th thread that may come does so out of the k-th of these stages
pub arrival_nth : (c : Circuit) (p : Pipe) (vs : ℕ → View) (moves : ℕ → Signal) (q : ℕ) (js : List ℕ)
    (xs : List Arrival) (k : ℕ) (x : Arrival)
    → k < length xs → x ≡ get_or xs k x → AreArrivals c p vs moves q js xs
    → IsArrival c p vs moves q (slice_index js k) x
arrival_nth c p vs moves q [] [] k x l e h = absurd (omega (arith, l))
arrival_nth c p vs moves q [] (y ∷ ys) k x l e h = absurd h
arrival_nth c p vs moves q (j ∷ js) [] k x l e h = absurd h
arrival_nth c p vs moves q (j ∷ js) (y ∷ ys) zero x l e h = subst (IsArrival c p vs moves q j) (sym e) h.0
arrival_nth c p vs moves q (j ∷ js) (y ∷ ys) (suc k) x l e h = arrival_nth c p vs moves q js ys k x (omega (arith, l)) e h.1

-- ---- what is brought

item_as : (v u : View) (i : Item) → v.ended ≡ u.ended → v.tickets ≡ u.tickets → ended_item v i ≡ ended_item u i
item_as v u (Var x) e t = ap (λ w. w.vars x) e
item_as v u (Mark mark m a) e t = ap (λ w. w.marks mark m a) e
item_as v u (Ticket m) e t = ap (λ f. f m) t
item_as v u (Guess i) e t = ap (λ w. Rattle.pdl_pipe_exprs.specs.Nets.signal_at w.guess i) e

-- by other views with the same end and the same tickets a thread brings the same out of a stage
pub out_as : (v u : View) (what : Option Item) → v.ended ≡ u.ended → v.tickets ≡ u.tickets → brought_out what v ≡ brought_out what u
out_as v u None e t = refl
out_as v u (Some i) e t = item_as v u i e t

comer_out : (p : Pipe) (vs : ℕ → View) (moves : ℕ → Signal) (q k : ℕ) (i : Item)
    → comer_item i (out_of p vs moves q k) ≡ ended_item (vs k) i
comer_out p vs moves q k (Var x) = refl
comer_out p vs moves q k (Mark mark m a) = refl
comer_out p vs moves q k (Ticket m) = refl
comer_out p vs moves q k (Guess i) = refl

brought_is : (p : Pipe) (vs : ℕ → View) (moves : ℕ → Signal) (q k : ℕ) (what : Option Item)
    → brought_signal what (out_of p vs moves q k) ≡ brought_out what (vs k)
brought_is p vs moves q k None = refl
brought_is p vs moves q k (Some i) = comer_out p vs moves q k i

-- ---- one more

-- what the first thread that comes out of these stages, from the k-th on, brings, else the rest
abbrev pub from_way : Pipe → (ℕ → View) → (ℕ → Signal) → ℕ → List ℕ → Option Item → ℕ → Signal → Signal
from_way p vs moves q js what k rest = first_coming (brought_signal what) (map (out_of p vs moves q) (drop k js)) rest

-- what threads out of the k-th of these stages and later ones bring, by a choice before that of the later ones
pub way_more : (p : Pipe) (vs : ℕ → View) (moves : ℕ → Signal) (q : ℕ) (js : List ℕ) (what : Option Item) (k : ℕ)
    (comes value net y rest : Signal)
    → k < length js → y ≡ mux_signal comes value net
    → ((s : State) → is_on comes s ≡ is_on (out_of p vs moves q (slice_index js k)).comes s)
    → value ≡ brought_out what (vs (slice_index js k)) → ValueAs net (from_way p vs moves q js what (k + 1) rest)
    → ValueAs y (from_way p vs moves q js what k rest)
way_more p vs moves q js what k comes value net y rest l is on brings h = λ s.
    let j = slice_index js k in
    let o = out_of p vs moves q j in
    let later = from_way p vs moves q js what (k + 1) rest in
    let next : from_way p vs moves q js what k rest ≡ mux_signal o.comes (brought_signal what o) later =
    ap (λ ks. first_coming (brought_signal what) (map (out_of p vs moves q) ks) rest) (drop_more js k 0 l) in
    ap (λ (f : Signal). f.value s) is
    ∙ mux_by s comes value net
    ∙ ap₂ (λ (b : Bool) n. if b then value.value s else n) (on s) (h s)
    ∙ ap (λ (f : Signal). if is_on o.comes s then f.value s else later.value s) (brings ∙ sym (brought_is p vs moves q j what))
    ∙ sym (mux_by s o.comes (brought_signal what o) later)
    ∙ ap (λ (f : Signal). f.value s) (sym next)

-- ---- all that may come

-- into stage 0 come just the new threads of the calls of all stages
pub none_left : (p : Pipe) (vs : ℕ → View) (moves : ℕ → Signal) (n : ℕ) → n ≡ length p.stages → new_from vs moves n 0 ≡ comers p vs moves 0
none_left p vs moves n e = ap (λ m. new_from vs moves m 0) e ∙ sym (append-nil (new_from vs moves (length p.stages) 0))

-- into another stage than stage 0 come just the threads out of the stages that lead to it
pub after_first : (p : Pipe) (vs : ℕ → View) (moves : ℕ → Signal) (q : ℕ)
    → (q == 0) ≡ false → map (out_of p vs moves q) (ways p q) ≡ comers p vs moves q
after_first p vs moves q e = sym (ap (λ b. (if b then new_from vs moves (length p.stages) 0 else []) ++ map (out_of p vs moves q) (ways p q)) e)

-- Nets keep their meaning when more is added.
use Rattle.std.proofs.Common.{◌≡◌, ℕ, ◌+◌, ◌-◌, ◌≤◌, List, [], ◌∷◌, ◌++◌, length, get_or, refl, sym, ap, ◌∙◌, subst, arith, append_assoc, length-append, Bool}
use Rattle.std.proofs.lemmas.List.{get_or_append_left, get_or_push, append-nil}
use Rattle.pdl_net.specs.declared.Net.{Net}
use Rattle.pdl_net.specs.declared.Net.TheVariants.{Input, Reg as RegNet, Cell as CellNet}
use Rattle.pdl_net.specs.declared.Cell.{Cell}
use Rattle.pdl_net.specs.declared.Cell.TheVariants.{Const, Not, Bin, Mux, Slice, Cat, Rep, Read}
use Rattle.pdl_net.specs.Circuit.{Circuit, State}
use Rattle.pdl_net.specs.Signal.{Signal, no_signal, input_signal, reg_signal, not_signal, slice_signal, rep_signal, mux_signal, mux_value}
use Rattle.pdl_net.specs.Meaning.{look, cell_signal, signals_from, signals, signal, IsThereAt, IsThere}
use Rattle.pdl_net.specs.Well.{FitsIn, Fits, AllFit}
use Rattle.pdl_net.specs.Growth.{Grows, KeepsNets}
use Rattle.std.specs.Prelude.{if◌then◌else◌}
use Rattle.pdl_word.specs.Words.{bit, mux}
use Rattle.pdl_word.proofs.Laws.{mux_bit}

-- the signals of cells after others
signals_from_append : (c : Circuit) (xs ys : List Cell) (done : List Signal)
    → signals_from c (xs ++ ys) done ≡ signals_from c ys (signals_from c xs done)
signals_from_append c [] ys done = refl
signals_from_append c (x ∷ xs) ys done = signals_from_append c xs ys (done ++ cell_signal c (look c done) x ∷ [])

-- what is done stays in front
pub signals_from_front : (c : Circuit) (xs : List Cell) (done : List Signal)
    → (more : List Signal) × (signals_from c xs done ≡ done ++ more) × (length more ≡ length xs)
signals_from_front c [] done = ([], sym (append-nil done), refl)
signals_from_front c (x ∷ xs) done =
    let f = cell_signal c (look c done) x in
    let r = signals_from_front c xs (done ++ f ∷ []) in
    (f ∷ r.0, r.1 ∙ append_assoc done (f ∷ []) r.0, omega (arith, r.2))

-- there are as many signals as cells
pub length_signals : (c : Circuit) → length (signals c) ≡ length c.cells
unfolding signals
length_signals c =
    let r = signals_from_front c c.cells [] in
    ap length r.1 ∙ r.2

-- a net that is there among the first cells
pub look_front : (c : Circuit) (done more : List Signal) (x : Net) → IsThereAt c (length done) x → look c (done ++ more) x ≡ look c done x
look_front c done more (Input i) h = refl
look_front c done more (RegNet r) h = refl
look_front c done more (CellNet k) h = get_or_append_left done more no_signal k h

-- in a circuit that has more
pub look_grows : (old new : Circuit) → Grows old new → (done : List Signal) (x : Net) → IsThereAt old (length done) x
    → look new done x ≡ look old done x
look_grows old new g done (Input i) h = ap (λ w. input_signal w i) (g.inputs i h).1
look_grows old new g done (RegNet r) h = ap (λ w. reg_signal w r) (g.regs r h).1
look_grows old new g done (CellNet k) h = refl

-- a net among the first m cells is among the first n of a circuit that has grown, where n is not below m
pub there_grows : (old new : Circuit) → Grows old new → (m n : ℕ) → m ≤ n → (x : Net) → IsThereAt old m x → IsThereAt new n x
there_grows old new g m n le (Input i) h = (g.inputs i h).0
there_grows old new g m n le (RegNet r) h = (g.regs r h).0
there_grows old new g m n le (CellNet k) h = omega arith

-- a cell means the same where its nets do
pub cell_signal_same : (old new : Circuit) (There : Net → Type 0) (at at' : Net → Signal) → Grows old new
    → ((x : Net) → There x → at' x ≡ at x) → (g : Cell) → FitsIn old There at g
    → cell_signal new at' g ≡ cell_signal old at g
cell_signal_same old new There at at' w h (Const v n) f = refl
cell_signal_same old new There at at' w h (Not a) f = ap not_signal (h a f)
cell_signal_same old new There at at' w h (Bin op a b) f = cc (h a f.0, h b f.1)
cell_signal_same old new There at at' w h (Mux s a b) f = cc (h s f.0, h a f.1, h b f.2)
cell_signal_same old new There at at' w h (Slice a high low) f = ap (slice_signal high low) (h a f.0)
cell_signal_same old new There at at' w h (Cat a b) f = cc (h a f.0, h b f.1)
cell_signal_same old new There at at' w h (Rep k a) f = ap (rep_signal k) (h a f.0)
cell_signal_same old new There at at' w h (Read m a) f = cc (h a f.1, (w.arrays m f.0).1)

-- cells that fit have the same signals in a circuit that has grown
pub signals_from_grows : (old new : Circuit) → Grows old new → (gs : List Cell) (done : List Signal)
    → AllFit old gs done → signals_from new gs done ≡ signals_from old gs done
signals_from_grows old new w [] done f = refl
signals_from_grows old new w (g ∷ gs) done f =
    let e = cell_signal_same old new (IsThereAt old (length done)) (look old done) (look new done) w (look_grows old new w done) g f.0 in
    ap (λ s. signals_from new gs (done ++ s ∷ [])) e ∙ signals_from_grows old new w gs (done ++ cell_signal old (look old done) g ∷ []) f.1

-- the cells of the new circuit begin with those of the old
signals_grow : (old new : Circuit) → Grows old new → AllFit old old.cells []
    → (more : List Signal) × (signals new ≡ signals old ++ more) × (length more ≡ length new.cells - length old.cells)
unfolding signals
signals_grow old new w f =
    let r = signals_from_front new w.more (signals_from new old.cells []) in
    let e : signals_from new new.cells [] ≡ signals_from new w.more (signals_from new old.cells []) =
    ap (λ l. signals_from new l []) w.cells ∙ signals_from_append new old.cells w.more [] in
    let l : length new.cells ≡ length old.cells + length w.more = ap length w.cells ∙ length-append old.cells w.more in
    (r.0, e ∙ r.1 ∙ ap (λ s. s ++ r.0) (signals_from_grows old new w old.cells [] f), omega (arith, r.2, l))

kept_in : (old new : Circuit) (s s' : List Signal) → Grows old new → (more : List Signal)
    → s' ≡ s ++ more → (x : Net) → IsThereAt old (length s) x → look new s' x ≡ look old s x
kept_in old new s s' w more e x h =
    ap (λ l. look new l x) e ∙ look_front new s more x (there_grows old new w (length s) (length s) (omega arith) x h) ∙ look_grows old new w s x h

-- a circuit that has grown keeps the nets of the old one, whose cells fit
pub keeps_nets_grown : (old new : Circuit) → Grows old new → AllFit old old.cells [] → KeepsNets old new
unfolding signal IsThere
keeps_nets_grown old new w f =
    let m = signals_grow old new w f in
    let l : length new.cells ≡ length old.cells + length w.more = ap length w.cells ∙ length-append old.cells w.more in
    let n = length_signals old in
    record {
      nets = λ x h. record {
        there = there_grows old new w (length old.cells) (length new.cells) (omega arith) x h;
        same =
            let P : ℕ → Type 0 = λ k. IsThereAt old k x in
            kept_in old new (signals old) (signals new) w m.0 m.1 x (subst P (sym n) h);
      };
    }

-- the law of one more cell
pub signal_added : (old new : Circuit) (g : Cell) → Grows old new → AllFit old old.cells [] → Fits old g
    → new.cells ≡ old.cells ++ g ∷ [] → signal new (CellNet (length old.cells)) ≡ cell_signal old (signal old) g
unfolding signal signals IsThere
signal_added old new g w f fit e =
    let d = signals_from old old.cells [] in
    let n = length_signals old in
    let a : signals_from new new.cells [] ≡ signals_from new (g ∷ []) (signals_from new old.cells []) =
    ap (λ l. signals_from new l []) e ∙ signals_from_append new old.cells (g ∷ []) [] in
    let b : signals_from new (g ∷ []) (signals_from new old.cells []) ≡ d ++ cell_signal new (look new d) g ∷ [] =
    ap (λ s. s ++ cell_signal new (look new s) g ∷ []) (signals_from_grows old new w old.cells [] f) in
    let s =
    cell_signal_same old new (IsThere old) (look old d)
    (look new d) w (λ x h. let P : ℕ → Type 0 = λ k. IsThereAt old k x in look_grows old new w d x (subst P (sym n) h)) g fit in
    ap (λ l. get_or l (length old.cells) no_signal) (a ∙ b) ∙ get_or_push d (cell_signal new (look new d) g) no_signal (length old.cells) n ∙ s

-- a choice has the value of the arm that its bit chooses
pub mux_at : (c a b : Signal) (s : State) (t : Bool) → c.value s ≡ bit t → (mux_signal c a b).value s ≡ (if t then a.value s else b.value s)
unfolding mux_value
mux_at c a b s t e = ap (λ n. mux n (a.value s) (b.value s)) e ∙ mux_bit t (a.value s) (b.value s)

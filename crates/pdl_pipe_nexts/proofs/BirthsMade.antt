-- What calls bring, the last call first.
use Rattle.std.proofs.Common.{◌≡◌, ℕ, suc, ◌+◌, ◌<◌, List, [], ◌∷◌, ◌++◌, map, length, drop, get_or, refl, sym, ap, ap₂, ◌∙◌, arith}
use Rattle.std.proofs.lemmas.List.{drop_more}
use Rattle.std.specs.Prelude.{Option, Some, None}
use Rattle.pdl_semantics.specs.Flat.{Pipe}
use Rattle.pdl_form.specs.Form.{Form}
use Rattle.pdl_net.specs.declared.Net.{Net}
use Rattle.pdl_net.specs.Circuit.{Circuit}
use Rattle.pdl_net.specs.Signal.{Signal, mux_signal}
use Rattle.pdl_net.specs.Meaning.{signal, IsThere, Means}
use Rattle.pdl_net.specs.Growth.{Keeps, Extends}
use Rattle.pdl_net.proofs.Keeps.{extends_keeps}
use Rattle.pdl_net.proofs.KeptWidths.{width_keeps}
use Rattle.pdl_pipe_exprs.specs.Nets.{NetsThere, signals_in, widths_of}
use Rattle.pdl_pipe_exprs.proofs.NetLists.{there_keeps, signals_keep}
use Rattle.pdl_law_parts.specs.Walk.{Birth, both}
use Rattle.pdl_law_parts.specs.Views.{View, Comer, new_by, new_from, first_coming}
use Rattle.pdl_pipe_walk.specs.declared.nets.BirthNet.{BirthNet}
use Rattle.pdl_pipe_walk.specs.Parts.{birth_in}
use Rattle.pdl_pipe_walk.specs.Sized.{IsSizedBirth}
use Rattle.pdl_word.specs.Each.{Each}
use Rattle.pdl_pipe_registers.specs.declared.nets.Item.{Item}
use Rattle.pdl_pipe_registers.specs.declared.nets.Item.TheVariants.{Var, Mark, Ticket, Guess}
use Rattle.pdl_pipe_nexts.specs.Brings.{brought_signal, brought_new, IsArgument, IsBirth}

-- a call brings what its arguments are
brings_is : (p : Pipe) (what : Option Item) (moves : Signal) (b : Birth) → IsArgument p what
    → brought_signal what (new_by moves b) ≡ brought_new what b.args
brings_is p None moves b h = refl
brings_is p (Some (Var x)) moves b h = refl
brings_is p (Some (Mark mark m a)) moves b h = absurd h
brings_is p (Some (Ticket m)) moves b h = absurd h
brings_is p (Some (Guess k)) moves b h = absurd h

-- the nets of a call stay in a circuit that keeps what stands in theirs
pub birth_keep : (a b : Circuit) (f : Form) (x : BirthNet) → Keeps a b → IsBirth a f x → IsBirth b f x
birth_keep a b f x e h = record {
  on = width_keeps a b x.on 1 e h.on;
  args = there_keeps a b x.args e h.args;
  wide = ap widths_of (signals_keep a b x.args e h.args) ∙ h.wide;
}

-- the calls of a stage from k on
abbrev pub from_call : Circuit → Signal → Option Item → List BirthNet → ℕ → Signal → Signal
from_call a m what xs k rest = first_coming (brought_signal what) (map (new_by m) (map (birth_in a) (drop k xs))) rest

from_more : (p : Pipe) (a : Circuit) (m : Signal) (what : Option Item) (xs : List BirthNet) (k : ℕ) (x : BirthNet) (rest : Signal)
    → IsArgument p what → k < length xs → x ≡ get_or xs k x
    → from_call a m what xs k rest
    ≡ mux_signal (both m (signal a x.on)) (brought_new what (signals_in a x.args)) (from_call a m what xs (k + 1) rest)
from_more p a m what xs k x rest arg l e =
    ap (λ ys. first_coming (brought_signal what) (map (new_by m) (map (birth_in a) ys)) rest) (drop_more xs k x l)
    ∙ ap (λ (y : BirthNet). first_coming (brought_signal what) (map (new_by m) (map (birth_in a) (y ∷ drop (k + 1) xs))) rest) (sym e)
    ∙ ap (λ f. mux_signal (both m (signal a x.on)) f (from_call a m what xs (k + 1) rest)) (brings_is p what m (birth_in a x) arg)

-- with a choice for one call more, the net tells of the calls from this one on
pub call_made : (p : Pipe) (a b c d : Circuit) (m : Signal) (moves comes value net y : Net) (what : Option Item)
    (xs : List BirthNet) (k j : ℕ) (x : BirthNet) (rest : Signal)
    → IsArgument p what → k < length xs → j ≡ k + 1 → x ≡ get_or xs k x → Keeps a b → Extends b c → Extends c d
    → IsThere a moves → m ≡ signal a moves → IsThere a x.on → NetsThere a x.args → IsThere b net
    → Means c comes (both (signal b moves) (signal b x.on)) → Means c value (brought_new what (signals_in c x.args))
    → Means d y (mux_signal (signal c comes) (signal c value) (signal c net))
    → signal b net ≡ from_call a m what xs j rest → Means d y (from_call a m what xs k rest)
call_made p a b c d m moves comes value net y what xs k j x rest arg l next e ab bc cd tm is t ts tn mc mv my h =
    let on : signal c comes ≡ both m (signal a x.on) = mc.same ∙ ap₂ both (ab.kept moves tm ∙ sym is) (ab.kept x.on t) in
    let brought : signal c value ≡ brought_new what (signals_in a x.args) =
    mv.same ∙ ap (brought_new what) (signals_keep b c x.args (extends_keeps b c bc) (there_keeps a b x.args ab ts) ∙ signals_keep a b x.args ab ts) in
    let else_net : signal c net ≡ from_call a m what xs (k + 1) rest = bc.kept net tn ∙ h ∙ ap (λ i. from_call a m what xs i rest) next in
    record {
      there = my.there;
      same = my.same
          ∙ ap₂ (λ f g. mux_signal f g (signal c net)) on brought
          ∙ ap (λ f. mux_signal (both m (signal a x.on)) (brought_new what (signals_in a x.args)) f) else_net
          ∙ sym (from_more p a m what xs k x rest arg l e);
    }

-- ---- the calls of stages

picked_append : (of : Comer → Signal) (xs ys : List Comer) (rest : Signal)
    → first_coming of (xs ++ ys) rest ≡ first_coming of xs (first_coming of ys rest)
picked_append of [] ys rest = refl
picked_append of (x ∷ xs) ys rest = ap (mux_signal x.comes (of x)) (picked_append of xs ys rest)

-- of the last i of n stages
abbrev pub from_stage : (ℕ → View) → (ℕ → Signal) → Option Item → ℕ → ℕ → Signal → Signal
from_stage vs moves what i k rest = first_coming (brought_signal what) (new_from vs moves i k) rest

-- what the calls of the last i + 1 stages bring: those of the first of these, else those of the rest
pub stage_more : (vs : ℕ → View) (moves : ℕ → Signal) (what : Option Item) (i j k q : ℕ) (rest : Signal)
    → j ≡ i + 1 → q ≡ k + 1
    → from_stage vs moves what j k rest
    ≡ first_coming (brought_signal what) (map (new_by (moves k)) (vs k).ended.births) (from_stage vs moves what i q rest)
stage_more vs moves what i j k q rest e f =
    let one_more : j ≡ suc i = omega (arith, e) in
    let next : suc k ≡ q = omega (arith, f) in
    ap (λ n. from_stage vs moves what n k rest) one_more
    ∙ picked_append (brought_signal what) (map (new_by (moves k)) (vs k).ended.births) (new_from vs moves i (suc k)) rest
    ∙ ap (λ n. first_coming (brought_signal what) (map (new_by (moves k)) (vs k).ended.births) (from_stage vs moves what i n rest)) next

-- ---- the calls of a stage are there

-- the nets of a stage's calls are there, with an argument of its width for each parameter
pub births_of : (c : Circuit) (f : Form) (xs : List BirthNet)
    → Each (λ (x : BirthNet). IsThere c x.on × NetsThere c x.args) xs
    → Each (IsSizedBirth f.pipe f.widths) (map (birth_in c) xs) → Each (IsBirth c f) xs
births_of c f [] h k = tt
births_of c f (x ∷ xs) h k = (record { on = record { there = h.0.0; width = k.0.0 }; args = h.0.1; wide = k.0.1 }, births_of c f xs h.1 k.1)

-- What needs no register: an item with which all stages that lead here end alike.
use Rattle.std.proofs.Common.{◌≡◌, ℕ, zero, suc, ◌<◌, false, List, [], ◌∷◌, length, take, refl, sym, ap, ◌∙◌, subst, arith}
use Rattle.std.specs.Prelude.{slice_index}
use Rattle.pdl_semantics.specs.Flat.{Pipe}
use Rattle.pdl_form.specs.Form.{Form}
use Rattle.pdl_machine_facts.specs.Slots.{ways}
use Rattle.pdl_net.specs.declared.Net.{Net}
use Rattle.pdl_net.specs.Circuit.{Circuit, State}
use Rattle.pdl_net.specs.Signal.{Signal, const_value}
use Rattle.pdl_net.specs.Meaning.{signal}
use Rattle.pdl_pipe_exprs.specs.Nets.{signals_in}
use Rattle.pdl_pipe_exprs.proofs.NetLists.{width_at}
use Rattle.pdl_law_parts.specs.Views.{View}
use Rattle.pdl_pipe_walk.specs.Parts.{parts_in}
use Rattle.pdl_pipe_walk.proofs.NetGrowth.{mark_width, var_width}
use Rattle.pdl_pipe_registers.specs.declared.nets.Item.{Item}
use Rattle.pdl_pipe_registers.specs.declared.nets.Item.TheVariants.{Var, Mark, Ticket, Guess}
use Rattle.pdl_pipe_registers.specs.declared.nets.Earlier.{Earlier}
use Rattle.pdl_pipe_registers.specs.declared.nets.StageNets.{StageNets}
use Rattle.pdl_pipe_registers.specs.Items.{ended_item, item_width, is_answered, IsConstant}
use Rattle.pdl_pipe_registers.specs.Stages.{view_in, IsSettled, IsTwin}
use Rattle.pdl_pipe_registers.specs.Begun.{earlier_views, earlier_count, IsEnded, IsEarlier, IsItem, IsCommonNet}
use Rattle.pdl_pipe_registers.proofs.Lists.{each_at, view_at, some_stage}
use Rattle.pdl_pipe_walk.proofs.Lists.{each_at as each_in}
use Rattle.pdl_word.specs.Each.{Each}

abbrev signal_of : ℕ → (State → ℕ) → Signal
signal_of w x = record { width = w; value = x }

-- a signal of one value is a constant
pub constant_is : (g : Signal) (v : ℕ) → g.value ≡ const_value v → IsConstant g
constant_is g v e = (g.width, v, ap (λ (x : State → ℕ). signal_of g.width x) e)

-- the x-th of the first n widths is the x-th of all
pub take_index : (n x : ℕ) (ws : List ℕ) → x < length (take n ws) → slice_index (take n ws) x ≡ slice_index ws x
take_index zero x ws l = absurd (omega (arith, l))
take_index (suc n) x [] l = refl
take_index (suc n) zero (w ∷ ws) l = refl
take_index (suc n) (suc x) (w ∷ ws) l = take_index n x ws (omega (arith, l))

-- what a stage ends with has its width
pub ended_width : (c : Circuit) (f : Form) (nexts : List Signal) (s : StageNets) (i : Item) → IsEnded c f nexts s
    → IsItem f i → (ended_item (view_in c s) i).width ≡ item_width f nexts i
ended_width c f nexts s (Var x) h l = var_width f.pipe f.widths (parts_in c s.end) x h.walk.sized
ended_width c f nexts s (Mark mark m a) h l = mark_width (parts_in c s.end).marks mark m a h.walk.sized.marks
ended_width c f nexts s (Ticket m) h l = sym (width_at (signals_in c s.tickets) m) ∙ ap (λ ws. slice_index ws m) h.tickets_wide ∙ width_at nexts m
ended_width c f nexts s (Guess i) h l =
    sym (width_at (signals_in c s.end.guess) i) ∙ ap (λ ws. slice_index ws i) h.walk.sized.guess ∙ take_index (length f.pipe.start) i f.widths l

coming_width : (c : Circuit) (f : Form) (nexts : List Signal) (x : Earlier) (j : ℕ) (i : Item) → IsEarlier c f nexts x
    → j < earlier_count x → IsItem f i → (ended_item (earlier_views c x j) i).width ≡ item_width f nexts i
coming_width c f nexts x j i h l item =
    let some = some_stage x.stages.now j l in
    let s = some.0 in
    ap (λ (v : View). (ended_item v i).width) (view_at c x.stages.now j s l some.1)
    ∙ ended_width c f nexts s i (each_at (IsEnded c f nexts) x.stages.now j s l some.1 h.ended) item

-- a net with which all stages that lead here end for an item has the item's width
pub common_width : (c : Circuit) (f : Form) (nexts : List Signal) (x : Earlier) (i : Item) (net : Net)
    → IsEarlier c f nexts x → IsItem f i → IsCommonNet c (earlier_views c x) x.ways.now i net
    → (signal c net).width ≡ item_width f nexts i
common_width c f nexts x i net h item common =
    ap (λ (g : Signal). g.width) (sym (common.same 0 common.some))
    ∙ coming_width c f nexts x (slice_index x.ways.now 0) i h (each_in (λ j. j < length x.stages.now) x.ways.now 0 0 common.some h.low) item

-- a variable that is a twin is as wide
pub twin_width : (c : Circuit) (f : Form) (nexts : List Signal) (e : Earlier) (i x : ℕ) → IsEarlier c f nexts e
    → IsItem f (Guess i) → IsItem f (Var x) → IsTwin f.pipe (earlier_views c e) (earlier_count e) i x
    → slice_index f.widths x ≡ slice_index f.widths i
twin_width c f nexts e i x h guess var twin =
    let js = ways f.pipe (earlier_count e) in
    let j = slice_index js 0 in
    let same = each_in (λ j. ended_item (earlier_views c e j) (Guess i) ≡ ended_item (earlier_views c e j) (Var x)) js 0 0 twin.some twin.same in
    let low = each_in (λ j. j < length e.stages.now) js 0 0 twin.some (subst (Each (λ j. j < length e.stages.now)) h.ways h.low) in
    sym (coming_width c f nexts e j (Var x) h low var) ∙ ap (λ (g : Signal). g.width) (sym same) ∙ coming_width c f nexts e j (Guess i) h low guess

-- what holds at each place of a list of numbers holds of each number in it
pub each_from : (P : ℕ → Type 0) (js : List ℕ) → ((k : ℕ) → k < length js → P (slice_index js k)) → Each P js
each_from P [] h = tt
each_from P (j ∷ js) h = (h 0 (omega arith), each_from P js (λ k l. h (suc k) (omega (arith, l))))

-- an item with which all stages that lead here end alike is settled, where no answer comes for it
pub common_settled : (c : Circuit) (p : Pipe) (us : ℕ → View) (k : ℕ) (js : List ℕ) (i : Item) (net : Net)
    → 0 < k → js ≡ ways p k → is_answered p k i ≡ false → IsCommonNet c us js i net → IsSettled p us k i (signal c net)
common_settled c p us zero js i net l is un h = absurd (omega (arith, l))
common_settled c p us (suc k) js i net l is un h = record {
  constant = h.constant;
  same = subst (Each (λ j. ended_item (us j) i ≡ signal c net)) is (each_from (λ j. ended_item (us j) i ≡ signal c net) js h.same);
  unanswered = un;
}

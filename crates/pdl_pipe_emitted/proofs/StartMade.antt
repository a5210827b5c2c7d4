-- At the start the first stage of a line holds the first thread's arguments, and no location is marked.
use Rattle.std.proofs.Common.{◌≡◌, ℕ, ◌-◌, ◌<◌, true, inl, inr, List, length, sym, subst, arith}
use Rattle.std.specs.Prelude.{slice_index}
use Rattle.std.proofs.lemmas.List.{get_or_past}
use Rattle.pdl_semantics.specs.Flat.{Pipe, start_env}
use Rattle.pdl_form.specs.Form.{Form}
use Rattle.pdl_net.specs.Circuit.{Circuit}
use Rattle.pdl_net.specs.Signal.{Signal, const_signal, reg_signal}
use Rattle.pdl_net.specs.Growth.{Keeps}
use Rattle.pdl_pipe_exprs.specs.Nets.{signals_in}
use Rattle.pdl_port.specs.Laws.{AnswerSignals}
use Rattle.pdl_law_parts.specs.Walk.{Locks}
use Rattle.pdl_law_parts.specs.Views.{View}
use Rattle.pdl_law_parts.specs.Compiled.{StartsAs, IsStart}
use Rattle.pdl_law_parts.proofs.Establish.{starts_const}
use Rattle.pdl_law_parts.proofs.FirstState.{padded_at}
use Rattle.pdl_pipe_registers.specs.declared.nets.Item.{Item}
use Rattle.pdl_pipe_registers.specs.declared.nets.Item.TheVariants.{Var, Mark, Ticket, Guess}
use Rattle.pdl_pipe_registers.specs.declared.nets.StageNets.{StageNets}
use Rattle.pdl_pipe_registers.specs.Items.{item_at, item_width, first_value, is_needed, kept_item, IsZero}
use Rattle.pdl_pipe_registers.specs.Stages.{reg_of, view_in, views_in, IsBegunBy, IsSettled, IsSpared}
use Rattle.pdl_pipe_registers.specs.Staged.{IsStaged}
use Rattle.pdl_pipe_registers.proofs.Lists.{view_at, some_stage}
use Rattle.pdl_pipe_nexts.specs.declared.line.StageLine.{StageLine}
use Rattle.pdl_pipe_nexts.specs.Lines.{line_form, line_pipe, line_views}
use Rattle.pdl_pipe_emitted.specs.MadeLine.{BeginsFirst, IsLineMade}
use Rattle.pdl_pipe_emitted.proofs.LineGrowth.{made_keep}
use Rattle.pdl_pipe_emitted.proofs.StageMade.{starts_at}

starts_zero : (d : Circuit) (p : Pipe) (i : Item) (g : Signal) → IsZero p i g → StartsAs d g (first_value p 0 i)
starts_zero d p (Var x) g h =
    let const = h.1 in
    subst (λ (y : Signal). StartsAs d y (slice_index p.start x)) (sym const.1)
    (subst (StartsAs d (const_signal const.0 0)) (sym (get_or_past p.start x 0 h.0)) (starts_const d const.0 0))
starts_zero d p (Mark k m v) g h = subst (λ (y : Signal). StartsAs d y 0) (sym h) (starts_const d 1 0)
starts_zero d p (Ticket m) g h = subst (λ (y : Signal). StartsAs d y 0) (sym h) (starts_const d 1 0)
starts_zero d p (Guess i) g h = subst (λ (y : Signal). StartsAs d y 0) (sym h.1) (starts_const d h.0 0)

-- in stage 0 nothing is as a variable
first_settled : (p : Pipe) (us : ℕ → View) (vars : List Signal) (i : Item) (g : Signal) → IsSpared p us 0 vars i g → IsSettled p us 0 i g
first_settled p us vars (Var x) g h = h
first_settled p us vars (Mark k m v) g h = h
first_settled p us vars (Ticket m) g h = h
first_settled p us vars (Guess i) g (inl h) = h
first_settled p us vars (Guess i) g (inr h) = let l = h.twin.later in absurd (omega (arith, l))

module _ (c d : Circuit) (f : Form) (nexts : List Signal) (answers : ℕ → ℕ → AnswerSignals) (ls : Locks)
    (ss : List StageNets) (keeps : Keeps c d) (s : StageNets) (st : IsStaged c f nexts answers ls ss 0 s) where
  starts_item : (i : Item) → is_needed f.pipe 0 i ≡ true → StartsAs d (kept_item (view_in c s) i) (first_value f.pipe 0 i)
  starts_item i need = by (st.kept i need)
    where
      by : IsBegunBy f nexts s.regs i (kept_item (view_in c s) i) (IsSpared f.pipe (views_in c ss) 0 (signals_in c s.vars) i)
          → StartsAs d (kept_item (view_in c s) i) (first_value f.pipe 0 i)
      by (inr h) =
          starts_zero d f.pipe i (kept_item (view_in c s) i) (first_settled f.pipe (views_in c ss) (signals_in c s.vars) i (kept_item (view_in c s) i) h)
      by (inl h) =
          let j = h.0 in
          let l : j < length s.regs.items = h.1 in
          let same : item_at s.regs.items j ≡ i = h.2 in
          let reg : kept_item (view_in c s) i ≡ reg_signal (item_width f nexts i) (reg_of s.regs j) = h.3 in
          subst (λ (y : Signal). StartsAs d y (first_value f.pipe 0 i)) (sym reg)
          (subst (λ (y : Item). StartsAs d (reg_signal (item_width f nexts y) (reg_of s.regs j)) (first_value f.pipe 0 y)) same
          (starts_at c d keeps (item_width f nexts (item_at s.regs.items j)) (reg_of s.regs j)
          (first_value f.pipe 0 (item_at s.regs.items j)) (st.registers.kept j l)))

-- a line that was made starts as the law of the netlist asks, where threads begin in the first stage
pub is_start : (a c d : Circuit) (x : StageLine) (nexts : List Signal) (answers : ℕ → ℕ → AnswerSignals) (ls : Locks)
    → BeginsFirst (line_pipe x) → IsLineMade a c d x nexts answers ls → IsStart (line_pipe x) d (line_views c x)
is_start a c d x nexts answers ls begins made =
    let p = line_pipe x in
    let ss = x.stages.now in
    let low : 0 < length ss = (let some = begins.some in let count = made.line.count in omega (arith, some, count)) in
    let some = some_stage ss 0 low in
    let s = some.0 in
    let here : line_views c x 0 ≡ view_in c s = view_at c ss 0 s low some.1 in
    let st = made_keep (line_form x) nexts answers ls ss a c made.before made.staged 0 s low some.1 in
    record {
      long = begins.params;
      vars = λ y need. subst (λ (u : View). StartsAs d (u.kept y) (slice_index (start_env p p.start) y)) (sym here)
          (subst (StartsAs d (kept_item (view_in c s) (Var y))) (sym (padded_at p.start (p.vars - length p.start) y))
          (starts_item c d (line_form x) nexts answers ls ss made.after s st (Var y) need));
      marks =
          λ k m v need. subst (λ (u : View). StartsAs d (u.begun.marks k m v) 0) (sym here)
          (starts_item c d (line_form x) nexts answers ls ss made.after s st (Mark k m v) need);
    }

-- What is known of a walk's nets stays while the circuit grows.
use Rattle.std.proofs.Common.{◌≡◌, ℕ, ◌<◌, ◌^◌, List, length, sym, ap, ◌∙◌, subst, arith}
use Rattle.pdl_semantics.specs.Flat.{Guard, Pipe, Expr}
use Rattle.pdl_semantics.specs.Stages.{mem_at}
use Rattle.pdl_net.specs.declared.Net.{Net}
use Rattle.pdl_net.specs.Circuit.{Circuit}
use Rattle.pdl_net.specs.Signal.{Signal}
use Rattle.pdl_net.specs.Meaning.{signal, Means}
use Rattle.pdl_net.specs.Growth.{Extends}
use Rattle.pdl_net.proofs.Keeps.{extends_keeps}
use Rattle.pdl_pipe_exprs.specs.Nets.{NetsThere, signals_in, signal_at, widths_of}
use Rattle.pdl_form_types.specs.Exprs.{IsTyped, AreTyped, width_in}
use Rattle.pdl_pipe_exprs.specs.Values.{value_signal, value_signals}
use Rattle.pdl_pipe_exprs.proofs.NetLists.{nets_there, nets_kept, length_signals}
use Rattle.pdl_pipe_exprs.proofs.Operands.{value_width}
use Rattle.pdl_pipe_walk.specs.declared.nets.WalkNets.{WalkNets}
use Rattle.pdl_pipe_walk.specs.Parts.{parts_in, IsThereWalk}
use Rattle.pdl_pipe_walk.specs.Sized.{IsWalk}
use Rattle.pdl_form_types.specs.Stmts.{AreGuards, IsLocation, AreArguments}
use Rattle.pdl_pipe_walk.proofs.Arguments.{arguments_typed, arguments_wide}
use Rattle.pdl_pipe_walk.proofs.NetGrowth.{there_walk, walk_keep, var_width, var_count, parts_keep}

module _ (a b : Circuit) (e : Extends a b) (p : Pipe) (ws : List ℕ) (w : WalkNets) (h : IsWalk a p ws w) where
  -- the nets of the walk stay there, with their widths
  pub walk_more : IsWalk b p ws w
  walk_more = walk_keep a b (extends_keeps a b e) p ws w h

  -- the nets of the walk stay there
  pub there_more : IsThereWalk b w
  there_more = there_walk a b (extends_keeps a b e) w h.there

  -- the nets of the walk mean what they meant
  pub parts_more : parts_in b w ≡ parts_in a w
  parts_more = parts_keep a b (extends_keeps a b e) w h.there

  -- the nets of the variables stay there
  pub vars_more : NetsThere b w.vars.items
  vars_more = nets_there a b w.vars.items e h.there.vars

  -- the nets of the variables mean what they meant
  pub vars_same : signals_in b w.vars.items ≡ signals_in a w.vars.items
  vars_same = nets_kept a b w.vars.items e h.there.vars

  -- the nets of the variables have their widths
  pub widths_more : widths_of (signals_in b w.vars.items) ≡ ws
  widths_more = ap widths_of vars_same ∙ h.sized.vars

-- the slice of a walk's variables
module _ (c : Circuit) (p : Pipe) (ws : List ℕ) (w : WalkNets) (h : IsWalk c p ws w) (vs : List Net) (e : vs ≡ w.vars.items) where
  -- the nets of the slice are there
  pub slice_there : NetsThere c vs
  slice_there = subst (NetsThere c) (sym e) h.there.vars

  -- the nets of the slice mean what those of the variables mean
  pub slice_same : signals_in c vs ≡ signals_in c w.vars.items
  slice_same = ap (signals_in c) e

  slice_widths : widths_of (signals_in c vs) ≡ ws
  slice_widths = ap widths_of slice_same ∙ h.sized.vars

  -- the slice has a net for each variable
  pub slice_low : (x : ℕ) → x < length ws → x < length vs
  slice_low x l = omega (arith, l, ap length e, var_count p ws (parts_in c w) h.sized, length_signals c w.vars.items)

  -- guards that go by variables of 1 bit go by nets of 1 bit
  pub slice_guards : (gs : List Guard) → AreGuards ws gs → AreGuards (widths_of (signals_in c vs)) gs
  slice_guards gs t = subst (λ l. AreGuards l gs) (sym slice_widths) t

  -- a value that is typed by the variables' widths is typed by those of the nets
  pub slice_typed : (v : Expr) → IsTyped ws v → IsTyped (widths_of (signals_in c vs)) v
  slice_typed v t = subst (λ l. IsTyped l v) (sym slice_widths) t

  -- arguments that are typed by the variables' widths are typed by those of the nets
  pub slice_all_typed : (ns : List ℕ) (es : List Expr) → AreArguments ws ns es → AreTyped (widths_of (signals_in c vs)) es
  slice_all_typed ns es t = subst (λ l. AreTyped l es) (sym slice_widths) (arguments_typed ws ns es t)

  -- a typed value and arguments have their widths
  pub slice_wide : (d : Circuit) (v : Expr) (n : Net) → IsTyped ws v → Means d n (value_signal (signals_in c vs) v) → (signal d n).width ≡ width_in ws v
  slice_wide d v n t m = ap (λ (f : Signal). f.width) m.same ∙ value_width (signals_in c vs) v (slice_typed v t) ∙ ap (λ l. width_in l v) slice_widths

  -- the signals of the arguments' values have the parameters' widths
  pub slice_all_wide : (ns : List ℕ) (es : List Expr) (fs : List Signal) → AreArguments ws ns es → fs ≡ value_signals (signals_in c vs) es → widths_of fs ≡ ns
  slice_all_wide ns es fs t q = ap widths_of q ∙ arguments_wide (signals_in c vs) ns es (subst (λ l. AreArguments l ns es) (sym slice_widths) t)

-- a location's address reaches each word and no more
pub reach_at : (c : Circuit) (p : Pipe) (ws : List ℕ) (w : WalkNets) (h : IsWalk c p ws w) (m a : ℕ) (n : Net) (f : Signal)
    → IsLocation p ws m a → f ≡ signal_at (signals_in c w.vars.items) a → 2 ^ f.width ≡ (mem_at p m).depth
reach_at c p ws w h m a n f at q = ap (λ (g : Signal). 2 ^ g.width) q ∙ ap (λ n. 2 ^ n) (var_width p ws (parts_in c w) a h.sized) ∙ at.reach

-- the nets of a walk have one for each variable
pub var_low : (c : Circuit) (p : Pipe) (ws : List ℕ) (w : WalkNets) (h : IsWalk c p ws w) (x : ℕ) → x < length ws → x < length w.vars.items
var_low c p ws w h x l = omega (arith, l, var_count p ws (parts_in c w) h.sized, length_signals c w.vars.items)

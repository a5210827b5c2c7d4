-- What a cycle makes of what the program holds.
use Rattle.std.proofs.Common.{◌≡◌, refl, sym, ap, ◌∙◌, subst, ℕ, suc, ◌<◌, ◌≤◌, Bool, if◌then◌else◌, ◌==◌, List, [], ◌∷◌, ◌++◌, map, Option, Some, None, is_some, length, get_or, arith, append_assoc}
use Rattle.std.specs.Prelude.{IfSome, vec_capacity}
use Rattle.std.proofs.Math.ListN.{get_or-map}
use Rattle.std.proofs.lemmas.List.{length-map}
use Rattle.pdl_word.specs.Words.{bit}
use Rattle.pdl_semantics.specs.Flat.{Pipe}
use Rattle.pdl_semantics.specs.Machine.{Thread, Request}
use Rattle.pdl_semantics.specs.Moves.{Act, all_acts}
use Rattle.pdl_semantics.specs.Cycle.{or_then, if_kept, born_thread, child_of, squasher, next_thread, cycle}
use Rattle.pdl_semantics.specs.Cycle as stated
use Rattle.pdl_machine_facts.specs.Ports.{stage_values, whole_values}
use Rattle.pdl_form.specs.Form.{Form}
use Rattle.pdl_machine_run.specs.declared.stage.ThreadSlot as r_slot
use Rattle.pdl_machine_run.specs.declared.stage.Stage as r_stage
use Rattle.pdl_machine_run.specs.declared.deeds.Deeds as r_deeds
use Rattle.pdl_machine_run.specs.declared.beside.Beside as r_beside
use Rattle.pdl_machine_run.specs.declared.beside.Order as r_order
use Rattle.pdl_machine_run.specs.View.{thread_in, seats, deeds_view, request_view, order_views}
use Rattle.pdl_machine_run.specs.Outside.{state_of}
use Rattle.pdl_machine_run.specs.Typed.{IsFine, AreFit}
use Rattle.pdl_machine_run.specs.Acts.{acts_of, all_of, are_held, are_moving, IsCarried, AreDecided, one_ends, memories_after, commits_shown}
use Rattle.pdl_machine_run.specs.Orders.{order_after, orders_after}
use Rattle.pdl_machine_run.specs.Requests.{requests_after, requests_shown}
use Rattle.pdl_machine_run.specs.Advice.{after_all_writes}
use Rattle.pdl_machine_run.specs.Ready.{IsWide, IsStage, AreStages, AreOrders, AllCanStep, HasAwaits}
use Rattle.pdl_machine_run.specs.Running.{IsRunnable, IsReached, IsBeside, AreRoomy, AreReady}
use Rattle.pdl_machine_run.proofs.MachineCycles.{next_state, next_ports}
use Rattle.pdl_machine_run.proofs.ThreadInvariants.{born_fine, args_room, child_fits, stage_fine, awaits_room}
use Rattle.pdl_machine_run.proofs.ActedThreads.{AllActed, AllSized}
use Rattle.pdl_machine_run.proofs.AdvisedMemories.{all_roomy, all_arrays}
use Rattle.pdl_machine_run.proofs.Roomy.{acted, sized, can_step, within, roomy_after, orders_room}

-- stages with the threads of these, which have acted and of which it is decided who moves
pub record Turn (f : Form) (b : r_beside.Beside) (bits : List Bool) (next : ℕ) (ys zs : List r_stage.Stage) : Type 0 where
  pub run : IsRunnable f
  pub beside : IsBeside f.pipe b
  pub count : length ys ≡ length f.pipe.stages
  pub long : length ys ≡ length zs
  pub carried : (i : ℕ) (d : r_stage.Stage) → i < length ys → IsCarried f b bits i (thread_in (get_or ys i d).slot) (get_or zs i d)
  pub decided : AreDecided f.pipe b bits 0 zs
  pub reached : IsReached f.pipe (state_of (seats ys) b next)
  pub wide : AreStages f zs

same_carried : (f : Form) (b : r_beside.Beside) (bits : List Bool) (k : ℕ) (o : Option Thread) (x z : r_stage.Stage)
    → z.slot ≡ x.slot → z.deeds ≡ x.deeds → IsCarried f b bits k o x → IsCarried f b bits k o z
same_carried f b bits k None x z e g h = ap (λ (s : r_slot.ThreadSlot). s.number) e ∙ h
same_carried f b bits k (Some t) x z e g h =
    let does : deeds_view z.deeds ≡ deeds_view x.deeds = ap (λ (r : r_deeds.Deeds). deeds_view r) g in
    (ap (λ (s : r_slot.ThreadSlot). thread_in s) e ∙ h.0, does ∙ h.1, h.2, subst (AreFit f) (sym does) h.3)

same_stage : (f : Form) (x z : r_stage.Stage) → z.slot ≡ x.slot → z.deeds ≡ x.deeds → IsStage f x → IsStage f z
same_stage f x z e g h =
    subst (λ (s : r_slot.ThreadSlot). IsStage f (record { slot = s; deeds = z.deeds; moves = z.moves })) (sym e)
    (subst (λ (r : r_deeds.Deeds). IsStage f (record { slot = x.slot; deeds = r; moves = z.moves })) (sym g)
    (record { slot = h.slot; count = h.count; deeds = h.deeds }))

same_at : {Y : Type 0} (view : r_stage.Stage → Y) (xs zs : List r_stage.Stage)
    → map view zs ≡ map view xs → (i : ℕ) (d : r_stage.Stage) → view (get_or zs i d) ≡ view (get_or xs i d)
same_at {Y} view xs zs e i d = sym (get_or-map view zs i d) ∙ ap (λ (l : List Y). get_or l i (view d)) e ∙ get_or-map view xs i d

-- a turn of ready stages: their threads are carried on, and it is decided who moves
pub turn_of : (f : Form) → IsRunnable f
    → (b : r_beside.Beside) (bits : List Bool) (next : ℕ) (ys xs zs : List r_stage.Stage) → AreReady f ys
    → IsBeside f.pipe b → IsReached f.pipe (state_of (seats ys) b next) → length xs ≡ length ys → length zs ≡ length xs
    → ((i : ℕ) (d : r_stage.Stage) → i < length ys → IsCarried f b bits i (thread_in (get_or ys i d).slot) (get_or xs i d))
    → AreStages f xs → map (λ (x : r_stage.Stage). x.slot) zs ≡ map (λ (x : r_stage.Stage). x.slot) xs
    → map (λ (x : r_stage.Stage). x.deeds) zs ≡ map (λ (x : r_stage.Stage). x.deeds) xs → AreDecided f.pipe b bits 0 zs
    → Turn f b bits next ys zs
turn_of f run b bits next ys xs zs ready beside reached n m carried wide slots deeds decided =
    record {
      run = run;
      beside = beside;
      count = ready.count;
      long = sym n ∙ sym m;
      carried = λ i d less.
          same_carried f b bits i (thread_in (get_or ys i d).slot) (get_or xs i d) (get_or zs i d)
          (same_at (λ (x : r_stage.Stage). x.slot) xs zs slots i d)
          (same_at (λ (x : r_stage.Stage). x.deeds) xs zs deeds i d) (carried i d less);
      decided = decided;
      reached = reached;
      wide =
          λ k d less. same_stage f (get_or xs k d) (get_or zs k d)
          (same_at (λ (x : r_stage.Stage). x.slot) xs zs slots k d)
          (same_at (λ (x : r_stage.Stage). x.deeds) xs zs deeds k d) (wide k d (omega (arith, less, m)));
    }

requests_count : (p : Pipe) (bits : List Bool) (ms : List Act) (sq : Option ℕ) (m : ℕ) (rs : List Request)
    → length (requests_after p bits ms sq m rs) ≡ length rs
requests_count p bits ms sq m [] = refl
requests_count p bits ms sq m (r ∷ rs) = ap suc (requests_count p bits ms sq (suc m) rs)

orders_count : (p : Pipe) (ms : List Act) (k : ℕ) (ls : List (List Bool)) → length (orders_after p ms k ls) ≡ length ls
orders_count p ms k [] = refl
orders_count p ms k (l ∷ ls) = ap suc (orders_count p ms (suc k) ls)

module _ (f : Form) (b : r_beside.Beside) (bits : List Bool) (next : ℕ) (ys zs : List r_stage.Stage) (t : Turn f b bits next ys zs) where
  -- the pipe of the form
  abbrev pub p : Pipe
  p = f.pipe

  -- the acts of those who move
  abbrev pub ms : List Act
  ms = acts_of 0 zs

  -- WHAT THE STEPS TAKE

  -- each memory can take what the acts do to it
  pub turn_steps : AllCanStep 0 ms b.memories.items
  turn_steps = can_step f t.run b bits next ys zs t.beside t.count t.long t.carried t.decided t.reached

  -- each fork's order has room for the branches of the threads that are inside after the cycle
  pub turn_orders : (sq : Option ℕ) → sq ≡ squasher ms → (i : ℕ) (d : r_order.Order) → i < length b.orders.items
      → length (order_after p ms i (get_or b.orders.items i d).branches.items) ≤ vec_capacity (get_or b.orders.items i d).branches
  turn_orders sq e = orders_room f t.run b bits next ys zs t.beside t.count t.long t.carried t.decided t.reached sq e

  turn_acted : AllActed f 0 zs
  turn_acted = acted f t.run b bits next ys zs t.beside t.count t.long t.carried t.decided t.reached

  turn_sized : AllSized p ms
  turn_sized = sized f t.run b bits next ys zs t.beside t.count t.long t.carried t.decided t.reached

  -- a slot that is wide enough has as many values as the new thread has arguments, or more
  pub turn_child : (way : r_slot.ThreadSlot) → IsWide f way → IfSome (child_of ms) (λ args. length args ≤ length way.values.items)
  turn_child way w = args_room f t.run.typed.vars (child_of ms) (length way.values.items) (sym w.count) (child_fits f 0 zs turn_acted)

  -- each stage has room for what the thread that moves out of it asks for
  pub turn_awaits : (k : ℕ) (d : r_stage.Stage) → k < length zs → HasAwaits (get_or zs k d)
  turn_awaits k d less = awaits_room f zs k d turn_acted less (t.wide k d less)

  -- WHAT COMES OF IT

  -- what is shown of stages, commits, requests, the end and the squash are the stated ports
  pub turn_ports : (sq : Option ℕ) → sq ≡ squasher ms
      → stage_values (are_held zs) (are_moving zs)
      ++ (commits_shown b.twice.items 0 ms b.memories.items ++ (requests_shown 0 ms p.mems ++ bit (one_ends p ms) ∷ bit (is_some sq) ∷ []))
      ≡ whole_values p (stated.ports p (state_of (seats ys) b next) (all_acts p (state_of (seats ys) b next) bits))
  turn_ports sq e = next_ports f b bits next ys zs t.beside t.count t.long t.carried t.decided sq e

  module _ (sq : Option ℕ) (squashed : sq ≡ squasher ms) (news : List r_stage.Stage) (born : Option Thread)
      (bears : born ≡ born_thread p next (child_of ms)) (same : length news ≡ length zs)
      (threads : (q : ℕ) (d : r_stage.Stage) → q < length zs
      → thread_in (get_or news q d).slot ≡ or_then (if q == 0 then born else None) (if_kept sq (next_thread p q (all_of 0 zs)))) where
    -- the stages after the cycle are ready, where they are wide enough
    pub turn_ready : AreStages f news → AreReady f news
    turn_ready wide =
        record {
          count = same ∙ sym t.long ∙ t.count;
          wide = wide;
          fine = λ k d less.
              subst (λ (o : Option Thread). IfSome o (IsFine f k)) (sym (threads k d (omega (arith, less, same))))
              (stage_fine f t.run.leads k sq born zs (omega (arith, t.long, t.count)) turn_acted
              (subst (λ (o : Option Thread). IfSome o (IsFine f 0)) (sym bears)
              (born_fine f t.run.typed.vars next (child_of ms) (child_fits f 0 zs turn_acted))));
        }

    module _ (c : r_beside.Beside) (twice : c.twice.items ≡ b.twice.items)
        (memories : c.memories.items ≡ after_all_writes ms (memories_after 0 ms sq b.memories.items))
        (orders : order_views c.orders.items ≡ orders_after p ms 0 (order_views b.orders.items))
        (requests : map request_view c.requests.items ≡ requests_after p bits ms sq 0 (map request_view b.requests.items)) where
      turn_roomy : AreRoomy p (memories_after 0 ms sq b.memories.items)
      turn_roomy = roomy_after f t.run b bits next ys zs t.beside t.count t.long t.carried t.decided t.reached sq squashed

      -- what the program holds after the cycle is the stated state after it
      pub turn_state : (called : Bool) → called ≡ is_some (child_of ms)
          → state_of (seats news) c (if called then suc next else next) ≡ cycle p (state_of (seats ys) b next) bits
      turn_state called calls =
          next_state f b bits next ys zs t.beside t.count t.long t.carried t.decided news c called sq born same squashed bears calls
          (within f t.run b bits next ys zs t.beside t.count t.long t.carried t.decided t.reached)
          (all_arrays p ms (memories_after 0 ms sq b.memories.items) turn_sized turn_roomy) threads memories orders requests

      -- what stands beside the stages has room for the next cycle, where the orders of forks have
      pub turn_beside : AreOrders (length p.stages) c.orders.items → IsBeside p c
      turn_beside long =
          let rs = ap (λ (l : List Request). length l) requests in
          let ra = length-map c.requests.items request_view in
          let rb = length-map b.requests.items request_view in
          let rc = requests_count p bits ms sq 0 (map request_view b.requests.items) in
          let os = ap (λ (l : List (List Bool)). length l) orders in
          let oa = length-map c.orders.items (λ (o : r_order.Order). o.branches.items) in
          let ob = length-map b.orders.items (λ (o : r_order.Order). o.branches.items) in
          let oc = orders_count p ms 0 (order_views b.orders.items) in
          let wr = t.beside.requests in
          let wo = t.beside.orders in
          record {
            roomy = subst (AreRoomy p) (sym memories) (all_roomy p ms (memories_after 0 ms sq b.memories.items) turn_sized turn_roomy);
            twice = twice ∙ t.beside.twice;
            requests = omega (arith, rs, ra, rb, rc, wr);
            orders = omega (arith, os, oa, ob, oc, wo);
            long = long;
          }

-- four lists of values one after the other are one list, however they are joined
pub shown_all : (a b c d : List ℕ) (all : List ℕ) → all ≡ (a ++ (b ++ c)) ++ d → all ≡ a ++ (b ++ (c ++ d))
shown_all a b c d all e = e ∙ append_assoc a (b ++ c) d ∙ ap (λ (l : List ℕ). a ++ l) (append_assoc b c d)

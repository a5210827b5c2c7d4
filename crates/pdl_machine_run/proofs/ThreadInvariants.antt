-- What holds of the threads before a cycle holds after it.
use Rattle.std.proofs.Common.{◌≡◌, refl, sym, ap, subst, ℕ, zero, suc, ◌+◌, ◌-◌, ◌^◌, ◌<◌, ◌≤◌, Bool, true, false, ◌==◌, if◌then◌else◌, List, [], ◌∷◌, ◌++◌, Option, Some, None, is_some, length, length-append, take, replicate, slice_index, get_or, arith}
use Rattle.std.specs.Prelude.{IfSome, vec_len, vec_capacity}
use Rattle.std.proofs.lemmas.List.{length-replicate, length-map}
use Rattle.std.proofs.lemmas.Nat.{pow_pos}
use Rattle.std.proofs.lemmas.Bool.{eqb-true}
use Rattle.pdl_semantics.specs.Flat.{start_env}
use Rattle.pdl_semantics.specs.Machine.{Thread, Ask, Deeds}
use Rattle.pdl_semantics.specs.Moves.{Act, next_stage}
use Rattle.pdl_semantics.specs.Cycle.{is_stage, child_of, born_thread, awaited_of, thread_after, coming_thread, next_thread, or_then, if_kept, is_kept}
use Rattle.pdl_machine_facts.specs.Slots.{LeadsOn}
use Rattle.pdl_form.specs.Form.{Form}
use Rattle.pdl_form_values.specs.Widths.{Fit}
use Rattle.pdl_form_types.specs.Stmts.{param_widths}
use Rattle.pdl_word.proofs.Lists.{take_few}
use Rattle.pdl_machine_run.specs.declared.stage.Stage as r_stage
use Rattle.pdl_machine_run.specs.View.{deeds_view, ask_view, thread_of}
use Rattle.pdl_machine_run.specs.Typed.{AreAsked, AreAwaited, IsFine, AreFit, count_before}
use Rattle.pdl_machine_run.specs.Acts.{act_here, all_of, act_of, acts_of}
use Rattle.pdl_machine_run.specs.Ready.{IsStage, HasAwaits}
use Rattle.pdl_machine_run.proofs.AdviceCounts.{count_later}
use Rattle.pdl_machine_run.proofs.ActedThreads.{HasActed, AllActed, acted_at}

-- NEW THREADS

args_first : (ws args : List ℕ) (n k : ℕ)
    → ((x : ℕ) → slice_index args x < 2 ^ slice_index (take n ws) x) → length args ≡ length (take n ws) → (x : ℕ)
    → slice_index (args ++ replicate k 0) x < 2 ^ slice_index ws x
args_first ws [] n k h e x = subst (λ v. v < 2 ^ slice_index ws x) (sym (zeros k x)) (pow_pos (slice_index ws x))
  where
    zeros : (k x : ℕ) → slice_index (replicate k 0) x ≡ 0
    zeros zero x = refl
    zeros (suc k) zero = refl
    zeros (suc k) (suc x) = zeros k x
args_first [] (a ∷ args) zero k h e x = absurd (omega arith)
args_first [] (a ∷ args) (suc n) k h e x = absurd (omega arith)
args_first (w ∷ ws) (a ∷ args) zero k h e x = absurd (omega arith)
args_first (w ∷ ws) (a ∷ args) (suc n) k h e zero = h 0
args_first (w ∷ ws) (a ∷ args) (suc n) k h e (suc x) = args_first ws args n k (λ i. h (suc i)) (omega arith) x

module _ (f : Form) (vars : f.pipe.vars ≡ length f.widths) where
  -- arguments of the parameters' widths are no more than there are variables
  pub args_few : (args : List ℕ) → Fit (param_widths f) args → length args ≤ length f.widths
  args_few args h = let same = h.count in let few = take_few (length f.pipe.start) f.widths in omega arith

  -- the values of a new thread, with arguments of the parameters' widths, have the widths of their variables
  pub start_fits : (args : List ℕ) → Fit (param_widths f) args → Fit f.widths (start_env f.pipe args)
  start_fits args h =
      let few = args_few args h in
      let none : List ℕ = replicate (f.pipe.vars - length args) 0 in
      let long : length (args ++ none) ≡ length args + length none = length-append args none in
      let zeros : length none ≡ f.pipe.vars - length args = length-replicate (f.pipe.vars - length args) 0 in
      record {
        count = omega arith;
        below = args_first f.widths args (length f.pipe.start) (f.pipe.vars - length args) h.below h.count;
      }

  -- a new thread with arguments of the parameters' widths is fine
  pub born_fine : (n : ℕ) (c : Option (List ℕ)) → IfSome c (λ args. Fit (param_widths f) args) → IfSome (born_thread f.pipe n c) (IsFine f 0)
  born_fine n None h = tt
  born_fine n (Some args) h =
      record {
        env = start_fits args h;
        advice = tt;
        advised = omega arith;
        guess = omega arith;
        awaits = tt;
        kept = tt;
        few = omega arith;
      }

  -- the arguments of a new thread, of the parameters' widths, are no more than there are variables
  pub args_room : (c : Option (List ℕ)) (n : ℕ) → length f.widths ≡ n → IfSome c (λ args. Fit (param_widths f) args) → IfSome c (λ args. length args ≤ n)
  args_room None n e h = tt
  args_room (Some args) n e h = let few = args_few args h in omega (arith, few, e)

module _ (f : Form) where
  child_here : (c later : Option (List ℕ)) → IfSome c (λ args. Fit (param_widths f) args)
      → IfSome later (λ args. Fit (param_widths f) args)
      → IfSome (if is_some c then c else later) (λ args. Fit (param_widths f) args)
  child_here None later h g = g
  child_here (Some args) later h g = h

  child_one : (k : ℕ) (z : r_stage.Stage) (o : Option ℕ) (b : Bool) (more : List Act) → HasActed f k o z
      → IfSome (child_of more) (λ args. Fit (param_widths f) args)
      → IfSome (child_of (act_of k (if b then o else None) z ++ more)) (λ args. Fit (param_widths f) args)
  child_one k z o false more done h = h
  child_one k z None true more done h = h
  child_one k z (Some n) true more done h = child_here (deeds_view z.deeds).child (child_of more) done.1.child h

  -- where the threads in the stages fit, and so does what they do, the new thread's arguments have the parameters' widths
  pub child_fits : (k : ℕ) (zs : List r_stage.Stage) → AllActed f k zs → IfSome (child_of (acts_of k zs)) (λ args. Fit (param_widths f) args)
  child_fits k [] done = tt
  child_fits k (z ∷ zs) done = child_one k z z.slot.number z.moves (acts_of (suc k) zs) done.0 (child_fits (suc k) zs done.1)

  -- WHO STANDS THERE AFTERWARDS

  abbrev Fine : ℕ → Option Thread → Type 0
  Fine q o = IfSome o (IsFine f q)

  awaited_fit : (qs : List Ask) → AreAsked f qs → AreAwaited f (awaited_of qs)
  awaited_fit [] h = tt
  awaited_fit (q ∷ qs) h = (h.0, awaited_fit qs h.1)

  awaited_count : (qs : List Ask) → length (awaited_of qs) ≡ length qs
  awaited_count [] = refl
  awaited_count (q ∷ qs) = ap suc (awaited_count qs)

  after_fine : (q : ℕ) (a : Act) → a.stage < q → AreFit f a.does → length a.does.asks ≤ length f.pipe.stmts
      → length a.does.advice ≤ count_before (suc a.stage) f.pipe.stmts → IsFine f q (thread_after a)
  after_fine q a up h few advised =
      let count = awaited_count a.does.asks in
      let later = count_later (suc a.stage) q f.pipe.stmts (omega arith) in
      record {
        env = h.env;
        advice = h.advice;
        advised = omega (arith, advised, later);
        guess = h.guess;
        awaits = awaited_fit a.does.asks h.asks;
        kept = tt;
        few = omega (arith, count, few);
      }

  or_fine : (q : ℕ) (a b : Option Thread) → Fine q a → Fine q b → Fine q (or_then a b)
  or_fine q None b h g = g
  or_fine q (Some t) b h g = h

  if_fine : (q : ℕ) (b : Bool) (t : Thread) → (b ≡ true → IsFine f q t) → Fine q (if b then Some t else None)
  if_fine q true t h = h refl
  if_fine q false t h = tt

  next_later : (leads : LeadsOn f.pipe) (q k : ℕ) (d : Deeds) → k < length f.pipe.stages → is_stage q (next_stage f.pipe k d) ≡ true → k < q
  next_later leads q k d less = at (next_stage f.pipe k d) refl
    where
      at : (o : Option ℕ) → next_stage f.pipe k d ≡ o → is_stage q o ≡ true → k < q
      at None e h = absurd (cc h)
      at (Some r) e h = let up = (leads.up k r d.env less e).0 in let same = eqb-true r q h in omega (arith, up, same)

  coming_fine : (leads : LeadsOn f.pipe) (q : ℕ) (a : Act) → a.stage < length f.pipe.stages → IsFine f a.stage a.thread → AreFit f a.does
      → length a.does.asks ≤ length f.pipe.stmts → length a.does.advice ≤ count_before (suc a.stage) f.pipe.stmts → Fine q (coming_thread f.pipe q a)
  coming_fine leads q a less h g few advised = at a.moves
    where
      at : (b : Bool)
          → Fine q
          (if b then (if is_stage q (next_stage f.pipe a.stage a.does) then Some (thread_after a) else None)
          else (if a.stage == q then Some a.thread else None))
      at true =
          if_fine q (is_stage q (next_stage f.pipe a.stage a.does)) (thread_after a)
          (λ e. after_fine q a (next_later leads q a.stage a.does less e) g few advised)
      at false = if_fine q (a.stage == q) a.thread (λ e. subst (λ i. IsFine f i a.thread) (eqb-true a.stage q e) h)

  -- where the threads in the stages fit, and so does what they do, the thread that stands in a stage after all moves is fine
  pub next_fine : LeadsOn f.pipe → (q k : ℕ) (zs : List r_stage.Stage) → k + length zs ≤ length f.pipe.stages → AllActed f k zs
      → Fine q (next_thread f.pipe q (all_of k zs))
  next_fine leads q k [] n h = tt
  next_fine leads q k (z ∷ zs) n h = at z.slot.number h.0 (next_fine leads q (suc k) zs (omega arith) h.1)
    where
      at : (o : Option ℕ) → HasActed f k o z → Fine q (next_thread f.pipe q (all_of (suc k) zs))
          → Fine q (next_thread f.pipe q (act_here k o z ++ all_of (suc k) zs))
      at None d g = g
      at (Some i) d g =
          let a : Act = record { stage = k; thread = thread_of i z.slot; does = deeds_view z.deeds; moves = z.moves } in
          or_fine q (coming_thread f.pipe q a) (next_thread f.pipe q (all_of (suc k) zs)) (coming_fine leads q a (omega arith) d.0 d.1 d.2 d.3) g

  kept_fine : (q : ℕ) (sq : Option ℕ) (o : Option Thread) → Fine q o → Fine q (if_kept sq o)
  kept_fine q sq None h = tt
  kept_fine q sq (Some t) h = if_fine q (is_kept sq t.number) t (λ e. h)

  -- a stage's next thread fits
  pub stage_fine : LeadsOn f.pipe → (q : ℕ) (sq : Option ℕ) (born : Option Thread) (zs : List r_stage.Stage)
      → length zs ≤ length f.pipe.stages → AllActed f 0 zs → Fine 0 born
      → Fine q (or_then (if q == 0 then born else None) (if_kept sq (next_thread f.pipe q (all_of 0 zs))))
  stage_fine leads q sq born zs n h g =
      or_fine q (if q == 0 then born else None) (if_kept sq (next_thread f.pipe q (all_of 0 zs))) (at (q == 0) refl)
      (kept_fine q sq (next_thread f.pipe q (all_of 0 zs)) (next_fine leads q 0 zs (omega arith) h))
    where
      at : (b : Bool) → (q == 0) ≡ b → Fine q (if b then born else None)
      at true e = subst (λ i. Fine i born) (sym (eqb-true q 0 e)) g
      at false e = tt

  -- ROOM

  awaits_if : (k : ℕ) (z : r_stage.Stage) (b : Bool) (o : Option ℕ) → HasActed f k o z → IsStage f z
      → IfSome (if b then o else None) (λ n. vec_len z.deeds.asks ≤ vec_capacity z.slot.awaits)
  awaits_if k z false o h w = tt
  awaits_if k z true None h w = tt
  awaits_if k z true (Some n) h w =
      let few = h.2 in
      let room = w.slot.awaits in
      let long = z.deeds.asks.ok.0 in
      let mapped = length-map z.deeds.asks.items ask_view in
      omega (arith, few, room, long, mapped)

  -- a stage that is wide enough has room for what the thread that moves out of it asks for
  pub awaits_room : (zs : List r_stage.Stage) (k : ℕ) (d : r_stage.Stage) → AllActed f 0 zs → k < length zs
      → IsStage f (get_or zs k d) → HasAwaits (get_or zs k d)
  awaits_room zs k d h less w = awaits_if (0 + k) (get_or zs k d) (get_or zs k d).moves (get_or zs k d).slot.number (acted_at f 0 zs k d h less) w

-- The first state of a compiled netlist stands for the machine's first state.
use Rattle.std.proofs.Common.{◌≡◌, refl, sym, ap, ◌∙◌, subst, ℕ, zero, suc, ◌+◌, ◌-◌, ◌%◌, ◌^◌, ◌==◌, ◌<◌, ◌≤◌, Bool, true, false, List, [], ◌∷◌, ◌++◌, length, map, Some, None, is_some, arith, ⊎_elim, length-append}
use Rattle.std.specs.Prelude.{if◌then◌else◌, slice_index, slice_index_or, replicate}
use Rattle.std.proofs.lemmas.Bool.{cases_lt, ne_eqb}
use Rattle.std.proofs.lemmas.List.{length-replicate}
use Rattle.pdl_word.specs.Words.{bit}
use Rattle.pdl_semantics.specs.Flat as model
use Rattle.pdl_semantics.specs.Flat.{Pipe, start_env}
use Rattle.pdl_semantics.specs.Stages.{mem_at, reserve_stage}
use Rattle.pdl_semantics.specs.Machine as machine
use Rattle.pdl_semantics.specs.Machine.{Thread, Pending, is_held, with_kept}
use Rattle.pdl_semantics.specs.Cycle.{first, born_thread, for_mems}
use Rattle.pdl_net.specs.declared.Reg.{Reg}
use Rattle.pdl_net.specs.Circuit.{Circuit, State}
use Rattle.pdl_net.specs.Signal.{Signal}
use Rattle.pdl_net.specs.Well.{Suits}
use Rattle.pdl_lockapi.specs.Lock.{start}
use Rattle.pdl_lockapi.specs.Forget.{lock_state_of}
use Rattle.pdl_machine_facts.specs.Slots.{slot}
use Rattle.pdl_machine_facts.proofs.StagewisePorts.{at_stage, past_stage}
use Rattle.pdl_law_parts.specs.declared.Mark.TheVariants.{Held}
use Rattle.pdl_law_parts.specs.Lives.{lives_from, mark_from}
use Rattle.pdl_law_parts.specs.Walk.{Locks, is_locked}
use Rattle.pdl_law_parts.specs.Views.{Gates, View}
use Rattle.pdl_law_parts.specs.Advice.{AreAdvised}
use Rattle.pdl_law_parts.specs.Compiled.{IsLaid}
use Rattle.pdl_law_parts.specs.Stands.{IsEnv, IsHolding, StandsLock, StandsFor, IsGuess}
use Rattle.pdl_law_parts.proofs.Comers.{signals_are}
use Rattle.pdl_word.proofs.Lists.{zeros_at}
use Rattle.pdl_semantics.proofs.Facts.{held_first}
use Rattle.pdl_semantics.specs.PendingLists.{count_older}

-- THE IMAGE

-- words with zeros after them have the same word at each place
pub padded_at : (xs : List ℕ) (n i : ℕ) → slice_index (xs ++ replicate n 0) i ≡ slice_index xs i
padded_at [] n i = zeros_at n i
padded_at (x ∷ xs) n zero = refl
padded_at (x ∷ xs) n (suc i) = padded_at xs n i

-- THE MACHINE'S FIRST STATE

none_first : (xs : List model.Mem) (k m : ℕ) → slice_index_or (for_mems {X = List Pending} (λ i. []) k xs) m [] ≡ []
none_first [] k m = refl
none_first (x ∷ xs) k zero = refl
none_first (x ∷ xs) k (suc m) = none_first xs (suc k) m

lock_first : (q : Pipe) (image : model.Arrays) (m : ℕ) → machine.lock_of (first q image) m ≡ []
lock_first q image m = none_first q.mems 0 m

slot_first : (q : Pipe) (image : model.Arrays) (k : ℕ)
    → k < length q.stages → slot (first q image) k ≡ (if k == 0 then born_thread q 1 (Some q.start) else None)
slot_first q image k l = let z : 0 + k ≡ k = omega arith in
    at_stage (λ i. if i == 0 then born_thread q 1 (Some q.start) else None) 0 q.stages k None l
    ∙ ap (λ i. if i == 0 then born_thread q 1 (Some q.start) else None) z

holds_first : (q : Pipe) (b : Bool) → (if b then 1 else 0) ≡ bit (is_some (if b then born_thread q 1 (Some q.start) else None))
holds_first q true = refl
holds_first q false = refl

-- a thread in it is the first one
is_first : (q : Pipe) (image : model.Arrays) (k : ℕ) (u : Thread)
    → slot (first q image) k ≡ Some u
    → (k ≡ 0) × (u.env ≡ start_env q q.start) × (0 < length q.stages) × (u.guess ≡ []) × (u.kept ≡ []) × (u.advice ≡ [])
is_first q image k u e = ⊎_elim
    (λ (l : k < length q.stages). at k l e)
    (λ (l : length q.stages ≤ k). absurd (none_some (sym (past_stage (λ i. if i == 0 then born_thread q 1 (Some q.start) else None) 0 q.stages k None l) ∙ e)))
    (cases_lt k (length q.stages))
  where
    none_some : None ≡ Some u → ⊥
    none_some h = cc h

    at : (k : ℕ) → k < length q.stages → slot (first q image) k ≡ Some u
        → (k ≡ 0) × (u.env ≡ start_env q q.start) × (0 < length q.stages) × (u.guess ≡ []) × (u.kept ≡ []) × (u.advice ≡ [])
    at zero l e = let z = sym (slot_first q image 0 l) ∙ e in (refl, cc z, omega (arith, l), cc z, cc z, cc z)
    at (suc k) l e =
        let n : (suc k == 0) ≡ false = ne_eqb (suc k) 0 (λ h. omega (arith, h)) in
        absurd (none_some (ap (λ b. if b then born_thread q 1 (Some q.start) else None) (sym n) ∙ sym (slot_first q image (suc k) l) ∙ e))

-- a lock stands at its start for the words that the image has for its memory
pub record StartsWith (p : Pipe) (ls : Locks) (image : model.Arrays) (s : State) (m : ℕ) : Type 0 where
  pub words : List ℕ
  pub long : (mem_at p m).depth ≤ length words
  pub same : (a : ℕ) → a < (mem_at p m).depth → image m a ≡ slice_index words a
  pub stands : ls.stands m s (start words)

-- whatever the locks' first states are made of
module _ (p : Pipe) (ls : Locks) (vs : ℕ → View) (gates : Gates) (moves : ℕ → Signal) (c : Circuit)
    (made : IsLaid p ls vs gates moves c) (image : model.Arrays) (s : State) (suits : Suits c s)
    (regs : s.regs ≡ map (λ (r : Reg). r.reset) c.regs)
    (words : (m : ℕ) → is_locked p m ≡ false → model.is_delayed (mem_at p m).kind ≡ false → (a : ℕ) → a < (mem_at p m).depth
    → image m a ≡ slice_index (slice_index_or s.arrays (ls.array m) []) a)
    (starts : (m : ℕ) → is_locked p m ≡ true → StartsWith p ls image s m) where
  abbrev first_state : machine.State
  first_state = first p image

  valid_first : (k : ℕ) → k < length p.stages → (vs k).valid.value s ≡ bit (is_some (slot first_state k))
  valid_first k l = (made.stages k l).valid_start s regs ∙ holds_first p (k == 0) ∙ ap (λ o. bit (is_some o)) (sym (slot_first p image k l))

  long_first : (k : ℕ) (u : Thread) → slot first_state k ≡ Some u → length u.env ≡ p.vars
  long_first k u h =
      let f = is_first p image k u h in
      let short = made.begins.long in
      ap length f.1
      ∙ (let e = length-append p.start (replicate (p.vars - length p.start) 0) in
      let z = length-replicate {A = ℕ} (p.vars - length p.start) 0 in omega (arith, e, z, short))

  env_first : (k : ℕ) (u : Thread) → slot first_state k ≡ Some u → IsEnv p k s (vs k).kept (with_kept u.advice (with_kept u.kept u.env))
  env_first k u h x live =
      let f = is_first p image k u h in
      ap (λ ks. slice_index (with_kept ks (with_kept u.kept u.env)) x) f.5
      ∙ ap (λ ks. slice_index (with_kept ks u.env) x) f.4
      ∙ ap (λ e. slice_index e x) f.1
      ∙ sym (made.begins.vars x (subst (λ i. lives_from p i x ≡ true) f.0 live) s regs)
      ∙ ap (λ i. ((vs i).kept x).value s) (sym f.0)

  held_at_first : (k : ℕ) (u : Thread) → slot first_state k ≡ Some u → IsHolding p k s (vs k).begun.marks (machine.held_before k u.env p.stmts [])
  held_at_first k u h m a live =
      let f = is_first p image k u h in
      ap (λ i. ((vs i).begun.marks Held m a).value s) f.0
      ∙ made.begins.marks Held m a (subst (λ i. mark_from p i Held m a ≡ true) f.0 live) s regs
      ∙ ap (λ l. bit (is_held l m a)) (sym (held_first u.env p.stmts []))
      ∙ ap (λ i. bit (is_held (machine.held_before i u.env p.stmts []) m a)) (sym f.0)

  guess_first : (k : ℕ) (u : Thread) → slot first_state k ≡ Some u → IsGuess p k s (vs k).begun.guess u.guess
  guess_first k u h v long =
      let f = is_first p image k u h in
      let none = ap length f.3 in
      let l : k < length p.stages = subst (λ i. i < length p.stages) (sym f.0) f.2 in
      signals_are s (vs k).begun.guess u.guess (long ∙ sym (made.stages k l).guess_long)
      (λ i m. absurd (let z = (made.stages k l).guess_long in omega (arith, m, z, long, none)))

  lock_at_first : (m : ℕ) → is_locked p m ≡ true → StandsLock p ls vs s first_state m
  lock_at_first m e =
      let x = made.locks m e in
      let none = lock_first p image m in
      let y = starts m e in
      record {
        base = 0;
        words = y.words;
        long = y.long;
        same = y.same;
        stands = subst (λ es. ls.stands m s (lock_state_of 0 es y.words)) (sym none) y.stands;
        few = (let z = ap length none in omega (arith, z));
        tickets = λ k u h early.
            (let f = is_first p image k u h in
            let low : k ≤ reserve_stage p m = omega (arith, f.0) in
            (made.stages k (subst (λ i. i < length p.stages) (sym f.0) f.2)).tickets_first m e low s suits
            ∙ x.ticket.holds s (start y.words) y.stands
            ∙ ap (λ es. (0 + count_older u.number es) % 2 ^ ls.bits m) (sym none));
        late = λ twice k u h low high. absurd (let f = is_first p image k u h in let z = f.0 in omega (arith, z, low));
      }

  -- with registers at reset, the image in the arrays and locks at their starts, the state stands for the machine's first state
  pub stands_at_first : StandsFor p ls vs s (first p image)
  stands_at_first = record {
    valid = valid_first;
    long = long_first;
    env = env_first;
    advice = λ k u h. subst (AreAdvised p) (sym (is_first p image k u h).5) tt;
    held = held_at_first;
    guess = guess_first;
    words = words;
    locks = lock_at_first;
  }

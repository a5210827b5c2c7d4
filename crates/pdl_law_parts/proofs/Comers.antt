-- Who comes into a stage, by signals and in the machine.
use Rattle.std.proofs.Common.{◌≡◌, refl, sym, ap, ap₂, ◌∙◌, subst, ℕ, zero, suc, ◌+◌, ◌-◌, ◌<◌, ◌≤◌, Bool, true, false, ◌&&◌, ◌||◌, List, [], ◌∷◌, ◌++◌, length, drop, map, Option, Some, None, is_some, arith, ◌==◌, ⊎_elim, ◌⊎◌, le-leb, length-append}
use Rattle.std.specs.Prelude.{if◌then◌else◌, slice_index, slice_index_or, replicate, nat_le, ⊤}
use Rattle.std.proofs.lemmas.Bool.{false≢true, eqb-true, leb-true}
use Rattle.std.proofs.lemmas.List.{length-replicate, length-map}
use Rattle.pdl_word.specs.Words.{bit}
use Rattle.pdl_semantics.specs.Flat.{Next, Ends, Goes, Forks, Stmt, Stage, Pipe, start_env}
use Rattle.pdl_semantics.specs.Stages.{stage_at, goes_to, list_any, reserve_stage, commit_stage, is_verify, verify_stage}
use Rattle.pdl_semantics.specs.Machine as machine
use Rattle.pdl_semantics.specs.Machine.{Thread, deeds, held_before, is_held, with_kept}
use Rattle.pdl_semantics.specs.Moves.{next_stage}
use Rattle.pdl_semantics.specs.Cycle.{is_stage, born_thread, child_of, thread_after, or_then, with_reserves, all_releases, list_three, is_kept, squasher}
use Rattle.pdl_semantics.specs.Sound.{entries_by}
use Rattle.pdl_semantics.specs.SecondWrites.{reserves_twice}
use Rattle.pdl_net.specs.Circuit.{State}
use Rattle.pdl_net.specs.Signal.{Signal, no_signal}
use Rattle.pdl_lockapi.specs.Laws.{holds_ticket}
use Rattle.pdl_machine_facts.specs.Slots.{LeadsOn, here, stage_moves, movers_from, moving, leads_to, ways_from, ways, passing_thread, thread_into, first_of, arriving_thread, act_at}
use Rattle.pdl_machine_facts.specs.Cycle.{newborn, IsByStages}
use Rattle.pdl_law_parts.proofs.AnsweredThreads.{Stood}
use Rattle.pdl_law_parts.specs.declared.Mark.{Mark}
use Rattle.pdl_law_parts.specs.declared.Mark.TheVariants.{Held, Late}
use Rattle.pdl_law_parts.specs.Lives.{row_uses, asks_mark, forks_by, lives_from, mark_from, verifies_from}
use Rattle.pdl_law_parts.specs.Walk.{Locks, Birth, Walk, is_locked, one, zero_bit, both, is_on, values_at}
use Rattle.pdl_law_parts.specs.Views.{View, Comer, branch, out_of, new_by, new_from, comers, first_coming}
use Rattle.pdl_law_parts.specs.Advice.{IsAdvisedApart, AreAdvised}
use Rattle.pdl_law_parts.specs.Served.{IsServed}
use Rattle.pdl_law_parts.specs.Stands.{IsEnv, IsHolding, StandsFor, AreShort, IsSo, IsSeen, TellsLate, AreLate, child_in}
use Rattle.pdl_law_parts.proofs.Signals.{mux_by, one_is, zero_is}
use Rattle.pdl_law_parts.proofs.StageLooks.{lock_there}
use Rattle.pdl_law_parts.proofs.Moves.{ready_of, fork_value}
use Rattle.pdl_law_parts.proofs.LockPorts.{both_is, moves_or_not, no_mover, one_mover}
use Rattle.pdl_word.proofs.Lists.{zeros_at}
use Rattle.pdl_semantics.proofs.Facts.{held_first}
use Rattle.pdl_semantics.specs.PendingLists.{count_older}

-- no thread that moves is removed by a squash
pub record Spares (p : Pipe) (st : machine.State) (bits : List Bool) : Type 0 where
  pub kept : (k : ℕ) (t : Thread) → here p st bits k ≡ Some t → stage_moves p st bits k ≡ true → is_kept (squasher (moving p st bits)) t.number ≡ true
  -- no row after V verifies
  pub calm : (k : ℕ) → verifies_from p (suc k) ≡ true → verify_stage p.stmts ≡ Some k → ⊥

-- WHAT LIVES ON LIVED BEFORE

any_more : {X : Type 0} (f g : X → Bool) (xs : List X) → ((x : X) → f x ≡ true → g x ≡ true) → list_any f xs ≡ true → list_any g xs ≡ true
any_more f g [] h e = e
any_more f g (x ∷ xs) h e = at (f x) refl (any_more f g xs h) e
  where
    at : (b : Bool) → f x ≡ b → (list_any f xs ≡ true → list_any g xs ≡ true) → (b || list_any f xs) ≡ true → (g x || list_any g xs) ≡ true
    at true i go e = ap (λ b. b || list_any g xs) (h x i)
    at false i go e = later (g x) (go e)
      where
        later : (c : Bool) → list_any g xs ≡ true → (c || list_any g xs) ≡ true
        later true k = refl
        later false k = k

lower : (j q i : ℕ) (b : Bool) → j ≤ q → (nat_le q i && b) ≡ true → (nat_le j i && b) ≡ true
lower j q i b h e = at (nat_le q i) refl e
  where
    at : (c : Bool) → nat_le q i ≡ c → (c && b) ≡ true → (nat_le j i && b) ≡ true
    at true f g = ap₂ (λ x y. x && y) (le-leb j i (let k = leb-true q i f in omega (arith, k, h))) g
    at false f g = absurd (false≢true g)

any_dropped : (test : Stage → Bool) (xs : List Stage) (j q : ℕ)
    → j ≤ q → list_any test (drop q xs) ≡ true → list_any test (drop j xs) ≡ true
any_dropped test [] zero zero h e = e
any_dropped test [] zero (suc q) h e = e
any_dropped test [] (suc j) zero h e = absurd (omega (arith, h))
any_dropped test [] (suc j) (suc q) h e = e
any_dropped test (x ∷ xs) zero zero h e = e
any_dropped test (x ∷ xs) zero (suc q) h e = later (test x) (any_dropped test xs 0 q (omega arith) e)
  where
    later : (b : Bool) → list_any test (drop 0 xs) ≡ true → (b || list_any test xs) ≡ true
    later true i = refl
    later false i = i
any_dropped test (x ∷ xs) (suc j) zero h e = absurd (omega (arith, h))
any_dropped test (x ∷ xs) (suc j) (suc q) h e = any_dropped test xs j q (omega (arith, h)) e

or_map : (a b c d : Bool) → (a ≡ true → c ≡ true) → (b ≡ true → d ≡ true) → (a || b) ≡ true → (c || d) ≡ true
or_map true b c d f g e = ap (λ x. x || d) (f refl)
or_map false b true d f g e = refl
or_map false b false d f g e = g e

lives_down : (p : Pipe) (j q x : ℕ) → j ≤ q → lives_from p q x ≡ true → lives_from p j x ≡ true
lives_down p j q x h =
    or_map (list_any (λ (r : Stmt). nat_le q r.stage && row_uses r x) p.stmts) (list_any (λ (s : Stage). forks_by s.next x) (drop q p.stages)) _ _
    (any_more (λ (r : Stmt). nat_le q r.stage && row_uses r x)
    (λ (r : Stmt). nat_le j r.stage && row_uses r x) p.stmts (λ r e. lower j q r.stage (row_uses r x) h e))
    (any_dropped (λ (s : Stage). forks_by s.next x) p.stages j q h)

marks_down : (p : Pipe) (j q : ℕ) (mark : Mark) (m a : ℕ) → j ≤ q → mark_from p q mark m a ≡ true → mark_from p j mark m a ≡ true
marks_down p j q mark m a h e =
    any_more (λ (r : Stmt). nat_le q r.stage && asks_mark mark r.op m a)
    (λ (r : Stmt). nat_le j r.stage && asks_mark mark r.op m a) p.stmts (λ r i. lower j q r.stage (asks_mark mark r.op m a) h i) e

verifies_down : (p : Pipe) (j q : ℕ) → j ≤ q → verifies_from p q ≡ true → verifies_from p j ≡ true
verifies_down p j q h e =
    any_more (λ (r : Stmt). nat_le q r.stage && is_verify r.op)
    (λ (r : Stmt). nat_le j r.stage && is_verify r.op) p.stmts (λ r i. lower j q r.stage (is_verify r.op) h i) e

-- the i-th of the values of signals is the value of the i-th signal
pub signal_at : (s : State) (fs : List Signal) (i : ℕ)
    → i < length fs → slice_index (values_at s fs) i ≡ (slice_index_or fs i no_signal).value s
signal_at s [] i l = absurd (omega (arith, l))
signal_at s (f ∷ fs) zero l = refl
signal_at s (f ∷ fs) (suc i) l = signal_at s fs i (omega (arith, l))

-- values that are those of the signals one by one are the values of these signals
pub signals_are : (s : State) (fs : List Signal) (vals : List ℕ)
    → length vals ≡ length fs → ((i : ℕ) → i < length fs → slice_index vals i ≡ (slice_index_or fs i no_signal).value s)
    → vals ≡ values_at s fs
signals_are s [] [] e h = refl
signals_are s [] (v ∷ vals) e h = absurd (omega (arith, e))
signals_are s (f ∷ fs) [] e h = absurd (omega (arith, e))
signals_are s (f ∷ fs) (v ∷ vals) e h = ap₂ (λ x l. x ∷ l) (h 0 (omega arith)) (signals_are s fs vals (omega (arith, e)) (λ i l. h (suc i) (omega (arith, l))))

-- WHO COMES FIRST

-- the first of these threads that comes, where one does
abbrev pub first_come : State → List Comer → Option Comer
first_come s [] = None
first_come s (c ∷ cs) = if is_on c.comes s then Some c else first_come s cs

-- what the thread that comes brings, else the value of this signal
abbrev pub brought : State → (Comer → Signal) → Signal → Option Comer → ℕ
brought s of f None = f.value s
brought s of f (Some c) = (of c).value s

-- the signal of what the first comer brings has that comer's value
pub picked_is : (s : State) (of : Comer → Signal) (cs : List Comer) (f : Signal)
    → (first_coming of cs f).value s ≡ brought s of f (first_come s cs)
picked_is s of [] f = refl
picked_is s of (c ∷ cs) f = mux_by s c.comes (of c) (first_coming of cs f) ∙ at (is_on c.comes s) (picked_is s of cs f)
  where
    at : (b : Bool) → (first_coming of cs f).value s ≡ brought s of f (first_come s cs)
        → (if b then (of c).value s else (first_coming of cs f).value s) ≡ brought s of f (if b then Some c else first_come s cs)
    at true e = refl
    at false e = e

args_at : (s : State) (fs : List Signal) (n x : ℕ)
    → slice_index (map (λ (f : Signal). f.value s) fs ++ replicate n 0) x ≡ (slice_index_or fs x no_signal).value s
args_at s [] n x = zeros_at n x
args_at s (f ∷ fs) n zero = refl
args_at s (f ∷ fs) n (suc x) = args_at s fs n x

module _ (p : Pipe) (ls : Locks) (vs : ℕ → View) (moves : ℕ → Signal) (s : State) (st : machine.State)
    (bits : List Bool) (leads : LeadsOn p) (by : IsByStages p st bits) (used : IsServed p st bits)
    (stands : StandsFor p ls vs s st) (seen : (j : ℕ) → j < length p.stages → IsSeen p vs moves s st bits j)
    (stood : (k : ℕ) (t : Thread) → here p st bits k ≡ Some t → Stood st k t) (spared : Spares p st bits) (apart : IsAdvisedApart p) where
  -- a thread that comes into stage q with what this brings
  pub record Brings (q : ℕ) (c : Comer) (u : Thread) : Type 0 where
    pub long : length u.env ≡ p.vars
    pub env : IsEnv p q s c.vars (with_kept u.advice (with_kept u.kept u.env))
    pub advice : AreAdvised p u.advice
    pub held : IsHolding p q s c.marks (held_before q u.env p.stmts [])
    pub guess : verifies_from p q ≡ true → length u.guess ≡ length p.start → (i : ℕ) → i < length p.start → slice_index u.guess i ≡ (c.guess i).value s
    pub tickets : (m : ℕ) (e : is_locked p m ≡ true) → reserve_stage p m < q → q ≤ commit_stage p m
        → holds_ticket (ls.bits m) (c.tickets m) s ((stands.locks m e).base + count_older u.number (machine.lock_of st m))
        × (count_older u.number (list_three st (moving p st bits) m) + all_releases m (moving p st bits) ≡ count_older u.number (machine.lock_of st m))
        × (is_kept (squasher (moving p st bits)) u.number ≡ true)
    -- this cycle appends no pending write of an older thread, and the marks tell which of the thread's own is the second one
    pub late : (m : ℕ) → is_locked p m ≡ true → reserves_twice m p.stmts ≡ true → reserve_stage p m < q → q ≤ commit_stage p m
        → (count_older u.number (with_reserves m (moving p st bits) (machine.lock_of st m)) ≡ count_older u.number (machine.lock_of st m))
        × AreLate p q s c.marks u.number m (entries_by u.number (with_reserves m (moving p st bits) (machine.lock_of st m)))

  -- either both come into stage q and the comer brings what the thread has, or neither comes
  abbrev pub AreAlike : ℕ → Option Comer → Option Thread → Type 0
  AreAlike q None None = ⊤
  AreAlike q (Some c) (Some u) = Brings q c u
  AreAlike q _ _ = ⊥

  alike_then : (q : ℕ) (xs ys : List Comer) (a b : Option Thread) → AreAlike q (first_come s xs) a
      → AreAlike q (first_come s ys) b → AreAlike q (first_come s (xs ++ ys)) (or_then a b)
  alike_then q [] ys None b f g = g
  alike_then q [] ys (Some u) b f g = absurd f
  alike_then q (x ∷ xs) ys a b f g = at (is_on x.comes s) a f (λ a f. alike_then q xs ys a b f g)
    where
      at : (c : Bool) (a : Option Thread) → AreAlike q (if c then Some x else first_come s xs) a
          → ((a : Option Thread) → AreAlike q (first_come s xs) a → AreAlike q (first_come s (xs ++ ys)) (or_then a b))
          → AreAlike q (if c then Some x else first_come s (xs ++ ys)) (or_then a b)
      at true None f go = absurd f
      at true (Some u) f go = f
      at false a f go = go a f

  pub so_at : (k : ℕ) (t : Thread) → k < length p.stages → here p st bits k ≡ Some t → stage_moves p st bits k ≡ true → IsSo p k s (vs k).ended (deeds p st k t)
  so_at k t l h g = ((seen k l).follows t h).so (ready_of p st bits k t by l h g)

  -- NEW THREADS

  born_brings : (number : ℕ) (moves : Signal) (b : Birth) → length b.args ≤ p.vars
      → AreAlike 0 (Some (new_by moves b)) (born_thread p number (Some (map (λ (f : Signal). f.value s) b.args)))
  born_brings number moves b short =
      let vals = map (λ (f : Signal). f.value s) b.args in
      let n = length-map b.args (λ (f : Signal). f.value s) in
      record {
        long =
            (let e = length-append vals (replicate (p.vars - length vals) 0) in
            let z = length-replicate {A = ℕ} (p.vars - length vals) 0 in omega (arith, e, z, n, short));
        env = λ x live. args_at s b.args (p.vars - length vals) x;
        advice = tt;
        held = λ m a live. zero_is s ∙ ap (λ l. bit (is_held l m a)) (sym (held_first (start_env p vals) p.stmts []));
        guess = λ v e i l. absurd (omega (arith, e, l));
        tickets = λ m e low high. absurd (omega (arith, low));
        late = λ m e twice low high. absurd (omega (arith, low));
      }

  -- of the calls of one stage whose thread moves
  births_alike : (number : ℕ) (moves : Signal) (bs : List Birth) → moves.value s ≡ bit true → AreShort p bs
      → AreAlike 0 (first_come s (map (new_by moves) bs)) (born_thread p number (child_in s bs))
  births_alike number moves [] e h = tt
  births_alike number moves (b ∷ bs) e h = at (is_on b.on s) (both_is s moves b.on true e) (births_alike number moves bs e h.1)
    where
      at : (o : Bool) → is_on (both moves b.on) s ≡ o → AreAlike 0 (first_come s (map (new_by moves) bs)) (born_thread p number (child_in s bs))
          → AreAlike 0 (if is_on (both moves b.on) s then Some (new_by moves b) else first_come s (map (new_by moves) bs))
          (born_thread p number (if o then Some (map (λ (f : Signal). f.value s) b.args) else child_in s bs))
      at true f rest =
          subst
          (λ c. AreAlike 0 (if c then Some (new_by moves b) else first_come s (map (new_by moves) bs))
          (born_thread p number (Some (map (λ (f : Signal). f.value s) b.args))))
          (sym f) (born_brings number moves b h.0)
      at false f rest =
          subst (λ c. AreAlike 0 (if c then Some (new_by moves b) else first_come s (map (new_by moves) bs)) (born_thread p number (child_in s bs)))
          (sym f) rest

  no_births : (moves : Signal) (bs : List Birth) → moves.value s ≡ bit false → first_come s (map (new_by moves) bs) ≡ None
  no_births moves [] e = refl
  no_births moves (b ∷ bs) e =
      ap (λ c. if c then Some (new_by moves b) else first_come s (map (new_by moves) bs)) (both_is s moves b.on false e) ∙ no_births moves bs e

  born_then : (number : ℕ) (o rest : Option (List ℕ))
      → born_thread p number (if is_some o then o else rest) ≡ or_then (born_thread p number o) (born_thread p number rest)
  born_then number None rest = refl
  born_then number (Some x) rest = refl

  new_alike : (n k : ℕ) → k + n ≡ length p.stages
      → AreAlike 0 (first_come s (new_from vs moves n k)) (born_thread p st.next (child_of (movers_from p st bits n k)))
  new_alike zero k e = tt
  new_alike (suc n) k e =
      let l : k < length p.stages = omega (arith, e) in
      let rest = movers_from p st bits n (suc k) in
      let bs = map (new_by (moves k)) (vs k).ended.births in
      let more = new_alike n (suc k) (omega (arith, e)) in
      let P : Option Thread → Type 0 = λ o. AreAlike 0 (first_come s (bs ++ new_from vs moves n (suc k))) o in
      ⊎_elim
      (λ (f : stage_moves p st bits k ≡ false).
      let none = no_births (moves k) (vs k).ended.births ((seen k l).leaves ∙ ap bit f) in
      let Q : Option Comer → Type 0 = λ c. AreAlike 0 c None in
      subst P (ap (λ ms. born_thread p st.next (child_of (ms ++ rest))) (sym (no_mover p st bits k f)))
      (alike_then 0 bs (new_from vs moves n (suc k)) None (born_thread p st.next (child_of rest)) (subst Q (sym none) tt) more))
      (λ (f : (t : Thread) × (here p st bits k ≡ Some t) × (stage_moves p st bits k ≡ true)).
      let so = so_at k f.0 l f.1 f.2 in
      let child : born_thread p st.next (child_in s (vs k).ended.births) ≡ born_thread p st.next (deeds p st k f.0).child =
      ap (born_thread p st.next) (sym so.child) in
      let Q : Option Thread → Type 0 = λ o. AreAlike 0 (first_come s bs) o in
      subst P
      (sym (born_then st.next (deeds p st k f.0).child (child_of rest))
      ∙ ap (λ ms. born_thread p st.next (child_of (ms ++ rest))) (sym (one_mover p st bits k f.0 f.1 f.2)))
      (alike_then 0 bs (new_from vs moves n (suc k)) (born_thread p st.next (deeds p st k f.0).child)
      (born_thread p st.next (child_of rest))
      (subst Q child (births_alike st.next (moves k) (vs k).ended.births ((seen k l).leaves ∙ ap bit f.2) so.short)) more))
      (moves_or_not p st bits k)

  -- OUT OF EARLIER STAGES

  on_branch : (n : Next) (q : ℕ) (w : Walk) (env : List ℕ)
      → ((x : ℕ) → forks_by n x ≡ true → slice_index env x ≡ (w.vars x).value s)
      → is_on (branch n q w) s ≡ is_stage q (goes_to n env)
  on_branch Ends q w env f = ap (λ n. n == 1) (zero_is s)
  on_branch (Goes to) q w env f = at (to == q)
    where
      at : (b : Bool) → is_on (if b then one else zero_bit) s ≡ b
      at true = ap (λ n. n == 1) (one_is s)
      at false = ap (λ n. n == 1) (zero_is s)
  on_branch (Forks x a b) q w env f =
      ap (λ n. n == 1)
      (mux_by s (w.vars x) (if a == q then one else zero_bit) (if b == q then one else zero_bit)
      ∙ ap (λ n. if n == 1 then (if a == q then one else zero_bit).value s else (if b == q then one else zero_bit).value s)
      (sym (f x (Rattle.std.proofs.Common.eq-eqb x x refl))))
      ∙ choose (slice_index env x == 1)
    where
      at : (b : Bool) → ((if b then one else zero_bit).value s == 1) ≡ b
      at true = ap (λ n. n == 1) (one_is s)
      at false = ap (λ n. n == 1) (zero_is s)

      choose : (t : Bool)
          → ((if t then (if a == q then one else zero_bit).value s else (if b == q then one else zero_bit).value s) == 1) ≡ ((if t then a else b) == q)
      choose true = at (a == q)
      choose false = at (b == q)

  -- a thread that goes from stage j to stage q
  out_brings : (q j : ℕ) (t : Thread) → j < q → j < length p.stages → here p st bits j ≡ Some t
      → stage_moves p st bits j ≡ true → is_stage q (next_stage p j (deeds p st j t)) ≡ true
      → Brings q (out_of p vs moves q j) (thread_after (act_at p st j t))
  out_brings q j t low l h g on =
      let so = so_at j t l h g in
      let u = stood j t h in
      let d = deeds p st j t in
      let to : goes_to (stage_at p j).next d.env ≡ Some q = is_next (next_stage p j d) on in
      record {
        long = so.long;
        env = λ x live. so.env x (lives_down p j q x (omega (arith, low)) live);
        advice = so.advice;
        held = λ m a live. so.held m a (marks_down p j q Held m a (omega (arith, low)) live) ∙ ap (λ ps. bit (is_held ps m a)) (used.in_use.held j q t h on);
        guess =
            λ v e i m. ap (λ l'. slice_index l' i)
            (so.guess (λ f. spared.calm j (verifies_down p (suc j) q (omega (arith, low)) v)) (verifies_down p j q (omega (arith, low)) v) e)
            ∙ signal_at s (vs j).ended.guess i (let z = so.guess_long in omega (arith, m, z));
        tickets = λ m e r high. (
          subst
              (λ n. holds_ticket (ls.bits m) ((vs j).tickets m) s ((stands.locks m e).base + count_older n (machine.lock_of st m))) u.number
              ((stands.locks m e).tickets j u.thread u.slot (omega (arith, low, high))),
          subst
              (λ n. count_older n (list_three st (moving p st bits) m) + all_releases m (moving p st bits) ≡ count_older n (machine.lock_of st m)) u.number
              (used.in_use.shifts j u.thread m u.slot (leads.over j q m d.env l to r) (omega (arith, low, high)) (λ c. absurd (omega (arith, c, low, high)))),
          spared.kept j t h g,
        );
        late = λ m e twice r high.
            let early : j ≤ commit_stage p m = omega (arith, low, high) in
            let known = ((seen j l).follows t h).late (ready_of p st bits j t by l h g) m (lock_there p m e) twice early in (
              subst
                  (λ n. count_older n (with_reserves m (moving p st bits) (machine.lock_of st m)) ≡ count_older n (machine.lock_of st m)) u.number
                  (used.in_use.after j u.thread m u.slot (leads.over j q m d.env l to r)),
              λ a live.
                  subst (TellsLate s ((vs j).ended.marks Late m a) t.number a) (sym (used.own j t m h g (lock_there p m e)))
                  (known a (marks_down p j q Late m a (omega (arith, low)) live)),
            );
      }
    where
      is_next : (o : Option ℕ) → is_stage q o ≡ true → o ≡ Some q
      is_next None e = absurd (false≢true e)
      is_next (Some r) e = ap (λ i. Some i) (eqb-true r q e)

  one_alike : (q j : ℕ) → j < q → j < length p.stages
      → AreAlike q (if is_on (out_of p vs moves q j).comes s then Some (out_of p vs moves q j) else None) (passing_thread p st bits q j)
  one_alike q j low l = ⊎_elim
      (λ (f : stage_moves p st bits j ≡ false).
      let off : is_on (out_of p vs moves q j).comes s ≡ false =
      both_is s (moves j) (branch (stage_at p j).next q (vs j).ended) false ((seen j l).leaves ∙ ap bit f) in
      let P : Option Thread → Type 0 = λ o. AreAlike q (if is_on (out_of p vs moves q j).comes s then Some (out_of p vs moves q j) else None) o in
      let Q : Bool → Type 0 = λ b. AreAlike q (if b then Some (out_of p vs moves q j) else None) None in
      subst P (ap (λ b. thread_into p st q j b (here p st bits j)) (sym f)) (subst Q (sym off) tt))
      (λ (f : (t : Thread) × (here p st bits j ≡ Some t) × (stage_moves p st bits j ≡ true)).
      let d = deeds p st j f.0 in
      let so = so_at j f.0 l f.1 f.2 in
      let on : is_on (out_of p vs moves q j).comes s ≡ is_stage q (next_stage p j d) =
      both_is s (moves j) (branch (stage_at p j).next q (vs j).ended) true ((seen j l).leaves ∙ ap bit f.2)
      ∙ on_branch (stage_at p j).next q (vs j).ended d.env
      (fork_value p apart j s (vs j).ended d l so) in
      let P : Option Thread → Type 0 = λ o. AreAlike q (if is_on (out_of p vs moves q j).comes s then Some (out_of p vs moves q j) else None) o in
      let Q : Bool → Type 0 =
      λ b. AreAlike q (if b then Some (out_of p vs moves q j) else None)
      (if is_stage q (next_stage p j d) then Some (thread_after (act_at p st j f.0)) else None) in
      subst P (sym (ap₂ (thread_into p st q j) f.2 f.1)) (subst Q (sym on) (at f.0 f.1 f.2 (is_stage q (next_stage p j d)) refl)))
      (moves_or_not p st bits j)
    where
      at : (t : Thread) → here p st bits j ≡ Some t → stage_moves p st bits j ≡ true → (b : Bool)
          → is_stage q (next_stage p j (deeds p st j t)) ≡ b
          → AreAlike q (if b then Some (out_of p vs moves q j) else None) (if b then Some (thread_after (act_at p st j t)) else None)
      at t h g true e = out_brings q j t low l h g e
      at t h g false e = tt

  ways_alike : (q m j : ℕ) → j + m ≡ q → q < length p.stages
      → AreAlike q (first_come s (map (out_of p vs moves q) (ways_from p q m j))) (first_of p st bits q (ways_from p q m j))
  ways_alike q zero j e l = tt
  ways_alike q (suc m) j e l = at (leads_to (stage_at p j).next q) (ways_alike q m (suc j) (omega (arith, e)) l)
    where
      rest : List ℕ
      rest = ways_from p q m (suc j)

      at : (b : Bool) → AreAlike q (first_come s (map (out_of p vs moves q) rest)) (first_of p st bits q rest)
          → AreAlike q (first_come s (map (out_of p vs moves q) (if b then j ∷ rest else rest))) (first_of p st bits q (if b then j ∷ rest else rest))
      at true h =
          alike_then q (out_of p vs moves q j ∷ []) (map (out_of p vs moves q) rest) (passing_thread p st bits q j)
          (first_of p st bits q rest) (one_alike q j (omega (arith, e)) (omega (arith, e, l))) h
      at false h = h

  -- ALL

  -- who comes first into a stage by the signals brings what the machine's new thread, else its arriving one, has
  pub comers_alike : (q : ℕ) → q < length p.stages
      → AreAlike q (first_come s (comers p vs moves q)) (or_then (newborn p st bits q) (arriving_thread p st bits q))
  comers_alike q l =
      alike_then q (if q == 0 then new_from vs moves (length p.stages) 0 else []) (map (out_of p vs moves q) (ways p q))
      (newborn p st bits q) (arriving_thread p st bits q) (at (q == 0) refl) (ways_alike q q 0 (omega arith) l)
    where
      at : (b : Bool) → (q == 0) ≡ b
          → AreAlike q (first_come s (if b then new_from vs moves (length p.stages) 0 else []))
          (if b then born_thread p st.next (child_of (moving p st bits)) else None)
      at true e =
          subst (λ i. AreAlike i (first_come s (new_from vs moves (length p.stages) 0)) (born_thread p st.next (child_of (moving p st bits))))
          (sym (eqb-true q 0 e)) (new_alike (length p.stages) 0 (omega arith))
      at false e = tt

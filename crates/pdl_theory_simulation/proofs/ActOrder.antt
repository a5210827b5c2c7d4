-- A cycle does the same whether the acts are listed by stages or by age: two threads whose order differs stand in two branches, where nothing depends on it.
use Rattle.std.proofs.Common.{◌≡◌, refl, sym, ap, ap₂, ◌∙◌, subst, ℕ, suc, ◌≤◌, ◌<◌, ◌⊎◌, inl, inr, Bool, true, false, ◌&&◌, ◌||◌, List, [], ◌∷◌, ◌++◌, Option, Some, None, is_some, is_none, ◌==◌, nat_lt, cond, if◌then◌else◌, arith, ltb-false, le_refl, drop, take, ◌+◌, append-nil}
use Rattle.std.proofs.lemmas.Bool.{eqb-true, eqb-false, ne_eqb}
use Rattle.pdl_semantics.specs.Flat.{Arrays, Pipe, Branch, Mem}
use Rattle.pdl_semantics.specs.Stages.{list_any, in_stage, stage_at, goes_to, is_inside}
use Rattle.pdl_semantics.specs.Machine.{is_answered, Request, NoRequest, State, Pending, lock_of, fork_of, request_of, with_answers, word_for}
use Rattle.pdl_semantics.specs.Moves.{movers, next_stage}
use Rattle.pdl_semantics.specs.Cycle.{new_entries, with_reserves, with_writes_of, with_all_writes, child_of, squasher, asked_by, asked_of, asked_in, address_of, next_thread, coming_thread, or_then, entered_branches, goes_into, goes_out, for_mems, for_stages, taken_out, list_two, with_commit, with_commits, releases_of, all_releases, squash_stage}
use Rattle.pdl_semantics.specs.Sound.{is_delayed_read}
use Rattle.pdl_semantics.specs.Cycle
use Rattle.pdl_semantics.specs.Machine
use Rattle.pdl_semantics.specs.Moves
use Rattle.pdl_semantics.specs.Promises.{DifferInAdvice}
use Rattle.pdl_theory_turns.specs.Derived.{Work, find_ask}
use Rattle.pdl_theory_turns.specs.Derived
use Rattle.pdl_theory_simulation.proofs.FlowFacts.{Home, Trunk, Flows}
use Rattle.pdl_theory_simulation.proofs.Stretches.{Behind, left_trunk, less_home}
use Rattle.pdl_theory_simulation.proofs.Seats.{Live, seat, find, Ordered, Falls, falls_each, dacts, lacts, lact, did, deeds_of, work_of_live}
use Rattle.pdl_theory_simulation.proofs.Choices.{Known, AllKnown, one_stage, like_here}
use Rattle.pdl_theory_simulation.proofs.ThreadFacts.{Pair, EachPair, pairs, place, sorted, pair_map, pair_both, sorted_each}
use Rattle.pdl_theory_simulation.proofs.Orders.{acts_of}
use Rattle.pdl_theory_simulation.proofs.LockLists.{next_live}
use Rattle.pdl_theory_simulation.proofs.LiveThreads.{comes_none}
use Rattle.pdl_theory_simulation.proofs.ThreadPlaces.{become_stay, become_move, enters_here, leads_of}
use Rattle.pdl_theory_simulation.proofs.Requests.{asks_at, asks_are}
use Rattle.pdl_word.specs.Each.{Each}
use Rattle.pdl_theory_simulation.proofs.ActSwaps.{or_swap, put_all_swap, asked_none, address_none, or_then_swap, plain_all}

-- WHAT ORDER DOESN'T MATTER

module _ (p : Pipe) (flows : Flows p) (st : State) (d : Derived.State) (bits : List Bool) (arrays : DifferInAdvice p st.arrays d.arrays) where
  -- the stated act of a thread with these older ones, as the derived machine decides it
  abbrev pub act_of : Pair → Moves.Act
  act_of x = lact p st d bits x.older x.live

  -- two threads of which the younger, x, stands in a later stage
  pub record Swap (x y : Pair) : Type 0 where
    pub known_x : Known p flows st d bits arrays x.older x.live
    pub known_y : Known p flows st d bits arrays y.older y.live
    pub numbers : y.live.number < x.live.number
    pub behind : Behind p x.live.thread.stage y.live.thread.stage
    pub low : y.live.thread.stage ≤ x.live.thread.stage
    pub apart : (q : ℕ) → (coming_thread p q (lact p st d bits x.older x.live) ≡ None) ⊎ (coming_thread p q (lact p st d bits y.older y.live) ≡ None)

  in_branch : (s : ℕ) → (Trunk p s → ⊥) → (b : Branch) × (c : List Branch) × Home p (b ∷ c) s
  in_branch s n = at (stage_at p s).branches refl
    where
      at : (b : List Branch) → (stage_at p s).branches ≡ b → (b : Branch) × (c : List Branch) × Home p (b ∷ c) s
      at [] e = absurd (n e)
      at (x ∷ c) e = (x, c, e)

  younger_branch : (x y : Pair) → Swap x y → (b : Branch) × (c : List Branch) × Home p (b ∷ c) x.live.thread.stage
  younger_branch x y s =
      in_branch x.live.thread.stage
      (λ e. let i : x.live.thread.stage < y.live.thread.stage = left_trunk p _ _ s.behind x.live.thread.stage e (le_refl _) in let j = s.low in absurd
      (omega arith))

  older_branch : (x y : Pair) → Swap x y → (b : Branch) × (c : List Branch) × Home p (b ∷ c) y.live.thread.stage
  older_branch x y s =
      in_branch y.live.thread.stage
      (λ e. let i : y.live.thread.stage < y.live.thread.stage = left_trunk p _ _ s.behind y.live.thread.stage e s.low in absurd (omega arith))

  -- they stand in two stages
  two_stages : (x y : Pair) → Swap x y → x.live.thread.stage ≡ y.live.thread.stage → ⊥
  two_stages x y s e = let i : x.live.thread.stage < y.live.thread.stage = less_home p _ _ s.behind (ap (λ n. (stage_at p n).branches) e) in omega arith

  plain_here : (l : Live) (b : Branch) (c : List Branch) → Home p (b ∷ c) l.thread.stage
      → ((deeds_of p st bits l).reserves ≡ []) × ((deeds_of p st bits l).child ≡ None) × ((deeds_of p st bits l).fails ≡ false)
  plain_here l b c e = plain_all (word_for st l.number) (in_stage l.thread.stage p.stmts) (record {
    env = Machine.with_kept (with_answers p st bits (seat l)).kept l.env;
    advice = l.advice;
    guess = l.thread.guess;
    held = Machine.held_before l.thread.stage l.env p.stmts [];
    blocks = [];
    reserves = [];
    writes = [];
    releases = [];
    asks = [];
    advises = [];
    barrier = false;
    child = None;
    fails = false;
  }) (flows.branches b c l.thread.stage e)

  -- a step over the acts gives the same in either order of two threads that may change places
  abbrev pub Commutes : (Z : Type 0) → (Moves.Act → Z → Z) → Type 0
  Commutes Z step = (x y : Pair) → Swap x y → (z : Z) → step (act_of y) (step (act_of x) z) ≡ step (act_of x) (step (act_of y) z)

  fold_place : (Z : Type 0) (f : List Moves.Act → Z) (step : Moves.Act → Z → Z)
      → ((a : Moves.Act) (rest : List Moves.Act) → f (a ∷ rest) ≡ step a (f rest)) → Commutes Z step
      → (x : Pair) (ys : List Pair)
      → EachPair (λ y. y.live.thread.stage ≤ x.live.thread.stage → Swap x y) ys
      → f (acts_of p flows st d bits arrays (place x ys)) ≡ step (act_of x) (f (acts_of p flows st d bits arrays ys))
  fold_place Z f step more commutes x [] s = more _ _
  fold_place Z f step more commutes x (y ∷ ys) s = at (nat_lt x.live.thread.stage y.live.thread.stage) refl (fold_place Z f step more commutes x ys s.1)
    where
      at : (b : Bool) → nat_lt x.live.thread.stage y.live.thread.stage ≡ b
          → f (acts_of p flows st d bits arrays (place x ys)) ≡ step (act_of x) (f (acts_of p flows st d bits arrays ys))
          → f (acts_of p flows st d bits arrays (cond b (x ∷ y ∷ ys) (y ∷ place x ys))) ≡ step (act_of x) (f (acts_of p flows st d bits arrays (y ∷ ys)))
      at true e h = more _ _
      at false e h =
          more _ _ ∙ ap (step (act_of y)) h ∙ commutes x y (s.0 (ltb-false _ _ e)) (f (acts_of p flows st d bits arrays ys))
          ∙ ap (step (act_of x)) (sym (more (act_of y) (acts_of p flows st d bits arrays ys)))

  -- each thread may be taken before or after each older one that stands in no later stage
  abbrev pub Swaps : List Live → Type 0
  Swaps [] = Unit {0}
  Swaps (l ∷ ls) = EachPair (λ y. y.live.thread.stage ≤ l.thread.stage → Swap (record { live = l; older = ls }) y) (pairs ls) × Swaps ls

  -- a step that commutes gives the same in both orders
  pub same_fold : (Z : Type 0) (f : List Moves.Act → Z) (step : Moves.Act → Z → Z)
      → ((a : Moves.Act) (rest : List Moves.Act) → f (a ∷ rest) ≡ step a (f rest)) → Commutes Z step → (ls : List Live)
      → Swaps ls
      → f (acts_of p flows st d bits arrays (sorted ls)) ≡ f (lacts p st d bits ls)
  same_fold Z f step more commutes [] s = refl
  same_fold Z f step more commutes (l ∷ ls) s =
      fold_place Z f step more commutes (record { live = l; older = ls }) (sorted ls)
      (sorted_each (λ y. y.live.thread.stage ≤ l.thread.stage → Swap (record { live = l; older = ls }) y) ls s.0)
      ∙ ap (step (lact p st d bits ls l)) (same_fold Z f step more commutes ls s.1) ∙ sym (more (lact p st d bits ls l) (lacts p st d bits ls))

  -- a step over an act that moves, and none over one that stands
  abbrev pub if_moves : (Z : Type 0) → (Moves.Act → Z → Z) → Moves.Act → Z → Z
  if_moves Z step a z = if a.moves then step a z else z

  moves_commute : (Z : Type 0) (step : Moves.Act → Z → Z) → Commutes Z step → Commutes Z (if_moves Z step)
  moves_commute Z step c x y s z = at (act_of y).moves (act_of x).moves
    where
      at : (b e : Bool)
          → cond b (step (act_of y) (cond e (step (act_of x) z) z)) (cond e (step (act_of x) z) z)
          ≡ cond e (step (act_of x) (cond b (step (act_of y) z) z)) (cond b (step (act_of y) z) z)
      at true true = c x y s z
      at true false = refl
      at false true = refl
      at false false = refl

  -- a step over those that move, which gives the same in either order of two, gives the same by stages and by age
  pub same_movers : (Z : Type 0) (f : List Moves.Act → Z) (step : Moves.Act → Z → Z)
      → ((a : Moves.Act) (rest : List Moves.Act) → f (a ∷ rest) ≡ step a (f rest)) → Commutes Z step → (ls : List Live)
      → Swaps ls
      → f (movers (acts_of p flows st d bits arrays (sorted ls))) ≡ f (movers (lacts p st d bits ls))
  same_movers Z f step more commutes ls s =
      same_fold Z (λ rest. f (movers rest)) (if_moves Z step) (λ a rest. one a rest a.moves) (moves_commute Z step commutes) ls s
    where
      one : (a : Moves.Act) (rest : List Moves.Act) (b : Bool)
          → f (cond b (a ∷ movers rest) (movers rest)) ≡ cond b (step a (f (movers rest))) (f (movers rest))
      one a rest true = more a (movers rest)
      one a rest false = refl

  -- THE STEPS OF A CYCLE

  none_new : (m n : ℕ) (l : Live) (b : Branch) (c : List Branch) → Home p (b ∷ c) l.thread.stage → new_entries m n (deeds_of p st bits l).reserves ≡ []
  none_new m n l b c e = ap (new_entries m n) (plain_here l b c e).0

  same_appended : (m : ℕ) (list : List Pending) (ls : List Live) → Swaps ls
      → with_reserves m (movers (acts_of p flows st d bits arrays (sorted ls))) list ≡ with_reserves m (movers (lacts p st d bits ls)) list
  same_appended m list = same_movers (List Pending) (λ ms. with_reserves m ms list) (λ a z. z ++ new_entries m a.thread.number a.does.reserves) (λ a rest. refl)
      (λ x y s z.
      let bx = younger_branch x y s in let by = older_branch x y s in
      ap₂ (λ a b. (z ++ a) ++ b) (none_new m x.live.number x.live bx.0 bx.1 bx.2) (none_new m y.live.number y.live by.0 by.1 by.2)
      ∙ sym (ap₂ (λ a b. (z ++ b) ++ a) (none_new m x.live.number x.live bx.0 bx.1 bx.2) (none_new m y.live.number y.live by.0 by.1 by.2)))

  same_filled : (m : ℕ) (list : List Pending) (ls : List Live) → Swaps ls
      → with_all_writes m (movers (acts_of p flows st d bits arrays (sorted ls))) list ≡ with_all_writes m (movers (lacts p st d bits ls)) list
  same_filled m list = same_movers (List Pending) (λ ms. with_all_writes m ms list) (λ a z. with_writes_of m a.thread.number a.does.writes z) (λ a rest. refl)
      (λ x y s z. put_all_swap m y.live.number x.live.number (deeds_of p st bits y.live).writes
      (deeds_of p st bits x.live).writes z (λ e. let i = s.numbers in absurd (omega arith)))

  -- some thread that moves passes a test by stages just where one does by age
  pub same_any : (test : Moves.Act → Bool) (ls : List Live) → Swaps ls
      → list_any test (movers (acts_of p flows st d bits arrays (sorted ls))) ≡ list_any test (movers (lacts p st d bits ls))
  same_any test = same_movers Bool (list_any test) (λ a z. test a || z) (λ a rest. refl) (λ x y s z. or_swap (test (act_of y)) (test (act_of x)) z)

  -- some thread passes a test by stages just where one does by age
  pub same_any_all : (test : Moves.Act → Bool) (ls : List Live) → Swaps ls
      → list_any test (acts_of p flows st d bits arrays (sorted ls)) ≡ list_any test (lacts p st d bits ls)
  same_any_all test = same_fold Bool (list_any test) (λ a z. test a || z) (λ a rest. refl) (λ x y s z. or_swap (test (act_of y)) (test (act_of x)) z)

  -- the new thread's arguments are the same by stages and by age
  pub same_child : (ls : List Live) → Swaps ls → child_of (movers (acts_of p flows st d bits arrays (sorted ls))) ≡ child_of (movers (lacts p st d bits ls))
  same_child = same_movers (Option (List ℕ)) child_of (λ a z. if is_some a.does.child then a.does.child else z) (λ a rest. refl)
      (λ x y s z.
      let bx = younger_branch x y s in let by = older_branch x y s in
      ap₂ (λ a b. if is_some b then b else (if is_some a then a else z)) (plain_here x.live bx.0 bx.1 bx.2).1 (plain_here y.live by.0 by.1 by.2).1
      ∙ sym (ap₂ (λ a b. if is_some a then a else (if is_some b then b else z)) (plain_here x.live bx.0 bx.1 bx.2).1 (plain_here y.live by.0 by.1 by.2).1))

  -- the thread that squashes is the same by stages and by age
  pub same_squasher : (ls : List Live) → Swaps ls → squasher (movers (acts_of p flows st d bits arrays (sorted ls))) ≡ squasher (movers (lacts p st d bits ls))
  same_squasher = same_movers (Option ℕ) squasher (λ a z. if a.does.fails then Some a.thread.number else z) (λ a rest. refl)
      (λ x y s z.
      let bx = younger_branch x y s in let by = older_branch x y s in
      ap₂ (λ a b. if b then Some y.live.number else (if a then Some x.live.number else z)) (plain_here x.live bx.0 bx.1 bx.2).2
      (plain_here y.live by.0 by.1 by.2).2
      ∙ sym
      (ap₂ (λ a b. if a then Some x.live.number else (if b then Some y.live.number else z))
      (plain_here x.live bx.0 bx.1 bx.2).2 (plain_here y.live by.0 by.1 by.2).2))

  same_squash_stage : (ls : List Live)
      → Swaps ls → squash_stage (movers (acts_of p flows st d bits arrays (sorted ls))) ≡ squash_stage (movers (lacts p st d bits ls))
  same_squash_stage = same_movers (Option ℕ) squash_stage (λ a z. if a.does.fails then Some a.stage else z) (λ a rest. refl)
      (λ x y s z.
      let bx = younger_branch x y s in let by = older_branch x y s in
      ap₂ (λ a b. if b then Some y.live.thread.stage else (if a then Some x.live.thread.stage else z)) (plain_here x.live bx.0 bx.1 bx.2).2
      (plain_here y.live by.0 by.1 by.2).2
      ∙ sym
      (ap₂ (λ a b. if a then Some x.live.thread.stage else (if b then Some y.live.thread.stage else z)) (plain_here x.live bx.0 bx.1 bx.2).2
      (plain_here y.live by.0 by.1 by.2).2))

  -- at most one of two asks for m
  one_asks : (m : ℕ) (x y : Pair) → Swap x y → (find_ask (deeds_of p st bits x.live).asks m ≡ None) ⊎ (find_ask (deeds_of p st bits y.live).asks m ≡ None)
  one_asks m x y s = at (find_ask (deeds_of p st bits x.live).asks m) refl (find_ask (deeds_of p st bits y.live).asks m) refl
    where
      works_x : (deeds_of p st bits x.live).asks ≡ (work_of_live p d bits x.older x.live).asks
      works_x = asks_are p flows st d bits arrays x.older x.live s.known_x

      works_y : (deeds_of p st bits y.live).asks ≡ (work_of_live p d bits y.older y.live).asks
      works_y = asks_are p flows st d bits arrays y.older y.live s.known_y

      at : (a : Option ℕ) → find_ask (deeds_of p st bits x.live).asks m ≡ a → (b : Option ℕ)
          → find_ask (deeds_of p st bits y.live).asks m ≡ b
          → (find_ask (deeds_of p st bits x.live).asks m ≡ None) ⊎ (find_ask (deeds_of p st bits y.live).asks m ≡ None)
      at None e b f = inl e
      at (Some a) e None f = inr f
      at (Some a) e (Some b) f =
          absurd
          (let same : x.live.thread.stage
          ≡ y.live.thread.stage = one_stage (is_delayed_read m) p.stmts x.live.thread.stage y.live.thread.stage (flows.one_fetch m)
          (asks_at p flows st d bits arrays x.older x.live s.known_x m a (ap (λ q. find_ask q m) (sym works_x) ∙ e))
          (asks_at p flows st d bits arrays y.older y.live s.known_y m b (ap (λ q. find_ask q m) (sym works_y) ∙ f)) in
          let less : x.live.thread.stage < y.live.thread.stage = less_home p _ _ s.behind (ap (λ n. (stage_at p n).branches) same) in omega arith)

  -- the request of m after a cycle's new ones is the same by stages and by age
  pub same_asked : (m : ℕ) (old : Request) (ls : List Live) → Swaps ls
      → asked_by m (movers (acts_of p flows st d bits arrays (sorted ls))) old ≡ asked_by m (movers (lacts p st d bits ls)) old
  same_asked m old =
      same_movers Request (λ ms. asked_by m ms old) (λ a z. asked_of m a.thread.number a.does.asks z) (λ a rest. refl) (λ x y s z. at x y z (one_asks m x y s))
    where
      at : (x y : Pair) (z : Request) → (find_ask (deeds_of p st bits x.live).asks m ≡ None) ⊎ (find_ask (deeds_of p st bits y.live).asks m ≡ None)
          → asked_of m y.live.number (deeds_of p st bits y.live).asks (asked_of m x.live.number (deeds_of p st bits x.live).asks z)
          ≡ asked_of m x.live.number (deeds_of p st bits x.live).asks (asked_of m y.live.number (deeds_of p st bits y.live).asks z)
      at x y z (inl e) =
          ap (asked_of m y.live.number (deeds_of p st bits y.live).asks) (asked_none m x.live.number _ z e) ∙ sym (asked_none m x.live.number _ _ e)
      at x y z (inr e) =
          asked_none m y.live.number _ _ e ∙ ap (asked_of m x.live.number (deeds_of p st bits x.live).asks) (sym (asked_none m y.live.number _ z e))

  -- the address of m that is asked for in a cycle is the same by stages and by age
  pub same_shown : (m : ℕ) (ls : List Live) → Swaps ls
      → asked_in (movers (acts_of p flows st d bits arrays (sorted ls))) m ≡ asked_in (movers (lacts p st d bits ls)) m
  same_shown m = same_movers (Option ℕ) (λ ms. asked_in ms m) (λ a z. address_of m a.does.asks z) (λ a rest. refl) (λ x y s z. at x y z (one_asks m x y s))
    where
      at : (x y : Pair) (z : Option ℕ) → (find_ask (deeds_of p st bits x.live).asks m ≡ None) ⊎ (find_ask (deeds_of p st bits y.live).asks m ≡ None)
          → address_of m (deeds_of p st bits y.live).asks (address_of m (deeds_of p st bits x.live).asks z)
          ≡ address_of m (deeds_of p st bits x.live).asks (address_of m (deeds_of p st bits y.live).asks z)
      at x y z (inl e) = ap (address_of m (deeds_of p st bits y.live).asks) (address_none m _ z e) ∙ sym (address_none m _ _ e)
      at x y z (inr e) = address_none m _ _ e ∙ ap (address_of m (deeds_of p st bits x.live).asks) (sym (address_none m _ z e))

  -- who stands in a stage after the moves is the same by stages and by age
  pub same_stands : (q : ℕ) (ls : List Live) → Swaps ls
      → next_thread p q (acts_of p flows st d bits arrays (sorted ls)) ≡ next_thread p q (lacts p st d bits ls)
  same_stands q =
      same_fold (Option Machine.Thread) (next_thread p q) (λ a z. or_then (coming_thread p q a) z) (λ a rest. refl)
      (λ x y s z. or_then_swap (coming_thread p q (act_of y)) (coming_thread p q (act_of x)) z (turn (s.apart q)))
    where
      turn : {A B : Type 0} → A ⊎ B → B ⊎ A
      turn (inl a) = inr a
      turn (inr b) = inl b

  -- at most one of two enters a fork
  abbrev entry_of : ℕ → Pair
      → List Bool
  entry_of f x = if x.live.thread.stage == f then goes_into p f (next_stage p x.live.thread.stage (deeds_of p st bits x.live)) else []

  no_entry : (f : ℕ) (x : Pair) → (x.live.thread.stage == f) ≡ false → entry_of f x ≡ []
  no_entry f x e = ap (λ t. if t then goes_into p f (next_stage p x.live.thread.stage (deeds_of p st bits x.live)) else []) e

  one_enters : (f : ℕ) (x y : Pair)
      → Swap x y → (z : List Bool) → (t : Bool) → (x.live.thread.stage == f) ≡ t
      → (z ++ entry_of f x) ++ entry_of f y ≡ (z ++ entry_of f y) ++ entry_of f x
  one_enters f x y s z true e =
      let none = no_entry f y (ne_eqb y.live.thread.stage f (λ i. absurd (two_stages x y s (eqb-true _ _ e ∙ sym i)))) in
      ap (λ u. (z ++ entry_of f x) ++ u) none ∙ append-nil _ ∙ sym (ap (λ u. (z ++ u) ++ entry_of f x) none ∙ ap (λ u. u ++ entry_of f x) (append-nil z))
  one_enters f x y s z false e =
      ap (λ u. (z ++ u) ++ entry_of f y) (no_entry f x e) ∙ ap (λ u. u ++ entry_of f y) (append-nil z)
      ∙ sym (ap (λ u. (z ++ entry_of f y) ++ u) (no_entry f x e) ∙ append-nil _)

  -- the branches into which threads go from a fork are the same by stages and by age
  pub same_entered : (f : ℕ) (ls : List Live) → Swaps ls
      → entered_branches p f (movers (acts_of p flows st d bits arrays (sorted ls))) ≡ entered_branches p f (movers (lacts p st d bits ls))
  same_entered f =
      same_movers (List Bool) (entered_branches p f) (λ a z. z ++ (if a.stage == f then goes_into p f (next_stage p a.stage a.does) else [])) (λ a rest. refl)
      (λ x y s z. one_enters f x y s z (x.live.thread.stage == f)
      refl)

  -- the list of a lock after steps 1 and 2 is the same by stages and by age
  same_two : (m : ℕ) (ls : List Live) → Swaps ls
      → list_two st (movers (acts_of p flows st d bits arrays (sorted ls))) m ≡ list_two st (movers (lacts p st d bits ls)) m
  same_two m ls s =
      same_filled m (with_reserves m (movers (acts_of p flows st d bits arrays (sorted ls))) (lock_of st m)) ls s
      ∙ ap (with_all_writes m (movers (lacts p st d bits ls))) (same_appended m (lock_of st m) ls s)

  -- how many writes of a memory are released hangs on no order of the acts
  pub same_releases : (m : ℕ) (ls : List Live) → Swaps ls
      → all_releases m (movers (acts_of p flows st d bits arrays (sorted ls))) ≡ all_releases m (movers (lacts p st d bits ls))
  same_releases m = same_movers ℕ (all_releases m) (λ a z. z + releases_of m a.does.releases) (λ a rest. refl)
      (λ x y s z. swapped z (releases_of m (deeds_of p st bits x.live).releases) (releases_of m (deeds_of p st bits y.live).releases))
    where
      swapped : (a b c : ℕ) → (a + b) + c ≡ (a + c) + b
      swapped a b c = omega arith

  -- the entry that is taken out of a lock is the same by stages and by age
  pub same_taken : (m : ℕ) (ls : List Live) → Swaps ls
      → taken_out st (movers (acts_of p flows st d bits arrays (sorted ls))) m ≡ taken_out st (movers (lacts p st d bits ls)) m
  same_taken m ls s = ap₂ take (same_releases m ls s) (same_two m ls s)

  same_three : (m : ℕ) (ls : List Live) → Swaps ls
      → Cycle.list_three st (movers (acts_of p flows st d bits arrays (sorted ls))) m ≡ Cycle.list_three st (movers (lacts p st d bits ls)) m
  same_three m ls s = ap₂ drop (same_releases m ls s) (same_two m ls s)

  same_commits : (ms ns : List Moves.Act) → ((m : ℕ) → taken_out st ms m ≡ taken_out st ns m)
      → (k : ℕ) (xs : List Mem) (arrays : Arrays) → with_commits st ms k xs arrays ≡ with_commits st ns k xs arrays
  same_commits ms ns h k [] arrays = refl
  same_commits ms ns h k (x ∷ xs) arrays =
      same_commits ms ns h (suc k) xs (with_commit arrays k (taken_out st ms k)) ∙ ap (λ o. with_commits st ns (suc k) xs (with_commit arrays k o)) (h k)

  -- THE CYCLE

  -- the state after a cycle is the same with the acts by stages and by age
  pub same_arrays : (ls : List Live) → Swaps ls
      → (words : Arrays)
      → with_commits st (movers (acts_of p flows st d bits arrays (sorted ls))) 0 p.mems words ≡ with_commits st (movers (lacts p st d bits ls)) 0 p.mems words
  same_arrays ls s words =
      same_commits (movers (acts_of p flows st d bits arrays (sorted ls))) (movers (lacts p st d bits ls)) (λ m. same_taken m ls s) 0 p.mems words

  -- but for the arrays, where advisory writes come in the order of stages
  pub same_after : (words : Arrays) (ls : List Live) → Swaps ls
      → record (Cycle.after_acts p st bits (acts_of p flows st d bits arrays (sorted ls))) { arrays = words }
      ≡ record
      (Cycle.after_these p st bits (lacts p st d bits ls) (movers (lacts p st d bits ls)) (squasher (movers (lacts p st d bits ls)))) { arrays = words }
  same_after words ls s = λ i. record {
    stages =
        for_stages
        (λ q. Cycle.or_then (if q == 0 then Cycle.born_thread p st.next (same_child ls s i) else None)
        (Cycle.if_kept (same_squasher ls s i) (same_stands q ls s i))) 0 p.stages;
    arrays = words;
    locks = for_mems (λ m. Cycle.entries_left (same_squasher ls s i) (same_three m ls s i)) 0 p.mems;
    forks =
        for_stages
        (λ f. Cycle.branches_left p (same_squash_stage ls s i) f
        ((if same_any (λ a. is_inside p f a.stage && goes_out p f (next_stage p a.stage a.does)) ls s i
        then Cycle.but_first (fork_of st f) else fork_of st f)
        ++ same_entered f ls s i)) 0 p.stages;
    requests =
        for_mems (λ m. Cycle.request_left (same_squasher ls s i) (same_asked m (if is_answered p bits m then NoRequest else request_of st m) ls s i)) 0 p.mems;
    next = if is_some (same_child ls s i) then suc st.next else st.next;
  }

  -- the ports of a cycle are the same with the acts by stages and by age
  pub same_ports : (ls : List Live) → Swaps ls
      → Cycle.ports p st (acts_of p flows st d bits arrays (sorted ls)) ≡ Cycle.ports p st (lacts p st d bits ls)
  same_ports ls s = λ i. record {
    valid = for_stages (λ q. same_any_all (λ a. a.stage == q) ls s i) 0 p.stages;
    moves = for_stages (λ q. same_any (λ a. a.stage == q) ls s i) 0 p.stages;
    commits = for_mems (λ m. Cycle.port_writes (same_taken m ls s i)) 0 p.mems;
    requests = for_mems (λ m. same_shown m ls s i) 0 p.mems;
    ended = same_any (λ a. is_none (next_stage p a.stage a.does)) ls s i;
    squash = is_some (same_squasher ls s i);
  }

  -- WHO SWAPS

  find_none : (s q : ℕ) (xs : List Live) → Each (λ k. Behind p s k.thread.stage) xs → s ≡ q → find q xs ≡ None
  find_none s q [] h e = refl
  find_none s q (x ∷ xs) h e = at (x.thread.stage == q) refl (find_none s q xs h.1 e)
    where
      at : (b : Bool) → (x.thread.stage == q) ≡ b → find q xs ≡ None → cond b (Some (seat x)) (find q xs) ≡ None
      at true i r =
          absurd
          (let same : s ≡ x.thread.stage = e ∙ sym (eqb-true _ _ i) in
          let less : s < x.thread.stage = less_home p _ _ h.0 (ap (λ n. (stage_at p n).branches) same) in omega arith)
      at false i r = r

  -- two threads come to two stages
  apart_all : (l : Live) (ls : List Live) → Known p flows st d bits arrays ls l → AllKnown p flows st d bits arrays ls
      → Each (λ k. Behind p l.thread.stage k.thread.stage) ls
      → EachPair (λ y. (q : ℕ) → (coming_thread p q (lact p st d bits ls l) ≡ None) ⊎ (coming_thread p q (lact p st d bits y.older y.live) ≡ None)) (pairs ls)
  apart_all l ls k ks b = at (did p d bits ls l).moves refl
    where
      known_pairs : (xs : List Live) → AllKnown p flows st d bits arrays xs → EachPair (λ x. Known p flows st d bits arrays x.older x.live) (pairs xs)
      known_pairs [] h = tt
      known_pairs (x ∷ xs) h = (h.0, known_pairs xs h.1)

      target : (s : ℕ) → ((q : ℕ) → (q ≡ s → ⊥) → coming_thread p q (lact p st d bits ls l) ≡ None)
          → EachPair (λ y. Each (λ k. Behind p s k.thread.stage) (next_live p st d bits y.older y.live)) (pairs ls)
          → EachPair (λ y. (q : ℕ) → (coming_thread p q (lact p st d bits ls l) ≡ None) ⊎ (coming_thread p q (lact p st d bits y.older y.live) ≡ None))
          (pairs ls)
      target s none h = pair_both (λ y f k q. by y f k q (q == s) refl) (pairs ls) h (known_pairs ls ks)
        where
          by : (y : Pair) → Each (λ k. Behind p s k.thread.stage) (next_live p st d bits y.older y.live)
              → Known p flows st d bits arrays y.older y.live → (q : ℕ) (c : Bool) → (q == s) ≡ c
              → (coming_thread p q (lact p st d bits ls l) ≡ None) ⊎ (coming_thread p q (lact p st d bits y.older y.live) ≡ None)
          by y f k q true e =
              inr (comes_none p flows st d bits arrays y.older y.live q k (find_none s q (next_live p st d bits y.older y.live) f (sym (eqb-true _ _ e))))
          by y f k q false e = inl (none q (eqb-false _ _ e))

      stays_none : (did p d bits ls l).moves ≡ false → (q : ℕ) → (q ≡ l.thread.stage → ⊥) → coming_thread p q (lact p st d bits ls l) ≡ None
      stays_none e q n =
          ap
          (λ c. if c
          then (if Cycle.is_stage q (next_stage p l.thread.stage (deeds_of p st bits l)) then Some (Cycle.thread_after (lact p st d bits ls l)) else None)
          else (if l.thread.stage == q then Some (with_answers p st bits (seat l)) else None)) e
          ∙ off (l.thread.stage == q) refl
        where
          off : (c : Bool) → (l.thread.stage == q) ≡ c → (if c then Some (with_answers p st bits (seat l)) else None) ≡ None
          off true i = absurd (n (sym (eqb-true _ _ i)))
          off false i = refl

      moves_none : (did p d bits ls l).moves ≡ true → (r : Option ℕ)
          → next_stage p l.thread.stage (deeds_of p st bits l) ≡ r → (q : ℕ) → (Cycle.is_stage q r ≡ false)
          → coming_thread p q (lact p st d bits ls l) ≡ None
      moves_none e r i q f =
          ap
          (λ c. if c
          then (if Cycle.is_stage q (next_stage p l.thread.stage (deeds_of p st bits l))
          then Some (Cycle.thread_after (lact p st d bits ls l)) else None)
          else (if l.thread.stage == q then Some (with_answers p st bits (seat l)) else None)) e
          ∙ ap (λ c. if c then Some (Cycle.thread_after (lact p st d bits ls l)) else None) (ap (Cycle.is_stage q) i ∙ f)

      out : (did p d bits ls l).moves ≡ true → (r : Option ℕ)
          → goes_to (stage_at p l.thread.stage).next (work_of_live p d bits ls l).env ≡ r
          → EachPair (λ y. (q : ℕ) → (coming_thread p q (lact p st d bits ls l) ≡ None) ⊎ (coming_thread p q (lact p st d bits y.older y.live) ≡ None))
          (pairs ls)
      out e None i = pair_map (λ y f q. inl (moves_none e None (same_next ∙ i) q refl)) (pairs ls) (known_pairs ls ks)
        where
          same_next : next_stage p l.thread.stage (deeds_of p st bits l) ≡ goes_to (stage_at p l.thread.stage).next (work_of_live p d bits ls l).env
          same_next = ap (λ (w : Work). goes_to (stage_at p l.thread.stage).next w.env) (sym (like_here p flows st d bits arrays ls l k).is)
      out e (Some s) i =
          target s (λ q n. moves_none e (Some s) (same_next ∙ i) q (off q n))
          (become_move p flows st d bits arrays l.thread.stage s (leads_of p flows st d bits arrays ls l k s i) ls ks b
          (subst (λ r. Derived.can_enter p (dacts p d bits ls) r ≡ true) i (enters_here p flows st d bits arrays ls l e)))
        where
          same_next : next_stage p l.thread.stage (deeds_of p st bits l) ≡ goes_to (stage_at p l.thread.stage).next (work_of_live p d bits ls l).env
          same_next = ap (λ (w : Work). goes_to (stage_at p l.thread.stage).next w.env) (sym (like_here p flows st d bits arrays ls l k).is)

          off : (q : ℕ) → (q ≡ s → ⊥) → (s == q) ≡ false
          off q n = by (s == q) refl
            where
              by : (c : Bool) → (s == q) ≡ c → (s == q) ≡ false
              by true j = absurd (n (sym (eqb-true _ _ j)))
              by false j = j

      at : (c : Bool) → (did p d bits ls l).moves ≡ c
          → EachPair (λ y. (q : ℕ) → (coming_thread p q (lact p st d bits ls l) ≡ None) ⊎ (coming_thread p q (lact p st d bits y.older y.live) ≡ None))
          (pairs ls)
      at true e = out e (goes_to (stage_at p l.thread.stage).next (work_of_live p d bits ls l).env) refl
      at false e = target l.thread.stage (stays_none e) (become_stay p flows st d bits arrays l.thread.stage ls ks b)

  -- live threads that each stand behind all older ones may be taken by stages or by age
  pub swaps_all : (n : ℕ) (ls : List Live) → AllKnown p flows st d bits arrays ls → Ordered p ls → Falls n ls → Swaps ls
  swaps_all n [] k o f = tt
  swaps_all n (l ∷ ls) k o f = (
    pair_both (λ y h g. λ low. record { known_x = k.0; known_y = h.0; numbers = h.1; behind = h.2; low = low; apart = g }) (pairs ls)
        (three ls k.1 (falls_each l.number ls f.1) o.0) (apart_all l ls k.0 k.1 o.0),
    swaps_all l.number ls k.1 o.1 f.1,
  )
    where
      three : (xs : List Live) → AllKnown p flows st d bits arrays xs → Each (λ k. k.number < l.number) xs
          → Each (λ k. Behind p l.thread.stage k.thread.stage) xs
          → EachPair (λ y. Known p flows st d bits arrays y.older y.live × (y.live.number < l.number) × Behind p l.thread.stage y.live.thread.stage) (pairs xs)
      three [] k f o = tt
      three (x ∷ xs) k f o = ((k.0, f.0, o.0), three xs k.1 f.1 o.1)

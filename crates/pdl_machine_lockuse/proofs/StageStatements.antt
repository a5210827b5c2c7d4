-- The statements of a thread's stage, one after another: reads are ready where its blocks are, what is released is held no more, and a verify has as many arguments as the guess.
use Rattle.std.proofs.Common.{◌≡◌, refl, sym, ap, ap₂, ◌∙◌, subst, ℕ, suc, ◌<◌, Bool, true, false, ◌&&◌, ◌||◌, not, List, [], ◌∷◌, ◌++◌, length, Option, None, Some, arith, cond, nat_le, slice_index}
use Rattle.std.proofs.lemmas.Bool.{false≢true, leb-true, ltb-true, eqb-true}
use Rattle.pdl_semantics.specs.Flat.{list_all, Op, Bind, CombRead, DelayedRead, ReserveWrite, Block, Release, Call, SpecCall, Verify, Stmt, Expr, Pipe, all_hold, value_of, values_of}
use Rattle.pdl_semantics.specs.Stages.{onpath, mem_at, reserve_stage, commit_stage, verify_stage}
use Rattle.pdl_semantics.specs.Locks.{read_ready, write_ready}
use Rattle.pdl_semantics.specs.Machine.{State, Blocked, Deeds, all_values, deeds_after, is_held, older_write, word_for, same_args, checked_args}
use Rattle.pdl_semantics.specs.Moves.{block_ready, blocks_ready, have_room}
use Rattle.pdl_semantics.proofs.Readiness.{plain_ready}
use Rattle.pdl_theory_turns.specs.Alone.{answered_op}
use Rattle.pdl_theory_turns.specs.Scans.{no_guards, Phase, next_phase, Scan, is_plain, is_address, has_location, scan_after, op_ok, reads_ok, location}
use Rattle.pdl_theory_turns.specs.GuessScans.{Making, next_making, making_ok, makings_ok, is_unmade, is_guessed, stands_at, stands_before}
use Rattle.pdl_theory_turns.proofs.Guesses.{same_args_eq}
use Rattle.pdl_theory_turns.specs.Facts.{looked_all}
use Rattle.pdl_theory_turns.proofs.Writes.{and_left, and_right}
use Rattle.pdl_theory_turns.proofs.Surroundings.{Right, AllIn, right_set}
use Rattle.pdl_theory_simulation.proofs.FlowFacts.{use_ok, uses_ok}
use Rattle.pdl_machine_facts.specs.Slots.{locks_ready}
use Rattle.pdl_machine_facts.specs.Use.{is_early, IsOpFine, AreFine}
use Rattle.pdl_machine_facts.proofs.StatementUses.{IsAlong}
use Rattle.pdl_machine_lockuse.proofs.FewerReserves.{room_before}
use Rattle.pdl_machine_lockuse.specs.Careful.{passes_on}
use Rattle.pdl_machine_lockuse.proofs.HeldLocations.{right_at, Covers, covers_op, held_does, HeldOnce, held_once, released_here, once_op}

-- in V, as long as a guess isn't verified, nothing has failed
abbrev pub Calm : Option ℕ → ℕ → Making → Deeds → Type 0
Calm v s g d = stands_at v s ≡ true → is_guessed g ≡ true → d.fails ≡ false

not_both : {R : Type 0} → (v : Option ℕ) (s : ℕ) → stands_at v s ≡ true → stands_before v s ≡ true → R
not_both None s a b = absurd (false≢true a)
not_both (Some v) s a b = let e = eqb-true s v a in let l = ltb-true s v b in absurd (omega (arith, e, l))

at_stage : (v : Option ℕ) (s : ℕ) → stands_at v s ≡ true → v ≡ Some s
at_stage None s h = absurd (false≢true h)
at_stage (Some v) s h = ap (λ i. Some i) (sym (eqb-true s v h))

stage_after : (o : Option ℕ) (s : ℕ) → stands_before o s ≡ true → (v : ℕ) × (o ≡ Some v) × (s < v)
stage_after None s h = absurd (false≢true h)
stage_after (Some v) s h = (v, refl, ltb-true s v h)

-- where all of a list and one more pass, all of the list pass, and that one
pub all_last : {X : Type 0} → (test : X → Bool) (xs : List X) (x : X)
    → list_all test (xs ++ x ∷ []) ≡ true → (list_all test xs ≡ true) × (test x ≡ true)
all_last test [] x h = (refl, and_left (test x) true h)
all_last test (y ∷ xs) x h =
    let r = all_last test xs x (and_right (test y) _ h) in
    (ap₂ (λ a b. a && b) (and_left (test y) (list_all test (xs ++ x ∷ [])) h) r.0, r.1)

-- there are as many values as arguments
pub values_long : (es : List Expr) (env : List ℕ) → length (values_of es env) ≡ length es
values_long [] env = refl
values_long (e ∷ es) env = ap suc (values_long es env)

module _ (p : Pipe) (st : State) (n : ℕ) where
  -- a read at this address of the memory is ready
  abbrev pub Clean : ℕ → ℕ → Type 0
  Clean m a = read_ready (mem_at p m).lock (older_write st n m a) ≡ true

  -- before a statement of stage s the blocked locations are clean, where the locks let the thread move
  abbrev pub RightIf : ℕ → Scan → Deeds → Type 0
  RightIf s c d = locks_ready p st n d ≡ true → Right p s Clean c.blocked d.env

  -- a read that the scan passes is ready, as long as the locks let the thread move
  pub read_here : (s : ℕ) (c : Scan) (x m a : ℕ) (d : Deeds) → op_ok p s c (CombRead x m a) ≡ true → RightIf s c d → locks_ready p st n d ≡ true
      → read_ready (mem_at p m).lock (older_write st n m (slice_index d.env a)) ≡ true
  read_here s c x m a d h r k =
      at (is_plain (mem_at p m).lock) refl (has_location c.blocked m a) refl (nat_le s (commit_stage p m)) refl (and_right (not (is_address c.blocked x)) _ h)
    where
      at : (b : Bool) → is_plain (mem_at p m).lock ≡ b → (o : Bool) → has_location c.blocked m a ≡ o → (q : Bool) → nat_le s (commit_stage p m) ≡ q
          → (b || (o && q)) ≡ true → read_ready (mem_at p m).lock (older_write st n m (slice_index d.env a)) ≡ true
      at true e o f q g t = plain_ready (mem_at p m).lock _ e
      at false e true f true g t = right_at p s Clean c.blocked d.env m a f (leb-true s (commit_stage p m) g) (r k)
      at false e true f false g t = absurd (false≢true t)
      at false e false f q g t = absurd (false≢true t)

  -- after a statement that the scan passes, the blocked locations are still clean
  pub right_next : (s : ℕ) (c : Scan) (op : Op) (d : Deeds) → op_ok p s c (answered_op op) ≡ true → Covers c.held d.held → RightIf s c d
      → RightIf s (scan_after (answered_op op) c) (deeds_after (word_for st n) op d)
  right_next s c (Bind x e) d h f r = λ k. right_set p s Clean c.blocked d.env x (value_of e d.env) h (r k)
  right_next s c (CombRead x m a) d h f r =
      λ k. right_set p s Clean c.blocked d.env x (word_for st n m (slice_index d.env a)) (and_left (not (is_address c.blocked x)) _ h) (r k)
  right_next s c (DelayedRead x m a) d h f r = r
  right_next s c (Verify last args) d h f r = at (same_args (checked_args last args d) d.guess)
    where
      at : (b : Bool) → RightIf s c (cond b d (record d { child = Some (checked_args last args d); guess = checked_args last args d; fails = true }))
      at true = r
      at false = r
  right_next s c (ReserveWrite m a) d h f r =
      λ k. r (ap₂ (λ x y. x && y) (and_left (blocks_ready p st n d) _ k)
      (room_before p st d (deeds_after (word_for st n) (ReserveWrite m a) d) _ refl (and_right (blocks_ready p st n d) _ k)))
  right_next s c (Block m a) d h f r = λ k.
      let b : Blocked = record { mem = m; address = slice_index d.env a; writes = is_held d.held m a } in
      let q = all_last (λ b. block_ready p st n b) d.blocks b (and_left (list_all (λ b. block_ready p st n b) (d.blocks ++ b ∷ [])) _ k) in
      at (has_location c.held m a) refl (is_held d.held m a) refl q.1
      (r (ap₂ (λ x y. x && y) q.0 (and_right (list_all (λ b. block_ready p st n b) (d.blocks ++ b ∷ [])) (have_room p st d) k)))
    where
      at : (o : Bool) → has_location c.held m a ≡ o → (w : Bool) → is_held d.held m a ≡ w
          → cond w (write_ready (mem_at p m).lock (older_write st n m (slice_index d.env a)))
          (read_ready (mem_at p m).lock (older_write st n m (slice_index d.env a))) ≡ true
          → Right p s Clean c.blocked d.env
          → Right p s Clean (cond o c (record { held = c.held; blocked = location m a ∷ c.blocked })).blocked d.env
      at true e w g i k = k
      at false e true g i k = absurd (false≢true (sym e ∙ f m a g))
      at false e false g i k = (leb-true (reserve_stage p m) s h, (λ late. i), k)
  right_next s c _ d h f r = r

  -- a guess has as many arguments as it should
  guess_next : (size : ℕ) (g : Making) (op : Op) (d : Deeds) → passes_on size op ≡ true → (is_guessed g ≡ true → length d.guess ≡ size)
      → is_guessed (next_making g (answered_op op)) ≡ true → length (deeds_after (word_for st n) op d).guess ≡ size
  guess_next size g (Call args) d h f i = absurd (false≢true i)
  guess_next size g (SpecCall args) d h f i = values_long args (all_values d) ∙ eqb-true (length args) size h
  guess_next size g (Verify true args) d h f i = absurd (false≢true i)
  guess_next size g (Verify false args) d h f i = at (same_args (checked_args false args d) d.guess) refl
    where
      at : (b : Bool) → same_args (checked_args false args d) d.guess ≡ b
          → length (cond b d (record d { child = Some (checked_args false args d); guess = checked_args false args d; fails = true })).guess ≡ size
      at true e = ap length (sym (same_args_eq (checked_args false args d) d.guess e)) ∙ values_long args (all_values d) ∙ eqb-true (length args) size h
      at false e = values_long args (all_values d) ∙ eqb-true (length args) size h
  guess_next size g (DelayedRead x m a) d h f i = f i
  guess_next size g _ d h f i = f i

  -- in V, as long as the guess isn't verified, nothing has failed in the stage
  calm_next : (v : Option ℕ) (s : ℕ) (g : Making) (op : Op) (d : Deeds) → making_ok v g s (answered_op op) ≡ true → Calm v s g d
      → Calm v s (next_making g (answered_op op)) (deeds_after (word_for st n) op d)
  calm_next v s g (Call args) d h z i j = absurd (false≢true j)
  calm_next v s g (SpecCall args) d h z i j = absurd (not_both v s i (and_right (is_unmade g) (stands_before v s) h))
  calm_next v s g (Verify true args) d h z i j = absurd (false≢true j)
  calm_next v s g (Verify false args) d h z i j = absurd (not_both v s i (and_right (is_guessed g) (stands_before v s) h))
  calm_next v s g (DelayedRead x m a) d h z i j = z i j
  calm_next v s g _ d h z i j = z i j

  op_fine : (size s : ℕ) (v : Option ℕ) (c : Scan) (ph : ℕ → Phase) (g : Making) (op : Op) (d : Deeds) → verify_stage p.stmts ≡ v
      → op_ok p s c (answered_op op) ≡ true
      → ((m : ℕ) → HeldOnce m (ph m) d.held) → making_ok v g s (answered_op op) ≡ true → passes_on size op ≡ true
      → (is_guessed g ≡ true → length d.guess ≡ size) → Calm v s g d → RightIf s c d → locks_ready p st n d ≡ true → IsOpFine p st n s op d
  op_fine size s v c ph g (CombRead x m a) d is h o q y f z r k = read_here s c x m a d h r k
  op_fine size s v c ph g (Release m a) d is h o q y f z r k = released_here m a d.held (held_once m (ph m) d.held (o m) a)
  op_fine size s v c ph g (Verify true args) d is h o q y f z r k = record {
    long = f (and_left (is_guessed g) (stands_at v s) q) ∙ sym (eqb-true (length args) size y);
    calm = z (and_right (is_guessed g) (stands_at v s) q) (and_left (is_guessed g) (stands_at v s) q);
    stands = is ∙ at_stage v s (and_right (is_guessed g) (stands_at v s) q);
  }
  op_fine size s v c ph g (Verify false args) d is h o q y f z r k =
      let e = stage_after v s (and_right (is_guessed g) (stands_before v s) q) in
      record {
        long = f (and_left (is_guessed g) (stands_before v s) q) ∙ sym (eqb-true (length args) size y);
        early = (e.0, is ∙ e.1, e.2);
      }
  op_fine size s v c ph g (DelayedRead x m a) d is h o q y f z r k = tt
  op_fine size s v c ph g _ d is h o q y f z r k = tt

  -- where a path's statements of one stage pass the scans, each of them is early and fine
  pub fine_all : (size s : ℕ) (v : Option ℕ) (c : Scan) (path : List ℕ) (ph : ℕ → Phase) (g : Making) (xs : List Stmt) (d : Deeds)
      → verify_stage p.stmts ≡ v → AllIn s xs → IsAlong path (word_for st n) xs d
      → reads_ok p c (looked_all (onpath path xs)) ≡ true → ((m : ℕ) → uses_ok m (ph m) (onpath path xs) ≡ true)
      → makings_ok v g (looked_all (onpath path xs)) ≡ true → list_all (λ (x : Stmt). passes_on size x.op) (onpath path xs) ≡ true
      → list_all (is_early p) (onpath path xs) ≡ true
      → ((m : ℕ) → HeldOnce m (ph m) d.held) → Covers c.held d.held → (is_guessed g ≡ true → length d.guess ≡ size) → Calm v s g d
      → RightIf s c d → AreFine p st n xs d
  fine_all size s v c path ph g [] d is i q h k w y e o f u l r = tt
  fine_all size s v c path ph g (x ∷ xs) d is i q h k w y e o f u l r =
      at (all_hold x.guards d.env) (all_hold x.guards path) q.0 q.1 h k w y e
      (λ c ph g d q h k w y e o f u l r. fine_all size s v c path ph g xs d is i.1 q h k w y e o f u l r)
    where
      Fine : Bool → Type 0
      Fine b =
          (b ≡ true → locks_ready p st n d ≡ true → (is_early p x ≡ true) × IsOpFine p st n x.stage x.op d)
          × AreFine p st n xs (cond b (deeds_after (word_for st n) x.op d) d)

      at : (b t : Bool) → b ≡ t → IsAlong path (word_for st n) xs (cond b (deeds_after (word_for st n) x.op d) d)
          → reads_ok p c (looked_all (cond t (record x { guards = [] } ∷ onpath path xs) (onpath path xs))) ≡ true
          → ((m : ℕ) → uses_ok m (ph m) (cond t (record x { guards = [] } ∷ onpath path xs) (onpath path xs)) ≡ true)
          → makings_ok v g (looked_all (cond t (record x { guards = [] } ∷ onpath path xs) (onpath path xs))) ≡ true
          → list_all (λ (x : Stmt). passes_on size x.op) (cond t (record x { guards = [] } ∷ onpath path xs) (onpath path xs)) ≡ true
          → list_all (is_early p) (cond t (record x { guards = [] } ∷ onpath path xs) (onpath path xs)) ≡ true
          →
          ((c : Scan) (ph : ℕ → Phase) (g : Making) (d : Deeds) → IsAlong path (word_for st n) xs d
          → reads_ok p c (looked_all (onpath path xs)) ≡ true → ((m : ℕ) → uses_ok m (ph m) (onpath path xs) ≡ true)
          → makings_ok v g (looked_all (onpath path xs)) ≡ true → list_all (λ (x : Stmt). passes_on size x.op) (onpath path xs) ≡ true
          → list_all (is_early p) (onpath path xs) ≡ true
          → ((m : ℕ) → HeldOnce m (ph m) d.held) → Covers c.held d.held →
          (is_guessed g ≡ true → length d.guess ≡ size) → Calm v s g d → RightIf s c d → AreFine p st n xs d)
          → Fine b
      at true false z q h k w y e go = absurd (cc z)
      at false true z q h k w y e go = absurd (cc z)
      at false false z q h k w y e go = ((λ b. absurd (false≢true b)), go c ph g d q h k w y e o f u l r)
      at true true z q h k w y e go =
          let ok : op_ok p s c (answered_op x.op) ≡ true =
          subst (λ j. op_ok p j c (answered_op x.op) ≡ true) i.0 (and_right (no_guards []) _ (and_left _ _ h)) in
          let made : making_ok v g s (answered_op x.op) ≡ true = subst (λ j. making_ok v g j (answered_op x.op) ≡ true) i.0 (and_left _ _ w) in
          let held = held_does (word_for st n) x.op d in (
            (λ a b. (
              and_left (is_early p x) _ e,
              subst (λ j. IsOpFine p st n j x.op d) (sym i.0) (op_fine size s v c ph g x.op d is ok o made (and_left _ _ y) u l r b),
            )),
            go (scan_after (answered_op x.op) c) (λ m. next_phase m (ph m) x.op) (next_making g (answered_op x.op)) (deeds_after (word_for st n) x.op d) q
                (and_right (no_guards [] && op_ok p x.stage c (answered_op x.op)) _ h) (λ m. and_right (use_ok m (ph m) x.op) _ (k m))
                (and_right (making_ok v g x.stage (answered_op x.op)) _ w) (and_right (passes_on size x.op) _ y) (and_right (is_early p x) _ e)
                (λ m. subst (HeldOnce m (next_phase m (ph m) x.op)) (sym held) (once_op m (ph m) x.op d.held (and_left _ _ (k m)) (o m)))
                (subst (Covers (scan_after (answered_op x.op) c).held) (sym held) (covers_op c x.op d.held f)) (guess_next size g x.op d (and_left _ _ y) u)
                (calm_next v s g x.op d made l)
                (right_next s c x.op d ok f r),
          )

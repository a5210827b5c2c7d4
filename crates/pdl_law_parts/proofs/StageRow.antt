-- One row of a stage: what it may rest on, where its guards are taken and where they aren't.
use Rattle.std.proofs.Common.{◌≡◌, ℕ, ◌+◌, ◌<◌, ◌≤◌, Bool, true, false, IsTrue, ◌&&◌, ◌||◌, List, [], ◌∷◌, ◌++◌, map, length, refl, sym, ap, ap₂, ◌∙◌, subst}
use Rattle.std.specs.Prelude.{nat_le, slice_index, slice_set, slice_index_or, ◌==◌, if◌then◌else◌}
use Rattle.std.proofs.lemmas.Bool.{or_left, or_right, and_parts, eqb-true, eqb-false, leb-true}
use Rattle.std.proofs.lemmas.List.{get_or-set_same, get_or-set_other, length-set}
use Rattle.pdl_word.specs.Words.{bit}
use Rattle.pdl_semantics.specs.Flat.{Expr, Op, Guard, Stmt, Pipe, is_delayed, all_hold, takes_branch, values_of}
use Rattle.pdl_semantics.specs.Stages.{mem_at, commit_stage, is_verify}
use Rattle.pdl_semantics.specs.Locks.{read_ready}
use Rattle.pdl_semantics.specs.Machine as machine
use Rattle.pdl_semantics.specs.Machine.{HeldLocation, Deeds, Reserved, reserves_of, deeds_after, is_held, let_go, older_write, word_for, with_kept}
use Rattle.pdl_semantics.specs.Cycle.{new_entries}
use Rattle.pdl_semantics.specs.Sound.{entries_by}
use Rattle.pdl_semantics.specs.SecondWrites.{reserves_twice}
use Rattle.pdl_net.specs.Circuit.{Circuit, State}
use Rattle.pdl_net.specs.Signal.{Signal}
use Rattle.pdl_net.specs.Well.{Suits}
use Rattle.pdl_lockapi.specs.Laws.{holds_ticket, RoomLaw}
use Rattle.pdl_lockapi.specs.Second.{Room2Law}
use Rattle.pdl_lockapi.specs.Forget.{as_lock}
use Rattle.pdl_machine_facts.specs.Slots.{locks_ready}
use Rattle.pdl_machine_facts.specs.Use.{is_early, IsOpFine}
use Rattle.pdl_law_parts.specs.declared.Mark.{Mark}
use Rattle.pdl_law_parts.specs.declared.Mark.TheVariants.{Held, Late}
use Rattle.pdl_law_parts.specs.Lives.{uses_var, are_using, guards_use, op_uses, row_uses, asks_mark, lives_from, mark_from, verifies_from}
use Rattle.pdl_law_parts.specs.Walk.{Locks, Row, Walk, is_locked, taken_in, AgreeOn, HaveValues, IsWord, IsOp, both, if_on, with_var, with_mark, walk_after}
use Rattle.pdl_law_parts.specs.Rows.{HasRow}
use Rattle.pdl_law_parts.specs.Advice.{advises_var, is_advised_in, op_plainly, row_plainly}
use Rattle.pdl_law_parts.specs.Views.{View}
use Rattle.pdl_law_parts.specs.Stands.{IsEnv, IsHolding, AreLate, TellsLate, StandsLock, IsSo, MarksLate, Follows}
use Rattle.pdl_law_parts.specs.Served.{at_most}
use Rattle.pdl_law_parts.proofs.Signals.{both_at, if_on_at}
use Rattle.pdl_law_parts.proofs.StageLooks.{read_is, word_is}
use Rattle.pdl_law_parts.proofs.AdvisedValues.{plain_value, over_same, plain_env}
use Rattle.pdl_word.proofs.Numbers.{eqb_self}
use Rattle.pdl_semantics.specs.PendingLists.{count_older}

-- TESTS

-- what is let go is another location's no matter
pub other_held : (ls : List HeldLocation) (m a n b : ℕ) → ((m == n) && (a == b)) ≡ false → is_held (let_go ls m a) n b ≡ is_held ls n b
other_held [] m a n b e = refl
other_held (l ∷ ls) m a n b e = at ((l.mem == m) && (l.var == a)) refl (other_held ls m a n b e)
  where
    at : (t : Bool) → ((l.mem == m) && (l.var == a)) ≡ t → is_held (let_go ls m a) n b ≡ is_held ls n b
        → is_held (if t then ls else l ∷ let_go ls m a) n b ≡ (((l.mem == n) && (l.var == b)) || is_held ls n b)
    at true f h =
        let g = and_parts (l.mem == m) (l.var == a) f in
        sym (ap (λ x. x || is_held ls n b) (ap₂ (λ i j. (i == n) && (j == b)) (eqb-true l.mem m g.0) (eqb-true l.var a g.1) ∙ e))
    at false f h = ap (λ x. ((l.mem == n) && (l.var == b)) || x) h

-- a row of stage k, whose variables and marks of locations live there
pub record IsLive (p : Pipe) (k : ℕ) (x : Stmt) : Type 0 where
  pub vars : (y : ℕ) → row_uses x y ≡ true → lives_from p k y ≡ true
  pub marks : (mark : Mark) (m a : ℕ) → asks_mark mark x.op m a ≡ true → mark_from p k mark m a ≡ true
  pub verify : is_verify x.op ≡ true → verifies_from p k ≡ true
  pub row : HasRow p x.op
  -- what the row binds or uses plainly isn't advised, and what it binds to advice is
  pub plain : (y : ℕ) → row_plainly x y ≡ true → is_advised_in p y ≡ false
  pub advised : (y : ℕ) → advises_var x.op y ≡ true → is_advised_in p y ≡ true

-- what the guards of a row use lives in its stage, and isn't advised
pub guards_live : (p : Pipe) (k : ℕ) (x : Stmt) → IsLive p k x → (y : ℕ) → guards_use x.guards y ≡ true
    → (lives_from p k y ≡ true) × (is_advised_in p y ≡ false)
guards_live p k x live y u = (
  live.vars y (or_left (guards_use x.guards y) (op_uses x.op y) u),
  live.plain y (or_left (guards_use x.guards y) (op_plainly x.op y) u),
)

-- the thread of a stage, in a state of the netlist that stands for the machine's
pub record IsAround (c : Circuit) (p : Pipe) (ls : Locks) (vs : ℕ → View) (s : State) (st : machine.State) (k thread : ℕ) : Type 0 where
  pub suits : Suits c s
  pub kind : (m : ℕ) → is_locked p m ≡ true → (mem_at p m).lock ≡ as_lock (ls.kind m) (ls.size m)
  pub room : (m : ℕ) → is_locked p m ≡ true → RoomLaw (ls.stands m) (ls.size m) (ls.room m)
  pub room2 : (m : ℕ) → is_locked p m ≡ true → Room2Law (ls.stands m) (ls.size m) (ls.room2 m)
  pub twice : (m : ℕ) → m < length p.mems → ls.twice m ≡ reserves_twice m p.stmts
  pub ordered : (m : ℕ) → Rattle.pdl_semantics.specs.PendingLists.AreOrdered 0 (machine.lock_of st m)
  pub unlocked : (m : ℕ) → is_locked p m ≡ false → machine.lock_of st m ≡ []
  pub words : (m : ℕ) → is_locked p m ≡ false → is_delayed (mem_at p m).kind ≡ false → (a : ℕ) → a < (mem_at p m).depth
      → st.arrays m a ≡ slice_index (slice_index_or s.arrays (ls.array m) []) a
  pub locks : (m : ℕ) → is_locked p m ≡ true → StandsLock p ls vs s st m
  pub tickets : (m : ℕ) (e : is_locked p m ≡ true) → k ≤ commit_stage p m
      → holds_ticket (ls.bits m) ((vs k).tickets m) s ((locks m e).base + count_older thread (machine.lock_of st m))

-- of each memory with a lock a thread reserves no more writes than it may have pending, and has none pending before where it reserves one
pub record MayReserve (p : Pipe) (st : machine.State) (thread : ℕ) (d : Deeds) : Type 0 where
  pub few : (m : ℕ) → is_locked p m ≡ true → reserves_of m d.reserves ≤ at_most p m
  pub fresh : (m : ℕ) → is_locked p m ≡ true → 1 ≤ reserves_of m d.reserves → entries_by thread (machine.lock_of st m) ≡ []

-- guards are taken as the signals say
taken_same : (gs : List Guard) (w : Walk) (s : State) (env : List ℕ)
    → ((x : ℕ) → guards_use gs x ≡ true → slice_index env x ≡ (w.vars x).value s) → all_hold gs env ≡ taken_in gs w s
taken_same [] w s env h = refl
taken_same (g ∷ gs) w s env h =
    ap₂ (λ n b. takes_branch g.first n && b) (h g.var (or_left (g.var == g.var) (guards_use gs g.var) (eqb_self g.var)))
    (taken_same gs w s env (λ x u. h x (or_right (g.var == x) (guards_use gs x) u)))

-- what a thread has done after an operation, where it is taken
abbrev pub done : machine.State → ℕ → Bool → Op → Deeds → Deeds
done st thread b op d = if b then deeds_after (word_for st thread) op d else d

module _ (c : Circuit) (p : Pipe) (ls : Locks) (vs : ℕ → View) (s : State) (st : machine.State) (k thread : ℕ) (around : IsAround c p ls vs s st k thread) where
  -- a row under these guards, after deeds that have come so far
  module _ (gs : List Guard) (r : Row) (w : Walk) (d : Deeds)
      (glive : (y : ℕ) → guards_use gs y ≡ true → (lives_from p k y ≡ true) × (is_advised_in p y ≡ false))
      (on : (s : State) → Suits c s → r.on.value s ≡ bit (taken_in gs w s)) (q : Follows p k s st thread w d) where
    -- the guards hold for the thread's values just where they are taken by the signals
    pub guards_same : IsSo p k s w d → all_hold gs d.env ≡ taken_in gs w s
    guards_same h = taken_same gs w s d.env (λ y u. let g = glive y u in plain_env p k s w d y h g.0 g.1)

    -- where the guards hold for the thread's values, they are taken by the signals
    pub is_taken : IsSo p k s w d → all_hold gs d.env ≡ true → taken_in gs w s ≡ true
    is_taken h e = sym (guards_same h) ∙ e

    -- where the guards don't hold for the thread's values, they aren't taken by the signals
    pub is_not : IsSo p k s w d → all_hold gs d.env ≡ false → taken_in gs w s ≡ false
    is_not h e = sym (guards_same h) ∙ e

    -- the row's condition tells whether the guards hold for the thread's values
    pub on_at : IsSo p k s w d → r.on.value s ≡ bit (all_hold gs d.env)
    on_at h = on s around.suits ∙ ap bit (sym (guards_same h))

    -- where nothing is reserved and no mark of late locations changes, the marks go on telling which are late
    pub still_late : (w' : Walk) (d' : Deeds) → w'.marks Late ≡ w.marks Late → d'.reserves ≡ d.reserves
        → MarksLate p k s st thread w d → MarksLate p k s st thread w' d'
    still_late w' d' e f late m low twice early =
        subst (λ (g : ℕ → ℕ → Signal). (a : ℕ) → mark_from p k Late m a ≡ true
        → TellsLate s (g m a) thread a (entries_by thread (machine.lock_of st m) ++ new_entries m thread d'.reserves)) (sym e)
        (subst (λ (rs : List Reserved). AreLate p k s w.marks thread m (entries_by thread (machine.lock_of st m) ++ new_entries m thread rs)) (sym f)
        (late m low twice early))

    -- a row that asks nothing of the locks, and reserves nothing
    pub quiet : (op : Op) (w' : Walk) → w'.ready ≡ w.ready → w'.marks Late ≡ w.marks Late
        → ((b : Bool) → (locks_ready p st thread (done st thread b op d) ≡ locks_ready p st thread d)
        × ((done st thread b op d).reserves ≡ d.reserves))
        → (IsSo p k s w d → locks_ready p st thread d ≡ true → (b : Bool) → all_hold gs d.env ≡ b → IsSo p k s w' (done st thread b op d))
        → Follows p k s st thread w' (done st thread (all_hold gs d.env) op d)
    quiet op w' e late f g =
        let b = all_hold gs d.env in
        record {
          ready = ap (λ (h : Signal). h.value s) e ∙ q.ready ∙ ap bit (sym (f b).0);
          so = λ z. let y = sym (f b).0 ∙ z in g (q.so y) y b refl;
          late = λ z. still_late w' (done st thread b op d) late (f b).1 (q.late (sym (f b).0 ∙ z));
        }

    -- a row that asks this of them where it is on the path
    pub asking : (op : Op) (w' : Walk) (f : Signal) (y : Bool) → w'.ready ≡ both w.ready (if_on r.on f)
        → ((b : Bool) → all_hold gs d.env ≡ b → locks_ready p st thread (done st thread b op d) ≡ (locks_ready p st thread d && (if b then y else true)))
        → (IsSo p k s w d → locks_ready p st thread d ≡ true → all_hold gs d.env ≡ true → f.value s ≡ bit y)
        → (IsSo p k s w d → (b : Bool) → all_hold gs d.env ≡ b → IsSo p k s w' (done st thread b op d))
        → (IsSo p k s w d → MarksLate p k s st thread w d → (b : Bool) → all_hold gs d.env ≡ b → MarksLate p k s st thread w' (done st thread b op d))
        → Follows p k s st thread w' (done st thread (all_hold gs d.env) op d)
    asking op w' f y e split told g late =
        let b = all_hold gs d.env in
        let before : locks_ready p st thread (done st thread b op d) ≡ true → locks_ready p st thread d ≡ true =
        λ z. (and_parts (locks_ready p st thread d) (if b then y else true) (sym (split b refl) ∙ z)).0 in
        record {
          ready =
              ap (λ (h : Signal). h.value s) e
              ∙ both_at s w.ready (if_on r.on f) (locks_ready p st thread d)
              (if b then y else true) q.ready (λ z. if_on_at s r.on f b y (on_at (q.so z)) (told (q.so z) z))
              ∙ ap bit (sym (split b refl));
          so = λ z. g (q.so (before z)) b refl;
          late = λ z. late (q.so (before z)) (q.late (before z)) b refl;
        }

    -- VARIABLES

    -- where a variable gets a signal of its new value, the signals have the values with that one
    pub set_env : (env : List ℕ) (y v : ℕ) (f : Signal) → y < length env → f.value s ≡ v → IsEnv p k s w.vars env
        → IsEnv p k s (with_var y f w).vars (slice_set env y v)
    set_env env y v f l e h z live = at (z == y) refl
      where
        at : (b : Bool) → (z == y) ≡ b → slice_index (slice_set env y v) z ≡ (if b then f else w.vars z).value s
        at true g = ap (slice_index (slice_set env y v)) (eqb-true z y g) ∙ get_or-set_same env y v 0 l ∙ sym e
        at false g = get_or-set_other env y z v 0 (eqb-false z y g) ∙ h z live

    -- the same where the variable isn't advised: it is set below what is advised
    pub set_plain : (y v : ℕ) (f : Signal) → is_advised_in p y ≡ false → y < length d.env → f.value s ≡ v → IsSo p k s w d
        → IsEnv p k s (with_var y f w).vars (with_kept d.advice (slice_set d.env y v))
    set_plain y v f plain l e h z live = at (z == y) refl
      where
        new : List ℕ
        new = with_kept d.advice (slice_set d.env y v)

        at : (b : Bool) → (z == y) ≡ b → slice_index new z ≡ (if b then f else w.vars z).value s
        at true g =
            ap (slice_index new) (eqb-true z y g) ∙ plain_value p d.advice (slice_set d.env y v) y h.advice plain
            ∙ get_or-set_same d.env y v 0 l ∙ sym e
        at false g =
            over_same d.advice (slice_set d.env y v) d.env z (length-set d.env y v) (get_or-set_other d.env y z v 0 (eqb-false z y g))
            ∙ h.env z live

    -- where a variable gets a signal of the value that it had, the signals still have the same values
    pub keep_env : (env : List ℕ) (y : ℕ) (f : Signal) → f.value s ≡ (w.vars y).value s → IsEnv p k s w.vars env → IsEnv p k s (with_var y f w).vars env
    keep_env env y f e h z live = at (z == y) refl
      where
        at : (b : Bool) → (z == y) ≡ b → slice_index env z ≡ (if b then f else w.vars z).value s
        at true g = h z live ∙ ap (λ i. (w.vars i).value s) (eqb-true z y g) ∙ sym e
        at false g = h z live

    -- LOCATIONS

    -- where one location gets a signal of whether it is held now, and no other location changes, the signals tell what is held
    pub hold : (m a : ℕ) (f : Signal) (new : List HeldLocation)
        → (mark_from p k Held m a ≡ true → f.value s ≡ bit (is_held new m a))
        → ((n b : ℕ) → ((m == n) && (a == b)) ≡ false → is_held new n b ≡ is_held d.held n b)
        → IsHolding p k s w.marks d.held → IsHolding p k s (with_mark Held m a f w.marks) new
    hold m a f new e other h n b live = at ((m == n) && (a == b)) refl
      where
        at : (t : Bool) → ((m == n) && (a == b)) ≡ t → (if t then f else w.marks Held n b).value s ≡ bit (is_held new n b)
        at true g =
            let i = and_parts (m == n) (a == b) g in
            e (subst (λ j. mark_from p k Held j a ≡ true) (sym (eqb-true m n i.0)) (subst (λ j. mark_from p k Held n j ≡ true) (sym (eqb-true a b i.1)) live))
            ∙ ap₂ (λ i j. bit (is_held new i j)) (eqb-true m n i.0) (eqb-true a b i.1)
        at false g = h n b live ∙ ap bit (sym (other n b g))

    -- a memory's word that a row reads is the word that the thread finds
    pub word_at : (m a : ℕ) → is_delayed (mem_at p m).kind ≡ false → IsWord p ls m (w.vars a) ((vs k).tickets m) r.value s
        → k ≤ commit_stage p m → IsTrue (read_ready (mem_at p m).lock (older_write st thread m ((w.vars a).value s)))
        → r.value.value s ≡ word_for st thread m ((w.vars a).value s)
    word_at m a comb word low ready = at (is_locked p m) refl
      where
        at : (b : Bool) → is_locked p m ≡ b → r.value.value s ≡ word_for st thread m ((w.vars a).value s)
        at true e =
            read_is p ls vs s st m (around.kind m e) (around.locks m e) (around.ordered m) thread ((vs k).tickets m)
            (around.tickets m e low) (w.vars a) r.value word e ready
        at false e =
            word_is p ls s st thread m (w.vars a) ((vs k).tickets m) r.value word e (around.unlocked m e)
            (around.words m e comb ((w.vars a).value s) word.reach)

  -- the values of the arguments are those of their signals, where the variables that they use have the signals' values
  pub values_same : (args : List Expr) (fs : List Signal) (w : Walk) (env : List ℕ) → HaveValues args w fs s
      → ((e : Expr) → ((y : ℕ) → uses_var e y ≡ true → are_using args y ≡ true) → AgreeOn e w s env)
      → values_of args env ≡ map (λ (f : Signal). f.value s) fs
  values_same [] [] w env h g = refl
  values_same [] (f ∷ fs) w env h g = absurd h
  values_same (e ∷ es) [] w env h g = absurd h
  values_same (e ∷ es) (f ∷ fs) w env h g =
      ap₂ (λ v l. v ∷ l) (sym (h.0 env (g e (λ y u. or_left (uses_var e y) (are_using es y) u))))
      (values_same es fs w env h.1 (λ a u. g a (λ y i. or_right (uses_var e y) (are_using es y) (u y i))))

  -- where a statement stands in stage k, and no later than in stage n, k is at most n
  pub early : (j n : ℕ) → j ≡ k → nat_le j n ≡ true → k ≤ n
  early j n here e = subst (λ i. i ≤ n) here (leb-true j n e)

  -- a row with this operation: after it the walk tells what the thread does
  abbrev pub FollowsOp : Op → Type 0
  FollowsOp op =
      (j : ℕ) (gs : List Guard) (r : Row) (w : Walk) (d : Deeds)
      → IsLive p k (record { stage = j; guards = gs; op = op })
      → ((s : State) → Suits c s → r.on.value s ≡ bit (taken_in gs w s)) → IsOp c p ls (vs k).tickets gs op w r → j ≡ k
      → (all_hold gs d.env ≡ true → locks_ready p st thread d ≡ true
      → (is_early p (record { stage = j; guards = gs; op = op }) ≡ true) × IsOpFine p st thread j op d)
      → MayReserve p st thread (done st thread (all_hold gs d.env) op d) → Follows p k s st thread w d
      → Follows p k s st thread (walk_after op r ls w) (done st thread (all_hold gs d.env) op d)

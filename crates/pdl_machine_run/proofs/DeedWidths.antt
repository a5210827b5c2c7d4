-- Values, reservations and writes have their widths, so the statements of a typed pipe can be carried out.
use Rattle.std.proofs.Common.{◌≡◌, ◌≢◌, refl, sym, ◌∙◌, subst, ℕ, zero, suc, ◌^◌, ◌<◌, ◌≤◌, Bool, true, false, if◌then◌else◌, ◌==◌, List, [], ◌∷◌, ◌++◌, Some, length, take, slice_index, slice_set, arith}
use Rattle.std.proofs.lemmas.List.{length-set, get_or-set_same, get_or-set_other}
use Rattle.std.proofs.lemmas.Bool.{eqb-true}
use Rattle.pdl_semantics.specs.Flat.{Expr, Op, Bind, CombRead, DelayedRead, Write, ReserveRead, ReserveWrite, Block, Release, Call, SpecCall, Verify, SpecCheck, SpecBarrier, AdviceBind, AdviceRead, AdviceWrite, Stmt, Pipe, all_hold, value_of, values_of}
use Rattle.pdl_semantics.specs.Stages.{in_stage, mem_at}
use Rattle.pdl_semantics.specs.Machine.{Kept, Ask, Advised, Deeds, Reserved, Written, with_kept, all_values, same_args, checked_args, deeds_after, deeds_after_all}
use Rattle.pdl_form.specs.Form.{Form, stmt_at}
use Rattle.pdl_form_types.specs.Stmts.{param_widths, AreWidths, AreArguments, IsTypedOp, AreTypedStmts}
use Rattle.pdl_form_values.specs.Widths.{Fit}
use Rattle.pdl_form_values.proofs.ValueWidths.{fits_in, safe, all_safe, values_count}
use Rattle.pdl_machine_pending.specs.Memory.{Memory}
use Rattle.pdl_machine_pending.proofs.WordBounds.{read_fits}
use Rattle.pdl_machine_run.specs.StageDeeds.{memory_at, word_of, checked_values, IsSafeOp}
use Rattle.pdl_machine_run.specs.Room.{Capacities, IsLarge}
use Rattle.pdl_machine_run.specs.Typed.{AreReserved, AreWritten, AreAdvised, IsReadInto, AreAsked, AreWords, AreFit, AreMemories}
use Rattle.pdl_form_types.proofs.Arguments.{args_count}

-- VALUES

set_below : (ws env : List ℕ) (x v : ℕ) → Fit ws env
    → v < 2 ^ slice_index ws x → x < length env → (y : ℕ) (b : Bool) → (y == x) ≡ b
    → slice_index (slice_set env x v) y < 2 ^ slice_index ws y
set_below ws env x v f h there y true e =
    let same : y ≡ x = eqb-true y x e in
    subst (λ i. slice_index (slice_set env x v) i < 2 ^ slice_index ws i) (sym same)
    (subst (λ u. u < 2 ^ slice_index ws x) (sym (get_or-set_same env x v 0 there)) h)
set_below ws env x v f h there y false e =
    let other : y ≢ x = λ same. grind (arith) in
    subst (λ u. u < 2 ^ slice_index ws y) (sym (get_or-set_other env x y v 0 other)) (f.below y)

-- values have their widths after one of them is set to a value of its width
pub fit_set : (ws env : List ℕ) (x v : ℕ) → Fit ws env → v < 2 ^ slice_index ws x → x < length env → Fit ws (slice_set env x v)
fit_set ws env x v f h there =
    record {
      count = length-set env x v ∙ f.count;
      below = λ y. set_below ws env x v f h there y (y == x) refl;
    }

-- values have their widths after words of the width of their variable are put among them
pub kept_fit : (f : Form) (ks : List Kept) (env : List ℕ) → AreWords f ks → Fit f.widths env → Fit f.widths (with_kept ks env)
kept_fit f [] env h k = k
kept_fit f (x ∷ ks) env h k = kept_fit f ks _ h.2 (fit_set f.widths env x.var x.word k h.1 (subst (λ n. x.var < n) (sym k.count) h.0))

-- the values of deeds that fit have their widths, together with the advised ones
pub whole_fit : (f : Form) (d : Deeds) → AreFit f d → Fit f.widths (all_values d)
whole_fit f d k = kept_fit f d.advice d.env k.advice k.env

-- and so have the values from which a verify or an update takes its arguments
checked_fit : (f : Form) (last : Bool) (d : Deeds) → AreFit f d → Fit f.widths (checked_values last d)
checked_fit f true d k = k.env
checked_fit f false d k = whole_fit f d k

-- there are as many of these arguments as expressions
pub checked_count : (last : Bool) (args : List Expr) (d : Deeds) → length (checked_args last args d) ≡ length args
checked_count true args d = values_count d.env args
checked_count false args d = values_count (all_values d) args

module _ (ws env : List ℕ) (wide : AreWidths ws) (f : Fit ws env) where
  values_below : (ns : List ℕ) (es : List Expr) → AreArguments ws ns es → (x : ℕ) → slice_index (values_of es env) x < 2 ^ slice_index ns x
  values_below [] [] t x = omega arith
  values_below (n ∷ ns) [] t x = absurd t
  values_below [] (e ∷ es) t x = absurd t
  values_below (n ∷ ns) (e ∷ es) t zero = fits_in ws env wide f e n t.0 t.1
  values_below (n ∷ ns) (e ∷ es) t (suc x) = values_below ns es t.2 x

  args_fit : (ns : List ℕ) (es : List Expr) → AreArguments ws ns es → Fit ns (values_of es env)
  args_fit ns es t = record { count = values_count env es ∙ args_count ws ns es t; below = values_below ns es t }

-- the arguments of a verify or an update have the widths of the parameters
checked_fits : (f : Form) → AreWidths f.widths → (last : Bool) (args : List Expr) (d : Deeds)
    → AreArguments f.widths (param_widths f) args → AreFit f d → Fit (param_widths f) (checked_args last args d)
checked_fits f wide true args d t k = args_fit f.widths d.env wide k.env (param_widths f) args t
checked_fits f wide false args d t k = args_fit f.widths (all_values d) wide (whole_fit f d k) (param_widths f) args t

-- DEEDS

reserved_more : (p : Pipe) (rs : List Reserved) (r : Reserved) → AreReserved p rs
    → r.address < (mem_at p r.mem).depth → AreReserved p (rs ++ r ∷ [])
reserved_more p [] r h k = (k, tt)
reserved_more p (x ∷ rs) r h k = (h.0, reserved_more p rs r h.1 k)

written_more : (p : Pipe) (ws : List Written) (w : Written) → AreWritten p ws
    → w.value < 2 ^ (mem_at p w.mem).width → AreWritten p (ws ++ w ∷ [])
written_more p [] w h k = (k, tt)
written_more p (x ∷ ws) w h k = (h.0, written_more p ws w h.1 k)

asked_more : (f : Form) (qs : List Ask) (q : Ask) → AreAsked f qs → IsReadInto f q.var q.mem → AreAsked f (qs ++ q ∷ [])
asked_more f [] q h k = (k, tt)
asked_more f (x ∷ qs) q h k = (h.0, asked_more f qs q h.1 k)

advised_more : (p : Pipe) (ws : List Advised) (w : Advised) → AreAdvised p ws
    → w.mem < length p.mems → w.address < (mem_at p w.mem).depth → w.value < 2 ^ (mem_at p w.mem).width → AreAdvised p (ws ++ w ∷ [])
advised_more p [] w h m a v = (m, a, v, tt)
advised_more p (x ∷ ws) w h m a v = (h.0, h.1, h.2, advised_more p ws w h.3 m a v)

words_more : (f : Form) (ks : List Kept) (k : Kept) → AreWords f ks
    → k.var < length f.widths → k.word < 2 ^ slice_index f.widths k.var → AreWords f (ks ++ k ∷ [])
words_more f [] k h x v = (x, v, tt)
words_more f (y ∷ ks) k h x v = (h.0, h.1, words_more f ks k h.2 x v)

take_most : {X : Type 0} → (n : ℕ) (xs : List X) → length (take n xs) ≤ n
take_most zero xs = omega arith
take_most (suc n) [] = omega arith
take_most (suc n) (x ∷ xs) = let rest = take_most n xs in omega arith

module _ (f : Form) (wide : AreWidths f.widths) (xs : List Memory) (ms : AreMemories f.pipe xs) where
  few_args : (args : List Expr) → AreArguments f.widths (param_widths f) args → length args ≤ length f.pipe.start
  few_args args t =
      let same : length args ≡ length (param_widths f) = args_count f.widths (param_widths f) args t in
      let cut : length (param_widths f) ≤ length f.pipe.start = take_most (length f.pipe.start) f.widths in
      omega arith

  few_values : (args : List Expr) (env : List ℕ) → AreArguments f.widths (param_widths f) args → length (values_of args env) ≤ length f.pipe.start
  few_values args env t =
      let count = values_count env args in
      let few = few_args args t in
      omega arith

  fit_verify : (b : Bool) (args : List ℕ) (d : Deeds) → Fit (param_widths f) args → length args ≤ length f.pipe.start → AreFit f d
      → AreFit f (if b then d else record d { child = Some args; guess = args; fails = true })
  fit_verify true args d h few k = k
  fit_verify false args d h few k = record {
    env = k.env;
    advice = k.advice;
    guess = few;
    reserves = k.reserves;
    writes = k.writes;
    asks = k.asks;
    advises = k.advises;
    child = h;
  }

  -- the deeds after a typed statement have their widths, where those before it have
  pub fit_does : (thread : ℕ) (op : Op) (d : Deeds) → IsTypedOp f op → AreFit f d → AreFit f (deeds_after (word_of xs thread) op d)
  fit_does thread (Bind x e) d t k =
      let there : x < length d.env = subst (λ n. x < n) (sym k.env.count) t.0 in
      record {
        env = fit_set f.widths d.env x (value_of e d.env) k.env (fits_in f.widths d.env wide k.env e _ t.1 t.2) there;
        advice = k.advice;
        guess = k.guess;
        reserves = k.reserves;
        writes = k.writes;
        asks = k.asks;
        advises = k.advises;
        child = k.child;
      }
  fit_does thread (CombRead x m a) d t k =
      let there : x < length d.env = subst (λ n. x < n) (sym k.env.count) t.0 in
      let found : word_of xs thread m (slice_index d.env a) < 2 ^ (mem_at f.pipe m).width =
      read_fits _ _ thread (slice_index d.env a) (memory_at xs m) (ms.kept m t.1.memory) in
      record {
        env =
            fit_set f.widths d.env x (word_of xs thread m (slice_index d.env a)) k.env
            (subst (λ w. word_of xs thread m (slice_index d.env a) < 2 ^ w) (sym t.2) found) there;
        advice = k.advice;
        guess = k.guess;
        reserves = k.reserves;
        writes = k.writes;
        asks = k.asks;
        advises = k.advises;
        child = k.child;
      }
  fit_does thread (DelayedRead x m a) d t k =
      record {
        env = k.env;
        advice = k.advice;
        guess = k.guess;
        reserves = k.reserves;
        writes = k.writes;
        asks = asked_more f d.asks _ k.asks (record { there = t.0; width = t.2 });
        advises = k.advises;
        child = k.child;
      }
  fit_does thread (Write m a e) d t k =
      record {
        env = k.env;
        advice = k.advice;
        guess = k.guess;
        reserves = k.reserves;
        writes = written_more f.pipe d.writes _ k.writes (fits_in f.widths d.env wide k.env e _ t.1 t.2);
        asks = k.asks;
        advises = k.advises;
        child = k.child;
      }
  fit_does thread (ReserveRead m a) d t k = k
  fit_does thread (ReserveWrite m a) d t k =
      let small : slice_index d.env a < 2 ^ slice_index f.widths a = k.env.below a in
      let reach : 2 ^ slice_index f.widths a ≡ (mem_at f.pipe m).depth = t.0.reach in
      let within : slice_index d.env a < (mem_at f.pipe m).depth = omega arith in
      record {
        env = k.env;
        advice = k.advice;
        guess = k.guess;
        reserves = reserved_more f.pipe d.reserves _ k.reserves within;
        writes = k.writes;
        asks = k.asks;
        advises = k.advises;
        child = k.child;
      }
  fit_does thread (Block m a) d t k =
      record { env = k.env; advice = k.advice; guess = k.guess; reserves = k.reserves; writes = k.writes; asks = k.asks; advises = k.advises; child = k.child }
  fit_does thread (Release m a) d t k =
      record { env = k.env; advice = k.advice; guess = k.guess; reserves = k.reserves; writes = k.writes; asks = k.asks; advises = k.advises; child = k.child }
  fit_does thread (Call args) d t k =
      record {
        env = k.env;
        advice = k.advice;
        guess = k.guess;
        reserves = k.reserves;
        writes = k.writes;
        asks = k.asks;
        advises = k.advises;
        child = args_fit f.widths d.env wide k.env (param_widths f) args t;
      }
  fit_does thread (SpecCall args) d t k =
      record {
        env = k.env;
        advice = k.advice;
        guess = few_values args (all_values d) t;
        reserves = k.reserves;
        writes = k.writes;
        asks = k.asks;
        advises = k.advises;
        child = args_fit f.widths (all_values d) wide (whole_fit f d k) (param_widths f) args t;
      }
  fit_does thread (Verify last args) d t k =
      let checked = checked_args last args d in
      let count = checked_count last args d in
      let few = few_args args t in
      fit_verify (same_args checked d.guess) checked d (checked_fits f wide last args d t k) (omega arith) k
  fit_does thread SpecCheck d t k = k
  fit_does thread SpecBarrier d t k =
      record { env = k.env; advice = k.advice; guess = k.guess; reserves = k.reserves; writes = k.writes; asks = k.asks; advises = k.advises; child = k.child }
  fit_does thread (AdviceBind x e) d t k =
      record {
        env = k.env;
        advice = words_more f d.advice _ k.advice t.0 (fits_in f.widths (all_values d) wide (whole_fit f d k) e _ t.1 t.2);
        guess = k.guess;
        reserves = k.reserves;
        writes = k.writes;
        asks = k.asks;
        advises = k.advises;
        child = k.child;
      }
  fit_does thread (AdviceRead x m a) d t k =
      let address : ℕ = slice_index (all_values d) a in
      let found : word_of xs thread m address < 2 ^ (mem_at f.pipe m).width = read_fits _ _ thread address (memory_at xs m) (ms.kept m t.1.memory) in
      record {
        env = k.env;
        advice = words_more f d.advice _ k.advice t.0 (subst (λ w. word_of xs thread m address < 2 ^ w) (sym t.2) found);
        guess = k.guess;
        reserves = k.reserves;
        writes = k.writes;
        asks = k.asks;
        advises = k.advises;
        child = k.child;
      }
  fit_does thread (AdviceWrite m a e) d t k =
      let whole = whole_fit f d k in
      let small : slice_index (all_values d) a < 2 ^ slice_index f.widths a = whole.below a in
      let reach : 2 ^ slice_index f.widths a ≡ (mem_at f.pipe m).depth = t.0.reach in
      let within : slice_index (all_values d) a < (mem_at f.pipe m).depth = omega arith in
      record {
        env = k.env;
        advice = k.advice;
        guess = k.guess;
        reserves = k.reserves;
        writes = k.writes;
        asks = k.asks;
        advises = advised_more f.pipe d.advises _ k.advises t.0.memory within (fits_in f.widths (all_values d) wide whole e _ t.1 t.2);
        child = k.child;
      }

  fit_if : (thread : ℕ) (b : Bool) (op : Op) (d : Deeds) → IsTypedOp f op → AreFit f d → AreFit f (if b then deeds_after (word_of xs thread) op d else d)
  fit_if thread true op d t k = fit_does thread op d t k
  fit_if thread false op d t k = k

  -- the deeds after one typed statement more have their widths, where those before it have
  pub fit_more : (thread : ℕ) (x : Stmt) (old new : Deeds) → new ≡ deeds_after_all (word_of xs thread) (x ∷ []) old
      → IsTypedOp f x.op → AreFit f old → AreFit f new
  fit_more thread x old new e t k = subst (AreFit f) (sym e) (fit_if thread (all_hold x.guards old.env) x.op old t k)

  whole_room : (d : Deeds) (c : Capacities) (n : ℕ) → AreFit f d → IsLarge n (length f.pipe.start) (length f.widths) c → length d.env ≤ c.whole
  whole_room d c n k h = let count = k.env.count in let room = h.whole in omega arith

  -- a typed statement can be carried out on values of their widths, where there is room for its arguments
  pub safe_op : (op : Op) (d : Deeds) (c : Capacities) (n : ℕ)
      → IsTypedOp f op → AreFit f d → IsLarge n (length f.pipe.start) (length f.widths) c → IsSafeOp c op d
  safe_op (Bind x e) d c n t k h = safe f.widths d.env wide k.env e t.1
  safe_op (CombRead x m a) d c n t k h = tt
  safe_op (DelayedRead x m a) d c n t k h = tt
  safe_op (Write m a e) d c n t k h = safe f.widths d.env wide k.env e t.1
  safe_op (ReserveRead m a) d c n t k h = tt
  safe_op (ReserveWrite m a) d c n t k h = tt
  safe_op (Block m a) d c n t k h = tt
  safe_op (Release m a) d c n t k h = tt
  safe_op (Call args) d c n t k h =
      let few = few_args args t in
      let room = h.args in
      (all_safe f.widths d.env wide k.env (param_widths f) args t, omega arith)
  safe_op (SpecCall args) d c n t k h =
      let few = few_args args t in
      let room = h.args in
      let kept = h.guess in
      (all_safe f.widths (all_values d) wide (whole_fit f d k) (param_widths f) args t, omega arith, omega arith, whole_room d c n k h)
  safe_op (Verify last args) d c n t k h =
      let few = few_args args t in
      let room = h.args in
      let kept = h.verified in
      let guessed = h.guess in
      let checked = checked_values last d in
      (all_safe f.widths checked wide (checked_fit f last d k) (param_widths f) args t, omega arith, omega arith, omega arith, whole_room d c n k h)
  safe_op SpecCheck d c n t k h = tt
  safe_op SpecBarrier d c n t k h = tt
  safe_op (AdviceBind x e) d c n t k h = (safe f.widths (all_values d) wide (whole_fit f d k) e t.1, whole_room d c n k h)
  safe_op (AdviceRead x m a) d c n t k h = whole_room d c n k h
  safe_op (AdviceWrite m a e) d c n t k h = (safe f.widths (all_values d) wide (whole_fit f d k) e t.1, whole_room d c n k h)

-- each statement of a typed pipe is typed
pub typed_at : (f : Form) (ss : List Stmt) (i : ℕ) → AreTypedStmts f ss → i < length ss → IsTypedOp f (stmt_at ss i).op
typed_at f [] i t h = absurd (omega arith)
typed_at f (x ∷ ss) zero t h = t.0.1
typed_at f (x ∷ ss) (suc i) t h = typed_at f ss i t.1 (omega arith)

-- no more statements stand in a stage than in all
pub stage_if : (b : Bool) (x : Stmt) (rest : List Stmt) (n : ℕ) → length rest ≤ n → length (if b then x ∷ rest else rest) ≤ suc n
stage_if true x rest n h = omega arith
stage_if false x rest n h = omega arith

-- a stage has no more statements than all stages together
pub stage_few : (k : ℕ) (ss : List Stmt) → length (in_stage k ss) ≤ length ss
stage_few k [] = omega arith
stage_few k (x ∷ ss) = stage_if (x.stage == k) x (in_stage k ss) (length ss) (stage_few k ss)

-- A statement that is typed leaves words, values and arguments of their widths.
use Rattle.std.proofs.Common.{◌≡◌, ◌≢◌, refl, sym, ap, ◌∙◌, subst, ℕ, zero, suc, ◌^◌, ◌<◌, ◌≤◌, Bool, true, false, cond, if◌then◌else◌, ◌==◌, List, [], ◌∷◌, length, take, slice_index, slice_set, arith}
use Rattle.std.proofs.lemmas.List.{length-set, get_or-set_same, get_or-set_other}
use Rattle.std.proofs.lemmas.List.Elements.{All-push}
use Rattle.std.proofs.lemmas.Bool.{eqb-true, eqb-false}
use Rattle.std.proofs.lemmas.Nat.{pow_pos}
use Rattle.pdl_semantics.specs.Flat.{Expr, Op, Bind, CombRead, DelayedRead, Write, ReserveRead, ReserveWrite, Block, Release, Call, SpecCall, Verify, SpecCheck, SpecBarrier, AdviceBind, AdviceRead, AdviceWrite, Arrays, Commit, Pipe, value_of, values_of, with_value, with_word, word_at}
use Rattle.pdl_semantics.specs.Stages.{mem_at}
use Rattle.pdl_semantics.specs.Sequential.{Run, run_after}
use Rattle.pdl_form.specs.Form.{Form}
use Rattle.pdl_form_types.specs.Stmts.{param_widths, AreArguments, AreWidths, IsTypedOp}
use Rattle.pdl_form_values.specs.Widths.{Fit}
use Rattle.pdl_form_values.proofs.ValueWidths.{fits_in, values_count}
use Rattle.pdl_seq.specs.Turns.{list_at, shape}
use Rattle.pdl_seq.specs.Fits.{IsWord, AreArgs, IsShaped, AreFitting}
use Rattle.pdl_form_types.proofs.Arguments.{args_count}

-- VALUES

module _ (ws env : List ℕ) (x v : ℕ) (f : Fit ws env) (h : v < 2 ^ slice_index ws x) (there : x < length env) where
  set_below : (y : ℕ) (b : Bool) → (y == x) ≡ b → slice_index (slice_set env x v) y < 2 ^ slice_index ws y
  set_below y true e =
      let same : y ≡ x = eqb-true y x e in
      subst (λ i. slice_index (slice_set env x v) i < 2 ^ slice_index ws i) (sym same)
      (subst (λ u. u < 2 ^ slice_index ws x) (sym (get_or-set_same env x v 0 there)) h)
  set_below y false e =
      let other : y ≢ x = eqb-false y x e in
      subst (λ u. u < 2 ^ slice_index ws y) (sym (get_or-set_other env x y v 0 other)) (f.below y)

  -- values have their widths after one of them is set to a value of its width
  pub fit_set : Fit ws (slice_set env x v)
  fit_set = record { count = length-set env x v ∙ f.count; below = λ y. set_below y (y == x) refl }

-- ARGUMENTS

take_most : (n : ℕ) (xs : List ℕ) → length (take n xs) ≤ n
take_most zero xs = omega arith
take_most (suc n) [] = omega arith
take_most (suc n) (x ∷ xs) = let rest = take_most n xs in omega arith

-- a variable's width is at least that of its parameter
pub take_less : (n : ℕ) (ws : List ℕ) (x v : ℕ) → v < 2 ^ slice_index (take n ws) x → v < 2 ^ slice_index ws x
take_less zero ws x v h = let pos : 1 ≤ 2 ^ slice_index ws x = pow_pos (slice_index ws x) in omega arith
take_less (suc n) [] x v h = h
take_less (suc n) (w ∷ ws) zero v h = h
take_less (suc n) (w ∷ ws) (suc x) v h = take_less n ws x v h

module _ (ws env : List ℕ) (wide : AreWidths ws) (f : Fit ws env) where
  values_below : (ns : List ℕ) (es : List Expr) → AreArguments ws ns es → (x : ℕ) → slice_index (values_of es env) x < 2 ^ slice_index ns x
  values_below [] [] t x = omega arith
  values_below (n ∷ ns) [] t x = absurd t
  values_below [] (e ∷ es) t x = absurd t
  values_below (n ∷ ns) (e ∷ es) t zero = fits_in ws env wide f e n t.0 t.1
  values_below (n ∷ ns) (e ∷ es) t (suc x) = values_below ns es t.2 x

module _ (f : Form) where
  -- arguments that have the parameters' widths are no more than those of the start
  pub few_args : (args : List Expr) → AreArguments f.widths (param_widths f) args → length args ≤ length f.pipe.start
  few_args args t =
      let same = args_count f.widths (param_widths f) args t in
      let cut : length (param_widths f) ≤ length f.pipe.start = take_most (length f.pipe.start) f.widths in
      omega arith

  module _ (wide : AreWidths f.widths) where
    are_args : (env : List ℕ) (args : List Expr) → Fit f.widths env → AreArguments f.widths (param_widths f) args → AreArgs f (values_of args env)
    are_args env args k t =
        let same = values_count env args in
        let few = few_args args t in
        record {
          few = omega arith;
          below = λ x. take_less (length f.pipe.start) f.widths x _ (values_below f.widths env wide k (param_widths f) args t x);
        }

    -- WORDS

    module _ (arrays : Arrays)
        (h : (n b : ℕ) → n < length f.pipe.mems → word_at arrays n b < 2 ^ (mem_at f.pipe n).width) (m a v : ℕ)
        (small : v < 2 ^ (mem_at f.pipe m).width) where
      at_word : (b : ℕ) (t : Bool) → m < length f.pipe.mems → cond t v (arrays m b) < 2 ^ (mem_at f.pipe m).width
      at_word b true there = small
      at_word b false there = h m b there

      at_mem : (n b : ℕ) (t : Bool) → (n == m) ≡ t → n < length f.pipe.mems
          → (if t then with_value (arrays m) a v else arrays n) b < 2 ^ (mem_at f.pipe n).width
      at_mem n b true e there =
          let same : n ≡ m = eqb-true n m e in
          subst (λ k. with_value (arrays m) a v b < 2 ^ (mem_at f.pipe k).width) (sym same)
          (at_word b (b == a) (subst (λ k. k < length f.pipe.mems) same there))
      at_mem n b false e there = h n b there

      words_set : (n b : ℕ) → n < length f.pipe.mems → word_at (with_word arrays m a v) n b < 2 ^ (mem_at f.pipe n).width
      words_set n b there = at_mem n b (n == m) refl there

    -- STATEMENTS

    -- a variable of the pipe has a value in a run of which all fits
    pub there_in : (r : Run) (x : ℕ) → AreFitting f r → x < length f.widths → x < length r.env
    there_in r x k h = subst (λ n. x < n) (sym k.values.count) h

    read_fits : (r : Run) (x m a : ℕ) → AreFitting f r → m < length f.pipe.mems → x < length f.widths → slice_index f.widths x ≡ (mem_at f.pipe m).width
        → Fit f.widths (slice_set r.env x (word_at r.arrays m (slice_index r.env a)))
    read_fits r x m a k mem var e =
        let found : word_at r.arrays m (slice_index r.env a) < 2 ^ (mem_at f.pipe m).width = k.words m (slice_index r.env a) mem in
        fit_set f.widths r.env x _ k.values (subst (λ w. word_at r.arrays m (slice_index r.env a) < 2 ^ w) (sym e) found) (there_in r x k var)

    fits_runs : (op : Op) (r : Run) → IsTypedOp f op → AreFitting f r → AreFitting f (run_after op r)
    fits_runs (Bind x e) r t k =
        record {
          words = k.words;
          values = fit_set f.widths r.env x _ k.values (fits_in f.widths r.env wide k.values e _ t.1 t.2) (there_in r x k t.0);
          next_args = k.next_args;
          commits = k.commits;
        }
    fits_runs (CombRead x m a) r t k = record { words = k.words; values = read_fits r x m a k t.1.memory t.0 t.2; next_args = k.next_args; commits = k.commits }
    fits_runs (DelayedRead x m a) r t k =
        record { words = k.words; values = read_fits r x m a k t.1.memory t.0 t.2; next_args = k.next_args; commits = k.commits }
    fits_runs (Write m a e) r t k =
        let small : value_of e r.env < 2 ^ (mem_at f.pipe m).width = fits_in f.widths r.env wide k.values e _ t.1 t.2 in
        let within : slice_index r.env a < (mem_at f.pipe m).depth = subst (λ n. slice_index r.env a < n) t.0.reach (k.values.below a) in
        record {
          words = words_set r.arrays k.words m (slice_index r.env a) (value_of e r.env) small;
          values = k.values;
          next_args = k.next_args;
          commits = All-push (λ (c : Commit). IsWord f.pipe c.mem c.address c.value) r.writes _ k.commits (t.0.memory, within, small);
        }
    fits_runs (ReserveRead m a) r t k = k
    fits_runs (ReserveWrite m a) r t k = k
    fits_runs (Block m a) r t k = k
    fits_runs (Release m a) r t k = k
    fits_runs (Call args) r t k = record { words = k.words; values = k.values; next_args = are_args r.env args k.values t; commits = k.commits }
    fits_runs (SpecCall args) r t k = k
    fits_runs (Verify true args) r t k = record { words = k.words; values = k.values; next_args = are_args r.env args k.values t; commits = k.commits }
    fits_runs (Verify false args) r t k = k
    fits_runs SpecCheck r t k = k
    fits_runs SpecBarrier r t k = k
    fits_runs (AdviceBind x e) r t k = k
    fits_runs (AdviceRead x m a) r t k = k
    fits_runs (AdviceWrite m a e) r t k = k

    -- all of a run fits after a typed statement, whether it is carried out or not
    pub fits_if : (b : Bool) (op : Op) (r : Run) → IsTypedOp f op → AreFitting f r → AreFitting f (if b then run_after op r else r)
    fits_if true op r t k = fits_runs op r t k
    fits_if false op r t k = k

-- SHAPES

at_shape : (lists : List (List ℕ)) (m : ℕ) → slice_index (shape lists) m ≡ length (list_at lists m)
at_shape [] m = refl
at_shape (l ∷ lists) zero = refl
at_shape (l ∷ lists) (suc m) = at_shape lists m

long_shape : (lists : List (List ℕ)) → length (shape lists) ≡ length lists
long_shape [] = refl
long_shape (l ∷ lists) = ap suc (long_shape lists)

-- where each memory has as many words as before, each still has as many as the pipe says
pub shaped_same : (p : Pipe) (old new : List (List ℕ)) → shape new ≡ shape old → IsShaped p old → IsShaped p new
shaped_same p old new e s =
    record {
      count = sym (long_shape new) ∙ ap length e ∙ long_shape old ∙ s.count;
      depth = λ m h. sym (at_shape new m) ∙ ap (λ l. slice_index l m) e ∙ at_shape old m ∙ s.depth m h;
    }

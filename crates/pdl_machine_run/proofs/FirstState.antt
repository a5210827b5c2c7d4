-- What a machine begins with.
use Rattle.std.proofs.Common.{◌≡◌, refl, sym, ap, ap₂, ◌∙◌, subst, ℕ, zero, suc, ◌+◌, ◌^◌, ◌<◌, ◌≤◌, Bool, false, if◌then◌else◌, ◌==◌, List, [], ◌∷◌, ◌++◌, map, Option, Some, None, length, replicate, get_or, slice_index, slice_index_or, ◌⊎◌, inl, inr, arith}
use Rattle.std.specs.Prelude.{IfSome}
use Rattle.std.proofs.lemmas.List.{length-map, length-replicate}
use Rattle.pdl_semantics.specs.Flat.{Lock, Mem, Stage, Pipe, arrays_of}
use Rattle.pdl_semantics.specs.Stages.{plain_mem, mem_at}
use Rattle.pdl_semantics.specs.Machine.{Thread, Pending, Request, NoRequest}
use Rattle.pdl_semantics.specs.Cycle.{born_thread, first, for_mems, for_stages}
use Rattle.pdl_form.specs.declared.form.FlatMem as r_mem
use Rattle.pdl_form.specs.View.{mem_view, mems_view, lock_view}
use Rattle.pdl_form.specs.Form.{Form}
use Rattle.pdl_machine_pending.specs.Memory.{Memory}
use Rattle.pdl_machine_pending.specs.KeptWords.{AreKept, IsKept}
use Rattle.pdl_lockapi.specs.Sizes.{size_of}
use Rattle.pdl_machine_run.specs.declared.stage.Stage as r_stage
use Rattle.pdl_machine_run.specs.declared.beside.Beside as r_beside
use Rattle.pdl_machine_run.specs.declared.beside.Order as r_order
use Rattle.pdl_machine_run.specs.View.{thread_if, thread_in, seats, request_view, order_views}
use Rattle.pdl_machine_run.specs.Outside.{state_of}
use Rattle.pdl_machine_run.specs.StageDeeds.{no_memory, memory_at}
use Rattle.pdl_machine_run.specs.Typed.{IsFine}
use Rattle.pdl_machine_run.specs.Ready.{IsStage, AreStages}
use Rattle.pdl_machine_run.specs.Running.{IsRunnable, AreRoomy, AreImages, IsFirst, IsBeside, AreReady}
use Rattle.pdl_machine_run.specs.Firsts.{seats_first, IsFirstBeside}
use Rattle.pdl_machine_run.proofs.Rows.{seen_at}
use Rattle.pdl_machine_run.proofs.ArgumentWidths.{start_fit}
use Rattle.pdl_machine_run.proofs.ThreadInvariants.{born_fine}

none_stands : (x : r_stage.Stage) (o : Option ℕ) → o ≡ None → thread_if o x.slot ≡ None
none_stands x o e = ap (λ (n : Option ℕ). thread_if n x.slot) e

-- the stages as a machine begins, with one more in which no thread stands
pub seats_push : (p : Pipe) (xs : List r_stage.Stage) (x : r_stage.Stage) (n : ℕ)
    → seats xs ≡ seats_first p n → 1 ≤ n → x.slot.number ≡ None → seats (xs ++ x ∷ []) ≡ seats_first p (n + 1)
seats_push p xs x n e some f =
    seats_both xs x ∙ ap₂ (λ (os : List (Option Thread)) (o : Option Thread). os ++ o ∷ []) e (none_stands x x.slot.number f) ∙ one_more n some
  where
    seats_both : (ys : List r_stage.Stage) (y : r_stage.Stage) → seats (ys ++ y ∷ []) ≡ seats ys ++ thread_in y.slot ∷ []
    seats_both [] y = refl
    seats_both (z ∷ ys) y = ap (λ (os : List (Option Thread)). thread_in z.slot ∷ os) (seats_both ys y)

    none : Option Thread
    none = None

    more : (k : ℕ) → replicate k none ++ none ∷ [] ≡ replicate (suc k) none
    more zero = refl
    more (suc k) = ap (λ (os : List (Option Thread)). none ∷ os) (more k)

    one_more : (k : ℕ) → 1 ≤ k → seats_first p k ++ None ∷ [] ≡ seats_first p (k + 1)
    one_more zero h = absurd (omega arith)
    one_more (suc k) h =
        let same : suc (suc k) ≡ suc k + 1 = omega arith in
        ap (λ (os : List (Option Thread)). born_thread p 1 (Some p.start) ∷ os) (more k) ∙ ap (seats_first p) same

-- one more stage that is wide enough leaves all stages wide enough
pub stages_push : (f : Form) (xs : List r_stage.Stage) (x : r_stage.Stage) → AreStages f xs → IsStage f x → AreStages f (xs ++ x ∷ [])
stages_push f [] x h i zero d less = i
stages_push f [] x h i (suc k) d less = absurd (omega arith)
stages_push f (y ∷ xs) x h i zero d less = h 0 d (omega arith)
stages_push f (y ∷ xs) x h i (suc k) d less = stages_push f xs x (λ j e l. h (suc j) e (omega arith)) i k d (omega arith)

-- MEMORIES

before : (xs : List Memory) (x : Memory) (k : ℕ) → k < length xs → memory_at (xs ++ x ∷ []) k ≡ memory_at xs k
before [] x k h = absurd (omega arith)
before (y ∷ xs) x zero h = refl
before (y ∷ xs) x (suc k) h = before xs x k (omega arith)

last : (xs : List Memory) (x : Memory) (k : ℕ) → k ≡ length xs → memory_at (xs ++ x ∷ []) k ≡ x
last [] x zero h = refl
last [] x (suc k) h = absurd (omega arith)
last (y ∷ xs) x zero h = absurd (omega arith)
last (y ∷ xs) x (suc k) h = last xs x k (omega arith)

-- where the first m memories are as a machine begins with them, and the next one too, so are the first m + 1
pub first_push : (p : Pipe) (image : List (List ℕ)) (xs : List Memory) (x : Memory) (m : ℕ)
    → length xs ≡ m → ((k : ℕ) → k < m → IsFirst (mem_at p k).lock (slice_index_or image k []) (memory_at xs k))
    → IsFirst (mem_at p m).lock (slice_index_or image m []) x → (k : ℕ) → k < m + 1
    → IsFirst (mem_at p k).lock (slice_index_or image k []) (memory_at (xs ++ x ∷ []) k)
first_push p image xs x m n each new k less = by_order (split k m less)
  where
    split : (k m : ℕ) → k < m + 1 → (k < m) ⊎ (k ≡ m)
    split k zero h = inr (omega arith)
    split zero (suc m) h = inl (omega arith)
    split (suc k) (suc m) h = up (split k m (omega arith))
      where
        up : (k < m) ⊎ (k ≡ m) → (suc k < suc m) ⊎ (suc k ≡ suc m)
        up (inl h) = inl (omega arith)
        up (inr e) = inr (ap suc e)

    by_order : (k < m) ⊎ (k ≡ m) → IsFirst (mem_at p k).lock (slice_index_or image k []) (memory_at (xs ++ x ∷ []) k)
    by_order (inl h) = subst (IsFirst (mem_at p k).lock (slice_index_or image k [])) (sym (before xs x k (omega arith))) (each k h)
    by_order (inr e) =
        subst (IsFirst (mem_at p k).lock (slice_index_or image k [])) (sym (last xs x k (omega arith)))
        (subst (λ i. IsFirst (mem_at p i).lock (slice_index_or image i []) x) (sym e) new)

-- the lock of a memory that the program holds stands for that of the pipe's memory of this number
pub lock_at : (p : Pipe) (mems : List r_mem.FlatMem) (m : ℕ) (x : r_mem.FlatMem)
    → mems_view mems ≡ p.mems → m < length mems → x ≡ get_or mems m x → lock_view x.lock ≡ (mem_at p m).lock
lock_at p mems m x seen h is = ap (λ (d : Mem). d.lock) (seen_at mem_view mems m x plain_mem h is ∙ ap (λ (ds : List Mem). get_or ds m plain_mem) seen)

-- THE FIRST STATE

first_stages_are : (p : Pipe) (ss : List Stage)
    → seats_first p (length ss) ≡ for_stages (λ q. if q == 0 then born_thread p 1 (Some p.start) else None) 0 ss
first_stages_are p [] = refl
first_stages_are p (s ∷ ss) = ap (λ (ts : List (Option Thread)). born_thread p 1 (Some p.start) ∷ ts) (others 1 ss (omega arith))
  where
    others : (k : ℕ) (ys : List Stage) → 1 ≤ k → replicate (length ys) None ≡ for_stages (λ q. if q == 0 then born_thread p 1 (Some p.start) else None) k ys
    others k [] h = refl
    others k (y ∷ ys) h =
        let none : (k == 0) ≡ false = grind (arith) in
        ap₂ (λ (t : Option Thread) (ts : List (Option Thread)). t ∷ ts)
        (ap (λ (b : Bool). if b then born_thread p 1 (Some p.start) else None) (sym none))
        (others (suc k) ys (omega arith))

same_stages : {X : Type 0} → (x : X) (k : ℕ) (ss : List Stage) → replicate (length ss) x ≡ for_stages (λ i. x) k ss
same_stages {X} x k [] = refl
same_stages {X} x k (s ∷ ss) = ap (λ (xs : List X). x ∷ xs) (same_stages x (suc k) ss)

same_mems : {X : Type 0} → (x : X) (k : ℕ) (ds : List Mem) → replicate (length ds) x ≡ for_mems (λ i. x) k ds
same_mems {X} x k [] = refl
same_mems {X} x k (d ∷ ds) = ap (λ (xs : List X). x ∷ xs) (same_mems x (suc k) ds)

first_words : (k : ℕ) (image : List (List ℕ)) (xs : List Memory)
    → length image ≡ length xs → ((i : ℕ) → i < length xs → (memory_at xs i).words ≡ slice_index_or image i [])
    → map (λ (x : Memory). x.words) xs ≡ image
first_words k [] [] n h = refl
first_words k [] (x ∷ xs) n h = absurd (omega arith)
first_words k (ws ∷ image) [] n h = absurd (omega arith)
first_words k (ws ∷ image) (x ∷ xs) n h =
    ap₂ (λ (w : List ℕ) (all : List (List ℕ)). w ∷ all) (h 0 (omega arith)) (first_words (suc k) image xs (omega arith) (λ i less. h (suc i) (omega arith)))

first_locks : (k : ℕ) (ds : List Mem) (xs : List Memory)
    → length xs ≡ length ds → ((i : ℕ) → i < length xs → (memory_at xs i).pending ≡ [])
    → map (λ (x : Memory). x.pending) xs ≡ for_mems (λ m. []) k ds
first_locks k [] [] n h = refl
first_locks k [] (x ∷ xs) n h = absurd (omega arith)
first_locks k (d ∷ ds) [] n h = absurd (omega arith)
first_locks k (d ∷ ds) (x ∷ xs) n h =
    ap₂ (λ (es : List Pending) (all : List (List Pending)). es ∷ all) (h 0 (omega arith))
    (first_locks (suc k) ds xs (omega arith) (λ i less. h (suc i) (omega arith)))

past_end : (xs : List Memory) (m : ℕ) → length xs ≤ m → memory_at xs m ≡ no_memory
past_end [] m h = refl
past_end (x ∷ xs) zero h = absurd (omega arith)
past_end (x ∷ xs) (suc m) h = past_end xs m (omega arith)

no_mem : (ds : List Mem) (m : ℕ) → length ds ≤ m → slice_index_or ds m plain_mem ≡ plain_mem
no_mem [] m h = refl
no_mem (d ∷ ds) zero h = absurd (omega arith)
no_mem (d ∷ ds) (suc m) h = no_mem ds m (omega arith)

module _ (f : Form) (run : IsRunnable f) (image : List (List ℕ)) (images : AreImages f.pipe image) (b : r_beside.Beside)
    (begun : IsFirstBeside f.pipe image b) where
  -- the pipe of the form
  abbrev pub p : Pipe
  p = f.pipe

  abbrev xs : List Memory
  xs = b.memories.items

  count : length xs ≡ length p.mems
  count = begun.count

  each : (m : ℕ) → m < length p.mems → IsFirst (mem_at p m).lock (slice_index_or image m []) (memory_at xs m)
  each = begun.each

  there : (m : ℕ) → m < length xs → m < length p.mems
  there m less = subst (λ n. m < n) count less

  -- with thread 1 in the first stage, the state of what the program begins with is the first one of the image
  pub first_is : (os : List (Option Thread)) → os ≡ seats_first p (length p.stages) → state_of os b 2 ≡ first p (arrays_of image)
  first_is os e =
      let words = first_words 0 image xs (images.count ∙ sym count) (λ i less. (each i (there i less)).words_are) in
      let locks = first_locks 0 p.mems xs count (λ i less. (each i (there i less)).pending) in
      let stages = e ∙ first_stages_are p p.stages in
      let forks = begun.orders ∙ same_stages {X = List Bool} [] 0 p.stages in
      let requests = begun.requests ∙ same_mems NoRequest 0 p.mems in
      ap₂
      (λ (ts : List (Option Thread))
      (ws : List (List ℕ)). record {
        stages = ts;
        arrays = arrays_of ws;
        locks = map (λ (x : Memory). x.pending) xs;
        forks = order_views b.orders.items;
        requests = map request_view b.requests.items;
        next = 2;
      }) stages words
      ∙ ap₂
      (λ (ls : List (List Pending))
      (fs : List (List Bool)). record {
        stages = (first p (arrays_of image)).stages;
        arrays = arrays_of image;
        locks = ls;
        forks = fs;
        requests = map request_view b.requests.items;
        next = 2;
      }) locks forks
      ∙ ap
      (λ
      (qs : List Request). record {
        stages = (first p (arrays_of image)).stages;
        arrays = arrays_of image;
        locks = for_mems (λ m. []) 0 p.mems;
        forks = for_stages (λ i. []) 0 p.stages;
        requests = qs;
        next = 2;
      }) requests

  kinds_by : (m : ℕ) → (m < length p.mems) ⊎ (length p.mems ≤ m) → (mem_at p m).lock ≡ (memory_at xs m).lock
  kinds_by m (inl h) = sym (each m h).lock
  kinds_by m (inr h) = ap (λ (d : Mem). d.lock) (no_mem p.mems m h) ∙ sym (ap (λ (x : Memory). x.lock) (past_end xs m (omega arith)))

  below_or : (m n : ℕ) → (m < n) ⊎ (n ≤ m)
  below_or m zero = inr (omega arith)
  below_or zero (suc n) = inl (omega arith)
  below_or (suc m) (suc n) = up (below_or m n)
    where
      up : (m < n) ⊎ (n ≤ m) → (suc m < suc n) ⊎ (suc n ≤ suc m)
      up (inl h) = inl (omega arith)
      up (inr h) = inr (omega arith)

  -- the memories have room for what may be pending and two reservations more
  pub first_roomy : AreRoomy p xs
  first_roomy =
      record {
        memories = record { count = count; kept = kept; kinds = λ m. kinds_by m (below_or m (length p.mems)) };
        room = λ m less. subst (λ (l : Lock). size_of l + 2 ≤ (memory_at xs m).capacity) (sym (each m less).lock) (each m less).room;
        few = λ m less. subst (λ (es : List Pending). length es ≤ size_of (memory_at xs m).lock) (sym (each m less).pending) (omega arith);
      }
    where
      kept : (m : ℕ) → m < length p.mems → IsKept (2 ^ (mem_at p m).width) (mem_at p m).depth (memory_at xs m)
      kept m less =
          let one = each m less in
          record {
            count = ap (λ (ws : List ℕ). length ws) one.words_are ∙ images.depth m less;
            words = λ a. subst (λ (ws : List ℕ). slice_index ws a < 2 ^ (mem_at p m).width) (sym one.words_are) (images.words m a less);
            pending = subst (λ (es : List Pending). AreKept (2 ^ (mem_at p m).width) (mem_at p m).depth es) (sym one.pending) tt;
          }

  -- what stands beside the stages has room for a cycle
  pub first_beside : IsBeside p b
  first_beside =
      let rs = ap (λ (l : List Request). length l) begun.requests in
      let ra = length-map b.requests.items request_view in
      let rb = length-replicate (length p.mems) NoRequest in
      let os = ap (λ (l : List (List Bool)). length l) begun.orders in
      let oa = length-map b.orders.items (λ (o : r_order.Order). o.branches.items) in
      let ob = length-replicate {A = List Bool} (length p.stages) [] in
      record { roomy = first_roomy; twice = begun.twice; requests = omega (arith, rs, ra, rb); orders = omega (arith, os, oa, ob); long = begun.long }

  abbrev none_at : ℕ → Option Thread
  none_at k = None

  none_fine : (n k j : ℕ) → IfSome (slice_index_or (replicate n (none_at 0)) k None) (IsFine f j)
  none_fine zero k j = tt
  none_fine (suc n) zero j = tt
  none_fine (suc n) (suc k) j = none_fine n k j

  first_fine : (n k : ℕ) → IfSome (slice_index_or (seats_first p n) k None) (IsFine f k)
  first_fine zero k = tt
  first_fine (suc n) zero = born_fine f run.typed.vars 1 (Some p.start) (start_fit f run)
  first_fine (suc n) (suc k) = none_fine n k (suc k)

  first_count : (n : ℕ) → length (seats_first p n) ≡ n
  first_count zero = refl
  first_count (suc n) = ap suc (length-replicate n (none_at 0))

  seat_at : (zs : List r_stage.Stage) (k : ℕ) (d : r_stage.Stage) → k < length zs → slice_index_or (seats zs) k None ≡ thread_in (get_or zs k d).slot
  seat_at [] k d less = absurd (omega arith)
  seat_at (z ∷ zs) zero d less = refl
  seat_at (z ∷ zs) (suc k) d less = seat_at zs k d (omega arith)

  -- stages of which the first holds thread 1 are ready, where they are wide enough
  pub first_ready : (zs : List r_stage.Stage) → seats zs ≡ seats_first p (length p.stages) → AreStages f zs → AreReady f zs
  first_ready zs e wide =
      let these : length (seats zs) ≡ length zs = length-map _ _ in
      let long = ap (λ (os : List (Option Thread)). length os) e in
      let all = first_count (length p.stages) in
      record {
        count = omega arith;
        wide = wide;
        fine = λ k d less.
            subst (λ (o : Option Thread). IfSome o (IsFine f k))
            (ap (λ (os : List (Option Thread)). slice_index_or os k None) (sym e) ∙ seat_at zs k d less)
            (first_fine (length p.stages) k);
      }

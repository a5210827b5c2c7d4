-- Outputs of a whole netlist by their names.
use Rattle.std.proofs.Common.{◌≡◌, refl, sym, ap, ap₂, ◌∙◌, subst, ℕ, zero, suc, ◌+◌, ◌<◌, ◌≤◌, Bool, true, false, ◌&&◌, List, [], ◌∷◌, ◌++◌, length, codes, decimal, bytes_eq, arith, append_assoc}
use Rattle.std.specs.Prelude.{if◌then◌else◌, slice_index_or}
use Rattle.std.proofs.lemmas.Bool.{false≢true}
use Rattle.pdl_word.proofs.Bytes.{bytes_refl}
use Rattle.pdl_semantics.specs.Flat.{Mem, has_lock, is_delayed}
use Rattle.pdl_semantics.specs.Stages.{plain_mem}
use Rattle.pdl_net.specs.Circuit.{State}
use Rattle.pdl_net.specs.Signal.{Signal}
use Rattle.pdl_law_parts.specs.Views.{View}
use Rattle.pdl_law_parts.specs.Ports.{Shown, Commits, stages_shown, commit_shown, commits_shown}
use Rattle.pdl_law_sides.specs.WholeNetlist.{Request, request_shown, requests_shown}

-- the value of the first output of this name, 0 where there is none
abbrev pub look : State → List Shown → List ℕ → ℕ
look s [] x = 0
look s (f ∷ fs) x = if bytes_eq f.name x then f.signal.value s else look s fs x

-- names that differ by their numbers
abbrev pub Apart : (ℕ → List ℕ) → ℕ → Type 0
Apart names n = (i j : ℕ) → i < n → j < n → (i ≡ j → ⊥) → bytes_eq (names i) (names j) ≡ false

-- STAGES

-- a look-up by a name that no port of a stage has passes the stages' ports
pub past_stages : (s : State) (vs : ℕ → View) (moves : ℕ → Signal) (x : List ℕ)
    → ((j : ℕ) → bytes_eq (codes "v_" ++ decimal j) x ≡ false)
    → ((j : ℕ) → bytes_eq (codes "g_" ++ decimal j) x ≡ false) → (n k : ℕ) (rest : List Shown)
    → look s (stages_shown vs moves n k ++ rest) x ≡ look s rest x
past_stages s vs moves x v g zero k rest = refl
past_stages s vs moves x v g (suc n) k rest =
    ap₂ (λ a b. if a then (vs k).valid.value s else (if b then (moves k).value s else look s (stages_shown vs moves n (suc k) ++ rest) x)) (v k) (g k)
    ∙ past_stages s vs moves x v g n (suc k) rest

-- MEMORIES

-- the value of the first memory of this name that passes the test, which goes by its number too; the first of them has the number m
abbrev pub pick : (ℕ → Mem → Bool) → (ℕ → ℕ) → (ℕ → List ℕ) → ℕ → List Mem → List ℕ → ℕ → ℕ
pick test value names m [] y rest = rest
pick test value names m (x ∷ xs) y rest =
    if test m x then (if bytes_eq (names m) y then value m else pick test value names (suc m) xs y rest) else pick test value names (suc m) xs y rest

-- where names differ, a memory that passes the test is found by its name
pub pick_at : (test : ℕ → Mem → Bool) (value : ℕ → ℕ) (names : ℕ → List ℕ) (n m : ℕ) (xs : List Mem) (i rest : ℕ)
    → m + length xs ≤ n → Apart names n → i < length xs → test (m + i) (slice_index_or xs i plain_mem) ≡ true
    → pick test value names m xs (names (m + i)) rest ≡ value (m + i)
pick_at test value names n m [] i rest e a l t = absurd (omega (arith, l))
pick_at test value names n m (x ∷ xs) zero rest e a l t =
    let same : m ≡ m + 0 = omega arith in
    subst (λ j. test j x ≡ true → pick test value names m (x ∷ xs) (names j) rest ≡ value j) same
    (λ t. ap₂
    (λ b c. if b then (if c then value m else pick test value names (suc m) xs (names m) rest) else pick test value names (suc m) xs (names m) rest) t
    (bytes_refl (names m))) t
pick_at test value names n m (x ∷ xs) (suc i) rest e a l t =
    at (test m x)
    ∙ subst (λ j. test j (slice_index_or xs i plain_mem) ≡ true → pick test value names (suc m) xs (names j) rest ≡ value j)
    (let z : suc m + i ≡ m + suc i = omega arith in z)
    (pick_at test value names n (suc m) xs i rest (omega (arith, e)) a (omega (arith, l))) t
  where
    at : (b : Bool)
        → (if b
        then (if bytes_eq (names m) (names (m + suc i)) then value m else pick test value names (suc m) xs (names (m + suc i)) rest)
        else pick test value names (suc m) xs (names (m + suc i)) rest)
        ≡ pick test value names (suc m) xs (names (m + suc i)) rest
    at false = refl
    at true =
        ap (λ c. if c then value m else pick test value names (suc m) xs (names (m + suc i)) rest)
        (a m (m + suc i) (omega (arith, e)) (omega (arith, e, l)) (λ z. omega (arith, z)))

-- where names differ, a memory that doesn't pass the test is not found by its name
pub pick_not : (test : ℕ → Mem → Bool) (value : ℕ → ℕ) (names : ℕ → List ℕ) (n m : ℕ) (xs : List Mem) (i rest : ℕ)
    → m + length xs ≤ n → Apart names n → i < n → ((j : ℕ) → m + j ≡ i → test i (slice_index_or xs j plain_mem) ≡ false)
    → pick test value names m xs (names i) rest ≡ rest
pick_not test value names n m [] i rest e a l h = refl
pick_not test value names n m (x ∷ xs) i rest e a l h =
    at (test m x) refl ∙ pick_not test value names n (suc m) xs i rest (omega (arith, e)) a l (λ j f. h (suc j) (omega (arith, f)))
  where
    at : (b : Bool) → test m x ≡ b
        → (if b
        then (if bytes_eq (names m) (names i) then value m else pick test value names (suc m) xs (names i) rest)
        else pick test value names (suc m) xs (names i) rest)
        ≡ pick test value names (suc m) xs (names i) rest
    at false f = refl
    at true f =
        ap (λ c. if c then value m else pick test value names (suc m) xs (names i) rest)
        (a m i (omega (arith, e)) l
        (λ z. false≢true (sym (h 0 (omega (arith, z))) ∙ ap (λ j. test j x) (sym z) ∙ f)))

-- ---- commits

module _ (s : State) (names : ℕ → List ℕ) (twice : ℕ → Bool) (commits : ℕ → Commits) (x : List ℕ) where
  -- among the ports of a memory's commits there is one of this name just where the memory has the other name, and the condition holds
  abbrev pub HasPort : List ℕ → (ℕ → Bool) → (ℕ → ℕ) → Type 0
  HasPort y on value =
      (i : ℕ) (rest : List Shown)
      → look s (commit_shown (names i) (twice i) (commits i) ++ rest) x
      ≡ (if on i then (if bytes_eq (names i) y then value i else look s rest x) else look s rest x)

  -- so the first such memory with a lock shows the value of the port
  pub commits_look : (y : List ℕ) (on : ℕ → Bool) (value : ℕ → ℕ) → HasPort y on value → (m : ℕ) (xs : List Mem) (rest : List Shown)
      → look s (commits_shown names twice commits m xs ++ rest) x ≡ pick (λ i z. has_lock z.lock && on i) value names m xs y (look s rest x)
  commits_look y on value h m [] rest = refl
  commits_look y on value h m (z ∷ xs) rest = at (has_lock z.lock) (commits_look y on value h (suc m) xs rest)
    where
      others : List Shown
      others = commits_shown names twice commits (suc m) xs

      picked : ℕ
      picked = pick (λ i z. has_lock z.lock && on i) value names (suc m) xs y (look s rest x)

      at : (b : Bool) → look s (others ++ rest) x ≡ picked
          → look s (((if b then commit_shown (names m) (twice m) (commits m) else []) ++ others) ++ rest) x
          ≡ (if b && on m then (if bytes_eq (names m) y then value m else picked) else picked)
      at false go = go
      at true go =
          ap (λ l. look s l x) (append_assoc (commit_shown (names m) (twice m) (commits m)) others rest)
          ∙ h m (others ++ rest) ∙ ap (λ n. if on m then (if bytes_eq (names m) y then value m else n) else n) go

  -- a look-up by a name that no port of a commit has passes them
  pub commits_pass : ((i : ℕ) (rest : List Shown) → look s (commit_shown (names i) (twice i) (commits i) ++ rest) x ≡ look s rest x)
      → (m : ℕ) (xs : List Mem) (rest : List Shown) → look s (commits_shown names twice commits m xs ++ rest) x ≡ look s rest x
  commits_pass h m [] rest = refl
  commits_pass h m (z ∷ xs) rest = at (has_lock z.lock) (commits_pass h (suc m) xs rest)
    where
      others : List Shown
      others = commits_shown names twice commits (suc m) xs

      at : (b : Bool) → look s (others ++ rest) x ≡ look s rest x
          → look s (((if b then commit_shown (names m) (twice m) (commits m) else []) ++ others) ++ rest) x ≡ look s rest x
      at false go = go
      at true go =
          ap (λ l. look s l x) (append_assoc (commit_shown (names m) (twice m) (commits m)) others rest) ∙ h m (others ++ rest) ∙ go

module _ (s : State) (names : ℕ → List ℕ) (twice : ℕ → Bool) (commits : ℕ → Commits) (y : List ℕ) where
  -- the port `c_` shows whether a memory commits, `ca_` where, and `cd_` what
  pub flag_port : HasPort s names twice commits (codes "c_" ++ y) y (λ i. true) (λ i. (commits i).first.enable.value s)
  flag_port i rest = at (twice i)
    where
      at : (t : Bool) → look s (commit_shown (names i) t (commits i) ++ rest) (codes "c_" ++ y)
          ≡ (if bytes_eq (names i) y then (commits i).first.enable.value s else look s rest (codes "c_" ++ y))
      at true = refl
      at false = refl

  pub addr_port : HasPort s names twice commits (codes "ca_" ++ y) y (λ i. true) (λ i. (commits i).first.addr.value s)
  addr_port i rest = at (twice i)
    where
      at : (t : Bool) → look s (commit_shown (names i) t (commits i) ++ rest) (codes "ca_" ++ y)
          ≡ (if bytes_eq (names i) y then (commits i).first.addr.value s else look s rest (codes "ca_" ++ y))
      at true = refl
      at false = refl

  pub word_port : HasPort s names twice commits (codes "cd_" ++ y) y (λ i. true) (λ i. (commits i).first.value.value s)
  word_port i rest = at (twice i)
    where
      at : (t : Bool) → look s (commit_shown (names i) t (commits i) ++ rest) (codes "cd_" ++ y)
          ≡ (if bytes_eq (names i) y then (commits i).first.value.value s else look s rest (codes "cd_" ++ y))
      at true = refl
      at false = refl

  -- `c2_`, `ca2_` and `cd2_` show the same of a second commit, where some path reserves the memory twice
  pub flag2_port : HasPort s names twice commits (codes "c2_" ++ y) y twice (λ i. (commits i).second.enable.value s)
  flag2_port i rest = at (twice i)
    where
      at : (t : Bool) → look s (commit_shown (names i) t (commits i) ++ rest) (codes "c2_" ++ y)
          ≡ (if t
          then (if bytes_eq (names i) y then (commits i).second.enable.value s else look s rest (codes "c2_" ++ y))
          else look s rest (codes "c2_" ++ y))
      at true = refl
      at false = refl

  pub addr2_port : HasPort s names twice commits (codes "ca2_" ++ y) y twice (λ i. (commits i).second.addr.value s)
  addr2_port i rest = at (twice i)
    where
      at : (t : Bool) → look s (commit_shown (names i) t (commits i) ++ rest) (codes "ca2_" ++ y)
          ≡ (if t
          then (if bytes_eq (names i) y then (commits i).second.addr.value s else look s rest (codes "ca2_" ++ y))
          else look s rest (codes "ca2_" ++ y))
      at true = refl
      at false = refl

  pub word2_port : HasPort s names twice commits (codes "cd2_" ++ y) y twice (λ i. (commits i).second.value.value s)
  word2_port i rest = at (twice i)
    where
      at : (t : Bool) → look s (commit_shown (names i) t (commits i) ++ rest) (codes "cd2_" ++ y)
          ≡ (if t
          then (if bytes_eq (names i) y then (commits i).second.value.value s else look s rest (codes "cd2_" ++ y))
          else look s rest (codes "cd2_" ++ y))
      at true = refl
      at false = refl

  -- a look-up of a request port passes the ports of a commit
  pub flag_passes : (i : ℕ) (rest : List Shown)
      → look s (commit_shown (names i) (twice i) (commits i) ++ rest) (codes "q_" ++ y) ≡ look s rest (codes "q_" ++ y)
  flag_passes i rest = at (twice i)
    where
      at : (t : Bool) → look s (commit_shown (names i) t (commits i) ++ rest) (codes "q_" ++ y) ≡ look s rest (codes "q_" ++ y)
      at true = refl
      at false = refl

  pub addr_passes : (i : ℕ) (rest : List Shown)
      → look s (commit_shown (names i) (twice i) (commits i) ++ rest) (codes "qa_" ++ y) ≡ look s rest (codes "qa_" ++ y)
  addr_passes i rest = at (twice i)
    where
      at : (t : Bool) → look s (commit_shown (names i) t (commits i) ++ rest) (codes "qa_" ++ y) ≡ look s rest (codes "qa_" ++ y)
      at true = refl
      at false = refl

-- ---- requests

module _ (s : State) (names : ℕ → List ℕ) (asks : ℕ → Request) (x : List ℕ) where
  -- where of a memory's two request ports the one that memories of the name y have under this name shows this, the first such delayed memory shows it
  pub requests_look : (y : List ℕ) (value : ℕ → ℕ)
      → ((i : ℕ) (rest : List Shown)
      → look s (request_shown (names i) (asks i) ++ rest) x ≡ (if bytes_eq (names i) y then value i else look s rest x))
      → (m : ℕ) (xs : List Mem) (rest : List Shown)
      → look s (requests_shown names asks m xs ++ rest) x ≡ pick (λ i z. is_delayed z.kind) value names m xs y (look s rest x)
  requests_look y value h m [] rest = refl
  requests_look y value h m (z ∷ xs) rest = at (is_delayed z.kind) (requests_look y value h (suc m) xs rest)
    where
      others : List Shown
      others = requests_shown names asks (suc m) xs

      picked : ℕ
      picked = pick (λ i z. is_delayed z.kind) value names (suc m) xs y (look s rest x)

      at : (b : Bool) → look s (others ++ rest) x ≡ picked
          → look s (((if b then request_shown (names m) (asks m) else []) ++ others) ++ rest) x
          ≡ (if b then (if bytes_eq (names m) y then value m else picked) else picked)
      at false go = go
      at true go = h m (others ++ rest) ∙ ap (λ n. if bytes_eq (names m) y then value m else n) go

  -- a look-up by a name that no request port has passes them
  pub requests_pass : ((i : ℕ) (rest : List Shown) → look s (request_shown (names i) (asks i) ++ rest) x ≡ look s rest x)
      → (m : ℕ) (xs : List Mem) (rest : List Shown) → look s (requests_shown names asks m xs ++ rest) x ≡ look s rest x
  requests_pass h m [] rest = refl
  requests_pass h m (z ∷ xs) rest = at (is_delayed z.kind) (requests_pass h (suc m) xs rest)
    where
      others : List Shown
      others = requests_shown names asks (suc m) xs

      at : (b : Bool) → look s (others ++ rest) x ≡ look s rest x
          → look s (((if b then request_shown (names m) (asks m) else []) ++ others) ++ rest) x ≡ look s rest x
      at false go = go
      at true go = h m (others ++ rest) ∙ go

-- The ports of a pipe without delayed memories: their names, directions and widths.
use Rattle.std.proofs.Common.{◌≡◌, ◌≢◌, inl, inr, ℕ, zero, suc, ◌+◌, ◌<◌, ◌≤◌, Bool, true, false, if◌then◌else◌, List, [], ◌∷◌, ◌++◌, length, map, Option, Some, None, codes, decimal, bytes_eq, refl, sym, ap, ap₂, ◌∙◌, subst, arith}
use Rattle.std.specs.Prelude.{⊤, flat_map, find}
use Rattle.std.specs.List.{range_with_len}
use Rattle.std.specs.Option.{is_some}
use Rattle.std.proofs.lemmas.List.{map-append}
use Rattle.std.proofs.lemmas.Fmt.{decimal_injective}
use Rattle.pdl_semantics.specs.Tree.{Mem}
use Rattle.pdl_semantics.specs.Flatten.{mems_of}
use Rattle.pdl_rules.specs.Typed.{AreDistinct}
use Rattle.pdl_net.specs.declared.Port.{Port}
use Rattle.pdl_net.specs.Circuit.{Circuit, Output}
use Rattle.pdl_net.specs.Pipe.{Head, PortMem, head_of, output, stage_ports, first_ports, second_ports, commit_ports}
use Rattle.pdl_net.specs.Signal.{Signal}
use Rattle.pdl_law_parts.specs.Views.{Gates, View}
use Rattle.pdl_law_parts.specs.DeclaredMems.{port_mem, locked_of, mem_names, FitsMem, CommitsFit, AreBitsWide}
use Rattle.pdl_law_parts.proofs.WellFormedMems.{Reaches, power_one}
use Rattle.pdl_law_parts.specs.Ports.{Shown, Commit, Commits, stages_shown, first_shown, second_shown, commit_shown, commits_shown}
use Rattle.pdl_law_parts.specs.Compiled.{shown_in, port_in}
use Rattle.pdl_law_parts.proofs.WellFormedNames.{Among, IsNone, AllDiffer, name_of_mem, name_turned, among_other, mem_none}
use Rattle.pdl_word.proofs.Bytes.{bytes_refl, bytes_differ}
use Rattle.pdl_semantics.proofs.Facts.{lock_declared}

-- ---- the locked memories

-- the locked memory of a name, if that memory has a lock, where this says whether some path reserves it twice
abbrev pub if_some : Bool → Mem → Option PortMem
if_some twice m = if is_some m.lock then Some (port_mem twice m) else None

-- the locked memory of a name, if there is one
abbrev pub locked_named : (ℕ → Bool) → ℕ → List Mem → List ℕ → Option PortMem
locked_named twice k ms n = find (λ (l : PortMem). bytes_eq l.name n) (locked_of twice k ms)

found_first : (b : Bool) (l : PortMem) (ls : List PortMem) (n : List ℕ)
    → bytes_eq l.name n ≡ false
    → find (λ (k : PortMem). bytes_eq k.name n) ((if b then l ∷ [] else []) ++ ls) ≡ find (λ (k : PortMem). bytes_eq k.name n) ls
found_first true l ls n e = ap (λ c. if c then Some l else find (λ (k : PortMem). bytes_eq k.name n) ls) e
found_first false l ls n e = refl

none_named : (twice : ℕ → Bool) (k : ℕ) (ms : List Mem) (n : List ℕ) → IsNone n (map name_of_mem ms) → locked_named twice k ms n ≡ None
none_named twice k [] n h = refl
none_named twice k (m ∷ ms) n h =
    found_first (is_some m.lock) (port_mem (twice k) m) (locked_of twice (suc k) ms) n (bytes_differ m.name.name n (λ s. h.0 (sym s)))
    ∙ none_named twice (suc k) ms n h.1

found_here : (b : Bool) (l : PortMem) (ls : List PortMem) → find (λ (k : PortMem). bytes_eq k.name l.name) ls ≡ None
    → find (λ (k : PortMem). bytes_eq k.name l.name) ((if b then l ∷ [] else []) ++ ls) ≡ (if b then Some l else None)
found_here true l ls h = ap (λ c. if c then Some l else find (λ (k : PortMem). bytes_eq k.name l.name) ls) (bytes_refl l.name)
found_here false l ls h = h

-- the locked memory of a memory's name is that memory, if it has a lock
pub found : (twice : ℕ → Bool) (k : ℕ) (ms : List Mem) → AreDistinct ms → (m : Mem) → Among m ms
    → (t : Bool) × (locked_named twice k ms m.name.name ≡ if_some t m)
found twice k [] h m a = absurd a
found twice k (x ∷ xs) h m (inl s) = (
  twice k,
  subst (λ (y : Mem). locked_named twice k (x ∷ xs) y.name.name ≡ if_some (twice k) y) s
      (found_here (is_some x.lock) (port_mem (twice k) x) (locked_of twice (suc k) xs)
      (none_named twice (suc k) xs x.name.name (mem_none x.name.name xs h.0))),
)
found twice k (x ∷ xs) h m (inr a) =
    let rest = found twice (suc k) xs h.1 m a in (
      rest.0,
      found_first (is_some x.lock) (port_mem (twice k) x) (locked_of twice (suc k) xs) m.name.name
          (name_turned m.name.name x.name.name (among_other x.name.name xs m h.0 a))
          ∙ rest.1,
    )

-- ---- heads

-- an output as its port tells it
abbrev pub head_shown : Shown → Head
head_shown s = output s.name s.signal.width

-- ports made of outputs are told by what is shown
pub heads_of : (c : Circuit) (outs : List Output) → map head_of (map (port_in c) outs) ≡ map head_shown (map (shown_in c) outs)
heads_of c [] = refl
heads_of c (o ∷ outs) = ap (λ l. head_shown (shown_in c o) ∷ l) (heads_of c outs)

-- ---- stages

-- the outputs of the stages are their ports
pub stages_heads : (vs : ℕ → View) (gates : Gates) (moves : ℕ → Signal) (total n k : ℕ)
    → k + n ≡ total → AreBitsWide vs gates moves total
    → map head_shown (stages_shown vs moves n k) ≡ flat_map stage_ports (range_with_len k n)
stages_heads vs gates moves total zero k e h = refl
stages_heads vs gates moves total (suc n) k e h =
    let next : suc k ≡ k + 1 = omega arith in
    let w = h.stages k (omega (arith, e)) in
    ap₂ (λ v g. output (codes "v_" ++ decimal k) v ∷ output (codes "g_" ++ decimal k) g ∷ map head_shown (stages_shown vs moves n (suc k))) w.0 w.1
    ∙ ap (λ l. output (codes "v_" ++ decimal k) 1 ∷ output (codes "g_" ++ decimal k) 1 ∷ l)
    (stages_heads vs gates moves total n (suc k) (omega (arith, e)) h ∙ ap (λ j. flat_map stage_ports (range_with_len j n)) next)

-- ---- commits

first_head : (twice : Bool) (m : Mem) (x : Commit) → Reaches m → FitsMem m x → map head_shown (first_shown m.name.name x) ≡ first_ports (port_mem twice m)
first_head twice m x r w =
    ap
    (λ e. output (codes "c_" ++ m.name.name) e ∷ output (codes "ca_" ++ m.name.name) x.addr.width
    ∷ output (codes "cd_" ++ m.name.name) x.value.width ∷ []) w.enable
    ∙ ap₂ (λ a v. output (codes "c_" ++ m.name.name) 1 ∷ output (codes "ca_" ++ m.name.name) a ∷ output (codes "cd_" ++ m.name.name) v ∷ [])
    (power_one _ _ (w.reach ∙ sym r)) w.value

second_head : (twice : Bool) (m : Mem) (x : Commit) → Reaches m → FitsMem m x → map head_shown (second_shown m.name.name x) ≡ second_ports (port_mem twice m)
second_head twice m x r w =
    ap
    (λ e. output (codes "c2_" ++ m.name.name) e ∷ output (codes "ca2_" ++ m.name.name) x.addr.width
    ∷ output (codes "cd2_" ++ m.name.name) x.value.width ∷ []) w.enable
    ∙ ap₂ (λ a v. output (codes "c2_" ++ m.name.name) 1 ∷ output (codes "ca2_" ++ m.name.name) a ∷ output (codes "cd2_" ++ m.name.name) v ∷ [])
    (power_one _ _ (w.reach ∙ sym r)) w.value

commit_head : (twice : Bool) (m : Mem) (x : Commits) → Reaches m → FitsMem m x.first × FitsMem m x.second
    → map head_shown (commit_shown m.name.name twice x) ≡ commit_ports (port_mem twice m)
commit_head true m x r w = ap₂ (λ a b. a ++ b) (first_head true m x.first r w.0) (second_head true m x.second r w.1)
commit_head false m x r w = ap (λ a. a ++ []) (first_head false m x.first r w.0)

commit_heads_if : (b : Bool) (xs : List Shown) (l : PortMem) (rest : List Shown) (ls : List PortMem)
    → (b ≡ true → map head_shown xs ≡ commit_ports l) → map head_shown rest ≡ flat_map commit_ports ls
    → map head_shown ((if b then xs else []) ++ rest) ≡ flat_map commit_ports ((if b then l ∷ [] else []) ++ ls)
commit_heads_if true xs l rest ls e f = map-append head_shown xs rest ∙ ap₂ (λ a b. a ++ b) (e refl) f
commit_heads_if false xs l rest ls e f = f

-- the commit outputs have the names, directions and widths of those of the memories with a lock
pub commit_heads : (names : ℕ → List ℕ) (twice : ℕ → Bool) (commits : ℕ → Commits) (k : ℕ) (ms : List Mem)
    → ((i : ℕ) → i < length ms → names (k + i) ≡ mem_names ms i) → ((m : Mem) → Among m ms → Reaches m)
    → CommitsFit commits k ms
    → map head_shown (commits_shown names twice commits k (mems_of ms)) ≡ flat_map commit_ports (locked_of twice k ms)
commit_heads names twice commits k [] f r h = refl
commit_heads names twice commits k (x ∷ xs) f r h =
    let here : names k ≡ x.name.name = ap names (let z : k ≡ k + 0 = omega arith in z) ∙ f 0 (omega arith) in
    let rest = commits_shown names twice commits (suc k) (mems_of xs) in
    ap (λ b. map head_shown ((if b then commit_shown (names k) (twice k) (commits k) else []) ++ rest)) (lock_declared x.lock)
    ∙ ap (λ n. map head_shown ((if is_some x.lock then commit_shown n (twice k) (commits k) else []) ++ rest)) here
    ∙ commit_heads_if (is_some x.lock) (commit_shown x.name.name (twice k) (commits k)) (port_mem (twice k) x) rest (locked_of twice (suc k) xs)
    (λ e. commit_head (twice k) x (commits k) (r x (inl refl)) (h.0 e))
    (commit_heads names twice commits (suc k) xs (λ i l. ap names (let z : suc k + i ≡ k + suc i = omega arith in z) ∙ f (suc i) (omega (arith, l)))
    (λ m a. r m (inr a)) h.1)

-- the last two ports
abbrev pub last_heads : List Head
last_heads = output (codes "ended") 1 ∷ output (codes "squash") 1 ∷ []

-- ---- names

-- the name of a port
abbrev pub name_of_head : Head → List ℕ
name_of_head h = h.name

-- the names of ports are those that they are told with
pub names_of_heads : (ps : List Port) → map (λ (p : Port). p.name) ps ≡ map name_of_head (map head_of ps)
names_of_heads [] = refl
names_of_heads (p ∷ ps) = ap (λ l. p.name ∷ l) (names_of_heads ps)

-- the names of the ports of n stages, of which the first is k, and of others after them
abbrev pub stage_names : ℕ → ℕ → List (List ℕ) → List (List ℕ)
stage_names k zero rest = rest
stage_names k (suc n) rest = (codes "v_" ++ decimal k) ∷ (codes "g_" ++ decimal k) ∷ stage_names (suc k) n rest

-- a name that begins with other letters is no port's of these memories
pub heads_apart : (a b : ℕ) (x y : List ℕ) → a ≢ b → a ∷ x ≢ b ∷ y
heads_apart a b x y d e = d (cc e)

-- names that begin with the same letter and differ after it differ
pub tails_apart : (a : ℕ) (x y : List ℕ) → x ≢ y → a ∷ x ≢ a ∷ y
tails_apart a x y d e = d (cc e)

-- the names of these locked memories are none of them this one
abbrev pub IsFree : List ℕ → List PortMem → Type 0
IsFree n [] = ⊤
IsFree n (l ∷ ls) = (n ≢ l.name) × IsFree n ls

-- no two of these locked memories have one name
abbrev pub AreFree : List PortMem → Type 0
AreFree [] = ⊤
AreFree (l ∷ ls) = IsFree l.name ls × AreFree ls

locked_free : (twice : ℕ → Bool) (k : ℕ) (n : List ℕ) (ms : List Mem) → IsNone n (map name_of_mem ms) → IsFree n (locked_of twice k ms)
locked_free twice k n [] h = tt
locked_free twice k n (m ∷ ms) h = go (is_some m.lock) (locked_free twice (suc k) n ms h.1)
  where
    go : (b : Bool) → IsFree n (locked_of twice (suc k) ms) → IsFree n ((if b then port_mem (twice k) m ∷ [] else []) ++ locked_of twice (suc k) ms)
    go true f = (h.0, f)
    go false f = f

-- no two memories with a lock have one name, where the memories are distinct
pub all_free : (twice : ℕ → Bool) (k : ℕ) (ms : List Mem) → AreDistinct ms → AreFree (locked_of twice k ms)
all_free twice k [] h = tt
all_free twice k (m ∷ ms) h =
    go (is_some m.lock) (locked_free twice (suc k) m.name.name ms (mem_none m.name.name ms h.0)) (all_free twice (suc k) ms h.1)
  where
    go : (b : Bool) → IsFree m.name.name (locked_of twice (suc k) ms) → AreFree (locked_of twice (suc k) ms)
        → AreFree ((if b then port_mem (twice k) m ∷ [] else []) ++ locked_of twice (suc k) ms)
    go true f fs = (f, fs)
    go false f fs = fs

-- ---- names of stages

-- the names of two stages differ
stages_apart : (j k : ℕ) → j < k → k ≤ 64 → decimal j ≢ decimal k
stages_apart j k l h e = let same : j ≡ k = decimal_injective j k (omega arith) (omega arith) e in absurd (omega arith)

valid_none : (j k n : ℕ) (rest : List (List ℕ))
    → j < k → k + n ≤ 64 → IsNone (codes "v_" ++ decimal j) rest
    → IsNone (codes "v_" ++ decimal j) (stage_names k n rest)
valid_none j k zero rest l h r = r
valid_none j k (suc n) rest l h r = (
  tails_apart 118 _ _ (tails_apart 95 _ _ (stages_apart j k l (omega arith))),
  (heads_apart 118 103 _ _ (λ e. omega arith), valid_none j (suc k) n rest (omega arith) (omega arith) r),
)

moves_none : (j k n : ℕ) (rest : List (List ℕ))
    → j < k → k + n ≤ 64 → IsNone (codes "g_" ++ decimal j) rest
    → IsNone (codes "g_" ++ decimal j) (stage_names k n rest)
moves_none j k zero rest l h r = r
moves_none j k (suc n) rest l h r = (
  heads_apart 103 118 _ _ (λ e. omega arith),
  (tails_apart 103 _ _ (tails_apart 95 _ _ (stages_apart j k l (omega arith))), moves_none j (suc k) n rest (omega arith) (omega arith) r),
)

-- with the names of at most 64 stages' ports before others that differ from them, all names differ
pub stages_differ : (k n : ℕ) (rest : List (List ℕ))
    → k + n ≤ 64 → ((j : ℕ) → IsNone (codes "v_" ++ decimal j) rest) → ((j : ℕ) → IsNone (codes "g_" ++ decimal j) rest)
    → AllDiffer rest → AllDiffer (stage_names k n rest)
stages_differ k zero rest h v g r = r
stages_differ k (suc n) rest h v g r = (
  (heads_apart 118 103 _ _ (λ e. omega arith), valid_none k (suc k) n rest (omega arith) (omega arith) (v k)),
  (moves_none k (suc k) n rest (omega arith) (omega arith) (g k), stages_differ (suc k) n rest (omega arith) v g r),
)

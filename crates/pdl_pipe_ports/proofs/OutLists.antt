-- Lists of outputs, and what they show.
use Rattle.std.proofs.Common.{◌≡◌, ℕ, suc, ◌+◌, ◌-◌, ◌<◌, ◌≤◌, Bool, true, false, List, [], ◌∷◌, ◌++◌, map, length, get_or, if◌then◌else◌, codes, decimal, refl, sym, ap, ap₂, ◌∙◌, arith, append_assoc}
use Rattle.std.specs.Prelude.{Option, Some, None, is_some}
use Rattle.std.proofs.lemmas.List.{map-append}
use Rattle.pdl_semantics.specs.Flat.{Mem, Stmt, Pipe, has_lock, is_delayed}
use Rattle.pdl_semantics.specs.Stages.{plain_mem}
use Rattle.pdl_semantics.specs.SecondWrites.{reserves_twice, all_twice}
use Rattle.pdl_net.specs.declared.Net.{Net}
use Rattle.pdl_net.specs.Circuit.{Circuit}
use Rattle.pdl_net.specs.Signal.{Signal}
use Rattle.pdl_net.specs.Meaning.{signal, IsThere}
use Rattle.pdl_lockapi.specs.declared.LockNets.{LockNets}
use Rattle.pdl_law_parts.specs.Views.{View, Gates}
use Rattle.pdl_law_parts.specs.Ports.{Shown, Commits, shown_signal, stages_shown, commit_shown, commits_shown}
use Rattle.pdl_law_parts.specs.Compiled.{shown_in}
use Rattle.pdl_law_sides.specs.WholeNetlist.{Request, request_shown, requests_shown, whole_shown}
use Rattle.pdl_pipe_beside.specs.declared.outside.RequestNets.{RequestNets}
use Rattle.pdl_pipe_ports.specs.declared.outputs.ShownNets.{ShownNets}
use Rattle.pdl_pipe_ports.specs.declared.outputs.OutNet.{OutNet}
use Rattle.pdl_pipe_locks.specs.Stepped.{commit_of, commits_in}
use Rattle.pdl_pipe_ports.specs.ToldOutputs.{AreThereStages, IsThereCommit, IsThereRequest, AreTold, ask_of, asks_in, valid_in, moves_in, AreOf, output_of, OutsThere, shown_by}
use Rattle.pdl_pipe_ports.specs.OutputList.{out, stages_outs, commit_outs, commits_outs, request_outs, requests_outs, last_moves, all_outs}

-- ---- one list after another

outs_more : (c : Circuit) (os ps : List OutNet) → OutsThere c os → OutsThere c ps → OutsThere c (os ++ ps)
outs_more c [] ps t h = h
outs_more c (o ∷ os) ps t h = (t.0, outs_more c os ps t.1 h)

shown_more : (c : Circuit) (os ps : List OutNet) → shown_by c (os ++ ps) ≡ shown_by c os ++ shown_by c ps
shown_more c os ps = ap (map (shown_in c)) (map-append output_of os ps) ∙ map-append (shown_in c) (map output_of os) (map output_of ps)

-- ---- the stages

stages_there : (c : Circuit) (k : ℕ) (ss : List ShownNets) → AreThereStages c ss → OutsThere c (stages_outs k ss)
stages_there c k [] t = tt
stages_there c k (s ∷ ss) t = (t.0, (t.1, stages_there c (suc k) ss t.2))

stages_show : (c : Circuit) (k : ℕ) (ss : List ShownNets) (vs : ℕ → View) (moves : ℕ → Signal)
    → ((i j : ℕ) → j ≡ k + i → i < length ss → (vs j).valid ≡ valid_in c ss i)
    → ((i j : ℕ) → j ≡ k + i → i < length ss → moves j ≡ moves_in c ss i)
    → shown_by c (stages_outs k ss) ≡ stages_shown vs moves (length ss) k
stages_show c k [] vs moves v m = refl
stages_show c k (s ∷ ss) vs moves v m =
    let rest =
    stages_show c (suc k) ss vs moves (λ i j e l. v (suc i) j (omega (arith, e)) (omega (arith, l)))
    (λ i j e l. m (suc i) j (omega (arith, e)) (omega (arith, l))) in
    ap₂ (λ f g. shown_signal (codes "v_" ++ decimal k) f ∷ shown_signal (codes "g_" ++ decimal k) g ∷ shown_by c (stages_outs (suc k) ss))
    (sym (v 0 k (omega arith) (omega arith))) (sym (m 0 k (omega arith) (omega arith)))
    ∙ ap (λ (fs : List Shown). shown_signal (codes "v_" ++ decimal k) (vs k).valid ∷ shown_signal (codes "g_" ++ decimal k) (moves k) ∷ fs) rest

-- ---- what the memories commit

one_there : (c : Circuit) (name : List ℕ) (twice : Bool) (n : Option LockNets) → IsThereCommit c n → OutsThere c (commit_outs name twice n)
one_there c name twice None t = tt
one_there c name true (Some n) t = (t.0, (t.1, (t.2, (t.3, (t.4, (t.5, tt))))))
one_there c name false (Some n) t = (t.0, (t.1, (t.2, tt)))

one_shows : (c : Circuit) (name : List ℕ) (twice : Bool) (n : Option LockNets) (b : Bool)
    → is_some n ≡ b → shown_by c (commit_outs name twice n) ≡ (if b then commit_shown name twice (commit_of c n) else [])
one_shows c name twice None true e = absurd (cc e)
one_shows c name twice None false e = refl
one_shows c name true (Some n) true e = refl
one_shows c name false (Some n) true e = refl
one_shows c name twice (Some n) false e = absurd (cc e)

commits_there : (c : Circuit) (names : List (List ℕ)) (ts : List Bool) (ns : List (Option LockNets))
    → ((i : ℕ) → i < length ns → IsThereCommit c (get_or ns i None)) → OutsThere c (commits_outs names ts ns)
commits_there c [] ts ns t = tt
commits_there c (a ∷ names) [] ns t = tt
commits_there c (a ∷ names) (b ∷ ts) [] t = tt
commits_there c (a ∷ names) (b ∷ ts) (n ∷ ns) t =
    outs_more c (commit_outs a b n) (commits_outs names ts ns) (one_there c a b n (t 0 (omega arith)))
    (commits_there c names ts ns (λ i l. t (suc i) (omega (arith, l))))

commits_show : (c : Circuit) (xs : List Stmt) (k : ℕ) (names : List (List ℕ)) (ms : List Mem) (ns : List (Option LockNets))
    (name : ℕ → List ℕ) (commits : ℕ → Commits)
    → length names ≡ length ms → length ns ≡ length ms
    → ((i j : ℕ) → j ≡ k + i → i < length ms → name j ≡ get_or names i [])
    → ((i j : ℕ) → j ≡ k + i → commits j ≡ commit_of c (get_or ns i None))
    → ((i : ℕ) → i < length ms → is_some (get_or ns i None) ≡ has_lock (get_or ms i plain_mem).lock)
    → shown_by c (commits_outs names (all_twice xs k ms) ns) ≡ commits_shown name (λ m. reserves_twice m xs) commits k ms
commits_show c xs k [] [] ns name commits a b e f g = refl
commits_show c xs k (x ∷ names) [] ns name commits a b e f g = absurd (omega (arith, a))
commits_show c xs k [] (m ∷ ms) ns name commits a b e f g = absurd (omega (arith, a))
commits_show c xs k (x ∷ names) (m ∷ ms) [] name commits a b e f g = absurd (omega (arith, b))
commits_show c xs k (x ∷ names) (m ∷ ms) (n ∷ ns) name commits a b e f g =
    let h : x ≡ name k = sym (e 0 k (omega arith) (omega arith)) in
    let q : commit_of c n ≡ commits k = sym (f 0 k (omega arith)) in
    let twice = reserves_twice k xs in
    shown_more c (commit_outs x twice n) (commits_outs names (all_twice xs (suc k) ms) ns)
    ∙ ap₂ (λ (fs gs : List Shown). fs ++ gs)
    (one_shows c x twice n (has_lock m.lock) (g 0 (omega arith)) ∙ ap₂ (λ y z. if has_lock m.lock then commit_shown y twice z else []) h q)
    (commits_show c xs (suc k) names ms ns name commits (omega (arith, a)) (omega (arith, b))
    (λ i j u l. e (suc i) j (omega (arith, u)) (omega (arith, l))) (λ i j u. f (suc i) j (omega (arith, u)))
    (λ i l. g (suc i) (omega (arith, l))))

-- ---- what is asked of the delayed memories

request_there : (c : Circuit) (name : List ℕ) (r : Option RequestNets) → IsThereRequest c r → OutsThere c (request_outs name r)
request_there c name None t = tt
request_there c name (Some r) t = (t.0, (t.1, tt))

request_shows : (c : Circuit) (name : List ℕ) (r : Option RequestNets) (b : Bool)
    → is_some r ≡ b → shown_by c (request_outs name r) ≡ (if b then request_shown name (ask_of c r) else [])
request_shows c name None true e = absurd (cc e)
request_shows c name None false e = refl
request_shows c name (Some r) true e = refl
request_shows c name (Some r) false e = absurd (cc e)

requests_there : (c : Circuit) (names : List (List ℕ)) (rs : List (Option RequestNets))
    → ((i : ℕ) → i < length rs → IsThereRequest c (get_or rs i None)) → OutsThere c (requests_outs names rs)
requests_there c [] rs t = tt
requests_there c (a ∷ names) [] t = tt
requests_there c (a ∷ names) (r ∷ rs) t =
    outs_more c (request_outs a r) (requests_outs names rs) (request_there c a r (t 0 (omega arith)))
    (requests_there c names rs (λ i l. t (suc i) (omega (arith, l))))

requests_show : (c : Circuit) (k : ℕ) (names : List (List ℕ)) (ms : List Mem) (rs : List (Option RequestNets))
    (name : ℕ → List ℕ) (asks : ℕ → Request)
    → length names ≡ length ms → length rs ≡ length ms
    → ((i j : ℕ) → j ≡ k + i → i < length ms → name j ≡ get_or names i [])
    → ((i j : ℕ) → j ≡ k + i → asks j ≡ ask_of c (get_or rs i None))
    → ((i : ℕ) → i < length ms → is_some (get_or rs i None) ≡ is_delayed (get_or ms i plain_mem).kind)
    → shown_by c (requests_outs names rs) ≡ requests_shown name asks k ms
requests_show c k [] [] rs name asks a b e f g = refl
requests_show c k (x ∷ names) [] rs name asks a b e f g = absurd (omega (arith, a))
requests_show c k [] (m ∷ ms) rs name asks a b e f g = absurd (omega (arith, a))
requests_show c k (x ∷ names) (m ∷ ms) [] name asks a b e f g = absurd (omega (arith, b))
requests_show c k (x ∷ names) (m ∷ ms) (r ∷ rs) name asks a b e f g =
    let h : x ≡ name k = sym (e 0 k (omega arith) (omega arith)) in
    let q : ask_of c r ≡ asks k = sym (f 0 k (omega arith)) in
    shown_more c (request_outs x r) (requests_outs names rs)
    ∙ ap₂ (λ (fs gs : List Shown). fs ++ gs)
    (request_shows c x r (is_delayed m.kind) (g 0 (omega arith)) ∙ ap₂ (λ y z. if is_delayed m.kind then request_shown y z else []) h q)
    (requests_show c (suc k) names ms rs name asks (omega (arith, a)) (omega (arith, b))
    (λ i j u l. e (suc i) j (omega (arith, u)) (omega (arith, l))) (λ i j u. f (suc i) j (omega (arith, u)))
    (λ i l. g (suc i) (omega (arith, l))))

-- ---- the last stage

last_there : (c : Circuit) (ss : List ShownNets) (x : Net) → IsThere c x → AreThereStages c ss → IsThere c (last_moves ss x)
last_there c [] x h t = h
last_there c (s ∷ ss) x h t = last_there c ss s.moves t.1 t.2

last_is : (c : Circuit) (s : ShownNets) (ss : List ShownNets) → signal c (last_moves ss s.moves) ≡ moves_in c (s ∷ ss) (length ss)
last_is c s [] = refl
last_is c s (t ∷ ss) = last_is c t ss

last_means : (c : Circuit) (ss : List ShownNets) (x : Net) → 1 ≤ length ss → signal c (last_moves ss x) ≡ moves_in c ss (length ss - 1)
last_means c [] x h = absurd (omega (arith, h))
last_means c (s ∷ ss) x h = let e : length ss ≡ length (s ∷ ss) - 1 = omega arith in last_is c s ss ∙ ap (moves_in c (s ∷ ss)) e

-- ---- all outputs

module _ (c : Circuit) (p : Pipe) (names : List (List ℕ)) (ss : List ShownNets) (ns : List (Option LockNets)) (rs : List (Option RequestNets)) (squash : Net)
    (some : 1 ≤ length ss) (count : length ss ≡ length p.stages) (named : length names ≡ length p.mems) (told : AreTold c p ss ns rs squash) where
  abbrev flags : List Bool
  flags = all_twice p.stmts 0 p.mems

  mems_there : OutsThere c (commits_outs names flags ns)
  mems_there = commits_there c names flags ns (λ i l. told.commits.there i (omega (arith, l, told.commits.count)))

  asks_there : OutsThere c (requests_outs names rs)
  asks_there = requests_there c names rs (λ i l. told.asks.there i (omega (arith, l, told.asks.count)))

  -- the net of each output is there
  pub all_there : OutsThere c (all_outs names flags ss ns rs squash)
  all_there =
      outs_more c ((stages_outs 0 ss ++ commits_outs names flags ns) ++ requests_outs names rs)
      (out (codes "ended") (last_moves ss squash) ∷ out (codes "squash") squash ∷ [])
      (outs_more c (stages_outs 0 ss ++ commits_outs names flags ns) (requests_outs names rs)
      (outs_more c (stages_outs 0 ss) (commits_outs names flags ns) (stages_there c 0 ss told.stages) mems_there) asks_there)
      (last_there c ss squash told.squash told.stages, (told.squash, tt))

  module _ (vs : ℕ → View) (gates : Gates) (moves : ℕ → Signal) (name : ℕ → List ℕ) (h : AreOf c ss squash names vs gates moves name) where
    named_as : (i j : ℕ) → j ≡ 0 + i → i < length p.mems → name j ≡ get_or names i []
    named_as i j e l = ap name (omega (arith, e)) ∙ h.names i (omega (arith, l, named))

    abbrev last_shown : List Shown
    last_shown = shown_signal (codes "ended") (moves (length p.stages - 1)) ∷ shown_signal (codes "squash") gates.squash ∷ []

    first_show : shown_by c (stages_outs 0 ss) ≡ stages_shown vs moves (length p.stages) 0
    first_show =
        stages_show c 0 ss vs moves (λ i j e l. ap (λ k. (vs k).valid) (omega (arith, e)) ∙ h.valid i l) (λ i j e l. ap moves (omega (arith, e)) ∙ h.moves i l)
        ∙ ap (λ k. stages_shown vs moves k 0) count

    mems_show : shown_by c (commits_outs names flags ns) ≡ commits_shown name (λ m. reserves_twice m p.stmts) (commits_in c ns) 0 p.mems
    mems_show =
        commits_show c p.stmts 0 names p.mems ns name (commits_in c ns) named told.commits.count named_as
        (λ i j e. ap (commits_in c ns) (omega (arith, e))) told.commits.locked

    asks_show : shown_by c (requests_outs names rs) ≡ requests_shown name (asks_in c rs) 0 p.mems
    asks_show =
        requests_show c 0 names p.mems rs name (asks_in c rs) named told.asks.count named_as (λ i j e. ap (asks_in c rs) (omega (arith, e))) told.asks.delayed

    last_show : shown_by c (out (codes "ended") (last_moves ss squash) ∷ out (codes "squash") squash ∷ []) ≡ last_shown
    last_show =
        let last : signal c (last_moves ss squash) ≡ moves (length p.stages - 1) =
        last_means c ss squash some ∙ sym (h.moves (length ss - 1) (omega (arith, some))) ∙ ap (λ k. moves (k - 1)) count in
        ap₂ (λ f g. shown_signal (codes "ended") f ∷ shown_signal (codes "squash") g ∷ []) last (sym h.squash)

    -- the outputs show the stages, the commits, the requests and the last two, as the law of a netlist asks
    pub all_show : shown_by c (all_outs names flags ss ns rs squash) ≡ whole_shown p name (commits_in c ns) (asks_in c rs) vs gates moves
    all_show =
        let S = stages_outs 0 ss in
        let M = commits_outs names flags ns in
        let R = requests_outs names rs in
        let s = stages_shown vs moves (length p.stages) 0 in
        let m = commits_shown name (λ m. reserves_twice m p.stmts) (commits_in c ns) 0 p.mems in
        let r = requests_shown name (asks_in c rs) 0 p.mems in
        let and = λ (fs gs : List Shown). fs ++ gs in
        shown_more c ((S ++ M) ++ R) (out (codes "ended") (last_moves ss squash) ∷ out (codes "squash") squash ∷ [])
        ∙ ap₂ and (shown_more c (S ++ M) R ∙ ap₂ and (shown_more c S M ∙ ap₂ and first_show mems_show) asks_show) last_show
        ∙ append_assoc (s ++ m) r last_shown
        ∙ append_assoc s m (r ++ last_shown)

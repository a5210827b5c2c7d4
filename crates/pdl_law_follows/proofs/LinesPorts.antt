-- What the values of the ports of a pipe with delayed memories say of each memory's commits, by the names of the ports.
use Rattle.std.proofs.Common.{◌≡◌, inl, inr, ℕ, suc, ◌≤◌, Bool, true, false, ◌&&◌, if◌then◌else◌, List, [], ◌∷◌, ◌++◌, length, map, Option, Some, None, codes, bytes_eq, refl, sym, ap, ap₂, ◌∙◌, subst, arith, append_assoc}
use Rattle.std.specs.Prelude.{filter}
use Rattle.std.specs.Option.{is_some}
use Rattle.std.proofs.lemmas.Bool.{or_parts}
use Rattle.std.proofs.lemmas.Slice.Eq.{bytes_eq-Decides}
use Rattle.pdl_kit.specs.declared.mem_info.MemInfo.{MemInfo}
use Rattle.pdl_semantics.specs.Tree.{Mem}
use Rattle.pdl_semantics.specs.Flat.{Stmt, is_delayed}
use Rattle.pdl_semantics.specs.Flatten.{mems_of, flat_lock}
use Rattle.pdl_semantics.specs.Cycle.{PortWrite}
use Rattle.pdl_semantics.specs.SecondWrites.{reserves_twice, all_twice}
use Rattle.pdl_rules.specs.Typed.{is_memory, AreDistinct}
use Rattle.pdl_rules.specs.Memories.{info_of}
use Rattle.pdl_net.specs.declared.Netlist.{Netlist}
use Rattle.pdl_net.specs.Circuit.{circuit_of, outputs_of}
use Rattle.pdl_net.specs.Pipe.{PortMem}
use Rattle.pdl_machine_facts.specs.Ports.{commit_values, all_commit_values}
use Rattle.pdl_law_parts.specs.DeclaredMems.{port_mem, locked_of}
use Rattle.pdl_law_parts.specs.Runs.{commit_mem, commit_mems}
use Rattle.pdl_law_parts.proofs.WellFormedNames.{Among, name_turned, among_other}
use Rattle.pdl_law_parts.proofs.LinesMachine.{AreCommits}
use Rattle.pdl_law_parts.proofs.LinesNames.{name_of_output, second_names}
use Rattle.pdl_law_parts.proofs.LinesPorts.{named_value, found, found_none, flag_of, addr_of, word_of, later, commit_if, commit_is, if_both, if_none}
use Rattle.pdl_law_parts.proofs.LinesColumns.{locked_infos, AreFound, declared_found, with_port, skipped, none_of_stages, one_of_locked, by_names}
use Rattle.pdl_law_sides.specs.WholeNetlist.{request_values, all_request_values}
use Rattle.pdl_law_follows.specs.Memories.{answers_late, delayed_of, comb_of, net_infos}
use Rattle.pdl_law_follows.proofs.Memories.{none_named, distinct_some, some_among}
use Rattle.pdl_law_follows.proofs.PortNames.{commit_names, request_names, last_names, output_names}

-- ---- commits, with ports after them

-- the memories with a lock, in order, as the ports of a pipe of these statements tell them; the first has the number k
abbrev pub locked_from : List Stmt → ℕ → List Mem → List PortMem
locked_from ss k ms = locked_of (λ m. reserves_twice m ss) k ms

-- the names of a memory's commit ports before others, if it has a lock, and of the second ones where this says so
abbrev pub names_if : Bool → Bool → List ℕ → List (List ℕ) → List (List ℕ)
names_if b twice y ns = if b then (codes "c_" ++ y) ∷ (codes "ca_" ++ y) ∷ (codes "cd_" ++ y) ∷ second_names twice y ns else ns

names_first : (b twice : Bool) (m : Mem) (ls : List PortMem) (names : List (List ℕ))
    → commit_names ((if b then port_mem twice m ∷ [] else []) ++ ls) names ≡ names_if b twice m.name.name (commit_names ls names)
names_first true twice m ls names = refl
names_first false twice m ls names = refl

-- what a port of a name tells is, with one more memory before the others, by that memory's lock and name; where it has no second ports the others tell as much of its later writes
abbrev pub IsStep : (List ℕ → List ℕ) → (List PortWrite → ℕ) → Type 0
IsStep port g =
    (b twice : Bool) (y : List ℕ) (e rest : List PortWrite) (ns : List (List ℕ)) (vals x : List ℕ)
    → (twice ≡ false → bytes_eq y x ≡ true → later e ≡ later rest)
    → named_value ns vals (port x) ≡ g rest
    → named_value (names_if b twice y ns) (commit_if b twice e ++ vals) (port x) ≡ g (if bytes_eq y x && b then e else rest)

-- the port `c_` of a name tells whether that memory commits
pub flag_step : IsStep (λ x. codes "c_" ++ x) flag_of
flag_step true true y e rest ns vals x s h = ap (λ n. if bytes_eq y x then flag_of e else n) h ∙ if_both flag_of (bytes_eq y x) e rest
flag_step true false y e rest ns vals x s h = ap (λ n. if bytes_eq y x then flag_of e else n) h ∙ if_both flag_of (bytes_eq y x) e rest
flag_step false twice y e rest ns vals x s h = h ∙ if_none flag_of (bytes_eq y x) e rest

-- the port `ca_` of a name tells that memory's commit address
pub addr_step : IsStep (λ x. codes "ca_" ++ x) addr_of
addr_step true true y e rest ns vals x s h = ap (λ n. if bytes_eq y x then addr_of e else n) h ∙ if_both addr_of (bytes_eq y x) e rest
addr_step true false y e rest ns vals x s h = ap (λ n. if bytes_eq y x then addr_of e else n) h ∙ if_both addr_of (bytes_eq y x) e rest
addr_step false twice y e rest ns vals x s h = h ∙ if_none addr_of (bytes_eq y x) e rest

-- the port `cd_` of a name tells that memory's committed word
pub word_step : IsStep (λ x. codes "cd_" ++ x) word_of
word_step true true y e rest ns vals x s h = ap (λ n. if bytes_eq y x then word_of e else n) h ∙ if_both word_of (bytes_eq y x) e rest
word_step true false y e rest ns vals x s h = ap (λ n. if bytes_eq y x then word_of e else n) h ∙ if_both word_of (bytes_eq y x) e rest
word_step false twice y e rest ns vals x s h = h ∙ if_none word_of (bytes_eq y x) e rest

-- without second ports the other memories tell what a memory of the name commits second: nothing
passed : (g : List PortWrite → ℕ) (b : Bool) (e rest : List PortWrite) → (b ≡ true → later e ≡ later rest)
    → g (later rest) ≡ g (later (if b && true then e else rest))
passed g true e rest s = ap g (sym (s refl))
passed g false e rest s = refl

-- the port `c2_` of a name tells whether that memory commits a second write
pub flag2_step : IsStep (λ x. codes "c2_" ++ x) (λ e. flag_of (later e))
flag2_step true true y e rest ns vals x s h =
    ap (λ n. if bytes_eq y x then flag_of (later e) else n) h ∙ if_both (λ o. flag_of (later o)) (bytes_eq y x) e rest
flag2_step true false y e rest ns vals x s h = h ∙ passed flag_of (bytes_eq y x) e rest (s refl)
flag2_step false twice y e rest ns vals x s h = h ∙ if_none (λ o. flag_of (later o)) (bytes_eq y x) e rest

-- the port `ca2_` of a name tells the address of that memory's second commit
pub addr2_step : IsStep (λ x. codes "ca2_" ++ x) (λ e. addr_of (later e))
addr2_step true true y e rest ns vals x s h =
    ap (λ n. if bytes_eq y x then addr_of (later e) else n) h ∙ if_both (λ o. addr_of (later o)) (bytes_eq y x) e rest
addr2_step true false y e rest ns vals x s h = h ∙ passed addr_of (bytes_eq y x) e rest (s refl)
addr2_step false twice y e rest ns vals x s h = h ∙ if_none (λ o. addr_of (later o)) (bytes_eq y x) e rest

-- the port `cd2_` of a name tells the word of that memory's second commit
pub word2_step : IsStep (λ x. codes "cd2_" ++ x) (λ e. word_of (later e))
word2_step true true y e rest ns vals x s h =
    ap (λ n. if bytes_eq y x then word_of (later e) else n) h ∙ if_both (λ o. word_of (later o)) (bytes_eq y x) e rest
word2_step true false y e rest ns vals x s h = h ∙ passed word_of (bytes_eq y x) e rest (s refl)
word2_step false twice y e rest ns vals x s h = h ∙ if_none (λ o. word_of (later o)) (bytes_eq y x) e rest

module _ (ss : List Stmt) where
  -- the values of the ports of the memories' commits, and others after them
  abbrev pub commits_then : ℕ → List Mem → List (List PortWrite) → List ℕ → List ℕ
  commits_then k ms es vals = all_commit_values (all_twice ss k (mems_of ms)) (mems_of ms) es ++ vals

  -- those of the first memory come first
  commits_first : (k : ℕ) (m : Mem) (ms : List Mem) (e : List PortWrite) (es : List (List PortWrite)) (vals : List ℕ)
      → commits_then k (m ∷ ms) (e ∷ es) vals ≡ commit_if (is_some m.lock) (reserves_twice k ss) e ++ commits_then (suc k) ms es vals
  commits_first k m ms e es vals =
      append_assoc (commit_values (flat_lock m.lock) (reserves_twice k ss) e) (all_commit_values (all_twice ss (suc k) (mems_of ms)) (mems_of ms) es) vals
      ∙ ap (λ l. l ++ commits_then (suc k) ms es vals) (commit_is m.lock (reserves_twice k ss) e)

  -- a memory that no path reserves twice has no second write, and no other memory has its name
  second_none : (k : ℕ) (m : Mem) (ms : List Mem) (e : List PortWrite) (es : List (List PortWrite)) (x : List ℕ)
      → is_memory ms m.name.name ≡ false → length e ≤ (if reserves_twice k ss then 2 else 1)
      → reserves_twice k ss ≡ false → bytes_eq m.name.name x ≡ true → later e ≡ later (found ms es x)
  second_none k m ms e es x d l once named =
      at e (subst (λ (b : Bool). length e ≤ (if b then 2 else 1)) once l)
      ∙ ap later (sym (found_none ms es x (ap (is_memory ms) (sym ((bytes_eq-Decides m.name.name x).0 named)) ∙ d)))
    where
      at : (o : List PortWrite) → length o ≤ 1 → later o ≡ []
      at [] l = refl
      at (w ∷ []) l = refl
      at (w ∷ v ∷ ws) l = absurd (omega (arith, l))

  -- a port of a name tells what that memory commits, where the ports after have 0 for the name
  pub port_told : (port : List ℕ → List ℕ) (g : List PortWrite → ℕ) → IsStep port g → g [] ≡ 0
      → (k : ℕ) (ms : List Mem) (es : List (List PortWrite)) (names : List (List ℕ)) (vals x : List ℕ)
      → AreDistinct ms → AreCommits ss k (mems_of ms) es → named_value names vals (port x) ≡ 0
      → named_value (commit_names (locked_from ss k ms) names) (commits_then k ms es vals) (port x) ≡ g (found ms es x)
  port_told port g step none k [] [] names vals x d h z = z ∙ sym none
  port_told port g step none k [] (e ∷ es) names vals x d h z = absurd h
  port_told port g step none k (m ∷ ms) [] names vals x d h z = absurd h
  port_told port g step none k (m ∷ ms) (e ∷ es) names vals x d h z =
      let ls = locked_from ss (suc k) ms in
      let rest = commits_then (suc k) ms es vals in
      ap₂ (λ ns vs. named_value ns vs (port x)) (names_first (is_some m.lock) (reserves_twice k ss) m ls names) (commits_first k m ms e es vals)
      ∙ step (is_some m.lock) (reserves_twice k ss) m.name.name e (found ms es x) (commit_names ls names) rest x
      (second_none k m ms e es x d.0 h.1) (port_told port g step none (suc k) ms es names vals x d.1 h.2 z)

  -- as many values as names
  same_step : (b twice : Bool) (y : List ℕ) (ns : List (List ℕ)) (e : List PortWrite) (vals : List ℕ)
      → length vals ≡ length ns → length (commit_if b twice e ++ vals) ≡ length (names_if b twice y ns)
  same_step true true y ns e vals h = ap (λ i. suc (suc (suc (suc (suc (suc i)))))) h
  same_step true false y ns e vals h = ap (λ i. suc (suc (suc i))) h
  same_step false twice y ns e vals h = h

  -- with the commit ports before others, there are as many values as names
  pub commits_same : (k : ℕ) (ms : List Mem) (es : List (List PortWrite)) (names : List (List ℕ)) (vals : List ℕ)
      → AreCommits ss k (mems_of ms) es → length vals ≡ length names
      → length (commits_then k ms es vals) ≡ length (commit_names (locked_from ss k ms) names)
  commits_same k [] [] names vals h l = l
  commits_same k [] (e ∷ es) names vals h l = absurd h
  commits_same k (m ∷ ms) [] names vals h l = absurd h
  commits_same k (m ∷ ms) (e ∷ es) names vals h l =
      let ls = locked_from ss (suc k) ms in
      ap length (commits_first k m ms e es vals)
      ∙ same_step (is_some m.lock) (reserves_twice k ss) m.name.name (commit_names ls names) e (commits_then (suc k) ms es vals)
      (commits_same (suc k) ms es names vals h.2 l)
      ∙ ap length (sym (names_first (is_some m.lock) (reserves_twice k ss) m ls names))

-- ---- requests

-- the values of the ports of the memories' requests, and others after them
abbrev pub requests_then : List Mem → List (Option ℕ) → List ℕ → List ℕ
requests_then ms qs vals = all_request_values (mems_of ms) qs ++ vals

-- a look-up of another kind of port passes them
pub past_requests : (x : List ℕ)
    → ((y : List ℕ) → bytes_eq (codes "q_" ++ y) x ≡ false) → ((y : List ℕ) → bytes_eq (codes "qa_" ++ y) x ≡ false)
    → (ms : List Mem) (qs : List (Option ℕ)) (names : List (List ℕ)) (vals : List ℕ) → length qs ≡ length ms
    → named_value (request_names (map (port_mem false) (delayed_of ms)) names) (requests_then ms qs vals) x ≡ named_value names vals x
past_requests x f g [] [] names vals l = refl
past_requests x f g [] (q ∷ qs) names vals l = absurd (cc l)
past_requests x f g (m ∷ ms) [] names vals l = absurd (cc l)
past_requests x f g (m ∷ ms) (q ∷ qs) names vals l = at (is_delayed m.kind) q (past_requests x f g ms qs names vals (omega (arith, l)))
  where
    pair : (a b : ℕ) → named_value (request_names (map (port_mem false) (delayed_of ms)) names) (requests_then ms qs vals) x ≡ named_value names vals x
        → (if bytes_eq (codes "q_" ++ m.name.name) x
        then a
        else (if bytes_eq (codes "qa_" ++ m.name.name) x then b
        else named_value (request_names (map (port_mem false) (delayed_of ms)) names) (requests_then ms qs vals) x))
        ≡ named_value names vals x
    pair a b h =
        ap
        (λ t. if t then a
        else (if bytes_eq (codes "qa_" ++ m.name.name) x then b
        else named_value (request_names (map (port_mem false) (delayed_of ms)) names) (requests_then ms qs vals) x))
        (f m.name.name)
        ∙ ap (λ t. if t then b else named_value (request_names (map (port_mem false) (delayed_of ms)) names) (requests_then ms qs vals) x) (g m.name.name) ∙ h

    at : (b : Bool) (o : Option ℕ)
        → named_value (request_names (map (port_mem false) (delayed_of ms)) names) (requests_then ms qs vals) x ≡ named_value names vals x
        → named_value (request_names (map (port_mem false) (if b then m ∷ delayed_of ms else delayed_of ms)) names)
        (((if b then request_values o else []) ++ all_request_values (mems_of ms) qs) ++ vals) x
        ≡ named_value names vals x
    at false o h = h
    at true None h = pair 0 0 h
    at true (Some a) h = pair 1 a h

-- with the request ports before others, there are as many values as names
pub requests_same : (ms : List Mem) (qs : List (Option ℕ)) (names : List (List ℕ)) (vals : List ℕ)
    → length qs ≡ length ms → length vals ≡ length names
    → length (requests_then ms qs vals) ≡ length (request_names (map (port_mem false) (delayed_of ms)) names)
requests_same [] [] names vals l e = e
requests_same [] (q ∷ qs) names vals l e = absurd (cc l)
requests_same (m ∷ ms) [] names vals l e = absurd (cc l)
requests_same (m ∷ ms) (q ∷ qs) names vals l e = at (is_delayed m.kind) q (requests_same ms qs names vals (omega (arith, l)) e)
  where
    at : (b : Bool) (o : Option ℕ) → length (requests_then ms qs vals) ≡ length (request_names (map (port_mem false) (delayed_of ms)) names)
        → length (((if b then request_values o else []) ++ all_request_values (mems_of ms) qs) ++ vals)
        ≡ length (request_names (map (port_mem false) (if b then m ∷ delayed_of ms else delayed_of ms)) names)
    at false o h = h
    at true None h = ap (λ i. suc (suc i)) h
    at true (Some a) h = ap (λ i. suc (suc i)) h

-- ---- which memories have a commit port

requests_none : (infos : List MemInfo) (ls : List PortMem) (names : List (List ℕ))
    → with_port infos (request_names ls names) ≡ with_port infos names
requests_none infos [] names = refl
requests_none infos (l ∷ ls) names =
    skipped infos (codes "q_" ++ l.name) ((codes "qa_" ++ l.name) ∷ request_names ls names) (λ x. refl)
    ∙ skipped infos (codes "qa_" ++ l.name) (request_names ls names) (λ x. refl)
    ∙ requests_none infos ls names

last_none : (infos : List MemInfo) → with_port infos last_names ≡ []
last_none infos = skipped infos (codes "ended") (codes "squash" ∷ []) (λ x. refl) ∙ skipped infos (codes "squash") [] (λ x. refl)

all_of_locked : (infos : List MemInfo) (twice : ℕ → Bool) (k : ℕ) (ms : List Mem) (names : List (List ℕ)) → AreFound ms infos
    → with_port infos names ≡ [] → with_port infos (commit_names (locked_of twice k ms) names) ≡ locked_infos ms
all_of_locked infos twice k [] names h z = z
all_of_locked infos twice k (m ∷ ms) names h z = go (is_some m.lock) (all_of_locked infos twice (suc k) ms names (λ n a. h n (inr a)) z)
  where
    others : List (List ℕ)
    others = commit_names (locked_of twice (suc k) ms) names

    go : (b : Bool) → with_port infos (commit_names (locked_of twice (suc k) ms) names) ≡ locked_infos ms
        → with_port infos (commit_names ((if b then port_mem (twice k) m ∷ [] else []) ++ locked_of twice (suc k) ms) names)
        ≡ (if b then info_of m ∷ [] else []) ++ locked_infos ms
    go true rest = one_of_locked infos m.name.name (twice k) (info_of m) others (h m (inl refl)) ∙ ap (λ l. info_of m ∷ l) rest
    go false rest = rest

-- where the outputs have the names of the ports of a pipe, the memories with a commit port are those with a lock, in declared order
pub locked_shown : (n : Netlist) (twice : ℕ → Bool) (ms : List Mem) (stages : ℕ)
    → map name_of_output (outputs_of (circuit_of n)) ≡ output_names stages (map (port_mem false) (delayed_of ms)) (locked_of twice 0 ms)
    → AreFound ms n.mems → commit_mems n ≡ locked_infos ms
locked_shown n twice ms stages named h =
    by_names n.mems (outputs_of (circuit_of n))
    ∙ ap (with_port n.mems) named
    ∙ none_of_stages n.mems 0 stages _
    ∙ all_of_locked n.mems twice 0 ms (request_names (map (port_mem false) (delayed_of ms)) last_names) h
    (requests_none n.mems (map (port_mem false) (delayed_of ms)) last_names ∙ last_none n.mems)

-- ---- the memories of a netlist by the names of their commit ports

found_left : (xs ys : List MemInfo) (port : List ℕ) (i : MemInfo) → commit_mem xs port ≡ Some i → commit_mem (xs ++ ys) port ≡ Some i
found_left [] ys port i e = absurd (cc e)
found_left (x ∷ xs) ys port i e = at (bytes_eq port (codes "c_" ++ x.name)) e (found_left xs ys port i)
  where
    at : (b : Bool) → (if b then Some x else commit_mem xs port) ≡ Some i
        → (commit_mem xs port ≡ Some i → commit_mem (xs ++ ys) port ≡ Some i)
        → (if b then Some x else commit_mem (xs ++ ys) port) ≡ Some i
    at true h rest = h
    at false h rest = rest h

-- a commit port that is of none of the first memories is sought among the others
pub found_right : (xs ys : List MemInfo) (port : List ℕ) → commit_mem xs port ≡ None → commit_mem (xs ++ ys) port ≡ commit_mem ys port
found_right [] ys port e = refl
found_right (x ∷ xs) ys port e = at (bytes_eq port (codes "c_" ++ x.name)) e (found_right xs ys port)
  where
    at : (b : Bool) → (if b then Some x else commit_mem xs port) ≡ None
        → (commit_mem xs port ≡ None → commit_mem (xs ++ ys) port ≡ commit_mem ys port)
        → (if b then Some x else commit_mem (xs ++ ys) port) ≡ commit_mem ys port
    at true h rest = absurd (cc h)
    at false h rest = rest h

-- the commit port of a name that no declared memory has is of none of them
pub none_found : (ms : List Mem) (x : List ℕ) → is_memory ms x ≡ false → commit_mem (map info_of ms) (codes "c_" ++ x) ≡ None
none_found [] x e = refl
none_found (m ∷ ms) x e =
    let parts = or_parts (bytes_eq m.name.name x) (is_memory ms x) e in
    ap (λ b. if b then Some (info_of m) else commit_mem (map info_of ms) (codes "c_" ++ x)) (name_turned m.name.name x parts.0) ∙ none_found ms x parts.1

-- a memory that doesn't pass a test has a name that none has that does
not_among : (test : Mem → Bool) (ms : List Mem) → AreDistinct ms → (m : Mem) → Among m ms
    → test m ≡ false → is_memory (filter test ms) m.name.name ≡ false
not_among test [] h m a t = absurd a
not_among test (x ∷ xs) h m (inl s) t = at (test x) (ap test s ∙ t)
  where
    at : (b : Bool) → b ≡ false → is_memory (if b then x ∷ filter test xs else filter test xs) m.name.name ≡ false
    at true e = absurd (cc e)
    at false e = ap (λ (y : Mem). is_memory (filter test xs) y.name.name) (sym s) ∙ none_named test xs x.name.name h.0
not_among test (x ∷ xs) h m (inr a) t = at (test x) (not_among test xs h.1 m a t)
  where
    at : (b : Bool) → is_memory (filter test xs) m.name.name ≡ false → is_memory (if b then x ∷ filter test xs else filter test xs) m.name.name ≡ false
    at true r = rw (name_turned m.name.name x.name.name (among_other x.name.name xs m h.0 a), r) refl
    at false r = r

-- each memory of a pipe is found in the netlist by its commit port, where names differ
pub net_found : (ms : List Mem) → AreDistinct ms → AreFound ms (net_infos ms)
net_found ms h m a = at (is_delayed m.kind) refl
  where
    at : (b : Bool) → is_delayed m.kind ≡ b → commit_mem (net_infos ms) (codes "c_" ++ m.name.name) ≡ Some (info_of m)
    at true e =
        found_left (map info_of (delayed_of ms)) (map info_of (comb_of ms)) (codes "c_" ++ m.name.name) (info_of m)
        (declared_found (delayed_of ms) (distinct_some answers_late ms h) m (some_among answers_late ms m a e))
    at false e =
        found_right (map info_of (delayed_of ms)) (map info_of (comb_of ms)) (codes "c_" ++ m.name.name)
        (none_found (delayed_of ms) m.name.name (not_among answers_late ms h m a e))
        ∙ declared_found (comb_of ms)
        (distinct_some Rattle.pdl_rules.specs.Refusal.answers_at_once ms h) m
        (some_among Rattle.pdl_rules.specs.Refusal.answers_at_once ms m a (ap Rattle.std.proofs.Common.not e))

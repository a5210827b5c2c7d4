-- The names of the ports of a pipe with delayed memories: no two of them are the same.
use Rattle.std.proofs.Common.{◌≢◌, ℕ, zero, suc, ◌≤◌, Bool, true, false, if◌then◌else◌, List, [], ◌∷◌, ◌++◌, map, codes, arith}
use Rattle.std.specs.Prelude.{filter}
use Rattle.pdl_semantics.specs.Tree.{Mem}
use Rattle.pdl_rules.specs.Typed.{AreDistinct}
use Rattle.pdl_net.specs.Pipe.{PortMem}
use Rattle.pdl_law_parts.specs.DeclaredMems.{port_mem, locked_of}
use Rattle.pdl_law_parts.proofs.WellFormedNames.{IsNone, AllDiffer, name_of_mem, mem_none}
use Rattle.pdl_law_parts.proofs.WellFormedPorts.{heads_apart, tails_apart, IsFree, AreFree, stage_names, stages_differ, all_free}
use Rattle.pdl_law_parts.proofs.LinesNames.{second_names}
use Rattle.pdl_law_follows.specs.Memories.{delayed_of}

-- ---- the names, each kind before others

-- the names of the reply ports of delayed memories, before others
abbrev pub reply_names : List PortMem → List (List ℕ) → List (List ℕ)
reply_names [] rest = rest
reply_names (l ∷ ls) rest = (codes "p_" ++ l.name) ∷ (codes "pd_" ++ l.name) ∷ reply_names ls rest

-- the names of the commit ports of memories with a lock, before others
abbrev pub commit_names : List PortMem → List (List ℕ) → List (List ℕ)
commit_names [] rest = rest
commit_names (l ∷ ls) rest =
    (codes "c_" ++ l.name) ∷ (codes "ca_" ++ l.name) ∷ (codes "cd_" ++ l.name) ∷ second_names l.twice l.name (commit_names ls rest)

-- the names of the request ports of delayed memories, before others
abbrev pub request_names : List PortMem → List (List ℕ) → List (List ℕ)
request_names [] rest = rest
request_names (l ∷ ls) rest = (codes "q_" ++ l.name) ∷ (codes "qa_" ++ l.name) ∷ request_names ls rest

-- the names of the last two outputs
abbrev pub last_names : List (List ℕ)
last_names = codes "ended" ∷ codes "squash" ∷ []

-- the names of the outputs: of stages, commits, requests and the last two
abbrev pub output_names : ℕ → List PortMem → List PortMem → List (List ℕ)
output_names stages delayed locked = stage_names 0 stages (commit_names locked (request_names delayed last_names))

-- the names of all ports: the replies, and then the outputs
abbrev pub port_names : ℕ → List PortMem → List PortMem → List (List ℕ)
port_names stages delayed locked = reply_names delayed (output_names stages delayed locked)

-- ---- names that begin with another letter

last_none : (a : ℕ) (x : List ℕ) → a ≢ 101 → a ≢ 115 → IsNone (a ∷ x) last_names
last_none a x e s = (heads_apart a 101 x _ e, (heads_apart a 115 x _ s, tt))

request_none : (a : ℕ) (x : List ℕ) (ls : List PortMem) (rest : List (List ℕ)) → a ≢ 113 → IsNone (a ∷ x) rest
    → IsNone (a ∷ x) (request_names ls rest)
request_none a x [] rest d h = h
request_none a x (l ∷ ls) rest d h = (heads_apart a 113 x _ d, (heads_apart a 113 x _ d, request_none a x ls rest d h))

second_none : (x : List ℕ) (twice : Bool) (n : List ℕ) (rest : List (List ℕ))
    → x ≢ codes "c2_" ++ n → x ≢ codes "ca2_" ++ n → x ≢ codes "cd2_" ++ n → IsNone x rest → IsNone x (second_names twice n rest)
second_none x true n rest c a d h = (c, (a, (d, h)))
second_none x false n rest c a d h = h

commit_none : (a : ℕ) (x : List ℕ) (ls : List PortMem) (rest : List (List ℕ)) → a ≢ 99 → IsNone (a ∷ x) rest
    → IsNone (a ∷ x) (commit_names ls rest)
commit_none a x [] rest d h = h
commit_none a x (l ∷ ls) rest d h = (
  heads_apart a 99 x _ d,
  (
    heads_apart a 99 x _ d,
    (
      heads_apart a 99 x _ d,
      second_none (a ∷ x) l.twice l.name (commit_names ls rest) (heads_apart a 99 x _ d) (heads_apart a 99 x _ d) (heads_apart a 99 x _ d)
          (commit_none a x ls rest d h),
    ),
  ),
)

stage_none : (a : ℕ) (x : List ℕ) (k n : ℕ) (rest : List (List ℕ)) → a ≢ 118 → a ≢ 103 → IsNone (a ∷ x) rest
    → IsNone (a ∷ x) (stage_names k n rest)
stage_none a x k zero rest v g h = h
stage_none a x k (suc n) rest v g h = (heads_apart a 118 x _ v, (heads_apart a 103 x _ g, stage_none a x (suc k) n rest v g h))

-- ---- replies

reply_flag : (n : List ℕ) (ls : List PortMem) (rest : List (List ℕ)) → IsFree n ls → IsNone (codes "p_" ++ n) rest
    → IsNone (codes "p_" ++ n) (reply_names ls rest)
reply_flag n [] rest f h = h
reply_flag n (l ∷ ls) rest f h =
    (tails_apart 112 _ _ (tails_apart 95 _ _ f.0), (tails_apart 112 _ _ (heads_apart 95 100 _ _ (λ e. omega arith)), reply_flag n ls rest f.1 h))

reply_word : (n : List ℕ) (ls : List PortMem) (rest : List (List ℕ)) → IsFree n ls → IsNone (codes "pd_" ++ n) rest
    → IsNone (codes "pd_" ++ n) (reply_names ls rest)
reply_word n [] rest f h = h
reply_word n (l ∷ ls) rest f h = (
  tails_apart 112 _ _ (heads_apart 100 95 _ _ (λ e. omega arith)),
  (tails_apart 112 _ _ (tails_apart 100 _ _ (tails_apart 95 _ _ f.0)), reply_word n ls rest f.1 h),
)

replies_differ : (ls : List PortMem) (rest : List (List ℕ)) → AreFree ls → ((x : List ℕ) → IsNone (112 ∷ x) rest)
    → AllDiffer rest → AllDiffer (reply_names ls rest)
replies_differ [] rest f h d = d
replies_differ (l ∷ ls) rest f h d = (
  (tails_apart 112 _ _ (heads_apart 95 100 _ _ (λ e. omega arith)), reply_flag l.name ls rest f.0 (h _)),
  (reply_word l.name ls rest f.0 (h _), replies_differ ls rest f.1 h d),
)

-- ---- commits

-- names of commit ports that differ in their second letter, or in their third
by_second : (a b : ℕ) (x y : List ℕ) → a ≢ b → 99 ∷ a ∷ x ≢ 99 ∷ b ∷ y
by_second a b x y d = tails_apart 99 _ _ (heads_apart a b x y d)

by_third : (a b c : ℕ) (x y : List ℕ) → b ≢ c → 99 ∷ a ∷ b ∷ x ≢ 99 ∷ a ∷ c ∷ y
by_third a b c x y d = tails_apart 99 _ _ (tails_apart a _ _ (heads_apart b c x y d))

commit_flag : (n : List ℕ) (ls : List PortMem) (rest : List (List ℕ)) → IsFree n ls → IsNone (codes "c_" ++ n) rest
    → IsNone (codes "c_" ++ n) (commit_names ls rest)
commit_flag n [] rest f h = h
commit_flag n (l ∷ ls) rest f h = (
  tails_apart 99 _ _ (tails_apart 95 _ _ f.0),
  (
    by_second 95 97 _ _ (λ e. omega arith),
    (
      by_second 95 100 _ _ (λ e. omega arith),
      second_none (codes "c_" ++ n) l.twice l.name (commit_names ls rest) (by_second 95 50 _ _ (λ e. omega arith)) (by_second 95 97 _ _ (λ e. omega arith))
          (by_second 95 100 _ _ (λ e. omega arith)) (commit_flag n ls rest f.1 h),
    ),
  ),
)

commit_address : (n : List ℕ) (ls : List PortMem) (rest : List (List ℕ)) → IsFree n ls → IsNone (codes "ca_" ++ n) rest
    → IsNone (codes "ca_" ++ n) (commit_names ls rest)
commit_address n [] rest f h = h
commit_address n (l ∷ ls) rest f h = (
  by_second 97 95 _ _ (λ e. omega arith),
  (
    tails_apart 99 _ _ (tails_apart 97 _ _ (tails_apart 95 _ _ f.0)),
    (
      by_second 97 100 _ _ (λ e. omega arith),
      second_none (codes "ca_" ++ n) l.twice l.name (commit_names ls rest) (by_second 97 50 _ _ (λ e. omega arith)) (by_third 97 95 50 _ _ (λ e. omega arith))
          (by_second 97 100 _ _ (λ e. omega arith)) (commit_address n ls rest f.1 h),
    ),
  ),
)

commit_word : (n : List ℕ) (ls : List PortMem) (rest : List (List ℕ)) → IsFree n ls → IsNone (codes "cd_" ++ n) rest
    → IsNone (codes "cd_" ++ n) (commit_names ls rest)
commit_word n [] rest f h = h
commit_word n (l ∷ ls) rest f h = (
  by_second 100 95 _ _ (λ e. omega arith),
  (
    by_second 100 97 _ _ (λ e. omega arith),
    (
      tails_apart 99 _ _ (tails_apart 100 _ _ (tails_apart 95 _ _ f.0)),
      second_none (codes "cd_" ++ n) l.twice l.name (commit_names ls rest) (by_second 100 50 _ _ (λ e. omega arith)) (by_second 100 97 _ _ (λ e. omega arith))
          (by_third 100 95 50 _ _ (λ e. omega arith)) (commit_word n ls rest f.1 h),
    ),
  ),
)

second_flag : (n : List ℕ) (ls : List PortMem) (rest : List (List ℕ)) → IsFree n ls → IsNone (codes "c2_" ++ n) rest
    → IsNone (codes "c2_" ++ n) (commit_names ls rest)
second_flag n [] rest f h = h
second_flag n (l ∷ ls) rest f h = (
  by_second 50 95 _ _ (λ e. omega arith),
  (
    by_second 50 97 _ _ (λ e. omega arith),
    (
      by_second 50 100 _ _ (λ e. omega arith),
      second_none (codes "c2_" ++ n) l.twice l.name (commit_names ls rest) (tails_apart 99 _ _ (tails_apart 50 _ _ (tails_apart 95 _ _ f.0)))
          (by_second 50 97 _ _ (λ e. omega arith)) (by_second 50 100 _ _ (λ e. omega arith)) (second_flag n ls rest f.1 h),
    ),
  ),
)

second_address : (n : List ℕ) (ls : List PortMem) (rest : List (List ℕ)) → IsFree n ls → IsNone (codes "ca2_" ++ n) rest
    → IsNone (codes "ca2_" ++ n) (commit_names ls rest)
second_address n [] rest f h = h
second_address n (l ∷ ls) rest f h = (
  by_second 97 95 _ _ (λ e. omega arith),
  (
    by_third 97 50 95 _ _ (λ e. omega arith),
    (
      by_second 97 100 _ _ (λ e. omega arith),
      second_none (codes "ca2_" ++ n) l.twice l.name (commit_names ls rest) (by_second 97 50 _ _ (λ e. omega arith))
          (tails_apart 99 _ _ (tails_apart 97 _ _ (tails_apart 50 _ _ (tails_apart 95 _ _ f.0)))) (by_second 97 100 _ _ (λ e. omega arith))
          (second_address n ls rest f.1 h),
    ),
  ),
)

second_word : (n : List ℕ) (ls : List PortMem) (rest : List (List ℕ)) → IsFree n ls → IsNone (codes "cd2_" ++ n) rest
    → IsNone (codes "cd2_" ++ n) (commit_names ls rest)
second_word n [] rest f h = h
second_word n (l ∷ ls) rest f h = (
  by_second 100 95 _ _ (λ e. omega arith),
  (
    by_second 100 97 _ _ (λ e. omega arith),
    (
      by_third 100 50 95 _ _ (λ e. omega arith),
      second_none (codes "cd2_" ++ n) l.twice l.name (commit_names ls rest) (by_second 100 50 _ _ (λ e. omega arith)) (by_second 100 97 _ _ (λ e. omega arith))
          (tails_apart 99 _ _ (tails_apart 100 _ _ (tails_apart 50 _ _ (tails_apart 95 _ _ f.0)))) (second_word n ls rest f.1 h),
    ),
  ),
)

seconds_differ : (twice : Bool) (n : List ℕ) (ls : List PortMem) (rest : List (List ℕ)) → IsFree n ls → ((x : List ℕ) → IsNone (99 ∷ x) rest)
    → AllDiffer (commit_names ls rest) → AllDiffer (second_names twice n (commit_names ls rest))
seconds_differ false n ls rest f h d = d
seconds_differ true n ls rest f h d = (
  (by_second 50 97 _ _ (λ e. omega arith), (by_second 50 100 _ _ (λ e. omega arith), second_flag n ls rest f (h _))),
  (
    (by_second 97 100 _ _ (λ e. omega arith), second_address n ls rest f (h _)),
    (second_word n ls rest f (h _), d),
  ),
)

commits_differ : (ls : List PortMem) (rest : List (List ℕ)) → AreFree ls → ((x : List ℕ) → IsNone (99 ∷ x) rest)
    → AllDiffer rest → AllDiffer (commit_names ls rest)
commits_differ [] rest f h d = d
commits_differ (l ∷ ls) rest f h d = (
  (
    by_second 95 97 _ _ (λ e. omega arith),
    (
      by_second 95 100 _ _ (λ e. omega arith),
      second_none (codes "c_" ++ l.name) l.twice l.name (commit_names ls rest) (by_second 95 50 _ _ (λ e. omega arith))
          (by_second 95 97 _ _ (λ e. omega arith)) (by_second 95 100 _ _ (λ e. omega arith)) (commit_flag l.name ls rest f.0 (h _)),
    ),
  ),
  (
    (
      by_second 97 100 _ _ (λ e. omega arith),
      second_none (codes "ca_" ++ l.name) l.twice l.name (commit_names ls rest) (by_second 97 50 _ _ (λ e. omega arith))
          (by_third 97 95 50 _ _ (λ e. omega arith)) (by_second 97 100 _ _ (λ e. omega arith)) (commit_address l.name ls rest f.0 (h _)),
    ),
    (
      second_none (codes "cd_" ++ l.name) l.twice l.name (commit_names ls rest) (by_second 100 50 _ _ (λ e. omega arith))
          (by_second 100 97 _ _ (λ e. omega arith)) (by_third 100 95 50 _ _ (λ e. omega arith)) (commit_word l.name ls rest f.0 (h _)),
      seconds_differ l.twice l.name ls rest f.0 h (commits_differ ls rest f.1 h d),
    ),
  ),
)

-- ---- requests

request_flag : (n : List ℕ) (ls : List PortMem) (rest : List (List ℕ)) → IsFree n ls → IsNone (codes "q_" ++ n) rest
    → IsNone (codes "q_" ++ n) (request_names ls rest)
request_flag n [] rest f h = h
request_flag n (l ∷ ls) rest f h =
    (tails_apart 113 _ _ (tails_apart 95 _ _ f.0), (tails_apart 113 _ _ (heads_apart 95 97 _ _ (λ e. omega arith)), request_flag n ls rest f.1 h))

request_address : (n : List ℕ) (ls : List PortMem) (rest : List (List ℕ)) → IsFree n ls → IsNone (codes "qa_" ++ n) rest
    → IsNone (codes "qa_" ++ n) (request_names ls rest)
request_address n [] rest f h = h
request_address n (l ∷ ls) rest f h = (
  tails_apart 113 _ _ (heads_apart 97 95 _ _ (λ e. omega arith)),
  (tails_apart 113 _ _ (tails_apart 97 _ _ (tails_apart 95 _ _ f.0)), request_address n ls rest f.1 h),
)

requests_differ : (ls : List PortMem) (rest : List (List ℕ)) → AreFree ls → ((x : List ℕ) → IsNone (113 ∷ x) rest)
    → AllDiffer rest → AllDiffer (request_names ls rest)
requests_differ [] rest f h d = d
requests_differ (l ∷ ls) rest f h d = (
  (tails_apart 113 _ _ (heads_apart 95 97 _ _ (λ e. omega arith)), request_flag l.name ls rest f.0 (h _)),
  (request_address l.name ls rest f.0 (h _), requests_differ ls rest f.1 h d),
)

-- ---- all

-- the names of some distinct memories differ
some_free : (test : Mem → Bool) (n : List ℕ) (ms : List Mem) → IsNone n (map name_of_mem ms) → IsFree n (map (port_mem false) (filter test ms))
some_free test n [] h = tt
some_free test n (m ∷ ms) h = at (test m) (some_free test n ms h.1)
  where
    at : (b : Bool) → IsFree n (map (port_mem false) (filter test ms)) → IsFree n (map (port_mem false) (if b then m ∷ filter test ms else filter test ms))
    at true f = (h.0, f)
    at false f = f

are_free : (test : Mem → Bool) (ms : List Mem) → AreDistinct ms → AreFree (map (port_mem false) (filter test ms))
are_free test [] h = tt
are_free test (m ∷ ms) h = at (test m) (are_free test ms h.1)
  where
    at : (b : Bool) → AreFree (map (port_mem false) (filter test ms)) → AreFree (map (port_mem false) (if b then m ∷ filter test ms else filter test ms))
    at true f = (some_free test m.name.name ms (mem_none m.name.name ms h.0), f)
    at false f = f

-- no two ports have one name
pub port_names_differ : (n : ℕ) (twice : ℕ → Bool) (ms : List Mem)
    → n ≤ 64 → AreDistinct ms → AllDiffer (port_names n (map (port_mem false) (delayed_of ms)) (locked_of twice 0 ms))
port_names_differ n twice ms l h =
    replies_differ delayed (stage_names 0 n commits) free
    (λ x. stage_none 112 x 0 n commits (λ e. omega arith) (λ e. omega arith)
    (commits_none 112 x (λ e. omega arith) (λ e. omega arith) (λ e. omega arith) (λ e. omega arith)))
    (stages_differ 0 n commits (omega arith)
    (λ j. commits_none 118 _ (λ e. omega arith) (λ e. omega arith) (λ e. omega arith) (λ e. omega arith))
    (λ j. commits_none 103 _ (λ e. omega arith) (λ e. omega arith) (λ e. omega arith) (λ e. omega arith))
    (commits_differ (locked_of twice 0 ms) (request_names delayed last_names) (all_free twice 0 ms h)
    (λ x. request_none 99 x delayed last_names (λ e. omega arith) (last_none 99 x (λ e. omega arith) (λ e. omega arith)))
    (requests_differ delayed last_names free (λ x. last_none 113 x (λ e. omega arith) (λ e. omega arith))
    ((heads_apart 101 115 _ _ (λ e. omega arith), tt), (tt, tt)))))
  where
    delayed : List PortMem
    delayed = map (port_mem false) (delayed_of ms)

    commits : List (List ℕ)
    commits = commit_names (locked_of twice 0 ms) (request_names delayed last_names)

    free : AreFree (map (port_mem false) (delayed_of ms))
    free = are_free Rattle.pdl_law_follows.specs.Memories.answers_late ms h

    commits_none : (a : ℕ) (x : List ℕ) → a ≢ 99 → a ≢ 113 → a ≢ 101 → a ≢ 115
        → IsNone (a ∷ x) (commit_names (locked_of twice 0 ms) (request_names (map (port_mem false) (delayed_of ms)) last_names))
    commits_none a x c q e s =
        commit_none a x (locked_of twice 0 ms) _ c (request_none a x (map (port_mem false) (delayed_of ms)) last_names q (last_none a x e s))

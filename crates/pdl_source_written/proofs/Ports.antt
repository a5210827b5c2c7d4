-- The ports of a netlist that follows a pipe: their names, and how many they are.
use Rattle.std.proofs.Common.{◌≡◌, refl, sym, ap, subst, ℕ, zero, suc, ◌+◌, ◌*◌, ◌<◌, ◌≤◌, Bool, true, false, not, if◌then◌else◌, List, [], ◌∷◌, ◌++◌, length, map, flat_map, codes, decimal, Option, Some, None, All, arith}
use Rattle.std.specs.Prelude.{filter_map}
use Rattle.std.specs.Option.{is_some}
use Rattle.std.specs.List.{range_with_len, cons_option}
use Rattle.std.proofs.lemmas.Fmt.{length-decimal-le}
use Rattle.std.proofs.lemmas.List.{length-append, length-map}
use Rattle.std.proofs.lemmas.List.Elements.{All-head, All-tail}
use Rattle.pdl_kit.specs.declared.mem_info.MemInfo.{MemInfo}
use Rattle.pdl_word.specs.Each.{Each}
use Rattle.pdl_word.proofs.Each.{each_append}
use Rattle.pdl_semantics.specs.Tree.{LockDecl, Mem}
use Rattle.pdl_semantics.specs.Flat.{is_delayed}
use Rattle.pdl_rules.specs.Memories.{info_of}
use Rattle.pdl_vread_text.specs.Words.{is_name}
use Rattle.pdl_net.specs.declared.Dir.{Dir}
use Rattle.pdl_net.specs.declared.Dir.TheVariants.{In, Out}
use Rattle.pdl_net.specs.declared.Port.{Port}
use Rattle.pdl_net.specs.Pipe.{Head, head_of, output, reply_ports, stage_ports, first_ports, second_ports, commit_ports, request_ports, pipe_ports}
use Rattle.pdl_law_parts.specs.DeclaredMems.{port_mem, locked_of}
use Rattle.pdl_law_follows.specs.Memories.{delayed_of, comb_of, net_infos}
use Rattle.pdl_law_follows.proofs.Memories.{as_many}
use Rattle.pdl_wave.specs.declared.port.WavePort.{WavePort}
use Rattle.pdl_wave.specs.Dump.{is_word}
use Rattle.pdl_wave.proofs.LineBytes.{decimal_word}
use Rattle.pdl_netrun_wave.specs.Dumped.{wave_with, wave_port}
use Rattle.pdl_source_written.proofs.Names.{IsShortWord, name_word, prefixed, longer}

-- ---- ports by their heads

-- a port whose name can stand in a dump
abbrev pub HasWord : Head → Type 0
HasWord h = IsShortWord 64 h.name

words_by : (ps : List Port) → Each HasWord (map head_of ps) → Each (λ (p : WavePort). IsShortWord 64 p.name) (filter_map wave_port ps)
words_by [] h = tt
words_by (p ∷ ps) h = one p.dir h.0 (words_by ps h.1)
  where
    one : (d : Dir) → IsShortWord 64 p.name → Each (λ (q : WavePort). IsShortWord 64 q.name) (filter_map wave_port ps)
        → Each (λ (q : WavePort). IsShortWord 64 q.name) (cons_option (wave_with d p.name p.width) (filter_map wave_port ps))
    one In w rest = rest
    one (Out x) w rest = (w, rest)

few_by : (ps : List Port) → length (filter_map wave_port ps) ≤ length ps
few_by [] = omega arith
few_by (p ∷ ps) = one p.dir (few_by ps)
  where
    one : (d : Dir) → length (filter_map wave_port ps) ≤ length ps
        → length (cons_option (wave_with d p.name p.width) (filter_map wave_port ps)) ≤ suc (length ps)
    one In l = omega (arith, l)
    one (Out x) l = omega (arith, l)

-- ---- the ports of stages

prefix_word : (a : List ℕ) → is_word a ≡ true → length a ≤ 4 → IsShortWord 4 a
prefix_word a w l = record { word = w; short = l }

number_word : (k : ℕ) → k < 64 → IsShortWord 2 (decimal k)
number_word k l = record { word = decimal_word k (omega arith); short = length-decimal-le 2 k (omega arith) (omega arith) (omega arith) }

stage_word : (a : List ℕ) (k : ℕ) → IsShortWord 4 a → k < 64 → IsShortWord 64 (a ++ decimal k)
stage_word a k h l = longer (4 + 2) 64 (a ++ decimal k) (omega arith) (prefixed 4 2 a (decimal k) h (number_word k l))

stages_from : (k n : ℕ) → k + n ≤ 64 → Each HasWord (flat_map stage_ports (range_with_len k n))
stages_from k zero l = tt
stages_from k (suc n) l =
    let low : k < 64 = omega arith in (
      stage_word (codes "v_") k (prefix_word (codes "v_") refl (omega arith)) low,
      (stage_word (codes "g_") k (prefix_word (codes "g_") refl (omega arith)) low, stages_from (k + 1) n (omega arith)),
    )

stages_count : (k n : ℕ) → length (flat_map stage_ports (range_with_len k n)) ≡ 2 * n
stages_count k zero = refl
stages_count k (suc n) = let rest = stages_count (k + 1) n in omega (arith, rest)

-- ---- the ports of memories

abbrev IsNamed : Mem → Type 0
IsNamed m = is_name m.name.name ≡ true

abbrev IsTold : MemInfo → Type 0
IsTold m = is_name m.name ≡ true

-- those of the first of some memories, and of the rest
first_named : (ms : List Mem) (rest : List MemInfo) → All IsTold (map info_of ms ++ rest) → Each IsNamed ms × All IsTold rest
first_named [] rest h = (tt, h)
first_named (m ∷ ms) rest h =
    let more = first_named ms rest (All-tail IsTold (info_of m) (map info_of ms ++ rest) h) in
    ((All-head IsTold (info_of m) (map info_of ms ++ rest) h, more.0), more.1)

last_named : (ms : List Mem) → All IsTold (map info_of ms) → Each IsNamed ms
last_named [] h = tt
last_named (m ∷ ms) h = (All-head IsTold (info_of m) (map info_of ms) h, last_named ms (All-tail IsTold (info_of m) (map info_of ms) h))

-- each memory is a delayed one, or answers at once
both_named : (ms : List Mem) → Each IsNamed (delayed_of ms) → Each IsNamed (comb_of ms) → Each IsNamed ms
both_named [] h k = tt
both_named (m ∷ ms) h k = at (is_delayed m.kind) (λ a b. both_named ms a b) h k
  where
    at : (b : Bool) → (Each IsNamed (delayed_of ms) → Each IsNamed (comb_of ms) → Each IsNamed ms)
        → Each IsNamed (if b then m ∷ delayed_of ms else delayed_of ms)
        → Each IsNamed (if not b then m ∷ comb_of ms else comb_of ms) → Each IsNamed (m ∷ ms)
    at true rest h k = (h.0, rest h.1 k)
    at false rest h k = (k.0, rest h k.1)

-- where the told memories of a netlist have names, the delayed memories have, and all memories have
pub named_by : (ms : List Mem) (infos : List MemInfo)
    → infos ≡ net_infos ms → All (λ (m : MemInfo). is_name m.name ≡ true) infos
    → Each (λ (m : Mem). is_name m.name.name ≡ true) (delayed_of ms) × Each (λ (m : Mem). is_name m.name.name ≡ true) ms
named_by ms infos e all =
    let h = first_named (delayed_of ms) (map info_of (comb_of ms)) (subst (All IsTold) e all) in
    (h.0, both_named ms h.0 (last_named (comb_of ms) h.1))

mem_word : (a t : List ℕ) → IsShortWord 4 a → is_name t ≡ true → IsShortWord 64 (a ++ t)
mem_word a t h n = longer (4 + 32) 64 (a ++ t) (omega arith) (prefixed 4 32 a t h (name_word t n))

commit_words : (b : Bool) (m : Mem) → is_name m.name.name ≡ true → Each HasWord (commit_ports (port_mem b m))
commit_words b m h = at b
  where
    named : (a : List ℕ) → is_word a ≡ true → length a ≤ 4 → IsShortWord 64 (a ++ m.name.name)
    named a w l = mem_word a m.name.name (prefix_word a w l) h

    second : Each HasWord (second_ports (port_mem true m))
    second = (named (codes "c2_") refl (omega arith), (named (codes "ca2_") refl (omega arith), (named (codes "cd2_") refl (omega arith), tt)))

    first : Each HasWord (first_ports (port_mem b m))
    first = (named (codes "c_") refl (omega arith), (named (codes "ca_") refl (omega arith), (named (codes "cd_") refl (omega arith), tt)))

    at : (b : Bool) → Each HasWord (commit_ports (port_mem b m))
    at true = each_append HasWord (first_ports (port_mem true m)) (second_ports (port_mem true m)) first second
    at false = first

commits_words : (twice : ℕ → Bool) (k : ℕ) (ms : List Mem)
    → Each (λ (m : Mem). is_name m.name.name ≡ true) ms → Each HasWord (flat_map commit_ports (locked_of twice k ms))
commits_words twice k [] h = tt
commits_words twice k (m ∷ ms) h = one m.lock (commits_words twice (suc k) ms h.1)
  where
    one : (l : Option LockDecl) → Each HasWord (flat_map commit_ports (locked_of twice (suc k) ms))
        → Each HasWord (flat_map commit_ports ((if is_some l then port_mem (twice k) m ∷ [] else []) ++ locked_of twice (suc k) ms))
    one None rest = rest
    one (Some l) rest =
        each_append HasWord (commit_ports (port_mem (twice k) m)) (flat_map commit_ports (locked_of twice (suc k) ms)) (commit_words (twice k) m h.0) rest

commit_count : (b : Bool) (m : Mem) → length (commit_ports (port_mem b m)) ≤ 6
commit_count true m = omega arith
commit_count false m = omega arith

commits_count : (twice : ℕ → Bool) (k : ℕ) (ms : List Mem) → length (flat_map commit_ports (locked_of twice k ms)) ≤ 6 * length ms
commits_count twice k [] = omega arith
commits_count twice k (m ∷ ms) = one m.lock (commits_count twice (suc k) ms)
  where
    one : (l : Option LockDecl) → length (flat_map commit_ports (locked_of twice (suc k) ms)) ≤ 6 * length ms
        → length (flat_map commit_ports ((if is_some l then port_mem (twice k) m ∷ [] else []) ++ locked_of twice (suc k) ms)) ≤ 6 * suc (length ms)
    one None l = omega (arith, l)
    one (Some x) l =
        let front = commit_ports (port_mem (twice k) m) in
        let n = length-append front (flat_map commit_ports (locked_of twice (suc k) ms)) in
        let few = commit_count (twice k) m in
        omega (arith, l, n, few)

replies_words : (ms : List Mem) → Each (λ (m : Mem). is_name m.name.name ≡ true) ms → Each HasWord (flat_map reply_ports (map (port_mem false) ms))
replies_words [] h = tt
replies_words (m ∷ ms) h = (
  mem_word (codes "p_") m.name.name (prefix_word (codes "p_") refl (omega arith)) h.0,
  (mem_word (codes "pd_") m.name.name (prefix_word (codes "pd_") refl (omega arith)) h.0, replies_words ms h.1),
)

replies_count : (ms : List Mem) → length (flat_map reply_ports (map (port_mem false) ms)) ≡ 2 * length ms
replies_count [] = refl
replies_count (m ∷ ms) = let rest = replies_count ms in omega (arith, rest)

requests_words : (ms : List Mem)
    → Each (λ (m : Mem). is_name m.name.name ≡ true) ms → Each HasWord (flat_map request_ports (map (port_mem false) ms))
requests_words [] h = tt
requests_words (m ∷ ms) h = (
  mem_word (codes "q_") m.name.name (prefix_word (codes "q_") refl (omega arith)) h.0,
  (mem_word (codes "qa_") m.name.name (prefix_word (codes "qa_") refl (omega arith)) h.0, requests_words ms h.1),
)

requests_count : (ms : List Mem) → length (flat_map request_ports (map (port_mem false) ms)) ≡ 2 * length ms
requests_count [] = refl
requests_count (m ∷ ms) = let rest = requests_count ms in omega (arith, rest)

-- ---- all

ended_word : IsShortWord 64 (codes "ended")
ended_word = record { word = refl; short = omega arith }

squash_word : IsShortWord 64 (codes "squash")
squash_word = record { word = refl; short = omega arith }

-- the names of the ports of a pipe
pub pipe_words : (stages : ℕ) (twice : ℕ → Bool) (ms : List Mem)
    → stages ≤ 64
    → Each (λ (m : Mem). is_name m.name.name ≡ true) (delayed_of ms) × Each (λ (m : Mem). is_name m.name.name ≡ true) ms
    → Each HasWord (pipe_ports stages (map (port_mem false) (delayed_of ms)) (locked_of twice 0 ms))
pipe_words stages twice ms few named =
    let replies = flat_map reply_ports (map (port_mem false) (delayed_of ms)) in
    let front = flat_map stage_ports (range_with_len 0 stages) in
    let commits = flat_map commit_ports (locked_of twice 0 ms) in
    let requests = flat_map request_ports (map (port_mem false) (delayed_of ms)) in
    let last = output (codes "ended") 1 ∷ output (codes "squash") 1 ∷ [] in
    each_append HasWord (replies ++ front ++ commits ++ requests) last
    (each_append HasWord (replies ++ front ++ commits) requests
    (each_append HasWord (replies ++ front) commits
    (each_append HasWord replies front (replies_words (delayed_of ms) named.0) (stages_from 0 stages (omega (arith, few))))
    (commits_words twice 0 ms named.1))
    (requests_words (delayed_of ms) named.0))
    (ended_word, (squash_word, tt))

-- a pipe of at most 64 stages and 16 memories has at most 290 ports
pub pipe_count : (stages : ℕ) (twice : ℕ → Bool) (ms : List Mem)
    → stages ≤ 64 → length ms ≤ 16 → length (pipe_ports stages (map (port_mem false) (delayed_of ms)) (locked_of twice 0 ms)) ≤ 290
pipe_count stages twice ms few mems =
    let replies = flat_map reply_ports (map (port_mem false) (delayed_of ms)) in
    let front = flat_map stage_ports (range_with_len 0 stages) in
    let commits = flat_map commit_ports (locked_of twice 0 ms) in
    let requests = flat_map request_ports (map (port_mem false) (delayed_of ms)) in
    let last = output (codes "ended") 1 ∷ output (codes "squash") 1 ∷ [] in
    let a = length-append (replies ++ front ++ commits ++ requests) last in
    let b = length-append (replies ++ front ++ commits) requests in
    let c = length-append (replies ++ front) commits in
    let d = length-append replies front in
    let s = stages_count 0 stages in
    let k = commits_count twice 0 ms in
    let x = replies_count (delayed_of ms) in
    let y = requests_count (delayed_of ms) in
    let many = as_many ms in
    omega (arith, a, b, c, d, s, k, x, y, many, few, mems)

-- the dumped ports of a netlist with these heads have short names, where the heads have
pub wave_words : (ps : List Port) (heads : List Head)
    → map head_of ps ≡ heads → Each HasWord heads
    → Each (λ (p : WavePort). IsShortWord 64 p.name) (filter_map wave_port ps)
wave_words ps heads e h = words_by ps (subst (Each HasWord) (sym e) h)

-- no more ports are dumped than a netlist has
pub wave_count : (ps : List Port) (heads : List Head) → map head_of ps ≡ heads → length (filter_map wave_port ps) ≤ length heads
wave_count ps heads e = let n = length-map ps head_of in let m = few_by ps in omega (arith, n, m, ap length e)

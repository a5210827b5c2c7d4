-- How many values the ports have.
use Rattle.std.proofs.Common.{◌≡◌, refl, ℕ, suc, ◌+◌, ◌*◌, ◌≤◌, Bool, true, false, if◌then◌else◌, List, [], ◌∷◌, ◌++◌, Option, Some, None, length, length-append, arith}
use Rattle.pdl_semantics.specs.Flat.{Lock, Mem, Stmt, Stage, Pipe, has_lock, is_delayed}
use Rattle.pdl_semantics.specs.Machine.{State}
use Rattle.pdl_semantics.specs.Moves.{Act}
use Rattle.pdl_semantics.specs.Cycle.{PortWrite, port_writes, for_stages, for_mems, asked_in}
use Rattle.pdl_semantics.specs.Cycle as stated
use Rattle.pdl_word.specs.Words.{bit}
use Rattle.pdl_semantics.specs.SecondWrites.{reserves_twice, all_twice}
use Rattle.pdl_machine_facts.specs.Ports.{stage_values, shown_values, second_values, commit_values, all_commit_values, request_values, all_request_values, whole_values}
use Rattle.pdl_machine_pending.specs.Memory.{Memory}
use Rattle.pdl_machine_run.specs.declared.stage.Stage as r_stage
use Rattle.pdl_machine_run.specs.Acts.{out_of, commits_shown, are_held, are_moving}
use Rattle.pdl_machine_run.specs.Requests.{requests_shown}
use Rattle.pdl_machine_run.specs.Outputs.{commit_count, all_memory_count, output_count}

stages_counted : (f g : ℕ → Bool) (k : ℕ) (ys : List Stage) → length (stage_values (for_stages f k ys) (for_stages g k ys)) ≡ 2 * length ys
stages_counted f g k [] = refl
stages_counted f g k (y ∷ ys) = let rest = stages_counted f g (suc k) ys in omega (arith, rest)

shown_counted : (ws : List PortWrite) → length (shown_values ws) ≡ 3
shown_counted [] = refl
shown_counted (w ∷ ws) = refl

second_counted : (ws : List PortWrite) → length (second_values ws) ≡ 3
second_counted [] = refl
second_counted (w ∷ ws) = shown_counted ws

one_counted : (l : Lock) (t : Bool) (ws : List PortWrite) → length (commit_values l t ws) ≡ commit_count l t
one_counted l t ws = at (has_lock l) t
  where
    at : (b t : Bool) → length (if b then shown_values ws ++ (if t then second_values ws else []) else []) ≡ (if b then (if t then 6 else 3) else 0)
    at false t = refl
    at true true = let a = shown_counted ws in let b = second_counted ws in let c = length-append (shown_values ws) (second_values ws) in omega (arith, a, b, c)
    at true false = let a = shown_counted ws in let c = length-append {A = ℕ} (shown_values ws) [] in omega (arith, a, c)

request_counted : (b : Bool) (o : Option ℕ) → length (if b then request_values o else []) ≡ (if b then 2 else 0)
request_counted false o = refl
request_counted true None = refl
request_counted true (Some a) = refl

memories_counted : (xs : List Stmt) (f : ℕ → List PortWrite) (g : ℕ → Option ℕ) (k : ℕ) (ms : List Mem)
    → length (all_commit_values (all_twice xs k ms) ms (for_mems f k ms)) + length (all_request_values ms (for_mems g k ms))
    ≡ all_memory_count (all_twice xs k ms) ms
memories_counted xs f g k [] = refl
memories_counted xs f g k (m ∷ ms) =
    let rest = memories_counted xs f g (suc k) ms in
    let t = reserves_twice k xs in
    let one = one_counted m.lock t (f k) in
    let two = request_counted (is_delayed m.kind) (g k) in
    let a = length-append (commit_values m.lock t (f k)) (all_commit_values (all_twice xs (suc k) ms) ms (for_mems f (suc k) ms)) in
    let b = length-append (if is_delayed m.kind then request_values (g k) else []) (all_request_values ms (for_mems g (suc k) ms)) in
    omega (arith, rest, one, two, a, b)

-- the ports of a pipe show as many values as it has outputs
pub ports_counted : (p : Pipe) (st : State) (acts : List Act) → length (whole_values p (stated.ports p st acts)) ≡ output_count p
ports_counted p st acts =
    let o : stated.Ports = stated.ports p st acts in
    let last : List ℕ = bit o.ended ∷ bit o.squash ∷ [] in
    let stages : length (stage_values o.valid o.moves) ≡ 2 * length p.stages = stages_counted _ _ 0 p.stages in
    let ts : List Bool = all_twice p.stmts 0 p.mems in
    let memories : length (all_commit_values ts p.mems o.commits) + length (all_request_values p.mems o.requests) ≡ all_memory_count ts p.mems =
    memories_counted p.stmts _ _ 0 p.mems in
    let a = length-append (all_request_values p.mems o.requests) last in
    let b = length-append (all_commit_values ts p.mems o.commits) (all_request_values p.mems o.requests ++ last) in
    let c = length-append (stage_values o.valid o.moves) (all_commit_values ts p.mems o.commits ++ (all_request_values p.mems o.requests ++ last)) in
    omega (arith, stages, memories, a, b, c)

-- HOW MANY ARE SHOWN

-- two values are shown for each stage
pub stages_shown : (zs : List r_stage.Stage) → length (stage_values (are_held zs) (are_moving zs)) ≡ 2 * length zs
stages_shown [] = refl
stages_shown (z ∷ zs) = let rest = stages_shown zs in omega arith

few : (b : Bool) (n : ℕ) → (if b then n else 0) ≤ n
few true n = omega arith
few false n = omega arith

-- at most six values are shown for the commits of a memory
six : (l : Lock) (t : Bool) → commit_count l t ≤ 6
six l t = at (has_lock l) t
  where
    at : (b t : Bool) → (if b then (if t then 6 else 3) else 0) ≤ 6
    at false t = omega arith
    at true true = omega arith
    at true false = omega arith

-- so of each of these memories
pub commits_most : (ts : List Bool) (k : ℕ) (ms : List Act) (xs : List Memory) → length (commits_shown ts k ms xs) ≤ 6 * length xs
commits_most [] k ms xs = omega arith
commits_most (t ∷ ts) k ms [] = omega arith
commits_most (t ∷ ts) k ms (x ∷ xs) =
    let here = one_counted x.lock t (port_writes (out_of k ms x.pending)) in
    let most = six x.lock t in
    let rest = commits_most ts (suc k) ms xs in
    let sum = length-append (commit_values x.lock t (port_writes (out_of k ms x.pending))) (commits_shown ts (suc k) ms xs) in
    omega (arith, here, most, rest, sum)

-- at most two values are shown for the requests of each memory
pub requests_most : (k : ℕ) (ms : List Act) (xs : List Mem) → length (requests_shown k ms xs) ≤ 2 * length xs
requests_most k ms [] = omega arith
requests_most k ms (x ∷ xs) =
    let here = request_counted (is_delayed x.kind) (asked_in ms k) in
    let most = few (is_delayed x.kind) 2 in
    let rest = requests_most (suc k) ms xs in
    let sum = length-append (if is_delayed x.kind then request_values (asked_in ms k) else []) (requests_shown (suc k) ms xs) in
    omega arith

-- a count up to k that grows by at most one is at most k + 1
pub one_more : (b : Bool) (n r k : ℕ) → r ≡ (if b then suc n else n) → n ≤ k → r ≤ suc k
one_more true n r k e h = omega arith
one_more false n r k e h = omega arith

-- What the values of the ports of a pipe say of each memory, by the names of the ports.
use Rattle.std.proofs.Common.{◌≡◌, inl, inr, ℕ, zero, suc, ◌+◌, ◌≤◌, Bool, true, false, ◌&&◌, if◌then◌else◌, cond, List, [], ◌∷◌, ◌++◌, length, map, Option, Some, None, codes, decimal, bytes_eq, refl, sym, ap, ap₂, ◌∙◌, arith}
use Rattle.std.specs.Prelude.{slice_index, ◌==◌}
use Rattle.std.specs.List.{position_from}
use Rattle.std.specs.Option.{is_some}
use Rattle.std.proofs.lemmas.Bool.{or_parts}
use Rattle.pdl_word.specs.Words.{bit}
use Rattle.pdl_kit.specs.declared.mem_info.MemInfo.{MemInfo}
use Rattle.pdl_semantics.specs.Tree.{LockDecl, Mem}
use Rattle.pdl_semantics.specs.Flat.{Stmt, has_lock}
use Rattle.pdl_semantics.specs.Flatten.{mems_of, flat_lock}
use Rattle.pdl_semantics.specs.Cycle.{PortWrite}
use Rattle.pdl_semantics.specs.SecondWrites.{reserves_twice}
use Rattle.pdl_semantics.specs.Lines.{Put, puts_for, puts_in}
use Rattle.pdl_rules.specs.Typed.{is_memory, AreDistinct}
use Rattle.pdl_net.specs.Circuit.{Circuit, Output, outputs_of}
use Rattle.pdl_net.specs.Run.{value_at, port_value}
use Rattle.pdl_machine_facts.specs.Ports.{stage_values, shown_values, second_values, commit_values}
use Rattle.pdl_law_parts.specs.Runs.{puts_of}
use Rattle.pdl_law_parts.proofs.WellFormedNames.{Among, name_turned, among_other}
use Rattle.pdl_law_parts.proofs.WellFormedPorts.{stage_names}
use Rattle.pdl_law_parts.proofs.LinesMachine.{AreCommits}
use Rattle.pdl_law_parts.proofs.LinesNames.{name_of_output}
use Rattle.pdl_word.proofs.Bytes.{bytes_refl}
use Rattle.pdl_semantics.proofs.Facts.{lock_declared}
use Rattle.pdl_rules.specs.Memories.{info_of}

-- ---- ports by name

-- the value at the first place of this name, 0 where there is none
abbrev pub named_value : List (List ℕ) → List ℕ → List ℕ → ℕ
named_value (y ∷ ys) (v ∷ vs) x = if bytes_eq y x then v else named_value ys vs x
named_value _ _ x = 0

value_if : (b : Bool) (all : List ℕ) (k v w : ℕ) (rest : Option ℕ)
    → slice_index all k ≡ v → value_at all rest ≡ w → value_at all (cond b (Some k) rest) ≡ (if b then v else w)
value_if true all k v w rest e f = e
value_if false all k v w rest e f = f

port_from : (x : List ℕ) (outs : List Output) (k : ℕ) (all vs : List ℕ)
    → length vs ≡ length outs → ((i : ℕ) → slice_index all (k + i) ≡ slice_index vs i)
    → value_at all (position_from (λ (o : Output). bytes_eq o.name x) k outs) ≡ named_value (map name_of_output outs) vs x
port_from x [] k all vs l h = refl
port_from x (o ∷ outs) k all [] l h = absurd (cc l)
port_from x (o ∷ outs) k all (v ∷ vs) l h =
    let z : k ≡ k + 0 = omega arith in
    value_if (bytes_eq o.name x) all k v (named_value (map name_of_output outs) vs x) (position_from (λ (y : Output). bytes_eq y.name x) (k + 1) outs)
    (ap (slice_index all) z ∙ h 0)
    (port_from x outs (k + 1) all vs (omega (arith, l)) (λ i. let e : k + 1 + i ≡ k + suc i = omega arith in ap (slice_index all) e ∙ h (suc i)))

-- a port's value is the one at the place of its name
pub port_is : (c : Circuit) (all x : List ℕ)
    → length all ≡ length (outputs_of c) → port_value c all x ≡ named_value (map name_of_output (outputs_of c)) all x
port_is c all x l = port_from x (outputs_of c) 0 all all l (λ i. let z : 0 + i ≡ i = omega arith in ap (slice_index all) z)

-- ---- stages

-- a look-up of another name passes the ports of the stages
pub past_stages : (x : List ℕ)
    → ((j : ℕ) → bytes_eq (codes "v_" ++ decimal j) x ≡ false)
    → ((j : ℕ) → bytes_eq (codes "g_" ++ decimal j) x ≡ false)
    → (k n : ℕ) (names : List (List ℕ)) (valid moves : List Bool) (vals : List ℕ) → length valid ≡ n → length moves ≡ n
    → named_value (stage_names k n names) (stage_values valid moves ++ vals) x ≡ named_value names vals x
past_stages x v g k zero names [] [] vals e f = refl
past_stages x v g k zero names [] (b ∷ moves) vals e f = absurd (cc f)
past_stages x v g k zero names (a ∷ valid) moves vals e f = absurd (cc e)
past_stages x v g k (suc n) names [] moves vals e f = absurd (cc e)
past_stages x v g k (suc n) names (a ∷ valid) [] vals e f = absurd (cc f)
past_stages x v g k (suc n) names (a ∷ valid) (b ∷ moves) vals e f =
    let rest = named_value (stage_names (suc k) n names) (stage_values valid moves ++ vals) x in
    ap (λ t. if t then bit a else (if bytes_eq (codes "g_" ++ decimal k) x then bit b else rest)) (v k)
    ∙ ap (λ t. if t then bit b else rest) (g k)
    ∙ past_stages x v g (suc k) n names valid moves vals (omega (arith, e)) (omega (arith, f))

-- with the stages' ports before others, there are as many values as names
pub stages_same : (k n : ℕ) (names : List (List ℕ)) (valid moves : List Bool) (vals : List ℕ)
    → length valid ≡ n → length moves ≡ n → length vals ≡ length names
    → length (stage_values valid moves ++ vals) ≡ length (stage_names k n names)
stages_same k zero names [] [] vals e f l = l
stages_same k zero names [] (b ∷ moves) vals e f l = absurd (cc f)
stages_same k zero names (a ∷ valid) moves vals e f l = absurd (cc e)
stages_same k (suc n) names [] moves vals e f l = absurd (cc e)
stages_same k (suc n) names (a ∷ valid) [] vals e f l = absurd (cc f)
stages_same k (suc n) names (a ∷ valid) (b ∷ moves) vals e f l =
    ap (λ i. suc (suc i)) (stages_same (suc k) n names valid moves vals (omega (arith, e)) (omega (arith, f)) l)

-- ---- commits

-- whether, where and what a memory commits
abbrev pub flag_of : List PortWrite → ℕ
flag_of [] = 0
flag_of (w ∷ ws) = 1

-- where a memory commits first, 0 where it does not
abbrev pub addr_of : List PortWrite → ℕ
addr_of [] = 0
addr_of (w ∷ ws) = w.address

-- what a memory commits first, 0 where it commits nothing
abbrev pub word_of : List PortWrite → ℕ
word_of [] = 0
word_of (w ∷ ws) = w.value

-- what a memory commits after the first write
abbrev pub later : List PortWrite → List PortWrite
later [] = []
later (w ∷ ws) = ws

-- the values of its ports, if it has a lock, and of those for the second commit where there are such
abbrev pub commit_if : Bool → Bool → List PortWrite → List ℕ
commit_if b twice e =
    if b
    then flag_of e ∷ addr_of e ∷ word_of e ∷ (if twice then flag_of (later e) ∷ addr_of (later e) ∷ word_of (later e) ∷ [] else [])
    else []

-- the values of a first commit are those of its three ports
pub shown_is : (e : List PortWrite) → shown_values e ≡ flag_of e ∷ addr_of e ∷ word_of e ∷ []
shown_is [] = refl
shown_is (w ∷ ws) = refl

-- and those of a second commit
pub second_is : (e : List PortWrite) → second_values e ≡ flag_of (later e) ∷ addr_of (later e) ∷ word_of (later e) ∷ []
second_is [] = refl
second_is (w ∷ ws) = shown_is ws

-- the values of a memory's commit ports are those of its ports, if it has a lock
pub commit_is : (l : Option LockDecl) (twice : Bool) (e : List PortWrite) → commit_values (flat_lock l) twice e ≡ commit_if (is_some l) twice e
commit_is l twice e =
    ap (λ (b : Bool). if b then shown_values e ++ (if twice then second_values e else []) else []) (lock_declared l)
    ∙ ap₂ (λ x y. if is_some l then x ++ (if twice then y else []) else []) (shown_is e) (second_is e)

-- what is committed by the memory of this name, where that memory has a lock
abbrev pub found : List Mem → List (List PortWrite) → List ℕ → List PortWrite
found (m ∷ ms) (e ∷ es) x = if bytes_eq m.name.name x && is_some m.lock then e else found ms es x
found _ _ x = []

-- a function's values of two commits are chosen as the commits are, where the second condition holds
pub if_both : (g : List PortWrite → ℕ) (t : Bool) (e rest : List PortWrite)
    → (if t then g e else g rest) ≡ g (if t && true then e else rest)
if_both g true e rest = refl
if_both g false e rest = refl

-- where the second condition does not hold, a function has the value of the other commit
pub if_none : (g : List PortWrite → ℕ) (t : Bool) (e rest : List PortWrite) → g rest ≡ g (if t && false then e else rest)
if_none g true e rest = refl
if_none g false e rest = refl

-- ---- all memories

-- the address and the word of the first commit, where there is one
abbrev pub put_in : List PortWrite → Option (ℕ × ℕ)
put_in [] = None
put_in (w ∷ ws) = Some (w.address, w.value)

-- the values of a memory's three commit ports tell its commit's address and word, where it has one
pub put_cases : (o : List PortWrite) (f a w : ℕ)
    → f ≡ flag_of o → a ≡ addr_of o → w ≡ word_of o → (if f == 1 then Some (a, w) else None) ≡ put_in o
put_cases [] f a w e i j = rw e refl
put_cases (x ∷ xs) f a w e i j = rw (e, i, j) refl

-- at most two commits by their addresses and words are shown as the commits are
pub same_put : (o : List PortWrite) → length o ≤ 2 → puts_of (put_in o) ++ puts_of (put_in (later o)) ≡ puts_for o
same_put [] l = refl
same_put (w ∷ []) l = refl
same_put (w ∷ x ∷ []) l = refl
same_put (w ∷ x ∷ y ∷ ws) l = absurd (omega (arith, l))

-- no memory has the name
pub found_none : (ms : List Mem) (es : List (List PortWrite)) (x : List ℕ) → is_memory ms x ≡ false → found ms es x ≡ []
found_none [] es x e = refl
found_none (m ∷ ms) [] x e = refl
found_none (m ∷ ms) (k ∷ es) x e =
    let parts = or_parts (bytes_eq m.name.name x) (is_memory ms x) e in
    ap (λ t. if t && is_some m.lock then k else found ms es x) parts.0 ∙ found_none ms es x parts.1

-- the first memory commits what is found by its name
found_if : (l : Option LockDecl) (e rest : List PortWrite)
    → (has_lock (flat_lock l) ≡ false → e ≡ []) → rest ≡ [] → (if is_some l then e else rest) ≡ e
found_if None e rest h r = r ∙ sym (h refl)
found_if (Some l) e rest h r = refl

-- the first memory commits what is found by its name, where no other memory has that name
pub found_first : (m : Mem) (ms : List Mem) (e : List PortWrite) (es : List (List PortWrite))
    → is_memory ms m.name.name ≡ false → (has_lock (flat_lock m.lock) ≡ false → e ≡ [])
    → found (m ∷ ms) (e ∷ es) m.name.name ≡ e
found_first m ms e es d h =
    ap (λ t. if t && is_some m.lock then e else found ms es m.name.name) (bytes_refl m.name.name)
    ∙ found_if m.lock e (found ms es m.name.name) h (found_none ms es m.name.name d)

-- what is found by a name is at most two commits
pub found_short : (ss : List Stmt) (k : ℕ) (ms : List Mem) (es : List (List PortWrite)) (x : List ℕ)
    → AreCommits ss k (mems_of ms) es → length (found ms es x) ≤ 2
found_short ss k [] es x h = omega arith
found_short ss k (m ∷ ms) [] x h = omega arith
found_short ss k (m ∷ ms) (e ∷ es) x h = at (bytes_eq m.name.name x && is_some m.lock) (short (reserves_twice k ss) h.1) (found_short ss (suc k) ms es x h.2)
  where
    short : (b : Bool) → length e ≤ (if b then 2 else 1) → length e ≤ 2
    short true l = l
    short false l = omega (arith, l)

    at : (b : Bool) → length e ≤ 2 → length (found ms es x) ≤ 2 → length (if b then e else found ms es x) ≤ 2
    at true f l = f
    at false f l = l

-- what is found by the names of memories, which differ, is what they commit, memory by memory
pub each_found : (ss : List Stmt) (f : List ℕ → List PortWrite) (k : ℕ) (ms : List Mem) (es : List (List PortWrite)) → AreDistinct ms
    → AreCommits ss k (mems_of ms) es → ((m : Mem) → Among m ms → f m.name.name ≡ found ms es m.name.name)
    → map (λ (i : MemInfo). puts_for (f i.name)) (map info_of ms) ≡ puts_in es
each_found ss f k [] [] d h g = refl
each_found ss f k [] (e ∷ es) d h g = absurd h
each_found ss f k (m ∷ ms) [] d h g = absurd h
each_found ss f k (m ∷ ms) (e ∷ es) d h g =
    ap₂ (λ (x : List Put) (xs : List (List Put)). x ∷ xs)
    (ap puts_for (g m (inl refl) ∙ found_first m ms e es d.0 h.0))
    (each_found ss f (suc k) ms es d.1 h.2
    (λ n a. g n (inr a)
    ∙ ap (λ t. if t && is_some m.lock then e else found ms es n.name.name) (name_turned n.name.name m.name.name (among_other m.name.name ms n d.0 a))))

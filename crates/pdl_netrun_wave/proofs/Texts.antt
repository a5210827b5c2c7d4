-- The text of a dump, cycle by cycle and port by port.
use Rattle.std.proofs.Common.{◌≡◌, refl, sym, ◌∙◌, ap, ap₂, ℕ, suc, ◌+◌, ◌-◌, ◌<◌, ◌≤◌, ◌==◌, Bool, true, false, not, ◌||◌, ◌&&◌, List, [], ◌∷◌, ◌++◌, length, map, flat_map, take, drop, set, get_or, Some, slice_get, if◌then◌else◌, arith}
use Rattle.std.specs.Option.{option_or}
use Rattle.std.proofs.lemmas.Bool.{and_parts, eq-eqb, ne_eqb}
use Rattle.std.proofs.lemmas.Grind.{flat_map-append}
use Rattle.std.proofs.lemmas.List.{append-nil, append_assoc, drop_more, ext_get_or, get_or-append_right, get_or-drop, length-append, length-take-le, set-append_right, take_more}
use Rattle.pdl_wave.specs.declared.port.WavePort.{WavePort}
use Rattle.pdl_wave.specs.Moments.{Change, Moment, differs, changes, with_moment, moments, run_moments, taken}
use Rattle.pdl_wave.proofs.Header.{declarations_length}
use Rattle.pdl_wave.specs.Dump.{declarations, upscope, enddefinitions, ended, header, change_line, moment_lines, time_text, dump}
use Rattle.pdl_wave.specs.Wave.{is_none}
use Rattle.pdl_wave.proofs.Values.{got, now_by_changes}
use Rattle.pdl_netrun_wave.specs.Cycles.{known, cycle_moments, changes_text, moments_text, cycle_text, cycles_text, port_text}

moments_append : (ports : List WavePort) (xs ys : List Moment)
    → moments_text ports (xs ++ ys) ≡ moments_text ports xs ++ moments_text ports ys
moments_append ports xs ys =
    ap (flat_map ended) (flat_map-append (moment_lines ports) xs ys)
    ∙ flat_map-append ended (flat_map (moment_lines ports) xs) (flat_map (moment_lines ports) ys)

-- ---- cycles

with_later : (k : ℕ) (xs : List Change) (later : List Moment) → with_moment k xs later ≡ with_moment k xs [] ++ later
with_later k [] later = refl
with_later k (x ∷ xs) later = refl

later_cycle : (ports : List WavePort) (k : ℕ) (before now : List ℕ)
    → 2 ≤ k → cycle_text ports k before now ≡ moments_text ports (with_moment k (changes 0 before now) [])
later_cycle ports k before now l = ap (λ b. moments_text ports (cycle_moments b k before now)) (ne_eqb k 1 (λ e. omega (arith, e, l)))

later_text : (ports : List WavePort) (k : ℕ) (before : List ℕ) (rest : List (List ℕ))
    → 2 ≤ k → cycles_text ports k before rest ≡ moments_text ports (moments k before rest)
later_text ports k before [] l = refl
later_text ports k before (now ∷ rest) l =
    ap (λ t. cycle_text ports k before now ++ t) (later_text ports (suc k) now rest (omega (arith, l)))
    ∙ ap (λ t. t ++ moments_text ports (moments (suc k) now rest)) (later_cycle ports k before now l)
    ∙ sym (moments_append ports (with_moment k (changes 0 before now) []) (moments (suc k) now rest))
    ∙ ap (moments_text ports) (sym (with_later k (changes 0 before now) (moments (suc k) now rest)))

-- the cycles from the first on are the moments of the run
pub run_text : (ports : List WavePort) (before : List ℕ) (rows : List (List ℕ))
    → cycles_text ports 1 before rows ≡ moments_text ports (run_moments rows)
run_text ports before [] = refl
run_text ports before (now ∷ rest) =
    ap (λ t. cycle_text ports 1 before now ++ t) (later_text ports 2 now rest (omega arith))
    ∙ sym (moments_append ports (record { time = 1; changes = changes 0 [] now } ∷ []) (moments 2 now rest))

-- the whole: the header, the cycles, and the last time
pub dump_text : (name : List ℕ) (ports : List WavePort) (rows : List (List ℕ)) (before : List ℕ) →
    dump name ports rows ≡ flat_map ended (header name ports) ++ (cycles_text ports 1 before rows ++ ended (time_text (length rows + 1)))
unfolding dump
dump_text name ports rows before =
    let told = flat_map (moment_lines ports) (run_moments rows) in
    flat_map-append ended (header name ports ++ told) (time_text (length rows + 1) ∷ [])
    ∙ ap (λ t. t ++ (ended (time_text (length rows + 1)) ++ [])) (flat_map-append ended (header name ports) told)
    ∙ append_assoc (flat_map ended (header name ports)) (flat_map ended told) (ended (time_text (length rows + 1)) ++ [])
    ∙ ap (λ t. flat_map ended (header name ports) ++ (t ++ (ended (time_text (length rows + 1)) ++ []))) (sym (run_text ports before rows))
    ∙ ap (λ t. flat_map ended (header name ports) ++ (cycles_text ports 1 before rows ++ t)) (append-nil (ended (time_text (length rows + 1))))

-- ---- lines

-- the text of the lines from k on is line k and then the text of the later lines
pub next_line : (lines : List (List ℕ)) (k : ℕ)
    → k < length lines
    → flat_map ended (drop k lines) ≡ ended (get_or lines k []) ++ flat_map ended (drop (k + 1) lines)
next_line lines k l = ap (flat_map ended) (drop_more lines k [] l)

-- ---- ports

changed_as : (first : Bool) (before : List ℕ) (i v : ℕ)
    → i < length before → differs (slice_get (known first before) i) v ≡ (first || not (get_or before i 0 == v))
changed_as true before i v l = refl
changed_as false before i v l = ap (λ o. differs o v) (got before i l)

told_or : (ports : List WavePort) (b : Bool) (i v : ℕ) (more : List Change) →
    changes_text ports (if b then record { port = i; value = v } ∷ more else more) ≡ port_text ports b i v ++ changes_text ports more
told_or ports true i v more = refl
told_or ports false i v more = refl

-- the text of the changes from the i-th port on is that of the i-th port, if it changed, and that of the later ones
pub next_port : (ports : List WavePort) (before row : List ℕ) (i : ℕ) → i < length row →
    changes_text ports (changes i before (drop i row))
    ≡ port_text ports (differs (slice_get before i) (get_or row i 0)) i (get_or row i 0) ++ changes_text ports (changes (i + 1) before (drop (i + 1) row))
next_port ports before row i l =
    let e : suc i ≡ i + 1 = omega arith in
    ap (λ vs. changes_text ports (changes i before vs)) (drop_more row i 0 l)
    ∙ told_or ports (differs (slice_get before i) (get_or row i 0)) i (get_or row i 0) (changes (suc i) before (drop (i + 1) row))
    ∙ ap (λ j. port_text ports (differs (slice_get before i) (get_or row i 0)) i (get_or row i 0) ++ changes_text ports (changes j before (drop (i + 1) row))) e

-- the header has four lines more than ports
pub header_length : (name : List ℕ) (ports : List WavePort) → length (header name ports) ≡ length ports + 4
header_length name ports =
    let n = declarations_length 0 ports in
    let m = length-append (declarations 0 ports) (upscope ∷ enddefinitions ∷ []) in
    omega (arith, n, m)

-- ---- a cycle

-- one in which no port changes has no text
quiet_text : (ports : List WavePort) (first : Bool) (cycle : ℕ) (before row : List ℕ) → (not first && is_none (changes 0 before row)) ≡ true →
    moments_text ports (cycle_moments first cycle before row) ≡ []
quiet_text ports true cycle before row quiet = absurd (cc quiet)
quiet_text ports false cycle before row quiet = none (changes 0 before row) quiet
  where
    none : (xs : List Change) → is_none xs ≡ true → moments_text ports (with_moment cycle xs []) ≡ []
    none [] e = refl
    none (x ∷ xs) e = absurd (cc e)

-- any other has its time, and its changes
pub loud_text : (ports : List WavePort) (first : Bool) (cycle : ℕ) (before row : List ℕ) → (not first && is_none (changes 0 before row)) ≡ false →
    moments_text ports (cycle_moments first cycle before row) ≡ ended (time_text cycle) ++ changes_text ports (changes 0 (known first before) row)
loud_text ports true cycle before row loud =
    ap (λ lines. flat_map ended (time_text cycle ∷ lines)) (append-nil (map (change_line ports) (changes 0 [] row)))
loud_text ports false cycle before row loud = some (changes 0 before row) loud
  where
    some : (xs : List Change) → is_none xs ≡ false → moments_text ports (with_moment cycle xs []) ≡ ended (time_text cycle) ++ changes_text ports xs
    some [] e = absurd (cc e)
    some (x ∷ xs) e = ap (λ lines. flat_map ended (time_text cycle ∷ lines)) (append-nil (map (change_line ports) (x ∷ xs)))

empty : (xs : List Change) → is_none xs ≡ true → xs ≡ []
empty [] e = refl
empty (x ∷ xs) e = absurd (cc e)

-- after a later cycle without changes the values are those before it
pub quiet_same : (first : Bool) (before row : List ℕ)
    → length before ≡ length row → (not first && is_none (changes 0 before row)) ≡ true → before ≡ row
quiet_same first before row n both =
    let quiet : is_none (changes 0 before row) ≡ true = (and_parts (not first) (is_none (changes 0 before row)) both).1 in
    ext_get_or 0 before row n (λ i l.
    let inside : i < length row = omega (arith, n, l) in
    let known_by : slice_get before i ≡ Some (get_or row i 0) =
    ap (λ xs. option_or (taken i xs) (slice_get before i)) (sym (empty (changes 0 before row) quiet)) ∙ now_by_changes i before row inside in
    same (sym (got before i l) ∙ known_by))
  where
    same : {u v : ℕ} → Some u ≡ Some v → u ≡ v
    same e = cc

-- ---- ports that don't change

next_change : (before row : List ℕ) (i : ℕ) → i < length row → i < length before →
    is_none (changes i before (drop i row))
    ≡ is_none
    (if not (get_or before i 0 == get_or row i 0)
    then record { port = i; value = get_or row i 0 } ∷ changes (suc i) before (drop (i + 1) row)
    else changes (suc i) before (drop (i + 1) row))
next_change before row i l m =
    ap (λ vs. is_none (changes i before vs)) (drop_more row i 0 l)
    ∙ ap
    (λ b. is_none
    (if b then record { port = i; value = get_or row i 0 } ∷ changes (suc i) before (drop (i + 1) row) else changes (suc i) before (drop (i + 1) row)))
    (changed_as false before i (get_or row i 0) m)

-- where the i-th port keeps its value, there are no changes from i on just where there are none after i
pub still_quiet : (before row : List ℕ) (i : ℕ)
    → i < length row → i < length before → get_or before i 0 ≡ get_or row i 0
    → is_none (changes i before (drop i row)) ≡ is_none (changes (i + 1) before (drop (i + 1) row))
still_quiet before row i l m e =
    let next : suc i ≡ i + 1 = omega arith in
    next_change before row i l m
    ∙ ap
    (λ b. is_none
    (if not b then record { port = i; value = get_or row i 0 } ∷ changes (suc i) before (drop (i + 1) row) else changes (suc i) before (drop (i + 1) row)))
    (eq-eqb (get_or before i 0) (get_or row i 0) e)
    ∙ ap (λ j. is_none (changes j before (drop (i + 1) row))) next

-- where the i-th port changes its value, there are changes from i on
pub not_quiet : (before row : List ℕ) (i : ℕ)
    → i < length row → i < length before → (get_or before i 0 ≡ get_or row i 0 → ⊥)
    → is_none (changes i before (drop i row)) ≡ false
not_quiet before row i l m d =
    next_change before row i l m
    ∙ ap
    (λ b. is_none
    (if not b then record { port = i; value = get_or row i 0 } ∷ changes (suc i) before (drop (i + 1) row) else changes (suc i) before (drop (i + 1) row)))
    (ne_eqb (get_or before i 0) (get_or row i 0) d)

-- ---- the values before, port by port

-- before the i-th port's value of a cycle is taken, the i-th value is the one before the cycle
pub value_kept : (before row : List ℕ) (i : ℕ) → i < length row → get_or (take i row ++ drop i before) i 0 ≡ get_or before i 0
value_kept before row i l =
    let n : length (take i row) ≡ i = length-take-le i row (omega (arith, l)) in
    let e : i + (i - i) ≡ i = omega arith in
    get_or-append_right (take i row) (drop i before) i i 0 n (omega arith) ∙ get_or-drop i before (i - i) 0 ∙ ap (λ k. get_or before k 0) e

-- with the i-th port's value of a cycle, the first i + 1 values are those of the cycle
pub value_taken : (before row : List ℕ) (i : ℕ)
    → i < length row → length before ≡ length row
    → set (take i row ++ drop i before) i (get_or row i 0) ≡ take (i + 1) row ++ drop (i + 1) before
value_taken before row i l m =
    let n : length (take i row) ≡ i = length-take-le i row (omega (arith, l)) in
    let v = get_or row i 0 in
    let zero_more : i - i ≡ 0 = omega arith in
    set-append_right (take i row) (drop i before) i i v n (omega arith)
    ∙ ap (λ k. take i row ++ set (drop i before) k v) zero_more
    ∙ ap (λ vs. take i row ++ set vs 0 v) (drop_more before i 0 (omega (arith, l, m)))
    ∙ sym (append_assoc (take i row) (v ∷ []) (drop (i + 1) before))
    ∙ ap (λ vs. vs ++ drop (i + 1) before) (sym (take_more row i 0 l))

-- one port further, where it is known that it changed
pub port_step : (ports : List WavePort) (first : Bool) (before row : List ℕ) (i : ℕ) (at v : ℕ) (changed : Bool) → i < length row → length before ≡ length row →
    at ≡ get_or (take i row ++ drop i before) i 0 → v ≡ get_or row i 0 → changed ≡ (first || not (at == v)) →
    changes_text ports (changes i (known first before) (drop i row))
    ≡ port_text ports changed i v ++ changes_text ports (changes (i + 1) (known first before) (drop (i + 1) row))
port_step ports first before row i at v changed l n e f h =
    let r = get_or row i 0 in
    let after = changes_text ports (changes (i + 1) (known first before) (drop (i + 1) row)) in
    let same : differs (slice_get (known first before) i) r ≡ changed =
    changed_as first before i r (omega (arith, l, n))
    ∙ ap₂ (λ x y. first || not (x == y)) (sym (e ∙ value_kept before row i l)) (sym f)
    ∙ sym h in
    next_port ports (known first before) row i l
    ∙ ap₂ (λ b x. port_text ports b i x ++ after) same (sym f)

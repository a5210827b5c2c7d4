-- The moments of a run are of the form that a dump has.
use Rattle.std.proofs.Common.{◌≡◌, refl, sym, ◌∙◌, ap, subst, ℕ, zero, suc, ◌+◌, ◌-◌, ◌^◌, ◌<◌, ◌≤◌, Bool, true, false, not, List, [], ◌∷◌, ◌++◌, length, get_or, Option, Some, None, slice_get, if◌then◌else◌, arith}
use Rattle.std.specs.Prelude.{nat_le}
use Rattle.std.specs.List.{list_all}
use Rattle.std.specs.Option.{option_or}
use Rattle.std.proofs.lemmas.Bool.{and_from, cond_both, cond-true, eq-eqb, le-leb}
use Rattle.std.proofs.lemmas.List.Folds.{list_all-append}
use Rattle.pdl_word.specs.Each.{Each}
use Rattle.pdl_wave.specs.declared.port.WavePort.{WavePort}
use Rattle.pdl_wave.specs.Moments.{Change, Moment, differs, changes, with_moment, moments, run_moments, taken, value_in}
use Rattle.pdl_wave.specs.Dump.{IsRow, width_of}
use Rattle.pdl_wave.specs.Wave.{is_none, are_ordered, go_on, begin, are_new, last_time}
use Rattle.pdl_wave.proofs.DumpLines.{Fits, CanTell}
use Rattle.pdl_wave.proofs.Values.{or_none, got, now_by_changes, none_before, values_from, with_last}

-- ---- the changes of a cycle

ordered_from : (i j : ℕ) (before vs : List ℕ) → i ≤ j → are_ordered i (changes j before vs) ≡ true
ordered_from i j before [] l = refl
ordered_from i j before (v ∷ vs) l =
    cond_both (differs (slice_get before j) v) (record { port = j; value = v } ∷ changes (suc j) before vs)
    (changes (suc j) before vs) (λ xs. are_ordered i xs ≡ true)
    (λ h. and_from _ _ (le-leb i j l) (ordered_from (suc j) (suc j) before vs (omega arith)))
    (λ h. ordered_from i (suc j) before vs (omega arith))

-- each differs from the value before, however that is told
new_from : (was : ℕ → Option ℕ) (j : ℕ) (before vs : List ℕ) → ((i : ℕ) → i < j + length vs → was i ≡ slice_get before i) →
    list_all (λ (x : Change). differs (was x.port) x.value) (changes j before vs) ≡ true
new_from was j before [] h = refl
new_from was j before (v ∷ vs) h =
    let rest = new_from was (suc j) before vs (λ i l. h i (omega (arith, l))) in
    let here : was j ≡ slice_get before j = h j (omega arith) in
    cond_both (differs (slice_get before j) v) (record { port = j; value = v } ∷ changes (suc j) before vs)
    (changes (suc j) before vs) (λ xs. list_all (λ (x : Change). differs (was x.port) x.value) xs ≡ true)
    (λ d. and_from _ _ (ap (λ o. differs o v) here ∙ d) rest)
    (λ d. rest)

-- in the first cycle each port changes
first_length : (j : ℕ) (vs : List ℕ) → length (changes j [] vs) ≡ length vs
first_length j [] = refl
first_length j (v ∷ vs) = ap suc (first_length (suc j) vs)

-- changes fit as the values do
each_change : (Q : ℕ → ℕ → Type 0) (j : ℕ) (before vs : List ℕ)
    → ((i : ℕ) → i < length vs → Q (j + i) (get_or vs i 0))
    → Each (λ (x : Change). Q x.port x.value) (changes j before vs)
each_change Q j before [] h = tt
each_change Q j before (v ∷ vs) h =
    let rest =
    each_change Q (suc j) before vs
    (λ i l. let e : j + suc i ≡ suc j + i = omega arith in subst (λ (k : ℕ). Q k (get_or vs i 0)) e (h (suc i) (omega (arith, l)))) in
    let e : j + 0 ≡ j = omega arith in
    cond_both (differs (slice_get before j) v) (record { port = j; value = v } ∷ changes (suc j) before vs)
    (changes (suc j) before vs) (λ xs. Each (λ (x : Change). Q x.port x.value) xs)
    (λ d. (subst (λ (k : ℕ). Q k v) e (h 0 (omega arith)), rest))
    (λ d. rest)

-- a row has as many values as there are ports
pub row_length : (ports : List WavePort) (row : List ℕ) → IsRow ports row → length row ≡ length ports
row_length [] [] h = refl
row_length [] (v ∷ vs) h = absurd h
row_length (p ∷ ps) [] h = absurd h
row_length (p ∷ ps) (v ∷ vs) h = ap suc (row_length ps vs h.1)

-- the i-th value of a row fits the width of the i-th port
pub value_fits : (ports : List WavePort) (row : List ℕ) (i : ℕ) → IsRow ports row → i < length ports → get_or row i 0 < 2 ^ width_of ports i
value_fits [] row i h l = absurd (omega (arith, l))
value_fits (p ∷ ps) [] i h l = absurd h
value_fits (p ∷ ps) (v ∷ vs) zero h l = h.0
value_fits (p ∷ ps) (v ∷ vs) (suc i) h l = value_fits ps vs i h.1 (omega (arith, l))

changes_fit : (ports : List WavePort) (before row : List ℕ) → IsRow ports row → Each (Fits ports) (changes 0 before row)
changes_fit ports before row h =
    let n = row_length ports row h in
    let fits : (k v : ℕ) → Type 0 = λ k v. Fits ports (record { port = k; value = v }) in
    each_change fits 0 before row (λ i l.
    let e : i ≡ 0 + i = omega arith in
    subst (λ (k : ℕ). fits k (get_or row i 0)) e (record { there = omega (arith, l, n); fits = value_fits ports row i h (omega (arith, l, n)) }))

-- ---- a moment of a cycle among others

each_with : (P : Moment → Type 0) (k : ℕ) (xs : List Change) (later : List Moment)
    → P (record { time = k; changes = xs }) → Each P later → Each P (with_moment k xs later)
each_with P k [] later h rest = rest
each_with P k (x ∷ xs) later h rest = (h, rest)

all_with : (p : Moment → Bool) (k : ℕ) (xs : List Change) (later : List Moment)
    → p (record { time = k; changes = xs }) ≡ true → list_all p later ≡ true
    → list_all p (with_moment k xs later) ≡ true
all_with p k [] later h rest = rest
all_with p k (x ∷ xs) later h rest = and_from _ _ h rest

-- ---- the times

-- moments go on from one with changes
go_more : (time : ℕ) (m : Moment) (later : List Moment)
    → time ≤ m.time → is_none m.changes ≡ false → go_on (suc m.time) later ≡ true → go_on time (m ∷ later) ≡ true
go_more time m [] l some h = absurd (cc h)
go_more time m (n ∷ later) l some h = and_from _ _ (le-leb time m.time l) (and_from _ _ (ap not some) h)

go_with : (time k : ℕ) (xs : List Change) (later : List Moment)
    → time ≤ k → ((t : ℕ) → t ≤ suc k → go_on t later ≡ true) → go_on time (with_moment k xs later) ≡ true
go_with time k [] later l h = h time (omega arith)
go_with time k (x ∷ xs) later l h = go_more time (record { time = k; changes = x ∷ xs }) later l refl (h (suc k) (omega arith))

with_append : (k : ℕ) (xs : List Change) (later end : List Moment) → with_moment k xs later ++ end ≡ with_moment k xs (later ++ end)
with_append k [] later end = refl
with_append k (x ∷ xs) later end = refl

-- the moment without changes by which a dump ends, at this time
abbrev pub end_at : ℕ → List Moment
end_at last = record { time = last; changes = [] } ∷ []

-- the moments of cycles from the k-th on, up to a later time
goes : (rest : List (List ℕ)) (time k : ℕ) (before : List ℕ) (last : ℕ)
    → time ≤ k → k + length rest ≤ last → go_on time (moments k before rest ++ end_at last) ≡ true
goes [] time k before last l end = and_from _ _ (le-leb time last (omega arith)) refl
goes (now ∷ rest) time k before last l end =
    ap (go_on time) (with_append k (changes 0 before now) (moments (suc k) now rest) (end_at last))
    ∙ go_with time k (changes 0 before now) (moments (suc k) now rest ++ end_at last) l (λ t m. goes rest t (suc k) now last m (omega arith))

begin_more : (count : ℕ) (m : Moment) (later : List Moment)
    → m.time ≡ 1 → length m.changes ≡ count → go_on 2 later ≡ true → begin count (m ∷ later) ≡ true
begin_more count m [] one n h = absurd (cc h)
begin_more count m (next ∷ later) one n h = and_from _ _ (eq-eqb m.time 1 one) (and_from _ _ (eq-eqb (length m.changes) count n) h)

-- the moments of a run with these rows, and the one after its last cycle
abbrev pub all_moments : List (List ℕ) → List Moment
all_moments rows = run_moments rows ++ end_at (length rows + 1)

-- the moments of a run whose rows have n values begin as those of a dump of n ports do
pub begins : (rows : List (List ℕ)) (n : ℕ) → Each (λ row. length row ≡ n) rows → begin n (all_moments rows) ≡ true
begins [] n h = refl
begins (now ∷ rest) n h =
    begin_more n (record { time = 1; changes = changes 0 [] now }) (moments 2 now rest ++ end_at (suc (length rest) + 1)) refl
    (first_length 0 now ∙ h.0) (goes rest 2 2 now (suc (length rest) + 1) (omega arith) (omega arith))

-- the last time of moments with an end is that of the end
pub last_of : (ms : List Moment) (time last : ℕ) → last_time time (ms ++ end_at last) ≡ last
last_of [] time last = refl
last_of (m ∷ ms) time last = last_of ms m.time last

-- ---- the values

-- the values of a run, by its moments
run_values : (rows : List (List ℕ)) (n c i : ℕ) → Each (λ row. length row ≡ n) rows → c < length rows → i < n →
    value_in (run_moments rows) (c + 1) i ≡ Some (get_or (get_or rows c []) i 0)
run_values [] n c i h l m = absurd (omega (arith, l))
run_values (now ∷ rest) n zero i h l m =
    let inside : i < length now = omega (arith, h.0, m) in
    ap (λ o. option_or o (taken i (changes 0 [] now))) (none_before rest 2 now 1 i (omega arith))
    ∙ sym (or_none (taken i (changes 0 [] now))) ∙ now_by_changes i [] now inside
run_values (now ∷ rest) n (suc c) i h l m =
    let inside : i < length now = omega (arith, h.0, m) in
    let e : suc c + 1 ≡ 2 + c = omega arith in
    let first : (if nat_le 1 (2 + c) then taken i (changes 0 [] now) else None) ≡ taken i (changes 0 [] now) =
    cond-true _ _ _ (le-leb 1 (2 + c) (omega arith)) in
    let value : taken i (changes 0 [] now) ≡ slice_get now i =
    sym (or_none (taken i (changes 0 [] now))) ∙ now_by_changes i [] now inside ∙ sym (got now i inside) in
    ap (λ t. value_in (run_moments (now ∷ rest)) t i) e
    ∙ ap (option_or (value_in (moments 2 now rest) (2 + c) i)) (first ∙ value)
    ∙ values_from rest n 2 now c i h.1 (omega (arith, l)) m

-- before the first cycle there are none
no_value : (rows : List (List ℕ)) (i : ℕ) → value_in (run_moments rows) 0 i ≡ None
no_value [] i = refl
no_value (now ∷ rest) i = ap (λ o. option_or o None) (none_before rest 2 now 0 i (omega arith))

-- ---- each change is new

one_new : (all : List Moment) (k : ℕ) (before now : List ℕ)
    → ((i : ℕ) → i < length now → value_in all (k - 1) i ≡ slice_get before i)
    → are_new all (record { time = k; changes = changes 0 before now }) ≡ true
one_new all k before now was =
    and_from _ _ (ordered_from 0 0 before now (omega arith)) (new_from (value_in all (k - 1)) 0 before now (λ i l. was i (omega (arith, l))))

new_moments : (all : List Moment) (n : ℕ) (rest : List (List ℕ)) (k : ℕ) (before : List ℕ) → Each (λ row. length row ≡ n) rest →
    ((c i : ℕ) → c < length rest → i < n → value_in all (k + c) i ≡ Some (get_or (get_or rest c []) i 0)) →
    ((i : ℕ) → i < n → value_in all (k - 1) i ≡ slice_get before i) → list_all (are_new all) (moments k before rest) ≡ true
new_moments all n [] k before h known was = refl
new_moments all n (now ∷ rest) k before h known was =
    all_with (are_new all) k (changes 0 before now) (moments (suc k) now rest)
    (one_new all k before now (λ i l. was i (omega (arith, l, h.0))))
    (new_moments all n rest (suc k) now h.1
    (λ c i l m. let e : suc k + c ≡ k + suc c = omega arith in ap (λ t. value_in all t i) e ∙ known (suc c) i (omega (arith, l)) m)
    (λ i m. let e : suc k - 1 ≡ k + 0 = omega arith in ap (λ t. value_in all t i) e ∙ known 0 i (omega arith) m ∙ sym (got now i (omega (arith, m, h.0)))))

-- the values of all moments, the last one included
pub all_values : (rows : List (List ℕ)) (n c i : ℕ) → Each (λ row. length row ≡ n) rows → c < length rows → i < n →
    value_in (all_moments rows) (c + 1) i ≡ Some (get_or (get_or rows c []) i 0)
all_values rows n c i h l m = with_last (run_moments rows) (length rows + 1) (c + 1) i ∙ run_values rows n c i h l m

-- the changes in the moments of a run whose rows have n values are in order, and new
pub all_new : (rows : List (List ℕ)) (n : ℕ)
    → Each (λ row. length row ≡ n) rows → list_all (are_new (all_moments rows)) (all_moments rows) ≡ true
all_new [] n h = refl
all_new (now ∷ rest) n h =
    let all = all_moments (now ∷ rest) in
    and_from _ _
    (one_new all 1 [] now (λ i l. with_last (run_moments (now ∷ rest)) (suc (length rest) + 1) 0 i ∙ no_value (now ∷ rest) i))
    (list_all-append (are_new all) (moments 2 now rest) (end_at (suc (length rest) + 1))
    ∙ and_from _ _
    (new_moments all n rest 2 now h.1
    (λ c i l m. let e : 2 + c ≡ suc c + 1 = omega arith in ap (λ t. value_in all t i) e ∙ all_values (now ∷ rest) n (suc c) i h (omega (arith, l)) m)
    (λ i m. all_values (now ∷ rest) n 0 i h (omega arith) m ∙ sym (got now i (omega (arith, m, h.0)))))
    refl)

-- ---- each moment can be told

tell_from : (ports : List WavePort) (rest : List (List ℕ)) (k : ℕ) (before : List ℕ) → Each (IsRow ports) rest
    → k + length rest ≤ 2 ^ 64 → Each (CanTell ports) (moments k before rest)
tell_from ports [] k before h l = tt
tell_from ports (now ∷ rest) k before h l =
    each_with (CanTell ports) k (changes 0 before now) (moments (suc k) now rest)
    (record { counted = omega (arith, l); each = changes_fit ports before now h.0 })
    (tell_from ports rest (suc k) now h.1 (omega (arith, l)))

-- the moments of a run have times that can be counted, and changes that fit their ports
pub can_tell : (ports : List WavePort) (rows : List (List ℕ)) → Each (IsRow ports) rows
    → length rows + 1 < 2 ^ 64 → Each (CanTell ports) (run_moments rows)
can_tell ports [] h l = tt
can_tell ports (now ∷ rest) h l =
    (record { counted = omega arith; each = changes_fit ports [] now h.0 }, tell_from ports rest 2 now h.1 (omega (arith, l)))

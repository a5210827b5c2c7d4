-- The delayed memories outside in a cycle: what the netlist reads of them, and whether the cycle is a wait.
use Rattle.std.proofs.Common.{◌≡◌, refl, sym, ap, ◌∙◌, subst, ℕ, zero, suc, ◌+◌, ◌*◌, ◌^◌, ◌/◌, ◌<◌, Bool, true, false, ◌&&◌, List, [], ◌∷◌, ◌++◌, length, take, Option, Some, None, arith, cond}
use Rattle.std.specs.Prelude.{if◌then◌else◌, slice_index, slice_index_or, count_by}
use Rattle.std.proofs.lemmas.List.Recursion.{is_count_by}
use Rattle.std.proofs.lemmas.Nat.{pow_pos}
use Rattle.pdl_word.specs.Words.{bit}
use Rattle.pdl_semantics.specs.Flat.{Mem, word_at, is_delayed}
use Rattle.pdl_semantics.specs.Stages.{plain_mem}
use Rattle.pdl_semantics.specs.Machine.{Request, NoRequest, Owned, Orphan, State, request_of}
use Rattle.pdl_semantics.specs.Cycle.{is_outstanding}
use Rattle.pdl_semantics.specs.Sound.{request_address}
use Rattle.pdl_net.specs.Run.{Store, reply, answer, answers}
use Rattle.pdl_machine_inflight.proofs.Answers.{word_asked}
use Rattle.pdl_law_follows.specs.Outside.{address_asked, IsStore, StoreThen, AreStores}
use Rattle.pdl_law_sides.specs.WholeNetlist.{replies_of}

-- COUNTS

-- how many of these are delayed
abbrev pub delayed_in : List Mem → ℕ
delayed_in [] = 0
delayed_in (x ∷ xs) = if is_delayed x.kind then suc (delayed_in xs) else delayed_in xs

-- how many memories are delayed is the count of those that pass the test for it
pub counted : (xs : List Mem) → delayed_in xs ≡ count_by (λ (x : Mem). is_delayed x.kind) xs
counted xs = is_count_by delayed_in (λ (x : Mem). is_delayed x.kind) refl (λ x ys. at (is_delayed x.kind) (delayed_in ys)) xs
  where
    at : (b : Bool) (n : ℕ) → (if b then suc n else n) ≡ cond b (1 + n) n
    at true n = omega arith
    at false n = refl

-- INPUTS

-- what the netlist reads of a delayed memory
pub record ReadsStore (st : State) (m : ℕ) (bits : List Bool) (inputs : List ℕ) (j : ℕ) : Type 0 where
  pub reply : slice_index inputs (2 * j) ≡ bit (is_outstanding (request_of st m) && slice_index_or bits j false)
  pub word : (is_outstanding (request_of st m) && slice_index_or bits j false) ≡ true → slice_index inputs (2 * j + 1) ≡ word_asked st m

-- of one store
pair_read : (st : State) (m : ℕ) (x : Mem) (y : Store) → IsStore st m x y → (b : Bool) (rest : List ℕ) → (q : Request)
    → request_of st m ≡ q
    → (slice_index (answer y.words y.request b ++ rest) 0 ≡ bit (is_outstanding q && b))
    × ((is_outstanding q && b) ≡ true → slice_index (answer y.words y.request b ++ rest) 1 ≡ word_at st.arrays m (request_address q))
pair_read st m x y h b rest NoRequest e = (ap (λ o. slice_index (answer y.words o b ++ rest) 0) (h.request ∙ ap address_asked e), λ i. absurd (cc i))
pair_read st m x y h b rest (Owned n a) e = at b
  where
    asked : y.request ≡ Some a
    asked = h.request ∙ ap address_asked e

    at : (b : Bool)
        → (slice_index (answer y.words y.request b ++ rest) 0 ≡ bit (true && b))
        × ((true && b) ≡ true → slice_index (answer y.words y.request b ++ rest) 1 ≡ word_at st.arrays m a)
    at true = (
      ap (λ o. slice_index (answer y.words o true ++ rest) 0) asked,
      λ i. ap (λ o. slice_index (answer y.words o true ++ rest) 1) asked ∙ h.same a (h.reach a asked),
    )
    at false = (ap (λ o. slice_index (answer y.words o false ++ rest) 0) asked, λ i. absurd (cc i))
pair_read st m x y h b rest (Orphan a) e = at b
  where
    asked : y.request ≡ Some a
    asked = h.request ∙ ap address_asked e

    at : (b : Bool)
        → (slice_index (answer y.words y.request b ++ rest) 0 ≡ bit (true && b))
        × ((true && b) ≡ true → slice_index (answer y.words y.request b ++ rest) 1 ≡ word_at st.arrays m a)
    at true = (
      ap (λ o. slice_index (answer y.words o true ++ rest) 0) asked,
      λ i. ap (λ o. slice_index (answer y.words o true ++ rest) 1) asked ∙ h.same a (h.reach a asked),
    )
    at false = (ap (λ o. slice_index (answer y.words o false ++ rest) 0) asked, λ i. absurd (cc i))

-- each store gives two inputs
pair_after : (words : List ℕ) (o : Option ℕ) (b : Bool) (rest : List ℕ) (i : ℕ)
    → slice_index (answer words o b ++ rest) (suc (suc i)) ≡ slice_index rest i
pair_after words (Some a) true rest i = refl
pair_after words (Some a) false rest i = refl
pair_after words None b rest i = refl

-- the netlist reads of each delayed memory whether it replies, and the word that was asked for
pub inputs_read : (st : State) (m : ℕ) (xs : List Mem) (ys : List Store) (b : ℕ) → AreStores st m xs ys → (i : ℕ)
    → i < length xs → is_delayed (slice_index_or xs i plain_mem).kind ≡ true
    → ReadsStore st (m + i) (replies_of (delayed_in xs) b) (answers ys b) (delayed_in (take i xs))
inputs_read st m [] ys b h i l d = absurd (omega (arith, l))
inputs_read st m (x ∷ xs) ys b h i l d = at (is_delayed x.kind) refl ys h i l d (λ zs k c j n e. inputs_read st (suc m) xs zs c k j n e)
  where
    at : (t : Bool) → is_delayed x.kind ≡ t → (ys : List Store) → StoreThen (AreStores st (suc m) xs) t st m x ys → (i : ℕ)
        → i < suc (length xs) → is_delayed (slice_index_or (x ∷ xs) i plain_mem).kind ≡ true
        → ((zs : List Store) → AreStores st (suc m) xs zs → (c : ℕ) → (j : ℕ) → j < length xs
        → is_delayed (slice_index_or xs j plain_mem).kind ≡ true
        → ReadsStore st (suc m + j) (replies_of (delayed_in xs) c) (answers zs c) (delayed_in (take j xs)))
        → ReadsStore st (m + i) (replies_of (if t then suc (delayed_in xs) else delayed_in xs) b) (answers ys b) (delayed_in (take i (x ∷ xs)))
    at false e ys h zero l d go = absurd (cc (sym e ∙ d))
    at false e ys h (suc i) l d go =
        subst (λ j. ReadsStore st (m + suc i) (replies_of (delayed_in xs) b) (answers ys b) j)
        (sym (ap (λ t. if t then suc (delayed_in (take i xs)) else delayed_in (take i xs)) e))
        (subst (λ j. ReadsStore st j (replies_of (delayed_in xs) b) (answers ys b) (delayed_in (take i xs)))
        (let z : suc m + i ≡ m + suc i = omega arith in z) (go ys h b i (omega (arith, l)) d))
    at true e [] h i l d go = absurd h
    at true e (y ∷ ys) h zero l d go =
        let r = pair_read st m x y h.0 (reply b) (answers ys (b / 2)) (request_of st m) refl in
        subst (λ j. ReadsStore st j (reply b ∷ replies_of (delayed_in xs) (b / 2)) (answer y.words y.request (reply b) ++ answers ys (b / 2)) 0)
        (let z : m ≡ m + 0 = omega arith in z)
        (record { reply = r.0; word = r.1 })
    at true e (y ∷ ys) h (suc i) l d go =
        let rest = go ys h.1 (b / 2) i (omega (arith, l)) d in
        let j = delayed_in (take i xs) in
        subst (λ n. ReadsStore st (m + suc i) (reply b ∷ replies_of (delayed_in xs) (b / 2)) (answer y.words y.request (reply b) ++ answers ys (b / 2)) n)
        (sym (ap (λ t. if t then suc (delayed_in (take i xs)) else delayed_in (take i xs)) e))
        (subst (λ n. ReadsStore st n (reply b ∷ replies_of (delayed_in xs) (b / 2)) (answer y.words y.request (reply b) ++ answers ys (b / 2)) (suc j))
        (let z : suc m + i ≡ m + suc i = omega arith in z)
        (record {
          reply =
              ap (slice_index (answer y.words y.request (reply b) ++ answers ys (b / 2))) (let z : 2 * suc j ≡ suc (suc (2 * j)) = omega arith in z)
              ∙ pair_after y.words y.request (reply b) (answers ys (b / 2)) (2 * j) ∙ rest.reply;
          word =
              λ k. ap (slice_index (answer y.words y.request (reply b) ++ answers ys (b / 2)))
              (let z : 2 * suc j + 1 ≡ suc (suc (2 * j + 1)) = omega arith in z)
              ∙ pair_after y.words y.request (reply b) (answers ys (b / 2)) (2 * j + 1) ∙ rest.word k;
        }))

-- the widths of the inputs of the delayed memories
abbrev pub input_widths : List Mem → List ℕ
input_widths [] = []
input_widths (x ∷ xs) = (if is_delayed x.kind then 1 ∷ x.width ∷ [] else []) ++ input_widths xs

pair_bound : (x : Mem) (st : State) (m : ℕ) (y : Store) → IsStore st m x y → (b : Bool) (rest : List ℕ) (ws : List ℕ)
    → ((i : ℕ) → i < length ws → slice_index rest i < 2 ^ slice_index ws i) → length rest ≡ length ws
    → (length (answer y.words y.request b ++ rest) ≡ suc (suc (length ws)))
    × ((i : ℕ) → i < suc (suc (length ws)) → slice_index (answer y.words y.request b ++ rest) i < 2 ^ slice_index (1 ∷ x.width ∷ ws) i)
pair_bound x st m y h b rest ws f l = at y.request b
  where
    some : (a : ℕ) → 0 < 2 ^ a
    some a = pow_pos a

    at : (o : Option ℕ) (b : Bool)
        → (length (answer y.words o b ++ rest) ≡ suc (suc (length ws)))
        × ((i : ℕ) → i < suc (suc (length ws)) → slice_index (answer y.words o b ++ rest) i < 2 ^ slice_index (1 ∷ x.width ∷ ws) i)
    at (Some a) true = (ap (λ n. suc (suc n)) l, each)
      where
        each : (i : ℕ) → i < suc (suc (length ws)) → slice_index (1 ∷ slice_index y.words a ∷ rest) i < 2 ^ slice_index (1 ∷ x.width ∷ ws) i
        each zero k = omega arith
        each (suc zero) k = h.bounded a
        each (suc (suc i)) k = f i (omega (arith, k))
    at (Some a) false = (ap (λ n. suc (suc n)) l, each)
      where
        each : (i : ℕ) → i < suc (suc (length ws)) → slice_index (0 ∷ 0 ∷ rest) i < 2 ^ slice_index (1 ∷ x.width ∷ ws) i
        each zero k = omega arith
        each (suc zero) k = some x.width
        each (suc (suc i)) k = f i (omega (arith, k))
    at None b = (ap (λ n. suc (suc n)) l, each)
      where
        each : (i : ℕ) → i < suc (suc (length ws)) → slice_index (0 ∷ 0 ∷ rest) i < 2 ^ slice_index (1 ∷ x.width ∷ ws) i
        each zero k = omega arith
        each (suc zero) k = some x.width
        each (suc (suc i)) k = f i (omega (arith, k))

-- what the delayed memories answer has the widths of their inputs
pub inputs_fit : (st : State) (m : ℕ) (xs : List Mem) (ys : List Store) (b : ℕ) → AreStores st m xs ys
    → (length (answers ys b) ≡ length (input_widths xs))
    × ((i : ℕ) → i < length (input_widths xs) → slice_index (answers ys b) i < 2 ^ slice_index (input_widths xs) i)
inputs_fit st m [] [] b h = (refl, λ i l. absurd (omega (arith, l)))
inputs_fit st m [] (y ∷ ys) b h = absurd h
inputs_fit st m (x ∷ xs) ys b h = at (is_delayed x.kind) ys h (λ zs k c. inputs_fit st (suc m) xs zs c k)
  where
    at : (t : Bool) (ys : List Store) → StoreThen (AreStores st (suc m) xs) t st m x ys
        → ((zs : List Store) → AreStores st (suc m) xs zs → (c : ℕ)
        → (length (answers zs c) ≡ length (input_widths xs))
        × ((i : ℕ) → i < length (input_widths xs) → slice_index (answers zs c) i < 2 ^ slice_index (input_widths xs) i))
        → (length (answers ys b) ≡ length ((if t then 1 ∷ x.width ∷ [] else []) ++ input_widths xs))
        × ((i : ℕ) → i < length ((if t then 1 ∷ x.width ∷ [] else []) ++ input_widths xs)
        → slice_index (answers ys b) i < 2 ^ slice_index ((if t then 1 ∷ x.width ∷ [] else []) ++ input_widths xs) i)
    at false ys h go = go ys h b
    at true [] h go = absurd h
    at true (y ∷ ys) h go = let r = go ys h.1 (b / 2) in pair_bound x st m y h.0 (reply b) (answers ys (b / 2)) (input_widths xs) r.1 r.0

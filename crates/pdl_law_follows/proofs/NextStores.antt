-- The delayed memories outside after a cycle stand for the machine's next state.
use Rattle.std.proofs.Common.{◌≡◌, refl, sym, ap, ap₂, ◌∙◌, subst, ℕ, suc, ◌+◌, ◌^◌, ◌/◌, ◌<◌, ◌≤◌, Bool, true, false, ◌&&◌, ◌||◌, not, List, [], ◌∷◌, ◌++◌, length, map, take, Option, Some, None, arith, ◌==◌, ⊎_elim}
use Rattle.std.specs.Prelude.{if◌then◌else◌, slice_index, slice_index_or, slice_set}
use Rattle.std.proofs.lemmas.Bool.{eqb-true, eqb-false, cases_lt}
use Rattle.std.proofs.lemmas.List.{get_or-set_same, get_or-set_other, get_or_past, length-set, length-take}
use Rattle.std.proofs.lemmas.Nat.{pow_pos}
use Rattle.pdl_kit.specs.declared.mem_info.MemInfo.{MemInfo}
use Rattle.pdl_semantics.specs.Tree.{MemKind, Comb, Delayed, Advisory}
use Rattle.pdl_semantics.specs.Flat.{Arrays, Mem, Pipe, is_delayed, is_advisory, with_word}
use Rattle.pdl_semantics.specs.Stages.{plain_mem, mem_at}
use Rattle.pdl_semantics.specs.Locks.{commit_value}
use Rattle.pdl_semantics.specs.Machine as machine
use Rattle.pdl_semantics.specs.Machine.{Pending, Request, NoRequest, Owned, Orphan, is_answered, request_of}
use Rattle.pdl_semantics.specs.Cycle.{cycle, squasher, all_releases, list_two, taken_out, port_writes, with_commit, asked_in, request_next, request_left, is_outstanding, waits_from, for_mems}
use Rattle.pdl_theory_simulation.proofs.PerMemory.{at_mem}
use Rattle.pdl_net.specs.Circuit.{Circuit, State}
use Rattle.pdl_net.specs.Run.{Store, reply, committed_words, outstanding, next_stores, commit_of, commit2_of, is_waiting, some_waits}
use Rattle.pdl_net.specs.Run as net_run
use Rattle.pdl_net.specs.Cycle.{output_values}
use Rattle.pdl_machine_facts.specs.Slots.{moving}
use Rattle.pdl_machine_facts.proofs.PlainWords.{plain_next}
use Rattle.pdl_machine_facts.proofs.Stagewise.{next_is}
use Rattle.pdl_machine_inflight.specs.Readings.{reading}
use Rattle.pdl_law_follows.specs.StandingStates.{IsLawful, IsKnown}
use Rattle.pdl_law_follows.specs.Outside.{address_asked, IsStore, StoreThen, AreStores}
use Rattle.pdl_law_sides.specs.WholeNetlist.{replies_of, names_delayed}
use Rattle.pdl_law_follows.proofs.Requests.{or_old, address_next, never_asked}
use Rattle.pdl_law_parts.proofs.LinesPorts.{put_in, later}
use Rattle.pdl_law_parts.proofs.LockStep.{or_zero_is, word_by}
use Rattle.pdl_word.specs.Each.{Each}
use Rattle.pdl_law_follows.proofs.Stores.{delayed_in}

-- WAITS

waits_one : (q : Request) (o : Option ℕ) (b : Bool) → o ≡ address_asked q → is_waiting o b ≡ (is_outstanding q && not b)
waits_one NoRequest o true e = ap (λ o. is_waiting o true) e
waits_one NoRequest o false e = ap (λ o. is_waiting o false) e
waits_one (Owned n a) o true e = ap (λ o. is_waiting o true) e
waits_one (Owned n a) o false e = ap (λ o. is_waiting o false) e
waits_one (Orphan a) o true e = ap (λ o. is_waiting o true) e
waits_one (Orphan a) o false e = ap (λ o. is_waiting o false) e

-- the reply bits of these memories, of which the first has the number m
abbrev pub Replied : Pipe → List Bool → ℕ → List Mem → ℕ → Type 0
Replied p bits m xs b =
    (i : ℕ) → i < length xs → is_delayed (slice_index_or xs i plain_mem).kind ≡ true
    → is_answered p bits (m + i) ≡ slice_index_or (replies_of (delayed_in xs) b) (delayed_in (take i xs)) false

-- those of the rest
replied_after : (p : Pipe) (bits : List Bool) (m : ℕ) (x : Mem) (xs : List Mem) (b : ℕ) (t : Bool)
    → is_delayed x.kind ≡ t → Replied p bits m (x ∷ xs) b → Replied p bits (suc m) xs (if t then b / 2 else b)
replied_after p bits m x xs b false e h i l d =
    ap (is_answered p bits) (let z : suc m + i ≡ m + suc i = omega arith in z) ∙ h (suc i) (omega (arith, l)) d
    ∙ ap
    (λ t. slice_index_or (replies_of (if t then suc (delayed_in xs) else delayed_in xs) b)
    (if t then suc (delayed_in (take i xs)) else delayed_in (take i xs)) false) e
replied_after p bits m x xs b true e h i l d =
    ap (is_answered p bits) (let z : suc m + i ≡ m + suc i = omega arith in z) ∙ h (suc i) (omega (arith, l)) d
    ∙ ap
    (λ t. slice_index_or (replies_of (if t then suc (delayed_in xs) else delayed_in xs) b)
    (if t then suc (delayed_in (take i xs)) else delayed_in (take i xs)) false) e

replied_here : (p : Pipe) (bits : List Bool) (m : ℕ) (x : Mem) (xs : List Mem) (b : ℕ)
    → is_delayed x.kind ≡ true → Replied p bits m (x ∷ xs) b → is_answered p bits m ≡ reply b
replied_here p bits m x xs b e h =
    ap (is_answered p bits) (let z : m ≡ m + 0 = omega arith in z) ∙ h 0 (omega arith) e
    ∙ ap (λ t. slice_index_or (replies_of (if t then suc (delayed_in xs) else delayed_in xs) b) 0 false) e

-- a request is left unanswered outside where one of the machine's requests is, and only there
pub waits_are : (p : Pipe) (st : machine.State) (bits : List Bool) (m : ℕ) (xs : List Mem) (ys : List Store) (b : ℕ)
    → AreStores st m xs ys → Replied p bits m xs b
    → ((i : ℕ) → i < length xs → is_delayed (slice_index_or xs i plain_mem).kind ≡ false → request_of st (m + i) ≡ NoRequest)
    → some_waits ys b ≡ waits_from p bits m (for_mems (request_of st) m xs)
waits_are p st bits m [] [] b h r n = refl
waits_are p st bits m [] (y ∷ ys) b h r n = absurd h
waits_are p st bits m (x ∷ xs) ys b h r n =
    at (is_delayed x.kind) refl ys h
    (λ zs k c q. waits_are p st bits (suc m) xs zs c k q
    (λ i l d. ap (request_of st) (let z : suc m + i ≡ m + suc i = omega arith in z) ∙ n (suc i) (omega (arith, l)) d))
  where
    at : (t : Bool) → is_delayed x.kind ≡ t → (ys : List Store) → StoreThen (AreStores st (suc m) xs) t st m x ys
        → ((zs : List Store) → AreStores st (suc m) xs zs → (c : ℕ) → Replied p bits (suc m) xs c
        → some_waits zs c ≡ waits_from p bits (suc m) (for_mems (request_of st) (suc m) xs))
        → some_waits ys b
        ≡ ((is_outstanding (request_of st m) && not (is_answered p bits m)) || waits_from p bits (suc m) (for_mems (request_of st) (suc m) xs))
    at false e ys h go =
        go ys h b (replied_after p bits m x xs b false e r)
        ∙ ap (λ q. (is_outstanding q && not (is_answered p bits m)) || waits_from p bits (suc m) (for_mems (request_of st) (suc m) xs))
        (sym (ap (request_of st) (let z : m ≡ m + 0 = omega arith in z) ∙ n 0 (omega arith) e))
    at true e [] h go = absurd h
    at true e (y ∷ ys) h go =
        ap₂ (λ u w. u || w)
        (waits_one (request_of st m) y.request (reply b) h.0.request
        ∙ ap (λ c. is_outstanding (request_of st m) && not c) (sym (replied_here p bits m x xs b e r)))
        (go ys h.1 (b / 2) (replied_after p bits m x xs b true e r))

-- ONE MEMORY

-- what a memory writes fits its words
abbrev pub AreFit : Mem → List Pending → Type 0
AreFit x es = Each (λ (e : Pending). commit_value e.value < 2 ^ x.width) es

-- words of a memory, which fit it, are those of its array
record AreWords (x : Mem) (arrays : Arrays) (m : ℕ) (words : List ℕ) : Type 0 where
  pub long : length words ≡ x.depth
  pub bounded : (a : ℕ) → slice_index words a < 2 ^ x.width
  pub same : (a : ℕ) → a < x.depth → slice_index words a ≡ arrays m a

-- words after these writes, the oldest first
abbrev words_with : List Pending → List ℕ → List ℕ
words_with [] words = words
words_with (e ∷ es) words = words_with es (slice_set words e.address (commit_value e.value))

-- with a word more that fits they are those of the array with that word
one_word : (x : Mem) (arrays : Arrays) (m : ℕ) (words : List ℕ) (e : Pending) → AreWords x arrays m words → commit_value e.value < 2 ^ x.width
    → AreWords x (with_word arrays m e.address (commit_value e.value)) m (slice_set words e.address (commit_value e.value))
one_word x arrays m words e h wide = record {
  long = length-set words e.address (commit_value e.value) ∙ h.long;
  bounded = bounded;
  same = λ a l. sym
      (word_by m x.depth arrays e words (let n = h.long in omega (arith, n)) (λ b i. sym (h.same b i)) a l
      ∙ ap (λ v. slice_index (slice_set words e.address v) a) (or_zero_is e.value));
}
  where
    bounded : (a : ℕ) → slice_index (slice_set words e.address (commit_value e.value)) a < 2 ^ x.width
    bounded a = at (e.address == a) refl
      where
        at : (b : Bool) → (e.address == a) ≡ b → slice_index (slice_set words e.address (commit_value e.value)) a < 2 ^ x.width
        at false g = let z = get_or-set_other words e.address a (commit_value e.value) 0 (λ i. eqb-false e.address a g (sym i)) in
            let w = h.bounded a in omega (arith, z, w)
        at true g = ⊎_elim
            (λ (i : e.address < length words).
            (let z = get_or-set_same words e.address (commit_value e.value) 0 i in
            let k = ap (λ j. slice_index (slice_set words e.address (commit_value e.value)) j) (eqb-true e.address a g) in
            omega (arith, z, wide, k)))
            (λ (i : length words ≤ e.address).
            (let n = length-set words e.address (commit_value e.value) in
            let z = get_or_past (slice_set words e.address (commit_value e.value)) e.address 0 (omega (arith, i, n)) in
            let w = pow_pos x.width in
            let k = ap (λ j. slice_index (slice_set words e.address (commit_value e.value)) j) (eqb-true e.address a g) in
            omega (arith, z, w, k)))
            (cases_lt e.address (length words))

-- and so with all that is taken out of its lock
words_taken : (x : Mem) (arrays : Arrays) (m : ℕ) (words : List ℕ) (es : List Pending) → AreWords x arrays m words → AreFit x es
    → AreWords x (with_commit arrays m es) m (words_with es words)
words_taken x arrays m words [] h fit = h
words_taken x arrays m words (e ∷ es) h fit =
    words_taken x (with_word arrays m e.address (commit_value e.value)) m (slice_set words e.address (commit_value e.value)) es
    (one_word x arrays m words e h fit.0) fit.1

-- at most two writes are the commits of their ports, one after the other
committed_is : (words : List ℕ) (es : List Pending) → length es ≤ 2
    → committed_words (committed_words words (put_in (port_writes es))) (put_in (later (port_writes es))) ≡ words_with es words
committed_is words [] l = refl
committed_is words (e ∷ []) l = refl
committed_is words (e ∷ f ∷ []) l = refl
committed_is words (e ∷ f ∷ g ∷ es) l = absurd (omega (arith, l))

module _ (p : Pipe) (lawful : IsLawful p) (st : machine.State) (bits : List Bool) (known : IsKnown p st bits) where
  -- the request after the cycle
  request_after : (m : ℕ) → m < length p.mems
      → address_asked (request_of (cycle p st bits) m)
      ≡ or_old (asked_in (moving p st bits) m) (address_asked (if is_answered p bits m then NoRequest else request_of st m))
  request_after m l =
      ap (λ (s : machine.State). address_asked (request_of s m)) (next_is p lawful.leads lawful.some st bits known.flight.count)
      ∙ ap address_asked (at_mem (λ i. request_left (squasher (moving p st bits)) (request_next p st bits (moving p st bits) i)) 0 p.mems m NoRequest l)
      ∙ ap (λ i. address_asked (request_left (squasher (moving p st bits)) (request_next p st bits (moving p st bits) i)))
      (let z : 0 + m ≡ m = omega arith in z)
      ∙ address_next m (squasher (moving p st bits)) (moving p st bits) (if is_answered p bits m then NoRequest else request_of st m)

  -- a memory that is never read delayed has no request
  pub quiet_next : (m : ℕ) → m < length p.mems → reading p m ≡ None → request_of st m ≡ NoRequest → request_of (cycle p st bits) m ≡ NoRequest
  quiet_next m l e n =
      none (request_of (cycle p st bits) m) (request_after m l ∙ ap₂ or_old (never_asked p lawful.reads st bits m e) (at (is_answered p bits m)))
    where
      at : (b : Bool) → address_asked (if b then NoRequest else request_of st m) ≡ None
      at true = refl
      at false = ap address_asked n

      none : (q : Request) → address_asked q ≡ None → q ≡ NoRequest
      none NoRequest f = refl
      none (Owned o a) f = absurd (cc f)
      none (Orphan a) f = absurd (cc f)

  outstanding_is : (m : ℕ) (old : Option ℕ) (b : Bool) → old ≡ address_asked (request_of st m) → (asked : Option ℕ)
      → outstanding old b asked ≡ or_old asked (address_asked (if b then NoRequest else request_of st m))
  outstanding_is m old b e (Some a) = refl
  outstanding_is m old true e None = refl
  outstanding_is m old false e None = e

  -- its words and its request, by what it commits and is asked
  module _ (m : ℕ) (l : m < length p.mems) (late : is_delayed (mem_at p m).kind ≡ true) (y : Store) (h : IsStore st m (mem_at p m) y)
      (wide : AreFit (mem_at p m) (taken_out st (moving p st bits) m))
      (low : (a : ℕ) → asked_in (moving p st bits) m ≡ Some a → a < (mem_at p m).depth) where
    -- a delayed memory's words with its commits, and its request with what it is asked, stand for the machine's next state
    pub store_next : IsStore (cycle p st bits) m (mem_at p m)
        (record {
          words =
              committed_words (committed_words y.words (put_in (port_writes (taken_out st (moving p st bits) m))))
              (put_in (later (port_writes (taken_out st (moving p st bits) m))));
          request = outstanding y.request (is_answered p bits m) (asked_in (moving p st bits) m);
        })
    store_next =
        let taken = taken_out st (moving p st bits) m in
        let few = known.used.in_use.few m l in
        let all = length-take (all_releases m (moving p st bits)) (list_two st (moving p st bits) m) in
        let before : AreWords (mem_at p m) st.arrays m y.words = record { long = h.long; bounded = h.bounded; same = h.same } in
        let w =
        subst (AreWords (mem_at p m) (with_commit st.arrays m taken) m) (sym (committed_is y.words taken (omega (arith, few, all))))
        (words_taken (mem_at p m) st.arrays m y.words taken before wide) in
        record {
          long = w.long;
          bounded = w.bounded;
          same = λ a i. w.same a i
              ∙ sym (ap (λ (f : ℕ → ℕ). f a) (plain_next p lawful.sound.advice st bits known.by m l (unadvised (mem_at p m).kind late)));
          request = outstanding_is m y.request (is_answered p bits m) h.request (asked_in (moving p st bits) m) ∙ sym (request_after m l);
          reach = λ a e. at (asked_in (moving p st bits) m) refl (is_answered p bits m) a e;
        }
      where
        some_is : {u v : ℕ} → Some u ≡ Some v → u ≡ v
        some_is z = cc z

        unadvised : (k : MemKind) → is_delayed k ≡ true → is_advisory k ≡ false
        unadvised Comb e = refl
        unadvised Delayed e = refl
        unadvised Advisory e = absurd (cc e)

        at : (o : Option ℕ) → asked_in (moving p st bits) m ≡ o → (b : Bool) (a : ℕ) → outstanding y.request b o ≡ Some a → a < (mem_at p m).depth
        at (Some u) e b a f = low a (e ∙ f)
        at None e true a f = absurd (cc f)
        at None e false a f = h.reach a f

  -- ALL

  -- a memory's step, where it is delayed: what it commits and is asked by its name
  pub record StepsTo (c : Circuit) (s : State) (names : ℕ → List ℕ) (m : ℕ) : Type 0 where
    pub commit : commit_of c (output_values c s) (names m) ≡ put_in (port_writes (taken_out st (moving p st bits) m))
    pub commit2 : commit2_of c (output_values c s) (names m) ≡ put_in (later (port_writes (taken_out st (moving p st bits) m)))
    pub request : net_run.request_of c (output_values c s) (names m) ≡ asked_in (moving p st bits) m
    pub wide : AreFit (mem_at p m) (taken_out st (moving p st bits) m)
    pub low : (a : ℕ) → asked_in (moving p st bits) m ≡ Some a → a < (mem_at p m).depth

  -- all delayed memories outside stand for the machine's next state, where each has its step and the machine's reply bit
  pub stores_next : (c : Circuit) (s : State) (names : ℕ → List ℕ) (m : ℕ) (xs : List Mem) (infos : List MemInfo) (ys : List Store) (b : ℕ)
      → m + length xs ≡ length p.mems → ((i : ℕ) → i < length xs → mem_at p (m + i) ≡ slice_index_or xs i plain_mem)
      → map (λ (i : MemInfo). i.name) infos ≡ names_delayed names m xs → AreStores st m xs ys → Replied p bits m xs b
      → ((i : ℕ) → i < length xs → is_delayed (slice_index_or xs i plain_mem).kind ≡ true → StepsTo c s names (m + i))
      → AreStores (cycle p st bits) m xs (next_stores c (output_values c s) infos ys b)
  stores_next c s names m [] [] [] b e f g h r k = tt
  stores_next c s names m [] (i ∷ infos) ys b e f g h r k = absurd (cc g)
  stores_next c s names m [] [] (y ∷ ys) b e f g h r k = absurd h
  stores_next c s names m (x ∷ xs) infos ys b e f g h r k =
      at (is_delayed x.kind) refl infos ys g h
      (λ is zs u c' w q. stores_next c s names (suc m) xs is zs c' (omega (arith, e))
      (λ i l. ap (mem_at p) (let z : suc m + i ≡ m + suc i = omega arith in z) ∙ f (suc i) (omega (arith, l))) u w q
      (λ i l d. subst (StepsTo c s names) (let z : m + suc i ≡ suc m + i = omega arith in z) (k (suc i) (omega (arith, l)) d)))
    where
      same_name : {u v : List ℕ} {us vs : List (List ℕ)} → (u ∷ us) ≡ (v ∷ vs) → (u ≡ v) × (us ≡ vs)
      same_name z = (cc z, cc z)

      at : (t : Bool) → is_delayed x.kind ≡ t → (infos : List MemInfo) (ys : List Store)
          → map (λ (i : MemInfo). i.name) infos ≡ (if t then names m ∷ [] else []) ++ names_delayed names (suc m) xs
          → StoreThen (AreStores st (suc m) xs) t st m x ys
          → ((is : List MemInfo) (zs : List Store) → map (λ (i : MemInfo). i.name) is ≡ names_delayed names (suc m) xs
          → (c' : ℕ) → AreStores st (suc m) xs zs → Replied p bits (suc m) xs c'
          → AreStores (cycle p st bits) (suc m) xs (next_stores c (output_values c s) is zs c'))
          → StoreThen (AreStores (cycle p st bits) (suc m) xs) t (cycle p st bits) m x (next_stores c (output_values c s) infos ys b)
      at false d infos ys u w go = go infos ys u b w (replied_after p bits m x xs b false d r)
      at true d [] ys u w go = absurd (cc u)
      at true d (i ∷ is) [] u w go = absurd w
      at true d (i ∷ is) (y ∷ ys) u w go =
          let n = same_name u in
          let q = subst (StepsTo c s names) (let z : m + 0 ≡ m = omega arith in z) (k 0 (omega arith) d) in
          let mem : mem_at p m ≡ x = ap (mem_at p) (let z : m ≡ m + 0 = omega arith in z) ∙ f 0 (omega arith) in
          let mine = store_next m (omega (arith, e)) (ap (λ (z : Mem). is_delayed z.kind) mem ∙ d) y (subst (λ z. IsStore st m z y) (sym mem) w.0) q.wide q.low in
          let told : record {
            words =
                committed_words (committed_words y.words (put_in (port_writes (taken_out st (moving p st bits) m))))
                (put_in (later (port_writes (taken_out st (moving p st bits) m))));
            request = outstanding y.request (is_answered p bits m) (asked_in (moving p st bits) m);
          }
          ≡ record {
            words = committed_words (committed_words y.words (commit_of c (output_values c s) i.name)) (commit2_of c (output_values c s) i.name);
            request = outstanding y.request (reply b) (net_run.request_of c (output_values c s) i.name);
          } =
          λ j. record {
            words =
                committed_words (committed_words y.words ((sym q.commit ∙ ap (commit_of c (output_values c s)) (sym n.0)) j))
                ((sym q.commit2 ∙ ap (commit2_of c (output_values c s)) (sym n.0)) j);
            request = outstanding y.request (replied_here p bits m x xs b d r j) ((sym q.request ∙ ap (net_run.request_of c (output_values c s)) (sym n.0)) j);
          } in (
            subst (λ z. IsStore (cycle p st bits) m x z) told
                (subst
                (λ z. IsStore (cycle p st bits) m z
                (record {
                  words =
                      committed_words (committed_words y.words (put_in (port_writes (taken_out st (moving p st bits) m))))
                      (put_in (later (port_writes (taken_out st (moving p st bits) m))));
                  request = outstanding y.request (is_answered p bits m) (asked_in (moving p st bits) m);
                })) mem mine),
            go is ys n.1 (b / 2) w.1 (replied_after p bits m x xs b true d r),
          )

-- The first cycle: registers at reset, and an image in the arrays and in the delayed memories outside, stand for the machine's first state.
use Rattle.std.proofs.Common.{◌≡◌, refl, sym, ap, ap₂, ◌∙◌, subst, ℕ, suc, ◌+◌, ◌-◌, ◌^◌, ◌<◌, ◌≤◌, Bool, true, false, List, [], ◌∷◌, ◌++◌, length, map, take, drop, filter, find, Option, Some, None, bytes_eq, arith, length-append}
use Rattle.std.specs.Prelude.{slice_index, slice_index_or, count_by}
use Rattle.std.proofs.lemmas.List.{get_or-map, get_or-take, get_or-drop, length-map, length-take, length-drop, get_or-append_right}
use Rattle.std.proofs.lemmas.List.Elements.{filter-append}
use Rattle.pdl_kit.specs.declared.mem_info.MemInfo.{MemInfo}
use Rattle.pdl_semantics.specs.Flat as model
use Rattle.pdl_semantics.specs.Flat.{Mem, Pipe, is_delayed}
use Rattle.pdl_semantics.specs.Stages.{mem_at, plain_mem, reply_place}
use Rattle.pdl_semantics.specs.Machine as machine
use Rattle.pdl_semantics.specs.Cycle.{first}
use Rattle.pdl_image.specs.Images.{IsImage}
use Rattle.pdl_net.specs.declared.Reg.{Reg}
use Rattle.pdl_net.specs.declared.Array.{Array}
use Rattle.pdl_net.specs.declared.Netlist.{Netlist}
use Rattle.pdl_net.specs.Circuit.{State, circuit_of, array_depth, no_array, HasArray}
use Rattle.pdl_net.specs.Signal.{Signal}
use Rattle.pdl_net.specs.Well.{Suits}
use Rattle.pdl_net.specs.Holds.{Holds, ImageFits}
use Rattle.pdl_net.specs.Pipe.{PortMem, delayed_info, comb_info, IsWellFormed}
use Rattle.pdl_net.specs.Run as net_run
use Rattle.pdl_net.specs.Run.{Store, delayed_mems, filled_words, loaded_arrays, no_mem}
use Rattle.pdl_net.proofs.StartState.{loaded_at, holds_start, held_found, IsHeld}
use Rattle.pdl_lockapi.specs.Laws.{words_of, HasImage}
use Rattle.pdl_lockapi.proofs.NextState.{is_reset}
use Rattle.pdl_machine_facts.proofs.Requests.{none_requested}
use Rattle.pdl_law_parts.specs.Walk.{Locks, is_locked}
use Rattle.pdl_law_parts.specs.Views.{View, Gates}
use Rattle.pdl_law_parts.specs.Compiled.{IsLaid}
use Rattle.pdl_law_parts.specs.Stands.{StandsFor}
use Rattle.pdl_law_parts.proofs.NextState.{mem_there}
use Rattle.pdl_law_parts.proofs.StageLooks.{lock_there}
use Rattle.pdl_law_parts.proofs.FirstState.{padded_at, StartsWith, stands_at_first}
use Rattle.pdl_law_follows.specs.Outside.{IsStore, StoreThen, AreStores}
use Rattle.pdl_law_parts.specs.Places.{comb_place, net_place}
use Rattle.pdl_law_sides.specs.WholeNetlist.{StartsLock, in_order, HasWholeMems}
use Rattle.pdl_law_follows.proofs.Places.{answers_late, count_yes, count_no, place_low, place_delayed, place_comb, reply_low, part_is, delayed_as_many}

-- ---- STORES

abbrev empty : Store
empty = record { words = []; request = None }

-- stores in the order of the delayed memories
stores_from : (st : machine.State) (m : ℕ) (xs : List Mem) (ys : List Store)
    → length ys ≡ count_by answers_late xs
    → ((i : ℕ) → i < length xs → is_delayed (slice_index_or xs i plain_mem).kind ≡ true
    → IsStore st (m + i) (slice_index_or xs i plain_mem) (slice_index_or ys (count_by answers_late (take i xs)) empty))
    → AreStores st m xs ys
stores_from st m [] [] e h = tt
stores_from st m [] (y ∷ ys) e h = absurd (let z : suc (length ys) ≡ 0 = e in omega (arith, z))
stores_from st m (x ∷ xs) ys e h = at (is_delayed x.kind) refl ys e h (λ zs f g. stores_from st (suc m) xs zs f g)
  where
    Each : ℕ → List Mem → List Store → Type 0
    Each k us zs =
        (i : ℕ) → i < length us → is_delayed (slice_index_or us i plain_mem).kind ≡ true
        → IsStore st (k + i) (slice_index_or us i plain_mem) (slice_index_or zs (count_by answers_late (take i us)) empty)

    later : (i : ℕ) → m + suc i ≡ suc m + i
    later i = omega arith

    at : (b : Bool) → is_delayed x.kind ≡ b → (zs : List Store) → length zs ≡ count_by answers_late (x ∷ xs) → Each m (x ∷ xs) zs
        → ((us : List Store) → length us ≡ count_by answers_late xs → Each (suc m) xs us → AreStores st (suc m) xs us)
        → StoreThen (AreStores st (suc m) xs) b st m x zs
    at false d zs f g go = go zs (f ∙ count_no answers_late x xs d)
        (λ i l k. subst (λ j. IsStore st j (slice_index_or xs i plain_mem) (slice_index_or zs (count_by answers_late (take i xs)) empty)) (later i)
        (subst (λ c. IsStore st (m + suc i) (slice_index_or xs i plain_mem) (slice_index_or zs c empty))
        (count_no answers_late x (take i xs) d) (g (suc i) (omega (arith, l)) k)))
    at true d [] f g go = let c = count_yes answers_late x xs d in absurd (omega (arith, f, c))
    at true d (z ∷ zs) f g go = (
      subst (λ j. IsStore st j x z) (let k : m + 0 ≡ m = omega arith in k) (g 0 (omega arith) d),
      go zs (let c = count_yes answers_late x xs d in omega (arith, f, c))
          (λ i l k. subst (λ j. IsStore st j (slice_index_or xs i plain_mem) (slice_index_or zs (count_by answers_late (take i xs)) empty)) (later i)
          (subst (λ c. IsStore st (m + suc i) (slice_index_or xs i plain_mem) (slice_index_or (z ∷ zs) c empty))
          (count_yes answers_late x (take i xs) d) (g (suc i) (omega (arith, l)) k))),
    )

module _ (p : Pipe) (names : ℕ → List ℕ) (ls : Locks) (n : Netlist) (mems : HasWholeMems p names ls n)
    (image : List (List ℕ)) (is_image : IsImage n.mems image) where
  -- a memory's words are as many as it has, and of its width
  part_long : (m : ℕ) → m < length p.mems → length (slice_index_or image (net_place p m) []) ≡ (mem_at p m).depth
  part_long m l = is_image.depth (net_place p m) no_mem (let h = place_low p m l in let c = mems.count in omega (arith, h, c)) ∙ mems.depth m no_mem l

  part_bounded : (m : ℕ) → m < length p.mems → (a : ℕ) → slice_index (slice_index_or image (net_place p m) []) a < 2 ^ (mem_at p m).width
  part_bounded m l a =
      subst (λ w. slice_index (slice_index_or image (net_place p m) []) a < 2 ^ w) (mems.width m no_mem l)
      (is_image.width (net_place p m) no_mem (let h = place_low p m l in let c = mems.count in omega (arith, h, c)) a)

  -- and the machine's at the start
  part_first : (m : ℕ) → m < length p.mems → (a : ℕ) → slice_index (slice_index_or image (net_place p m) []) a ≡ model.arrays_of (in_order p image) m a
  part_first m l a = ap (λ ws. slice_index ws a) (sym (part_is p image m l))

  store_first : (m : ℕ) (y : Store) → m < length p.mems
      → y ≡ record { words = slice_index_or image (net_place p m) []; request = None }
      → IsStore (first p (model.arrays_of (in_order p image))) m (mem_at p m) y
  store_first m y l e = subst (IsStore (first p (model.arrays_of (in_order p image))) m (mem_at p m)) (sym e) (record {
    long = part_long m l;
    bounded = part_bounded m l;
    same = λ a low. part_first m l a;
    request = ap Rattle.pdl_law_follows.specs.Outside.address_asked (sym (none_requested 0 m p.mems));
    reach = λ a f. absurd (none_some a f);
  })
    where
      none_some : (a : ℕ) → None ≡ Some a → ⊥
      none_some a i = cc i

  -- at the start the delayed memories outside stand for the machine's first state from the same image
  pub stores_start : AreStores (first p (model.arrays_of (in_order p image))) 0 p.mems (net_run.start n image).stores
  stores_start = stores_from (first p (model.arrays_of (in_order p image))) 0 p.mems (net_run.start n image).stores
      (length-map (take (length (delayed_mems n)) image) as_store ∙ length-take (length (delayed_mems n)) image ∙ small ∙ delayed_as_many p names ls n mems)
      (λ i l d.
      (let z : 0 + i ≡ i = omega arith in
      subst
      (λ j. IsStore (first p (model.arrays_of (in_order p image))) j (mem_at p i) (slice_index_or (net_run.start n image).stores (reply_place p i) empty))
      (sym z)
      (store_first i (slice_index_or (net_run.start n image).stores (reply_place p i) empty) l (found i l d))))
    where
      as_store : List ℕ → Store
      as_store words = record { words = words; request = None }

      few : length (delayed_mems n) ≤ length image
      few = let f = Rattle.std.proofs.lemmas.List.Sums.length-filter (λ (i : MemInfo). i.delayed) n.mems in
          let g = Rattle.std.proofs.lemmas.List.Sums.count_by-le-length (λ (i : MemInfo). i.delayed) n.mems in
          let c = is_image.count in omega (arith, f, g, c)

      small : Rattle.std.specs.Prelude.min (length (delayed_mems n)) (length image) ≡ length (delayed_mems n)
      small = let f = few in omega (arith, f)

      found : (i : ℕ) → i < length p.mems → is_delayed (mem_at p i).kind ≡ true
          → slice_index_or (map as_store (take (length (delayed_mems n)) image)) (reply_place p i) empty ≡ as_store (slice_index_or image (net_place p i) [])
      found i l d =
          let low = reply_low p i l d in
          let many = delayed_as_many p names ls n mems in
          let f = few in
          let t = length-take (length (delayed_mems n)) image in
          get_or-map as_store (take (length (delayed_mems n)) image) (reply_place p i) [] empty (let s = small in omega (arith, low, many, t, s))
          ∙ ap as_store
          (get_or-take (length (delayed_mems n)) image (reply_place p i) [] (omega (arith, low, many))
          ∙ ap (λ k. slice_index_or image k []) (sym (place_delayed p i d)))

  -- ---- ARRAYS

  abbrev rest : List (List ℕ)
  rest = drop (length (delayed_mems n)) image

  -- the part of a memory that answers at once
  part_rest : (m : ℕ) → is_delayed (mem_at p m).kind ≡ false → slice_index_or rest (comb_place p m) [] ≡ slice_index_or image (net_place p m) []
  part_rest m d =
      get_or-drop (length (delayed_mems n)) image (comb_place p m) []
      ∙ ap (λ k. slice_index_or image k []) (ap (λ k. k + comb_place p m) (delayed_as_many p names ls n mems) ∙ sym (place_comb p m d))

  module _ (vs : ℕ → View) (gates : Gates) (moves : ℕ → Signal) (laid : IsLaid p ls vs gates moves (circuit_of n))
      (begins : (m : ℕ) → is_locked p m ≡ true → StartsLock p ls (circuit_of n) (laid.owns m).from (laid.owns m).to m)
      (s : State) (suits : Suits (circuit_of n) s) (regs : s.regs ≡ map (λ (r : Reg). r.reset) n.regs) (arrays : s.arrays ≡ loaded_arrays n.arrays rest) where
    array_there : (m : ℕ) → m < length p.mems → is_delayed (mem_at p m).kind ≡ false → comb_place p m < length n.arrays
    unfolding HasArray
    array_there m l d = subst (λ i. i < length n.arrays) (mems.in_order m l d) (laid.arrays m l d)

    -- its array holds it in front
    array_holds : (m : ℕ) → m < length p.mems → is_delayed (mem_at p m).kind ≡ false
        → slice_index_or s.arrays (ls.array m) []
        ≡ filled_words (slice_index_or n.arrays (comb_place p m) no_array).depth (slice_index_or image (net_place p m) [])
    array_holds m l d =
        ap (λ xs. slice_index_or xs (ls.array m) []) arrays
        ∙ ap (λ i. slice_index_or (loaded_arrays n.arrays rest) i []) (mems.in_order m l d)
        ∙ loaded_at n.arrays rest (comb_place p m) (array_there m l d)
        ∙ ap (filled_words (slice_index_or n.arrays (comb_place p m) no_array).depth) (part_rest m d)

    word_first : (m a : ℕ) → m < length p.mems → is_delayed (mem_at p m).kind ≡ false
        → model.arrays_of (in_order p image) m a ≡ slice_index (slice_index_or s.arrays (ls.array m) []) a
    word_first m a l d =
        sym (part_first m l a)
        ∙ sym
        (padded_at (slice_index_or image (net_place p m) [])
        ((slice_index_or n.arrays (comb_place p m) no_array).depth - length (slice_index_or image (net_place p m) [])) a)
        ∙ ap (λ ws. slice_index ws a) (sym (array_holds m l d))

    image_there : (m : ℕ) → is_locked p m ≡ true → is_delayed (mem_at p m).kind ≡ false
        → HasImage (ls.kind m) (Some (ls.array m)) s (slice_index_or image (net_place p m) [])
    unfolding array_depth
    image_there m e d =
        let l = lock_there p m e in
        let deep : (slice_index_or n.arrays (comb_place p m) no_array).depth ≡ words_of (ls.kind m) (length (slice_index_or image (net_place p m) [])) =
        ap (λ i. (slice_index_or n.arrays i no_array).depth) (sym (mems.in_order m l d)) ∙ (begins m e).deep d
        ∙ ap (words_of (ls.kind m)) (sym (part_long m l)) in
        array_holds m l d ∙ ap (λ k. filled_words k (slice_index_or image (net_place p m) [])) deep

    starts_first : (m : ℕ) → is_locked p m ≡ true → StartsWith p ls (model.arrays_of (in_order p image)) s m
    starts_first m e =
        let l = lock_there p m e in
        record {
          words = slice_index_or image (net_place p m) [];
          long = (let z = part_long m l in omega (arith, z));
          same = λ a low. sym (part_first m l a);
          stands =
              (begins m e).starts s (slice_index_or image (net_place p m) [])
              (is_reset (circuit_of n) (laid.owns m).from (laid.owns m).to s (laid.locks m e).regs regs) (part_long m l)
              (λ d. image_there m e d);
        }

    -- the stages and the locks stand for the machine's first state
    pub stands_start : StandsFor p ls vs s (first p (model.arrays_of (in_order p image)))
    stands_start =
        stands_at_first p ls vs gates moves (circuit_of n) laid (model.arrays_of (in_order p image)) s suits regs
        (λ m e d a low. word_first m a (mem_there p m a low) d) starts_first

-- ---- REGISTERS AND ARRAYS FIT

all_delayed : (ds : List PortMem) → filter (λ (i : MemInfo). i.delayed) (map delayed_info ds) ≡ map delayed_info ds
all_delayed [] = refl
all_delayed (d ∷ ds) = ap (λ l. delayed_info d ∷ l) (all_delayed ds)

none_comb : (ls : List PortMem) (xs : List Array)
    → filter (λ (i : MemInfo). i.delayed) (map (λ a. comb_info a (find (λ m. bytes_eq m.name a.name) ls)) xs) ≡ []
none_comb ls [] = refl
none_comb ls (a ∷ xs) = at (find (λ m. bytes_eq m.name a.name) ls) ∙ none_comb ls xs
  where
    others : List MemInfo
    others = map (λ a. comb_info a (find (λ m. bytes_eq m.name a.name) ls)) xs

    at : (o : Option PortMem) → filter (λ (i : MemInfo). i.delayed) (comb_info a o ∷ others) ≡ filter (λ (i : MemInfo). i.delayed) others
    at None = refl
    at (Some m) = refl

module _ (n : Netlist) (formed : IsWellFormed n) (image : List (List ℕ)) (is_image : IsImage n.mems image) where
  abbrev info : Array → MemInfo
  info a = comb_info a (find (λ l. bytes_eq l.name a.name) formed.pipe.locked)

  delayed_long : length (delayed_mems n) ≡ length (map delayed_info formed.pipe.delayed)
  delayed_long =
      ap (λ ms. length (filter (λ (i : MemInfo). i.delayed) ms)) formed.pipe.mems
      ∙ ap length
      (filter-append (λ (i : MemInfo). i.delayed) (map delayed_info formed.pipe.delayed) (map info n.arrays)
      ∙ ap₂ (λ a b. a ++ b) (all_delayed formed.pipe.delayed) (none_comb formed.pipe.locked n.arrays))
      ∙ (let e = length-append (map delayed_info formed.pipe.delayed) (none) in omega (arith, e))
    where
      none : List MemInfo
      none = []

  all_long : length n.mems ≡ length (map delayed_info formed.pipe.delayed) + length n.arrays
  all_long =
      ap length formed.pipe.mems ∙ length-append (map delayed_info formed.pipe.delayed) (map info n.arrays)
      ∙ ap (λ k. length (map delayed_info formed.pipe.delayed) + k) (length-map n.arrays info)

  -- the memory of an array
  mem_of_array : (m : ℕ) → m < length n.arrays → slice_index_or n.mems (length (delayed_mems n) + m) no_mem ≡ info (slice_index_or n.arrays m no_array)
  mem_of_array m l =
      let d = delayed_long in
      ap (λ ms. slice_index_or ms (length (delayed_mems n) + m) no_mem) formed.pipe.mems
      ∙ get_or-append_right (map delayed_info formed.pipe.delayed) (map info n.arrays)
      (length (map delayed_info formed.pipe.delayed)) (length (delayed_mems n) + m) no_mem refl (omega (arith, d))
      ∙ ap (λ k. slice_index_or (map info n.arrays) k no_mem)
      (let z : length (delayed_mems n) + m - length (map delayed_info formed.pipe.delayed) ≡ m = omega (arith, d) in z)
      ∙ get_or-map info n.arrays m no_array no_mem l

  held_at : (m : ℕ) → m < length n.arrays → IsHeld (slice_index_or n.arrays m no_array) (slice_index_or n.mems (length (delayed_mems n) + m) no_mem)
  held_at m l =
      subst (IsHeld (slice_index_or n.arrays m no_array)) (sym (mem_of_array m l))
      (let f = formed.pipe.arrays m no_array l in held_found (slice_index_or n.arrays m no_array) formed.pipe.locked f.width f.depth)

  abbrev others : List (List ℕ)
  others = drop (length (delayed_mems n)) image

  fits : ImageFits (circuit_of n) others
  fits =
      let d = delayed_long in
      let a = all_long in
      let c = is_image.count in
      record {
        count = length-drop (length (delayed_mems n)) image ∙ (let z : length image - length (delayed_mems n) ≡ length n.arrays = omega (arith, d, a, c) in z);
        depth =
            λ m l.
            (let e = ap length (get_or-drop (length (delayed_mems n)) image m []) in
            let f = is_image.depth (length (delayed_mems n) + m) no_mem (omega (arith, d, a, l)) in
            let g = (held_at m l).depth in omega (arith, e, f, g));
        words = λ m l k. (let f = is_image.width (length (delayed_mems n) + m) no_mem (omega (arith, d, a, l)) k in
            subst (λ ws. slice_index ws k < 2 ^ (slice_index_or n.arrays m no_array).width) (sym (get_or-drop (length (delayed_mems n)) image m []))
            (subst (λ w. slice_index (slice_index_or image (length (delayed_mems n) + m) []) k < 2 ^ w) (sym ((held_at m l).width)) f));
      }

  -- the registers and arrays that the netlist holds at the start fit
  pub holds_whole : Holds (circuit_of n) (net_run.start n image).regs (net_run.start n image).arrays
  holds_whole = holds_start n others (net_run.start n image).regs (net_run.start n image).arrays formed.well fits refl refl

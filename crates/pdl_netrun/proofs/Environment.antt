-- The loops over the delayed memories outside the netlist: what they answer, and what a cycle does to them.
use Rattle.std.proofs.Common.{◌≡◌, ◌≢◌, ℕ, zero, suc, ◌+◌, ◌/◌, ◌^◌, ◌<◌, ◌≤◌, ◌==◌, ⊎_elim, if◌then◌else◌, codes, flat_map, Option, Some, ap₂, Bool, true, false, ◌||◌, List, [], ◌∷◌, ◌++◌, length, get_or, take, drop, set, map, Contains, None, refl, sym, ap, ◌∙◌, subst, append_assoc, append-nil, length-append, arith}
use Rattle.std.proofs.lemmas.List.{take_all, take_more, drop_all, map-append, take_more_set, drop-set-lt, length-set, length-map, length-take-le, get_or-drop, get_or-take, get_or-map, get_or_default, get_or-set_same, get_or-set_other, get_or_past}
use Rattle.std.proofs.lemmas.Bool.{cases_lt, cases_eq}
use Rattle.std.proofs.lemmas.Nat.{pow_pos}
use Rattle.std.specs.Prelude.{slice_index}
use Rattle.std.proofs.lemmas.Grind.{drop_more_same}
use Rattle.std.proofs.Math.Seq.{map-set_same}
use Rattle.pdl_word.proofs.Lists.{drop_next}
use Rattle.pdl_kit.specs.declared.mem_info.MemInfo.{MemInfo}
use Rattle.pdl_image.specs.Images.{IsImage}
use Rattle.pdl_net.specs.declared.Netlist.{Netlist}
use Rattle.pdl_net.specs.Circuit.{Circuit, State, circuit_of, inputs_of}
use Rattle.pdl_net.specs.Cycle.{output_values}
use Rattle.pdl_net.specs.Well.{Suits}
use Rattle.pdl_net.specs.Pipe.{PortMem, reply_widths, delayed_info, IsPipe, IsWellFormed}
use Rattle.pdl_net.specs.Run.{Store, answer, answers, commit_of, commit2_of, committed_words, delayed_mems, is_waiting, next_stores, outstanding, port_value, reply, some_waits}
use Rattle.pdl_net.proofs.PipeMems.{delayed_told, delayed_in_front}
use Rattle.pdl_net.proofs.StartState.{inputs_told}
use Rattle.pdl_net.proofs.CommitWidths.{committed_fits, committed2_fits}
use Rattle.pdl_netrun.specs.declared.places.MemoryPlaces.{MemoryPlaces}
use Rattle.pdl_netrun.specs.declared.places.RequestPlaces.{RequestPlaces}
use Rattle.pdl_netrun.specs.declared.outside.Outside.{Outside}
use Rattle.pdl_netrun.specs.Outside.{store_of, stores_of, store_after, stores_after, commit_at, request_at, first_stores, requests_of, IsOutsideOf, WordsFit, ShowsWords, CommitsFit, AreOutside}
use Rattle.pdl_netrun.specs.Places.{places_of}

-- THE ANSWERS

-- before the first memory there are no inputs yet
pub answered_none : (ms : List Outside) (replies : ℕ) → answers (stores_of ms) replies ≡ [] ++ answers (stores_of (drop 0 ms)) replies
answered_none ms replies = refl

-- one memory more has its inputs
pub answered_more : (ms : List Outside) (k : ℕ) (m : Outside) (bits replies : ℕ) (xs : List ℕ)
    → k < length ms → m ≡ get_or ms k m → answers (stores_of ms) replies ≡ xs ++ answers (stores_of (drop k ms)) bits
    → answers (stores_of ms) replies ≡ (xs ++ answer m.words.items m.request (reply bits))
    ++ answers (stores_of (drop (k + 1) ms)) (bits / 2)
answered_more ms k m bits replies xs h g e =
    e ∙ ap (λ l. xs ++ answers (stores_of l) bits) (drop_next ms k m h g)
    ∙ sym (append_assoc xs (answer m.words.items m.request (reply bits)) (answers (stores_of (drop (k + 1) ms)) (bits / 2)))

-- after the last memory the inputs are those of all
pub answered_all : (ms : List Outside) (k bits replies : ℕ) (xs : List ℕ)
    → length ms ≤ k → answers (stores_of ms) replies ≡ xs ++ answers (stores_of (drop k ms)) bits
    → xs ≡ answers (stores_of ms) replies
answered_all ms k bits replies xs h e = sym (e ∙ ap (λ l. xs ++ answers (stores_of l) bits) (drop_all k ms h) ∙ append-nil xs)

-- WHO WAITS

or_assoc : (a b c : Bool) → (a || (b || c)) ≡ ((a || b) || c)
or_assoc true b c = refl
or_assoc false b c = refl

or_false : (a : Bool) → (a || false) ≡ a
or_false true = refl
or_false false = refl

-- whether one waits, with one memory more
pub waiting_more : (ms : List Outside) (k : ℕ) (m : Outside) (bits replies : ℕ) (w : Bool) → k < length ms → m ≡ get_or ms k m
    → some_waits (stores_of ms) replies ≡ (w || some_waits (stores_of (drop k ms)) bits)
    → some_waits (stores_of ms) replies ≡ ((w || is_waiting m.request (reply bits)) || some_waits (stores_of (drop (k + 1) ms)) (bits / 2))
waiting_more ms k m bits replies w h g e =
    e ∙ ap (λ l. w || some_waits (stores_of l) bits) (drop_next ms k m h g)
    ∙ or_assoc w (is_waiting m.request (reply bits)) (some_waits (stores_of (drop (k + 1) ms)) (bits / 2))

-- after the last memory it is known whether one waits
pub waiting_all : (ms : List Outside) (k bits replies : ℕ) (w : Bool)
    → length ms ≤ k → some_waits (stores_of ms) replies ≡ (w || some_waits (stores_of (drop k ms)) bits)
    → w ≡ some_waits (stores_of ms) replies
waiting_all ms k bits replies w h e = sym (e ∙ ap (λ l. w || some_waits (stores_of l) bits) (drop_all k ms h) ∙ or_false w)

-- WHAT A CYCLE DOES

-- the first k of the memories have had their cycle, which shows these ports
pub record AreStepped (ports : List ℕ) (first now : List Outside) (k bits replies : ℕ) : Type 0 where
  pub many : length now ≡ length first
  pub left : drop k now ≡ drop k first
  pub stores : stores_after ports first replies ≡ stores_of (take k now) ++ stores_after ports (drop k first) bits
  pub commits : map (λ (m : Outside). m.commits) now ≡ map (λ (m : Outside). m.commits) first
  pub requests : map (λ (m : Outside). m.requests) now ≡ map (λ (m : Outside). m.requests) first

-- before the first memory none has had its cycle
pub stepped_none : (ports : List ℕ) (ms : List Outside) (replies : ℕ) → AreStepped ports ms ms 0 replies replies
stepped_none ports ms replies = record { many = refl; left = refl; stores = refl; commits = refl; requests = refl }

-- one memory more has had its cycle
pub stepped_more : (ports : List ℕ) (first now : List Outside) (k bits replies : ℕ) (m new : Outside) → k < length now → m ≡ get_or now k m
    → store_of new ≡ store_after ports (reply bits) m → new.commits ≡ m.commits → new.requests ≡ m.requests
    → AreStepped ports first now k bits replies → AreStepped ports first (set now k new) (k + 1) (bits / 2) replies
stepped_more ports first now k bits replies m new h g f c q s =
    let same : drop (k + 1) now ≡ drop (k + 1) first = drop_more_same now first k s.left in
    let rest = stores_after ports (drop (k + 1) first) (bits / 2) in
    let before = stores_of (take k now) in
    record {
      many = length-set now k new ∙ s.many;
      left = drop-set-lt (k + 1) now k new (omega arith) ∙ same;
      stores =
          s.stores ∙ ap (λ l. before ++ stores_after ports l bits) (sym s.left ∙ drop_next now k m h g)
          ∙ ap (λ x. before ++ x ∷ stores_after ports (drop (k + 1) now) (bits / 2)) (sym f)
          ∙ ap (λ l. before ++ store_of new ∷ stores_after ports l (bits / 2)) same
          ∙ sym (append_assoc before (store_of new ∷ []) rest)
          ∙ ap (λ l. l ++ rest) (sym (map-append store_of (take k now) (new ∷ [])))
          ∙ ap (λ l. stores_of l ++ rest) (sym (take_more_set now k new h));
      commits = map-set_same (λ (x : Outside). x.commits) now k new m (c ∙ ap (λ (x : Outside). x.commits) g) ∙ s.commits;
      requests = map-set_same (λ (x : Outside). x.requests) now k new m (q ∙ ap (λ (x : Outside). x.requests) g) ∙ s.requests;
    }

-- after the last memory all have had their cycle
pub stepped_all : (ports : List ℕ) (first now : List Outside) (k bits replies : ℕ)
    → length now ≤ k → AreStepped ports first now k bits replies → stores_of now ≡ stores_after ports first replies
stepped_all ports first now k bits replies h s =
    let n = s.many in
    sym (s.stores
    ∙ ap (λ l. stores_of l ++ stores_after ports (drop k first) bits) (take_all k now h)
    ∙ ap (λ l. stores_of now ++ stores_after ports l bits) (drop_all k first (omega (arith, n, h)))
    ∙ append-nil (stores_of now))

-- THE START

-- an image's part for an array stands after those of the delayed memories
pub part_of : (image : List (List ℕ)) (d m : ℕ) → get_or (drop d image) m [] ≡ get_or image (d + m) []
part_of image d m = get_or-drop d image m []

-- these are the first k memories, with their parts of the image
pub record AreFirst (c : Circuit) (mems : List MemInfo) (image : List (List ℕ)) (k : ℕ) (ms : List Outside) : Type 0 where
  pub stores : stores_of ms ≡ first_stores (take k image)
  pub commits : map (λ (m : Outside). m.commits) ms ≡ map (λ (i : MemInfo). places_of c i.name) (take k mems)
  pub requests : map (λ (m : Outside). m.requests) ms ≡ map (λ (i : MemInfo). requests_of c i.name) (take k mems)

-- an empty list has the first 0 memories
pub first_none : (c : Circuit) (mems : List MemInfo) (image : List (List ℕ)) (ms : List Outside) → ms ≡ [] → AreFirst c mems image 0 ms
first_none c mems image ms e =
    record { stores = ap stores_of e; commits = ap (map (λ (m : Outside). m.commits)) e; requests = ap (map (λ (m : Outside). m.requests)) e }

-- f of the first k + 1 elements, from f of the first k
mapped_next : {A B C : Type 0} (f : A → C) (g : B → C) (xs : List A) (ys : List B) (k : ℕ) (x : A) (d : B)
    → map f xs ≡ map g (take k ys) → k < length ys → f x ≡ g (get_or ys k d)
    → map f (xs ++ x ∷ []) ≡ map g (take (k + 1) ys)
mapped_next f g xs ys k x d e h q =
    map-append f xs (x ∷ []) ∙ ap (λ l. l ++ f x ∷ []) e ∙ ap (λ z. map g (take k ys) ++ z ∷ []) q
    ∙ sym (map-append g (take k ys) (get_or ys k d ∷ [])) ∙ ap (map g) (sym (take_more ys k d h))

-- with one memory more, which has its part of the image, they are the first k + 1
pub first_more : (c : Circuit) (mems : List MemInfo) (image : List (List ℕ)) (k : ℕ) (ms new : List Outside) (i : MemInfo) (m : Outside)
    → k < length mems → k < length image → i ≡ get_or mems k i → IsOutsideOf c i.name (get_or image k []) m
    → new ≡ ms ++ m ∷ [] → AreFirst c mems image k ms → AreFirst c mems image (k + 1) new
first_more c mems image k ms new i m h l e o f s =
    subst (AreFirst c mems image (k + 1)) (sym f) (record {
      stores = mapped_next store_of (λ (words : List ℕ). record { words = words; request = None }) ms image k m [] s.stores l o.store;
      commits =
          mapped_next (λ (x : Outside). x.commits)
          (λ (x : MemInfo). places_of c x.name) ms mems k m i s.commits h (o.commits ∙ ap (λ (x : MemInfo). places_of c x.name) e);
      requests =
          mapped_next (λ (x : Outside). x.requests)
          (λ (x : MemInfo). requests_of c x.name) ms mems k m i s.requests h (o.requests ∙ ap (λ (x : MemInfo). requests_of c x.name) e);
    })

-- INPUTS AND STORES

-- what is answered fits the inputs
pub record InputsFit (ws : List ℕ) (inputs : List ℕ) : Type 0 where
  pub count : length inputs ≡ length ws
  pub each : (i : ℕ) → i < length ws → slice_index inputs i < 2 ^ slice_index ws i

-- a bit, and a word of this width
pair_fits : (r w x y : ℕ) (ws inputs : List ℕ) → x < 2 ^ r → y < 2 ^ w → InputsFit ws inputs → InputsFit (r ∷ w ∷ ws) (x ∷ y ∷ inputs)
pair_fits r w x y ws inputs f g h = record { count = ap (λ n. suc (suc n)) h.count; each = at }
  where
    at : (i : ℕ) → i < length (r ∷ w ∷ ws) → slice_index (x ∷ y ∷ inputs) i < 2 ^ slice_index (r ∷ w ∷ ws) i
    at zero l = f
    at (suc zero) l = g
    at (suc (suc i)) l = h.each i (omega (arith, l))

answer_fits : (w : ℕ) (words : List ℕ) (o : Option ℕ) (b : Bool) (ws inputs : List ℕ)
    → ((a : ℕ) → slice_index words a < 2 ^ w) → InputsFit ws inputs
    → InputsFit (1 ∷ w ∷ ws) (answer words o b ++ inputs)
answer_fits w words None b ws inputs f h = pair_fits 1 w 0 0 ws inputs (omega arith) (pow_pos w) h
answer_fits w words (Some a) true ws inputs f h = pair_fits 1 w 1 (slice_index words a) ws inputs (omega arith) (f a) h
answer_fits w words (Some a) false ws inputs f h = pair_fits 1 w 0 0 ws inputs (omega arith) (pow_pos w) h

-- what delayed memories answer fits their inputs, where their words do
pub inputs_fit : (ws : List ℕ) (ms : List Store) (bits : ℕ) → WordsFit ws ms → InputsFit ws (answers ms bits)
inputs_fit [] [] bits f = record { count = refl; each = λ i l. absurd (omega (arith, l)) }
inputs_fit [] (m ∷ ms) bits f = absurd f
inputs_fit (r ∷ []) ms bits f = absurd f
inputs_fit (r ∷ w ∷ ws) [] bits f = absurd f
inputs_fit (r ∷ w ∷ ws) (m ∷ ms) bits f =
    subst (λ x. InputsFit (x ∷ w ∷ ws) (answers (m ∷ ms) bits)) (sym f.0)
    (answer_fits w m.words m.request (reply bits) ws (answers ms (bits / 2)) f.1 (inputs_fit ws ms (bits / 2) f.2))

-- ports by their places show what they show by their names
pub stores_named : (c : Circuit) (ports : List ℕ) (infos : List MemInfo) (ms : List Outside) (bits : ℕ)
    → map (λ (m : Outside). m.commits) ms ≡ map (λ (i : MemInfo). places_of c i.name) infos
    → map (λ (m : Outside). m.requests) ms ≡ map (λ (i : MemInfo). requests_of c i.name) infos
    → next_stores c ports infos (stores_of ms) bits ≡ stores_after ports ms bits
stores_named c ports [] [] bits e f = refl
stores_named c ports [] (m ∷ ms) bits e f = absurd (let n = ap length e in omega (arith, n))
stores_named c ports (i ∷ infos) [] bits e f = refl
stores_named c ports (i ∷ infos) (m ∷ ms) bits e f =
    let commits : m.commits ≡ places_of c i.name = cc in
    let requests : m.requests ≡ requests_of c i.name = cc in
    let commits_after : map (λ (x : Outside). x.commits) ms ≡ map (λ (x : MemInfo). places_of c x.name) infos = cc in
    let requests_after : map (λ (x : Outside). x.requests) ms ≡ map (λ (x : MemInfo). requests_of c x.name) infos = cc in
    ap₂
    (λ (p : MemoryPlaces)
    (q : RequestPlaces). record {
      words = committed_words (committed_words m.words.items (commit_at ports p.first)) (commit_at ports p.second);
      request = outstanding m.request (reply bits) (request_at ports q);
    }
    ∷ next_stores c ports infos (stores_of ms) (bits / 2))
    (sym commits) (sym requests)
    ∙ ap (λ l. store_after ports (reply bits) m ∷ l) (stores_named c ports infos ms (bits / 2) commits_after requests_after)

-- words after a commit that fits
committed_below : (ws : List ℕ) (o : Option (ℕ × ℕ)) (n : ℕ)
    → ((a v : ℕ) → o ≡ Some (a, v) → v < n) → ((a : ℕ) → slice_index ws a < n) → (a : ℕ)
    → slice_index (committed_words ws o) a < n
committed_below ws None n f g a = g a
committed_below ws (Some (i, v)) n f g a = ⊎_elim
    (λ (e : a ≡ i). ⊎_elim
    (λ (lt : i < length ws). subst (λ x. x < n) (sym (ap (slice_index (set ws i v)) e ∙ get_or-set_same ws i v 0 lt)) (f i v refl))
    (λ (ge : length ws ≤ i). let z : slice_index (set ws i v) a ≡ 0 = get_or_past (set ws i v) a 0 (omega (arith, e, ge, length-set ws i v)) in
    let q = f i v refl in omega (arith, z, q))
    (cases_lt i (length ws)))
    (λ (ne : a ≢ i). subst (λ x. x < n) (sym (get_or-set_other ws i a v 0 ne)) (g a))
    (cases_eq a i)

-- the value of a commit
abbrev value_in : Option (ℕ × ℕ) → ℕ
value_in None = 0
value_in (Some p) = p.1

-- where the port's value fits, the commit's does
commit_below : (b : Bool) (x v n : ℕ) → v < n → (a w : ℕ) → if◌then◌else◌ {A = Option (ℕ × ℕ)} b (Some (x, v)) None ≡ Some (a, w) → w < n
commit_below true x v n h a w e = let k : v ≡ w = ap value_in e in omega (arith, k, h)
commit_below false x v n h a w e = absurd cc

-- the words of delayed memories go on fitting their inputs after a cycle
pub words_kept : (c : Circuit) (s : State) (ws : List ℕ) (infos : List MemInfo) (ms : List Store) (bits : ℕ) → Suits c s
    → CommitsFit c ws infos → WordsFit ws ms → WordsFit ws (next_stores c (output_values c s) infos ms bits)
words_kept c s [] [] [] bits t k f = tt
words_kept c s [] [] (m ∷ ms) bits t k f = absurd f
words_kept c s [] (i ∷ is) ms bits t k f = absurd k
words_kept c s (r ∷ []) infos ms bits t k f = absurd f
words_kept c s (r ∷ w ∷ ws) [] ms bits t k f = absurd k
words_kept c s (r ∷ w ∷ ws) (i ∷ is) [] bits t k f = absurd f
words_kept c s (r ∷ w ∷ ws) (i ∷ is) (m ∷ ms) bits t k f =
    let ports = output_values c s in
    let first = committed_words m.words (commit_of c ports i.name) in
    let below : (a : ℕ) → slice_index first a < 2 ^ w =
    committed_below m.words (commit_of c ports i.name) (2 ^ w)
    (commit_below (port_value c ports (codes "c_" ++ i.name) == 1)
    (port_value c ports (codes "ca_" ++ i.name))
    (port_value c ports (codes "cd_" ++ i.name)) (2 ^ w) (k.0 s t)) f.1 in (
      f.0,
      committed_below first (commit2_of c ports i.name) (2 ^ w)
          (commit_below (port_value c ports (codes "c2_" ++ i.name) == 1)
          (port_value c ports (codes "ca2_" ++ i.name))
          (port_value c ports (codes "cd2_" ++ i.name)) (2 ^ w) (k.1 s t)) below,
      words_kept c s ws is ms (bits / 2) t k.2 f.2,
    )

-- OF A NETLIST

-- the parts of an image for delayed memories fit their inputs
words_first : (ds : List PortMem) (image : List (List ℕ))
    → length image ≡ length ds
    → ((k : ℕ) (d : PortMem) → k < length ds → (a : ℕ) → slice_index (get_or image k []) a < 2 ^ (get_or ds k d).width)
    → WordsFit (flat_map reply_widths ds) (first_stores image)
words_first [] [] e f = tt
words_first [] (i ∷ is) e f = absurd (omega (arith, e))
words_first (d ∷ ds) [] e f = absurd (omega (arith, e))
words_first (d ∷ ds) (i ∷ is) e f = (refl, f zero d (omega arith), words_first ds is (omega (arith, e)) (λ k x l. f (suc k) x (omega (arith, l))))

commits_first : (c : Circuit) (ds : List PortMem)
    → ((k : ℕ) (d : PortMem) → k < length ds
    → ShowsWords c (codes "cd_" ++ (get_or ds k d).name) (get_or ds k d).width
    × ShowsWords c (codes "cd2_" ++ (get_or ds k d).name) (get_or ds k d).width)
    → CommitsFit c (flat_map reply_widths ds) (map delayed_info ds)
commits_first c [] f = tt
commits_first c (d ∷ ds) f = let here = f zero d (omega arith) in (here.0, here.1, commits_first c ds (λ k x l. f (suc k) x (omega (arith, l))))

-- there are no more delayed memories than memories, and at most 16
pub few_delayed : (n : Netlist) (p : IsPipe n) → (length (delayed_mems n) ≤ length n.mems) × (length (delayed_mems n) ≤ 16)
few_delayed n p =
    let all : length n.mems ≡ length (map delayed_info p.delayed) + _ = ap length p.mems ∙ length-append (map delayed_info p.delayed) _ in
    let told = ap length (delayed_told n p) in
    let few = p.count in
    (omega (arith, told, all), omega (arith, told, all, few))

-- what the delayed memories of a netlist hold at the start, and what they commit, fits their inputs
pub record FitAtStart (n : Netlist) (image : List (List ℕ)) : Type 0 where
  pub words : WordsFit (inputs_of (circuit_of n)) (first_stores (take (length (delayed_mems n)) image))
  pub commits : CommitsFit (circuit_of n) (inputs_of (circuit_of n)) (delayed_mems n)

-- what a well formed netlist's delayed memories hold at the start, and commit, fits their inputs
pub fit_at_start : (n : Netlist) (image : List (List ℕ)) → IsWellFormed n → IsImage n.mems image → FitAtStart n image
fit_at_start n image w i =
    let c = circuit_of n in
    let p = w.pipe in
    let ds = p.delayed in
    let told = delayed_told n p in
    let count : length (delayed_mems n) ≡ length ds = ap length told ∙ (simp length-map) in
    let front = delayed_in_front n p in
    let few = (few_delayed n p).0 in
    let part : length (take (length (delayed_mems n)) image) ≡ length ds =
    length-take-le (length (delayed_mems n)) image (let q = i.count in omega (arith, q, few)) ∙ count in
    let words : (k : ℕ) (d : PortMem) → k < length ds → (a : ℕ)
    → slice_index (get_or (take (length (delayed_mems n)) image) k []) a < 2 ^ (get_or ds k d).width =
    λ k d l a.
    let u : k < length (delayed_mems n) = omega (arith, l, count) in
    let mem : get_or n.mems k (delayed_info d) ≡ delayed_info (get_or ds k d) =
    sym (get_or-take (length (delayed_mems n)) n.mems k (delayed_info d) u)
    ∙ ap (λ (x : List MemInfo). get_or x k (delayed_info d)) (sym front ∙ told)
    ∙ get_or-map delayed_info ds k d (delayed_info d) l in
    let x = i.width k (delayed_info d) (omega (arith, u, few)) a in
    let y = subst (λ (m : MemInfo). slice_index (get_or image k []) a < 2 ^ m.width) mem x in
    subst (λ (r : List ℕ). slice_index r a < 2 ^ (get_or ds k d).width) (sym (get_or-take (length (delayed_mems n)) image k [] u)) y in
    let values : (k : ℕ) (d : PortMem) → k < length ds
    → ShowsWords c (codes "cd_" ++ (get_or ds k d).name) (get_or ds k d).width
    × ShowsWords c (codes "cd2_" ++ (get_or ds k d).name) (get_or ds k d).width =
    λ k d l.
    let x = get_or ds k d in
    let here : Contains ds x = (k, l, get_or_default ds k x d l) in
    (committed_fits n w x here, committed2_fits n w x here) in
    record {
      words =
          subst (λ (ws : List ℕ). WordsFit ws (first_stores (take (length (delayed_mems n)) image)))
          (sym (inputs_told n p)) (words_first ds (take (length (delayed_mems n)) image) part words);
      commits =
          subst (λ (is : List MemInfo). CommitsFit c (inputs_of c) is) (sym told)
          (subst (λ (ws : List ℕ). CommitsFit c ws (map delayed_info ds)) (sym (inputs_told n p)) (commits_first c ds values));
    }

-- the delayed memories of a well formed netlist, as they are at the start, stand outside it
pub stand_outside : (n : Netlist) (image : List (List ℕ)) (ms : List Outside) → IsWellFormed n → IsImage n.mems image
    → stores_of ms ≡ first_stores (take (length (delayed_mems n)) image)
    → map (λ (m : Outside). m.commits) ms ≡ map (λ (i : MemInfo). places_of (circuit_of n) i.name) (delayed_mems n)
    → map (λ (m : Outside). m.requests) ms ≡ map (λ (i : MemInfo). requests_of (circuit_of n) i.name) (delayed_mems n)
    → AreOutside (circuit_of n) (delayed_mems n) ms
stand_outside n image ms w i e f g =
    let fit = fit_at_start n image w i in
    record {
      commits = f;
      requests = g;
      fit = subst (WordsFit (inputs_of (circuit_of n))) (sym e) fit.words;
      wide = fit.commits;
    }

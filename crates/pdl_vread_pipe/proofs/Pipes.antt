-- A netlist is a pipe's exactly where the tests pass.
use Rattle.std.proofs.Common.{◌≡◌, ◌≢◌, ◌⊎◌, inl, inr, ℕ, ◌+◌, ◌*◌, ◌^◌, ◌<◌, ◌≤◌, Bool, true, false, not, ◌&&◌, ◌||◌, cond, eqb, leb, List, [], ◌∷◌, ◌++◌, length, get_or, map, flat_map, Some, None, All, Contains, bytes_eq, refl, sym, ap, ap₂, ◌∙◌, subst, arith, length-append}
use Rattle.std.specs.List.{list_all, list_any, range_with_len}
use Rattle.std.proofs.lemmas.Bool.{and_parts, and_from, or_cases, or_left, or_right, leb-true, le-leb, eqb-true, eq-eqb, not-true, not_from_false, true≢false, false_from_ne_true, cond_both}
use Rattle.std.proofs.lemmas.List.{get_or_default, get_or-map, length-map}
use Rattle.std.proofs.lemmas.List.Elements.{All-map}
use Rattle.std.proofs.lemmas.List.Sums.{AllPass-from_list_all, list_all-from_AllPass}
use Rattle.std.proofs.lemmas.List.Folds.{Any-from_list_any, list_any-from_Any, list_any_none}
use Rattle.pdl_kit.specs.declared.mem_info.MemInfo.{MemInfo}
use Rattle.pdl_net.specs.declared.Array.{Array}
use Rattle.pdl_net.specs.declared.Netlist.{Netlist}
use Rattle.pdl_net.specs.Circuit.{no_array}
use Rattle.pdl_net.specs.Pipe.{Head, PortMem, reply_ports, stage_ports, commit_ports, request_ports, pipe_ports, IsAddress, IsPipeArray, IsKept, IsPipe, mems_of, delayed_info, comb_info}
use Rattle.pdl_vread_pipe.specs.declared.shape.Shape.{Shape}
use Rattle.pdl_vread_pipe.specs.ToldParts.{told, with_mems}
use Rattle.pdl_vread_pipe.specs.ExpectedPorts.{heads, same, after}
use Rattle.pdl_vread_pipe.specs.Tests as spec
use Rattle.pdl_vread_pipe.specs.Tests.{judged}
use Rattle.pdl_vread_pipe.proofs.PipePorts.{once, told_of}
use Rattle.pdl_word.proofs.Bytes.{same_bytes, bytes_same}

-- ---- names

-- ---- lists

module _ {X : Type 0} (f : X → Bool) (P : X → Type 0) where
  all_to : ((x : X) → f x ≡ true → P x) → (xs : List X) → list_all f xs ≡ true → All P xs
  all_to to xs h = λ k d l. to (get_or xs k d) (AllPass-from_list_all f xs h k d l)

  all_from : ((x : X) → P x → f x ≡ true) → (xs : List X) → All P xs → list_all f xs ≡ true
  all_from from xs h = list_all-from_AllPass f xs (λ k d l. from (get_or xs k d) (h k d l))

-- an element passes what all pass
at_element : {X : Type 0} (f : X → Bool) (xs : List X) (x : X) → list_all f xs ≡ true → Contains xs x → f x ≡ true
at_element f xs x h c = subst (λ y. f y ≡ true) c.2 (AllPass-from_list_all f xs h c.0 x c.1)

each_element : {X : Type 0} (f : X → Bool) (xs : List X) → ((x : X) → Contains xs x → f x ≡ true) → list_all f xs ≡ true
each_element f xs h = list_all-from_AllPass f xs (λ k d l. h (get_or xs k d) (k, l, get_or_default xs k (get_or xs k d) d l))

-- ---- ports

flag : (a b : Bool) → cond a b (not b) ≡ true → b ≡ a
flag true b h = h
flag false true h = sym h
flag false false h = refl

flag_same : (a : Bool) → cond a a (not a) ≡ true
flag_same true = refl
flag_same false = refl

same_is : (e h : Head) → same e h ≡ true → h ≡ e
same_is e h k =
    let make : List ℕ → ℕ → Bool → Head = λ n w i. record { name = n; width = w; input = i } in
    let a = and_parts (bytes_eq h.name e.name) _ k in
    let b = and_parts (eqb h.width e.width) _ a.1 in
    ap (λ n. make n h.width h.input) (bytes_same h.name e.name a.0)
    ∙ (ap (λ w. make e.name w h.input) (eqb-true h.width e.width b.0) ∙ ap (λ i. make e.name e.width i) (flag e.input h.input b.1))

same_self : (e : Head) → same e e ≡ true
same_self e = and_from _ _ (same_bytes e.name e.name refl) (and_from _ _ (eq-eqb e.width e.width refl) (flag_same e.input))

over_is : (es hs : List Head) → spec.is_over (after es hs) ≡ true → hs ≡ es
over_is [] [] h = refl
over_is [] (x ∷ xs) h = absurd (true≢false (sym h))
over_is (e ∷ es) [] h = absurd (true≢false (sym h))
over_is (e ∷ es) (x ∷ xs) h = go (same e x) refl (over_is es xs) h
  where
    go : (b : Bool) → same e x ≡ b → (spec.is_over (after es xs) ≡ true → xs ≡ es) → spec.is_over (cond b (after es xs) None) ≡ true → x ∷ xs ≡ e ∷ es
    go true k i h = let j = same_is e x k in let l = i h in cc
    go false k i h = absurd (true≢false (sym h))

over_self : (es : List Head) → spec.is_over (after es es) ≡ true
over_self [] = refl
over_self (e ∷ es) = ap (λ b. spec.is_over (cond b (after es es) None)) (same_self e) ∙ over_self es

-- ---- memories

address_is : (m : PortMem) → spec.has_address m ≡ true → IsAddress m
address_is m h = let a = and_parts (leb 1 m.bits) (leb m.bits 16) h in record { low = leb-true 1 m.bits a.0; high = leb-true m.bits 16 a.1 }

is_address : (m : PortMem) → IsAddress m → spec.has_address m ≡ true
is_address m a = and_from _ _ (le-leb 1 m.bits a.low) (le-leb m.bits 16 a.high)

-- the sizes are the same
abbrev HaveSameSizes : PortMem → PortMem → Type 0
HaveSameSizes d l = (d.width ≡ l.width) × (d.bits ≡ l.bits)

sizes_are : (d l : PortMem) → spec.same_sizes d l ≡ true → HaveSameSizes d l
sizes_are d l h = let a = and_parts (eqb d.width l.width) (eqb d.bits l.bits) h in (eqb-true d.width l.width a.0, eqb-true d.bits l.bits a.1)

sizes_same : (d l : PortMem) → HaveSameSizes d l → spec.same_sizes d l ≡ true
sizes_same d l e = and_from _ _ (eq-eqb d.width l.width e.0) (eq-eqb d.bits l.bits e.1)

agree_is : (delayed locked : List PortMem)
    → list_all (spec.all_agree locked) delayed ≡ true → (d l : PortMem) → Contains delayed d → Contains locked l
    → d.name ≡ l.name → HaveSameSizes d l
agree_is delayed locked h d l c k e =
    let a : spec.agrees d l ≡ true = at_element (spec.agrees d) locked l (at_element (spec.all_agree locked) delayed d h c) k in
    sizes_are d l (ap (λ b. cond b (spec.same_sizes d l) true) (sym (same_bytes d.name l.name e)) ∙ a)

is_agree : (delayed locked : List PortMem)
    → ((d l : PortMem) → Contains delayed d → Contains locked l → d.name ≡ l.name → HaveSameSizes d l)
    → list_all (spec.all_agree locked) delayed ≡ true
is_agree delayed locked h =
    each_element (spec.all_agree locked) delayed
    (λ d c. each_element (spec.agrees d) locked
    (λ l k. cond_both (bytes_eq d.name l.name) (spec.same_sizes d l) true (λ b. b ≡ true)
    (λ e. sizes_same d l (h d l c k (bytes_same d.name l.name e))) (λ e. refl)))

-- ---- arrays

-- no memory has the name
none_named : (x : List ℕ) (ms : List PortMem) → list_any (spec.is_named x) ms ≡ false → All (λ m. m.name ≢ x) ms
none_named x ms h = λ k d l e.
    let m = get_or ms k d in
    true≢false (sym (list_any-from_Any (spec.is_named x) ms (k, m, l, get_or_default ms k m d l, same_bytes m.name x e)) ∙ h)

named_none : (x : List ℕ) (ms : List PortMem) → All (λ m. m.name ≢ x) ms → list_any (spec.is_named x) ms ≡ false
named_none x ms h = list_any_none (spec.is_named x) ms (λ k d l. false_from_ne_true _ (λ e. h k d l (bytes_same _ x e)))

-- where all have other names none is found
unnamed_clash : (x : List ℕ) (ms : List PortMem) → list_any (spec.is_named x) ms ≡ true → All (λ m. m.name ≢ x) ms → ⊥
unnamed_clash x ms h a = true≢false (sym h ∙ named_none x ms a)

depth_is : (b d : ℕ) → spec.has_depth b d ≡ true → (d ≡ 2 ^ b) ⊎ (d ≡ 2 * 2 ^ b)
depth_is b d h = go (or_cases (eqb d (2 ^ b)) (eqb d (2 * 2 ^ b)) h)
  where
    go : (eqb d (2 ^ b) ≡ true) ⊎ (eqb d (2 * 2 ^ b) ≡ true) → (d ≡ 2 ^ b) ⊎ (d ≡ 2 * 2 ^ b)
    go (inl e) = inl (eqb-true d (2 ^ b) e)
    go (inr e) = inr (eqb-true d (2 * 2 ^ b) e)

is_depth : (b d : ℕ) → (d ≡ 2 ^ b) ⊎ (d ≡ 2 * 2 ^ b) → spec.has_depth b d ≡ true
is_depth b d (inl e) = or_left _ _ (eq-eqb d (2 ^ b) e)
is_depth b d (inr e) = or_right _ _ (eq-eqb d (2 * 2 ^ b) e)

-- what the test of a locked memory says where it has the array's name
lock_is : (a : Array) (m : PortMem)
    → spec.fits_lock a m ≡ true → m.name ≡ a.name
    → (a.width ≡ m.width) × ((a.depth ≡ 2 ^ m.bits) ⊎ (a.depth ≡ 2 * 2 ^ m.bits))
lock_is a m h e =
    let k : eqb a.width m.width && spec.has_depth m.bits a.depth ≡ true =
    ap (λ b. cond b (eqb a.width m.width && spec.has_depth m.bits a.depth) true) (sym (same_bytes m.name a.name e)) ∙ h in
    let p = and_parts (eqb a.width m.width) (spec.has_depth m.bits a.depth) k in
    (eqb-true a.width m.width p.0, depth_is m.bits a.depth p.1)

is_lock : (a : Array) (m : PortMem)
    → (m.name ≡ a.name → a.width ≡ m.width) → (m.name ≡ a.name → (a.depth ≡ 2 ^ m.bits) ⊎ (a.depth ≡ 2 * 2 ^ m.bits))
    → spec.fits_lock a m ≡ true
is_lock a m w d = cond_both (bytes_eq m.name a.name) (eqb a.width m.width && spec.has_depth m.bits a.depth) true (λ b. b ≡ true)
    (λ e. let n = bytes_same m.name a.name e in and_from _ _ (eq-eqb a.width m.width (w n)) (is_depth m.bits a.depth (d n))) (λ e. refl)

unlocked_is : (a : Array) (locked : List PortMem)
    → (list_any (spec.is_named a.name) locked || leb a.depth 65536) ≡ true
    → All (λ m. m.name ≢ a.name) locked → a.depth ≤ 65536
unlocked_is a locked h none = go (or_cases (list_any (spec.is_named a.name) locked) (leb a.depth 65536) h)
  where
    go : (list_any (spec.is_named a.name) locked ≡ true) ⊎ (leb a.depth 65536 ≡ true) → a.depth ≤ 65536
    go (inl e) = absurd (unnamed_clash a.name locked e none)
    go (inr e) = leb-true a.depth 65536 e

is_unlocked : (a : Array) (locked : List PortMem)
    → (All (λ m. m.name ≢ a.name) locked → a.depth ≤ 65536)
    → (list_any (spec.is_named a.name) locked || leb a.depth 65536) ≡ true
is_unlocked a locked h = go (list_any (spec.is_named a.name) locked) refl
  where
    go : (b : Bool) → list_any (spec.is_named a.name) locked ≡ b → (b || leb a.depth 65536) ≡ true
    go true e = refl
    go false e = le-leb a.depth 65536 (h (none_named a.name locked e))

array_is : (delayed locked : List PortMem) (a : Array) → spec.is_array delayed locked a ≡ true → IsPipeArray delayed locked a
array_is delayed locked a h =
    let p = and_parts (not (list_any (spec.is_named a.name) delayed)) _ h in
    let q = and_parts (list_all (spec.fits_lock a) locked) _ p.1 in
    record {
      inside = none_named a.name delayed (not-true _ p.0);
      width = λ k d l e. (lock_is a (get_or locked k d) (AllPass-from_list_all (spec.fits_lock a) locked q.0 k d l) e).0;
      depth = λ k d l e. (lock_is a (get_or locked k d) (AllPass-from_list_all (spec.fits_lock a) locked q.0 k d l) e).1;
      unlocked = unlocked_is a locked q.1;
    }

is_array : (delayed locked : List PortMem) (a : Array) → IsPipeArray delayed locked a → spec.is_array delayed locked a ≡ true
is_array delayed locked a p =
    and_from _ _ (not_from_false _ (named_none a.name delayed p.inside))
    (and_from _ _ (list_all-from_AllPass (spec.fits_lock a) locked (λ k d l. is_lock a (get_or locked k d) (p.width k d l) (p.depth k d l)))
    (is_unlocked a locked p.unlocked))

-- ---- what is kept

module _ {X : Type 0} (name : X → List ℕ) where
  abbrev has : List ℕ → X → Bool
  has x y = bytes_eq (name y) x

  found_name : (xs : List X) (x : List ℕ) → list_any (has x) xs ≡ true → Contains (map name xs) x
  found_name xs x h =
      let a = Any-from_list_any (has x) xs h in
      let n = length-map xs name in
      (a.0, omega (arith, n, a.2), get_or-map name xs a.0 a.1 x a.2 ∙ (ap name a.3 ∙ bytes_same (name a.1) x a.4))

  name_found : (d : X) (xs : List X) (x : List ℕ) → Contains (map name xs) x → list_any (has x) xs ≡ true
  name_found d xs x c =
      let n = length-map xs name in
      let l : c.0 < length xs = omega (arith, n, c.1) in
      let y = get_or xs c.0 d in
      let e : name y ≡ x = sym (get_or-map name xs c.0 d x l) ∙ c.2 in
      list_any-from_Any (has x) xs (c.0, y, l, get_or_default xs c.0 y d l, same_bytes (name y) x e)

abbrev no_mem : PortMem
no_mem = record { name = []; width = 0; bits = 0; twice = false }

kept_is : (delayed : List PortMem) (arrays : List Array) (m : PortMem) → spec.is_kept delayed arrays m ≡ true → IsKept delayed arrays m
kept_is delayed arrays m h = go (or_cases (list_any (spec.is_named m.name) delayed) (list_any (has (λ (a : Array). a.name) m.name) arrays) h)
  where
    go : (list_any (spec.is_named m.name) delayed ≡ true) ⊎ (list_any (has (λ (a : Array). a.name) m.name) arrays ≡ true) → IsKept delayed arrays m
    go (inl e) = inl (found_name (λ (d : PortMem). d.name) delayed m.name e)
    go (inr e) = inr (found_name (λ (a : Array). a.name) arrays m.name e)

is_kept : (delayed : List PortMem) (arrays : List Array) (m : PortMem) → IsKept delayed arrays m → spec.is_kept delayed arrays m ≡ true
is_kept delayed arrays m (inl c) = or_left _ _ (name_found (λ (d : PortMem). d.name) no_mem delayed m.name c)
is_kept delayed arrays m (inr c) = or_right _ _ (name_found (λ (a : Array). a.name) no_array arrays m.name c)

-- ---- what the ports don't tell

-- nothing that a pipe's ports and arrays say depends on whether a cycle may commit two writes of a delayed memory by its own ports
map_once : {X : Type 0} (f : PortMem → X) → ((m : PortMem) → f (once m) ≡ f m) → (ds : List PortMem) → map f (map once ds) ≡ map f ds
map_once f same [] = refl
map_once f same (d ∷ ds) = ap (λ z. z ∷ map f (map once ds)) (same d) ∙ ap (λ z. f d ∷ z) (map_once f same ds)

flat_once : (f : PortMem → List Head) → ((m : PortMem) → f (once m) ≡ f m) → (ds : List PortMem) → flat_map f (map once ds) ≡ flat_map f ds
flat_once f same [] = refl
flat_once f same (d ∷ ds) = ap (λ z. z ++ flat_map f (map once ds)) (same d) ∙ ap (λ z. f d ++ z) (flat_once f same ds)

ports_once : (s : ℕ) (d l : List PortMem) → pipe_ports s (map once d) l ≡ pipe_ports s d l
ports_once s d l =
    let stages = flat_map stage_ports (range_with_len 0 s) in
    let commits = flat_map commit_ports l in
    ap₂ (λ a r. (((a ++ stages) ++ commits) ++ r) ++ spec.last_ports)
    (flat_once reply_ports (λ m. refl) d) (flat_once request_ports (λ m. refl) d)

-- a memory of a list from one of the same list
record IsOnce (ds : List PortMem) (d : PortMem) : Type 0 where
  old : PortMem
  among : Contains ds old
  same : once old ≡ d

once_from : (ds : List PortMem) (d : PortMem) → Contains (map once ds) d → IsOnce ds d
once_from ds d c =
    let n = length-map ds once in
    let l : c.0 < length ds = omega (arith, n, c.1) in
    let m = get_or ds c.0 d in
    record { old = m; among = (c.0, l, get_or_default ds c.0 m d l); same = sym (get_or-map once ds c.0 d d l) ∙ c.2 }

-- so a pipe's delayed memories may be taken to have no such cycle
once_pipe : (n : Netlist) → IsPipe n → IsPipe n
once_pipe n p = record {
  stages = p.stages;
  delayed = map once p.delayed;
  locked = p.locked;
  few = p.few;
  many = p.many;
  ports = p.ports ∙ sym (ports_once p.stages p.delayed p.locked);
  delayed_addresses =
      All-map IsAddress once p.delayed (λ k d l. let a = p.delayed_addresses k d l in record { low = a.low; high = a.high });
  locked_addresses = p.locked_addresses;
  agree = λ d l c k e.
      let o = once_from p.delayed d c in
      let P : PortMem → Type 0 = λ x. x.name ≡ l.name → HaveSameSizes x l in
      subst P o.same (λ f. p.agree o.old l o.among k f) e;
  arrays = λ k x h.
      let a = p.arrays k x h in
      record {
        inside = All-map (λ (m : PortMem). m.name ≢ (get_or n.arrays k x).name) once p.delayed a.inside;
        width = a.width;
        depth = a.depth;
        unlocked = a.unlocked;
      };
  kept =
      subst (λ ns. All (λ m. Contains ns m.name ⊎ Contains (map (λ a. a.name) n.arrays) m.name) p.locked)
      (sym (map_once (λ (m : PortMem). m.name) (λ m. refl) p.delayed)) p.kept;
  mems =
      p.mems
      ∙ ap (λ xs. xs ++ map (λ a. comb_info a (spec.find_named a.name p.locked)) n.arrays) (sym (map_once delayed_info (λ m. refl) p.delayed));
  count = p.count;
}

-- ---- all of it

-- a pipe has as many memories as it has delayed ones and arrays
pub length_mems : (d l : List PortMem) (arrays : List Array) → length (mems_of d l arrays) ≡ length d + length arrays
length_mems d l arrays =
    let info : Array → MemInfo = λ a. comb_info a (spec.find_named a.name l) in
    length-append (map delayed_info d) (map info arrays)
    ∙ (ap (λ k. k + length (map info arrays)) (length-map d delayed_info) ∙ ap (λ k. length d + k) (length-map arrays info))

passed : (n : Netlist) (s : Shape) → spec.is_pipe n s ≡ true → IsPipe (with_mems n (mems_of s.delayed s.locked n.arrays))
passed n s h =
    let p = and_parts (spec.has_counts s n.arrays) _ h in
    let q = and_parts (spec.has_ports (heads n.ports) s) (spec.has_mems s n.arrays) p.1 in
    let c = and_parts (leb 1 s.stages) _ p.0 in
    let e = and_parts (leb s.stages 64) (leb (length s.delayed + length n.arrays) 16) c.1 in
    let a = and_parts (list_all spec.has_address s.delayed) _ q.1 in
    let b = and_parts (list_all spec.has_address s.locked) _ a.1 in
    let g = and_parts (list_all (spec.all_agree s.locked) s.delayed) _ b.1 in
    let k = and_parts (list_all (spec.is_array s.delayed s.locked) n.arrays) (list_all (spec.is_kept s.delayed n.arrays) s.locked) g.1 in
    let few : length s.delayed + length n.arrays ≤ 16 = leb-true _ 16 e.1 in
    record {
      stages = s.stages;
      delayed = s.delayed;
      locked = s.locked;
      few = leb-true 1 s.stages c.0;
      many = leb-true s.stages 64 e.0;
      ports = over_is (pipe_ports s.stages s.delayed s.locked) (heads n.ports) q.0;
      delayed_addresses = all_to spec.has_address IsAddress address_is s.delayed a.0;
      locked_addresses = all_to spec.has_address IsAddress address_is s.locked b.0;
      agree = agree_is s.delayed s.locked g.0;
      arrays = all_to (spec.is_array s.delayed s.locked) (IsPipeArray s.delayed s.locked) (array_is s.delayed s.locked) n.arrays k.0;
      kept = all_to (spec.is_kept s.delayed n.arrays) (IsKept s.delayed n.arrays) (kept_is s.delayed n.arrays) s.locked k.1;
      mems = refl;
      count = let i = length_mems s.delayed s.locked n.arrays in omega (arith, i, few);
    }

passes : (n : Netlist) (ms : List MemInfo) (p : IsPipe (with_mems n ms))
    → spec.is_pipe n (record { stages = p.stages; delayed = p.delayed; locked = p.locked }) ≡ true
passes n ms p =
    let i : length ms ≡ length p.delayed + length n.arrays = ap length p.mems ∙ length_mems p.delayed p.locked n.arrays in
    let few = p.count in
    and_from _ _ (and_from _ _ (le-leb 1 p.stages p.few) (and_from _ _ (le-leb p.stages 64 p.many) (le-leb _ 16 (omega (arith, i, few)))))
    (and_from _ _ (ap (λ hs. spec.is_over (after (pipe_ports p.stages p.delayed p.locked) hs)) p.ports ∙ over_self (pipe_ports p.stages p.delayed p.locked))
    (and_from _ _ (all_from spec.has_address IsAddress is_address p.delayed p.delayed_addresses)
    (and_from _ _ (all_from spec.has_address IsAddress is_address p.locked p.locked_addresses)
    (and_from _ _ (is_agree p.delayed p.locked p.agree)
    (and_from _ _ (all_from (spec.is_array p.delayed p.locked) (IsPipeArray p.delayed p.locked) (is_array p.delayed p.locked) n.arrays p.arrays)
    (all_from (spec.is_kept p.delayed n.arrays) (IsKept p.delayed n.arrays) (is_kept p.delayed n.arrays) p.locked p.kept))))))

-- a netlist is a pipe's with the memories that it is judged to have
pub is_pipe_of : (n : Netlist) (ms : List MemInfo) → judged n ≡ Some ms → IsPipe (with_mems n ms)
unfolding judged
is_pipe_of n ms h = go (spec.is_pipe n (told (heads n.ports))) refl h
  where
    go : (b : Bool) → spec.is_pipe n (told (heads n.ports)) ≡ b
        → cond b (Some (mems_of (told (heads n.ports)).delayed (told (heads n.ports)).locked n.arrays)) None ≡ Some ms
        → IsPipe (with_mems n ms)
    go true k e =
        let i : mems_of (told (heads n.ports)).delayed (told (heads n.ports)).locked n.arrays ≡ ms = cc in
        subst (λ x. IsPipe (with_mems n x)) i (passed n (told (heads n.ports)) k)
    go false k e = let i : true ≡ false = cc in absurd (true≢false i)

-- a netlist that is a pipe's is judged to have its memories
pub judged_of : (n : Netlist) (ms : List MemInfo) → IsPipe (with_mems n ms) → judged n ≡ Some ms
unfolding judged once_pipe
judged_of n ms p =
    let q = once_pipe (with_mems n ms) p in
    let s : Shape = record { stages = q.stages; delayed = q.delayed; locked = q.locked } in
    let e : told (heads n.ports) ≡ s = ap told p.ports ∙ told_of p.stages p.delayed p.locked in
    let Q : Shape → Type 0 = λ t. cond (spec.is_pipe n t) (Some (mems_of t.delayed t.locked n.arrays)) None ≡ Some ms in
    let k : Q s = ap (λ b. cond b (Some (mems_of q.delayed q.locked n.arrays)) None) (passes n ms q) ∙ ap Some (sym q.mems) in
    subst Q (sym e) k

pub ruleset both_ways = (is_pipe_of, judged_of)

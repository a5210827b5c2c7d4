-- The memories of a netlist that is well formed have different names, and words of 1 to widest bits, as an image of them wants.
use Rattle.std.proofs.Common.{◌≡◌, ◌≢◌, ℕ, suc, ◌<◌, ◌≤◌, Bool, true, false, cond, List, [], ◌∷◌, ◌++◌, length, map, get_or, append_assoc, flat_map, find, All, AllPairs, codes, bytes_eq, Some, Result, Ok, Err, IfOk, refl, sym, ap, ◌∙◌, subst, arith}
use Rattle.std.specs.List.{range_with_len}
use Rattle.std.proofs.lemmas.Option.{slice_get-get_or}
use Rattle.std.proofs.lemmas.List.{length-map, get_or_default}
use Rattle.std.proofs.lemmas.List.Elements.{All-append, All-cons, All-map, All-tail}
use Rattle.std.proofs.lemmas.List.Kept.{AllPairs-cons}
use Rattle.std.proofs.lemmas.Slice.Eq.{bytes_eq-Decides}
use Rattle.pdl_kit.specs.declared.mem_info.MemInfo.{MemInfo}
use Rattle.pdl_net.specs.declared.Port.{Port}
use Rattle.pdl_net.specs.declared.Array.{Array}
use Rattle.pdl_net.specs.declared.Netlist.{Netlist}
use Rattle.pdl_net.specs.Circuit.{no_array}
use Rattle.pdl_net.specs.Pipe.{Head, PortMem, input, output, head_of, reply_ports, stage_ports, commit_ports, request_ports, pipe_ports, delayed_info, comb_info, IsWellFormed}
use Rattle.pdl_vread.specs.declared.read.VError.{VError}
use Rattle.pdl_vread.specs.Reads.{Judges}
use Rattle.pdl_vread.proofs.ArrayNames.{get_mapped}
use Rattle.pdl_vread.proofs.WellFormed.{reads_well, read_well}
use Rattle.pdl_net.proofs.PipeMems.{told, told_names}
use Rattle.pdl_word.specs.Words.{widest}

-- 1 to widest bits
abbrev pub IsWide : ℕ → Type 0
IsWide w = (1 ≤ w) × (w ≤ widest)

-- two with different names
abbrev NamesDiffer : {A : Type 0} → (A → List ℕ) → List A → Type 0
NamesDiffer name xs = AllPairs (λ a b. name a ≢ name b) xs

names_differ : {A : Type 0} (name : A → List ℕ) (xs : List A) → AllPairs (λ a b. a ≢ b) (map name xs) → NamesDiffer name xs
names_differ name xs h = λ i j d l m q.
    let n = length-map xs name in
    h i j [] l (omega arith) (get_mapped name xs i [] d (omega arith) ∙ (q ∙ sym (get_mapped name xs j [] d m)))

pairs_append : {A : Type 0} (R : A → A → Type 0) (xs ys : List A) → AllPairs R xs → AllPairs R ys
    → All (λ x. All (R x) ys) xs → AllPairs R (xs ++ ys)
pairs_append R [] ys h k both = k
pairs_append R (x ∷ xs) ys h k both =
    let later : All (R x) xs = λ j d l. h 0 (suc j) d (omega arith) (omega arith) in
    let rest : AllPairs R xs = λ i j d l m. h (suc i) (suc j) d (omega arith) (omega arith) in
    AllPairs-cons R x (xs ++ ys) (All-append (R x) xs ys later (both 0 x (omega arith))) (pairs_append R xs ys rest k (All-tail (λ x. All (R x) ys) x xs both))

-- ---- delayed memories

abbrev no_head : Head
no_head = input [] 0

replies_named : (x : List ℕ) (ds : List PortMem) (rest : List Head)
    → All (λ (h : Head). codes "p_" ++ x ≢ h.name) (flat_map reply_ports ds ++ rest)
    → All (λ (e : PortMem). x ≢ e.name) ds
replies_named x [] rest h = λ k d l. absurd (omega arith)
replies_named x (e ∷ ds) rest h =
    let more = replies_named x ds rest (λ k d l. h (suc (suc k)) d (omega arith)) in
    All-cons (λ (e : PortMem). x ≢ e.name) e ds (λ q. h 0 no_head (omega arith) (ap (λ z. codes "p_" ++ z) q)) more

delayed_names : (ds : List PortMem) (rest : List Head)
    → NamesDiffer (λ (h : Head). h.name) (flat_map reply_ports ds ++ rest) → NamesDiffer (λ (m : PortMem). m.name) ds
delayed_names [] rest h = λ i j d l m. absurd (omega arith)
delayed_names (e ∷ ds) rest h =
    let one = replies_named e.name ds rest (λ k d l. h 0 (suc (suc k)) d (omega arith) (omega arith)) in
    let more = delayed_names ds rest (λ i j d l m. h (suc (suc i)) (suc (suc j)) d (omega arith) (omega arith)) in
    AllPairs-cons (λ (a b : PortMem). a.name ≢ b.name) e ds one more

delayed_wide : (ds : List PortMem) (rest : List Head)
    → All (λ (h : Head). IsWide h.width) (flat_map reply_ports ds ++ rest) → All (λ (m : PortMem). IsWide m.width) ds
delayed_wide [] rest h = λ k d l. absurd (omega arith)
delayed_wide (e ∷ ds) rest h =
    let more = delayed_wide ds rest (λ k d l. h (suc (suc k)) d (omega arith)) in
    All-cons (λ (m : PortMem). IsWide m.width) e ds (h 1 no_head (omega arith)) more

-- ---- the others

info_wide : (a : Array) (locked : List PortMem)
    → All (λ (m : PortMem). m.name ≡ a.name → a.width ≡ m.width) locked → IsWide a.width → IsWide (told locked a).width
info_wide a [] h w = w
info_wide a (m ∷ ms) h w = at_test (info_wide a ms (λ k d l. h (suc k) d (omega arith)) w) (bytes_eq m.name a.name) refl
  where
    at_test : IsWide (told ms a).width → (b : Bool) → bytes_eq m.name a.name ≡ b
        → IsWide (comb_info a (cond b (Some m) (find (λ m. bytes_eq m.name a.name) ms))).width
    at_test rest true e = subst IsWide (h 0 m (omega arith) ((bytes_eq-Decides m.name a.name).0 e)) w
    at_test rest false e = rest

-- ---- all memories

head_names : (ps : List Port) → map (λ (h : Head). h.name) (map head_of ps) ≡ map (λ p. p.name) ps
head_names [] = refl
head_names (p ∷ ps) = ap (λ z. p.name ∷ z) (head_names ps)

delayed_front : (ds : List PortMem) (xs : List MemInfo)
    → map (λ (m : MemInfo). m.name) (map delayed_info ds ++ xs) ≡ map (λ (m : PortMem). m.name) ds ++ map (λ (m : MemInfo). m.name) xs
delayed_front [] xs = refl
delayed_front (d ∷ ds) xs = ap (λ z. d.name ∷ z) (delayed_front ds xs)

module _ (n : Netlist) (h : IsWellFormed n) where
  abbrev delayed : List PortMem
  delayed = h.pipe.delayed

  abbrev locked : List PortMem
  locked = h.pipe.locked

  -- the ports after the replies
  abbrev later : List Head
  later =
      flat_map stage_ports (range_with_len 0 h.pipe.stages)
      ++ (flat_map commit_ports locked ++ (flat_map request_ports delayed ++ (output (codes "ended") 1 ∷ output (codes "squash") 1 ∷ [])))

  abbrev ports : List Head
  ports = pipe_ports h.pipe.stages delayed locked

  ports_split : ports ≡ flat_map reply_ports delayed ++ later
  ports_split = simp append_assoc

  ports_differ : NamesDiffer (λ (p : Head). p.name) ports
  ports_differ =
      let e : map (λ (p : Head). p.name) ports ≡ map (λ p. p.name) n.ports = ap (map (λ (p : Head). p.name)) (sym h.pipe.ports) ∙ head_names n.ports in
      names_differ (λ (p : Head). p.name) ports (subst (AllPairs (λ (a b : List ℕ). a ≢ b)) (sym e) h.port_names)

  ports_wide : All (λ (p : Head). IsWide p.width) ports
  ports_wide = subst (All (λ (p : Head). IsWide p.width)) h.pipe.ports (All-map (λ (p : Head). IsWide p.width) head_of n.ports each)
    where
      each : All (λ (p : Port). IsWide p.width) n.ports
      each = λ k d l. let w = h.well.ports k (get_or n.ports k d) (slice_get-get_or n.ports k d l) in (w.low, w.high)

  -- no delayed memory has an array
  none_shared : All (λ x. All (λ y. x ≢ y) (map (λ (a : Array). a.name) n.arrays)) (map (λ (m : PortMem). m.name) delayed)
  none_shared = λ i d l j e m q.
      let o = length-map delayed (λ (m : PortMem). m.name) in
      let p = length-map n.arrays (λ (a : Array). a.name) in
      let mem : PortMem = record { name = []; width = 0; bits = 0; twice = false } in
      let a : i < length delayed = omega arith in
      let b : j < length n.arrays = omega arith in
      (h.pipe.arrays j no_array b).inside i mem a
      (sym (get_mapped (λ (m : PortMem). m.name) delayed i d mem a) ∙ (q ∙ get_mapped (λ (a : Array). a.name) n.arrays j e no_array b))

  -- the names of the netlist's memories differ
  pub mems_differ : AllPairs (λ a b. a.name ≢ b.name) n.mems
  mems_differ =
      let front = delayed_names delayed later (subst (NamesDiffer (λ (p : Head). p.name)) ports_split ports_differ) in
      let fronts : AllPairs (λ a b. a ≢ b) (map (λ (m : PortMem). m.name) delayed) = λ i j d l m q.
      let o = length-map delayed (λ (m : PortMem). m.name) in
      let mem : PortMem = record { name = []; width = 0; bits = 0; twice = false } in
      let a : i < length delayed = omega arith in
      let b : j < length delayed = omega arith in
      front i j mem l b (sym (get_mapped (λ (m : PortMem). m.name) delayed i d mem a) ∙ (q ∙ get_mapped (λ (m : PortMem). m.name) delayed j d mem b)) in
      let apart = pairs_append (λ a b. a ≢ b) (map (λ (m : PortMem). m.name) delayed) (map (λ (a : Array). a.name) n.arrays) fronts h.array_names none_shared in
      let e : map (λ (m : MemInfo). m.name) n.mems ≡ map (λ (m : PortMem). m.name) delayed ++ map (λ (a : Array). a.name) n.arrays =
      ap (map (λ (m : MemInfo). m.name)) h.pipe.mems
      ∙ (delayed_front delayed (map (told locked) n.arrays) ∙ ap (λ z. map (λ (m : PortMem). m.name) delayed ++ z) (told_names locked n.arrays)) in
      names_differ (λ (m : MemInfo). m.name) n.mems (subst (AllPairs (λ (a b : List ℕ). a ≢ b)) (sym e) apart)

  -- the words of the netlist's memories have 1 to widest bits
  pub mems_wide : All (λ (m : MemInfo). IsWide m.width) n.mems
  mems_wide =
      let front = delayed_wide delayed later (subst (All (λ (p : Head). IsWide p.width)) ports_split ports_wide) in
      let back : All (λ (a : Array). IsWide (told locked a).width) n.arrays = λ k d l.
      let w = h.well.arrays k l in
      let p = h.pipe.arrays k no_array l in
      info_wide_at k d l (info_wide (get_or n.arrays k no_array) locked p.width (w.low, w.high)) in
      subst (All (λ (m : MemInfo). IsWide m.width)) (sym h.pipe.mems)
      (All-append (λ (m : MemInfo). IsWide m.width) (map delayed_info delayed) (map (told locked) n.arrays)
      (All-map (λ (m : MemInfo). IsWide m.width) delayed_info delayed front)
      (All-map (λ (m : MemInfo). IsWide m.width) (told locked) n.arrays back))
    where
      info_wide_at : (k : ℕ) (d : Array) → k < length n.arrays → IsWide (told locked (get_or n.arrays k no_array)).width
          → IsWide (told locked (get_or n.arrays k d)).width
      info_wide_at k d l w = subst (λ a. IsWide (told locked a).width) (get_or_default n.arrays k no_array d l) w

-- ---- of what is read

-- the memories of a netlist that the reader answers have different names
pub read_names : (bytes : List ℕ) (r : Result Netlist VError) → Judges bytes r → IfOk r (λ n. AllPairs (λ a b. a.name ≢ b.name) n.mems)
read_names bytes (Ok n) h = mems_differ n (reads_well bytes n h)
read_names bytes (Err e) h = tt

-- the memories of a netlist that the reader answers have words of at least 1 bit
pub read_low : (bytes : List ℕ) (r : Result Netlist VError) → Judges bytes r → IfOk r (λ n. All (λ m. 1 ≤ m.width) n.mems)
read_low bytes (Ok n) h = λ k d l. (mems_wide n (reads_well bytes n h) k d l).0
read_low bytes (Err e) h = tt

-- the memories of a netlist that the reader answers have words of at most widest bits
pub read_high : (bytes : List ℕ) (r : Result Netlist VError) → Judges bytes r → IfOk r (λ n. All (λ m. m.width ≤ widest) n.mems)
read_high bytes (Ok n) h = λ k d l. (mems_wide n (reads_well bytes n h) k d l).1
read_high bytes (Err e) h = tt

-- what holds of a netlist that is read
pub ruleset well_read = (read_well, read_names, read_low, read_high)

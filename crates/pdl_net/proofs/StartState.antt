-- The state at the start.
use Rattle.std.proofs.Common.{◌≡◌, ℕ, zero, suc, ◌+◌, ◌-◌, ◌*◌, ◌^◌, ◌<◌, ◌≤◌, ◌⊎◌, ⊎_elim, Bool, true, false, cond, if◌then◌else◌, List, [], ◌∷◌, ◌++◌, length, map, filter, filter_map, flat_map, find, replicate, drop, get_or, All, Option, Some, None, bytes_eq, refl, sym, ap, ◌∙◌, subst, arith, length-append, append-nil}
use Rattle.std.specs.List.{cons_option, range_with_len}
use Rattle.std.proofs.lemmas.List.{get_or-map, length-map, length-replicate, get_or_append_left, get_or-append_right, get_or-drop, length-drop}
use Rattle.std.proofs.lemmas.List.Elements.{filter_map-append}
use Rattle.std.proofs.lemmas.Bool.{cases_lt}
use Rattle.std.proofs.lemmas.Slice.Eq.{bytes_eq-Decides}
use Rattle.pdl_kit.specs.declared.mem_info.MemInfo.{MemInfo}
use Rattle.pdl_net.specs.declared.Dir.{Dir}
use Rattle.pdl_net.specs.declared.Dir.TheVariants.{In, Out}
use Rattle.pdl_net.specs.declared.Port.{Port}
use Rattle.pdl_net.specs.declared.Reg.{Reg}
use Rattle.pdl_net.specs.declared.Array.{Array}
use Rattle.pdl_net.specs.declared.Netlist.{Netlist}
use Rattle.pdl_net.specs.Circuit.{circuit_of, inputs_of, input_with, port_input, no_reg, array_at, no_array}
use Rattle.pdl_net.specs.Well.{IsWell}
use Rattle.pdl_net.specs.Run.{delayed_mems, filled_words, loaded_arrays, no_mem}
use Rattle.pdl_net.specs.Pipe.{Head, head_of, is_input, PortMem, reply_ports, reply_widths, stage_ports, first_ports, second_ports, commit_ports, request_ports, comb_info, delayed_info, IsPipe, IsWellFormed}
use Rattle.pdl_word.proofs.Lists.{zeros_at}
use Rattle.pdl_net.proofs.PipeMems.{none_delayed, delayed_told}
use Rattle.pdl_net.specs.Holds.{Holds, ImageFits}

-- the memory that an array and the locked memories tell has the array's width and at most its depth
pub record IsHeld (a : Array) (m : MemInfo) : Type 0 where
  pub width : a.width ≡ m.width
  pub depth : m.depth ≤ a.depth

held_in : (a : Array) (m : PortMem)
    → a.width ≡ m.width → (a.depth ≡ 2 ^ m.bits) ⊎ (a.depth ≡ 2 * 2 ^ m.bits) → IsHeld a (comb_info a (Some m))
held_in a m w d = record {
  width = w;
  depth = ⊎_elim (λ (e : a.depth ≡ 2 ^ m.bits). omega (arith, e)) (λ (e : a.depth ≡ 2 * 2 ^ m.bits). omega (arith, e)) d;
}

-- an array whose width and depth its locked memory has holds that memory
pub held_found : (a : Array) (ls : List PortMem)
    → All (λ m. m.name ≡ a.name → a.width ≡ m.width) ls
    → All (λ m. m.name ≡ a.name → (a.depth ≡ 2 ^ m.bits) ⊎ (a.depth ≡ 2 * 2 ^ m.bits)) ls
    → IsHeld a (comb_info a (find (λ m. bytes_eq m.name a.name) ls))
held_found a [] w d = record { width = refl; depth = omega arith }
held_found a (l ∷ ls) w d =
    let rest = held_found a ls (λ k x h. w (suc k) x (omega arith)) (λ k x h. d (suc k) x (omega arith)) in
    let same = (bytes_eq-Decides l.name a.name).0 in
    let P : Bool → Type 0 = λ t. (t ≡ true → l.name ≡ a.name) → IsHeld a (comb_info a (cond t (Some l) (find (λ m. bytes_eq m.name a.name) ls))) in
    (elim
    (bytes_eq l.name a.name) as P [
      | true ↦
          (λ f. held_in a l (w zero l (omega arith) (f refl)) (d zero l (omega arith) (f refl)))
      | false ↦
          (λ f. rest)
    ]) same

-- the memories of arrays stand after the delayed ones, and an array holds its own
mem_held : (n : Netlist) (p : IsPipe n)
    → (length n.mems ≡ length p.delayed + length n.arrays)
    × ((m : ℕ) → m < length n.arrays → IsHeld (array_at (circuit_of n) m) (get_or n.mems (length p.delayed + m) no_mem))
mem_held n p =
    let info = λ (a : Array). comb_info a (find (λ l. bytes_eq l.name a.name) p.locked) in
    let front = map delayed_info p.delayed in
    let many : length front ≡ length p.delayed = simp length-map in
    let last : length (map info n.arrays) ≡ length n.arrays = simp length-map in
    let all = length-append front (map info n.arrays) in
    let count = ap length p.mems in (
      omega (arith, many, last, all, count),
      λ m h.
          let a = array_at (circuit_of n) m in
          let f = p.arrays m no_array h in
          let P : MemInfo → Type 0 = λ x. IsHeld a x in
          let after : length p.delayed + m - length p.delayed ≡ m = omega arith in
          subst P
          (sym
          (ap (λ l. get_or l (length p.delayed + m) no_mem) p.mems
          ∙ get_or-append_right front (map info n.arrays) (length p.delayed) (length p.delayed + m) no_mem many (omega arith)
          ∙ ap (λ i. get_or (map info n.arrays) i no_mem) after ∙ get_or-map info n.arrays m no_array no_mem h))
          (held_found a p.locked f.width f.depth),
    )

-- words for each memory, as many as it has and of its width: those after the delayed memories' fit the arrays
pub image_part_fits : (n : Netlist) (image : List (List ℕ)) → IsWellFormed n
    → length image ≡ length n.mems
    → ((m : ℕ) (d : MemInfo) → m < length n.mems → length (get_or image m []) ≡ (get_or n.mems m d).depth)
    → ((m : ℕ) (d : MemInfo) → m < length n.mems → (a : ℕ) → get_or (get_or image m []) a 0 < 2 ^ (get_or n.mems m d).width)
    → ImageFits (circuit_of n) (drop (length (delayed_mems n)) image)
image_part_fits n image w count depth width =
    let p = w.pipe in
    let h = mem_held n p in
    let k = length p.delayed in
    let told : k ≡ length (delayed_mems n) = sym (ap length (delayed_told n p) ∙ (simp length-map)) in
    let part : (m : ℕ) → get_or image (k + m) [] ≡ get_or (drop k image) m [] = λ m. sym (get_or-drop k image m []) in
    subst (λ j. ImageFits (circuit_of n) (drop j image)) told (record {
      count = let l = length-drop k image in let all = h.0 in omega (arith, l, all, count);
      depth = λ m l. let d = depth (k + m) no_mem (omega (arith, l, h.0)) in let f = (h.1 m l).depth in let e = ap length (part m) in omega (arith, d, f, e);
      words = λ m l a.
          let x = width (k + m) no_mem (omega (arith, l, h.0)) a in
          let P : ℕ → Type 0 = λ b. get_or (get_or (drop k image) m []) a 0 < 2 ^ b in
          subst P (sym ((h.1 m l).width)) (subst (λ (r : List ℕ). get_or r a 0 < 2 ^ (get_or n.mems (k + m) no_mem).width) (part m) x);
    })

-- no head among these is an input
head_input : Head → Option ℕ
head_input h = cond h.input (Some h.width) None

input_of_head : (p : Port) → port_input p ≡ head_input (head_of p)
unfolding head_input
input_of_head p = elim p.dir as (λ (d : Dir). input_with d p.width ≡ cond (is_input d) (Some p.width) None) [ In ↦ refl | Out x ↦ refl ]

inputs_of_heads : (ps : List Port) → filter_map port_input ps ≡ filter_map head_input (map head_of ps)
inputs_of_heads [] = refl
inputs_of_heads (p ∷ ps) = ap (λ o. cons_option o (filter_map port_input ps)) (input_of_head p) ∙ ap (cons_option (head_input (head_of p))) (inputs_of_heads ps)

stages_show : (ks : List ℕ) → filter_map head_input (flat_map stage_ports ks) ≡ []
unfolding head_input
stages_show [] = refl
stages_show (k ∷ ks) = stages_show ks

commits_show : (ms : List PortMem) → filter_map head_input (flat_map commit_ports ms) ≡ []
unfolding head_input
commits_show [] = refl
commits_show (m ∷ ms) =
    let rest = commits_show ms in
    let P : Bool → Type 0 = λ b. filter_map head_input ((first_ports m ++ (if b then second_ports m else [])) ++ flat_map commit_ports ms) ≡ [] in
    elim m.twice as P [ true ↦ rest | false ↦ rest ]

requests_show : (ms : List PortMem) → filter_map head_input (flat_map request_ports ms) ≡ []
unfolding head_input
requests_show [] = refl
requests_show (m ∷ ms) = requests_show ms

replies_show : (ms : List PortMem) → filter_map head_input (flat_map reply_ports ms) ≡ flat_map reply_widths ms
unfolding head_input
replies_show [] = refl
replies_show (m ∷ ms) = ap (λ l. 1 ∷ m.width ∷ l) (replies_show ms)

-- each delayed memory has an input of one bit and one for its words, and there is no other
pub inputs_told : (n : Netlist) (p : IsPipe n) → inputs_of (circuit_of n) ≡ flat_map reply_widths p.delayed
unfolding head_input
inputs_told n p =
    let replies = flat_map reply_ports p.delayed in
    let stages = flat_map stage_ports (range_with_len 0 p.stages) in
    let commits = flat_map commit_ports p.locked in
    let requests = flat_map request_ports p.delayed in
    inputs_of_heads n.ports
    ∙ ap (filter_map head_input) p.ports
    ∙ grind
    (arith, filter_map-append, append-nil, replies_show p.delayed, stages_show (range_with_len 0 p.stages), commits_show p.locked, requests_show p.delayed)

-- a netlist of a pipe without delayed memories has no inputs
pub no_inputs : (n : Netlist) → IsWellFormed n → delayed_mems n ≡ [] → inputs_of (circuit_of n) ≡ []
no_inputs n w e =
    let p = w.pipe in
    let none = none_delayed p.delayed p.locked n.arrays (ap (filter (λ m. m.delayed)) (sym p.mems) ∙ e) in
    inputs_told n p ∙ ap (flat_map reply_widths) none

-- each array with its part of the image
pub loaded_at : (rest : List Array) (image : List (List ℕ)) (m : ℕ)
    → m < length rest
    → get_or (loaded_arrays rest image) m [] ≡ filled_words (get_or rest m no_array).depth (get_or image m [])
loaded_at [] image m h = absurd (omega arith)
loaded_at (a ∷ rest) image zero h = refl
loaded_at (a ∷ rest) image (suc m) h =
    let e : 1 + m ≡ suc m = omega arith in
    loaded_at rest (drop 1 image) m (omega arith) ∙ ap (filled_words (get_or rest m no_array).depth) (get_or-drop 1 image m [] ∙ ap (λ i. get_or image i []) e)

loaded_length : (rest : List Array) (image : List (List ℕ)) → length (loaded_arrays rest image) ≡ length rest
loaded_length [] image = refl
loaded_length (a ∷ rest) image = let e = loaded_length rest (drop 1 image) in omega (arith, e)

filled_length : (d : ℕ) (ws : List ℕ) → length ws ≤ d → length (filled_words d ws) ≡ d
filled_length d ws h = let e = length-append ws (replicate (d - length ws) 0) in let f = length-replicate {A = ℕ} (d - length ws) 0 in omega (arith, e, f)

filled_below : (d w : ℕ) (ws : List ℕ) → ((a : ℕ) → get_or ws a 0 < 2 ^ w) → (a : ℕ) → get_or (filled_words d ws) a 0 < 2 ^ w
filled_below d w ws f a =
    let zs = replicate (d - length ws) 0 in
    let b = f a in
    ⊎_elim
    (λ (lt : a < length ws). let e = get_or_append_left ws zs 0 a lt in omega (arith, e, b))
    (λ (ge : length ws ≤ a). let e = get_or-append_right ws zs (length ws) a 0 refl ge in
    let z : get_or zs (a - length ws) 0 ≡ 0 = zeros_at (d - length ws) (a - length ws) in omega (arith, e, z, b))
    (cases_lt a (length ws))

-- registers at reset, and arrays with an image that fits, have values that fit a well formed circuit
pub holds_start : (n : Netlist) (image : List (List ℕ)) (regs : List ℕ) (arrays : List (List ℕ)) → IsWell (circuit_of n)
    → ImageFits (circuit_of n) image → regs ≡ map (λ r. r.reset) n.regs → arrays ≡ loaded_arrays n.arrays image
    → Holds (circuit_of n) regs arrays
holds_start n image regs arrays w i e f =
    let c = circuit_of n in
    record {
      reg_count = ap length e ∙ (simp length-map);
      each = λ r h.
          let v = ap (λ xs. get_or xs r 0) e ∙ get_or-map (λ (x : Reg). x.reset) c.regs r no_reg 0 h in
          omega (arith, v, (w.regs r h).reset);
      array_count = ap length f ∙ loaded_length n.arrays image;
      depth =
          λ m h. ap (λ l. length (get_or l m [])) f ∙ ap length (loaded_at n.arrays image m h)
          ∙ filled_length (array_at c m).depth (get_or image m []) (i.depth m h);
      words = λ m h a.
          let v = ap (λ l. get_or (get_or l m []) a 0) f ∙ ap (λ l. get_or l a 0) (loaded_at n.arrays image m h) in
          let b = filled_below (array_at c m).depth (array_at c m).width (get_or image m []) (i.words m h) a in
          omega (arith, v, b);
    }

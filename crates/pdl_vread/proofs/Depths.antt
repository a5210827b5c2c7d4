-- What V3 and V5 say of the arrays of a file.
use Rattle.std.proofs.Common.{◌≡◌, ℕ, zero, suc, ◌+◌, ◌^◌, ◌<◌, ◌≤◌, Bool, true, false, cond, ◌&&◌, leb, List, [], ◌∷◌, ◌++◌, length, map, get_or, Option, Some, None, All, refl, ap, ◌∙◌, arith}
use Rattle.std.specs.Int.{is_power_of_two}
use Rattle.std.proofs.lemmas.Bool.{and_parts, leb-true}
use Rattle.pdl_kit.specs.declared.mem_info.MemInfo.{MemInfo}
use Rattle.pdl_net.specs.Pipe.{IsPipe}
use Rattle.pdl_vread_text.specs.declared.file.File.{File}
use Rattle.pdl_vread_text.specs.declared.file.ArrayDecl.{ArrayDecl}
use Rattle.pdl_vread_nets.specs.declared.wiring.ArrayWrite.{ArrayWrite}
use Rattle.pdl_vread_nets.specs.declared.wiring.Wiring.{Wiring}
use Rattle.pdl_vread_rules.specs.RuleQuestions.{Asked, first_wrong, both}
use Rattle.pdl_vread_rules.specs.Widths.{asked_port, asked_reg, asked_array, asked_cell, asked_output, asked_block, asked_writes, declared_questions, driven_questions, widths_of, width_line, bits, is_width, is_depth}
use Rattle.pdl_vread_pipe.specs.ToldParts.{with_mems}
use Rattle.pdl_vread_pipe.proofs.Pipes.{length_mems}
use Rattle.pdl_vread.specs.Built.{built, arrays}

-- where nothing is wrong from a place on, that place is right and nothing after it is wrong
pub right_both : (b : Bool) (o : Option ℕ) (n : ℕ) → cond b o (Some n) ≡ None → (b ≡ true) × (o ≡ None)
right_both true o n h = (refl, h)
right_both false o n h = absurd (cc)

-- where all are right, so are the first and the others
pub right_parts : (xs ys : List Asked) → first_wrong (xs ++ ys) ≡ None → (first_wrong xs ≡ None) × (first_wrong ys ≡ None)
right_parts [] ys h = (refl, h)
right_parts (a ∷ xs) ys h =
    let k = right_both a.right (first_wrong (xs ++ ys)) a.line h in
    let i = right_parts xs ys k.1 in
    (ap (λ b. cond b (first_wrong xs) (Some a.line)) k.0 ∙ i.0, i.1)

-- the depth of a declared array is below 2^32
abbrev pub IsReached : ArrayDecl → Type 0
IsReached a = a.last + 1 < 2 ^ 32

all_reached : (xs : List ArrayDecl) → first_wrong (map asked_array xs) ≡ None → All IsReached xs
all_reached [] h = λ k d l. absurd (omega arith)
all_reached (a ∷ rest) h =
    let k = right_both (is_width (bits a.high) && is_depth (a.last + 1)) (first_wrong (map asked_array rest)) a.line h in
    let i = all_reached rest k.1 in
    let p = and_parts (is_width (bits a.high)) (is_depth (a.last + 1)) k.0 in
    let q = and_parts (leb 2 (a.last + 1)) _ p.1 in
    let r = and_parts (leb (a.last + 1) 131072) (is_power_of_two (a.last + 1)) q.1 in
    let s : a.last + 1 ≤ 131072 = leb-true (a.last + 1) 131072 r.0 in
    here s i
  where
    here : a.last + 1 ≤ 131072 → All IsReached rest → All IsReached (a ∷ rest)
    here s i = λ k. elim k as (λ n. (d : ArrayDecl) → n < length (a ∷ rest) → IsReached (get_or (a ∷ rest) n d)) [
      | zero ↦ λ d l. omega arith
      | suc n ↦ λ d l. i n d (omega arith)
    ]

-- what V3 asks, part by part
pub record WidthParts (f : File) (w : Wiring) : Type 0 where
  pub ports : first_wrong (map asked_port f.ports) ≡ None
  pub regs : first_wrong (map asked_reg f.regs) ≡ None
  pub arrays : first_wrong (map asked_array f.arrays) ≡ None
  pub cells : first_wrong (both (asked_cell (widths_of f)) f.cells w.cells) ≡ None
  pub outputs : first_wrong (both (asked_output (widths_of f)) f.outputs w.outputs) ≡ None
  pub blocks : first_wrong (both (asked_block (widths_of f)) f.reg_blocks w.regs) ≡ None
  pub writes : first_wrong (asked_writes (widths_of f) f.array_blocks w.blocks) ≡ None

-- a file in which V3 finds nothing wrong keeps it in each of its parts
pub width_parts : (f : File) (w : Wiring) → width_line f w ≡ None → WidthParts f w
unfolding width_line
width_parts f w h =
    let ps = map asked_port f.ports in
    let rs = map asked_reg f.regs in
    let qs = map asked_array f.arrays in
    let cs = both (asked_cell (widths_of f)) f.cells w.cells in
    let os = both (asked_output (widths_of f)) f.outputs w.outputs in
    let bs = both (asked_block (widths_of f)) f.reg_blocks w.regs in
    let ws = asked_writes (widths_of f) f.array_blocks w.blocks in
    let a = right_parts (declared_questions f) (driven_questions f (widths_of f) w) h in
    let b = right_parts ps (rs ++ qs) (right_both _ (first_wrong (ps ++ (rs ++ qs))) f.reset_line a.0).1 in
    let c = right_parts rs qs b.1 in
    let d = right_parts cs (os ++ (bs ++ ws)) a.1 in
    let e = right_parts os (bs ++ ws) d.1 in
    let g = right_parts bs ws e.1 in
    record { ports = b.0; regs = c.0; arrays = c.1; cells = d.0; outputs = e.0; blocks = g.0; writes = g.1 }

-- where V3 is kept each depth is a number of 32 bits
pub reached : (f : File) (w : Wiring) → width_line f w ≡ None → All IsReached f.arrays
reached f w h = all_reached f.arrays (width_parts f w h).arrays

-- as many arrays are built as are declared
pub length_arrays : (blocks : List (List ArrayWrite)) (m : ℕ) (decls : List ArrayDecl) → length (arrays blocks m decls) ≡ length decls
length_arrays blocks m [] = refl
length_arrays blocks m (a ∷ rest) = ap suc (length_arrays blocks (suc m) rest)

-- a pipe has at most 16 arrays
pub many_arrays : (f : File) (w : Wiring) → 16 < length f.arrays → (ms : List MemInfo) → IsPipe (with_mems (built f w) ms) → ⊥
unfolding built
many_arrays f w h ms p =
    let i : length ms ≡ length p.delayed + length (arrays w.blocks 0 f.arrays) =
    ap length p.mems ∙ length_mems p.delayed p.locked (arrays w.blocks 0 f.arrays) in
    let j = length_arrays w.blocks 0 f.arrays in
    let k : length ms ≤ 16 = p.count in
    omega (arith, i, j, k)

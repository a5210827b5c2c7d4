-- What V2 to V4 say of outputs, registers and arrays, one after another.
use Rattle.std.proofs.Common.{◌≡◌, ◌≢◌, ℕ, zero, suc, ◌<◌, Bool, true, false, cond, List, [], ◌∷◌, ◌++◌, length, map, take, get_or, append-nil, append_assoc, bytes_eq, Option, Some, None, is_some, Result, Ok, Err, refl, sym, ap, ◌∙◌, subst, arith}
use Rattle.std.specs.List.{AllPairs}
use Rattle.std.proofs.lemmas.Bool.{eqb-true}
use Rattle.std.proofs.lemmas.List.{length-take, get_or-take}
use Rattle.std.proofs.lemmas.Slice.Eq.{bytes_eq-Decides}
use Rattle.pdl_net.specs.declared.Cell.{Cell}
use Rattle.pdl_vread_text.specs.declared.file.File.{File}
use Rattle.pdl_vread_text.specs.declared.file.ArrayBlock.{ArrayBlock}
use Rattle.pdl_vread_text.specs.declared.file.WriteDecl.{WriteDecl}
use Rattle.pdl_vread_nets.specs.declared.wiring.OutputDrive.{OutputDrive}
use Rattle.pdl_vread_nets.specs.declared.wiring.RegDrive.{RegDrive}
use Rattle.pdl_vread_nets.specs.declared.wiring.ArrayWrite.{ArrayWrite}
use Rattle.pdl_vread_nets.specs.declared.wiring.Wiring.{Wiring}
use Rattle.pdl_vread_nets.specs.Wired.{place, shifted, each, onto_block, cells_from, all_outputs, all_regs, wired_write, writes_of, blocks_of, with_parts, wiring}
use Rattle.pdl_vread_rules.specs.RuleQuestions.{Asked, first_wrong, both}
use Rattle.pdl_vread_rules.specs.Widths.{asked_write, asked_writes, widths_of}
use Rattle.pdl_vread_rules.specs.Once.{owner, in_turn, port_once, reg_once, array_once, cell_once, write_once, blocks_once, once_line}
use Rattle.pdl_vread.proofs.Depths.{right_both, right_parts}
use Rattle.pdl_vread.proofs.CellWidths.{onto_inv}
use Rattle.pdl_word.specs.Each.{Each}

-- ---- each element

-- each that is found and asked is right
pub each_right : {A B : Type 0} (find : A → Option B) (line : A → ℕ) (ask : A → B → Asked) (P : B → Type 0)
    → ((a : A) (b : B) → find a ≡ Some b → (ask a b).right ≡ true → P b) → (xs : List A) (ys : List B)
    → each find line xs ≡ Ok ys → first_wrong (both ask xs ys) ≡ None → Each P ys
each_right find line ask P step [] ys e r = let i : [] ≡ ys = cc in subst (Each P) i tt
each_right find line ask P step (a ∷ xs) ys e r =
    let o = onto_inv (find a) (line a) (each find line xs) ys e in
    let s : first_wrong (both ask (a ∷ xs) (o.0 ∷ o.1)) ≡ None = subst (λ z. first_wrong (both ask (a ∷ xs) z) ≡ None) (sym o.4) r in
    let u = right_both (ask a o.0).right (first_wrong (both ask xs o.1)) (ask a o.0).line s in
    subst (Each P) o.4 (step a o.0 o.2 u.0, each_right find line ask P step xs o.1 o.3 u.1)

-- ---- in turn

module _ {A : Type 0} (ask : List A → A → Asked) where
  turn_from : (before xs : List A) (i : ℕ) (d : A) → first_wrong (in_turn ask before xs) ≡ None → i < length xs
      → (ask (before ++ take i xs) (get_or xs i d)).right ≡ true
  turn_from before [] i d h l = absurd (omega arith)
  turn_from before (x ∷ xs) zero d h l =
      let u = right_both (ask before x).right (first_wrong (in_turn ask (before ++ x ∷ []) xs)) (ask before x).line h in
      ap (λ z. (ask z x).right) (append-nil before) ∙ u.0
  turn_from before (x ∷ xs) (suc i) d h l =
      let u = right_both (ask before x).right (first_wrong (in_turn ask (before ++ x ∷ []) xs)) (ask before x).line h in
      ap (λ z. (ask z (get_or xs i d)).right) (sym (append_assoc before (x ∷ []) (take i xs))) ∙ turn_from (before ++ x ∷ []) xs i d u.1 (omega arith)

  -- where nothing that is asked in turn is wrong, what is asked of the i-th element by those before it is right
  pub turn_at : (xs : List A) (i : ℕ) (d : A) → first_wrong (in_turn ask [] xs) ≡ None → i < length xs → (ask (take i xs) (get_or xs i d)).right ≡ true
  turn_at xs i d h l = turn_from [] xs i d h l

place_none : (ns : List (List ℕ)) (x : List ℕ) (i : ℕ) (d : List ℕ) → is_some (place ns x) ≡ false → i < length ns → get_or ns i d ≢ x
place_none [] x i d h l = absurd (omega arith)
place_none (y ∷ ys) x i d h l = go (λ j k m. place_none ys x j d k m) (bytes_eq x y) refl (place ys x) refl h i l
  where
    tail : (o : Option ℕ) → is_some (shifted o) ≡ false → is_some o ≡ false
    tail None e = refl
    tail (Some j) e = absurd (cc)

    go : ((j : ℕ) → is_some (place ys x) ≡ false → j < length ys → get_or ys j d ≢ x) → (b : Bool) → bytes_eq x y ≡ b
        → (o : Option ℕ) → place ys x ≡ o → is_some (cond b (Some 0) (shifted o)) ≡ false → (i : ℕ)
        → i < suc (length ys) → get_or (y ∷ ys) i d ≢ x
    go more true q o p e i l = absurd (cc)
    go more false q o p e zero l = λ k. let s : bytes_eq x y ≡ true = (bytes_eq-Decides x y).1 (sym k) in absurd (cc)
    go more false q o p e (suc j) l = more j (ap is_some p ∙ tail o e) (omega arith)

-- each name is new among those before it
pub new_apart : (ns : List (List ℕ))
    → ((j : ℕ) (d : List ℕ) → j < length ns → is_some (place (take j ns) (get_or ns j d)) ≡ false)
    → AllPairs (λ a b. a ≢ b) ns
new_apart ns h = λ i j d k l.
    let n = length-take j ns in
    let e : get_or (take j ns) i d ≡ get_or ns i d = get_or-take j ns i d k in
    λ q. place_none (take j ns) (get_or ns j d) i d (h j d l) (omega arith) (e ∙ q)

-- ---- the parts of what the rules ask

-- where nothing that is asked of a list is wrong, what is asked of its i-th element is right
pub map_right : {A : Type 0} (ask : A → Asked) (xs : List A)
    → first_wrong (map ask xs) ≡ None → (i : ℕ) (d : A) → i < length xs → (ask (get_or xs i d)).right ≡ true
map_right ask [] h i d l = absurd (omega arith)
map_right ask (x ∷ xs) h zero d l = (right_both (ask x).right (first_wrong (map ask xs)) (ask x).line h).0
map_right ask (x ∷ xs) h (suc i) d l = map_right ask xs (right_both (ask x).right (first_wrong (map ask xs)) (ask x).line h).1 i d (omega arith)

-- the cells, outputs, registers and blocks of a wiring are those that the file's names stand for
pub record WiringParts (f : File) (w : Wiring) : Type 0 where
  pub cells : cells_from f 0 f.cells ≡ Ok w.cells
  pub outputs : all_outputs f (length f.cells) f.outputs ≡ Ok w.outputs
  pub regs : all_regs f (length f.cells) f.reg_blocks ≡ Ok w.regs
  pub blocks : blocks_of f (length f.cells) f.array_blocks ≡ Ok w.blocks

-- the wiring of a file is that of its cells, of its outputs, of its registers and of its blocks
pub wiring_parts : (f : File) (w : Wiring) → wiring f ≡ Ok w → WiringParts f w
unfolding wiring
wiring_parts f w h =
    go (cells_from f 0 f.cells) (all_outputs f (length f.cells) f.outputs) (all_regs f (length f.cells) f.reg_blocks)
    (blocks_of f (length f.cells) f.array_blocks) refl refl refl refl h
  where
    go : (a : Result (List Cell) ℕ) (b : Result (List OutputDrive) ℕ) (d : Result (List RegDrive) ℕ) (e : Result (List (List ArrayWrite)) ℕ)
        → cells_from f 0 f.cells ≡ a → all_outputs f (length f.cells) f.outputs ≡ b
        → all_regs f (length f.cells) f.reg_blocks ≡ d → blocks_of f (length f.cells) f.array_blocks ≡ e → with_parts a b d e ≡ Ok w → WiringParts f w
    go (Ok cs) (Ok os) (Ok rs) (Ok bs) p q r s i =
        let v : Wiring = record { cells = cs; outputs = os; regs = rs; blocks = bs } in
        let k : v ≡ w = cc in
        record {
          cells = p ∙ ap (λ (z : Wiring). Ok z.cells) k;
          outputs = q ∙ ap (λ (z : Wiring). Ok z.outputs) k;
          regs = r ∙ ap (λ (z : Wiring). Ok z.regs) k;
          blocks = s ∙ ap (λ (z : Wiring). Ok z.blocks) k;
        }
    go (Err l) b d e p q r s i = absurd (cc)
    go (Ok cs) (Err l) d e p q r s i = absurd (cc)
    go (Ok cs) (Ok os) (Err l) e p q r s i = absurd (cc)
    go (Ok cs) (Ok os) (Ok rs) (Err l) p q r s i = absurd (cc)

-- V4 finds nothing wrong in the ports, the registers, the arrays and the blocks of a file
pub record OnceParts (f : File) (w : Wiring) : Type 0 where
  pub ports : first_wrong (in_turn (port_once w.outputs) [] f.ports) ≡ None
  pub regs : first_wrong (in_turn (reg_once w.regs) [] f.regs) ≡ None
  pub arrays : first_wrong (in_turn array_once [] f.arrays) ≡ None
  pub blocks : first_wrong (blocks_once [] f.array_blocks w.blocks) ≡ None

-- a file in which V4 finds nothing wrong keeps it in its ports, registers, arrays and blocks
pub once_parts : (f : File) (w : Wiring) → once_line f w ≡ None → OnceParts f w
unfolding once_line
once_parts f w h =
    let ps = in_turn (port_once w.outputs) [] f.ports in
    let rs = in_turn (reg_once w.regs) [] f.regs in
    let qs = in_turn array_once [] f.arrays in
    let cs = in_turn cell_once [] f.cells in
    let a = right_parts (ps ++ (rs ++ (qs ++ cs))) (blocks_once [] f.array_blocks w.blocks) h in
    let b = right_parts ps (rs ++ (qs ++ cs)) a.0 in
    let d = right_parts rs (qs ++ cs) b.1 in
    record { ports = b.0; regs = d.0; arrays = (right_parts qs cs d.1).0; blocks = a.1 }

-- ---- blocks of arrays

onto_block_inv : (a : Result (List ArrayWrite) ℕ) (rest : Result (List (List ArrayWrite)) ℕ) (bs : List (List ArrayWrite))
    → onto_block a rest ≡ Ok bs
    → (ws : List ArrayWrite) × (more : List (List ArrayWrite)) × (a ≡ Ok ws) × (rest ≡ Ok more) × (ws ∷ more ≡ bs)
onto_block_inv (Err l) rest bs h = absurd (cc)
onto_block_inv (Ok ws) (Ok more) bs h = (ws, more, refl, refl, cc)
onto_block_inv (Ok ws) (Err l) bs h = absurd (cc)

both_parts : {A : Type 0} (P Q : A → Type 0) (xs : List A) → Each P xs → Each Q xs → Each (λ x. P x × Q x) xs
both_parts P Q [] h k = tt
both_parts P Q (x ∷ xs) h k = ((h.0, k.0), both_parts P Q xs h.1 k.1)

-- each write of a block is found, asked and right, and is to the block's array
pub each_write : (f : File) (k : ℕ) (P : ArrayWrite → Type 0)
    → ((d : WriteDecl) (b : ArrayWrite) → wired_write f k d ≡ Some b → (asked_write (widths_of f) d b).right ≡ true → P b)
    → (decls : List ArrayBlock) (bs : List (List ArrayWrite)) (before : List ℕ) → blocks_of f k decls ≡ Ok bs
    → first_wrong (asked_writes (widths_of f) decls bs) ≡ None → first_wrong (blocks_once before decls bs) ≡ None
    → Each (λ ws. Each (λ b. P b × (b.array ≡ owner ws)) ws) bs
each_write f k P step [] bs before e r o = let i : [] ≡ bs = cc in subst (Each (λ ws. Each (λ b. P b × (b.array ≡ owner ws)) ws)) i tt
each_write f k P step (d ∷ ds) bs before e r o =
    let i = onto_block_inv (writes_of f k d.writes) (blocks_of f k ds) bs e in
    let ws = i.0 in
    let mine = λ (b : ArrayWrite). b.array ≡ owner ws in
    let r1 : first_wrong (asked_writes (widths_of f) (d ∷ ds) (ws ∷ i.1)) ≡ None =
    subst (λ z. first_wrong (asked_writes (widths_of f) (d ∷ ds) z) ≡ None) (sym i.4) r in
    let o1 : first_wrong (blocks_once before (d ∷ ds) (ws ∷ i.1)) ≡ None = subst (λ z. first_wrong (blocks_once before (d ∷ ds) z) ≡ None) (sym i.4) o in
    let p = right_parts (both (asked_write (widths_of f)) d.writes ws) (asked_writes (widths_of f) ds i.1) r1 in
    let own = both (write_once (owner ws)) d.writes ws in
    let q = right_both _ (first_wrong (own ++ blocks_once (before ++ owner ws ∷ []) ds i.1)) d.line o1 in
    let s = right_parts own (blocks_once (before ++ owner ws ∷ []) ds i.1) q.1 in
    let good : Each P ws = each_right (wired_write f k) (λ (x : WriteDecl). x.line) (asked_write (widths_of f)) P step d.writes ws i.2 p.0 in
    let owned : Each mine ws =
    each_right (wired_write f k) (λ (x : WriteDecl). x.line) (write_once (owner ws)) mine (λ x b _ y. eqb-true b.array (owner ws) y) d.writes ws i.2 s.0 in
    subst (Each (λ ws. Each (λ b. P b × (b.array ≡ owner ws)) ws)) i.4
    (both_parts P mine ws good owned, each_write f k P step ds i.1 (before ++ owner ws ∷ []) i.3 p.1 s.1)

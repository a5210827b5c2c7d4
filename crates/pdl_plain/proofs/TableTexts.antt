-- What the table reads is the text of a file.
use Rattle.std.proofs.Common.{◌≡◌, ℕ, ◌≤◌, Bool, true, false, cond, List, [], ◌∷◌, ◌++◌, append_assoc, length, length-append, codes, Some, refl, sym, ap, ◌∙◌, subst, arith, inl, inr}
use Rattle.std.specs.Prelude.{◌⊎◌}
use Rattle.pdl_vread_text.specs.declared.part.Part.{Part}
use Rattle.pdl_vread_text.specs.declared.part.Part.TheVariants as part
use Rattle.pdl_vread_text.specs.declared.rule.VerilogRule.{VerilogRule}
use Rattle.pdl_vread_text.specs.declared.rule.VerilogRule.TheVariants as rule
use Rattle.pdl_vread_text.specs.declared.file.Term.{Term}
use Rattle.pdl_vread_text.specs.declared.file.Term.TheVariants as t
use Rattle.pdl_vread_text.specs.declared.file.WriteDecl.{WriteDecl}
use Rattle.pdl_vread_text.specs.declared.file.File.{File}
use Rattle.pdl_vread_text.specs.Grammar as table
use Rattle.pdl_vread_text.specs.Grammar.{Row, Taken, AllFit, Derives, goes, fields, next, rules, chosen, first_with, begins_with}
use Rattle.pdl_vread_text.specs.Drafts.{no_file}
use Rattle.pdl_plain.specs.NetlistTexts.{Piece, word, num, op, AreTokens, no_more, all_of, id, opening, term_pieces, head_pieces, always, write_pieces, text_pieces}
use Rattle.pdl_plain.proofs.DeclaredLines.{head_file}
use Rattle.pdl_plain.proofs.CellLines.{cell}
use Rattle.pdl_plain.proofs.DrivenLines.{driven}
use Rattle.pdl_plain.proofs.BlockLines.{block}
use Rattle.pdl_plain.proofs.ItemTokens.{join, closing_of, opening_of, input_of, output_port_of, reg_of, array_of, head_of, const_of, not_of, read_of, operand_of, brace_of, bin_of, mux_of, slice_of, cat_of, rep_of, output_of, always_of, later_block_of, begin_of, end_of, ending_of, driven_of, write_of}
use Rattle.pdl_plain.proofs.TableRests.{from_array_blocks, from_blocks, from_outputs, from_cells, from_arrays, from_regs, from_ports, Rest, one_ahead, more_ports, more_regs, more_arrays, more_cells, more_outputs, more_blocks, more_array_blocks, no_blocks, no_outputs, no_cells, no_arrays, no_regs, no_ports}

-- ---- one step

abbrev Among : List VerilogRule → VerilogRule → Type 0
Among [] r = ⊥
Among (x ∷ xs) r = (x ≡ r) ⊎ Among xs r

some_same : {X : Type 0} (a b : X) → Some a ≡ Some b → a ≡ b
some_same a b e = cc

among_by : (b : Bool) (x r : VerilogRule) (xs : List VerilogRule) (y : List ℕ) → (first_with xs y ≡ Some r → Among xs r)
    → cond b (Some x) (first_with xs y) ≡ Some r → Among (x ∷ xs) r
among_by true x r xs y k e = inl (some_same x r e)
among_by false x r xs y k e = inr (k e)

among : (xs : List VerilogRule) (y : List ℕ) (r : VerilogRule) → first_with xs y ≡ Some r → Among xs r
among [] y r e = absurd (cc)
among (x ∷ xs) y r e = among_by (begins_with x y) x r xs y (among xs y r) e

chosen_among : (p : Part) (y : List ℕ) (r : VerilogRule) → chosen p y ≡ Some r → Among (rules p) r
unfolding chosen
chosen_among p y r e = among (rules p) y r e

-- the first rule of some, its tokens and those after it
record Stepped (p : Part) (ts : Row) (k : Taken) (ks : List Taken) : Type 0 where
  front : Row
  back : Row
  parts : ts ≡ front ++ back
  which : Among (rules p) k.rule
  fit : AllFit (fields k.rule) front
  later : Derives (next k.rule) back ks

step_of : (p : Part) (ts : Row) (k : Taken) (ks : List Taken) → Derives p ts (k ∷ ks) → Stepped p ts k ks
step_of p _ _ _ (goes {rule = r} {t = a} {ts = us} {rest = vs} c m d) =
    record { front = a ∷ us; back = vs; parts = refl; which = chosen_among p a.text r c; fit = m; later = d }

-- the same, of a rule that is known
record Known (r : VerilogRule) (ts : Row) (ks : List Taken) : Type 0 where
  front : Row
  back : Row
  parts : ts ≡ front ++ back
  fit : AllFit (fields r) front
  later : Derives (next r) back ks

known : (r : VerilogRule) (p : Part) (ts : Row) (k : Taken) (ks : List Taken) → Stepped p ts k ks → r ≡ k.rule → Known r ts ks
known r p ts k ks s e = record {
  front = s.front;
  back = s.back;
  parts = s.parts;
  fit = subst (λ z. AllFit (fields z) s.front) (sym e) s.fit;
  later = subst (λ z. Derives (next z) s.back ks) (sym e) s.later;
}

-- ---- the end

over : (ts : Row) (ks : List Taken) → Derives part.Finished ts ks → AreTokens [] ts
over _ [] table.finished = no_more
over ts (k ∷ ks) d = let s = step_of part.Finished ts k ks d in absurd s.which

ended : (ts : Row) (ks : List Taken) → Known rule.Ending ts ks → Rest from_array_blocks ts
ended ts ks x = record {
  file = no_file;
  written = tt;
  tokens = subst (λ z. AreTokens (word (codes "endmodule") ∷ []) z) (sym x.parts)
      (join (word (codes "endmodule") ∷ []) [] x.front x.back (ending_of x.front x.fit) (over x.back ks x.later));
}

writes_push : (ws : List WriteDecl) (w : WriteDecl) → all_of write_pieces ws ++ write_pieces w ≡ all_of write_pieces (ws ++ w ∷ [])
writes_push [] w = refl
writes_push (v ∷ ws) w = append_assoc (write_pieces v) (all_of write_pieces ws) (write_pieces w) ∙ ap (λ z. write_pieces v ++ z) (writes_push ws w)

abbrev writes_begun : ℕ → List WriteDecl → List Piece
writes_begun line ws = always line (word (codes "begin") ∷ all_of write_pieces ws)

-- ---- blocks

mutual
  array_blocks_of : (ks : List Taken) (ts : Row) → Derives part.ArrayBlocks ts ks → Rest from_array_blocks ts
  array_blocks_of [] ts d = elim d [ ]
  array_blocks_of (k ∷ ks) ts d = let s = step_of part.ArrayBlocks ts k ks d in
      elim s.which [
        | inl e ↦
            let x = known rule.ArrayHead part.ArrayBlocks ts k ks s e in
            let l = later_block_of x.front x.fit in
            first_of ks x.back x.later l.0 x.front ts x.parts l.1
        | inr m ↦ elim m [ inl e ↦ ended ts ks (known rule.Ending part.ArrayBlocks ts k ks s e) | inr n ↦ absurd n ]
      ]

  first_of : (ks : List Taken) (ts : Row) → Derives part.FirstWrite ts ks → (line : ℕ) (front whole : Row) → whole ≡ front ++ ts
      → AreTokens (always line (word (codes "begin") ∷ [])) front → Rest from_array_blocks whole
  first_of [] ts d line front whole e h = elim d [ ]
  first_of (k ∷ ks) ts d line front whole e h = let s = step_of part.FirstWrite ts k ks d in
      elim s.which [
        | inl q ↦
            let x = known rule.Written part.FirstWrite ts k ks s q in
            let w = write_of x.front x.fit in
            writes_of ks x.back x.later line (w.0 ∷ []) (front ++ x.front) whole (one_ahead front x.front x.back whole ts e x.parts) (omega arith)
            (join (always line (word (codes "begin") ∷ [])) (write_pieces w.0) front x.front h w.1)
        | inr n ↦ absurd n
      ]

  writes_of : (ks : List Taken) (ts : Row) → Derives part.Writes ts ks → (line : ℕ) (ws : List WriteDecl) (front whole : Row) → whole ≡ front ++ ts
      → 1 ≤ length ws → AreTokens (writes_begun line ws) front → Rest from_array_blocks whole
  writes_of [] ts d line ws front whole e l h = elim d [ ]
  writes_of (k ∷ ks) ts d line ws front whole e l h = let s = step_of part.Writes ts k ks d in
      elim s.which [
        | inl q ↦
            let x = known rule.Written part.Writes ts k ks s q in
            let w = write_of x.front x.fit in
            writes_of ks x.back x.later line (ws ++ w.0 ∷ []) (front ++ x.front) whole (one_ahead front x.front x.back whole ts e x.parts)
            (omega (arith, length-append ws (w.0 ∷ []), l))
            (subst (λ z. AreTokens (always line (word (codes "begin") ∷ z)) (front ++ x.front)) (writes_push ws w.0)
            (join (writes_begun line ws) (write_pieces w.0) front x.front h w.1))
        | inr m ↦ elim m [
          | inl q ↦
              let x = known rule.ArrayEnd part.Writes ts k ks s q in
              more_array_blocks (block line ws) (front ++ x.front) x.back whole l (one_ahead front x.front x.back whole ts e x.parts)
              (join (writes_begun line ws) (word (codes "end") ∷ []) front x.front h (end_of x.front x.fit)) (array_blocks_of ks x.back x.later)
          | inr n ↦ absurd n
        ]
      ]

mutual
  block_of : (ks : List Taken) (ts : Row) → Derives part.Block ts ks → (line : ℕ) (front whole : Row) → whole ≡ front ++ ts
      → AreTokens (always line []) front → Rest from_blocks whole
  block_of [] ts d line front whole e h = elim d [ ]
  block_of (k ∷ ks) ts d line front whole e h = let s = step_of part.Block ts k ks d in
      elim s.which [
        | inl q ↦
            let x = known rule.RegDriven part.Block ts k ks s q in
            let b = driven_of x.front x.fit in
            let same : (b.0 line).line ≡ line = (b.1 line).0 in
            more_blocks (b.0 line) (front ++ x.front) x.back whole (one_ahead front x.front x.back whole ts e x.parts)
            (subst (λ z. AreTokens (always z (driven (b.0 line))) (front ++ x.front)) (sym same)
            (join (always line []) (driven (b.0 line)) front x.front h (b.1 line).1)) (blocks_of ks x.back x.later)
        | inr m ↦ elim m [
          | inl q ↦
              let x = known rule.ArrayBegin part.Block ts k ks s q in
              no_blocks whole (first_of ks x.back x.later line (front ++ x.front) whole (one_ahead front x.front x.back whole ts e x.parts)
              (join (always line []) (word (codes "begin") ∷ []) front x.front h (begin_of x.front x.fit)))
          | inr n ↦ absurd n
        ]
      ]

  blocks_of : (ks : List Taken) (ts : Row) → Derives part.Blocks ts ks → Rest from_blocks ts
  blocks_of [] ts d = elim d [ ]
  blocks_of (k ∷ ks) ts d = let s = step_of part.Blocks ts k ks d in
      elim s.which [
        | inl e ↦
            let x = known rule.BlockHead part.Blocks ts k ks s e in
            let l = always_of x.front x.fit in
            block_of ks x.back x.later l.0 x.front ts x.parts l.1
        | inr m ↦ elim m [ inl e ↦ no_blocks ts (ended ts ks (known rule.Ending part.Blocks ts k ks s e)) | inr n ↦ absurd n ]
      ]

-- a part's last two rules
block_or_end : (p : Part) (ts : Row) (k : Taken) (ks : List Taken) → Stepped p ts k ks → Among (rule.BlockHead ∷ rule.Ending ∷ []) k.rule → Rest from_blocks ts
block_or_end p ts k ks s w = elim w [
  | inl e ↦
      let x = known rule.BlockHead p ts k ks s e in
      let l = always_of x.front x.fit in
      block_of ks x.back x.later l.0 x.front ts x.parts l.1
  | inr m ↦ elim m [ inl e ↦ no_blocks ts (ended ts ks (known rule.Ending p ts k ks s e)) | inr n ↦ absurd n ]
]

outputs_of : (ks : List Taken) (ts : Row) → Derives part.Outputs ts ks → Rest from_outputs ts
outputs_of [] ts d = elim d [ ]
outputs_of (k ∷ ks) ts d = let s = step_of part.Outputs ts k ks d in
    elim s.which [
      | inl e ↦
          let x = known rule.OutputDriven part.Outputs ts k ks s e in
          let o = output_of x.front x.fit in
          more_outputs o.0 x.front x.back ts x.parts o.1 (outputs_of ks x.back x.later)
      | inr m ↦ no_outputs ts (block_or_end part.Outputs ts k ks s m)
    ]

-- a part's last three rules
output_or_end : (p : Part) (ts : Row) (k : Taken) (ks : List Taken) → Stepped p ts k ks
    → Among (rule.OutputDriven ∷ rule.BlockHead ∷ rule.Ending ∷ []) k.rule → Rest from_outputs ts
output_or_end p ts k ks s w = elim w [
  | inl e ↦
      let x = known rule.OutputDriven p ts k ks s e in
      let o = output_of x.front x.fit in
      more_outputs o.0 x.front x.back ts x.parts o.1 (outputs_of ks x.back x.later)
  | inr m ↦ no_outputs ts (block_or_end p ts k ks s m)
]

-- ---- cells

-- the tokens of a cell's head, for any term
abbrev IsHead : ℕ → List ℕ → ℕ → List ℕ → List Piece → Row → Type 0
IsHead line x high target ps front = (tm : Term) → AreTokens (head_pieces (cell line x high target tm) ++ ps) front

mutual
  cells_of : (ks : List Taken) (ts : Row) → Derives part.Cells ts ks → Rest from_cells ts
  cells_of [] ts d = elim d [ ]
  cells_of (k ∷ ks) ts d = let s = step_of part.Cells ts k ks d in
      elim s.which [
        | inl e ↦
            let x = known rule.CellHead part.Cells ts k ks s e in
            let h = head_of x.front x.fit in
            term_of ks x.back x.later h.line h.called h.high h.target x.front ts x.parts (λ tm. h.tokens tm)
        | inr m ↦ no_cells ts (output_or_end part.Cells ts k ks s m)
      ]

  term_of : (ks : List Taken) (ts : Row) → Derives part.Term ts ks → (line : ℕ) (y : List ℕ) (high : ℕ) (target : List ℕ) (front whole : Row)
      → whole ≡ front ++ ts → IsHead line y high target [] front → Rest from_cells whole
  term_of [] ts d line y high target front whole e h = elim d [ ]
  term_of (k ∷ ks) ts d line y high target front whole e h = let s = step_of part.Term ts k ks d in
      elim s.which [
        | inl q ↦
            let x = known rule.ConstTerm part.Term ts k ks s q in
            let c = const_of x.front x.fit in
            let tm = t.Const c.0 c.1 in
            more_cells (cell line y high target tm) (front ++ x.front) x.back whole (one_ahead front x.front x.back whole ts e x.parts)
            (join (head_pieces (cell line y high target tm)) (term_pieces tm) front x.front (h tm) c.2) (cells_of ks x.back x.later)
        | inr m ↦ elim m [
          | inl q ↦
              let x = known rule.NotTerm part.Term ts k ks s q in
              let c = not_of x.front x.fit in
              let tm = t.Not c.0 in
              more_cells (cell line y high target tm) (front ++ x.front) x.back whole (one_ahead front x.front x.back whole ts e x.parts)
              (join (head_pieces (cell line y high target tm)) (term_pieces tm) front x.front (h tm) c.1) (cells_of ks x.back x.later)
          | inr n ↦ elim n [
            | inl q ↦
                let x = known rule.FirstOperand part.Term ts k ks s q in
                let o = operand_of x.front x.fit in
                after_of ks x.back x.later o.0 line y high target (front ++ x.front) whole (one_ahead front x.front x.back whole ts e x.parts)
                (λ tm. join (head_pieces (cell line y high target tm)) (id o.0 ∷ []) front x.front (h tm) o.1)
            | inr u ↦ elim u [
              | inl q ↦
                  let x = known rule.ReadTerm part.Term ts k ks s q in
                  let c = read_of x.front x.fit in
                  let tm = t.Read c.0 c.1 in
                  more_cells (cell line y high target tm) (front ++ x.front) x.back whole (one_ahead front x.front x.back whole ts e x.parts)
                  (join (head_pieces (cell line y high target tm)) (term_pieces tm) front x.front (h tm) c.2) (cells_of ks x.back x.later)
              | inr v ↦ elim v [
                | inl q ↦
                    let x = known rule.OpenTerm part.Term ts k ks s q in
                    braced_of ks x.back x.later line y high target (front ++ x.front) whole (one_ahead front x.front x.back whole ts e x.parts)
                    (λ tm. join (head_pieces (cell line y high target tm)) (word (codes "{") ∷ []) front x.front (h tm) (brace_of x.front x.fit))
                | inr w ↦ absurd w
              ]
            ]
          ]
        ]
      ]

  after_of : (ks : List Taken) (ts : Row) → Derives part.AfterOperand ts ks → (a : List ℕ) (line : ℕ) (y : List ℕ) (high : ℕ) (target : List ℕ)
      (front whole : Row) → whole ≡ front ++ ts → IsHead line y high target (id a ∷ []) front → Rest from_cells whole
  after_of [] ts d a line y high target front whole e h = elim d [ ]
  after_of (k ∷ ks) ts d a line y high target front whole e h = let s = step_of part.AfterOperand ts k ks d in
      elim s.which [
        | inl q ↦
            let x = known rule.BinTerm part.AfterOperand ts k ks s q in
            let c = bin_of x.front x.fit in
            let tm = t.Bin c.0 a c.1 in
            more_cells (cell line y high target tm) (front ++ x.front) x.back whole (one_ahead front x.front x.back whole ts e x.parts)
            (join (head_pieces (cell line y high target tm) ++ id a ∷ []) (op c.0 ∷ id c.1 ∷ word (codes ";") ∷ []) front x.front (h tm) c.2)
            (cells_of ks x.back x.later)
        | inr m ↦ elim m [
          | inl q ↦
              let x = known rule.MuxTerm part.AfterOperand ts k ks s q in
              let c = mux_of x.front x.fit in
              let tm = t.Mux a c.0 c.1 in
              more_cells (cell line y high target tm) (front ++ x.front) x.back whole (one_ahead front x.front x.back whole ts e x.parts)
              (join (head_pieces (cell line y high target tm) ++ id a ∷ [])
              (word (codes "?") ∷ id c.0 ∷ word (codes ":") ∷ id c.1 ∷ word (codes ";") ∷ []) front x.front (h tm) c.2) (cells_of ks x.back x.later)
          | inr n ↦ elim n [
            | inl q ↦
                let x = known rule.SliceTerm part.AfterOperand ts k ks s q in
                let c = slice_of x.front x.fit in
                let tm = t.Slice a c.0 c.1 in
                more_cells (cell line y high target tm) (front ++ x.front) x.back whole (one_ahead front x.front x.back whole ts e x.parts)
                (join (head_pieces (cell line y high target tm) ++ id a ∷ [])
                (word (codes "[") ∷ num c.0 ∷ word (codes ":") ∷ num c.1 ∷ word (codes "]") ∷ word (codes ";") ∷ []) front x.front (h tm) c.2)
                (cells_of ks x.back x.later)
            | inr u ↦ absurd u
          ]
        ]
      ]

  braced_of : (ks : List Taken) (ts : Row) → Derives part.Braced ts ks → (line : ℕ) (y : List ℕ) (high : ℕ) (target : List ℕ)
      (front whole : Row) → whole ≡ front ++ ts → IsHead line y high target (word (codes "{") ∷ []) front → Rest from_cells whole
  braced_of [] ts d line y high target front whole e h = elim d [ ]
  braced_of (k ∷ ks) ts d line y high target front whole e h = let s = step_of part.Braced ts k ks d in
      elim s.which [
        | inl q ↦
            let x = known rule.CatTerm part.Braced ts k ks s q in
            let c = cat_of x.front x.fit in
            let tm = t.Cat c.0 c.1 in
            more_cells (cell line y high target tm) (front ++ x.front) x.back whole (one_ahead front x.front x.back whole ts e x.parts)
            (join (head_pieces (cell line y high target tm) ++ word (codes "{") ∷ [])
            (id c.0 ∷ word (codes ",") ∷ id c.1 ∷ word (codes "}") ∷ word (codes ";") ∷ []) front x.front (h tm) c.2) (cells_of ks x.back x.later)
        | inr m ↦ elim m [
          | inl q ↦
              let x = known rule.RepTerm part.Braced ts k ks s q in
              let c = rep_of x.front x.fit in
              let tm = t.Rep c.0 c.1 in
              more_cells (cell line y high target tm) (front ++ x.front) x.back whole (one_ahead front x.front x.back whole ts e x.parts)
              (join (head_pieces (cell line y high target tm) ++ word (codes "{") ∷ [])
              (num c.0 ∷ word (codes "{") ∷ id c.1 ∷ word (codes "}") ∷ word (codes "}") ∷ word (codes ";") ∷ []) front x.front (h tm) c.2)
              (cells_of ks x.back x.later)
          | inr n ↦ absurd n
        ]
      ]

-- a part's last four rules
cell_or_end : (p : Part) (ts : Row) (k : Taken) (ks : List Taken) → Stepped p ts k ks
    → Among (rule.CellHead ∷ rule.OutputDriven ∷ rule.BlockHead ∷ rule.Ending ∷ []) k.rule → Rest from_cells ts
cell_or_end p ts k ks s w = elim w [
  | inl e ↦
      let x = known rule.CellHead p ts k ks s e in
      let h = head_of x.front x.fit in
      term_of ks x.back x.later h.line h.called h.high h.target x.front ts x.parts (λ tm. h.tokens tm)
  | inr m ↦ no_cells ts (output_or_end p ts k ks s m)
]

-- ---- registers, arrays and ports

mutual
  arrays_of : (ks : List Taken) (ts : Row) → Derives part.Arrays ts ks → Rest from_arrays ts
  arrays_of [] ts d = elim d [ ]
  arrays_of (k ∷ ks) ts d = let s = step_of part.Arrays ts k ks d in
      elim s.which [
        | inl e ↦
            let x = known rule.ArrayRange part.Arrays ts k ks s e in
            later_of ks x.back x.later x.front ts x.parts x.fit
        | inr m ↦ no_arrays ts (cell_or_end part.Arrays ts k ks s m)
      ]

  later_of : (ks : List Taken) (ts : Row) → Derives part.LaterArray ts ks → (front whole : Row) → whole ≡ front ++ ts
      → AllFit (fields rule.RegRange) front → Rest from_arrays whole
  later_of [] ts d front whole e h = elim d [ ]
  later_of (k ∷ ks) ts d front whole e h = let s = step_of part.LaterArray ts k ks d in
      elim s.which [
        | inl q ↦
            let x = known rule.ArrayDeclared part.LaterArray ts k ks s q in
            let a = array_of front x.front h x.fit in
            more_arrays a.0 (front ++ x.front) x.back whole (one_ahead front x.front x.back whole ts e x.parts) a.1 (arrays_of ks x.back x.later)
        | inr n ↦ absurd n
      ]

mutual
  regs_of : (ks : List Taken) (ts : Row) → Derives part.Regs ts ks → Rest from_regs ts
  regs_of [] ts d = elim d [ ]
  regs_of (k ∷ ks) ts d = let s = step_of part.Regs ts k ks d in
      elim s.which [
        | inl e ↦
            let x = known rule.RegRange part.Regs ts k ks s e in
            declared_of ks x.back x.later x.front ts x.parts x.fit
        | inr m ↦ no_regs ts (no_arrays ts (cell_or_end part.Regs ts k ks s m))
      ]

  declared_of : (ks : List Taken) (ts : Row) → Derives part.Declared ts ks → (front whole : Row) → whole ≡ front ++ ts
      → AllFit (fields rule.RegRange) front → Rest from_regs whole
  declared_of [] ts d front whole e h = elim d [ ]
  declared_of (k ∷ ks) ts d front whole e h = let s = step_of part.Declared ts k ks d in
      elim s.which [
        | inl q ↦
            let x = known rule.RegDeclared part.Declared ts k ks s q in
            let r = reg_of front x.front h x.fit in
            more_regs r.0 (front ++ x.front) x.back whole (one_ahead front x.front x.back whole ts e x.parts) r.1 (regs_of ks x.back x.later)
        | inr m ↦ elim m [
          | inl q ↦
              let x = known rule.ArrayDeclared part.Declared ts k ks s q in
              let a = array_of front x.front h x.fit in
              no_regs whole
              (more_arrays a.0 (front ++ x.front) x.back whole (one_ahead front x.front x.back whole ts e x.parts) a.1 (arrays_of ks x.back x.later))
          | inr n ↦ absurd n
        ]
      ]

mutual
  ports_of : (ks : List Taken) (ts : Row) → Derives part.Ports ts ks → Rest from_ports ts
  ports_of [] ts d = elim d [ ]
  ports_of (k ∷ ks) ts d = let s = step_of part.Ports ts k ks d in
      elim s.which [
        | inl e ↦
            let x = known rule.NextPort part.Ports ts k ks s e in
            direction_of ks x.back x.later x.front ts x.parts x.fit
        | inr m ↦ elim m [
          | inl e ↦
              let x = known rule.Closing part.Ports ts k ks s e in
              no_ports x.front x.back ts x.parts (closing_of x.front x.fit) (regs_of ks x.back x.later)
          | inr n ↦ absurd n
        ]
      ]

  direction_of : (ks : List Taken) (ts : Row) → Derives part.Direction ts ks → (front whole : Row) → whole ≡ front ++ ts
      → AllFit (fields rule.NextPort) front → Rest from_ports whole
  direction_of [] ts d front whole e h = elim d [ ]
  direction_of (k ∷ ks) ts d front whole e h = let s = step_of part.Direction ts k ks d in
      elim s.which [
        | inl q ↦
            let x = known rule.InputPort part.Direction ts k ks s q in
            let p = input_of front x.front h x.fit in
            more_ports p.0 (front ++ x.front) x.back whole (one_ahead front x.front x.back whole ts e x.parts) p.1 (ports_of ks x.back x.later)
        | inr m ↦ elim m [
          | inl q ↦
              let x = known rule.OutputPort part.Direction ts k ks s q in
              let p = output_port_of front x.front h x.fit in
              more_ports p.0 (front ++ x.front) x.back whole (one_ahead front x.front x.back whole ts e x.parts) p.1 (ports_of ks x.back x.later)
          | inr n ↦ absurd n
        ]
      ]

-- what is derived from the start is the text of some file
pub text_of : (ks : List Taken) (ts : Row) → Derives part.Start ts ks → Rest text_pieces ts
text_of [] ts d = elim d [ ]
text_of (k ∷ ks) ts d = let s = step_of part.Start ts k ks d in
    elim s.which [
      | inl e ↦
          let x = known rule.Opening part.Start ts k ks s e in
          let r = ports_of ks x.back x.later in
          let h = opening_of x.front x.fit in
          let g : File = head_file h.line h.called h.reset h.high r.file in
          record {
            file = g;
            written = r.written;
            tokens = subst (λ z. AreTokens (text_pieces g) z) (sym x.parts) (join (opening g) (from_ports r.file) x.front x.back (h.tokens r.file) r.tokens);
          }
      | inr n ↦ absurd n
    ]

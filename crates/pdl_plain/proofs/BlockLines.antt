-- The blocks that write arrays.
use Rattle.std.proofs.Common.{◌≡◌, ℕ, ◌≤◌, Bool, true, false, if◌then◌else◌, inl, inr, List, [], ◌∷◌, ◌++◌, append_assoc, append-nil, length, codes, Some, refl, sym, ap, ◌∙◌, subst, arith}
use Rattle.std.specs.Prelude.{fold}
use Rattle.pdl_vread_text.specs.declared.field.Field.TheVariants as f
use Rattle.pdl_vread_text.specs.declared.part.Part.{Part}
use Rattle.pdl_vread_text.specs.declared.part.Part.TheVariants as part
use Rattle.pdl_vread_text.specs.declared.rule.VerilogRule.TheVariants as rule
use Rattle.pdl_vread_text.specs.declared.file.WriteDecl.{WriteDecl}
use Rattle.pdl_vread_text.specs.declared.file.ArrayBlock.{ArrayBlock}
use Rattle.pdl_vread_text.specs.declared.file.File.{File}
use Rattle.pdl_vread_text.specs.declared.draft.Draft.{Draft}
use Rattle.pdl_vread_text.specs.Grammar.{Row, fields, chosen}
use Rattle.pdl_vread_text.specs.Drafts.{taken, text_at, line_at}
use Rattle.pdl_word.specs.Each.{Each}
use Rattle.pdl_plain.specs.NetlistTexts.{Piece, word, is_word, is_first, is_name as is_named, AreTokens, one_more, all_of, always, write_pieces, array_block_pieces}
use Rattle.pdl_plain.proofs.RuleSteps.{AllMatch, Goes, HasArrayBlocks, Reads, at_array, at_array_blocks, at_first, at_id, at_word, by_first, by_word, cong3, takes}
use Rattle.pdl_plain.proofs.DeclaredLines.{array, line_value}
use Rattle.pdl_plain.proofs.DrivenLines.{always_match}

-- ---- blocks of arrays

-- a block with its line and its writes
abbrev pub block : ℕ → List WriteDecl → ArrayBlock
block line ws = record { line = line; writes = ws }

-- a file with one block of an array more
abbrev pub add_array_block : File → ArrayBlock → File
add_array_block g b = record g { array_blocks = g.array_blocks ++ b ∷ [] }

-- a write with its line, its enable, its array, its address and its value
abbrev pub write_decl : ℕ → List ℕ → List ℕ → List ℕ → List ℕ → WriteDecl
write_decl line enable array addr value = record { line = line; enable = enable; array = array; addr = addr; value = value }

write_value : (w : WriteDecl) (front : Row) → AreTokens (write_pieces w) front
    → write_decl (line_at front 0) (text_at front 2) (text_at front 4) (text_at front 6) (text_at front 9) ≡ w
write_value w _ (one_more is_first (one_more is_word (one_more (is_named a) (one_more is_word (one_more (is_named b) (one_more is_word (one_more (is_named c) (one_more is_word (one_more is_word (one_more (is_named d) i)))))))))) =
    refl

write_match : (w : WriteDecl) → AllMatch (fields rule.Written) (write_pieces w)
write_match w = (
  at_first f.If (codes "if") w.line refl,
  (
    at_word f.OpenRound (codes "(") refl,
    (
      at_id w.enable,
      (
        at_word f.CloseRound (codes ")") refl,
        (
          at_array w.array,
          (
            at_word f.OpenSquare (codes "[") refl,
            (
              at_id w.addr,
              (
                at_word f.CloseSquare (codes "]") refl,
                (
                  at_word f.Takes (codes "<=") refl,
                  (at_id w.value, (at_word f.Semicolon (codes ";") refl, tt)),
                ),
              ),
            ),
          ),
        ),
      ),
    ),
  ),
)

begin_chosen : chosen part.Block (codes "begin") ≡ Some rule.ArrayBegin
unfolding chosen
begin_chosen = refl

-- a write begins with `if`, the first one of a block and the later ones
write_chosen : (first : Bool) → chosen (if first then part.FirstWrite else part.Writes) (codes "if") ≡ Some rule.Written
unfolding chosen
write_chosen true = refl
write_chosen false = refl

end_chosen : chosen part.Writes (codes "end") ≡ Some rule.ArrayEnd
unfolding chosen
end_chosen = refl

writes_rest : (h g : File) (line : ℕ) (ws past : List WriteDecl) (qs : List Piece)
    → Reads part.ArrayBlocks qs (add_array_block g (block line (past ++ ws))) h
    → (ts : Row) (d : Draft) → AreTokens (all_of write_pieces ws ++ (word (codes "end") ∷ qs)) ts
    → d.file ≡ g → d.line ≡ line → d.writes ≡ past → Goes part.Writes ts d h
writes_rest h g line [] past qs k ts d a e l v =
    takes part.Writes rule.ArrayEnd (word (codes "end") ∷ []) qs ts d h (by_word part.Writes rule.ArrayEnd (codes "end") end_chosen)
    (at_word f.End (codes "end") refl, tt) a (λ front back i j. k back (taken d rule.ArrayEnd front) j
    (cong3 (λ y n ws. add_array_block y (block n ws)) d.file g d.line line d.writes (past ++ []) e l (v ∙ sym (append-nil past))) refl)
writes_rest h g line (w ∷ ws) past qs k ts d a e l v =
    takes part.Writes rule.Written (write_pieces w) (all_of write_pieces ws ++ (word (codes "end") ∷ qs)) ts d h
    (by_first part.Writes rule.Written w.line (codes "if") (write_chosen false)) (write_match w) a (λ front back i j.
    writes_rest h g line ws (past ++ w ∷ []) qs
    (subst (λ z. Reads part.ArrayBlocks qs (add_array_block g (block line z)) h) (sym (append_assoc past (w ∷ []) ws)) k)
    back (taken d rule.Written front) j e l
    (ap (λ z. z ++ write_decl (line_at front 0) (text_at front 2) (text_at front 4) (text_at front 6) (text_at front 9) ∷ []) v
    ∙ ap (λ x. past ++ x ∷ []) (write_value w front i)))

first_writes : (h g : File) (line : ℕ) (ws : List WriteDecl) (qs : List Piece) → 1 ≤ length ws
    → Reads part.ArrayBlocks qs (add_array_block g (block line ws)) h
    → (ts : Row) (d : Draft) → AreTokens (all_of write_pieces ws ++ (word (codes "end") ∷ qs)) ts
    → d.file ≡ g → d.line ≡ line → d.writes ≡ [] → Goes part.FirstWrite ts d h
first_writes h g line [] qs m k ts d a e l v = absurd (omega arith)
first_writes h g line (w ∷ ws) qs m k ts d a e l v =
    takes part.FirstWrite rule.Written (write_pieces w) (all_of write_pieces ws ++ (word (codes "end") ∷ qs)) ts d h
    (by_first part.FirstWrite rule.Written w.line (codes "if") (write_chosen true)) (write_match w) a (λ front back i j.
    writes_rest h g line ws (w ∷ []) qs k back (taken d rule.Written front) j e l
    (ap (λ z. z ++ write_decl (line_at front 0) (text_at front 2) (text_at front 4) (text_at front 6) (text_at front 9) ∷ []) v
    ∙ ap (λ x. x ∷ []) (write_value w front i)))

abbrev always_tail : List Piece
always_tail = word (codes "@") ∷ word (codes "(") ∷ word (codes "posedge") ∷ word (codes "clk") ∷ word (codes ")") ∷ []

array_block_line : (h : File) (b : ArrayBlock) (qs : List Piece) (g : File) → 1 ≤ length b.writes
    → ((q : Part) → HasArrayBlocks q → Reads q qs (add_array_block g b) h)
    → (q : Part) → HasArrayBlocks q → Reads q (array_block_pieces b ++ qs) g h
array_block_line h b qs g m k q c ts d i e w =
    let rest : List Piece = all_of write_pieces b.writes ++ (word (codes "end") ∷ qs) in
    let a : AreTokens (always b.line (word (codes "begin") ∷ rest)) ts =
    subst (λ z. AreTokens (always b.line (word (codes "begin") ∷ z)) ts) (append_assoc (all_of write_pieces b.writes) (word (codes "end") ∷ []) qs) i in
    elim c.block [
      | inl r ↦
          takes q rule.BlockHead (always b.line []) (word (codes "begin") ∷ rest) ts d h (by_first q rule.BlockHead b.line (codes "always") r)
          (always_match b.line [] [] tt) a (λ front back x y.
          takes part.Block rule.ArrayBegin (word (codes "begin") ∷ []) rest back (taken d rule.BlockHead front) h
          (by_word part.Block rule.ArrayBegin (codes "begin") begin_chosen) (at_word f.Begin (codes "begin") refl, tt) y (λ more after u v.
          first_writes h g b.line b.writes qs m (k part.ArrayBlocks at_array_blocks) after (taken d rule.BlockHead front) v e
          (line_value b.line (codes "always") always_tail front x) w))
      | inr r ↦
          takes q rule.ArrayHead (always b.line (word (codes "begin") ∷ [])) rest ts d h (by_first q rule.ArrayHead b.line (codes "always") r)
          (always_match b.line (f.Begin ∷ []) (word (codes "begin") ∷ []) (at_word f.Begin (codes "begin") refl, tt)) a (λ front back x y.
          first_writes h g b.line b.writes qs m (k part.ArrayBlocks at_array_blocks) back (taken d rule.ArrayHead front) y e
          (line_value b.line (codes "always") (always_tail ++ word (codes "begin") ∷ []) front x) w)
    ]

-- the pieces of blocks of arrays, each with a write, are read as these
pub array_blocks_read : (h : File) (bs : List ArrayBlock) (qs : List Piece) (g : File) → Each (λ (b : ArrayBlock). 1 ≤ length b.writes) bs
    → ((p : Part) → HasArrayBlocks p → Reads p qs (fold add_array_block g bs) h) → (p : Part) → HasArrayBlocks p → Reads p (all_of array_block_pieces bs ++ qs) g h
array_blocks_read h [] qs g m k p c = k p c
array_blocks_read h (b ∷ bs) qs g m k p c =
    subst (λ z. Reads p z g h) (sym (append_assoc (array_block_pieces b) (all_of array_block_pieces bs) qs))
    (array_block_line h b (all_of array_block_pieces bs ++ qs) g m.0 (array_blocks_read h bs qs (add_array_block g b) m.1 k) p c)

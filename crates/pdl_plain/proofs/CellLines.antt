-- The lines of cells.
use Rattle.std.proofs.Common.{◌≡◌, ℕ, List, [], ◌∷◌, ◌++◌, codes, Option, unwrap_or, refl, sym, ap, ◌∙◌, subst}
use Rattle.pdl_net.specs.declared.BinOp.{BinOp}
use Rattle.pdl_vread_text.specs.declared.field.Field.TheVariants as f
use Rattle.pdl_vread_text.specs.declared.part.Part.{Part}
use Rattle.pdl_vread_text.specs.declared.part.Part.TheVariants as part
use Rattle.pdl_vread_text.specs.declared.rule.VerilogRule.{VerilogRule}
use Rattle.pdl_vread_text.specs.declared.rule.VerilogRule.TheVariants as rule
use Rattle.pdl_vread_text.specs.declared.file.Term.{Term}
use Rattle.pdl_vread_text.specs.declared.file.Term.TheVariants as t
use Rattle.pdl_vread_text.specs.declared.file.CellDecl.{CellDecl}
use Rattle.pdl_vread_text.specs.declared.file.File.{File}
use Rattle.pdl_vread_text.specs.declared.draft.Draft.{Draft}
use Rattle.pdl_vread_text.specs.declared.numbers.Constant.{Constant}
use Rattle.pdl_vread_text.specs.Words.{number_of, is_array, is_cell, is_operand}
use Rattle.pdl_vread_text.specs.Grammar.{Row, fields, next}
use Rattle.pdl_net.specs.declared.BinOp.TheVariants.{Add}
use Rattle.pdl_vread_text.specs.Drafts.{taken, term, with_cell}
use Rattle.pdl_plain.specs.NetlistTexts.{Piece, word, first, num, const, op, name, is_word, is_first, is_num, is_const, is_op, is_name as is_named, AreTokens, one_more, id, term_pieces, head_pieces, cell_pieces}
use Rattle.pdl_plain.proofs.RuleSteps.{AllMatch, Begins, Goes, HasCells, Reads, at_array, at_cell, at_cells, at_const, at_first, at_id, at_num, at_op, at_word, by_word, in_range, takes}
use Rattle.pdl_plain.proofs.NameBytes.{array_term, brace_chosen, const_term, mux_chosen, not_chosen, number_braced, op_after, operand_braced, operand_term, slice_chosen}
use Rattle.pdl_plain.proofs.DeclaredLines.{name_value}

-- ---- cells

-- a cell with its line, its name, the high end of its range, the name behind `assign` and its term
abbrev pub cell : ℕ → List ℕ → ℕ → List ℕ → Term → CellDecl
cell line x high target tm = record { line = line; name = x; high = high; target = target; term = tm }

-- a file with one cell more
abbrev pub add_cell : File → CellDecl → File
add_cell g c = record g { cells = g.cells ++ c ∷ [] }

-- a draft in which the head of a cell stands
record IsHeaded (d : Draft) (g : File) (c : CellDecl) : Type 0 where
  file : d.file ≡ g
  writes : d.writes ≡ []
  line_is : d.line ≡ c.line
  name_is : d.name ≡ c.name
  high_is : d.high ≡ c.high
  target_is : d.target ≡ c.target

cell_added : (d : Draft) (g : File) (c : CellDecl) (r : VerilogRule) (ts : Row) → IsHeaded d g c → term d.operand r ts ≡ c.term
    → (with_cell d r ts).file ≡ add_cell g c
cell_added d g c r ts h e =
    let F : File → ℕ → List ℕ → ℕ → List ℕ → Term → File = λ y l n k a u. add_cell y (cell l n k a u) in
    let u = term d.operand r ts in
    ap (λ y. F y d.line d.name d.high d.target u) h.file
    ∙ (ap (λ l. F g l d.name d.high d.target u) h.line_is
    ∙ (ap (λ n. F g c.line n d.high d.target u) h.name_is
    ∙ (ap (λ k. F g c.line c.name k d.target u) h.high_is
    ∙ (ap (λ a. F g c.line c.name c.high a u) h.target_is
    ∙ ap (λ u. F g c.line c.name c.high c.target u) e))))

-- the pieces of a term, and others after it, are read with a cell's head
abbrev ReadsTerm : Part → List Piece → File → CellDecl → File → Type 0
ReadsTerm p qs g c h = (ts : Row) (d : Draft) → AreTokens qs ts → IsHeaded d g c → Goes p ts d h

-- a rule ends a term of a cell
ends_term : (p : Part) (r : VerilogRule) (ps qs : List Piece) (g : File) (c : CellDecl) (h : File) → next r ≡ part.Cells
    → ((d : Draft) (ts : Row) → taken d r ts ≡ with_cell d r ts) → Begins p r ps → AllMatch (fields r) ps
    → (ts : Row) (d : Draft) → ((front : Row) → AreTokens ps front → term d.operand r front ≡ c.term)
    → Reads part.Cells qs (add_cell g c) h → AreTokens (ps ++ qs) ts → IsHeaded d g c → Goes p ts d h
ends_term p r ps qs g c h to cell s m ts d v k a i =
    takes p r ps qs ts d h s m a (λ front back x y.
    subst (λ q. Goes q back (taken d r front) h) (sym to) (subst (λ e. Goes part.Cells back e h) (sym (cell d front))
    (k back (with_cell d r front) y (cell_added d g c r front i (v front x)) i.writes)))

-- the operand that begins a term
with_first : (x : List ℕ) (ps qs : List Piece) (g : File) (c : CellDecl) (h : File)
    → ((ts : Row) (d : Draft) → d.operand ≡ x → AreTokens (ps ++ qs) ts → IsHeaded d g c → Goes part.AfterOperand ts d h)
    → ReadsTerm part.Term (id x ∷ (ps ++ qs)) g c h
with_first x ps qs g c h k ts d a i =
    takes part.Term rule.FirstOperand (id x ∷ []) (ps ++ qs) ts d h (operand_term x) (at_id x, tt) a (λ front back m n.
    k back (taken d rule.FirstOperand front) (name_value is_operand x [] front m) n
    (record { file = i.file; writes = i.writes; line_is = i.line_is; name_is = i.name_is; high_is = i.high_is; target_is = i.target_is }))

-- the brace that begins a term
with_brace : (ps : List Piece) (g : File) (c : CellDecl) (h : File)
    → ReadsTerm part.Braced ps g c h → ReadsTerm part.Term (word (codes "{") ∷ ps) g c h
with_brace ps g c h k ts d a i =
    takes part.Term rule.OpenTerm (word (codes "{") ∷ []) ps ts d h (by_word part.Term rule.OpenTerm (codes "{") brace_chosen)
    (at_word f.OpenBrace (codes "{") refl, tt) a (λ front back m n. k back d n i)

const_value : (w v : ℕ) (begun : List ℕ) (front : Row)
    → AreTokens (const w v ∷ word (codes ";") ∷ []) front → term begun rule.ConstTerm front ≡ t.Const w v
const_value w v begun _ (one_more (is_const e) i) =
    ap (λ (o : Option Constant). t.Const (unwrap_or o (record { width = 0; value = 0 })).width (unwrap_or o (record { width = 0; value = 0 })).value) e

not_value : (a begun : List ℕ) (front : Row)
    → AreTokens (word (codes "~") ∷ id a ∷ word (codes ";") ∷ []) front → term begun rule.NotTerm front ≡ t.Not a
not_value a begun _ (one_more is_word (one_more (is_named e) i)) = refl

bin_value : (o : BinOp) (a b begun : List ℕ) (front : Row) → begun ≡ a → AreTokens (op o ∷ id b ∷ word (codes ";") ∷ []) front
    → term begun rule.BinTerm front ≡ t.Bin o a b
bin_value o a b begun _ q (one_more (is_op e) (one_more (is_named k) i)) =
    ap (λ (x : Option BinOp). t.Bin (unwrap_or x Add) begun b) e ∙ ap (λ x. t.Bin o x b) q

mux_value : (c a b begun : List ℕ) (front : Row)
    → begun ≡ c → AreTokens (word (codes "?") ∷ id a ∷ word (codes ":") ∷ id b ∷ word (codes ";") ∷ []) front
    → term begun rule.MuxTerm front ≡ t.Mux c a b
mux_value c a b begun _ q (one_more is_word (one_more (is_named e) (one_more is_word (one_more (is_named k) i)))) = ap (λ x. t.Mux x a b) q

slice_value : (a : List ℕ) (high low : ℕ) (begun : List ℕ) (front : Row) → begun ≡ a
    → AreTokens (word (codes "[") ∷ num high ∷ word (codes ":") ∷ num low ∷ word (codes "]") ∷ word (codes ";") ∷ []) front
    → term begun rule.SliceTerm front ≡ t.Slice a high low
slice_value a high low begun _ q (one_more is_word (one_more (is_num {text = x} e) (one_more is_word (one_more (is_num {text = y} k) i)))) =
    ap (λ (o : Option ℕ). t.Slice begun (unwrap_or o 0) (unwrap_or (number_of y) 0)) e
    ∙ (ap (λ (o : Option ℕ). t.Slice begun high (unwrap_or o 0)) k ∙ ap (λ z. t.Slice z high low) q)

cat_value : (a b begun : List ℕ) (front : Row) → AreTokens (id a ∷ word (codes ",") ∷ id b ∷ word (codes "}") ∷ word (codes ";") ∷ []) front
    → term begun rule.CatTerm front ≡ t.Cat a b
cat_value a b begun _ (one_more (is_named e) (one_more is_word (one_more (is_named k) i))) = refl

rep_value : (n : ℕ) (a begun : List ℕ) (front : Row)
    → AreTokens (num n ∷ word (codes "{") ∷ id a ∷ word (codes "}") ∷ word (codes "}") ∷ word (codes ";") ∷ []) front
    → term begun rule.RepTerm front ≡ t.Rep n a
rep_value n a begun _ (one_more (is_num e) (one_more is_word (one_more (is_named k) i))) = ap (λ (o : Option ℕ). t.Rep (unwrap_or o 0) a) e

read_value : (m a begun : List ℕ) (front : Row)
    → AreTokens (name is_array m ∷ word (codes "[") ∷ id a ∷ word (codes "]") ∷ word (codes ";") ∷ []) front
    → term begun rule.ReadTerm front ≡ t.Read m a
read_value m a begun _ (one_more (is_named e) (one_more is_word (one_more (is_named k) i))) = refl

term_line : (tm : Term) (qs : List Piece) (g : File) (c : CellDecl) (h : File) → c.term ≡ tm → Reads part.Cells qs (add_cell g c) h
    → ReadsTerm part.Term (term_pieces tm ++ qs) g c h
term_line (t.Const w v) qs g c h e k ts d a i =
    ends_term part.Term rule.ConstTerm (term_pieces (t.Const w v)) qs g c h refl (λ d ts. refl) (const_term w v)
    (at_const w v, (at_word f.Semicolon (codes ";") refl, tt)) ts d (λ front x. const_value w v d.operand front x ∙ sym e) k a i
term_line (t.Not a) qs g c h e k ts d b i =
    ends_term part.Term rule.NotTerm (term_pieces (t.Not a)) qs g c h refl (λ d ts. refl) (by_word part.Term rule.NotTerm (codes "~") not_chosen)
    (at_word f.Tilde (codes "~") refl, (at_id a, (at_word f.Semicolon (codes ";") refl, tt))) ts d (λ front x. not_value a d.operand front x ∙ sym e) k b i
term_line (t.Bin o a b) qs g c h e k ts d z i =
    with_first a (op o ∷ id b ∷ word (codes ";") ∷ []) qs g c h (λ us y q r s.
    ends_term part.AfterOperand rule.BinTerm (op o ∷ id b ∷ word (codes ";") ∷ []) qs g c h refl (λ d ts. refl) (op_after o)
    (at_op o, (at_id b, (at_word f.Semicolon (codes ";") refl, tt))) us y (λ front x. bin_value o a b y.operand front q x ∙ sym e) k r s) ts d z i
term_line (t.Mux x a b) qs g c h e k ts d z i =
    with_first x (word (codes "?") ∷ id a ∷ word (codes ":") ∷ id b ∷ word (codes ";") ∷ []) qs g c h (λ us y q r s.
    ends_term part.AfterOperand rule.MuxTerm (word (codes "?") ∷ id a ∷ word (codes ":") ∷ id b ∷ word (codes ";") ∷ []) qs g c h refl (λ d ts. refl)
    (by_word part.AfterOperand rule.MuxTerm (codes "?") mux_chosen)
    (at_word f.Question (codes "?") refl, (at_id a, (at_word f.Colon (codes ":") refl, (at_id b, (at_word f.Semicolon (codes ";") refl, tt)))))
    us y (λ front m. mux_value x a b y.operand front q m ∙ sym e) k r s) ts d z i
term_line (t.Slice a high low) qs g c h e k ts d z i =
    with_first a (word (codes "[") ∷ num high ∷ word (codes ":") ∷ num low ∷ word (codes "]") ∷ word (codes ";") ∷ []) qs g c h (λ us y q r s.
    ends_term part.AfterOperand rule.SliceTerm (word (codes "[") ∷ num high ∷ word (codes ":") ∷ num low ∷ word (codes "]") ∷ word (codes ";") ∷ [])
    qs g c h refl (λ d ts. refl) (by_word part.AfterOperand rule.SliceTerm (codes "[") slice_chosen) (
      at_word f.OpenSquare (codes "[") refl,
      (
        at_num high,
        (
          at_word f.Colon (codes ":") refl,
          (at_num low, (at_word f.CloseSquare (codes "]") refl, (at_word f.Semicolon (codes ";") refl, tt))),
        ),
      ),
    )
    us y (λ front m. slice_value a high low y.operand front q m ∙ sym e) k r s) ts d z i
term_line (t.Cat a b) qs g c h e k ts d z i =
    with_brace ((id a ∷ word (codes ",") ∷ id b ∷ word (codes "}") ∷ word (codes ";") ∷ []) ++ qs) g c h (λ us y r s.
    ends_term part.Braced rule.CatTerm (id a ∷ word (codes ",") ∷ id b ∷ word (codes "}") ∷ word (codes ";") ∷ []) qs g c h refl (λ d ts. refl)
    (operand_braced a)
    (at_id a, (at_word f.Comma (codes ",") refl, (at_id b, (at_word f.CloseBrace (codes "}") refl, (at_word f.Semicolon (codes ";") refl, tt)))))
    us y (λ front m. cat_value a b y.operand front m ∙ sym e) k r s) ts d z i
term_line (t.Rep n a) qs g c h e k ts d z i =
    with_brace ((num n ∷ word (codes "{") ∷ id a ∷ word (codes "}") ∷ word (codes "}") ∷ word (codes ";") ∷ []) ++ qs) g c h (λ us y r s.
    ends_term part.Braced rule.RepTerm (num n ∷ word (codes "{") ∷ id a ∷ word (codes "}") ∷ word (codes "}") ∷ word (codes ";") ∷ []) qs g c h refl
    (λ d ts. refl) (number_braced n) (
      at_num n,
      (
        at_word f.OpenBrace (codes "{") refl,
        (
          at_id a,
          (
            at_word f.CloseBrace (codes "}") refl,
            (at_word f.CloseBrace (codes "}") refl, (at_word f.Semicolon (codes ";") refl, tt)),
          ),
        ),
      ),
    )
    us y (λ front m. rep_value n a y.operand front m ∙ sym e) k r s) ts d z i
term_line (t.Read m a) qs g c h e k ts d z i =
    ends_term part.Term rule.ReadTerm (term_pieces (t.Read m a)) qs g c h refl (λ d ts. refl) (array_term m)
    (at_array m, (at_word f.OpenSquare (codes "[") refl, (at_id a, (at_word f.CloseSquare (codes "]") refl, (at_word f.Semicolon (codes ";") refl, tt)))))
    ts d (λ front x. read_value m a d.operand front x ∙ sym e) k z i

headed : (d : Draft) (g : File) (c : CellDecl) (front : Row) → d.file ≡ g → d.writes ≡ [] → AreTokens (head_pieces c) front
    → IsHeaded (taken d rule.CellHead front) g c
headed d g c _ e w (one_more is_word (one_more is_word (one_more (is_num n) (one_more is_word (one_more is_word (one_more is_word (one_more (is_named i) (one_more is_word (one_more is_first (one_more (is_named j) k)))))))))) =
    record { file = e; writes = w; line_is = refl; name_is = refl; high_is = ap (λ (o : Option ℕ). unwrap_or o 0) n; target_is = refl }

-- the pieces of a cell are read as it
pub cell_line : (h : File) (c : CellDecl) (qs : List Piece) (g : File) → ((q : Part) → HasCells q → Reads q qs (add_cell g c) h)
    → (q : Part) → HasCells q → Reads q (cell_pieces c ++ qs) g h
cell_line h c qs g k q i ts d a e w =
    takes q rule.CellHead (head_pieces c) (term_pieces c.term ++ qs) ts d h (by_word q rule.CellHead (codes "wire") i.cell) (
      at_word f.Wire (codes "wire") refl,
      in_range c.high (f.CellName ∷ f.Semicolon ∷ f.Assign ∷ f.CellName ∷ f.Equals ∷ [])
          (name is_cell c.name ∷ word (codes ";") ∷ first c.line (codes "assign") ∷ name is_cell c.target ∷ word (codes "=") ∷ []) (
            at_cell c.name,
            (
              at_word f.Semicolon (codes ";") refl,
              (
                at_first f.Assign (codes "assign") c.line refl,
                (at_cell c.target, (at_word f.Equals (codes "=") refl, tt)),
              ),
            ),
          ),
    ) a
    (λ front back x y. term_line c.term qs g c h refl (k part.Cells at_cells) back (taken d rule.CellHead front) y (headed d g c front e w x))

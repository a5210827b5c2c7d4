-- The pieces that the tokens of each rule of the table are.
use Rattle.std.proofs.Common.{◌≡◌, ℕ, true, false, List, [], ◌∷◌, ◌++◌, bytes_eq, codes, Option, Some, None, is_some, unwrap_or, nat_eq, drop, refl, sym, ap, ◌∙◌, subst, arith}
use Rattle.std.specs.List.{starts_with}
use Rattle.std.proofs.lemmas.Bool.{and_parts}
use Rattle.std.proofs.lemmas.Bool.Decides.{nat_tests}
use Rattle.pdl_net.specs.declared.BinOp.{BinOp}
use Rattle.pdl_net.specs.declared.BinOp.TheVariants.{Add}
use Rattle.pdl_vread_text.specs.declared.field.Field.TheVariants as f
use Rattle.pdl_vread_text.specs.declared.rule.VerilogRule.TheVariants as rule
use Rattle.pdl_vread_text.specs.declared.file.Term.{Term}
use Rattle.pdl_vread_text.specs.declared.file.PortDecl.{PortDecl}
use Rattle.pdl_vread_text.specs.declared.file.RegDecl.{RegDecl}
use Rattle.pdl_vread_text.specs.declared.file.ArrayDecl.{ArrayDecl}
use Rattle.pdl_vread_text.specs.declared.file.OutputDecl.{OutputDecl}
use Rattle.pdl_vread_text.specs.declared.file.RegBlock.{RegBlock}
use Rattle.pdl_vread_text.specs.declared.file.WriteDecl.{WriteDecl}
use Rattle.pdl_vread_text.specs.declared.file.File.{File}
use Rattle.pdl_vread_text.specs.Tokens.{Token}
use Rattle.pdl_vread_text.specs.Words.{number_of, constant_of, operator_of, is_module, is_array}
use Rattle.pdl_vread_text.specs.Grammar as table
use Rattle.pdl_vread_text.specs.Grammar.{Row, AllFit, fits, fields}
use Rattle.pdl_word.proofs.Bytes.{bytes_same}
use Rattle.pdl_plain.specs.NetlistTexts.{Piece, word, first, num, const, op, name, IsPiece, is_word, is_first, is_num, is_const, is_op, is_name as is_named, AreTokens, no_more, one_more, range, id, opening, port_pieces, closing, reg_pieces, array_pieces, head_pieces, output_pieces, always, write_pieces}
use Rattle.pdl_plain.proofs.DeclaredLines.{port, reg, array, head_file}
use Rattle.pdl_plain.proofs.CellLines.{cell}
use Rattle.pdl_plain.proofs.DrivenLines.{driven, output, reg_block}
use Rattle.pdl_plain.proofs.BlockLines.{write_decl}

-- tokens of pieces, and others after them, are those of both
pub join : (ps qs : List Piece) (a b : Row) → AreTokens ps a → AreTokens qs b → AreTokens (ps ++ qs) (a ++ b)
join [] qs _ b no_more h = h
join (p ∷ ps) qs _ b (one_more {ts = ts} k g) h = one_more k (join ps qs ts b g h)

-- ---- single tokens

is_the : (x : List ℕ) (t : Token) → bytes_eq t.text x ≡ true → IsPiece (word x) t
is_the x t e = subst (λ z. IsPiece (word z) t) (bytes_same t.text x e) is_word

is_at : (x : List ℕ) (t : Token) → bytes_eq t.text x ≡ true → IsPiece (first t.line x) t
is_at x t e = subst (λ z. IsPiece (first t.line z) t) (bytes_same t.text x e) is_first

some_is : {X : Type 0} (o : Option X) (d : X) → is_some o ≡ true → o ≡ Some (unwrap_or o d)
some_is None d e = absurd (cc)
some_is (Some x) d e = refl

abbrev number : Token → ℕ
number t = unwrap_or (number_of t.text) 0

a_number : (t : Token) → is_some (number_of t.text) ≡ true → IsPiece (num (number t)) t
a_number t e = is_num (some_is (number_of t.text) 0 e)

ranged : (a b c d e : Token) (ps : List Piece) (ts : Row) → fits f.OpenSquare a.text ≡ true → fits f.Number b.text ≡ true → fits f.Colon c.text ≡ true
    → fits f.Zero d.text ≡ true → fits f.CloseSquare e.text ≡ true → AreTokens ps ts → AreTokens (range (number b) ps) (a ∷ b ∷ c ∷ d ∷ e ∷ ts)
ranged a b c d e ps ts i j k l m h =
    one_more (is_the (codes "[") a i) (one_more (a_number b j) (one_more (is_the (codes ":") c k)
    (one_more (is_the (codes "0") d l) (one_more (is_the (codes "]") e m) h))))

-- ---- rules

-- a port after a comma
pub input_of : (a b : Row) → AllFit (fields rule.NextPort) a → AllFit (fields rule.InputPort) b → (p : PortDecl) × AreTokens (port_pieces p) (a ++ b)
input_of _ _ (table.more {t = q} u table.none) (table.more {t = a} p (table.more {t = b} w (table.more {t = c} i (table.more {t = d} j (table.more {t = e} k (table.more {t = g} l (table.more {t = h} m (table.more {t = n} o table.none)))))))) = (
  port a.line n.text (number d) true,
  one_more (is_the (codes ",") q u) (one_more (is_at (codes "input") a p) (one_more (is_the (codes "wire") b w)
      (ranged c d e g h _ _ i j k l m (one_more (is_named o) no_more)))),
)

-- a port that is an output, after a comma
pub output_port_of : (a b : Row) → AllFit (fields rule.NextPort) a → AllFit (fields rule.OutputPort) b → (p : PortDecl) × AreTokens (port_pieces p) (a ++ b)
output_port_of _ _ (table.more {t = q} u table.none) (table.more {t = a} p (table.more {t = b} w (table.more {t = c} i (table.more {t = d} j (table.more {t = e} k (table.more {t = g} l (table.more {t = h} m (table.more {t = n} o table.none)))))))) = (
  port a.line n.text (number d) false,
  one_more (is_the (codes ",") q u) (one_more (is_at (codes "output") a p) (one_more (is_the (codes "wire") b w)
      (ranged c d e g h _ _ i j k l m (one_more (is_named o) no_more)))),
)

-- a register
pub reg_of : (a b : Row) → AllFit (fields rule.RegRange) a → AllFit (fields rule.RegDeclared) b → (r : RegDecl) × AreTokens (reg_pieces r) (a ++ b)
reg_of _ _ (table.more {t = a} p (table.more {t = c} i (table.more {t = d} j (table.more {t = e} k (table.more {t = g} l (table.more {t = h} m table.none)))))) (table.more {t = x} q (table.more {t = y} r table.none)) = (
  reg a.line x.text (number d),
  one_more (is_at (codes "reg") a p) (ranged c d e g h _ _ i j k l m (one_more (is_named q) (one_more (is_the (codes ";") y r) no_more))),
)

-- an array
pub array_of : (a b : Row) → AllFit (fields rule.RegRange) a → AllFit (fields rule.ArrayDeclared) b → (r : ArrayDecl) × AreTokens (array_pieces r) (a ++ b)
array_of _ _ (table.more {t = a} p (table.more {t = c} i (table.more {t = d} j (table.more {t = e} k (table.more {t = g} l (table.more {t = h} m table.none)))))) (table.more {t = x} q (table.more {t = x1} q1 (table.more {t = x2} q2 (table.more {t = x3} q3 (table.more {t = x4} q4 (table.more {t = x5} q5 (table.more {t = x6} q6 table.none))))))) = (
  array a.line x.text (number d) (number x4),
  one_more (is_at (codes "reg") a p) (ranged c d e g h _ _ i j k l m (one_more (is_named q) (one_more (is_the (codes "[") x1 q1)
      (one_more (is_the (codes "0") x2 q2) (one_more (is_the (codes ":") x3 q3) (one_more (a_number x4 q4)
      (one_more (is_the (codes "]") x5 q5) (one_more (is_the (codes ";") x6 q6) no_more)))))))),
)

-- the head of a cell, of any term
pub record HeadOf (a : Row) : Type 0 where
  pub line : ℕ
  pub called : List ℕ
  pub high : ℕ
  pub target : List ℕ
  pub tokens : (tm : Term) → AreTokens (head_pieces (cell line called high target tm)) a

-- the head of a cell
pub head_of : (a : Row) → AllFit (fields rule.CellHead) a → HeadOf a
head_of _ (table.more {t = a} p (table.more {t = c} i (table.more {t = d} j (table.more {t = e} k (table.more {t = g} l (table.more {t = h} m (table.more {t = x1} q1 (table.more {t = x2} q2 (table.more {t = x3} q3 (table.more {t = x4} q4 (table.more {t = x5} q5 table.none))))))))))) =
    record {
      line = x3.line;
      called = x1.text;
      high = number d;
      target = x4.text;
      tokens = λ tm. one_more (is_the (codes "wire") a p) (ranged c d e g h _ _ i j k l m (one_more (is_named q1) (one_more (is_the (codes ";") x2 q2)
          (one_more (is_at (codes "assign") x3 q3) (one_more (is_named q4) (one_more (is_the (codes "=") x5 q5) no_more))))));
    }

-- a constant
pub const_of : (a : Row) → AllFit (fields rule.ConstTerm) a → (w v : ℕ) × AreTokens (const w v ∷ word (codes ";") ∷ []) a
const_of _ (table.more {t = a} p (table.more {t = b} q table.none)) =
    let k = unwrap_or (constant_of a.text) (record { width = 0; value = 0 }) in
    (k.width, k.value, one_more (is_const (some_is (constant_of a.text) (record { width = 0; value = 0 }) p)) (one_more (is_the (codes ";") b q) no_more))

-- a word with its bits the other way
pub not_of : (a : Row) → AllFit (fields rule.NotTerm) a → (x : List ℕ) × AreTokens (word (codes "~") ∷ id x ∷ word (codes ";") ∷ []) a
not_of _ (table.more {t = a} p (table.more {t = b} q (table.more {t = c} r table.none))) =
    (b.text, one_more (is_the (codes "~") a p) (one_more (is_named q) (one_more (is_the (codes ";") c r) no_more)))

-- a word of an array
pub read_of : (a : Row) → AllFit (fields rule.ReadTerm) a
    → (m x : List ℕ) × AreTokens (name is_array m ∷ word (codes "[") ∷ id x ∷ word (codes "]") ∷ word (codes ";") ∷ []) a
read_of _ (table.more {t = a} p (table.more {t = b} q (table.more {t = c} r (table.more {t = d} s (table.more {t = e} u table.none))))) = (
  a.text,
  c.text,
  one_more (is_named p) (one_more (is_the (codes "[") b q) (one_more (is_named r) (one_more (is_the (codes "]") d s)
      (one_more (is_the (codes ";") e u) no_more)))),
)

-- an operand
pub operand_of : (a : Row) → AllFit (fields rule.FirstOperand) a → (x : List ℕ) × AreTokens (id x ∷ []) a
operand_of _ (table.more {t = a} p table.none) = (a.text, one_more (is_named p) no_more)

-- a brace
pub brace_of : (a : Row) → AllFit (fields rule.OpenTerm) a → AreTokens (word (codes "{") ∷ []) a
brace_of _ (table.more {t = a} p table.none) = one_more (is_the (codes "{") a p) no_more

-- what comes after an operand, for any operand
pub bin_of : (a : Row) → AllFit (fields rule.BinTerm) a → (o : BinOp) × (y : List ℕ) × AreTokens (op o ∷ id y ∷ word (codes ";") ∷ []) a
bin_of _ (table.more {t = a} p (table.more {t = b} q (table.more {t = c} r table.none))) =
    (unwrap_or (operator_of a.text) Add, b.text, one_more (is_op (some_is (operator_of a.text) Add p)) (one_more (is_named q) (one_more (is_the (codes ";") c r) no_more)))

-- a choice, likewise
pub mux_of : (a : Row) → AllFit (fields rule.MuxTerm) a
    → (x y : List ℕ) × AreTokens (word (codes "?") ∷ id x ∷ word (codes ":") ∷ id y ∷ word (codes ";") ∷ []) a
mux_of _ (table.more {t = a} p (table.more {t = b} q (table.more {t = c} r (table.more {t = d} s (table.more {t = e} u table.none))))) = (
  b.text,
  d.text,
  one_more (is_the (codes "?") a p) (one_more (is_named q) (one_more (is_the (codes ":") c r) (one_more (is_named s)
      (one_more (is_the (codes ";") e u) no_more)))),
)

-- a range of bits, likewise
pub slice_of : (a : Row) → AllFit (fields rule.SliceTerm) a
    → (h l : ℕ) × AreTokens (word (codes "[") ∷ num h ∷ word (codes ":") ∷ num l ∷ word (codes "]") ∷ word (codes ";") ∷ []) a
slice_of _ (table.more {t = a} p (table.more {t = b} q (table.more {t = c} r (table.more {t = d} s (table.more {t = e} u (table.more {t = g} v table.none)))))) = (
  number b,
  number d,
  one_more (is_the (codes "[") a p) (one_more (a_number b q) (one_more (is_the (codes ":") c r) (one_more (a_number d s)
      (one_more (is_the (codes "]") e u) (one_more (is_the (codes ";") g v) no_more))))),
)

-- two joined operands
pub cat_of : (a : Row) → AllFit (fields rule.CatTerm) a
    → (x y : List ℕ) × AreTokens (id x ∷ word (codes ",") ∷ id y ∷ word (codes "}") ∷ word (codes ";") ∷ []) a
cat_of _ (table.more {t = a} p (table.more {t = b} q (table.more {t = c} r (table.more {t = d} s (table.more {t = e} u table.none))))) = (
  a.text,
  c.text,
  one_more (is_named p) (one_more (is_the (codes ",") b q) (one_more (is_named r) (one_more (is_the (codes "}") d s)
      (one_more (is_the (codes ";") e u) no_more)))),
)

-- a repeated operand
pub rep_of : (a : Row) → AllFit (fields rule.RepTerm) a
    → (n : ℕ) × (x : List ℕ) × AreTokens (num n ∷ word (codes "{") ∷ id x ∷ word (codes "}") ∷ word (codes "}") ∷ word (codes ";") ∷ []) a
rep_of _ (table.more {t = a} p (table.more {t = b} q (table.more {t = c} r (table.more {t = d} s (table.more {t = e} u (table.more {t = g} v table.none)))))) = (
  number a,
  c.text,
  one_more (a_number a p) (one_more (is_the (codes "{") b q) (one_more (is_named r) (one_more (is_the (codes "}") d s)
      (one_more (is_the (codes "}") e u) (one_more (is_the (codes ";") g v) no_more))))),
)

-- a driven output
pub output_of : (a : Row) → AllFit (fields rule.OutputDriven) a → (o : OutputDecl) × AreTokens (output_pieces o) a
output_of _ (table.more {t = a} p (table.more {t = b} q (table.more {t = c} r (table.more {t = d} s (table.more {t = e} u table.none))))) = (
  output a.line b.text d.text,
  one_more (is_at (codes "assign") a p) (one_more (is_named q) (one_more (is_the (codes "=") c r) (one_more (is_named s)
      (one_more (is_the (codes ";") e u) no_more)))),
)

-- the beginning of a block
pub always_of : (a : Row) → AllFit (fields rule.BlockHead) a → (line : ℕ) × AreTokens (always line []) a
always_of _ (table.more {t = a} p (table.more {t = b} q (table.more {t = c} r (table.more {t = d} s (table.more {t = e} u (table.more {t = g} v table.none)))))) = (
  a.line,
  one_more (is_at (codes "always") a p) (one_more (is_the (codes "@") b q) (one_more (is_the (codes "(") c r) (one_more (is_the (codes "posedge") d s)
      (one_more (is_the (codes "clk") e u) (one_more (is_the (codes ")") g v) no_more))))),
)

-- the beginning of a later block of an array
pub later_block_of : (a : Row) → AllFit (fields rule.ArrayHead) a → (line : ℕ) × AreTokens (always line (word (codes "begin") ∷ [])) a
later_block_of _ (table.more {t = a} p (table.more {t = b} q (table.more {t = c} r (table.more {t = d} s (table.more {t = e} u (table.more {t = g} v (table.more {t = h} w table.none))))))) = (
  a.line,
  one_more (is_at (codes "always") a p) (one_more (is_the (codes "@") b q) (one_more (is_the (codes "(") c r) (one_more (is_the (codes "posedge") d s)
      (one_more (is_the (codes "clk") e u) (one_more (is_the (codes ")") g v) (one_more (is_the (codes "begin") h w) no_more)))))),
)

-- `begin`
pub begin_of : (a : Row) → AllFit (fields rule.ArrayBegin) a → AreTokens (word (codes "begin") ∷ []) a
begin_of _ (table.more {t = a} p table.none) = one_more (is_the (codes "begin") a p) no_more

-- `end`
pub end_of : (a : Row) → AllFit (fields rule.ArrayEnd) a → AreTokens (word (codes "end") ∷ []) a
end_of _ (table.more {t = a} p table.none) = one_more (is_the (codes "end") a p) no_more

-- the end of a text
pub ending_of : (a : Row) → AllFit (fields rule.Ending) a → AreTokens (word (codes "endmodule") ∷ []) a
ending_of _ (table.more {t = a} p table.none) = one_more (is_the (codes "endmodule") a p) no_more

-- the block of a register on any line
pub driven_of : (a : Row) → AllFit (fields rule.RegDriven) a → (b : ℕ → RegBlock) × ((line : ℕ) → ((b line).line ≡ line) × AreTokens (driven (b line)) a)
driven_of _ (table.more {t = a} p (table.more {t = b} q (table.more {t = c} r (table.more {t = d} s (table.more {t = e} u (table.more {t = g} v (table.more {t = h} w (table.more {t = x} y table.none)))))))) =
    let k = unwrap_or (constant_of e.text) (record { width = 0; value = 0 }) in (
      λ line. reg_block line a.text k h.text,
      λ line. (
        refl,
        one_more (is_named p) (one_more (is_the (codes "<=") b q) (one_more (is_the (codes "rst") c r) (one_more (is_the (codes "?") d s)
            (one_more (is_const (some_is (constant_of e.text) (record { width = 0; value = 0 }) u)) (one_more (is_the (codes ":") g v) (one_more (is_named w)
            (one_more (is_the (codes ";") x y) no_more))))))),
      ),
    )

-- a write
pub write_of : (a : Row) → AllFit (fields rule.Written) a → (w : WriteDecl) × AreTokens (write_pieces w) a
write_of _ (table.more {t = a} p (table.more {t = b} q (table.more {t = c} r (table.more {t = d} s (table.more {t = e} u (table.more {t = g} v (table.more {t = h} w (table.more {t = x} y (table.more {t = z} i (table.more {t = j} k (table.more {t = l} m table.none))))))))))) = (
  write_decl a.line c.text e.text h.text j.text,
  one_more (is_at (codes "if") a p) (one_more (is_the (codes "(") b q) (one_more (is_named r) (one_more (is_the (codes ")") d s) (one_more (is_named u)
      (one_more (is_the (codes "[") g v) (one_more (is_named w) (one_more (is_the (codes "]") x y) (one_more (is_the (codes "<=") z i) (one_more (is_named k)
      (one_more (is_the (codes ";") l m) no_more)))))))))),
)

-- the end of the ports
pub closing_of : (a : Row) → AllFit (fields rule.Closing) a → AreTokens closing a
closing_of _ (table.more {t = a} p (table.more {t = b} q table.none)) = one_more (is_the (codes ")") a p) (one_more (is_the (codes ";") b q) no_more)

four_bytes : (a b c d : ℕ) (cs : List ℕ) → 112 ≡ a → 100 ≡ b → 108 ≡ c → 95 ≡ d → a ∷ b ∷ c ∷ d ∷ cs ≡ 112 ∷ 100 ∷ 108 ∷ 95 ∷ cs
four_bytes a b c d cs p q r s =
    sym (ap (λ x. x ∷ 100 ∷ 108 ∷ 95 ∷ cs) p ∙ (ap (λ x. a ∷ x ∷ 108 ∷ 95 ∷ cs) q ∙ (ap (λ x. a ∷ b ∷ x ∷ 95 ∷ cs) r ∙ ap (λ x. a ∷ b ∷ c ∷ x ∷ cs) s)))

same_byte : (p c : ℕ) → nat_eq p c ≡ true → p ≡ c
same_byte p c e = grind (arith, nat_tests, e)

begun_pdl : (a b c d : ℕ) (cs : List ℕ) → starts_with nat_eq (a ∷ b ∷ c ∷ d ∷ cs) (codes "pdl_") ≡ true → a ∷ b ∷ c ∷ d ∷ cs ≡ codes "pdl_" ++ cs
begun_pdl a b c d cs e =
    let p = and_parts (nat_eq 112 a) _ e in
    let q = and_parts (nat_eq 100 b) _ p.1 in
    let r = and_parts (nat_eq 108 c) _ q.1 in
    let s = and_parts (nat_eq 95 d) _ r.1 in
    four_bytes a b c d cs (same_byte 112 a p.0) (same_byte 100 b q.0) (same_byte 108 c r.0) (same_byte 95 d s.0)

module_text : (x : List ℕ) → is_module x ≡ true → x ≡ codes "pdl_" ++ drop 4 x
module_text [] e = absurd (cc)
module_text (a ∷ []) e = let p = and_parts (nat_eq 112 a) _ (and_parts (starts_with nat_eq (a ∷ []) (codes "pdl_")) _ e).0 in absurd (cc p.1)
module_text (a ∷ b ∷ []) e =
    let p = and_parts (nat_eq 112 a) _ (and_parts (starts_with nat_eq (a ∷ b ∷ []) (codes "pdl_")) _ e).0 in
    let q = and_parts (nat_eq 100 b) _ p.1 in
    absurd (cc q.1)
module_text (a ∷ b ∷ c ∷ []) e =
    let p = and_parts (nat_eq 112 a) _ (and_parts (starts_with nat_eq (a ∷ b ∷ c ∷ []) (codes "pdl_")) _ e).0 in
    let q = and_parts (nat_eq 100 b) _ p.1 in
    let r = and_parts (nat_eq 108 c) _ q.1 in
    absurd (cc r.1)
module_text (a ∷ b ∷ c ∷ d ∷ cs) e = begun_pdl a b c d cs (and_parts (starts_with nat_eq (a ∷ b ∷ c ∷ d ∷ cs) (codes "pdl_")) _ e).0

-- the opening of a text, of any file
pub record OpeningOf (a : Row) : Type 0 where
  pub line : ℕ
  pub called : List ℕ
  pub reset : ℕ
  pub high : ℕ
  pub tokens : (g : File) → AreTokens (opening (head_file line called reset high g)) a

-- the opening of a text
pub opening_of : (a : Row) → AllFit (fields rule.Opening) a → OpeningOf a
opening_of _ (table.more {t = a} p (table.more {t = m} q (table.more {t = b} r (table.more {t = x1} q1 (table.more {t = x2} q2 (table.more {t = x3} q3 (table.more {t = x4} q4 (table.more {t = x5} q5 (table.more {t = x6} q6 (table.more {t = c} i (table.more {t = d} j (table.more {t = e} k (table.more {t = g} l (table.more {t = h} n (table.more {t = z} o table.none))))))))))))))) =
    record {
      line = a.line;
      called = drop 4 m.text;
      reset = x5.line;
      high = number d;
      tokens = λ y. one_more (is_at (codes "module") a p)
          (one_more (subst (λ u. IsPiece (name is_module u) m) (module_text m.text q) (is_named q)) (one_more (is_the (codes "(") b r)
          (one_more (is_the (codes "input") x1 q1) (one_more (is_the (codes "wire") x2 q2) (one_more (is_the (codes "clk") x3 q3)
          (one_more (is_the (codes ",") x4 q4) (one_more (is_at (codes "input") x5 q5) (one_more (is_the (codes "wire") x6 q6)
          (ranged c d e g h _ _ i j k l n (one_more (is_the (codes "rst") z o) no_more))))))))));
    }

-- The lines that declare: the opening of a text, its ports, registers and arrays.
use Rattle.std.proofs.Common.{◌≡◌, ℕ, Bool, true, false, if◌then◌else◌, inl, inr, List, [], ◌∷◌, ◌++◌, drop, codes, Option, Some, unwrap_or, refl, ap, ◌∙◌, subst, sym}
use Rattle.std.proofs.lemmas.Bool.{cond-true}
use Rattle.pdl_vread_text.specs.declared.field.Field.TheVariants as f
use Rattle.pdl_vread_text.specs.declared.part.Part.{Part}
use Rattle.pdl_vread_text.specs.declared.part.Part.TheVariants as part
use Rattle.pdl_vread_text.specs.declared.rule.VerilogRule.TheVariants as rule
use Rattle.pdl_vread_text.specs.declared.file.PortDecl.{PortDecl}
use Rattle.pdl_vread_text.specs.declared.file.RegDecl.{RegDecl}
use Rattle.pdl_vread_text.specs.declared.file.ArrayDecl.{ArrayDecl}
use Rattle.pdl_vread_text.specs.declared.file.File.{File}
use Rattle.pdl_vread_text.specs.declared.draft.Draft.{Draft}
use Rattle.pdl_vread_text.specs.Tokens.{Token}
use Rattle.pdl_vread_text.specs.Words.{is_port, is_reg, is_array}
use Rattle.pdl_vread_text.specs.Grammar.{Row, fields, chosen}
use Rattle.pdl_vread_text.specs.Drafts.{taken, text_at, line_at, number_at}
use Rattle.pdl_plain.specs.NetlistTexts.{Piece, word, first, num, name, IsPiece, is_word, is_first, is_num, is_name as is_named, AreTokens, no_more, one_more, range, opening, port_pieces, closing, reg_pieces, array_pieces}
use Rattle.pdl_plain.proofs.RuleSteps.{AllMatch, Goes, HasArrays, HasPorts, HasRegs, Reads, at_array, at_arrays, at_first, at_module, at_num, at_port, at_ports, at_reg, at_regs, at_word, by_first, by_word, cong3, in_range, takes}
use Rattle.pdl_plain.proofs.NameBytes.{array_declared, later_declared}

-- ---- the opening and the ports

-- a file with what its opening declares
abbrev pub head_file : ℕ → List ℕ → ℕ → ℕ → File → File
head_file line x reset high g = record g { line = line; name = x; reset_line = reset; reset_high = high }

opening_value : (g h : File) (front : Row) → AreTokens (opening h) front
    → head_file (line_at front 0) (drop 4 (text_at front 1)) (line_at front 7) (number_at front 10) g
    ≡ head_file h.line h.name h.reset_line h.reset_high g
opening_value g h _ (one_more is_first (one_more (is_named i) (one_more is_word (one_more is_word (one_more is_word (one_more is_word (one_more is_word (one_more is_first (one_more is_word (one_more is_word (one_more (is_num e) (one_more is_word (one_more is_word (one_more is_word (one_more is_word no_more))))))))))))))) =
    ap (λ (o : Option ℕ). head_file h.line h.name h.reset_line (unwrap_or o 0) g) e

opening_chosen : (text : List ℕ) → text ≡ codes "module" → chosen part.Start text ≡ Some rule.Opening
unfolding chosen
opening_chosen text e = subst (λ x. chosen part.Start x ≡ Some rule.Opening) (sym e) refl

-- the pieces of an opening are read as it
pub opening_line : (x : File) (qs : List Piece) (g h : File)
    → Reads part.Ports qs (head_file x.line x.name x.reset_line x.reset_high g) h → Reads part.Start (opening x ++ qs) g h
opening_line x qs g h k ts d a e w =
    takes part.Start rule.Opening (opening x) qs ts d h (by_first part.Start rule.Opening x.line (codes "module") (opening_chosen (codes "module") refl)) (
      at_first f.Module (codes "module") x.line refl,
      (
        at_module (codes "pdl_" ++ x.name),
        (
          at_word f.OpenRound (codes "(") refl,
          (
            at_word f.Input (codes "input") refl,
            (
              at_word f.Wire (codes "wire") refl,
              (
                at_word f.Clock (codes "clk") refl,
                (
                  at_word f.Comma (codes ",") refl,
                  (
                    at_first f.Input (codes "input") x.reset_line refl,
                    (
                      at_word f.Wire (codes "wire") refl,
                      in_range x.reset_high (f.Reset ∷ []) (word (codes "rst") ∷ []) (at_word f.Reset (codes "rst") refl, tt),
                    ),
                  ),
                ),
              ),
            ),
          ),
        ),
      ),
    ) a
    (λ front back i j. k back (taken d rule.Opening front) j
    (opening_value d.file x front i ∙ ap (head_file x.line x.name x.reset_line x.reset_high) e) w)

-- a port with its line, its name, the high end of its range, and whether it is an input
abbrev pub port : ℕ → List ℕ → ℕ → Bool → PortDecl
port line x high b = record { line = line; name = x; high = high; input = b }

-- a file with one port more
abbrev pub add_port : File → PortDecl → File
add_port g p = record g { ports = g.ports ++ p ∷ [] }

abbrev port_tail : ℕ → List ℕ → List ℕ → ℕ → List Piece
port_tail line way x high = first line way ∷ word (codes "wire") ∷ range high (name is_port x ∷ [])

port_value : (line high : ℕ) (x way : List ℕ) (b : Bool) (front : Row) → AreTokens (port_tail line way x high) front
    → port (line_at front 0) (text_at front 7) (number_at front 3) b ≡ port line x high b
port_value line high x way b _ (one_more is_first (one_more is_word (one_more is_word (one_more (is_num e) (one_more is_word (one_more is_word (one_more is_word (one_more (is_named i) no_more)))))))) =
    ap (λ (o : Option ℕ). port line x (unwrap_or o 0) b) e

input_chosen : chosen part.Direction (codes "input") ≡ Some rule.InputPort
unfolding chosen
input_chosen = refl

output_chosen : chosen part.Direction (codes "output") ≡ Some rule.OutputPort
unfolding chosen
output_chosen = refl

port_by : (b : Bool) (line : ℕ) (x : List ℕ) (high : ℕ) (qs : List Piece) (g h : File)
    → Reads part.Ports qs (add_port g (port line x high b)) h
    → Reads part.Direction (port_tail line (if b then codes "input" else codes "output") x high ++ qs) g h
port_by true line x high qs g h k ts d a e w =
    takes part.Direction rule.InputPort (port_tail line (codes "input") x high) qs ts d h (by_first part.Direction rule.InputPort line (codes "input") input_chosen)
    (at_first f.Input (codes "input") line refl, (at_word f.Wire (codes "wire") refl, in_range high (f.PortName ∷ []) (name is_port x ∷ []) (at_port x, tt))) a
    (λ front back i j. k back (taken d rule.InputPort front) j
    (ap (λ y. add_port y (port (line_at front 0) (text_at front 7) (number_at front 3) true)) e ∙ ap (add_port g) (port_value line high x (codes "input") true front i)) w)
port_by false line x high qs g h k ts d a e w =
    takes part.Direction rule.OutputPort (port_tail line (codes "output") x high) qs ts d h (by_first part.Direction rule.OutputPort line (codes "output") output_chosen)
    (at_first f.Output (codes "output") line refl, (at_word f.Wire (codes "wire") refl, in_range high (f.PortName ∷ []) (name is_port x ∷ []) (at_port x, tt))) a
    (λ front back i j. k back (taken d rule.OutputPort front) j
    (ap (λ y. add_port y (port (line_at front 0) (text_at front 7) (number_at front 3) false)) e ∙ ap (add_port g) (port_value line high x (codes "output") false front i)) w)

-- the pieces of a port are read as it
pub port_line : (h : File) (p : PortDecl) (qs : List Piece) (g : File) → ((q : Part) → HasPorts q → Reads q qs (add_port g p) h)
    → (q : Part) → HasPorts q → Reads q (port_pieces p ++ qs) g h
port_line h p qs g k q c ts d a e w =
    takes q rule.NextPort (word (codes ",") ∷ []) (port_tail p.line (if p.input then codes "input" else codes "output") p.name p.high ++ qs) ts d h
    (by_word q rule.NextPort (codes ",") c.comma) (at_word f.Comma (codes ",") refl, tt) a
    (λ front back i j. port_by p.input p.line p.name p.high qs g h (k part.Ports at_ports) back d j e w)

-- after the ports the registers come
pub closing_line : (qs : List Piece) (g h : File) → Reads part.Regs qs g h → (q : Part) → HasPorts q → Reads q (closing ++ qs) g h
closing_line qs g h k q c ts d a e w =
    takes q rule.Closing closing qs ts d h (by_word q rule.Closing (codes ")") c.close)
    (at_word f.CloseRound (codes ")") refl, (at_word f.Semicolon (codes ";") refl, tt)) a (λ front back i j. k back d j e w)

-- ---- registers and arrays

-- a register with its line, its name and the high end of its range
abbrev pub reg : ℕ → List ℕ → ℕ → RegDecl
reg line x high = record { line = line; name = x; high = high }

-- a file with one register more
abbrev pub add_reg : File → RegDecl → File
add_reg g r = record g { regs = g.regs ++ r ∷ [] }

-- the line of tokens whose first stands on a line
pub line_value : (line : ℕ) (x : List ℕ) (ps : List Piece) (front : Row) → AreTokens (first line x ∷ ps) front → line_at front 0 ≡ line
line_value line x ps _ (one_more is_first i) = refl

high_value : (line high : ℕ) (x : List ℕ) (front : Row) → AreTokens (first line x ∷ range high []) front → number_at front 2 ≡ high
high_value line high x _ (one_more is_first (one_more is_word (one_more (is_num e) i))) = ap (λ (o : Option ℕ). unwrap_or o 0) e

-- the bytes of a first token that is a name
pub name_value : (kind : List ℕ → Bool) (x : List ℕ) (ps : List Piece) (front : Row)
    → AreTokens (name kind x ∷ ps) front → text_at front 0 ≡ x
name_value kind x ps _ (one_more (is_named e) i) = refl

reg_chosen : (x : List ℕ) (t : Token) → IsPiece (name is_reg x) t → chosen part.Declared t.text ≡ Some rule.RegDeclared
unfolding chosen
reg_chosen x _ (is_named e) = cond-true _ _ _ e

-- the pieces of a register are read as it
pub reg_line : (h : File) (r : RegDecl) (qs : List Piece) (g : File) → ((q : Part) → HasRegs q → Reads q qs (add_reg g r) h)
    → (q : Part) → HasRegs q → Reads q (reg_pieces r ++ qs) g h
reg_line h r qs g k q c ts d a e w =
    takes q rule.RegRange (first r.line (codes "reg") ∷ range r.high []) (name is_reg r.name ∷ word (codes ";") ∷ qs) ts d h
    (by_first q rule.RegRange r.line (codes "reg") c.reg) (at_first f.Reg (codes "reg") r.line refl, in_range r.high [] [] tt) a
    (λ front back i j. takes part.Declared rule.RegDeclared (name is_reg r.name ∷ word (codes ";") ∷ []) qs back (taken d rule.RegRange front) h
    (reg_chosen r.name) (at_reg r.name, (at_word f.Semicolon (codes ";") refl, tt)) j
    (λ more rest m n. k part.Regs at_regs rest (taken (taken d rule.RegRange front) rule.RegDeclared more) n
    (ap (λ y. add_reg y (reg (line_at front 0) (text_at more 0) (number_at front 2))) e
    ∙ ap (add_reg g) (cong3 reg (line_at front 0) r.line (text_at more 0) r.name (number_at front 2) r.high
    (line_value r.line (codes "reg") (range r.high []) front i) (name_value is_reg r.name (word (codes ";") ∷ []) more m)
    (high_value r.line r.high (codes "reg") front i))) w))

-- ---- arrays

-- an array with its line, its name, the high end of its range and its last address
abbrev pub array : ℕ → List ℕ → ℕ → ℕ → ArrayDecl
array line x high last = record { line = line; name = x; high = high; last = last }

-- a file with one array more
abbrev pub add_array : File → ArrayDecl → File
add_array g a = record g { arrays = g.arrays ++ a ∷ [] }

abbrev array_tail : ArrayDecl → List Piece
array_tail a = name is_array a.name ∷ word (codes "[") ∷ word (codes "0") ∷ word (codes ":") ∷ num a.last ∷ word (codes "]") ∷ word (codes ";") ∷ []

last_value : (a : ArrayDecl) (front : Row) → AreTokens (array_tail a) front → number_at front 4 ≡ a.last
last_value a _ (one_more (is_named k) (one_more is_word (one_more is_word (one_more is_word (one_more (is_num e) i))))) = ap (λ (o : Option ℕ). unwrap_or o 0) e

tail_match : (a : ArrayDecl) → AllMatch (fields rule.ArrayDeclared) (array_tail a)
tail_match a = (
  at_array a.name,
  (
    at_word f.OpenSquare (codes "[") refl,
    (
      at_word f.Zero (codes "0") refl,
      (
        at_word f.Colon (codes ":") refl,
        (at_num a.last, (at_word f.CloseSquare (codes "]") refl, (at_word f.Semicolon (codes ";") refl, tt))),
      ),
    ),
  ),
)

array_rest : (h : File) (a : ArrayDecl) (qs : List Piece) (g : File) → Reads part.Arrays qs (add_array g a) h
    → (p : Part) → ((t : Token) → IsPiece (name is_array a.name) t → chosen p t.text ≡ Some rule.ArrayDeclared)
    → (front back : Row) (d : Draft) → d.file ≡ g → d.writes ≡ [] → AreTokens (first a.line (codes "reg") ∷ range a.high []) front
    → AreTokens (array_tail a ++ qs) back → Goes p back (record d { line = line_at front 0; high = number_at front 2 }) h
array_rest h a qs g k p c front back d e w i j =
    let ranged : Draft = record d { line = line_at front 0; high = number_at front 2 } in
    takes p rule.ArrayDeclared (array_tail a) qs back ranged h c (tail_match a) j (λ more rest m n.
    k rest (taken ranged rule.ArrayDeclared more) n
    (ap (λ y. add_array y (array (line_at front 0) (text_at more 0) (number_at front 2) (number_at more 4))) e
    ∙ (ap (λ z. add_array g (array (line_at front 0) (text_at more 0) (number_at front 2) z)) (last_value a more m)
    ∙ ap (add_array g) (cong3 (λ l x n. array l x n a.last) (line_at front 0) a.line (text_at more 0) a.name (number_at front 2) a.high
    (line_value a.line (codes "reg") (range a.high []) front i)
    (name_value is_array a.name (word (codes "[") ∷ word (codes "0") ∷ word (codes ":") ∷ num a.last ∷ word (codes "]") ∷ word (codes ";") ∷ []) more m)
    (high_value a.line a.high (codes "reg") front i)))) w)

-- the pieces of an array are read as it
pub array_line : (h : File) (a : ArrayDecl) (qs : List Piece) (g : File) → ((q : Part) → HasArrays q → Reads q qs (add_array g a) h)
    → (q : Part) → HasArrays q → Reads q (array_pieces a ++ qs) g h
array_line h a qs g k q c ts d i e w = elim c.array [
  | inl r ↦
      takes q rule.RegRange (first a.line (codes "reg") ∷ range a.high []) (array_tail a ++ qs) ts d h
      (by_first q rule.RegRange a.line (codes "reg") r) (at_first f.Reg (codes "reg") a.line refl, in_range a.high [] [] tt) i
      (λ front back m n. array_rest h a qs g (k part.Arrays at_arrays) part.Declared (array_declared a.name) front back d e w m n)
  | inr r ↦
      takes q rule.ArrayRange (first a.line (codes "reg") ∷ range a.high []) (array_tail a ++ qs) ts d h
      (by_first q rule.ArrayRange a.line (codes "reg") r) (at_first f.Reg (codes "reg") a.line refl, in_range a.high [] [] tt) i
      (λ front back m n. array_rest h a qs g (k part.Arrays at_arrays) part.LaterArray (later_declared a.name) front back d e w m n)
]

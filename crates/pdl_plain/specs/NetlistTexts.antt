-- The grammar of netlists' texts, line by line: which tokens the text of a file has.
use Rattle.std.specs.Prelude.{◌≡◌, ℕ, Bool, true, List, [], ◌∷◌, ◌++◌, codes, length, ◌≤◌, Some, if◌then◌else◌}
use Rattle.pdl_net.specs.declared.BinOp.{BinOp}
use Rattle.pdl_vread_text.specs.declared.file.Term.{Term}
use Rattle.pdl_vread_text.specs.declared.file.Term.TheVariants.{Const, Not, Bin, Mux, Slice, Cat, Rep, Read}
use Rattle.pdl_vread_text.specs.declared.file.PortDecl.{PortDecl}
use Rattle.pdl_vread_text.specs.declared.file.RegDecl.{RegDecl}
use Rattle.pdl_vread_text.specs.declared.file.ArrayDecl.{ArrayDecl}
use Rattle.pdl_vread_text.specs.declared.file.CellDecl.{CellDecl}
use Rattle.pdl_vread_text.specs.declared.file.OutputDecl.{OutputDecl}
use Rattle.pdl_vread_text.specs.declared.file.RegBlock.{RegBlock}
use Rattle.pdl_vread_text.specs.declared.file.WriteDecl.{WriteDecl}
use Rattle.pdl_vread_text.specs.declared.file.ArrayBlock.{ArrayBlock}
use Rattle.pdl_vread_text.specs.declared.file.File.{File}
use Rattle.pdl_vread_text.specs.Tokens.{Token, tokens}
use Rattle.pdl_vread_text.specs.Words.{number_of, constant_of, operator_of, is_module, is_port, is_reg, is_array, is_cell, is_operand}
use Rattle.pdl_vread_text.specs.Grammar.{Row}
use Rattle.pdl_vread_text.specs.Text.{Spells, IsFile}
use Rattle.pdl_word.specs.Each.{Each}

-- what a token has to be: a word or a symbol, one on a line that is told, a number, a constant, an operator, or a name of some kind
pub data Piece : Type 0 where
  word : (text : List ℕ) → Piece
  first : (line : ℕ) (text : List ℕ) → Piece
  num : (n : ℕ) → Piece
  const : (width value : ℕ) → Piece
  op : (o : BinOp) → Piece
  name : (kind : List ℕ → Bool) (text : List ℕ) → Piece

-- a token is what it has to be
pub data IsPiece : Piece → Token → Type 0 where
  is_word : {text : List ℕ} {line : ℕ} → IsPiece (word text) (record { text = text; line = line })
  is_first : {text : List ℕ} {line : ℕ} → IsPiece (first line text) (record { text = text; line = line })
  is_num : {n : ℕ} {text : List ℕ} {line : ℕ} → number_of text ≡ Some n → IsPiece (num n) (record { text = text; line = line })
  is_const : {width value : ℕ} {text : List ℕ} {line : ℕ} → constant_of text ≡ Some (record { width = width; value = value })
      → IsPiece (const width value) (record { text = text; line = line })
  is_op : {o : BinOp} {text : List ℕ} {line : ℕ} → operator_of text ≡ Some o → IsPiece (op o) (record { text = text; line = line })
  is_name : {kind : List ℕ → Bool} {text : List ℕ} {line : ℕ} → kind text ≡ true → IsPiece (name kind text) (record { text = text; line = line })

-- tokens are what they have to be, one by one
pub data AreTokens : List Piece → Row → Type 0 where
  no_more : AreTokens [] []
  one_more : {p : Piece} {ps : List Piece} {t : Token} {ts : Row} → IsPiece p t → AreTokens ps ts → AreTokens (p ∷ ps) (t ∷ ts)

-- those of each of these, one after the other
abbrev pub all_of : {X : Type 0} → (X → List Piece) → List X → List Piece
all_of f [] = []
all_of f (x ∷ xs) = f x ++ all_of f xs

-- "[" num ":" "0" "]", and what follows
abbrev pub range : ℕ → List Piece → List Piece
range high more = word (codes "[") ∷ num high ∷ word (codes ":") ∷ word (codes "0") ∷ word (codes "]") ∷ more

-- an operand
abbrev pub id : List ℕ → Piece
id x = name is_operand x

-- "module" pdl_name "(" "input" "wire" "clk" "," "input" "wire" range "rst"
abbrev pub opening : File → List Piece
opening f =
    first f.line (codes "module") ∷ name is_module (codes "pdl_" ++ f.name) ∷ word (codes "(") ∷ word (codes "input") ∷ word (codes "wire") ∷ word (codes "clk")
    ∷ word (codes ",") ∷ first f.reset_line (codes "input") ∷ word (codes "wire") ∷ range f.reset_high (word (codes "rst") ∷ [])

-- "," ("input" | "output") "wire" range port
abbrev pub port_pieces : PortDecl → List Piece
port_pieces p =
    word (codes ",") ∷ first p.line (if p.input then codes "input" else codes "output") ∷ word (codes "wire") ∷ range p.high (name is_port p.name ∷ [])

-- ")" ";"
abbrev pub closing : List Piece
closing = word (codes ")") ∷ word (codes ";") ∷ []

-- "reg" range r_id ";"
abbrev pub reg_pieces : RegDecl → List Piece
reg_pieces r = first r.line (codes "reg") ∷ range r.high (name is_reg r.name ∷ word (codes ";") ∷ [])

-- "reg" range a_id "[" "0" ":" num "]" ";"
abbrev pub array_pieces : ArrayDecl → List Piece
array_pieces a =
    first a.line (codes "reg") ∷ range a.high (name is_array a.name
    ∷ word (codes "[") ∷ word (codes "0") ∷ word (codes ":") ∷ num a.last ∷ word (codes "]") ∷ word (codes ";") ∷ [])

-- term ";", where term = const | "~" id | id op id | id "?" id ":" id | id "[" num ":" num "]" | "{" id "," id "}" | "{" num "{" id "}" "}" | a_id "[" id "]"
abbrev pub term_pieces : Term → List Piece
term_pieces (Const w v) = const w v ∷ word (codes ";") ∷ []
term_pieces (Not a) = word (codes "~") ∷ id a ∷ word (codes ";") ∷ []
term_pieces (Bin o a b) = id a ∷ op o ∷ id b ∷ word (codes ";") ∷ []
term_pieces (Mux c a b) = id c ∷ word (codes "?") ∷ id a ∷ word (codes ":") ∷ id b ∷ word (codes ";") ∷ []
term_pieces (Slice a high low) = id a ∷ word (codes "[") ∷ num high ∷ word (codes ":") ∷ num low ∷ word (codes "]") ∷ word (codes ";") ∷ []
term_pieces (Cat a b) = word (codes "{") ∷ id a ∷ word (codes ",") ∷ id b ∷ word (codes "}") ∷ word (codes ";") ∷ []
term_pieces (Rep n a) =
    word (codes "{") ∷ num n ∷ word (codes "{") ∷ id a ∷ word (codes "}") ∷ word (codes "}") ∷ word (codes ";") ∷ []
term_pieces (Read m a) = name is_array m ∷ word (codes "[") ∷ id a ∷ word (codes "]") ∷ word (codes ";") ∷ []

-- "wire" range n_id ";" "assign" n_id "="
abbrev pub head_pieces : CellDecl → List Piece
head_pieces c =
    word (codes "wire") ∷ range c.high (name is_cell c.name ∷ word (codes ";") ∷ first c.line (codes "assign") ∷ name is_cell c.target ∷ word (codes "=") ∷ [])

-- "wire" range n_id ";" "assign" n_id "=" term ";"
abbrev pub cell_pieces : CellDecl → List Piece
cell_pieces c = head_pieces c ++ term_pieces c.term

-- "assign" port "=" id ";"
abbrev pub output_pieces : OutputDecl → List Piece
output_pieces o = first o.line (codes "assign") ∷ name is_port o.port ∷ word (codes "=") ∷ id o.source ∷ word (codes ";") ∷ []

-- "always" "@" "(" "posedge" "clk" ")", and what follows
abbrev pub always : ℕ → List Piece → List Piece
always line more =
    first line (codes "always") ∷ word (codes "@") ∷ word (codes "(") ∷ word (codes "posedge") ∷ word (codes "clk") ∷ word (codes ")") ∷ more

-- "always" "@" "(" "posedge" "clk" ")" r_id "<=" "rst" "?" const ":" id ";"
abbrev pub reg_block_pieces : RegBlock → List Piece
reg_block_pieces b =
    always b.line (name is_reg b.reg ∷ word (codes "<=") ∷ word (codes "rst") ∷ word (codes "?") ∷ const b.width b.reset
    ∷ word (codes ":") ∷ id b.source ∷ word (codes ";") ∷ [])

-- "if" "(" id ")" a_id "[" id "]" "<=" id ";"
abbrev pub write_pieces : WriteDecl → List Piece
write_pieces w =
    first w.line (codes "if") ∷ word (codes "(") ∷ id w.enable ∷ word (codes ")") ∷ name is_array w.array ∷ word (codes "[") ∷ id w.addr ∷ word (codes "]")
    ∷ word (codes "<=") ∷ id w.value ∷ word (codes ";") ∷ []

-- "always" "@" "(" "posedge" "clk" ")" "begin" write {write} "end"
abbrev pub array_block_pieces : ArrayBlock → List Piece
array_block_pieces b = always b.line (word (codes "begin") ∷ (all_of write_pieces b.writes ++ word (codes "end") ∷ []))

-- the whole text of a file
abbrev pub text_pieces : File → List Piece
text_pieces f =
    opening f ++ (all_of port_pieces f.ports ++ (closing
    ++ (all_of reg_pieces f.regs ++ (all_of array_pieces f.arrays ++ (all_of cell_pieces f.cells ++ (all_of output_pieces f.outputs
    ++ (all_of reg_block_pieces f.reg_blocks ++ (all_of array_block_pieces f.array_blocks ++ word (codes "endmodule") ∷ []))))))))

-- the tokens are those of a file's text, each of whose blocks of arrays has a write
pub record IsTextOf (f : File) (ts : Row) : Type 0 where
  pub tokens : AreTokens (text_pieces f) ts
  pub written : Each (λ (b : ArrayBlock). 1 ≤ length b.writes) f.array_blocks

-- such tokens are read as that file, by the table of `Grammar` and by what `Drafts` declares
abbrev pub ReadsFile : Type 0
ReadsFile = (f : File) (ts : Row) → IsTextOf f ts → Spells f ts

-- and bytes that are read as a file have the tokens of that file's text
abbrev pub ReadsOnly : Type 0
ReadsOnly = (bytes : List ℕ) (f : File) → IsFile bytes f → IsTextOf f (tokens bytes)

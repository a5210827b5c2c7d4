-- The grammar: which rules may come where, and the tokens of each.
use Rattle.std.specs.Prelude.{◌≡◌, ℕ, Bool, true, false, cond, List, [], ◌∷◌, ◌++◌, codes, Option, Some, None, is_some, bytes_eq}
use Rattle.pdl_vread_text.specs.declared.field.Field.{Field}
use Rattle.pdl_vread_text.specs.declared.field.Field.TheVariants as f
use Rattle.pdl_vread_text.specs.declared.part.Part.{Part}
use Rattle.pdl_vread_text.specs.declared.part.Part.TheVariants as p
use Rattle.pdl_vread_text.specs.declared.rule.VerilogRule.{VerilogRule}
use Rattle.pdl_vread_text.specs.declared.rule.VerilogRule.TheVariants as r
use Rattle.pdl_vread_text.specs.Tokens.{Token}
use Rattle.pdl_vread_text.specs.Words.{number_of, constant_of, operator_of, is_module, is_port, is_reg, is_array, is_cell, is_operand}

-- a word is what is asked of a token
abbrev pub fits : Field → List ℕ → Bool
fits f.Module t = bytes_eq t (codes "module")
fits f.Input t = bytes_eq t (codes "input")
fits f.Output t = bytes_eq t (codes "output")
fits f.Wire t = bytes_eq t (codes "wire")
fits f.Reg t = bytes_eq t (codes "reg")
fits f.Assign t = bytes_eq t (codes "assign")
fits f.Always t = bytes_eq t (codes "always")
fits f.Posedge t = bytes_eq t (codes "posedge")
fits f.Begin t = bytes_eq t (codes "begin")
fits f.If t = bytes_eq t (codes "if")
fits f.End t = bytes_eq t (codes "end")
fits f.EndModule t = bytes_eq t (codes "endmodule")
fits f.Clock t = bytes_eq t (codes "clk")
fits f.Reset t = bytes_eq t (codes "rst")
fits f.Zero t = bytes_eq t (codes "0")
fits f.OpenRound t = bytes_eq t (codes "(")
fits f.CloseRound t = bytes_eq t (codes ")")
fits f.OpenSquare t = bytes_eq t (codes "[")
fits f.CloseSquare t = bytes_eq t (codes "]")
fits f.OpenBrace t = bytes_eq t (codes "{")
fits f.CloseBrace t = bytes_eq t (codes "}")
fits f.Comma t = bytes_eq t (codes ",")
fits f.Colon t = bytes_eq t (codes ":")
fits f.Semicolon t = bytes_eq t (codes ";")
fits f.Equals t = bytes_eq t (codes "=")
fits f.At t = bytes_eq t (codes "@")
fits f.Takes t = bytes_eq t (codes "<=")
fits f.Question t = bytes_eq t (codes "?")
fits f.Tilde t = bytes_eq t (codes "~")
fits f.Number t = is_some (number_of t)
fits f.Constant t = is_some (constant_of t)
fits f.Operator t = is_some (operator_of t)
fits f.ModuleName t = is_module t
fits f.PortName t = is_port t
fits f.RegName t = is_reg t
fits f.ArrayName t = is_array t
fits f.CellName t = is_cell t
fits f.Operand t = is_operand t

-- the one word that a token has to be, if it is one alone
abbrev pub word : Field → Option (List ℕ)
word f.Module = Some (codes "module")
word f.Input = Some (codes "input")
word f.Output = Some (codes "output")
word f.Wire = Some (codes "wire")
word f.Reg = Some (codes "reg")
word f.Assign = Some (codes "assign")
word f.Always = Some (codes "always")
word f.Posedge = Some (codes "posedge")
word f.Begin = Some (codes "begin")
word f.If = Some (codes "if")
word f.End = Some (codes "end")
word f.EndModule = Some (codes "endmodule")
word f.Clock = Some (codes "clk")
word f.Reset = Some (codes "rst")
word f.Zero = Some (codes "0")
word f.OpenRound = Some (codes "(")
word f.CloseRound = Some (codes ")")
word f.OpenSquare = Some (codes "[")
word f.CloseSquare = Some (codes "]")
word f.OpenBrace = Some (codes "{")
word f.CloseBrace = Some (codes "}")
word f.Comma = Some (codes ",")
word f.Colon = Some (codes ":")
word f.Semicolon = Some (codes ";")
word f.Equals = Some (codes "=")
word f.At = Some (codes "@")
word f.Takes = Some (codes "<=")
word f.Question = Some (codes "?")
word f.Tilde = Some (codes "~")
word _ = None

-- a word is of the kind that is asked of a token, where that isn't one word alone
abbrev pub is_of_kind : Field → List ℕ → Bool
is_of_kind f.Number t = is_some (number_of t)
is_of_kind f.Constant t = is_some (constant_of t)
is_of_kind f.Operator t = is_some (operator_of t)
is_of_kind f.ModuleName t = is_module t
is_of_kind f.PortName t = is_port t
is_of_kind f.RegName t = is_reg t
is_of_kind f.ArrayName t = is_array t
is_of_kind f.CellName t = is_cell t
is_of_kind f.Operand t = is_operand t
is_of_kind _ t = false

abbrev range : List Field → List Field
range more = f.OpenSquare ∷ f.Number ∷ f.Colon ∷ f.Zero ∷ f.CloseSquare ∷ more

-- the tokens of a rule
abbrev pub fields : VerilogRule → List Field
fields r.Opening = f.Module ∷ f.ModuleName ∷ f.OpenRound ∷ f.Input ∷ f.Wire ∷ f.Clock ∷ f.Comma ∷ f.Input ∷ f.Wire ∷ range (f.Reset ∷ [])
fields r.NextPort = f.Comma ∷ []
fields r.InputPort = f.Input ∷ f.Wire ∷ range (f.PortName ∷ [])
fields r.OutputPort = f.Output ∷ f.Wire ∷ range (f.PortName ∷ [])
fields r.Closing = f.CloseRound ∷ f.Semicolon ∷ []
fields r.RegRange = f.Reg ∷ range ([])
fields r.RegDeclared = f.RegName ∷ f.Semicolon ∷ []
fields r.ArrayDeclared = f.ArrayName ∷ f.OpenSquare ∷ f.Zero ∷ f.Colon ∷ f.Number ∷ f.CloseSquare ∷ f.Semicolon ∷ []
fields r.ArrayRange = f.Reg ∷ range ([])
fields r.CellHead = f.Wire ∷ range (f.CellName ∷ f.Semicolon ∷ f.Assign ∷ f.CellName ∷ f.Equals ∷ [])
fields r.ConstTerm = f.Constant ∷ f.Semicolon ∷ []
fields r.NotTerm = f.Tilde ∷ f.Operand ∷ f.Semicolon ∷ []
fields r.ReadTerm = f.ArrayName ∷ f.OpenSquare ∷ f.Operand ∷ f.CloseSquare ∷ f.Semicolon ∷ []
fields r.FirstOperand = f.Operand ∷ []
fields r.BinTerm = f.Operator ∷ f.Operand ∷ f.Semicolon ∷ []
fields r.MuxTerm = f.Question ∷ f.Operand ∷ f.Colon ∷ f.Operand ∷ f.Semicolon ∷ []
fields r.SliceTerm = f.OpenSquare ∷ f.Number ∷ f.Colon ∷ f.Number ∷ f.CloseSquare ∷ f.Semicolon ∷ []
fields r.OpenTerm = f.OpenBrace ∷ []
fields r.CatTerm = f.Operand ∷ f.Comma ∷ f.Operand ∷ f.CloseBrace ∷ f.Semicolon ∷ []
fields r.RepTerm = f.Number ∷ f.OpenBrace ∷ f.Operand ∷ f.CloseBrace ∷ f.CloseBrace ∷ f.Semicolon ∷ []
fields r.OutputDriven = f.Assign ∷ f.PortName ∷ f.Equals ∷ f.Operand ∷ f.Semicolon ∷ []
fields r.BlockHead = f.Always ∷ f.At ∷ f.OpenRound ∷ f.Posedge ∷ f.Clock ∷ f.CloseRound ∷ []
fields r.RegDriven = f.RegName ∷ f.Takes ∷ f.Reset ∷ f.Question ∷ f.Constant ∷ f.Colon ∷ f.Operand ∷ f.Semicolon ∷ []
fields r.ArrayBegin = f.Begin ∷ []
fields r.ArrayHead = f.Always ∷ f.At ∷ f.OpenRound ∷ f.Posedge ∷ f.Clock ∷ f.CloseRound ∷ f.Begin ∷ []
fields r.Written =
    f.If ∷ f.OpenRound ∷ f.Operand ∷ f.CloseRound ∷ f.ArrayName ∷ f.OpenSquare ∷ f.Operand ∷ f.CloseSquare ∷ f.Takes ∷ f.Operand ∷ f.Semicolon ∷ []
fields r.ArrayEnd = f.End ∷ []
fields r.Ending = f.EndModule ∷ []

-- the rules that may come at a part
abbrev pub rules : Part → List VerilogRule
rules p.Start = r.Opening ∷ []
rules p.Ports = r.NextPort ∷ r.Closing ∷ []
rules p.Direction = r.InputPort ∷ r.OutputPort ∷ []
rules p.Regs = r.RegRange ∷ r.CellHead ∷ r.OutputDriven ∷ r.BlockHead ∷ r.Ending ∷ []
rules p.Declared = r.RegDeclared ∷ r.ArrayDeclared ∷ []
rules p.Arrays = r.ArrayRange ∷ r.CellHead ∷ r.OutputDriven ∷ r.BlockHead ∷ r.Ending ∷ []
rules p.LaterArray = r.ArrayDeclared ∷ []
rules p.Cells = r.CellHead ∷ r.OutputDriven ∷ r.BlockHead ∷ r.Ending ∷ []
rules p.Term = r.ConstTerm ∷ r.NotTerm ∷ r.FirstOperand ∷ r.ReadTerm ∷ r.OpenTerm ∷ []
rules p.AfterOperand = r.BinTerm ∷ r.MuxTerm ∷ r.SliceTerm ∷ []
rules p.Braced = r.CatTerm ∷ r.RepTerm ∷ []
rules p.Outputs = r.OutputDriven ∷ r.BlockHead ∷ r.Ending ∷ []
rules p.Blocks = r.BlockHead ∷ r.Ending ∷ []
rules p.Block = r.RegDriven ∷ r.ArrayBegin ∷ []
rules p.ArrayBlocks = r.ArrayHead ∷ r.Ending ∷ []
rules p.FirstWrite = r.Written ∷ []
rules p.Writes = r.Written ∷ r.ArrayEnd ∷ []
rules p.Finished = []

-- the part after a rule
abbrev pub next : VerilogRule → Part
next r.Opening = p.Ports
next r.NextPort = p.Direction
next r.InputPort = p.Ports
next r.OutputPort = p.Ports
next r.Closing = p.Regs
next r.RegRange = p.Declared
next r.RegDeclared = p.Regs
next r.ArrayDeclared = p.Arrays
next r.ArrayRange = p.LaterArray
next r.CellHead = p.Term
next r.ConstTerm = p.Cells
next r.NotTerm = p.Cells
next r.ReadTerm = p.Cells
next r.FirstOperand = p.AfterOperand
next r.BinTerm = p.Cells
next r.MuxTerm = p.Cells
next r.SliceTerm = p.Cells
next r.OpenTerm = p.Braced
next r.CatTerm = p.Cells
next r.RepTerm = p.Cells
next r.OutputDriven = p.Outputs
next r.BlockHead = p.Block
next r.RegDriven = p.Blocks
next r.ArrayBegin = p.FirstWrite
next r.ArrayHead = p.FirstWrite
next r.Written = p.Writes
next r.ArrayEnd = p.ArrayBlocks
next r.Ending = p.Finished

-- a part after the end of a file
abbrev pub is_finished : Part → Bool
is_finished p.Finished = true
is_finished _ = false

-- a word may be the first of some tokens
abbrev pub begins_fields : List Field → List ℕ → Bool
begins_fields [] t = false
begins_fields (g ∷ gs) t = fits g t

-- a word may be the first token of a rule
abbrev pub begins_with : VerilogRule → List ℕ → Bool
begins_with r t = begins_fields (fields r) t

-- the first of some rules whose first token a word may be
abbrev pub first_with : List VerilogRule → List ℕ → Option VerilogRule
first_with [] t = None
first_with (r ∷ rs) t = cond (begins_with r t) (Some r) (first_with rs t)

-- the rule that comes at a part where the next token is this word: of the part's rules the first whose first token it may be (it may be that of no other)
unfoldable pub chosen : Part → List ℕ → Option VerilogRule
chosen part t = first_with (rules part) t

-- tokens one after another
abbrev pub Row : Type 0
Row = List Token

-- the tokens are, one by one, what is asked
pub data AllFit : List Field → Row → Type 0 where
  none : AllFit [] []
  more : {g : Field} {gs : List Field} {t : Token} {ts : Row} → fits g t.text ≡ true → AllFit gs ts → AllFit (g ∷ gs) (t ∷ ts)

-- a rule with the tokens that it took
pub record Taken : Type 0 where
  pub rule : VerilogRule
  pub found : Row

-- the tokens are, from a part on, those of these rules up to the end of a file
pub data Derives : Part → Row → List Taken → Type 0 where
  finished : Derives p.Finished [] []
  goes : {part : Part} {rule : VerilogRule} {t : Token} {ts rest : Row} {more : List Taken} → chosen part t.text ≡ Some rule → AllFit (fields rule) (t ∷ ts)
      → Derives (next rule) rest more → Derives part (t ∷ ts ++ rest) (record { rule = rule; found = t ∷ ts } ∷ more)

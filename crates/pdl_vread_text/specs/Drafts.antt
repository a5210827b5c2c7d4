-- What each rule of the grammar declares.
use Rattle.std.specs.Prelude.{ℕ, Bool, true, false, List, [], ◌∷◌, ◌++◌, drop, unwrap_or, slice_index_or}
use Rattle.pdl_net.specs.declared.BinOp.{BinOp}
use Rattle.pdl_net.specs.declared.BinOp.TheVariants.{Add}
use Rattle.pdl_vread_text.specs.declared.numbers.Constant.{Constant}
use Rattle.pdl_vread_text.specs.declared.rule.VerilogRule.{VerilogRule}
use Rattle.pdl_vread_text.specs.declared.rule.VerilogRule.TheVariants as r
use Rattle.pdl_vread_text.specs.declared.file.Term.{Term}
use Rattle.pdl_vread_text.specs.declared.file.Term.TheVariants.{Const, Not, Bin, Mux, Slice, Cat, Rep, Read}
use Rattle.pdl_vread_text.specs.declared.file.File.{File}
use Rattle.pdl_vread_text.specs.declared.draft.Draft.{Draft}
use Rattle.pdl_vread_text.specs.Tokens.{Token}
use Rattle.pdl_vread_text.specs.Words.{number_of, constant_of, operator_of}
use Rattle.pdl_vread_text.specs.Grammar.{Row, Taken}

-- ---- the tokens of a rule, counted from 0

-- the i-th token
abbrev pub token_at : Row → ℕ → Token
token_at ts i = slice_index_or ts i (record { text = []; line = 0 })

-- the bytes of the i-th token
abbrev pub text_at : Row → ℕ → List ℕ
text_at ts i = (token_at ts i).text

-- the line of the i-th token
abbrev pub line_at : Row → ℕ → ℕ
line_at ts i = (token_at ts i).line

-- the number that the i-th token is
abbrev pub number_at : Row → ℕ → ℕ
number_at ts i = unwrap_or (number_of (text_at ts i)) 0

-- the constant that the i-th token is
abbrev pub constant_at : Row → ℕ → Constant
constant_at ts i = unwrap_or (constant_of (text_at ts i)) (record { width = 0; value = 0 })

-- the operator that the i-th token is
abbrev pub operator_at : Row → ℕ → BinOp
operator_at ts i = unwrap_or (operator_of (text_at ts i)) Add

-- ---- what is declared

-- a file that declares nothing
abbrev pub no_file : File
no_file =
    record {
      line = 0;
      name = [];
      reset_line = 0;
      reset_high = 0;
      ports = [];
      regs = [];
      arrays = [];
      cells = [];
      outputs = [];
      reg_blocks = [];
      array_blocks = [];
    }

-- a draft from which nothing was read
abbrev pub no_draft : Draft
no_draft = record { file = no_file; line = 0; high = 0; name = []; target = []; operand = []; writes = [] }

-- `module pdl_name ( input wire clk , input wire [ num : 0 ] rst`
abbrev pub opened : Draft → Row → Draft
opened d ts = record d { file = record d.file { line = line_at ts 0; name = drop 4 (text_at ts 1); reset_line = line_at ts 7; reset_high = number_at ts 10 } }

-- `input wire [ num : 0 ] port`, or `output` in the place of `input`
abbrev pub with_port : Draft → Bool → Row → Draft
with_port d input ts =
    record d { file = record d.file { ports = d.file.ports ++ record { line = line_at ts 0; name = text_at ts 7; high = number_at ts 3; input = input } ∷ [] } }

-- `reg [ num : 0 ]`
abbrev pub with_range : Draft → Row → Draft
with_range d ts = record d { line = line_at ts 0; high = number_at ts 2 }

-- `r_id ;`
abbrev pub with_reg : Draft → Row → Draft
with_reg d ts = record d { file = record d.file { regs = d.file.regs ++ record { line = d.line; name = text_at ts 0; high = d.high } ∷ [] } }

-- `a_id [ 0 : num ] ;`
abbrev pub with_array : Draft → Row → Draft
with_array d ts =
    record d { file = record d.file { arrays = d.file.arrays ++ record { line = d.line; name = text_at ts 0; high = d.high; last = number_at ts 4 } ∷ [] } }

-- `wire [ num : 0 ] n_id ; assign n_id =`
abbrev pub with_head : Draft → Row → Draft
with_head d ts = record d { line = line_at ts 8; high = number_at ts 2; name = text_at ts 6; target = text_at ts 9 }

-- the operand that begins a term
abbrev pub with_operand : Draft → Row → Draft
with_operand d ts = record d { operand = text_at ts 0 }

-- the term that a rule ends, where its first operand may stand before
abbrev pub term : List ℕ → VerilogRule → Row → Term
term first r.NotTerm ts = Not (text_at ts 1)
term first r.ReadTerm ts = Read (text_at ts 0) (text_at ts 2)
term first r.CatTerm ts = Cat (text_at ts 0) (text_at ts 2)
term first r.RepTerm ts = Rep (number_at ts 0) (text_at ts 2)
term first r.BinTerm ts = Bin (operator_at ts 0) first (text_at ts 1)
term first r.MuxTerm ts = Mux first (text_at ts 1) (text_at ts 3)
term first r.SliceTerm ts = Slice first (number_at ts 1) (number_at ts 3)
term first _ ts = Const (constant_at ts 0).width (constant_at ts 0).value

-- a draft whose file has one cell more: that of its head, with the term of a rule
abbrev pub with_cell : Draft → VerilogRule → Row → Draft
with_cell d rule ts =
    record d {
      file = record d.file {
        cells = d.file.cells
            ++ record { line = d.line; name = d.name; high = d.high; target = d.target; term = term d.operand rule ts } ∷ [];
      };
    }

-- `assign port = id ;`
abbrev pub with_output : Draft → Row → Draft
with_output d ts =
    record d { file = record d.file { outputs = d.file.outputs ++ record { line = line_at ts 0; port = text_at ts 1; source = text_at ts 3 } ∷ [] } }

-- `always @ ( posedge clk )`
abbrev pub with_block : Draft → Row → Draft
with_block d ts = record d { line = line_at ts 0 }

-- `r_id <= rst ? const : id ;`
abbrev pub with_reg_block : Draft → Row → Draft
with_reg_block d ts =
    record d {
      file = record d.file {
        reg_blocks = d.file.reg_blocks
            ++ record { line = d.line; reg = text_at ts 0; width = (constant_at ts 4).width; reset = (constant_at ts 4).value; source = text_at ts 6 } ∷ [];
      };
    }

-- `if ( id ) a_id [ id ] <= id ;`
abbrev pub with_write : Draft → Row → Draft
with_write d ts =
    record d {
      writes = d.writes
          ++ record { line = line_at ts 0; enable = text_at ts 2; array = text_at ts 4; addr = text_at ts 6; value = text_at ts 9 } ∷ [];
    }

-- `end`
abbrev pub with_array_block : Draft → Draft
with_array_block d = record d { file = record d.file { array_blocks = d.file.array_blocks ++ record { line = d.line; writes = d.writes } ∷ [] }; writes = [] }

-- what is declared after a rule
abbrev pub taken : Draft → VerilogRule → Row → Draft
taken d r.Opening ts = opened d ts
taken d r.InputPort ts = with_port d true ts
taken d r.OutputPort ts = with_port d false ts
taken d r.RegRange ts = with_range d ts
taken d r.ArrayRange ts = with_range d ts
taken d r.RegDeclared ts = with_reg d ts
taken d r.ArrayDeclared ts = with_array d ts
taken d r.CellHead ts = with_head d ts
taken d r.FirstOperand ts = with_operand d ts
taken d r.ConstTerm ts = with_cell d r.ConstTerm ts
taken d r.NotTerm ts = with_cell d r.NotTerm ts
taken d r.ReadTerm ts = with_cell d r.ReadTerm ts
taken d r.BinTerm ts = with_cell d r.BinTerm ts
taken d r.MuxTerm ts = with_cell d r.MuxTerm ts
taken d r.SliceTerm ts = with_cell d r.SliceTerm ts
taken d r.CatTerm ts = with_cell d r.CatTerm ts
taken d r.RepTerm ts = with_cell d r.RepTerm ts
taken d r.OutputDriven ts = with_output d ts
taken d r.BlockHead ts = with_block d ts
taken d r.ArrayHead ts = with_block d ts
taken d r.RegDriven ts = with_reg_block d ts
taken d r.Written ts = with_write d ts
taken d r.ArrayEnd ts = with_array_block d
taken d _ ts = d

-- what is declared after rules, one after another
unfoldable pub all_taken : Draft → List Taken → Draft
all_taken d [] = d
all_taken d (t ∷ ts) = all_taken (taken d t.rule t.found) ts

-- the file that rules declare
abbrev pub file_of : List Taken → File
file_of ts = (all_taken no_draft ts).file

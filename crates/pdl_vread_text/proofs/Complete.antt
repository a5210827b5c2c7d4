-- Each part of a file can be ended, and each rule that was begun too.
use Rattle.std.proofs.Common.{◌≡◌, ◌≢◌, ℕ, Bool, true, false, List, [], ◌∷◌, ◌++◌, Some, None, refl, sym, ap, ◌∙◌, subst, codes, append-nil, append_assoc}
use Rattle.pdl_vread_text.specs.declared.field.Field.{Field}
use Rattle.pdl_vread_text.specs.declared.field.Field.TheVariants as f
use Rattle.pdl_vread_text.specs.declared.part.Part.{Part}
use Rattle.pdl_vread_text.specs.declared.part.Part.TheVariants as p
use Rattle.pdl_vread_text.specs.declared.rule.VerilogRule.{VerilogRule}
use Rattle.pdl_vread_text.specs.declared.rule.VerilogRule.TheVariants as r
use Rattle.pdl_vread_text.specs.Tokens.{Token}
use Rattle.pdl_vread_text.specs.Words.{number_of, constant_of, operator_of, is_name, is_port, is_operand}
use Rattle.pdl_vread_text.specs.Grammar.{Row, Taken, AllFit, none, more, fits, fields, chosen, begins_with, rules, next, Derives, finished, goes}

abbrev word : List ℕ → Token
word t = record { text = t; line = 0 }

-- a word for what is asked
example : Field → List ℕ
example f.Module = codes "module"
example f.Input = codes "input"
example f.Output = codes "output"
example f.Wire = codes "wire"
example f.Reg = codes "reg"
example f.Assign = codes "assign"
example f.Always = codes "always"
example f.Posedge = codes "posedge"
example f.Begin = codes "begin"
example f.If = codes "if"
example f.End = codes "end"
example f.EndModule = codes "endmodule"
example f.Clock = codes "clk"
example f.Reset = codes "rst"
example f.Zero = codes "0"
example f.OpenRound = codes "("
example f.CloseRound = codes ")"
example f.OpenSquare = codes "["
example f.CloseSquare = codes "]"
example f.OpenBrace = codes "{"
example f.CloseBrace = codes "}"
example f.Comma = codes ","
example f.Colon = codes ":"
example f.Semicolon = codes ";"
example f.Equals = codes "="
example f.At = codes "@"
example f.Takes = codes "<="
example f.Question = codes "?"
example f.Tilde = codes "~"
example f.Number = codes "0"
example f.Constant = codes "1'h0"
example f.Operator = codes "+"
example f.ModuleName = codes "pdl_p"
example f.PortName = codes "ended"
example f.RegName = codes "r0"
example f.ArrayName = codes "a_m"
example f.CellName = codes "n0"
example f.Operand = codes "n0"

example_fits : (g : Field) → fits g (example g) ≡ true
unfolding example number_of constant_of operator_of is_name is_port is_operand
example_fits f.Module = refl
example_fits _ = refl

examples : List Field → Row
examples [] = []
examples (g ∷ gs) = word (example g) ∷ examples gs

examples_fit : (gs : List Field) → AllFit gs (examples gs)
unfolding examples
examples_fit [] = none
examples_fit (g ∷ gs) = more (example_fits g) (examples_fit gs)

-- tokens that end a file from a part on
pub record Ends (part : Part) : Type 0 where
  pub row : Row
  pub rules : List Taken
  pub derives : Derives part row rules

-- a part ends by a rule, and what ends the part after it
by : (part : Part) (rule : VerilogRule) (g : Field) (gs : List Field)
    → fields rule ≡ g ∷ gs → chosen part (example g) ≡ Some rule → Ends (next rule) → Ends part
unfolding examples
by part rule g gs e h k = record {
  row = examples (g ∷ gs) ++ k.row;
  rules = record { rule = rule; found = examples (g ∷ gs) } ∷ k.rules;
  derives = goes h (subst (λ x. AllFit x (examples (g ∷ gs))) (sym e) (examples_fit (g ∷ gs))) k.derives;
}

ends_finished : Ends p.Finished
ends_finished = record { row = []; rules = []; derives = finished }

-- `endmodule` ends these
last : (part : Part) → chosen part (codes "endmodule") ≡ Some r.Ending → Ends part
unfolding example
last part h = by part r.Ending _ _ refl h ends_finished

ends_after : (part : Part) → Ends part
unfolding chosen example number_of constant_of operator_of is_name is_port is_operand
ends_after p.Finished = ends_finished
ends_after p.Regs = last p.Regs refl
ends_after p.Arrays = last p.Arrays refl
ends_after p.Cells = last p.Cells refl
ends_after p.Outputs = last p.Outputs refl
ends_after p.Blocks = last p.Blocks refl
ends_after p.ArrayBlocks = last p.ArrayBlocks refl
ends_after p.Ports = by p.Ports r.Closing _ _ refl refl (last p.Regs refl)
ends_after p.Direction = by p.Direction r.InputPort _ _ refl refl (by p.Ports r.Closing _ _ refl refl (last p.Regs refl))
ends_after p.Start = by p.Start r.Opening _ _ refl refl (by p.Ports r.Closing _ _ refl refl (last p.Regs refl))
ends_after p.Declared = by p.Declared r.RegDeclared _ _ refl refl (last p.Regs refl)
ends_after p.LaterArray = by p.LaterArray r.ArrayDeclared _ _ refl refl (last p.Arrays refl)
ends_after p.Term = by p.Term r.NotTerm _ _ refl refl (last p.Cells refl)
ends_after p.AfterOperand = by p.AfterOperand r.MuxTerm _ _ refl refl (last p.Cells refl)
ends_after p.Braced = by p.Braced r.CatTerm _ _ refl refl (last p.Cells refl)
ends_after p.Block = by p.Block r.RegDriven _ _ refl refl (last p.Blocks refl)
ends_after p.Writes = by p.Writes r.ArrayEnd _ _ refl refl (last p.ArrayBlocks refl)
ends_after p.FirstWrite = by p.FirstWrite r.Written _ _ refl refl (by p.Writes r.ArrayEnd _ _ refl refl (last p.ArrayBlocks refl))

-- from each part on a file can be ended
pub ends : (part : Part) → Ends part
ends part = ends_after part

both_fit : (gs hs : List Field) (ts us : Row) → AllFit gs ts → AllFit hs us → AllFit (gs ++ hs) (ts ++ us)
both_fit _ hs _ us none b = b
both_fit _ hs _ us (more {gs = gs} {ts = ts} e a) b = more e (both_fit gs hs ts us a b)

-- a rule that was begun is ended
pub record Rest (part : Part) (front : Row) : Type 0 where
  pub row : Row
  pub rules : List Taken
  pub derives : Derives part (front ++ row) rules

-- a rule that was begun, and the file after it, can be ended
pub rest : (part : Part) (rule : VerilogRule) (t : Token) (ts : Row) (done later : List Field)
    → chosen part t.text ≡ Some rule → fields rule ≡ done ++ later → AllFit done (t ∷ ts) → Rest part (t ∷ ts)
rest part rule t ts done later e parts a =
    let k = ends (next rule) in
    record {
      row = examples later ++ k.row;
      rules = record { rule = rule; found = t ∷ (ts ++ examples later) } ∷ k.rules;
      derives =
          subst (λ x. Derives part (t ∷ x) (record { rule = rule; found = t ∷ (ts ++ examples later) } ∷ k.rules)) (append_assoc ts (examples later) k.row)
          (goes e
          (subst (λ x. AllFit x (t ∷ (ts ++ examples later))) (sym parts)
          (both_fit done later (t ∷ ts) (examples later) a (examples_fit later))) k.derives);
    }

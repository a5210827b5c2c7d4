-- Tokens of the pieces of a text, taken rule by rule.
use Rattle.std.proofs.Common.{◌≡◌, ℕ, true, inr, List, [], ◌∷◌, ◌++◌, append_assoc, codes, Some, is_some, refl, sym, ap, ◌∙◌, subst}
use Rattle.std.specs.Prelude.{fold, ◌⊎◌}
use Rattle.pdl_net.specs.declared.BinOp.{BinOp}
use Rattle.pdl_vread_text.specs.declared.field.Field.{Field}
use Rattle.pdl_vread_text.specs.declared.field.Field.TheVariants as f
use Rattle.pdl_vread_text.specs.declared.part.Part.{Part}
use Rattle.pdl_vread_text.specs.declared.part.Part.TheVariants as part
use Rattle.pdl_vread_text.specs.declared.rule.VerilogRule.{VerilogRule}
use Rattle.pdl_vread_text.specs.declared.rule.VerilogRule.TheVariants as rule
use Rattle.pdl_vread_text.specs.declared.file.File.{File}
use Rattle.pdl_vread_text.specs.declared.draft.Draft.{Draft}
use Rattle.pdl_vread_text.specs.Tokens.{Token}
use Rattle.pdl_vread_text.specs.Words.{is_module, is_port, is_reg, is_array, is_cell}
use Rattle.pdl_vread_text.specs.Grammar as table
use Rattle.pdl_vread_text.specs.Grammar.{Row, Taken, AllFit, Derives, goes, fits, fields, next, chosen}
use Rattle.pdl_vread_text.specs.Drafts.{taken, all_taken}
use Rattle.pdl_plain.specs.NetlistTexts.{Piece, word, first, num, const, op, name, IsPiece, is_word, is_first, is_num, is_const, is_op, is_name as is_named, AreTokens, no_more, one_more, all_of, range, id}

-- ---- one rule

-- from a part on a draft becomes, with these tokens, that of a file
pub record Goes (part : Part) (ts : Row) (d : Draft) (f : File) : Type 0 where
  pub rules : List Taken
  pub derives : Derives part ts rules
  pub same : (all_taken d rules).file ≡ f

-- the token of a piece is what is asked
abbrev Fits : Field → Piece → Type 0
Fits g p = (t : Token) → IsPiece p t → fits g t.text ≡ true

-- the tokens of pieces are, one by one, what is asked
abbrev pub AllMatch : List Field → List Piece → Type 0
AllMatch [] [] = Unit {0}
AllMatch [] (p ∷ ps) = ⊥
AllMatch (g ∷ gs) [] = ⊥
AllMatch (g ∷ gs) (p ∷ ps) = Fits g p × AllMatch gs ps

all_fit : (gs : List Field) (ps : List Piece) (ts : Row) → AllMatch gs ps → AreTokens ps ts → AllFit gs ts
all_fit [] [] _ m no_more = table.none
all_fit [] (p ∷ ps) ts m _ = elim m [ ]
all_fit (g ∷ gs) [] ts m _ = elim m [ ]
all_fit (g ∷ gs) (p ∷ ps) _ m (one_more {t = t} {ts = ts} k h) = table.more (m.0 t k) (all_fit gs ps ts m.1 h)

-- a part begins a rule with the token of the first of these pieces
abbrev pub Begins : Part → VerilogRule → List Piece → Type 0
Begins part r [] = ⊥
Begins part r (p ∷ ps) = (t : Token) → IsPiece p t → chosen part t.text ≡ Some r

one_rule : (part : Part) (r : VerilogRule) (ps : List Piece) (front rest : Row) (d : Draft) (g : File)
    → Begins part r ps → AllMatch (fields r) ps → AreTokens ps front → Goes (next r) rest (taken d r front) g → Goes part (front ++ rest) d g
unfolding all_taken
one_rule part r [] front rest d g s m h k = absurd s
one_rule part r (p ∷ ps) _ rest d g s m (one_more {t = t} {ts = ts} i h) k = record {
  rules = record { rule = r; found = t ∷ ts } ∷ k.rules;
  derives = goes (s t i) (all_fit (fields r) (p ∷ ps) (t ∷ ts) m (one_more i h)) k.derives;
  same = k.same;
}

-- tokens of pieces and of others after them
record Split (ps qs : List Piece) (ts : Row) : Type 0 where
  front : Row
  back : Row
  parts : ts ≡ front ++ back
  ahead : AreTokens ps front
  behind : AreTokens qs back

split : (ps qs : List Piece) (ts : Row) → AreTokens (ps ++ qs) ts → Split ps qs ts
split [] qs ts h = record { front = []; back = ts; parts = refl; ahead = no_more; behind = h }
split (p ∷ ps) qs _ (one_more {t = t} {ts = ts} k h) =
    let s = split ps qs ts h in
    record { front = t ∷ s.front; back = s.back; parts = ap (λ x. t ∷ x) s.parts; ahead = one_more k s.ahead; behind = s.behind }

-- a rule takes the tokens of its pieces
pub takes : (part : Part) (r : VerilogRule) (ps qs : List Piece) (ts : Row) (d : Draft) (g : File)
    → Begins part r ps → AllMatch (fields r) ps → AreTokens (ps ++ qs) ts
    → ((front back : Row) → AreTokens ps front → AreTokens qs back → Goes (next r) back (taken d r front) g) → Goes part ts d g
takes part r ps qs ts d g s m h k =
    let x = split ps qs ts h in
    subst (λ z. Goes part z d g) (sym x.parts) (one_rule part r ps x.front x.back d g s m x.ahead (k x.front x.back x.ahead x.behind))

-- ---- what tokens are

-- the token of a word
pub at_word : (g : Field) (x : List ℕ) → fits g x ≡ true → Fits g (word x)
at_word g x e _ is_word = e

-- that of a word on a line
pub at_first : (g : Field) (x : List ℕ) (line : ℕ) → fits g x ≡ true → Fits g (first line x)
at_first g x line e _ is_first = e

-- that of a number
pub at_num : (n : ℕ) → Fits f.Number (num n)
at_num n _ (is_num e) = ap is_some e

-- that of a constant
pub at_const : (w v : ℕ) → Fits f.Constant (const w v)
at_const w v _ (is_const e) = ap is_some e

-- that of an operator
pub at_op : (o : BinOp) → Fits f.Operator (op o)
at_op o _ (is_op e) = ap is_some e

-- that of a module's name
pub at_module : (x : List ℕ) → Fits f.ModuleName (name is_module x)
at_module x _ (is_named e) = e

-- that of a port's name
pub at_port : (x : List ℕ) → Fits f.PortName (name is_port x)
at_port x _ (is_named e) = e

-- that of a register's name
pub at_reg : (x : List ℕ) → Fits f.RegName (name is_reg x)
at_reg x _ (is_named e) = e

-- that of an array's name
pub at_array : (x : List ℕ) → Fits f.ArrayName (name is_array x)
at_array x _ (is_named e) = e

-- that of a cell's name
pub at_cell : (x : List ℕ) → Fits f.CellName (name is_cell x)
at_cell x _ (is_named e) = e

-- that of an operand
pub at_id : (x : List ℕ) → Fits f.Operand (id x)
at_id x _ (is_named e) = e

-- which rule begins with a word
pub by_word : (p : Part) (r : VerilogRule) (x : List ℕ) → chosen p x ≡ Some r → (t : Token) → IsPiece (word x) t → chosen p t.text ≡ Some r
by_word p r x e _ is_word = e

-- which rule begins with a word on a line
pub by_first : (p : Part) (r : VerilogRule) (line : ℕ) (x : List ℕ)
    → chosen p x ≡ Some r → (t : Token) → IsPiece (first line x) t → chosen p t.text ≡ Some r
by_first p r line x e _ is_first = e

-- ---- which rules may come at a part

-- the pieces from a part on are read, where this file is declared, as a file
abbrev pub Reads : Part → List Piece → File → File → Type 0
Reads p qs g h = (ts : Row) (d : Draft) → AreTokens qs ts → d.file ≡ g → d.writes ≡ [] → Goes p ts d h

-- a part at which a port may come, or the end of the ports
pub record HasPorts (p : Part) : Type 0 where
  pub comma : chosen p (codes ",") ≡ Some rule.NextPort
  pub close : chosen p (codes ")") ≡ Some rule.Closing

-- a part at which a block of a register may come, or the end of the text
pub record HasBlocks (p : Part) : Type 0 where
  pub block : chosen p (codes "always") ≡ Some rule.BlockHead
  pub ending : chosen p (codes "endmodule") ≡ Some rule.Ending

-- a part at which a driven output may come, or what may come after these
pub record HasOutputs (p : Part) : Type 0 where
  pub output : chosen p (codes "assign") ≡ Some rule.OutputDriven
  pub blocks : HasBlocks p

-- a part at which a cell may come, or what may come after these
pub record HasCells (p : Part) : Type 0 where
  pub cell : chosen p (codes "wire") ≡ Some rule.CellHead
  pub outputs : HasOutputs p

-- a part at which an array may come, or what may come after these
pub record HasArrays (p : Part) : Type 0 where
  pub array : (chosen p (codes "reg") ≡ Some rule.RegRange) ⊎ (chosen p (codes "reg") ≡ Some rule.ArrayRange)
  pub cells : HasCells p

-- a part at which a register may come, or what may come after these
pub record HasRegs (p : Part) : Type 0 where
  pub reg : chosen p (codes "reg") ≡ Some rule.RegRange
  pub cells : HasCells p

-- a part at which a block of an array may come, or the end of the text
pub record HasArrayBlocks (p : Part) : Type 0 where
  pub block : (chosen p (codes "always") ≡ Some rule.BlockHead) ⊎ (chosen p (codes "always") ≡ Some rule.ArrayHead)
  pub ending : chosen p (codes "endmodule") ≡ Some rule.Ending

-- so it is after the opening
pub at_ports : HasPorts part.Ports
unfolding chosen
at_ports = record { comma = refl; close = refl }

blocks_regs : HasBlocks part.Regs
unfolding chosen
blocks_regs = record { block = refl; ending = refl }

blocks_arrays : HasBlocks part.Arrays
unfolding chosen
blocks_arrays = record { block = refl; ending = refl }

blocks_cells : HasBlocks part.Cells
unfolding chosen
blocks_cells = record { block = refl; ending = refl }

blocks_outputs : HasBlocks part.Outputs
unfolding chosen
blocks_outputs = record { block = refl; ending = refl }

-- so it is after a block of a register
pub at_blocks : HasBlocks part.Blocks
unfolding chosen
at_blocks = record { block = refl; ending = refl }

-- so it is after a driven output
pub at_outputs : HasOutputs part.Outputs
unfolding chosen
at_outputs = record { output = refl; blocks = blocks_outputs }

-- so it is after a cell
pub at_cells : HasCells part.Cells
unfolding chosen
at_cells = record { cell = refl; outputs = record { output = refl; blocks = blocks_cells } }

-- so it is after an array
pub at_arrays : HasArrays part.Arrays
unfolding chosen
at_arrays = record { array = inr refl; cells = record { cell = refl; outputs = record { output = refl; blocks = blocks_arrays } } }

-- so it is after the ports
pub at_regs : HasRegs part.Regs
unfolding chosen
at_regs = record { reg = refl; cells = record { cell = refl; outputs = record { output = refl; blocks = blocks_regs } } }

-- so it is after a block of an array
pub at_array_blocks : HasArrayBlocks part.ArrayBlocks
unfolding chosen
at_array_blocks = record { block = inr refl; ending = refl }

-- lines of one kind, one after the other, at parts where such a line may come
pub lines : {X : Type 0} (P : Part → Type 0) (pieces : X → List Piece) (add : File → X → File) (h : File)
    → ((x : X) (qs : List Piece) (g : File) → ((p : Part) → P p → Reads p qs (add g x) h) → (p : Part) → P p → Reads p (pieces x ++ qs) g h)
    → (xs : List X) (qs : List Piece) (g : File) → ((p : Part) → P p → Reads p qs (fold add g xs) h) → (p : Part) → P p → Reads p (all_of pieces xs ++ qs) g h
lines P pieces add h line [] qs g k p c = k p c
lines P pieces add h line (x ∷ xs) qs g k p c =
    subst (λ z. Reads p z g h) (sym (append_assoc (pieces x) (all_of pieces xs) qs))
    (line x (all_of pieces xs ++ qs) g (lines P pieces add h line xs qs (add g x) k) p c)

-- a function of equal arguments
pub cong3 : {A B C D : Type 0} (F : A → B → C → D) (a b : A) (c d : B) (e g : C) → a ≡ b → c ≡ d → e ≡ g → F a c e ≡ F b d g
cong3 F a b c d e g p q r = ap (λ x. F x c e) p ∙ (ap (λ x. F b x e) q ∙ ap (F b d) r)

-- the pieces of a range are what is asked of it
pub in_range : (high : ℕ) (gs : List Field) (ps : List Piece) → AllMatch gs ps
    → AllMatch (f.OpenSquare ∷ f.Number ∷ f.Colon ∷ f.Zero ∷ f.CloseSquare ∷ gs) (range high ps)
in_range high gs ps m = (
  at_word f.OpenSquare (codes "[") refl,
  (at_num high, (at_word f.Colon (codes ":") refl, (at_word f.Zero (codes "0") refl, (at_word f.CloseSquare (codes "]") refl, m)))),
)

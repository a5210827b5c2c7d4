-- The lines that declare registers and arrays.
use Rattle.std.proofs.Common.{◌≡◌, ℕ, suc, ◌+◌, ◌-◌, ◌^◌, ◌<◌, ◌≤◌, true, List, [], ◌∷◌, ◌++◌, length, append_assoc, append-nil, codes, decimal, Option, Some, is_some, unwrap_or, refl, sym, ap, ◌∙◌, subst, arith}
use Rattle.std.proofs.lemmas.Bool.{cond-true}
use Rattle.pdl_net.specs.declared.Reg.{Reg}
use Rattle.pdl_net.specs.Well.{IsWidth}
use Rattle.pdl_vread_text.specs.declared.part.Part.{Part}
use Rattle.pdl_vread_text.specs.declared.part.Part.TheVariants as part
use Rattle.pdl_vread_text.specs.declared.rule.VerilogRule.TheVariants as rule
use Rattle.pdl_vread_text.specs.declared.file.File.{File}
use Rattle.pdl_vread_text.specs.declared.file.RegDecl.{RegDecl}
use Rattle.pdl_vread_text.specs.Tokens.{piece_at, tokens_from}
use Rattle.pdl_vread_text.specs.Words.{number_of, are_decimals}
use Rattle.pdl_vread_text.specs.Grammar.{Row, AllFit, none, more, fields, chosen}
use Rattle.pdl_vread_text.specs.Drafts.{with_range, with_reg}
use Rattle.pdl_vlog.specs.Layout.{range, reg, regs}
use Rattle.pdl_verilog.proofs.Numbers.{number_back, decimals_are}
use Rattle.pdl_verilog.proofs.WordTokens.{token, word_token, space_first, line_end}
use Rattle.pdl_verilog.proofs.Names.{decimal_word, reg_text}
use Rattle.pdl_verilog.proofs.RuleSteps.{CompletesFile, one_rule}
use Rattle.pdl_word.specs.Words.{widest}

-- ---- ranges

-- the tokens of `[w-1:0]`
abbrev pub range_row : ℕ → ℕ → Row → Row
range_row line w later =
    token (codes "[") line ∷ token (decimal (w - 1)) line ∷ token (codes ":") line ∷ token (codes "0") line ∷ token (codes "]") line ∷ later

range_end : (x : List ℕ) (line : ℕ)
    → tokens_from 0 line (codes ":0]"
    ++ x) ≡ token (codes ":") line ∷ token (codes "0") line ∷ token (codes "]") line ∷ tokens_from 0 line x
unfolding piece_at
range_end x line = refl

range_start : (x : List ℕ) (line : ℕ) → tokens_from 0 line (codes "[" ++ x) ≡ token (codes "[") line ∷ tokens_from 0 line x
unfolding piece_at
range_start x line = refl

-- a range and what stands after it as a bracket, the range's high end, and the rest
pub range_split : (w : ℕ) (x : List ℕ) → range w ++ x ≡ codes "[" ++ (decimal (w - 1) ++ (codes ":0]" ++ x))
range_split w x = simp append_assoc

-- a range of at most widest bits gives its tokens before those of what stands after it
pub range_tokens : (w line : ℕ) (x : List ℕ) → w ≤ widest → tokens_from 0 line (range w ++ x) ≡ range_row line w (tokens_from 0 line x)
range_tokens w line x h =
    let word = word_token (decimal (w - 1)) (codes ":0]" ++ x) line (decimal_word (w - 1) (omega arith)) refl in
    ap (tokens_from 0 line) (range_split w x)
    ∙ (range_start (decimal (w - 1) ++ (codes ":0]" ++ x)) line
    ∙ (ap (λ z. token (codes "[") line ∷ z) word
    ∙ ap (λ z. token (codes "[") line ∷ token (decimal (w - 1)) line ∷ z) (range_end x line)))

-- a number below 1000000 that is written is one that the reader takes
pub number_fits : (n : ℕ) → n < 1000000 → is_some (number_of (decimal n)) ≡ true
number_fits n h = ap is_some (number_back n h)

-- the high end of a range, read back
pub high_back : (n : ℕ) → n < 1000000 → unwrap_or (number_of (decimal n)) 0 ≡ n
high_back n h = ap (λ (o : Option ℕ). unwrap_or o 0) (number_back n h)

-- ---- registers

-- what the line of the r-th register declares
abbrev pub reg_decl : ℕ → ℕ → Reg → RegDecl
reg_decl line r x = record { line = line; name = codes "r" ++ decimal r; high = x.width - 1 }

-- a file with one register more
abbrev pub add_reg : File → RegDecl → File
add_reg f g = record f { regs = f.regs ++ g ∷ [] }

-- `reg` and a space give the token of that word
pub reg_start : (x : List ℕ) (line : ℕ) → tokens_from 0 line (codes "reg " ++ x) ≡ token (codes "reg") line ∷ tokens_from 0 line x
unfolding piece_at
reg_start x line = refl

-- the tokens of `r_id ;`
reg_named : (r line : ℕ) (rest : List ℕ)
    → r < 2 ^ 64
    → tokens_from 0 line (codes " r" ++ (decimal r ++ (codes ";\n" ++ rest)))
    ≡ token (codes "r" ++ decimal r) line ∷ token (codes ";") line ∷ tokens_from 0 (line + 1) rest
reg_named r line rest h =
    space_first (codes "r" ++ (decimal r ++ (codes ";\n" ++ rest))) line
    ∙ (word_token (codes "r" ++ decimal r) (codes ";\n" ++ rest) line (reg_text r h).word refl
    ∙ ap (λ z. token (codes "r" ++ decimal r) line ∷ z) (line_end rest line))

reg_chosen : (x : List ℕ) → are_decimals x ≡ true → chosen part.Declared (codes "r" ++ x) ≡ Some rule.RegDeclared
unfolding chosen
reg_chosen x h = cond-true _ _ _ h

-- the line of a register, at a part where one may stand
reg_line : (p : Part) (line r : ℕ) (x : Reg) (rest : List ℕ) (before f : File)
    → chosen p (codes "reg") ≡ Some rule.RegRange → r < 2 ^ 64 → IsWidth x.width
    → CompletesFile part.Regs (line + 1) rest (add_reg before (reg_decl line r x)) f
    → CompletesFile p line (reg r x ++ rest) before f
reg_line p line r x rest before f c l w k d same writes =
    let name = codes "r" ++ decimal r in
    let middle = codes " r" ++ (decimal r ++ (codes ";\n" ++ rest)) in
    let split : reg r x ++ rest ≡ codes "reg " ++ (range x.width ++ middle) = simp append_assoc in
    let most : x.width ≤ widest = w.high in
    let row = range_row line x.width [] in
    let first : tokens_from 0 line (reg r x ++ rest) ≡ token (codes "reg") line ∷ row ++ tokens_from 0 line middle =
    ap (tokens_from 0 line) split
    ∙ (reg_start (range x.width ++ middle) line ∙ ap (λ z. token (codes "reg") line ∷ z) (range_tokens x.width line middle most)) in
    let small : x.width - 1 < 1000000 = omega arith in
    let fit : AllFit (fields rule.RegRange) (token (codes "reg") line ∷ row) =
    more refl (more refl (more (number_fits (x.width - 1) small) (more refl (more refl (more refl none))))) in
    let named : AllFit (fields rule.RegDeclared) (token name line ∷ token (codes ";") line ∷ []) = more (decimals_are r l) (more refl none) in
    let one = with_range d (token (codes "reg") line ∷ row) in
    let two = with_reg one (token name line ∷ token (codes ";") line ∷ []) in
    let file : two.file ≡ add_reg before (reg_decl line r x) =
    ap (λ (g : File). add_reg g (record { line = line; name = name; high = unwrap_or (number_of (decimal (x.width - 1))) 0 })) same
    ∙ ap (λ n. add_reg before (record { line = line; name = name; high = n })) (high_back (x.width - 1) small) in
    one_rule p rule.RegRange line line (reg r x ++ rest) middle (token (codes "reg") line) row d f c fit first
    (one_rule part.Declared rule.RegDeclared line (line + 1) middle rest (token name line)
    (token (codes ";") line ∷ []) one f (reg_chosen (decimal r) (decimals_are r l)) named (reg_named r line rest l)
    (k two file writes))

-- what the lines of the registers from the r-th on declare
abbrev pub reg_decls : ℕ → ℕ → List Reg → List RegDecl
reg_decls line r [] = []
reg_decls line r (x ∷ xs) = reg_decl line r x ∷ reg_decls (line + 1) (suc r) xs

-- a file with more registers
abbrev pub add_regs : File → List RegDecl → File
add_regs f gs = record f { regs = f.regs ++ gs }

-- registers of 1 to widest bits
abbrev pub HaveWidths : List Reg → Type 0
HaveWidths [] = Unit {0}
HaveWidths (x ∷ xs) = IsWidth x.width × HaveWidths xs

reg_first : chosen part.Regs (codes "reg") ≡ Some rule.RegRange
unfolding chosen
reg_first = refl

-- the lines of registers complete the file, where what follows completes it with these registers
pub reg_lines : (line r : ℕ) (xs : List Reg) (rest : List ℕ) (before f : File)
    → r + length xs < 2 ^ 64 → HaveWidths xs
    → CompletesFile part.Regs (line + length xs) rest (add_regs before (reg_decls line r xs)) f
    → CompletesFile part.Regs line (regs r xs ++ rest) before f
reg_lines line r [] rest before f l w k =
    let n : line + 0 ≡ line = omega arith in
    let same : add_regs before [] ≡ before = ap (λ gs. record before { regs = gs }) (append-nil before.regs) in
    subst (λ z. CompletesFile part.Regs z rest before f) n (subst (λ z. CompletesFile part.Regs (line + 0) rest z f) same k)
reg_lines line r (x ∷ xs) rest before f l w k =
    let split : regs r (x ∷ xs) ++ rest ≡ reg r x ++ (regs (suc r) xs ++ rest) = append_assoc (reg r x) (regs (suc r) xs) rest in
    let n : line + length (x ∷ xs) ≡ (line + 1) + length xs = omega arith in
    let one = add_reg before (reg_decl line r x) in
    let same : add_regs before (reg_decls line r (x ∷ xs)) ≡ add_regs one (reg_decls (line + 1) (suc r) xs) =
    ap (λ gs. record before { regs = gs }) (sym (append_assoc before.regs (reg_decl line r x ∷ []) (reg_decls (line + 1) (suc r) xs))) in
    let moved : CompletesFile part.Regs ((line + 1) + length xs) rest (add_regs one (reg_decls (line + 1) (suc r) xs)) f =
    subst (λ z. CompletesFile part.Regs z rest (add_regs one (reg_decls (line + 1) (suc r) xs)) f) n
    (subst (λ z. CompletesFile part.Regs (line + length (x ∷ xs)) rest z f) same k) in
    let later = reg_lines (line + 1) (suc r) xs rest one f (omega arith) w.1 moved in
    subst (λ z. CompletesFile part.Regs line z before f) (sym split)
    (reg_line part.Regs line r x (regs (suc r) xs ++ rest) before f reg_first (omega arith) w.0 later)

-- The first line: the module and its ports.
use Rattle.std.proofs.Common.{◌≡◌, ℕ, ◌+◌, ◌-◌, ◌≤◌, Bool, true, false, List, [], ◌∷◌, ◌++◌, append_assoc, append-nil, flat_map, codes, decimal, Some, is_some, unwrap_or, refl, sym, ap, ◌∙◌, subst, arith}
use Rattle.std.specs.List.{prefix_len}
use Rattle.pdl_net.specs.declared.Dir.{Dir}
use Rattle.pdl_net.specs.declared.Dir.TheVariants.{In, Out}
use Rattle.pdl_net.specs.declared.Port.{Port}
use Rattle.pdl_net.specs.Well.{IsWidth}
use Rattle.pdl_net.specs.Pipe.{is_input}
use Rattle.pdl_vread_text.specs.declared.part.Part.TheVariants as part
use Rattle.pdl_vread_text.specs.declared.rule.VerilogRule.{VerilogRule}
use Rattle.pdl_vread_text.specs.declared.rule.VerilogRule.TheVariants as rule
use Rattle.pdl_vread_text.specs.declared.file.File.{File}
use Rattle.pdl_vread_text.specs.declared.file.PortDecl.{PortDecl}
use Rattle.pdl_vread_text.specs.declared.draft.Draft.{Draft}
use Rattle.pdl_vread_text.specs.Tokens.{is_word, piece_at, tokens_from}
use Rattle.pdl_vread_text.specs.Words.{number_of, is_port}
use Rattle.pdl_vread_text.specs.Grammar.{Row, AllFit, none, more, fields, chosen}
use Rattle.pdl_vread_text.specs.Drafts.{with_port}
use Rattle.pdl_vlog.specs.Layout.{range, direction, port}
use Rattle.pdl_verilog.proofs.WordTokens.{IsWordText, token, word_token, space_first}
use Rattle.pdl_verilog.proofs.RuleSteps.{CompletesFile, one_rule}
use Rattle.pdl_verilog.proofs.Declarations.{range_row, range_tokens, number_fits, high_back}
use Rattle.pdl_word.specs.Words.{widest}

-- a port that can be written
pub record IsPortText (p : Port) : Type 0 where
  pub width : IsWidth p.width
  pub word : IsWordText p.name
  pub named : is_port p.name ≡ true

-- ports that can be written
abbrev pub ArePortTexts : List Port → Type 0
ArePortTexts [] = Unit {0}
ArePortTexts (p ∷ ps) = IsPortText p × ArePortTexts ps

-- what the first line declares of a port
abbrev pub port_decl : ℕ → Port → PortDecl
port_decl line p = record { line = line; name = p.name; high = p.width - 1; input = is_input p.dir }

-- a file with one port more
abbrev pub add_port : File → PortDecl → File
add_port f g = record f { ports = f.ports ++ g ∷ [] }

-- what stands after the ports
abbrev pub closing : List ℕ → List ℕ
closing rest = codes ");\n" ++ rest

-- no port begins with a byte of a word
port_start : (p : Port) (x : List ℕ) → prefix_len is_word (port p ++ x) ≡ 0
port_start p x = by_dir p.dir
  where
    by_dir : (d : Dir) → prefix_len is_word ((((direction d ++ range p.width) ++ codes " ") ++ p.name) ++ x) ≡ 0
    by_dir In = refl
    by_dir (Out n) = refl

-- ports, with what stands after them, begin with no byte of a word
pub ports_start : (ps : List Port) (rest : List ℕ) → prefix_len is_word (flat_map port ps ++ closing rest) ≡ 0
ports_start [] rest = refl
ports_start (p ∷ ps) rest = ap (prefix_len is_word) (append_assoc (port p) (flat_map port ps) (closing rest)) ∙ port_start p (flat_map port ps ++ closing rest)

-- ---- one port

comma_chosen : chosen part.Ports (codes ",") ≡ Some rule.NextPort
unfolding chosen
comma_chosen = refl

-- the range and the name of a port
name_tokens : (line w : ℕ) (name x : List ℕ)
    → w ≤ widest → IsWordText name → prefix_len is_word x ≡ 0
    → tokens_from 0 line (range w ++ (codes " " ++ (name ++ x))) ≡ range_row line w (token name line ∷ tokens_from 0 line x)
name_tokens line w name x h o e =
    range_tokens w line (codes " " ++ (name ++ x)) h
    ∙ ap (range_row line w) (space_first (name ++ x) line ∙ word_token name x line o e)

-- a word, and the rule of a direction
abbrev word_of : Dir → List ℕ
word_of In = codes "input"
word_of (Out n) = codes "output"

abbrev rule_of : Dir → VerilogRule
rule_of In = rule.InputPort
rule_of (Out n) = rule.OutputPort

module _ (line : ℕ) (name x : List ℕ) (w : ℕ) (before f : File) (small : w ≤ widest) (o : IsWordText name)
    (named : is_port name ≡ true) (apart : prefix_len is_word x ≡ 0) where
  abbrev after_word : List ℕ
  after_word = range w ++ (codes " " ++ (name ++ x))

  -- the text after the comma
  abbrev after_comma : Dir → List ℕ
  after_comma In = codes " input wire " ++ after_word
  after_comma (Out n) = codes " output wire " ++ after_word

  after_lexed : (d : Dir)
      → tokens_from 0 line (after_comma d) ≡ token (word_of d) line ∷ token (codes "wire") line ∷ range_row line w (token name line ∷ tokens_from 0 line x)
  unfolding piece_at
  after_lexed In = ap (λ z. token (codes "input") line ∷ token (codes "wire") line ∷ z) (name_tokens line w name x small o apart)
  after_lexed (Out n) = ap (λ z. token (codes "output") line ∷ token (codes "wire") line ∷ z) (name_tokens line w name x small o apart)

  comma_lexed : (d : Dir) → tokens_from 0 line (direction d ++ after_word) ≡ token (codes ",") line ∷ [] ++ tokens_from 0 line (after_comma d)
  unfolding piece_at
  comma_lexed In = refl
  comma_lexed (Out n) = refl

  dir_chosen : (d : Dir) → chosen part.Direction (word_of d) ≡ Some (rule_of d)
  unfolding chosen
  dir_chosen In = refl
  dir_chosen (Out n) = refl

  number : is_some (number_of (decimal (w - 1))) ≡ true
  number = number_fits (w - 1) (omega arith)

  added : (d : Draft) (i : Bool) → d.file ≡ before
      → (with_port d i (token (codes "input") line ∷ token (codes "wire") line ∷ range_row line w (token name line ∷ []))).file
      ≡ add_port before (record { line = line; name = name; high = w - 1; input = i })
  added d i e =
      ap (λ (g : File). add_port g (record { line = line; name = name; high = unwrap_or (number_of (decimal (w - 1))) 0; input = i })) e
      ∙ ap (λ n. add_port before (record { line = line; name = name; high = n; input = i })) (high_back (w - 1) (omega arith))

  -- the text of a port after a comma completes the file, where what follows completes it with that port
  pub port_text : (d : Dir)
      → CompletesFile part.Ports line x (add_port before (record { line = line; name = name; high = w - 1; input = is_input d })) f
      → CompletesFile part.Ports line (direction d ++ after_word) before f
  port_text In k d e v =
      let ts : Row = token (codes "wire") line ∷ range_row line w (token name line ∷ []) in
      let fit : AllFit (fields rule.InputPort) (token (codes "input") line ∷ ts) =
      more refl (more refl (more refl (more number (more refl (more refl (more refl (more named none))))))) in
      one_rule part.Ports rule.NextPort line line (direction In ++ after_word) (after_comma In) (token (codes ",") line)
      [] d f comma_chosen (more refl none) (comma_lexed In)
      (one_rule part.Direction rule.InputPort line line (after_comma In) x (token (codes "input") line) ts d f (dir_chosen In) fit (after_lexed In)
      (k _ (added d true e) v))
  port_text (Out n) k d e v =
      let ts : Row = token (codes "wire") line ∷ range_row line w (token name line ∷ []) in
      let fit : AllFit (fields rule.OutputPort) (token (codes "output") line ∷ ts) =
      more refl (more refl (more refl (more number (more refl (more refl (more refl (more named none))))))) in
      one_rule part.Ports rule.NextPort line line (direction (Out n) ++ after_word) (after_comma (Out n))
      (token (codes ",") line) [] d f comma_chosen (more refl none) (comma_lexed (Out n))
      (one_rule part.Direction rule.OutputPort line line (after_comma (Out n)) x (token (codes "output") line) ts d f
      (dir_chosen (Out n)) fit (after_lexed (Out n))
      (k _ (added d false e) v))

-- ---- all ports

closing_tokens : (rest : List ℕ) (line : ℕ)
    → tokens_from 0 line (closing rest) ≡ token (codes ")") line ∷ token (codes ";") line ∷ tokens_from 0 (line + 1) rest
unfolding piece_at
closing_tokens rest line = refl

closing_chosen : chosen part.Ports (codes ")") ≡ Some rule.Closing
unfolding chosen
closing_chosen = refl

-- what the first line declares of its ports
abbrev pub port_decls : ℕ → List Port → List PortDecl
port_decls line [] = []
port_decls line (p ∷ ps) = port_decl line p ∷ port_decls line ps

-- a file with more ports
abbrev pub add_ports : File → List PortDecl → File
add_ports f gs = record f { ports = f.ports ++ gs }

-- the ports, up to the first line's end, complete the file that what is left completes with them
pub port_texts : (line : ℕ) (ps : List Port) (rest : List ℕ) (before f : File) → ArePortTexts ps
    → CompletesFile part.Regs (line + 1) rest (add_ports before (port_decls line ps)) f
    → CompletesFile part.Ports line (flat_map port ps ++ closing rest) before f
port_texts line [] rest before f h k = λ d e v.
    let same : add_ports before [] ≡ before = ap (λ gs. record before { ports = gs }) (append-nil before.ports) in
    one_rule part.Ports rule.Closing line (line + 1) (closing rest) rest (token (codes ")") line)
    (token (codes ";") line ∷ []) d f closing_chosen (more refl (more refl none)) (closing_tokens rest line)
    (k d (e ∙ sym same) v)
port_texts line (p ∷ ps) rest before f h k =
    let x = flat_map port ps ++ closing rest in
    let one = add_port before (port_decl line p) in
    let same : add_ports before (port_decls line (p ∷ ps)) ≡ add_ports one (port_decls line ps) =
    ap (λ gs. record before { ports = gs }) (sym (append_assoc before.ports (port_decl line p ∷ []) (port_decls line ps))) in
    let later = port_texts line ps rest one f h.1 (subst (λ z. CompletesFile part.Regs (line + 1) rest z f) same k) in
    let most : p.width ≤ widest = h.0.width.high in
    let text = port_text line p.name x p.width before f most h.0.word h.0.named (ports_start ps rest) p.dir later in
    let split : flat_map port (p ∷ ps) ++ closing rest ≡ direction p.dir ++ (range p.width ++ (codes " " ++ (p.name ++ x))) = simp append_assoc in
    subst (λ z. CompletesFile part.Ports line z before f) (sym split) text

-- The text of a source's netlist with the names of its nets.
use Rattle.std.specs.Prelude.{◌≡◌, ℕ, List, [], ◌∷◌, ◌++◌, flat_map, codes, decimal, None}
use Rattle.pdl_semantics.specs.Tree.{Pipe}
use Rattle.pdl_syntax_grammar.specs.Text.{IsText}
use Rattle.pdl_rules.specs.Refusal.{refusal}
use Rattle.pdl_net.specs.declared.Net.{Net}
use Rattle.pdl_net.specs.declared.Net.TheVariants.{Input, Reg, Cell}
use Rattle.pdl_net.specs.declared.Netlist.{Netlist}
use Rattle.pdl_vlog.specs.Layout.{verilog}
use Rattle.pdl_law_parts.specs.declared.Mark.{Mark}
use Rattle.pdl_law_parts.specs.declared.Mark.TheVariants.{Held as held, Late as late}
use Rattle.pdl_law_follows.specs.Follows.{Follows}
use Rattle.pdl_pipe.specs.declared.names.Role.{Role}
use Rattle.pdl_pipe.specs.declared.names.Role.TheVariants.{Holds, Moves, Keeps, Ends, Guess, Marked, Ticket, Lock, Port, Order, Tail}
use Rattle.pdl_pipe.specs.declared.names.NamedNet.{NamedNet}
use Rattle.pdl_pipe.specs.Names.{AreNames}

-- a net as the text of its netlist names it; an input by its number
abbrev pub net_text : Net → List ℕ
net_text (Input i) = codes "i" ++ decimal i
net_text (Reg r) = codes "r" ++ decimal r
net_text (Cell k) = codes "n" ++ decimal k

-- a word and numbers, each after a space
abbrev pub words_text : List ℕ → List ℕ → List ℕ
words_text word numbers = codes " " ++ word ++ flat_map (λ n. codes " " ++ decimal n) numbers

-- the word for a mark of a location
abbrev pub mark_word : Mark → List ℕ
mark_word held = codes "held"
mark_word late = codes "late"

-- what a net stands for, in a word and numbers of stages, memories, variables and places
abbrev pub role_text : Role → List ℕ
role_text (Holds k) = words_text (codes "holds") (k ∷ [])
role_text (Moves k) = words_text (codes "moves") (k ∷ [])
role_text (Keeps k x) = words_text (codes "keeps") (k ∷ x ∷ [])
role_text (Ends k x) = words_text (codes "ends") (k ∷ x ∷ [])
role_text (Marked k h m a) = words_text (mark_word h) (k ∷ m ∷ a ∷ [])
role_text (Ticket k m) = words_text (codes "ticket") (k ∷ m ∷ [])
role_text (Guess k i) = words_text (codes "guess") (k ∷ i ∷ [])
role_text (Lock m i) = words_text (codes "lock") (m ∷ i ∷ [])
role_text (Port m i) = words_text (codes "port") (m ∷ i ∷ [])
role_text (Order k i) = words_text (codes "order") (k ∷ i ∷ [])
role_text (Tail k m) = words_text (codes "tail") (k ∷ m ∷ [])

-- the comment that names a net
abbrev pub name_text : NamedNet → List ℕ
name_text x = codes "// " ++ net_text x.net ++ role_text x.role ++ codes "\n"

-- the comments that name nets
abbrev pub names_text : List NamedNet → List ℕ
names_text names = flat_map name_text names

-- the text of a netlist that follows a pipe, and below it the names of its nets
pub record IsNamedText (p : Pipe) (text : List ℕ) : Type 0 where
  pub netlist : Netlist
  pub names : List NamedNet
  pub follows : Follows p netlist
  pub named : AreNames p netlist names
  pub same : text ≡ verilog netlist ++ names_text names

-- a text is that of a pipe that breaks no rule
pub record IsAccepted (source : List ℕ) (p : Pipe) : Type 0 where
  pub text : IsText source p
  pub kept : refusal source p ≡ None

-- what is written for a source
pub record IsNamed (source text : List ℕ) : Type 0 where
  pub pipe : Pipe
  pub accepted : IsAccepted source pipe
  pub written : IsNamedText pipe text

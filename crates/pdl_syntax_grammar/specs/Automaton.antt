-- An automaton that takes one token after another: what it still expects is a stack of symbols. It knows no levels and no trees, and says where a token is out of place.
use Rattle.std.specs.Prelude.{Bool, true, false, List, [], ◌∷◌, ◌++◌, Option, Some, None, cond}
use Rattle.pdl_semantics.specs.Tree.{BinaryOp}
use Rattle.pdl_syntax_tokens.specs.declared.token.Mark.{Mark}
use Rattle.pdl_syntax_tokens.specs.declared.token.Mark.TheVariants as mark
use Rattle.pdl_syntax_tokens.specs.declared.token.TokenKind.{TokenKind}
use Rattle.pdl_syntax_tokens.specs.declared.token.TokenKind.TheVariants as kind
use Rattle.pdl_syntax_tokens.specs.Tokens.{Row}
use Rattle.pdl_syntax_grammar.specs.Grammar.{operator_of}
use Rattle.pdl_syntax_cursor.specs.Looks.{is_mark}
use Rattle.pdl_syntax_grammar.specs.Reading.{goes_on}

-- what may stand after an expression: a semicolon, a round bracket, a comma, a colon, or more arguments and a round bracket
pub data Closer : Type 0 where
  semicolon : Closer
  round : Closer
  comma : Closer
  colon : Closer
  in_args : Closer

-- lists with commas
pub data Listing : Type 0 where
  params : Listing
  mems : Listing
  args : Listing
  literals : Listing

-- what may be expected: one token of a kind, or a part of a text of which the next token decides
pub data Sym : Type 0 where
  a : Mark → Sym  -- this mark
  a_name : Sym
  a_number : Sym
  a_literal : Sym
  an_access : Sym
  a_pace : Sym  -- `comb`, `delayed` or `advisory`, then as after a memory
  a_lock_kind : Sym
  operand : Closer → Sym  -- an expression and its closer
  slicing : Closer → Sym  -- after a name: a slice, or what stands after an operand
  rest : Closer → Sym  -- after an operand, and the closer
  more : Listing → Sym  -- after a value of a list: a comma and more, or the end of the list
  locked : Sym  -- after `comb` or `delayed`: a lock or not, then as after a memory
  items : Sym  -- statements, and the closing brace
  else_items : Sym  -- after a branch: another branch or none, then as statements
  after_name : Sym  -- after the name that a statement begins with
  assigned : Sym  -- after `x =`
  assigned_name : Sym  -- after `x = y`
  in_square : Sym  -- after `x = y [`

-- the symbols that are still expected, the next one first
abbrev pub Stack : Type 0
Stack = List Sym

-- the mark after a list
abbrev pub closer : Listing → Mark
closer params = mark.CloseRound
closer mems = mark.CloseSquare
closer args = mark.CloseRound
closer literals = mark.CloseRound

-- what is expected of a value of a list and what follows it
abbrev pub first_of : Listing → Stack
first_of params = a_name ∷ a mark.Colon ∷ a mark.Uint ∷ a mark.Less ∷ a_number ∷ a mark.Greater ∷ more params ∷ []
first_of mems =
    a_name ∷ a mark.Colon ∷ a mark.Uint ∷ a mark.Less ∷ a_number ∷ a mark.Greater ∷ a mark.OpenSquare ∷ a_number ∷ a mark.CloseSquare ∷ a_pace ∷ []
first_of args = operand in_args ∷ []
first_of literals = a_literal ∷ more literals ∷ []

-- the symbol of what stands after an expression
abbrev pub closing : Closer → Sym
closing semicolon = a mark.Semicolon
closing round = a mark.CloseRound
closing comma = a mark.Comma
closing colon = a mark.Colon
closing in_args = more args

-- a mark that is expected is taken, and nothing more is expected for it
abbrev pub if_mark : Mark → TokenKind → Option Stack
if_mark m k = cond (is_mark m (Some k)) (Some []) None

-- after a value of a list: the next value where a comma came, nothing where the list ended
abbrev pub act_on : Listing → Option Bool → Option Stack
act_on l (Some true) = Some (first_of l)
act_on l (Some false) = Some []
act_on l None = None

-- what a token brings after a value of a list: a comma or the mark after the list
abbrev pub act_more : Listing → TokenKind → Option Stack
act_more l k = act_on l (goes_on (closer l) (Some k))

-- what a token brings where an expression has to be closed
abbrev pub act_close : Closer → TokenKind → Option Stack
act_close semicolon k = if_mark mark.Semicolon k
act_close round k = if_mark mark.CloseRound k
act_close comma k = if_mark mark.Comma k
act_close colon k = if_mark mark.Colon k
act_close in_args k = act_more args k

-- what a token brings after an operand where no operator came: a choice, or the closer
abbrev pub act_choice : Closer → TokenKind → Option Stack
act_choice q (kind.Mark mark.Question) = Some (operand colon ∷ operand q ∷ [])
act_choice q k = act_close q k

-- what a token brings after an operand: an operand after an operator, else what comes of a choice or the closer
abbrev pub act_operator : Closer → TokenKind → Option BinaryOp → Option Stack
act_operator q k (Some op) = Some (operand q ∷ [])
act_operator q k None = act_choice q k

-- what a token brings after an operand
abbrev pub act_rest : Closer → TokenKind → Option Stack
act_rest q (kind.Mark m) = act_operator q (kind.Mark m) (operator_of m)
act_rest q k = act_close q k

-- what a token brings after a name: a slice after a bracket, else what it brings after an operand
abbrev pub act_slicing : Closer → TokenKind → Option Stack
act_slicing q (kind.Mark mark.OpenSquare) = Some (a_number ∷ a mark.Colon ∷ a_number ∷ a mark.CloseSquare ∷ rest q ∷ [])
act_slicing q k = act_rest q k

-- what a token brings where an expression begins: what is left of the operand, and what follows it
abbrev pub act_operand : Closer → TokenKind → Option Stack
act_operand q (kind.Literal n v) = Some (rest q ∷ [])
act_operand q kind.Name = Some (slicing q ∷ [])
act_operand q (kind.Mark mark.OpenRound) = Some (operand round ∷ rest q ∷ [])
act_operand q (kind.Mark mark.Tilde) = Some (operand q ∷ [])
act_operand q (kind.Mark mark.Cat) = Some (a mark.OpenRound ∷ operand comma ∷ operand round ∷ rest q ∷ [])
act_operand q (kind.Mark mark.LessSigned) = Some (a mark.OpenRound ∷ operand comma ∷ operand round ∷ rest q ∷ [])
act_operand q (kind.Mark mark.ZeroExtend) = Some (a mark.OpenRound ∷ operand comma ∷ a_number ∷ a mark.CloseRound ∷ rest q ∷ [])
act_operand q (kind.Mark mark.SignExtend) = Some (a mark.OpenRound ∷ operand comma ∷ a_number ∷ a mark.CloseRound ∷ rest q ∷ [])
act_operand q _ = None

-- what a token brings after `comb` or `delayed`: a lock, or what follows a memory
abbrev pub act_locked : TokenKind → Option Stack
act_locked (kind.Mark mark.Lock) = Some (a_lock_kind ∷ a mark.OpenRound ∷ a_number ∷ a mark.CloseRound ∷ more mems ∷ [])
act_locked k = act_more mems k

-- what a token brings where the kind of a memory is expected: a lock or not after `comb` and `delayed`, what follows a memory after `advisory`
abbrev pub act_pace : TokenKind → Option Stack
act_pace (kind.Mark mark.Comb) = Some (locked ∷ [])
act_pace (kind.Mark mark.Delayed) = Some (locked ∷ [])
act_pace (kind.Mark mark.Advisory) = Some (more mems ∷ [])
act_pace _ = None

-- a location in brackets, and what stands between it and the closing bracket
abbrev pub held_stack : Stack → Stack
held_stack between = a mark.OpenRound ∷ a_name ∷ a mark.OpenSquare ∷ a_name ∷ a mark.CloseSquare ∷ (between ++ (a mark.CloseRound ∷ a mark.Semicolon ∷ []))

-- what a token brings that begins a statement on a lock: a location in brackets, and then statements
abbrev pub act_locking : TokenKind → Option Stack
act_locking (kind.Mark mark.Reserve) = Some (held_stack (a mark.Comma ∷ an_access ∷ []) ++ (items ∷ []))
act_locking (kind.Mark mark.Acquire) = Some (held_stack (a mark.Comma ∷ an_access ∷ []) ++ (items ∷ []))
act_locking (kind.Mark mark.Block) = Some (held_stack [] ++ (items ∷ []))
act_locking (kind.Mark mark.Release) = Some (held_stack [] ++ (items ∷ []))
act_locking _ = None

-- a guess and arguments in brackets, and a semicolon
abbrev pub against_stack : Stack
against_stack = a mark.OpenRound ∷ a_name ∷ a mark.Comma ∷ operand in_args ∷ a mark.Semicolon ∷ []

-- what a token brings where a statement begins or the closing brace comes
abbrev pub act_items : TokenKind → Option Stack
act_items kind.Name = Some (after_name ∷ items ∷ [])
act_items (kind.Mark mark.Separator) = Some (items ∷ [])
act_items (kind.Mark mark.If) = Some (a mark.OpenRound ∷ operand round ∷ a mark.OpenBrace ∷ items ∷ else_items ∷ [])
act_items (kind.Mark mark.Call) = Some (a mark.OpenRound ∷ operand in_args ∷ a mark.Semicolon ∷ items ∷ [])
act_items (kind.Mark mark.Verify) = Some (against_stack ++ (items ∷ []))
act_items (kind.Mark mark.Update) = Some (against_stack ++ (items ∷ []))
act_items (kind.Mark mark.SpecCheck) = Some (a mark.OpenRound ∷ a mark.CloseRound ∷ a mark.Semicolon ∷ items ∷ [])
act_items (kind.Mark mark.SpecBarrier) = Some (a mark.OpenRound ∷ a mark.CloseRound ∷ a mark.Semicolon ∷ items ∷ [])
act_items (kind.Mark mark.CloseBrace) = Some []
act_items k = act_locking k

-- what a token brings after a branch: another branch after `else`, or else statements
abbrev pub act_else_items : TokenKind → Option Stack
act_else_items (kind.Mark mark.Else) = Some (a mark.OpenBrace ∷ items ∷ items ∷ [])
act_else_items k = act_items k

-- what a token brings after the name that a statement begins with: a binding, a delayed read or a write
abbrev pub act_after_name : TokenKind → Option Stack
act_after_name (kind.Mark mark.Assign) = Some (assigned ∷ [])
act_after_name (kind.Mark mark.Arrow) = Some (a_name ∷ a mark.OpenSquare ∷ a_name ∷ a mark.CloseSquare ∷ a mark.Semicolon ∷ [])
act_after_name (kind.Mark mark.OpenSquare) = Some (a_name ∷ a mark.CloseSquare ∷ a mark.Arrow ∷ operand semicolon ∷ [])
act_after_name _ = None

-- what a token brings after `x =`: a name, a guess, or an expression
abbrev pub act_assigned : TokenKind → Option Stack
act_assigned kind.Name = Some (assigned_name ∷ [])
act_assigned (kind.Mark mark.SpecCall) = Some (a mark.OpenRound ∷ operand in_args ∷ a mark.Semicolon ∷ [])
act_assigned k = act_operand semicolon k

-- what a token brings after `x = y`: a bracket, or what follows an operand
abbrev pub act_assigned_name : TokenKind → Option Stack
act_assigned_name (kind.Mark mark.OpenSquare) = Some (in_square ∷ [])
act_assigned_name k = act_rest semicolon k

-- what a token brings after `x = y [`: the address of a read, or the bounds of a slice
abbrev pub act_in_square : TokenKind → Option Stack
act_in_square kind.Name = Some (a mark.CloseSquare ∷ a mark.Semicolon ∷ [])
act_in_square (kind.Number n) = Some (a mark.Colon ∷ a_number ∷ a mark.CloseSquare ∷ rest semicolon ∷ [])
act_in_square _ = None

-- a name that is expected is taken
abbrev pub if_name : TokenKind → Option Stack
if_name kind.Name = Some []
if_name _ = None

-- a number that is expected is taken
abbrev pub if_number : TokenKind → Option Stack
if_number (kind.Number n) = Some []
if_number _ = None

-- a literal that is expected is taken
abbrev pub if_literal : TokenKind → Option Stack
if_literal (kind.Literal n v) = Some []
if_literal _ = None

-- `R` and `W` are taken where one of them is expected
abbrev pub if_access : TokenKind → Option Stack
if_access (kind.Mark mark.R) = Some []
if_access (kind.Mark mark.W) = Some []
if_access _ = None

-- `queue`, `bypass` and `rename` are taken where one of them is expected
abbrev pub if_lock_kind : TokenKind → Option Stack
if_lock_kind (kind.Mark mark.Queue) = Some []
if_lock_kind (kind.Mark mark.Bypass) = Some []
if_lock_kind (kind.Mark mark.Rename) = Some []
if_lock_kind _ = None

-- what is expected in place of the symbol, once the token is taken
abbrev pub act : Sym → TokenKind → Option Stack
act (a m) k = if_mark m k
act a_name k = if_name k
act a_number k = if_number k
act a_literal k = if_literal k
act an_access k = if_access k
act a_pace k = act_pace k
act a_lock_kind k = if_lock_kind k
act (operand q) k = act_operand q k
act (slicing q) k = act_slicing q k
act (rest q) k = act_rest q k
act (more l) k = act_more l k
act locked k = act_locked k
act items k = act_items k
act else_items k = act_else_items k
act after_name k = act_after_name k
act assigned k = act_assigned k
act assigned_name k = act_assigned_name k
act in_square k = act_in_square k

-- what is expected of a start clause
abbrev pub start_clause : Stack
start_clause = a mark.Start ∷ a_name ∷ a mark.OpenRound ∷ a_literal ∷ more literals ∷ a mark.Semicolon ∷ []

-- what is expected of a whole text
abbrev pub whole : Stack
whole = a mark.Pipe ∷ a_name ∷ a mark.OpenRound ∷ (first_of params ++ (a mark.OpenSquare ∷ (first_of mems ++ (a mark.OpenBrace ∷ items ∷ start_clause))))

-- the run once a token was looked at: on with what it brings, or stopped where it isn't taken
abbrev pub run_after : Option Stack → Stack → (Stack → Option Row) → Row → Option Row
run_after None below go left = Some left
run_after (Some above) below go left = go (above ++ below)

-- none where all is taken and nothing more is expected, else the tokens left where it stops
abbrev pub run : Row → Stack → Option Row
run [] [] = None
run [] (s ∷ below) = Some []
run (t ∷ ts) [] = Some (t ∷ ts)
run (t ∷ ts) (s ∷ below) = run_after (act s t.kind) below (run ts) (t ∷ ts)

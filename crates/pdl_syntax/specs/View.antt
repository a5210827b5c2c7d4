-- The symbols of the automaton that values of the program stand for.
use Rattle.std.specs.Prelude.{◌≡◌, Bool, true, false, List, [], ◌∷◌, ◌++◌, Option, Some, None, Result, Ok, Err}
use Rattle.pdl_syntax_grammar.specs.Automaton as spec
use Rattle.pdl_syntax_grammar.specs.Automaton.{Closer, Listing, Sym, Stack}
use Rattle.pdl_kit.specs.declared.no_memory.NoMemory.{NoMemory}
use Rattle.pdl_syntax.specs.declared.symbol.Closer as r_closer
use Rattle.pdl_syntax.specs.declared.symbol.Closer.TheVariants as r_closers
use Rattle.pdl_syntax.specs.declared.symbol.Listing as r_listing
use Rattle.pdl_syntax.specs.declared.symbol.Listing.TheVariants as r_listings
use Rattle.pdl_syntax.specs.declared.symbol.Symbol as r_symbol
use Rattle.pdl_syntax.specs.declared.symbol.Symbol.TheVariants as r

-- the closer that a value of the program stands for
abbrev pub closer_view : r_closer.Closer → Closer
closer_view r_closers.Semicolon = spec.semicolon
closer_view r_closers.Round = spec.round
closer_view r_closers.Comma = spec.comma
closer_view r_closers.Colon = spec.colon
closer_view r_closers.Arguments = spec.in_args

-- the kind of list that a value of the program stands for
abbrev pub listing_view : r_listing.Listing → Listing
listing_view r_listings.Params = spec.params
listing_view r_listings.Mems = spec.mems
listing_view r_listings.Args = spec.args
listing_view r_listings.Literals = spec.literals

-- the symbol that a value of the program stands for
abbrev pub symbol_view : r_symbol.Symbol → Sym
symbol_view (r.Mark m) = spec.a m
symbol_view r.Name = spec.a_name
symbol_view r.Number = spec.a_number
symbol_view r.Literal = spec.a_literal
symbol_view r.Access = spec.an_access
symbol_view r.Pace = spec.a_pace
symbol_view r.LockKind = spec.a_lock_kind
symbol_view (r.Operand q) = spec.operand (closer_view q)
symbol_view (r.Slicing q) = spec.slicing (closer_view q)
symbol_view (r.Rest q) = spec.rest (closer_view q)
symbol_view (r.More l) = spec.more (listing_view l)
symbol_view r.Locked = spec.locked
symbol_view r.Items = spec.items
symbol_view r.ElseItems = spec.else_items
symbol_view r.AfterName = spec.after_name
symbol_view r.Assigned = spec.assigned
symbol_view r.AssignedName = spec.assigned_name
symbol_view r.InSquare = spec.in_square

-- the symbol taken off, if there was one
abbrev pub maybe_symbol_view : Option r_symbol.Symbol → Option Sym
maybe_symbol_view (Some s) = Some (symbol_view s)
maybe_symbol_view None = None

-- the symbol on top of a stack, if there is one
abbrev pub top : Stack → Option Sym
top [] = None
top (s ∷ below) = Some s

-- the stack below its top symbol
abbrev pub below_top : Stack → Stack
below_top [] = []
below_top (s ∷ below) = below

-- whether the token was taken, and what is expected in the symbol's place then, unless memory ran out
abbrev pub Expects : Option Stack → Result Bool NoMemory → Stack → Stack → Type 0
Expects above (Err e) before now = Unit {0}
Expects (Some above) (Ok true) before now = now ≡ above ++ before
Expects None (Ok false) before now = now ≡ before
Expects above (Ok b) before now = ⊥

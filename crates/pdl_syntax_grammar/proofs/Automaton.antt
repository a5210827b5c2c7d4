-- The automaton reads from the left, and what it expects can always be completed.
use Rattle.std.proofs.Common.{◌≡◌, true, [], ◌∷◌, ◌++◌, Option, Some, None, refl, ap, sym, subst, ◌∙◌}
use denote.Enum.Bare.{true_same}
use Rattle.pdl_syntax_tokens.specs.contracts.token.Mark.{the_type}
use Rattle.pdl_syntax_tokens.specs.declared.token.Mark.{Mark}
use Rattle.pdl_syntax_tokens.specs.declared.token.Mark.TheVariants as mark
use Rattle.pdl_syntax_tokens.specs.declared.token.TokenKind.TheVariants as kind
use Rattle.pdl_syntax_tokens.specs.Tokens.{Token}
use Rattle.pdl_syntax_grammar.specs.Automaton.{Closer, semicolon, round, comma, colon, in_args, Listing, params, mems, args, literals, Sym, a, a_name, a_number, a_literal, an_access, a_pace, a_lock_kind, operand, slicing, rest, more, locked, items, else_items, after_name, assigned, assigned_name, in_square, Stack, closer, act, run_after, run}
use Rattle.pdl_syntax_tokens.specs.Tokens.{Row}
use Rattle.pdl_syntax_grammar.specs.Grammar.{Word, on, at}
use Rattle.pdl_syntax_cursor.specs.Looks.{is_mark}

-- ---- what it expects has a shortest end

-- any word
abbrev any : Word
any = record { text = []; span = record { start = 0; end = 0; line = 0 } }

abbrev end_of : Closer → Token
end_of semicolon = at any mark.Semicolon
end_of round = at any mark.CloseRound
end_of comma = at any mark.Comma
end_of colon = at any mark.Colon
end_of in_args = at any mark.CloseRound

abbrev some_literal : Token
some_literal = on any (kind.Literal 0 None)

abbrev shortest : Sym → Row
shortest (a m) = at any m ∷ []
shortest a_name = on any kind.Name ∷ []
shortest a_number = on any (kind.Number 0) ∷ []
shortest a_literal = some_literal ∷ []
shortest an_access = at any mark.R ∷ []
shortest a_pace = at any mark.Comb ∷ at any mark.CloseSquare ∷ []
shortest a_lock_kind = at any mark.Queue ∷ []
shortest (operand q) = some_literal ∷ end_of q ∷ []
shortest (slicing q) = end_of q ∷ []
shortest (rest q) = end_of q ∷ []
shortest (more l) = at any (closer l) ∷ []
shortest locked = at any mark.CloseSquare ∷ []
shortest items = at any mark.CloseBrace ∷ []
shortest else_items = at any mark.CloseBrace ∷ []
shortest after_name = at any mark.Assign ∷ some_literal ∷ at any mark.Semicolon ∷ []
shortest assigned = some_literal ∷ at any mark.Semicolon ∷ []
shortest assigned_name = at any mark.Semicolon ∷ []
shortest in_square = on any kind.Name ∷ at any mark.CloseSquare ∷ at any mark.Semicolon ∷ []

-- the shortest tokens that complete all that a stack expects
abbrev pub ending : Stack → Row
ending [] = []
ending (s ∷ below) = shortest s ++ ending below

rest_ends : (q : Closer) (x : Row) (below : Stack) → run (end_of q ∷ x) (rest q ∷ below) ≡ run x below
rest_ends semicolon x below = refl
rest_ends round x below = refl
rest_ends comma x below = refl
rest_ends colon x below = refl
rest_ends in_args x below = refl

slicing_ends : (q : Closer) (x : Row) (below : Stack) → run (end_of q ∷ x) (slicing q ∷ below) ≡ run x below
slicing_ends semicolon x below = refl
slicing_ends round x below = refl
slicing_ends comma x below = refl
slicing_ends colon x below = refl
slicing_ends in_args x below = refl

more_ends : (l : Listing) (x : Row) (below : Stack) → run (at any (closer l) ∷ x) (more l ∷ below) ≡ run x below
more_ends params x below = refl
more_ends mems x below = refl
more_ends args x below = refl
more_ends literals x below = refl

same_mark : (m : Mark) → is_mark m (Some (kind.Mark m)) ≡ true
same_mark m = true_same the_type m m refl

ends : (s : Sym) (x : Row) (below : Stack) → run (shortest s ++ x) (s ∷ below) ≡ run x below
ends (a m) x below = rw (same_mark m) refl
ends a_name x below = refl
ends a_number x below = refl
ends a_literal x below = refl
ends an_access x below = refl
ends a_pace x below = refl
ends a_lock_kind x below = refl
ends (operand q) x below = rest_ends q x below
ends (slicing q) x below = slicing_ends q x below
ends (rest q) x below = rest_ends q x below
ends (more l) x below = more_ends l x below
ends locked x below = refl
ends items x below = refl
ends else_items x below = refl
ends after_name x below = refl
ends assigned x below = refl
ends assigned_name x below = refl
ends in_square x below = refl

all_end : (below : Stack) → run (ending below) below ≡ None
all_end [] = refl
all_end (s ∷ below) = ends s (ending below) below ∙ all_end below

-- ---- it reads from the left

-- where it stops: what it takes before, with an end; and the token there stops it, whatever follows
pub record Stops (ts : Row) (below : Stack) (left : Row) : Type 0 where
  pub front : Row
  pub split : ts ≡ front ++ left
  pub end : Row
  pub goes : run (front ++ end) below ≡ None
  pub stuck : (t : Token) (more : Row) → left ≡ t ∷ more → (others : Row) → run (front ++ t ∷ others) below ≡ Some (t ∷ others)

one_more : (t : Token) (ts : Row) (s : Sym) (above below : Stack) (left : Row)
    → act s t.kind ≡ Some above → Stops ts (above ++ below) left → Stops (t ∷ ts) (s ∷ below) left
one_more t ts s above below left e h = record {
  front = t ∷ h.front;
  split = ap (λ x. t ∷ x) h.split;
  end = h.end;
  goes = rw e h.goes;
  stuck = λ u more is others. rw e (h.stuck u more is others);
}

-- a run stops at the first token where nothing that is expected begins with it
at_once : (t : Token) (ts : Row) (s : Sym) (below : Stack) → act s t.kind ≡ None → Stops (t ∷ ts) (s ∷ below) (t ∷ ts)
at_once t ts s below is = record {
  front = [];
  split = refl;
  end = ending (s ∷ below);
  goes = all_end (s ∷ below);
  stuck = λ u more same others. let k : act s u.kind ≡ None = ap (λ (x : Row). elim x [ [] ↦ None | v ∷ vs ↦ act s v.kind ]) (sym same) ∙ is in rw k refl;
}

-- where the automaton stops, what it took can be completed, and the next token stops it whatever follows
pub where_it_stops : (ts : Row) (below : Stack) (left : Row) → run ts below ≡ Some left → Stops ts below left
where_it_stops [] [] left e = cc
where_it_stops [] (s ∷ below) left e =
    record { front = []; split = let k : [] ≡ left = cc in k; end = ending (s ∷ below); goes = all_end (s ∷ below); stuck = λ t more is others. cc }
where_it_stops (t ∷ ts) [] left e = record { front = []; split = let k : t ∷ ts ≡ left = cc in k; end = []; goes = refl; stuck = λ u more is others. refl }
where_it_stops (t ∷ ts) (s ∷ below) left e = go (act s t.kind) refl e (λ above. where_it_stops ts (above ++ below) left)
  where
    go : (o : Option Stack) → act s t.kind ≡ o → run_after o below (run ts) (t ∷ ts) ≡ Some left
        → ((above : Stack) → run ts (above ++ below) ≡ Some left → Stops ts (above ++ below) left)
        → Stops (t ∷ ts) (s ∷ below) left
    go None is e ih = let k : t ∷ ts ≡ left = cc in subst (λ x. Stops (t ∷ ts) (s ∷ below) x) k (at_once t ts s below is)
    go (Some above) is e ih = one_more t ts s above below left is (ih above e)

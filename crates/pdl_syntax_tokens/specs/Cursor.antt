-- What stands at the front of tokens, and the tokens that values of the program stand for.
use Rattle.std.specs.Prelude.{ℕ, List, [], ◌∷◌, Option, Some, None}
use Rattle.pdl_semantics.specs.Tree.{Span, Ident}
use Rattle.pdl_syntax_tokens.specs.declared.token.Token as r
use Rattle.pdl_syntax_tokens.specs.declared.token.TokenKind.{TokenKind}
use Rattle.pdl_syntax_tree.specs.View.{span_view}
use Rattle.pdl_syntax_tokens.specs.Tokens.{Token}

-- the token that a value of the program stands for
abbrev pub token_view : r.Token → Token
token_view t = record { kind = t.kind; text = t.text.now; span = span_view t.span }

-- the token that a value of the program stands for, if there is one
abbrev pub maybe_token_view : Option r.Token → Option Token
maybe_token_view (Some t) = Some (token_view t)
maybe_token_view None = None

-- what a token is, if there is one
abbrev pub kind_in : Option Token → Option TokenKind
kind_in (Some t) = Some t.kind
kind_in None = None

-- the first token, if there is one, before the others
abbrev pub onto : Option r.Token → List Token → List Token
onto (Some t) more = token_view t ∷ more
onto None more = []

-- the first of some tokens, if there is one
abbrev pub first : List Token → Option Token
first [] = None
first (t ∷ ts) = Some t

-- the tokens after the first
abbrev pub next : List Token → List Token
next [] = []
next (t ∷ ts) = ts

-- what the first token is, if there is one
abbrev pub first_kind : List Token → Option TokenKind
first_kind [] = None
first_kind (t ∷ ts) = Some t.kind

-- where the first token stands; nowhere if there is none
abbrev pub first_span : List Token → Span
first_span [] = record { start = 0; end = 0; line = 0 }
first_span (t ∷ ts) = t.span

-- the bytes of the first token; none if there is none
abbrev pub first_text : List Token → List ℕ
first_text [] = []
first_text (t ∷ ts) = t.text

-- the name that the first token is
abbrev pub first_name : List Token → Ident
first_name ts = record { name = first_text ts; span = first_span ts }

-- The tokens that a cursor's parts stand for, and what stands at their front.
use Rattle.std.specs.Prelude.{ℕ, List, [], ◌∷◌, Option, Some, None}
use Rattle.pdl_vread_text.specs.declared.token.VerilogToken as r
use Rattle.pdl_vread_text.specs.Tokens.{Token}

-- the token that a token of the program stands for
abbrev pub token_view : r.VerilogToken → Token
token_view t = record { text = t.text.now; line = t.line }

-- the token that a token of the program stands for, if there is one
abbrev pub maybe_token_view : Option r.VerilogToken → Option Token
maybe_token_view (Some t) = Some (token_view t)
maybe_token_view None = None

-- the first token, if there is one, before the others
abbrev pub onto : Option r.VerilogToken → List Token → List Token
onto (Some t) more = token_view t ∷ more
onto None more = []

-- the first of tokens, if there is one
abbrev pub first : List Token → Option Token
first [] = None
first (t ∷ ts) = Some t

-- the tokens after the first
abbrev pub next : List Token → List Token
next [] = []
next (t ∷ ts) = ts

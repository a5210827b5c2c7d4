-- A whole text.
use Rattle.std.proofs.Common.{◌≡◌, ℕ, [], ◌∷◌, Some, None, Ok, Err, refl}
use Rattle.pdl_semantics.specs.Tree.{Pipe}
use Rattle.pdl_syntax_tokens.specs.declared.token.TokenKind.{TokenKind}
use Rattle.pdl_syntax_tokens.specs.Cursor.{first_kind}
use Rattle.pdl_syntax_tokens.specs.Tokens.{Row}
use Rattle.pdl_syntax_grammar.specs.Reading.{pipe, parse, whole_of}

-- a text is read as a pipe that is read with no token after it
pub parse_is : (ts : Row) (n : ℕ) (p : Pipe) (r : Row) → pipe n ts ≡ Ok (p, r) → first_kind r ≡ None → parse n ts ≡ Ok p
unfolding parse
parse_is ts n p r e l = rw e (go r l)
  where
    go : (r : Row) → first_kind r ≡ None → whole_of (Ok (p, r)) ≡ Ok p
    go [] l = refl
    go (t ∷ r) l = cc

-- a text is refused at a token after the pipe
pub parse_more : (ts : Row) (n : ℕ) (p : Pipe) (r : Row) (k : TokenKind)
    → pipe n ts ≡ Ok (p, r) → first_kind r ≡ Some k → parse n ts ≡ Err r
unfolding parse
parse_more ts n p r k e l = rw e (go r l)
  where
    go : (r : Row) → first_kind r ≡ Some k → whole_of (Ok (p, r)) ≡ Err r
    go [] l = cc
    go (t ∷ r) l = refl

-- a text is refused where the reading of its pipe is
pub parse_fails : (ts : Row) (n : ℕ) (left : Row) → pipe n ts ≡ Err left → parse n ts ≡ Err left
unfolding parse
parse_fails ts n left e = rw e refl

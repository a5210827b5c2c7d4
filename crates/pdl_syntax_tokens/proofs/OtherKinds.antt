-- Tokens that are no names.
use Rattle.std.proofs.Common.{◌≡◌, ℕ, Bool, true, false, cond, Option, Some}
use Rattle.pdl_syntax_tokens.specs.declared.token.TokenKind.{TokenKind}
use Rattle.pdl_syntax_tokens.specs.declared.token.TokenKind.TheVariants as kind

-- what a token is, if there is one, is one kind alone
pub same_kind : (k j : TokenKind) → Some k ≡ Some j → k ≡ j
same_kind k j e = cc e

-- a number, or the bad token in its place, is no name
pub number_no_name : (b : Bool) (n : ℕ) → cond b (kind.Number n) kind.Bad ≡ kind.Name → ⊥
number_no_name true n e = cc e
number_no_name false n e = cc e

-- a literal, or the bad token in its place, is no name
pub literal_no_name : (b : Bool) (n : ℕ) (v : Option ℕ) → cond b (kind.Literal n v) kind.Bad ≡ kind.Name → ⊥
literal_no_name true n v e = cc e
literal_no_name false n v e = cc e

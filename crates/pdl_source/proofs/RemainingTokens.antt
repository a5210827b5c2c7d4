-- What holds of the tokens of a part of a text, and is so of fewer, holds of those after the part.
use Rattle.std.proofs.Common.{ℕ, List}
use Rattle.pdl_semantics.specs.Tree.{Expr}
use Rattle.pdl_syntax_tokens.specs.declared.token.Mark.{Mark}
use Rattle.pdl_syntax_tokens.specs.Tokens.{Row}
use Rattle.pdl_syntax_grammar.specs.Grammar.{Listed, last, further, Level, constant, variable, sliced, bracketed, inverted, catenated, compared, extended, sign_extended, tighter, joined, Full, whole, chosen}
use Rattle.pdl_source.proofs.Words.{Stand, later}

-- what stands from byte n on in the one row does so in the other
abbrev pub Leaves : Row → Row → Type 0
Leaves a r = (n : ℕ) → Stand n a → Stand n r

mutual
  after_level : (k : ℕ) (e : Expr) (a r : Row) → Level k e a r → Leaves a r
  after_level k e a r constant n h = later 1 h
  after_level k e a r variable n h = later 1 h
  after_level k e a r sliced n h = later 6 h
  after_level k e a r (bracketed f) n h = later 1 (after_full _ _ _ f n (later 1 h))
  after_level k e a r (inverted l) n h = after_level _ _ _ _ l n (later 1 h)
  after_level k e a r (catenated f g) n h = later 1 (after_full _ _ _ g n (later 1 (after_full _ _ _ f n (later 2 h))))
  after_level k e a r (compared f g) n h = later 1 (after_full _ _ _ g n (later 1 (after_full _ _ _ f n (later 2 h))))
  after_level k e a r (extended f) n h = later 3 (after_full _ _ _ f n (later 2 h))
  after_level k e a r (sign_extended f) n h = later 3 (after_full _ _ _ f n (later 2 h))
  after_level k e a r (tighter l) n h = after_level _ _ _ _ l n h
  after_level k e a r (joined s l m) n h = after_level _ _ _ _ m n (later 1 (after_level _ _ _ _ l n h))

  -- where an expression and what comes after it stand from byte n on, so does what comes after it alone
  pub after_full : (e : Expr) (a r : Row) → Full e a r → Leaves a r
  after_full e a r (whole l) n h = after_level _ _ _ _ l n h
  after_full e a r (chosen l f g) n h = after_full _ _ _ g n (later 1 (after_full _ _ _ f n (later 1 (after_level _ _ _ _ l n h))))

after_listed : {A : Type 0} {Rule : A → Row → Row → Type 0} {close : Mark} → ((x : A) (a r : Row) → Rule x a r → Leaves a r) →
    (xs : List A) (a r : Row) → Listed Rule close xs a r → Leaves a r
after_listed f xs a r (last x) n h = later 1 (f _ _ _ x n h)
after_listed f xs a r (further x l) n h = after_listed f _ _ _ l n (later 1 (f _ _ _ x n h))

-- where the arguments of a call and what comes after them stand from a byte on, so does what comes after them alone
pub after_args : (close : Mark) (es : List Expr) (a r : Row) → Listed Full close es a r → Leaves a r
after_args close es a r l = after_listed after_full es a r l

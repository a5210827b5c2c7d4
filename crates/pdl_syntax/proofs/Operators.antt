-- What a token brings: one that is the symbol itself, the end of a list, or an operator.
use Rattle.std.proofs.Common.{◌≡◌, Bool, true, false, [], ◌∷◌, Option, Some, None, is_some, Ok, cond, refl, sym}
use Rattle.pdl_semantics.specs.Tree.{BinaryOp}
use Rattle.pdl_syntax_tokens.specs.declared.token.Mark.{Mark}
use Rattle.pdl_syntax_tokens.specs.declared.token.Mark.TheVariants as mark
use Rattle.pdl_syntax_tokens.specs.declared.token.TokenKind.{TokenKind}
use Rattle.pdl_syntax_tokens.specs.declared.token.TokenKind.TheVariants as kind
use Rattle.pdl_syntax_cursor.specs.Looks.{is_mark}
use Rattle.pdl_syntax_grammar.specs.Automaton.{Closer, Listing, closer, Stack, operand, act_on, act_more, act_operator, act_choice, act_rest}
use Rattle.pdl_syntax_grammar.specs.Grammar.{operator_of}
use Rattle.pdl_syntax.specs.View.{Expects}

-- after an operand an operator makes the automaton expect an operand
pub rest_operator : (q : Closer) (m : Mark) → is_some (operator_of m) ≡ true → act_rest q (kind.Mark m) ≡ Some (operand q ∷ [])
rest_operator q m e = go (operator_of m) e
  where
    go : (o : Option BinaryOp) → is_some o ≡ true → act_operator q (kind.Mark m) o ≡ Some (operand q ∷ [])
    go (Some op) e = refl
    go None e = cc

-- after an operand a mark that is no operator can only begin a choice or be the closer
pub rest_other : (q : Closer) (m : Mark) → is_some (operator_of m) ≡ false → act_rest q (kind.Mark m) ≡ act_choice q (kind.Mark m)
rest_other q m e = go (operator_of m) e
  where
    go : (o : Option BinaryOp) → is_some o ≡ false → act_operator q (kind.Mark m) o ≡ act_choice q (kind.Mark m)
    go (Some op) e = cc
    go None e = refl

-- a symbol that is one token
pub word_taken : (o : Option Stack) (b : Bool) (s : Stack) → o ≡ cond b (Some []) None → Expects o (Ok b) s s
word_taken o b s e = rw e (go b)
  where
    go : (b : Bool) → Expects (cond b (Some []) None) (Ok b) s s
    go true = refl
    go false = refl

-- after a value of a list, where no comma comes
pub closed_by : (l : Listing) (k : TokenKind) (b : Bool) (s : Stack)
    → is_mark mark.Comma (Some k) ≡ false → b ≡ is_mark (closer l) (Some k) → Expects (act_more l k) (Ok b) s s
closed_by l k b s e f = rw (e, sym f) (go b)
  where
    go : (b : Bool) → Expects (act_on l (cond b (Some false) None)) (Ok b) s s
    go true = refl
    go false = refl

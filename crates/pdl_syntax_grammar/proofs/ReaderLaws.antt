-- The three laws of the reader of a text.
use Rattle.std.proofs.Common.{◌≡◌, ℕ, suc, ◌<◌, [], ◌∷◌, ◌++◌, length, Result, Option, Some, None, Ok, Err, refl, ap, subst, ◌∙◌, append_assoc, arith}
use Rattle.pdl_semantics.specs.Tree.{Pipe}
use Rattle.pdl_syntax_tokens.specs.Tokens.{Row}
use Rattle.pdl_syntax_grammar.specs.Grammar.{Text}
use Rattle.pdl_syntax_grammar.specs.Reading.{Outcome, pipe, whole_of, parse}
use Rattle.pdl_syntax_tokens.specs.Tokens.{Token}
use Rattle.pdl_syntax_grammar.proofs.GoodTokens.{Good, reads, stops}
use Rattle.pdl_syntax_grammar.proofs.GoodText.{pipe_good}
use Rattle.pdl_syntax_grammar.specs.Automaton.{run, whole}
use Rattle.pdl_syntax_grammar.proofs.Automaton.{where_it_stops}
use Rattle.pdl_syntax_grammar.proofs.UniqueTrees.{only_pipe}

record Tells (o : Outcome Pipe) (ts : Row) : Type 0 where
  ok : (p : Pipe) → whole_of o ≡ Ok p → Text p ts [] × (run ts whole ≡ None)
  err : (left : Row) → whole_of o ≡ Err left → run ts whole ≡ Some left

left_in : Result Pipe Row → Option Row
left_in (Ok p) = None
left_in (Err left) = Some left

tells : (o : Outcome Pipe) (ts : Row) → Good (λ p r. Text p ts r) whole [] o ts → Tells o ts
unfolding left_in
tells o ts (reads {r = []} t le e) = record { ok = λ p is. (subst (λ q. Text q ts []) (same is) t, e []); err = λ left is. cc }
  where
    same : {p q : Pipe} → ◌≡◌ {A = Result Pipe Row} (Ok p) (Ok q) → p ≡ q
    same e = cc
tells o ts (reads {r = t ∷ r} d le e) = record { ok = λ p is. cc; err = λ left is. e [] ∙ ap left_in is }
tells o ts (stops e) = record { ok = λ p is. cc; err = λ left is. e [] ∙ ap left_in is }

told : (room : ℕ) (ts : Row) → length ts < room → Tells (pipe room ts) ts
told room ts le = tells _ ts (pipe_good room ts le)

-- a tree that is read is derived from the tokens by the grammar
pub found : (room : ℕ) (ts : Row) (p : Pipe) → length ts < room → parse room ts ≡ Ok p → Text p ts []
unfolding parse
found room ts p le is = ((told room ts le).ok p is).0

-- what is derived is read, so each text has one tree
pub only : (room : ℕ) (ts : Row) (p : Pipe) → length ts < room → Text p ts [] → parse room ts ≡ Ok p
unfolding parse
only room ts p le t = rw (only_pipe t room le) refl

-- tokens are a text of one pipe at most
pub same_pipe : (ts : Row) (p q : Pipe) → Text p ts [] → Text q ts [] → p ≡ q
same_pipe ts p q t u = let k = only (suc (length ts)) ts p (omega arith) t in let j = only (suc (length ts)) ts q (omega arith) u in cc

-- some text of the grammar begins with the tokens
abbrev pub GoesOn : Row → Type 0
GoesOn ts = (more : Row) × (p : Pipe) × Text p (ts ++ more) []

-- tokens that the automaton takes to the end are a text of some pipe
pub is_text : (ts : Row) → run ts whole ≡ None → (p : Pipe) × Text p ts []
unfolding parse
is_text ts e = go (parse (suc (length ts)) ts) refl
  where
    go : (x : Result Pipe Row) → parse (suc (length ts)) ts ≡ x → (p : Pipe) × Text p ts []
    go (Ok p) is = (p, found (suc (length ts)) ts p (omega arith) is)
    go (Err left) is = let k = (told (suc (length ts)) ts (omega arith)).err left is in cc

-- the automaton takes the tokens of a pipe's text to the end
pub taken : (ts : Row) (p : Pipe) → Text p ts [] → run ts whole ≡ None
unfolding parse
taken ts p t = ((told (suc (length ts)) ts (omega arith)).ok p (only (suc (length ts)) ts p (omega arith) t)).1

-- where the tokens from some on are refused: those before go on to a text, and with the next one they don't
pub record IsRefusedAt (ts left : Row) : Type 0 where
  pub front : Row
  pub split : ts ≡ front ++ left
  pub begins : GoesOn front
  pub bad : (t : Token) (more : Row) → left ≡ t ∷ more → GoesOn (front ++ t ∷ []) → ⊥
  pub no_text : (p : Pipe) → Text p ts [] → ⊥

-- tokens are refused where the automaton stops
pub stopped : (ts left : Row) → run ts whole ≡ Some left → IsRefusedAt ts left
stopped ts left is =
    let s = where_it_stops ts whole left is in
    let t = is_text (s.front ++ s.end) s.goes in
    record {
      front = s.front;
      split = s.split;
      begins = (s.end, t.0, t.1);
      bad = λ t more same b. let k = taken _ b.1 (subst (λ x. Text b.1 x []) (append_assoc s.front (t ∷ []) b.0) b.2) in let j = s.stuck t more same b.0 in cc;
      no_text = λ p b. let k = taken ts p b in cc;
    }

-- tokens are refused where the reader stops, which has room for more than they are
pub refused : (room : ℕ) (ts left : Row) → length ts < room → parse room ts ≡ Err left → IsRefusedAt ts left
unfolding parse
refused room ts left le is = stopped ts left ((told room ts le).err left is)

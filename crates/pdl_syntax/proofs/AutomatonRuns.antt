-- The automaton's run, a token at a time, and what it tells.
use Rattle.std.proofs.Common.{◌≡◌, ℕ, ◌<◌, Bool, true, false, List, [], ◌∷◌, ◌++◌, length, Option, Some, None, Result, IfOk, Ok, Err, refl, sym, ap, ◌∙◌, arith}
use Rattle.pdl_kit.specs.declared.no_memory.NoMemory.{NoMemory}
use Rattle.pdl_semantics.specs.Tree.{Pipe}
use Rattle.pdl_syntax_tokens.specs.declared.token.TokenKind.{TokenKind}
use Rattle.pdl_syntax_tokens.specs.Cursor.{next, first_kind}
use Rattle.pdl_syntax_tokens.specs.Tokens.{Row, tokens, last_line}
use Rattle.pdl_syntax_cursor.specs.Limits.{at_start}
use Rattle.pdl_syntax_cursor.specs.MarkedTokens.{marked_row, first_line}
use Rattle.pdl_syntax_grammar.specs.Automaton.{Sym, Stack, act, run, whole}
use Rattle.pdl_syntax_grammar.specs.Text.{IsText, IsOutOfPlace}
use Rattle.pdl_syntax_grammar.proofs.Places.{recognised, stopped_at, apart, one_place}
use Rattle.pdl_syntax.specs.Answers.{IsRecognised, StepsTo, stack_after}
use Rattle.pdl_syntax.specs.View.{Expects, top, below_top}

-- ---- one step

onto : (o : Option Stack) (r : Result Bool NoMemory) (s : Sym) (below now : Stack) (k : TokenKind)
    → act s k ≡ o → Expects o r below now → StepsTo (stack_after (s ∷ below) k) r now
onto o (Err e) s below now k i h = any (stack_after (s ∷ below) k)
  where
    any : (o : Option Stack) → StepsTo o (Err e) now
    any None = tt
    any (Some x) = tt
onto (Some above) (Ok true) s below now k i h = rw i h
onto (Some above) (Ok false) s below now k i h = absurd h
onto None (Ok true) s below now k i h = absurd h
onto None (Ok false) s below now k i h = rw i tt

-- what a token makes of the top symbol, with what stands below it, is what it makes of the stack
pub step_so : (old now : Stack) (s : Sym) (k : TokenKind) (r : Result Bool NoMemory)
    → Some s ≡ top old → Expects (act s k) r (below_top old) now → StepsTo (stack_after old k) r now
step_so [] now s k r e h = cc
step_so (u ∷ below) now s k r e h = let i : s ≡ u = cc in onto (act u k) r u below now k refl (rw i at h)

-- no token is taken where nothing is expected
pub step_none : (old now : Stack) (k : TokenKind) → None ≡ top old → StepsTo (stack_after old k) (Ok false) now
step_none [] now k e = tt
step_none (u ∷ below) now k e = cc

-- ---- the run by steps

run_taken : (ts : Row) (stack now : Stack) (k : TokenKind)
    → first_kind ts ≡ Some k → stack_after stack k ≡ Some now → run ts stack ≡ run (next ts) now
run_taken [] stack now k e f = cc
run_taken (t ∷ ts) [] now k e f = cc
run_taken (t ∷ ts) (s ∷ below) now k e f = go (act s k) refl f
  where
    go : (o : Option Stack) → act s k ≡ o → stack_after (s ∷ below) k ≡ Some now → run (t ∷ ts) (s ∷ below) ≡ run ts now
    go None i f = let j : stack_after (s ∷ below) k ≡ None = rw i refl in cc
    go (Some above) i f = let j : stack_after (s ∷ below) k ≡ Some (above ++ below) = rw i refl in let l : above ++ below ≡ now = cc in
        let m : t.kind ≡ k = cc in let n : act s t.kind ≡ Some above = rw m i in rw n (ap (run ts) l)

run_not : (ts : Row) (stack : Stack) (k : TokenKind) → first_kind ts ≡ Some k → stack_after stack k ≡ None → run ts stack ≡ Some ts
run_not [] stack k e f = cc
run_not (t ∷ ts) [] k e f = refl
run_not (t ∷ ts) (s ∷ below) k e f = go (act s k) refl f
  where
    go : (o : Option Stack) → act s k ≡ o → stack_after (s ∷ below) k ≡ None → run (t ∷ ts) (s ∷ below) ≡ Some (t ∷ ts)
    go None i f = let m : t.kind ≡ k = cc in let n : act s t.kind ≡ None = rw m i in rw n refl
    go (Some above) i f = let j : stack_after (s ∷ below) k ≡ Some (above ++ below) = rw i refl in cc

stepped : (o : Option Stack) (now : Stack) → StepsTo o (Ok true) now → o ≡ Some now
stepped None now h = absurd h
stepped (Some x) now h = ap Some (sym h)

stuck : (o : Option Stack) (now : Stack) → StepsTo o (Ok false) now → o ≡ None
stuck None now h = refl
stuck (Some x) now h = absurd h

-- ---- what the loop does

-- after a token that is taken the run goes on with the tokens after it
pub goes_on : (bytes : List ℕ) (ts : Row) (stack now : Stack) (k : TokenKind) → first_kind ts ≡ Some k
    → StepsTo (stack_after stack k) (Ok true) now → run ts stack ≡ run (marked_row at_start (tokens bytes)) whole →
    run (next ts) now ≡ run (marked_row at_start (tokens bytes)) whole
goes_on bytes ts stack now k e h i = sym (run_taken ts stack now k e (stepped (stack_after stack k) now h)) ∙ i

-- the line of a token that isn't taken is that of the first token out of place
pub refused_so : (bytes : List ℕ) (ts : Row) (stack now : Stack) (k : TokenKind) (line : Option ℕ)
    → first_kind ts ≡ Some k → StepsTo (stack_after stack k) (Ok false) now
    → run ts stack ≡ run (marked_row at_start (tokens bytes)) whole →
    line ≡ first_line ts → IsRecognised bytes (Ok line)
refused_so bytes [] stack now k line e h i f = cc
refused_so bytes (t ∷ ts) stack now k line e h i f =
    rw f (stopped_at bytes (t ∷ ts) t.span.line (sym i ∙ run_not (t ∷ ts) stack k e (stuck (stack_after stack k) now h)) refl)

-- where the tokens end and nothing is expected, they are a text of a pipe
pub ended_so : (bytes : List ℕ) (ts : Row) (stack : Stack)
    → first_kind ts ≡ None → stack ≡ [] → run ts stack ≡ run (marked_row at_start (tokens bytes)) whole
    → IsRecognised bytes (Ok None)
ended_so bytes [] stack e f i = recognised bytes (sym i ∙ ap (run []) f)
ended_so bytes (t ∷ ts) stack e f i = cc

-- where the tokens end and something is expected, the text ends too early, on its last line
pub early_so : (bytes : List ℕ) (ts : Row) (stack : Stack) (line : ℕ)
    → first_kind ts ≡ None → (stack ≡ [] → ⊥) → run ts stack ≡ run (marked_row at_start (tokens bytes)) whole
    → line ≡ last_line bytes → IsRecognised bytes (Ok (Some line))
early_so bytes [] [] line e f i l = absurd (f refl)
early_so bytes [] (s ∷ below) line e f i l = stopped_at bytes [] line (sym i) l
early_so bytes (t ∷ ts) stack line e f i l = cc

-- after the first token fewer are left
pub shorter : (ts : Row) (k : TokenKind) → first_kind ts ≡ Some k → length (next ts) < length ts
shorter [] k e = cc
shorter (t ∷ ts) k e = omega arith

-- ---- what is told

-- of a text of a pipe no line is told
pub told_text : (bytes : List ℕ) (x : Result (Option ℕ) NoMemory) (p : Pipe) → IsRecognised bytes x → IsText bytes p
    → IfOk x (λ line. line ≡ None)
told_text bytes (Ok None) p h k = refl
told_text bytes (Ok (Some line)) p h k = absurd (apart bytes p line k h)
told_text bytes (Err e) p h k = tt

-- of bytes with a token out of place its line is told
pub told_place : (bytes : List ℕ) (x : Result (Option ℕ) NoMemory) (line : ℕ) → IsRecognised bytes x
    → IsOutOfPlace bytes line → IfOk x (λ l. l ≡ Some line)
told_place bytes (Ok None) line h k = absurd (apart bytes h.0 line h.1 k)
told_place bytes (Ok (Some n)) line h k = ap Some (one_place bytes n line h k)
told_place bytes (Err e) line h k = tt

-- What the parser answers, both ways.
use Rattle.std.proofs.Common.{◌≡◌, ℕ, ◌≤◌, ◌<◌, List, length, Result, Option, Some, None, IfOk, Ok, Err, refl, sym, subst, ◌∙◌, arith}
use Rattle.std.proofs.lemmas.Bool.Decides.{nat_tests}
use Rattle.pdl_kit.specs.declared.rule.Rule.{Rule}
use Rattle.pdl_kit.specs.declared.rule.Rule.TheVariants.{Z1}
use Rattle.pdl_semantics.specs.Tree.{Pipe}
use Rattle.pdl_syntax_tree.specs.declared.tree.Pipe as r_pipe
use Rattle.pdl_syntax_tree.specs.View.{pipe_view}
use Rattle.pdl_syntax_grammar.specs.declared.error.GrammarError.{GrammarError}
use Rattle.pdl_syntax_grammar.specs.declared.error.GrammarError.TheVariants as read
use Rattle.pdl_syntax_grammar.specs.Text as grammar
use Rattle.pdl_syntax_grammar.specs.Text.{IsText, IsOutOfPlace}
use Rattle.pdl_syntax_grammar.proofs.Places.{one_tree, apart, one_place}
use Rattle.pdl_syntax.specs.declared.error.ParseError.{ParseError}
use Rattle.pdl_syntax.specs.declared.error.ParseError.TheVariants as error
use Rattle.pdl_syntax.specs.Text.{refusal, broken_limit, Answer, Tree, Misplaced, Over, parse_answer, Gives, IsRefusal, IsRefused, IsParsed}

pub too_long : (bytes : List ℕ) (p : Pipe) → 1048576 < length bytes → IsText bytes p → IsRefusal bytes (error.Limit Z1 1)
too_long bytes p h t = (p, t, grind (arith, nat_tests))

pub short_enough : (bytes : List ℕ) (p : Pipe) → length bytes ≤ 1048576 → broken_limit bytes p ≡ None
short_enough bytes p h = grind (arith, nat_tests)

pub read_refusal : (bytes : List ℕ) (e : GrammarError) → grammar.IsRefused bytes (Err e) → IsRefusal bytes (refusal e)
read_refusal bytes (read.Misplaced line) h = h
read_refusal bytes read.NoMemory h = tt

no_memory : (a : Answer) → Gives a (Err error.NoMemory)
no_memory (Tree p) = tt
no_memory (Misplaced line) = tt
no_memory (Over limit) = tt

pub parsed_found : (bytes : List ℕ) (x : Result r_pipe.Pipe ParseError) → IsParsed bytes x → IfOk x (λ p. IsText bytes (pipe_view p))
parsed_found bytes (Ok p) h = h.0
parsed_found bytes (Err e) h = tt

pub parsed_within : (bytes : List ℕ) (x : Result r_pipe.Pipe ParseError) → IsParsed bytes x
    → IfOk x (λ p. broken_limit bytes (pipe_view p) ≡ None)
parsed_within bytes (Ok p) h = h.1
parsed_within bytes (Err e) h = tt

pub parsed_only : (bytes : List ℕ) (x : Result r_pipe.Pipe ParseError) (p : Pipe) → IsParsed bytes x → IsText bytes p
    → Gives (parse_answer bytes p) x
parsed_only bytes (Ok q) p h k = let i : broken_limit bytes p ≡ None = subst (λ x. broken_limit bytes x ≡ None) (one_tree bytes (pipe_view q) p h.0 k) h.1 in
    rw i (one_tree bytes (pipe_view q) p h.0 k)
parsed_only bytes (Err (error.Grammar line)) p h k = absurd (apart bytes p line k h)
parsed_only bytes (Err (error.Limit rule line)) p h k = let i : broken_limit bytes p ≡ Some (rule, line) =
    subst (λ x. broken_limit bytes x ≡ Some (rule, line)) (one_tree bytes h.0 p h.1 k) h.2 in
    rw i refl
parsed_only bytes (Err error.NoMemory) p h k = no_memory (parse_answer bytes p)

pub parsed_exact : (bytes : List ℕ) (x : Result r_pipe.Pipe ParseError) (line : ℕ) → IsParsed bytes x
    → IsOutOfPlace bytes line → Gives (Misplaced line) x
parsed_exact bytes (Ok q) line h k = absurd (apart bytes (pipe_view q) line h.0 k)
parsed_exact bytes (Err (error.Grammar n)) line h k = one_place bytes n line h k
parsed_exact bytes (Err (error.Limit rule n)) line h k = absurd (apart bytes h.0 line h.1 k)
parsed_exact bytes (Err error.NoMemory) line h k = tt

pub parsed_refused : (bytes : List ℕ) (x : Result r_pipe.Pipe ParseError) → IsParsed bytes x → IsRefused bytes x
parsed_refused bytes (Ok q) h = tt
parsed_refused bytes (Err e) h = h

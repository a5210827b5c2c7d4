-- From what the parser and the rules answer to what the check answers.
use Rattle.std.proofs.Common.{◌≡◌, IfOk, refl, sym, ap, ◌∙◌, subst, ℕ, ◌++◌, Bool, true, false, not, cond, nat_le, nat_lt, List, length, Option, Some, None, Result, Ok, Err, inl, inr, if◌then◌else◌, arith}
use Rattle.std.proofs.lemmas.Bool.Decides.{leb_tells}
use Rattle.pdl_kit.specs.declared.rule.Rule.{Rule}
use Rattle.pdl_kit.specs.declared.rule.Rule.TheVariants.{Z1, G1}
use Rattle.pdl_semantics.specs.Tree.{Pipe}
use Rattle.pdl_syntax_tree.specs.declared.tree.Pipe as r_pipe
use Rattle.pdl_syntax_tree.specs.View.{pipe_view}
use Rattle.pdl_syntax_grammar.specs.Text.{IsText, IsOutOfPlace}
use Rattle.pdl_syntax_grammar.proofs.Places.{one_tree, apart, one_place}
use Rattle.pdl_syntax.specs.declared.error.ParseError.TheVariants as parse_error
use Rattle.pdl_syntax.specs.Text as text
use Rattle.pdl_rules.specs.Limits.{is_too_long}
use Rattle.pdl_rules.specs.Refusal.{Refused, refusal, first_broken, limits, after_limits}
use Rattle.pdl_check.specs.declared.accepted.Accepted.{Accepted}
use Rattle.pdl_kit.specs.declared.refusal.Refusal.{Refusal}
use Rattle.pdl_kit.specs.declared.refusal.Refusal.TheVariants as error
use Rattle.pdl_locks.specs.Plan.{Tells}
use Rattle.pdl_check.specs.Answers.{Refuses, answer_of, check_answer, Gives, IsCause, IsRefused, IsChecked, IsRead, IsBroken, IsJudged}

-- THE LENGTH

over : (n : ℕ) → nat_lt 1048576 n ≡ not (nat_le n 1048576)
over n = grind (arith, leb_tells n 1048576, leb_tells 1048577 n)

-- the limit that a length over it breaks
abbrev limit_unless : Bool → Option (Rule × ℕ)
limit_unless b = cond b None (Some (Z1, 1))

short_unless : (b : Bool) → limit_unless b ≡ None → not b ≡ false
short_unless true e = refl
short_unless false e = absurd (cc e)

abbrev refused_by : Option (Rule × ℕ) → Option Refused
refused_by None = None
refused_by (Some l) = Some (record { rule = l.0; line = l.1 })

abbrev unless_long : Bool → Option Refused → Option Refused
unless_long b later = if b then Some (record { rule = Z1; line = 1 }) else later

long_unless : (b : Bool) (rule : Rule) (line : ℕ) (later : Option Refused)
    → limit_unless b ≡ Some (rule, line) → unless_long (not b) later ≡ Some (record { rule = rule; line = line })
long_unless true rule line later e = absurd (cc e)
long_unless false rule line later e = ap refused_by e

not_too_long : (source : List ℕ) (p : Pipe) → text.broken_limit source p ≡ None → is_too_long source ≡ false
not_too_long source p e = over (length source) ∙ short_unless (nat_le (length source) 1048576) e

too_long : (source : List ℕ) (p : Pipe) (rule : Rule) (line : ℕ)
    → text.broken_limit source p ≡ Some (rule, line) → refusal source p ≡ Some (record { rule = rule; line = line })
too_long source p rule line e =
    ap (λ b. unless_long b (first_broken (limits ++ after_limits) p)) (over (length source))
    ∙ long_unless (nat_le (length source) 1048576) rule line (first_broken (limits ++ after_limits) p) e

-- THE READER'S ANSWERS

-- the pipe of a text that breaks no limit of the parser is what was read
pub read_pipe : (source : List ℕ) (p : r_pipe.Pipe) → IsText source (pipe_view p)
    → text.broken_limit source (pipe_view p) ≡ None → IsRead source (Ok p)
read_pipe source p t w = (t, not_too_long source (pipe_view p) w)

-- a token out of place is a cause of refusal, by G1
pub read_misplaced : (source : List ℕ) (line : ℕ) → IsOutOfPlace source line → IsCause source (error.Refused G1 line)
read_misplaced source line h = inl (refl, h)

-- a length over the limit is a cause of refusal
pub read_long : (source : List ℕ) (rule : Rule) (line : ℕ) → text.IsRefusal source (parse_error.Limit rule line)
    → IsCause source (error.Refused rule line)
read_long source rule line h = inr (h.0, h.1, too_long source h.0 rule line h.2)

-- WHAT IS CHECKED

short : (source : List ℕ) (p : Pipe) → is_too_long source ≡ false → refusal source p ≡ first_broken (limits ++ after_limits) p
short source p e = ap (λ b. unless_long b (first_broken (limits ++ after_limits) p)) e

-- what the rules answer to the pipe of a text that isn't too long is what the check answers
pub judged_checked : (source : List ℕ) (p : Pipe) (r : Result Accepted Refusal) → IsText source p
    → is_too_long source ≡ false → IsJudged p r → IsChecked source r
judged_checked source p (Ok a) t e j =
    let P : Pipe → Type 0 = λ q. IsText source q × (refusal source q ≡ None) in
    subst P (sym j.0) (t, short source p e ∙ j.1)
judged_checked source p (Err error.NoMemory) t e j = tt
judged_checked source p (Err (error.Refused rule line)) t e j = inr (p, t, short source p e ∙ j)

-- what the check accepts is the pipe of its text
pub checked_found : (source : List ℕ) (r : Result Accepted Refusal) → IsChecked source r
    → IfOk r (λ a. IsText source (pipe_view a.typed.pipe))
checked_found source (Ok a) h = h.0
checked_found source (Err e) h = tt

-- what the check accepts breaks no rule
pub checked_kept : (source : List ℕ) (r : Result Accepted Refusal) → IsChecked source r
    → IfOk r (λ a. refusal source (pipe_view a.typed.pipe) ≡ None)
checked_kept source (Ok a) h = h.1
checked_kept source (Err e) h = tt

gives_refusal : (source : List ℕ) (p : Pipe) (rule : Rule) (line : ℕ)
    → refusal source p ≡ Some (record { rule = rule; line = line })
    → Gives (check_answer source p) (Err (error.Refused rule line))
gives_refusal source p rule line e = let P : Option Refused → Type 0 = λ o. Gives (answer_of p o) (Err (error.Refused rule line)) in subst P (sym e) refl

gives_pipe : (source : List ℕ) (p : Pipe) (a : Accepted)
    → refusal source p ≡ None → pipe_view a.typed.pipe ≡ p → Gives (check_answer source p) (Ok a)
gives_pipe source p a e same = let P : Option Refused → Type 0 = λ o. Gives (answer_of p o) (Ok a) in subst P (sym e) same

-- what the check answers to the text of a pipe is the answer to it
pub checked_only : (source : List ℕ) (r : Result Accepted Refusal) (p : Pipe) → IsChecked source r → IsText source p
    → Gives (check_answer source p) r
checked_only source (Ok a) p h t =
    let same : pipe_view a.typed.pipe ≡ p = one_tree source (pipe_view a.typed.pipe) p h.0 t in
    gives_pipe source p a (subst (λ q. refusal source q ≡ None) same h.1) same
checked_only source (Err error.NoMemory) p h t = tt
checked_only source (Err (error.Refused rule line)) p (inl h) t = absurd (apart source p line t h.1)
checked_only source (Err (error.Refused rule line)) p (inr h) t =
    let P : Pipe → Type 0 = λ q. refusal source q ≡ Some (record { rule = rule; line = line }) in
    gives_refusal source p rule line (subst P (one_tree source h.0 p h.1 t) h.2)

-- what the check answers to a text with a token out of place is G1, at the token's line
pub checked_exact : (source : List ℕ) (r : Result Accepted Refusal) (line : ℕ) → IsChecked source r
    → IsOutOfPlace source line → Gives (Refuses (record { rule = G1; line = line })) r
checked_exact source (Ok a) line h k = absurd (apart source (pipe_view a.typed.pipe) line h.0 k)
checked_exact source (Err error.NoMemory) line h k = tt
checked_exact source (Err (error.Refused rule n)) line (inl h) k = let same : n ≡ line = one_place source n line h.1 k in let is : rule ≡ G1 = h.0 in cc
checked_exact source (Err (error.Refused rule n)) line (inr h) k = absurd (apart source h.0 line h.1 k)

-- what the check refuses has a cause of refusal
pub checked_refused : (source : List ℕ) (r : Result Accepted Refusal) → IsChecked source r → IsRefused source r
checked_refused source (Ok a) h = tt
checked_refused source (Err e) h = h

-- the refusal of the rules is that of the pipe
pub judged_error : (p : Pipe) (e : Refusal) → Tells (limits ++ after_limits) p e → IsBroken p e
judged_error p (error.Refused rule line) h = h
judged_error p error.NoMemory h = tt

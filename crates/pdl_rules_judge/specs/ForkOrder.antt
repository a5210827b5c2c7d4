-- Rules F1 to F5 in their order.
use Rattle.std.specs.Prelude.{ℕ, ◌+◌, Bool, not, ◌&&◌, ◌||◌, ◌==◌, List, [], ◌∷◌, ◌++◌, if◌then◌else◌, drop, length, Option, Some, None}
use Rattle.pdl_kit.specs.declared.rule.Rule.{Rule}
use Rattle.pdl_kit.specs.declared.rule.Rule.TheVariants as rules
use Rattle.pdl_semantics.specs.Tree.{Stmts, Pipe}
use Rattle.pdl_rules.specs.Places.{Place, Branch, line_of, statements}
use Rattle.pdl_rules.specs.Limits.{is_separator}
use Rattle.pdl_rules.specs.Stages.{branches_of, are_outer}
use Rattle.pdl_rules.specs.Forks.{holds_separator, starts_with_separator, is_in_outer_stage, breaks_f1, breaks_f2, breaks_f3, breaks_f4}
use Rattle.pdl_rules.specs.Locks.{breaks_f5}
use Rattle.pdl_rules.specs.Refusal.{Refused, refused_at}
use Rattle.pdl_rules_judge.specs.declared.fork_scan.ForkRule.{ForkRule}
use Rattle.pdl_rules_judge.specs.declared.fork_scan.ForkRule.TheVariants.{F1, F2, F3, F4, F5}

-- whether a place is a separator that stands in just these branches
abbrev pub is_cut_in : List Branch → Place → Bool
is_cut_in bs x = is_separator x && (are_outer (branches_of x) bs && are_outer bs (branches_of x))

-- no separator in these branches follows what stands in both branches of an `if`, where these places stand after the `if`
abbrev pub is_unfollowed : Stmts → Stmts → List Branch → List Place → Bool
is_unfollowed when otherwise bs later =
    not (starts_with_separator bs (drop (length (statements [] when) + (length (statements [] otherwise) + 0)) later))

-- an `if` with these branches, with these places before and after it, is a fork of the fifth level, one in the stage of the fork around it, or an unfollowed one
abbrev pub is_wrong_fork : Stmts → Stmts → List Place → List Branch → List Place → Bool
is_wrong_fork when otherwise before bs later =
    (holds_separator when || holds_separator otherwise) && (length bs == 4 || is_in_outer_stage before bs || is_unfollowed when otherwise bs later)

-- the rules F1 to F5, the lowest first
abbrev pub order : List ForkRule
order = F1 ∷ F2 ∷ F3 ∷ F4 ∷ F5 ∷ []

-- a rule on forks, as one of all rules
abbrev pub rule_of : ForkRule → Rule
rule_of F1 = rules.F1
rule_of F2 = rules.F2
rule_of F3 = rules.F3
rule_of F4 = rules.F4
rule_of F5 = rules.F5

-- whether the place breaks the rule
unfoldable pub breaks_fork_rule : ForkRule → Pipe → List Place → Place → Bool
breaks_fork_rule F1 p before x = breaks_f1 x
breaks_fork_rule F2 p before x = breaks_f2 p before x
breaks_fork_rule F3 p before x = breaks_f3 p before x
breaks_fork_rule F4 p before x = breaks_f4 p x
breaks_fork_rule F5 p before x = breaks_f5 p x

-- the line of the first of these places that does
abbrev pub line_from : ForkRule → Pipe → List Place → List Place → Option ℕ
line_from r p before [] = None
line_from r p before (x ∷ xs) = if breaks_fork_rule r p before x then Some (line_of x) else line_from r p (before ++ x ∷ []) xs

-- the line of the first of all places that breaks the rule
unfoldable pub broken_line : ForkRule → Pipe → List Place → Option ℕ
broken_line r p all = line_from r p [] all

-- the first of these rules that is broken, at its lowest place
abbrev pub first_of : List ForkRule → Pipe → List Place → Option Refused
first_of [] p all = None
first_of (r ∷ rs) p all = refused_at (rule_of r) (broken_line r p all) (first_of rs p all)

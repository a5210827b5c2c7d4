-- What is told of a pipe by rules in their order.
use Rattle.std.specs.Prelude.{◌≡◌, List, [], ◌∷◌, ◌++◌, None, Result, Ok, Err}
use Rattle.pdl_kit.specs.declared.rule.Rule.{Rule}
use Rattle.pdl_kit.specs.declared.rule.Rule.TheVariants.{F1, F2, F3, F4, F5, P1}
use Rattle.pdl_kit.specs.declared.refusal.Refusal.{Refusal}
use Rattle.pdl_semantics.specs.Tree.{Pipe}
use Rattle.pdl_rules.specs.Refusal.{first_broken}
use Rattle.pdl_rules_widths.specs.Order.{width_rules}
use Rattle.pdl_locks.specs.Plan.{Tells, lock_rules}
use Rattle.pdl_spec.specs.Plan.{spec_rules}

-- the rules on forks, the lowest first
abbrev pub fork_rules : List Rule
fork_rules = F1 ∷ F2 ∷ F3 ∷ F4 ∷ F5 ∷ []

-- the rule on advised variables
abbrev pub advice_rules : List Rule
advice_rules = P1 ∷ []

-- the rules after those on locks: those on guesses and on advised variables
abbrev pub after_locks : List Rule
after_locks = spec_rules ++ advice_rules

-- the rules after those on forks: those on locks and all after them
abbrev pub after_forks : List Rule
after_forks = lock_rules ++ after_locks

-- the rules after those on widths: those on forks and all after them
abbrev pub after_widths : List Rule
after_widths = fork_rules ++ after_forks

-- the rules after those on names: those on widths and all after them
abbrev pub after_names : List Rule
after_names = width_rules ++ after_widths

-- a result: the pipe keeps these rules, or the refusal is by the lowest that it breaks, at its lowest place
abbrev pub Answers : {T : Type 0} → List Rule → Pipe → Result T Refusal → Type 0
Answers rs p (Ok x) = first_broken rs p ≡ None
Answers rs p (Err e) = Tells rs p e

-- The guards and branches that values of the program stand for.
use Rattle.pdl_rules.specs.Places as rules
use Rattle.pdl_syntax_tree.specs.View.{stmts_view}
use Rattle.pdl_paths.specs.declared.branch.Guard.{Guard}
use Rattle.pdl_paths.specs.declared.branch.Guard.TheVariants.{Shared, Own}
use Rattle.pdl_paths.specs.declared.branch.Branch.{Branch}

-- the guard of the rules that a guard of the program stands for
abbrev pub guard_view : Guard → rules.Guard
guard_view (Shared x) = rules.Shared x.now
guard_view (Own at) = rules.Own at

-- the branch of the rules that a branch of the program stands for
abbrev pub branch_view : Branch → rules.Branch
branch_view b = record { guard = guard_view b.guard; truth = b.truth; inside = stmts_view b.inside.now }

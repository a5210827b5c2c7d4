-- As many arguments as parameters.
use Rattle.std.proofs.Common.{◌≡◌, refl, ap, ℕ, suc, List, [], ◌∷◌, length}
use Rattle.pdl_semantics.specs.Flat.{Expr}
use Rattle.pdl_form_types.specs.Stmts.{AreArguments}

-- arguments for some widths are as many as these
pub args_count : (ws ns : List ℕ) (es : List Expr) → AreArguments ws ns es → length es ≡ length ns
args_count ws [] [] t = refl
args_count ws (n ∷ ns) [] t = absurd t
args_count ws [] (e ∷ es) t = absurd t
args_count ws (n ∷ ns) (e ∷ es) t = ap suc (args_count ws ns es t.2)

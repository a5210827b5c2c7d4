use Rattle.std.proofs.Common.{◌≡◌, map, drop}
use Rattle.std.proofs.Common.{nat_eq, length}
use Rattle.std.specs.Cmp.Lexicographic.{pointwise}
use Rattle.pdl_semantics.specs.Tree.{Literal, Param}
use Rattle.pdl_syntax_tree.specs.View.{literal_view, param_view}
use Rattle.pdl_rules_widths.proofs.arguments.start_fits.Given as goal

-- those so far give nothing
abbrev pub invariant-loop-i : goal.invariant-loop-i
invariant-loop-i l =
    (length l.args ≡ length l.params)
    × (pointwise nat_eq (map (λ (x : Literal). x.width) (map literal_view (drop l.i l.args)))
    (map (λ (a : Param). a.width.value) (map param_view (drop l.i l.params)))
    ≡ pointwise nat_eq (map (λ (x : Literal). x.width) (map literal_view l.args)) (map (λ (a : Param). a.width.value) (map param_view l.params)))

-- Lines of a pipe's own guards and places.
use Rattle.std.proofs.Common.{◌≡◌, ◌∙◌, refl, ap, ℕ, ◌^◌, Bool, List, length}
use Rattle.pdl_semantics.specs.Tree.{Pipe}
use Rattle.pdl_rules.specs.Places.{Place, Guard, places, guards}
use Rattle.pdl_rules_on_paths.specs.Lowest.{on_some, nth_line}
use Rattle.pdl_rules_on_paths.proofs.Lines.{lowest_line}
use Rattle.pdl_rules_walk.specs.Course.{path_line, IsFound}
use Rattle.pdl_rules_walk.proofs.Steps.{every_path}

-- the line at which a rule is broken on some path is the same by guards and places equal to the pipe's own
pub at_places : (breaks : List Guard → List Place → Place → Bool) (p : Pipe) (gs : List Guard) (xs : List Place)
    → gs ≡ guards xs → xs ≡ places p → path_line breaks gs xs ≡ path_line breaks (guards (places p)) (places p)
at_places breaks p gs xs own of = ap (λ hs. path_line breaks hs xs) own ∙ ap (λ ys. path_line breaks (guards ys) ys) of

-- after the last path the lowest place that was found tells the first line that breaks the rule on some path
pub found_line : (breaks : List Guard → List Place → Place → Bool) (gs : List Guard) (xs : List Place) (lowest : ℕ)
    → IsFound breaks gs xs (2 ^ length gs) lowest → nth_line xs lowest ≡ path_line breaks gs xs
found_line breaks gs xs lowest h = lowest_line (on_some breaks gs) xs lowest (every_path breaks gs xs (2 ^ length gs) (length xs) lowest refl h)

-- What is made of a pipe that breaks no rule.
use Rattle.std.specs.Prelude.{◌≡◌}
use Rattle.pdl_semantics.specs.Tree.{Pipe}
use Rattle.pdl_semantics.specs.Flatten.{flat}
use Rattle.pdl_rules.specs.Memories.{infos_of}
use Rattle.pdl_rules.specs.Places.{places}
use Rattle.pdl_form.specs.Form.{form_of}
use Rattle.pdl_form.specs.FormView.{form}
use Rattle.pdl_stages.specs.Graph.{graph_of}
use Rattle.pdl_check.specs.declared.check.Made.{Made}

-- what was made of a pipe: its memories as they are told, its flat form, and the graph of its stages
pub record IsMadeOf (p : Pipe) (made : Made) : Type 0 where
  pub told : made.mems ≡ infos_of p.mems
  pub lowered : form made.flat ≡ form_of p
  pub staged : made.graph ≡ graph_of (flat p) (places p)

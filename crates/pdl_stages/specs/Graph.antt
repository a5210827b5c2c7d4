-- The stages of a pipe, as callers see them.
use Rattle.std.specs.Prelude.{ℕ, suc, Bool, List, [], ◌∷◌, ◌++◌, Option, Some, None, if◌then◌else◌}
use Rattle.pdl_semantics.specs.Flat
use Rattle.pdl_semantics.specs.Flat.{Next, Ends, Goes, Forks, Stage}
use Rattle.pdl_semantics.specs.Stages as stages
use Rattle.pdl_rules.specs.Places.{Place}
use Rattle.pdl_rules_stages.specs.Stages.{stages_in}

-- a fork: its stage, and the stage in which its branches meet
pub record Fork : Type 0 where
  pub stage : ℕ
  pub merge : ℕ

-- the fork that meets in stage k
abbrev pub fork_into : ℕ → Option ℕ → List Fork
fork_into k None = []
fork_into k (Some f) = record { stage = f; merge = k } ∷ []

-- the forks that meet in these stages, of which the first has the number k
abbrev pub forks_in : ℕ → List Stage → List Fork
forks_in k [] = []
forks_in k (x ∷ xs) = fork_into k x.merges ++ forks_in (suc k) xs

-- where a stage leads on paths that take the first branch at it, or the second
abbrev pub way : Next → Bool → Option ℕ
way Ends first = None
way (Goes to) first = Some to
way (Forks x a b) first = Some (if first then a else b)

-- the stages by their numbers, the forks, the stage of each place, and the greatest number of stages on a path
pub record Graph : Type 0 where
  pub stages : List Stage
  pub forks : List Fork
  pub places : List ℕ
  pub depth : ℕ

-- a pipe of these stages alone
abbrev pub of_stages : List Stage → Flat.Pipe
of_stages ss = record { vars = 0; mems = []; stmts = []; stages = ss; start = []; reserves_at = []; releases_at = [] }

-- the graph of a pipe whose places stand in these stages
abbrev pub graph_with : Flat.Pipe → List ℕ → Graph
graph_with p places =
    record {
      stages = p.stages;
      forks = forks_in 0 p.stages;
      places = places;
      depth = stages.depth p;
    }

-- the graph of a pipe with these places
abbrev pub graph_of : Flat.Pipe → List Place → Graph
graph_of p xs = graph_with p (stages_in xs)

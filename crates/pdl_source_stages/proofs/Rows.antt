-- The stages of paths, computed of written pipes.
use Rattle.std.proofs.Common.{◌≡◌, refl, ℕ, List, [], ◌∷◌}
use Rattle.pdl_semantics.specs.Tree.{Pipe}
use Rattle.pdl_semantics.specs.Flatten.{flat, at_start}
use Rattle.pdl_semantics.proofs.Pipes.{one_stage, two_stages, two_branches, one_branch, nested}
use Rattle.pdl_source_stages.specs.Visits.{visited_stages, begun_by}

-- the stages that the separators of a path begin, where the variables have these values
abbrev begun : Pipe → List ℕ → List ℕ
begun p env = begun_by env p.mems p.body (at_start p)

-- a pipe of one stage, and one with a separator
one_begun : begun one_stage [] ≡ []
one_begun = refl

two_begun : begun two_stages [] ≡ 1 ∷ []
two_begun = refl

two_visited : visited_stages (flat two_stages) [] 2 0 ≡ 0 ∷ 1 ∷ []
two_visited = refl

-- a fork on the second variable: one stage in the first branch, three in the second, and the merge
first_begun : begun two_branches (0 ∷ 1 ∷ 0 ∷ []) ≡ 1 ∷ 5 ∷ []
first_begun = refl

first_visited : visited_stages (flat two_branches) (0 ∷ 1 ∷ 0 ∷ []) 6 0 ≡ 0 ∷ 1 ∷ 5 ∷ []
first_visited = refl

second_begun : begun two_branches (0 ∷ 0 ∷ 0 ∷ []) ≡ 2 ∷ 3 ∷ 4 ∷ 5 ∷ []
second_begun = refl

second_visited : visited_stages (flat two_branches) (0 ∷ 0 ∷ 0 ∷ []) 6 0 ≡ 0 ∷ 2 ∷ 3 ∷ 4 ∷ 5 ∷ []
second_visited = refl

-- a branch without a stage leads straight to the merge
straight_begun : begun one_branch (0 ∷ 1 ∷ 0 ∷ []) ≡ 4 ∷ []
straight_begun = refl

straight_visited : visited_stages (flat one_branch) (0 ∷ 1 ∷ 0 ∷ []) 5 0 ≡ 0 ∷ 4 ∷ []
straight_visited = refl

-- a fork in the second branch of another, on the third variable: a stage before it, one stage in its first branch, two in its second, and its merge
inner_first_begun : begun nested (0 ∷ 0 ∷ 1 ∷ 0 ∷ []) ≡ 2 ∷ 3 ∷ 6 ∷ 7 ∷ []
inner_first_begun = refl

inner_first_visited : visited_stages (flat nested) (0 ∷ 0 ∷ 1 ∷ 0 ∷ []) 8 0 ≡ 0 ∷ 2 ∷ 3 ∷ 6 ∷ 7 ∷ []
inner_first_visited = refl

inner_second_visited : visited_stages (flat nested) (0 ∷ 0 ∷ 0 ∷ 0 ∷ []) 8 0 ≡ 0 ∷ 2 ∷ 4 ∷ 5 ∷ 6 ∷ 7 ∷ []
inner_second_visited = refl

outer_first_visited : visited_stages (flat nested) (0 ∷ 1 ∷ 0 ∷ 0 ∷ []) 8 0 ≡ 0 ∷ 1 ∷ 7 ∷ []
outer_first_visited = refl

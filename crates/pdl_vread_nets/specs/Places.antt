-- Which declarations a map of names tells.
use Rattle.std.specs.Prelude.{◌≡◌, ℕ, List, length, nat_eq}
use Rattle.std.specs.HashMap.{get}
use Rattle.std.specs.Cmp.Lexicographic.{pointwise}
use Rattle.pdl_vread_nets.specs.declared.places.Places as r
use Rattle.pdl_vread_nets.specs.Wired.{place}

-- the map tells where each of these names first stands
pub record AreFirsts (names : List (List ℕ)) (p : r.Places) : Type 0 where
  pub count : p.count ≡ length names
  pub firsts : (x : List ℕ) → get (pointwise nat_eq) p.firsts x ≡ place names x

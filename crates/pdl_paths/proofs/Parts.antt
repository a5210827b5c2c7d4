-- The places of the parts of a pipe, one after the other.
use Rattle.std.proofs.Common.{◌≡◌, refl, ap, ap₂, ◌∙◌, List, [], ◌∷◌, ◌++◌, map, append_assoc}
use Rattle.std.proofs.lemmas.List.{map-append}
use Rattle.pdl_rules.specs.Places.{Place, Parameter, Memory}
use Rattle.pdl_syntax_tree.specs.declared.tree.Param as r_param
use Rattle.pdl_syntax_tree.specs.declared.tree.Mem as r_mem
use Rattle.pdl_syntax_tree.specs.View.{param_view, mem_view}
use Rattle.pdl_paths.specs.declared.place.Place as r_place
use Rattle.pdl_paths.specs.Actions.{place_view}
use Rattle.pdl_paths.specs.Declarations.{parameter, memory}

parameters : (ps : List r_param.Param) → map parameter ps ≡ map Parameter (map param_view ps)
unfolding parameter
parameters [] = refl
parameters (a ∷ ps) = ap (λ xs. Parameter (param_view a) ∷ xs) (parameters ps)

memories : (ms : List r_mem.Mem) → map memory ms ≡ map Memory (map mem_view ms)
unfolding memory
memories [] = refl
memories (m ∷ ms) = ap (λ xs. Memory (mem_view m) ∷ xs) (memories ms)

-- the parts of a pipe, one after the other
pub whole : (params : List r_param.Param) (mems : List r_mem.Mem) (body : List Place) (a b c d e : List Place) (x y : Place) (last start : Place)
    → a ≡ [] ++ map parameter params → b ≡ a ++ map memory mems
    → c ≡ b ++ body → d ≡ c ++ x ∷ [] → e ≡ d ++ y ∷ [] → x ≡ last → y ≡ start
    → e ≡ map Parameter (map param_view params) ++ map Memory (map mem_view mems) ++ body ++ last ∷ start ∷ []
whole params mems body a b c d e x y last start ha hb hc hd he hx hy =
    let ps = map Parameter (map param_view params) in
    let ms = map Memory (map mem_view mems) in
    let front : c ≡ (ps ++ ms) ++ body = hc ∙ ap (λ z. z ++ body) (hb ∙ ap₂ (λ u v. u ++ v) (ha ∙ parameters params) (memories mems)) in
    he ∙ ap₂ (λ u v. u ++ v ∷ []) (hd ∙ ap₂ (λ u v. u ++ v ∷ []) front hx) hy
    ∙ append_assoc ((ps ++ ms) ++ body) (last ∷ []) (start ∷ [])

-- with one value more at the end, one place is there more
pub one_more : (ps qs : List r_place.Place) (p : r_place.Place)
    → qs ≡ ps ++ p ∷ [] → map place_view qs ≡ map place_view ps ++ place_view p ∷ []
one_more ps qs p h = ap (map place_view) h ∙ map-append place_view ps (p ∷ [])

-- A flat form from its parts.
use Rattle.std.proofs.Common.{◌≡◌, ℕ, suc, Bool, List, [], ◌∷◌, map, length, Option, refl, ap, ap₂, ◌∙◌}
use Rattle.pdl_semantics.specs.Tree as tree
use Rattle.pdl_semantics.specs.Flat.{Op, Mem, Stmt, Stage}
use Rattle.pdl_semantics.specs.Flatten.{Var, past_all, at_start, flat_stmts, stages_of, mems_of, start_of, first_stage, first_stages}
use Rattle.pdl_semantics.specs.Stages.{is_reserve, is_release}
use Rattle.pdl_form.specs.Form.{Form, form_with, form_of, names_of, stage_of_each}

long_widths : (vs : List Var) → length (map (λ (v : Var). v.width) vs) ≡ length vs
long_widths [] = refl
long_widths (v ∷ vs) = ap suc (long_widths vs)

each_same : (test : ℕ → Op → Bool) (xs : List Stmt) (m : ℕ) (ms : List tree.Mem)
    → stage_of_each test xs m (mems_of ms) ≡ first_stages test xs m ms
each_same test xs m [] = refl
each_same test xs m (x ∷ ms) = ap (λ rs. first_stage (test m) xs ∷ rs) (each_same test xs (suc m) ms)

-- with these numbers of variables, and stages of reserves and releases
abbrev with_stages : tree.Pipe → ℕ → List (Option ℕ) → List (Option ℕ) → Form
with_stages p n reserves releases =
    record {
      pipe = record {
        vars = n;
        mems = mems_of p.mems;
        stmts = flat_stmts p.mems [] p.body (at_start p);
        stages = stages_of p;
        start = start_of p.start.args;
        reserves_at = reserves;
        releases_at = releases;
      };
      widths = map (λ (v : Var). v.width) (past_all p.mems p.body (at_start p)).vars;
      names = names_of p.mems;
    }

of_tree : (p : tree.Pipe)
    → form_with (map (λ (v : Var). v.width) (past_all p.mems p.body (at_start p)).vars) (mems_of p.mems) (names_of p.mems)
    (flat_stmts p.mems [] p.body (at_start p)) (stages_of p) (start_of p.start.args) ≡ form_of p
of_tree p =
    let stmts = flat_stmts p.mems [] p.body (at_start p) in
    ap (λ n. with_stages p n (stage_of_each is_reserve stmts 0 (mems_of p.mems)) (stage_of_each is_release stmts 0 (mems_of p.mems)))
    (long_widths (past_all p.mems p.body (at_start p)).vars)
    ∙ ap₂ (λ rs cs. with_stages p (length (past_all p.mems p.body (at_start p)).vars) rs cs) (each_same is_reserve stmts 0 p.mems)
    (each_same is_release stmts 0 p.mems)

-- widths, memories, names, statements, stages and start that are a tree's make the tree's flat form
pub form_made : (p : tree.Pipe) (widths : List ℕ) (mems : List Mem) (names : List (List ℕ)) (stmts : List Stmt)
    (stages : List Stage) (start : List ℕ)
    → widths ≡ map (λ (v : Var). v.width) (past_all p.mems p.body (at_start p)).vars → mems ≡ mems_of p.mems
    → names ≡ names_of p.mems → stmts ≡ flat_stmts p.mems [] p.body (at_start p) → stages ≡ stages_of p
    → start ≡ start_of p.start.args → form_with widths mems names stmts stages start ≡ form_of p
form_made p widths mems names stmts stages start hw hm hn hs hg ha =
    let ws = map (λ (v : Var). v.width) (past_all p.mems p.body (at_start p)).vars in
    ap₂ (λ xs ms. form_with xs ms names stmts stages start) hw hm
    ∙ ap₂ (λ ns ss. form_with ws (mems_of p.mems) ns ss stages start) hn hs
    ∙ ap₂ (λ gs vs. form_with ws (mems_of p.mems) (names_of p.mems) (flat_stmts p.mems [] p.body (at_start p)) gs vs) hg ha
    ∙ of_tree p

use Rattle.std.proofs.Common.{refl, sym, ap, subst, ◌∙◌, ◌-◌, [], map, arith}
use Rattle.std.proofs.lemmas.List.{length-map}
use Rattle.pdl_rules.specs.Places.{statements}
use Rattle.pdl_syntax_tree.specs.View as tree
use Rattle.pdl_paths.specs.Masks.{mask_in}
use Rattle.pdl_paths.specs.Numbered.{Tells}
use Rattle.pdl_paths.proofs.Nth.{at_params, at_mems, at_body, found_mask}
use Rattle.pdl_paths.proofs.numbered.mask_at.Goals as goal

pub returns-then-place-params : goal.returns-then-place-params
returns-then-place-params c =
    let params = length-map c.args.pipe.now.params tree.param_view in
    at_params c.args.guards.now (tree.pipe_view c.args.pipe.now) c.args.place (omega (arith, params, c.len-params.ensures, c.if-place-params.true))

pub returns-then-place-params-2 : goal.returns-then-place-params-2
returns-then-place-params-2 c =
    let params = length-map c.args.pipe.now.params tree.param_view in
    let mems = length-map c.args.pipe.now.mems tree.mem_view in
    at_mems c.args.guards.now (tree.pipe_view c.args.pipe.now) c.args.place (c.args.place - c.len-params.result)
    (omega (arith, params, c.len-params.ensures, c.if-place-params.false))
    (omega (arith, mems, c.len-mems.ensures, c.if-place-params-2.true))

pub returns-in-Here : goal.returns-in-Here
returns-in-Here c =
    let p = tree.pipe_view c.args.pipe.now in
    let gs = c.args.guards.now in
    let params = length-map c.args.pipe.now.params tree.param_view in
    let mems = length-map c.args.pipe.now.mems tree.mem_view in
    let k = c.args.place - c.len-params.result in
    ap found_mask (sym c.in-Here.is)
    ∙ at_body gs p c.args.place k (k - c.len-mems.result) c.search_all.result
    (omega (arith, params, c.len-params.ensures, c.if-place-params.false))
    (omega (arith, mems, c.len-mems.ensures, c.if-place-params-2.false))
    (subst
    (λ xs. Tells (map (mask_in gs) (statements [] (tree.stmts_view xs))) (k - c.len-mems.result) c.search_all.result) c.as_slice.ensures
    (c.search_all.ensures [] refl))

pub returns-in-After : goal.returns-in-After
returns-in-After c =
    let p = tree.pipe_view c.args.pipe.now in
    let gs = c.args.guards.now in
    let params = length-map c.args.pipe.now.params tree.param_view in
    let mems = length-map c.args.pipe.now.mems tree.mem_view in
    let k = c.args.place - c.len-params.result in
    ap found_mask (sym c.in-After.is)
    ∙ at_body gs p c.args.place k (k - c.len-mems.result) c.search_all.result
    (omega (arith, params, c.len-params.ensures, c.if-place-params.false))
    (omega (arith, mems, c.len-mems.ensures, c.if-place-params-2.false))
    (subst
    (λ xs. Tells (map (mask_in gs) (statements [] (tree.stmts_view xs))) (k - c.len-mems.result) c.search_all.result) c.as_slice.ensures
    (c.search_all.ensures [] refl))

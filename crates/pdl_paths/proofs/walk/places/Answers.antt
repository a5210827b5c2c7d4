use Rattle.std.proofs.Common.{ap, ◌∙◌, map, [], ◌++◌}
use Rattle.pdl_rules.specs.Places.{statements, End, StartClause}
use Rattle.pdl_syntax_tree.specs.View.{span_view, start_view, stmts_view}
use Rattle.pdl_paths.specs.Actions.{place_view}
use Rattle.pdl_paths.specs.Guards.{branch_view}
use Rattle.pdl_paths.specs.Declarations.{parameter, memory}
use Rattle.pdl_paths.proofs.Parts.{whole, one_more}
use Rattle.pdl_paths.proofs.walk.places.Goals as goal

pub returns : goal.returns
returns c =
    let p = c.args.pipe.now in
    whole p.params p.mems (statements [] (stmts_view p.body)) _ _ _ _ _ _ _ (End (span_view p.end)) (StartClause (start_view p.start))
    (c.in_ok-add_params.ensures
    ∙ ap (λ xs. map place_view c.new-places.result.items ++ map parameter xs) c.as_slice.ensures
    ∙ ap (λ xs. map place_view xs ++ map parameter p.params) c.new-places.ensures.items)
    (c.in_ok-add_mems.ensures ∙ ap (λ xs. map place_view c.add_params.new.places.items ++ map memory xs) c.as_slice-2.ensures)
    (c.in_ok-add_stmts.ensures
    ∙ ap (λ o. map place_view c.add_mems.new.places.items ++ statements (map branch_view o) (stmts_view c.as_slice-4.result.now))
    (c.as_slice-3.ensures.value ∙ c.new-outer.ensures.items)
    ∙ ap (λ b. map place_view c.add_mems.new.places.items ++ statements [] (stmts_view b)) c.as_slice-4.ensures)
    (one_more _ _ _ c.in_ok-push.ensures.items)
    (one_more _ _ _ c.in_ok-push-2.ensures.items)
    c.bare.ensures
    c.bare-2.ensures

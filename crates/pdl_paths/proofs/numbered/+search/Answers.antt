use Rattle.std.proofs.Common.{◌≡◌, ◌+◌, ◌-◌, ◌++◌, true, false, sym, ap, subst, ◌∙◌, [], ◌∷◌, map, drop, arith}
use Rattle.std.proofs.lemmas.Grind.{fold-append}
use Rattle.std.proofs.lemmas.List.{drop_all}
use Rattle.pdl_word.proofs.Lists.{drop_next}
use Rattle.pdl_semantics.specs.Tree as Tree
use Rattle.pdl_rules.specs.Places.{Branch, guard_of, with_inner, statements, Statement}
use Rattle.pdl_syntax_tree.specs.declared.tree.Stmt as r_stmt
use Rattle.pdl_syntax_tree.specs.declared.tree.Stmt.TheVariants as r_stmts
use Rattle.pdl_syntax_tree.specs.declared.tree.Stmt.TheOpen.{Stmt-F}
use Rattle.pdl_syntax_tree.specs.View as tree
use Rattle.pdl_paths.specs.declared.numbered.Found.TheVariants.{Here, After}
use Rattle.pdl_paths.specs.Masks.{everywhere, mask_in, mask_of, number_of, with_number, with_branch}
use Rattle.pdl_paths.specs.Numbered.{Tells}
use Rattle.pdl_paths.proofs.Nth.{in_first, in_second, in_one, in_rest}
use Rattle.pdl_paths.proofs.numbered.+search.Goals as goal

pub search-returns-in-Here : goal.search-returns-in-Here
search-returns-in-Here t c = λ bs own.
    let gs = c.args.guards.now in
    let when = tree.stmts_view c.in-If.then in
    let other = tree.stmts_view c.in-If.otherwise in
    let s = tree.span_view c.in-If.span in
    let cond = tree.expr_view c.in-If.condition in
    let is : tree.stmt_view c.args.stmt.now ≡ Tree.If s cond when other =
    ap tree.stmt_view c.in-If.is
    ∙ ap tree.stmt_view (sym (r_stmts.rolls-If c.in-If.span c.in-If.condition c.in-If.then c.in-If.otherwise))
    ∙ r_stmt.fold-roll-Stmt Tree.Stmt tree.stmt_step (Stmt-F.If c.in-If.span c.in-If.condition c.in-If.then c.in-If.otherwise) in
    let b : Branch = record { guard = guard_of s cond; truth = true; inside = when } in
    let o : Branch = record { guard = guard_of s cond; truth = false; inside = other } in
    let first : c.with-first.result ≡ mask_of gs (bs ++ b ∷ []) =
    c.with-first.ensures ∙ ap (λ n. with_number n true c.args.mask) (c.number-guard.ensures ∙ ap (λ g. number_of g gs) c.guard_of.ensures)
    ∙ ap (λ m. with_branch gs m b) own ∙ sym (fold-append (with_branch gs) everywhere bs (b ∷ [])) in
    let found = c.search_all.ensures (bs ++ b ∷ []) first in
    subst (λ x. Tells (map (mask_in gs) (with_inner bs x)) c.args.number (Here c.in-Here.mask)) (sym is)
    (in_first gs (Statement (Tree.If s cond when other) bs) (statements (bs ++ b ∷ []) when)
    (statements (bs ++ o ∷ []) other) c.args.number (c.args.number - 1) c.in-Here.mask (omega (arith, c.if-number-eq0.false))
    (subst (λ r. Tells (map (mask_in gs) (statements (bs ++ b ∷ []) when)) (c.args.number - 1) r) c.in-Here.is
    (subst
    (λ xs. Tells (map (mask_in gs) (statements (bs ++ b ∷ []) (tree.stmts_view xs))) (c.args.number - 1) c.search_all.result) c.as_slice.ensures found)))

pub search-returns-in-After : goal.search-returns-in-After
search-returns-in-After t c = λ bs own.
    let gs = c.args.guards.now in
    let when = tree.stmts_view c.in-If.then in
    let other = tree.stmts_view c.in-If.otherwise in
    let s = tree.span_view c.in-If.span in
    let cond = tree.expr_view c.in-If.condition in
    let is : tree.stmt_view c.args.stmt.now ≡ Tree.If s cond when other =
    ap tree.stmt_view c.in-If.is
    ∙ ap tree.stmt_view (sym (r_stmts.rolls-If c.in-If.span c.in-If.condition c.in-If.then c.in-If.otherwise))
    ∙ r_stmt.fold-roll-Stmt Tree.Stmt tree.stmt_step (Stmt-F.If c.in-If.span c.in-If.condition c.in-If.then c.in-If.otherwise) in
    let b : Branch = record { guard = guard_of s cond; truth = true; inside = when } in
    let o : Branch = record { guard = guard_of s cond; truth = false; inside = other } in
    let number = c.number-guard.ensures ∙ ap (λ g. number_of g gs) c.guard_of.ensures in
    let first : c.with-first.result ≡ mask_of gs (bs ++ b ∷ []) =
    c.with-first.ensures ∙ ap (λ n. with_number n true c.args.mask) number ∙ ap (λ m. with_branch gs m b) own
    ∙ sym (fold-append (with_branch gs) everywhere bs (b ∷ [])) in
    let second : c.with-second.result ≡ mask_of gs (bs ++ o ∷ []) =
    c.with-second.ensures ∙ ap (λ n. with_number n false c.args.mask) number ∙ ap (λ m. with_branch gs m o) own
    ∙ sym (fold-append (with_branch gs) everywhere bs (o ∷ [])) in
    subst (λ x. Tells (map (mask_in gs) (with_inner bs x)) c.args.number c.search_all-in-After.result) (sym is)
    (in_second gs (Statement (Tree.If s cond when other) bs) (statements (bs ++ b ∷ []) when)
    (statements (bs ++ o ∷ []) other) c.args.number (c.args.number - 1) c.in-After.left c.search_all-in-After.result
    (omega (arith, c.if-number-eq0.false))
    (subst (λ r. Tells (map (mask_in gs) (statements (bs ++ b ∷ []) when)) (c.args.number - 1) r) c.in-After.is
    (subst
    (λ xs. Tells (map (mask_in gs) (statements (bs ++ b ∷ []) (tree.stmts_view xs))) (c.args.number - 1) c.search_all.result) c.as_slice.ensures
    (c.search_all.ensures (bs ++ b ∷ []) first)))
    (subst
    (λ xs. Tells
    (map (mask_in gs) (statements (bs ++ o ∷ []) (tree.stmts_view xs))) c.in-After.left c.search_all-in-After.result) c.as_slice-in-After.ensures
    (c.search_all-in-After.ensures (bs ++ o ∷ []) second)))

pub search_all-returns-in-Here : goal.search_all-returns-in-Here
search_all-returns-in-Here t c = λ bs own.
    let gs = c.args.guards.now in
    let item = c.stmt-item.result in
    let rest = drop (c.loop-stmt.stmt-index + 1) c.args.stmts.now in
    c.loop-stmt.invariant bs (Here c.in-Here.mask) own
    (subst (λ xs. Tells (map (mask_in gs) (statements bs (tree.stmts_view xs))) c.loop-stmt.left (Here c.in-Here.mask))
    (sym (drop_next c.args.stmts.now c.loop-stmt.stmt-index item c.loop-stmt-test.true c.stmt-item.is))
    (in_one gs (with_inner bs (tree.stmt_view item)) (statements bs (tree.stmts_view rest)) c.loop-stmt.left c.in-Here.mask
    (subst (λ r. Tells (map (mask_in gs) (with_inner bs (tree.stmt_view item))) c.loop-stmt.left r) c.in-Here.is (c.search.ensures bs own))))

pub search_all-loop-stmt-preserved : goal.search_all-loop-stmt-preserved
search_all-loop-stmt-preserved t c = λ bs r own later.
    let gs = c.args.guards.now in
    let item = c.stmt-item.result in
    let rest = drop (c.loop-stmt.stmt-index + 1) c.args.stmts.now in
    c.loop-stmt.invariant bs r own
    (subst (λ xs. Tells (map (mask_in gs) (statements bs (tree.stmts_view xs))) c.loop-stmt.left r)
    (sym (drop_next c.args.stmts.now c.loop-stmt.stmt-index item c.loop-stmt-test.true c.stmt-item.is))
    (in_rest gs (with_inner bs (tree.stmt_view item)) (statements bs (tree.stmts_view rest)) c.loop-stmt.left c.in-After.further r
    (subst (λ f. Tells (map (mask_in gs) (with_inner bs (tree.stmt_view item))) c.loop-stmt.left f) c.in-After.is (c.search.ensures bs own))
    later))

pub search_all-returns : goal.search_all-returns
search_all-returns t c = λ bs own.
    let gs = c.args.guards.now in
    let none = drop_all c.loop-stmt.stmt-index c.args.stmts.now (omega (arith, c.loop-stmt-test.false)) in
    c.loop-stmt.invariant bs (After c.loop-stmt.left) own
    (subst (λ xs. Tells (map (mask_in gs) (statements bs (tree.stmts_view xs))) c.loop-stmt.left (After c.loop-stmt.left)) (sym none) (omega arith))

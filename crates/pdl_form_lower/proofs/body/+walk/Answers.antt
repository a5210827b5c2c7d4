use Rattle.std.proofs.Common.{◌≡◌, ◌+◌, ◌<◌, ◌==◌, suc, true, false, ◌∷◌, if◌then◌else◌, map, length, sym, ap, ap₂, ◌∙◌, arith}
use Rattle.pdl_syntax_tree.specs.declared.tree.Stmt as r_stmt
use Rattle.pdl_syntax_tree.specs.declared.tree.Stmt.TheVariants as r_stmts
use Rattle.pdl_syntax_tree.specs.declared.tree.Stmt.TheOpen.{Stmt-F}
use Rattle.pdl_semantics.specs.Tree as Tree
use Rattle.pdl_semantics.specs.Flat.{Goes}
use Rattle.pdl_semantics.specs.Flatten as spec
use Rattle.pdl_syntax_tree.specs.View as tree
use Rattle.pdl_form.specs.View.{stages_view, next_view, branches_view}
use Rattle.pdl_form_lower.specs.Walking.{place_of, next_at, closed_stages}
use Rattle.pdl_form_lower.proofs.Branches.{if_closed, branch_seen, entry_seen, guard_begun}
use Rattle.pdl_form_lower.proofs.body.+walk.Goals as goal
use Rattle.pdl_form.proofs.StageRows.{length_stages}

pub branch-returns-clause-graph : goal.branch-returns-clause-graph
branch-returns-clause-graph t c =
    branch_seen (map tree.mem_view c.args.mems.now) (branches_view c.in_ok-round.round.branches) (branches_view c.args.around.now.branches)
    (next_view c.in_ok-round.round.exit) c.args.first c.args.choice.stage c.args.walk.now.stage c.args.choice.merge
    (tree.stmts_view c.args.ss.now) (place_of c.args.walk.now) (stages_view c.args.walk.now.stages.items) (stages_view c.statements.new.walk.stages.items)
    c.in_ok-statements.ensures.graph c.in_ok-round.ensures.branches c.in_ok-round.ensures.exit c.requires.stage

pub branch-returns-clause-entry : goal.branch-returns-clause-entry
branch-returns-clause-entry t c =
    let low : c.args.choice.stage < length (stages_view c.args.walk.now.stages.items) =
    omega (arith, c.requires.stage, c.requires.whole.begun, c.requires.whole.stage, length_stages c.args.walk.now.stages.items) in
    c.entry.ensures
    ∙ ap (λ xs. spec.entry (next_at c.args.choice.stage (stages_view xs))) c.as_slice.ensures.value
    ∙ entry_seen (map tree.mem_view c.args.mems.now) (branches_view c.args.around.now.branches)
    c.args.first c.args.choice.stage c.args.choice.merge
    (tree.stmts_view c.args.ss.now) (place_of c.args.walk.now) (stages_view c.args.walk.now.stages.items) (stages_view c.statements.new.walk.stages.items)
    (branch_seen (map tree.mem_view c.args.mems.now) (branches_view c.in_ok-round.round.branches) (branches_view c.args.around.now.branches)
    (next_view c.in_ok-round.round.exit) c.args.first c.args.choice.stage c.args.walk.now.stage c.args.choice.merge
    (tree.stmts_view c.args.ss.now) (place_of c.args.walk.now) (stages_view c.args.walk.now.stages.items) (stages_view c.statements.new.walk.stages.items)
    c.in_ok-statements.ensures.graph c.in_ok-round.ensures.branches c.in_ok-round.ensures.exit c.requires.stage)
    low

pub statement-returns-in_ok-second-in-If-clause-graph : goal.statement-returns-in_ok-second-in-If-clause-graph
statement-returns-in_ok-second-in-If-clause-graph t c = λ rest.
    let ms = map tree.mem_view c.args.mems.now in
    let cond = tree.expr_view c.in-If.condition in
    let when = tree.stmts_view c.as_slice-when.result.now in
    let other = tree.stmts_view c.as_slice-other.result.now in
    let k = c.in_ok-choice-in-If.choice.stage in
    let at' = place_of c.args.walk.now in
    let is : tree.stmt_view c.args.s.now ≡ Tree.If (tree.span_view c.in-If.span) cond when other =
    ap tree.stmt_view c.in-If.is
    ∙ ap tree.stmt_view (sym (r_stmts.rolls-If c.in-If.span c.in-If.condition c.in-If.then c.in-If.otherwise))
    ∙ r_stmt.fold-roll-Stmt Tree.Stmt tree.stmt_step (Stmt-F.If c.in-If.span c.in-If.condition c.in-If.then c.in-If.otherwise)
    ∙ ap₂ (λ xs ys. Tree.If (tree.span_view c.in-If.span) cond (tree.stmts_view xs) (tree.stmts_view ys)) (sym c.as_slice-when.ensures)
    (sym c.as_slice-other.ensures) in
    let em : c.in_ok-choice-in-If.choice.merge ≡ suc (c.args.walk.now.begun + (spec.separators when + spec.separators other)) =
    c.in_ok-choice-in-If.ensures.merge ∙ ap₂ (λ a b. suc (c.args.walk.now.begun + (a + b))) c.separators.ensures c.separators-in-If.ensures in
    let second_at : place_of c.branch-alloc.new.walk ≡ spec.at_otherwise ms cond when at' =
    c.in_ok-first-in-If.ensures.place
    ∙ ap (λ j. spec.back_in j (spec.past_all ms when (place_of c.enter.new.walk))) c.in_ok-choice-in-If.ensures.stage
    ∙ ap (λ p. spec.back_in c.args.walk.now.stage (spec.past_all ms when p)) c.in_ok-choice-in-If.ensures.place in
    let begun : c.enter.new.walk.begun ≡ c.args.walk.now.begun =
    ap (λ (p : spec.Position). p.begun) c.in_ok-choice-in-If.ensures.place ∙ guard_begun cond at' in
    let stage : c.leave.new.walk.stage ≡ k = ap (λ (p : spec.Position). p.stage) (c.leave.ensures.place ∙ c.in_ok-second-in-If.ensures.place) in
    ap (λ j. closed_stages j c.leave.result (stages_view c.leave.new.walk.stages.items) rest) stage
    ∙ ap (λ r. closed_stages k r (stages_view c.leave.new.walk.stages.items) rest) c.leave.ensures.value
    ∙ ap
    (λ xs. closed_stages k
    (if c.branch-alloc-in-If.new.walk.begun == c.in_ok-choice-in-If.choice.begun then c.args.forked else true) xs rest) c.leave.ensures.stages
    ∙ if_closed ms (branches_view c.args.round.now.branches)
    (tree.span_view c.in-If.span) cond when other at' k c.in_ok-choice-in-If.choice.begun c.in_ok-choice-in-If.choice.merge c.in_ok-choice-in-If.choice.var
    c.in_ok-first-in-If.first c.in_ok-second-in-If.second c.branch-alloc-in-If.new.walk.begun
    (stages_view c.args.walk.now.stages.items) (stages_view c.branch-alloc.new.walk.stages.items) (stages_view c.branch-alloc-in-If.new.walk.stages.items)
    (next_view c.in_ok-choice-in-If.choice.before) (place_of c.enter.new.walk) (place_of c.branch-alloc.new.walk)
    c.in_ok-choice-in-If.ensures.stage c.in_ok-choice-in-If.ensures.begun em c.in_ok-choice-in-If.ensures.var
    c.in_ok-choice-in-If.ensures.before c.in_ok-choice-in-If.ensures.place second_at
    (omega (arith, c.requires.whole.begun, length_stages c.args.walk.now.stages.items)) c.requires.whole.stage
    (c.in_ok-first-in-If.ensures.graph ∙ ap (λ xs. closed_stages k false (stages_view xs)
    (spec.graph ms (spec.side k true ∷ branches_view c.args.round.now.branches) (Goes c.in_ok-choice-in-If.choice.merge) when (place_of c.enter.new.walk))) c.in_ok-choice-in-If.ensures.stages)
    c.in_ok-second-in-If.ensures.graph c.in_ok-first-in-If.ensures.entry c.in_ok-second-in-If.ensures.entry
    (omega (arith, c.in_ok-second-in-If.ensures.count, c.in_ok-first-in-If.ensures.count, begun))
    c.args.forked rest
    ∙ ap (λ s. closed_stages c.args.walk.now.stage c.args.forked (stages_view c.args.walk.now.stages.items)
    (spec.graph_before ms (branches_view c.args.round.now.branches) s at' rest)) (sym is)

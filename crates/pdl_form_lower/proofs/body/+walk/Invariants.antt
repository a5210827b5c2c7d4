use Rattle.std.proofs.Common.{◌≡◌, ◌+◌, ◌++◌, map, drop, false}
use Rattle.pdl_semantics.specs.Flatten as spec
use Rattle.pdl_syntax_tree.specs.View as tree
use Rattle.pdl_form.specs.View.{guards_view, stmts_view, stages_view, next_view, branches_view}
use Rattle.pdl_form_lower.specs.Lowerable.{AreLowerableStmts}
use Rattle.pdl_form_lower.specs.Walking.{place_of, IsWhole, closed_stages}
use Rattle.pdl_form_lower.proofs.body.+walk.Given as goal

-- what is made so far and what the rest gives are the whole
abbrev pub invariant-statements-loop-s : goal.invariant-statements-loop-s
invariant-statements-loop-s l =
    let ms = map tree.mem_view l.mems in
    let rest = tree.stmts_view (drop l.s-index l.ss) in
    let gs = guards_view l.round.guards in
    let here = place_of l.walk in
    let begin = place_of l.fn.walk in
    record {
      place : spec.past_all ms rest here ≡ spec.past_all ms (tree.stmts_view l.ss) begin;
      stmts : stmts_view l.walk.stmts.items ++ spec.flat_stmts ms gs rest here ≡ stmts_view l.fn.walk.stmts.items ++ spec.flat_stmts ms gs
          (tree.stmts_view l.ss) begin;
      graph : closed_stages l.walk.stage l.forked (stages_view l.walk.stages.items)
          (spec.graph ms (branches_view l.round.branches) (next_view l.round.exit) rest here)
          ≡ closed_stages l.fn.walk.stage false (stages_view l.fn.walk.stages.items)
          (spec.graph ms (branches_view l.round.branches) (next_view l.round.exit) (tree.stmts_view l.ss) begin);
      whole : IsWhole l.walk;
      count : l.walk.begun + spec.separators rest ≡ l.fn.walk.begun + spec.separators (tree.stmts_view l.ss);
      table : l.walk.vars.table ≡ l.fn.walk.vars.table;
      lowerable : AreLowerableStmts l.walk.vars.table rest;
    }

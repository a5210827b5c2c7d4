-- The place at which an action stands.
use Rattle.std.specs.Prelude.{List, map, Option, None}
use Rattle.pdl_semantics.specs.Tree as tree
use Rattle.pdl_semantics.specs.Tree.{Span, Location}
use Rattle.pdl_rules.specs.Places.{Branch, Place, Parameter, Memory, Statement, End, StartClause, at_statement}
use Rattle.pdl_rules.specs.Parts.{location_of}
use Rattle.pdl_syntax_tree.specs.View.{span_view, param_view, mem_view, start_view, ident_view, location_view, kind_view, expr_view, exprs_view, stmts_view}
use Rattle.pdl_paths.specs.Guards.{branch_view}
use Rattle.pdl_paths.specs.declared.place.Place as r_place
use Rattle.pdl_paths.specs.declared.action.Action.{Action}
use Rattle.pdl_paths.specs.declared.action.Action.TheVariants as actions

-- the place that an action makes, with its span and in these branches
abbrev pub place_at : Span → List Branch → Action → Place
place_at s bs (actions.Parameter a) = Parameter (param_view a.now)
place_at s bs (actions.Memory m) = Memory (mem_view m.now)
place_at s bs actions.Separator = Statement (tree.Separator s) bs
place_at s bs (actions.CombRead x at) = Statement (tree.CombRead s (ident_view x.now) (location_view at.now)) bs
place_at s bs (actions.Bind x e) = Statement (tree.Bind s (ident_view x.now) (expr_view e.now)) bs
place_at s bs (actions.SpecCall g args) = Statement (tree.SpecCall s (ident_view g.now) (exprs_view args.now)) bs
place_at s bs (actions.DelayedRead x at) = Statement (tree.DelayedRead s (ident_view x.now) (location_view at.now)) bs
place_at s bs (actions.Write at e) = Statement (tree.Write s (location_view at.now) (expr_view e.now)) bs
place_at s bs (actions.Reserve at k) = Statement (tree.Reserve s (location_view at.now) (kind_view k)) bs
place_at s bs (actions.Block at) = Statement (tree.Block s (location_view at.now)) bs
place_at s bs (actions.Release at) = Statement (tree.Release s (location_view at.now)) bs
place_at s bs (actions.If c a b) = Statement (tree.If s (expr_view c.now) (stmts_view a.now) (stmts_view b.now)) bs
place_at s bs (actions.Call args) = Statement (tree.Call s (exprs_view args.now)) bs
place_at s bs (actions.Verify g args) = Statement (tree.Verify s (ident_view g.now) (exprs_view args.now)) bs
place_at s bs (actions.Update g args) = Statement (tree.Update s (ident_view g.now) (exprs_view args.now)) bs
place_at s bs actions.SpecCheck = Statement (tree.SpecCheck s) bs
place_at s bs actions.SpecBarrier = Statement (tree.SpecBarrier s) bs
place_at s bs actions.End = End s
place_at s bs (actions.StartClause x) = StartClause (start_view x.now)

-- the location that stands at a place
abbrev pub location_at : Place → Option Location
location_at x = at_statement None (λ s bs. location_of s) x

-- the place of the rules that a place of the program stands for
abbrev pub place_view : r_place.Place → Place
place_view x = place_at (span_view x.span) (map branch_view x.branches) x.action

use Rattle.std.proofs.Common.{◌≡◌, ◌^◌, ap, ◌∙◌, sym, subst, map, length, arith}
use Rattle.std.proofs.lemmas.List.{length-map}
use Rattle.pdl_paths.specs.Actions.{place_view}
use Rattle.pdl_paths.specs.Masks.{are_distinct}
use Rattle.pdl_paths.proofs.DistinctGuards.{guards_distinct}
use Rattle.pdl_rules_walk.proofs.walk.broken_lines.Goals as goal

pub walk-requires-clause-own : goal.walk-requires-clause-own
walk-requires-clause-own g c = ap are_distinct c.requires.own ∙ guards_distinct (map place_view c.args.places.now)

pub loop-bits-init : goal.loop-bits-init
loop-bits-init g c = c.unbroken-lowest.ensures c.args.guards.now (map place_view c.args.places.now) (sym (length-map c.args.places.now place_view))

pub returns : goal.returns
returns g c =
    let all : c.loop-bits.bits ≡ 2 ^ length c.args.guards.now =
    omega (arith, c.loop-bits-test.false, c.loop-bits.auto.bits-end, c.path_count-bits-end.ensures) in
    c.lines.ensures c.args.guards.now
    (subst (λ n. g.R.PathRules.found c.args.rules.now c.args.guards.now (map place_view c.args.places.now) n c.loop-bits.lowest) all c.loop-bits.invariant)

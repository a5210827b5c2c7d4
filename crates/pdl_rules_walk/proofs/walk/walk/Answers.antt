use Rattle.std.proofs.Common.{◌≡◌, ◌∙◌, sym, subst, map, length, arith}
use Rattle.std.proofs.lemmas.List.{length-map}
use Rattle.pdl_paths.specs.Actions.{place_view}
use Rattle.pdl_rules_walk.proofs.walk.walk.Goals as goal

pub loop-k-init : goal.loop-k-init
loop-k-init g c = c.in_ok-courses.ensures c.args.guards.now (map place_view c.args.places.now) c.requires.suits c.requires.found

pub returns : goal.returns
returns g c =
    let end : c.loop-k.k ≡ length c.args.places.now = omega (arith, c.loop-k-test.false, c.loop-k.auto.k-end) in
    let all : c.loop-k.k ≡ length (map place_view c.args.places.now) = end ∙ sym (length-map c.args.places.now place_view) in
    c.end.ensures c.args.guards.now (map place_view c.args.places.now) c.args.path.bits
    (subst
    (λ n. g.R.PathRules.stand c.args.rules.now c.args.guards.now
    (map place_view c.args.places.now) c.args.path.bits n c.loop-k.courses) all c.loop-k.invariant)

use Rattle.std.proofs.Common.{◌≡◌, sym, ◌∙◌, subst, true, false, map}
use Rattle.pdl_rules.specs.Places.{on_path}
use Rattle.pdl_paths.specs.Actions.{place_view}
use Rattle.pdl_paths.specs.Masks.{IsMasked, path_of}
use Rattle.pdl_rules_on_paths.proofs.Nth.{nth}
use Rattle.pdl_rules_walk.proofs.walk.pass.Goals as goal

pub returns-in_ok-pass : goal.returns-in_ok-pass
returns-in_ok-pass g c =
    let ps = c.args.places.now in
    let k = c.args.k in
    let p = c.index-places-k.result in
    let gs = c.args.guards.now in
    let bits = c.args.path.bits in
    let got = nth place_view ps k p c.requires.here c.index-places-k.is in
    let masked = subst (λ q. IsMasked gs q) (sym c.index-places-k.is) (c.requires.masks k p c.requires.here) in
    let is_on : on_path (path_of gs bits) (place_view p) ≡ true =
    sym (c.is_on.ensures gs masked c.requires.own c.requires.few c.requires.path) ∙ c.if-is_on.true in
    c.in_ok-pass.ensures gs (map place_view ps) bits c.requires.suits got is_on c.requires.stand

pub returns-else-is_on : goal.returns-else-is_on
returns-else-is_on g c =
    let ps = c.args.places.now in
    let k = c.args.k in
    let p = c.index-places-k.result in
    let gs = c.args.guards.now in
    let bits = c.args.path.bits in
    let got = nth place_view ps k p c.requires.here c.index-places-k.is in
    let masked = subst (λ q. IsMasked gs q) (sym c.index-places-k.is) (c.requires.masks k p c.requires.here) in
    let not_on : on_path (path_of gs bits) (place_view p) ≡ false =
    sym (c.is_on.ensures gs masked c.requires.own c.requires.few c.requires.path) ∙ c.if-is_on.false in
    g.met.R.PathRules.skip c.args.rules.now gs (map place_view ps) bits k (place_view p) c.args.courses.now got not_on c.requires.stand

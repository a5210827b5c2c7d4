use Rattle.std.proofs.Common.{◌+◌, ◌<◌, ◌≤◌, sym, ◌∙◌, subst, true, false, length, take, drop, suc, arith}
use Rattle.pdl_paths.specs.Actions.{place_view}
use Rattle.pdl_paths.specs.Masks.{path_of}
use Rattle.pdl_rules_walk.specs.Course.{by_bits}
use Rattle.pdl_rules_walk.specs.Aside.{one_more}
use Rattle.pdl_rules_on_paths.proofs.Nth.{split, take_next, taken_length}
use Rattle.pdl_rules_walk.proofs.Steps.{past, broken, on}
use Rattle.pdl_rules_walk.proofs.alone.AlonePathRules.pass.Goals as goal

pub returns-then-k-courses : goal.returns-then-k-courses
returns-then-k-courses g c gs xs bits suits got is_on h =
    let rule = c.args.self.now.0 in
    let k = c.args.k in
    let path = path_of gs bits in
    let state = c.args.courses.now.state in
    past (by_bits (g.R.PathRule.breaks_on rule) gs xs) (g.R.PathRule.stands rule path (take k xs) state)
    (g.R.PathRule.stands rule path (take (k + 1) xs) state) bits k (length xs) _
    (omega (arith, c.if-k-courses.true)) h

pub returns-then-breaks : goal.returns-then-breaks
returns-then-breaks g c gs xs bits suits got is_on h =
    let rule = c.args.self.now.0 in
    let k = c.args.k in
    let x = place_view c.args.place.now in
    let path = path_of gs bits in
    let state = c.args.courses.now.state in
    let low : k < c.args.courses.now.lowest = c.if-k-courses.false in
    let fits = subst (λ ys. g.R.PathRule.suits rule gs ys) (split xs k x got) suits in
    let within : k ≤ c.args.courses.now.lowest = omega (arith, c.if-k-courses.false) in
    let stands = h.state within in
    let breaks = sym c.if-breaks.true ∙ c.breaks.ensures gs path (take k xs) (drop (suc k) xs) fits (taken_length xs k x got) is_on stands in
    broken (by_bits (g.R.PathRule.breaks_on rule) gs xs) (g.R.PathRule.stands rule path (take k xs) state)
    (g.R.PathRule.stands rule path (take (k + 1) xs) state) bits k (length xs) _
    low (on (g.R.PathRule.breaks_on rule) path xs k x true got is_on breaks) h

pub returns : goal.returns
returns g c gs xs bits suits got is_on h =
    let rule = c.args.self.now.0 in
    let k = c.args.k in
    let x = place_view c.args.place.now in
    let path = path_of gs bits in
    let state = c.args.courses.now.state in
    let fits = subst (λ ys. g.R.PathRule.suits rule gs ys) (split xs k x got) suits in
    let within : k ≤ c.args.courses.now.lowest = omega (arith, c.if-k-courses.false) in
    let stands = h.state within in
    let keeps = sym c.if-breaks.false ∙ c.breaks.ensures gs path (take k xs) (drop (suc k) xs) fits (taken_length xs k x got) is_on stands in
    one_more (by_bits (g.R.PathRule.breaks_on rule) gs xs) (g.R.PathRule.stands rule path (take k xs) state)
    (g.R.PathRule.stands rule path (take (k + 1) xs) c.step.new.state)
    bits k (length xs) _ h
    (on (g.R.PathRule.breaks_on rule) path xs k x false got is_on keeps)
    (λ l stood. subst (λ b. g.R.PathRule.stands rule path b c.step.new.state) (take_next xs k x got)
    (c.in_ok-step.ensures gs path (take k xs) (drop (suc k) xs) fits (taken_length xs k x got) is_on stood))

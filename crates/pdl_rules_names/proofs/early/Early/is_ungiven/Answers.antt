use Rattle.std.proofs.Common.{◌≡◌, ◌&&◌, Bool, true, false, not, ℕ, refl, ap, sym, ◌∙◌, subst, map, take, get_or, arith}
use Rattle.pdl_syntax_tree.specs.View.{pipe_view}
use Rattle.pdl_rules.specs.Places.{places, guards, on_path}
use Rattle.pdl_paths.specs.Actions.{place_view}
use Rattle.pdl_paths.specs.Masks.{path_of}
use Rattle.pdl_rules_names.specs.Ready.{given_on}
use Rattle.pdl_rules_names.proofs.MissingDefinitions.{ungiven, late, missing_on, missing_nowhere, inside, same_item}
use Rattle.pdl_rules_names.proofs.early.Early.is_ungiven.Goals as goal
use Rattle.pdl_rules_on_paths.proofs.Nth.{nth}
use Rattle.pdl_rules_on_paths.proofs.Steps.{one_place}

pub returns-then-d-self : goal.returns-then-d-self
returns-then-d-self c u x first got =
    late (pipe_view c.args.self.now.pipe.now) (map place_view c.args.self.now.places.now) c.args.self.now.k c.args.d u x first c.if-d-self.true

pub returns-then-is_inside : goal.returns-then-is_inside
returns-then-is_inside c u x first got =
    let p = pipe_view c.args.self.now.pipe.now in
    let ps = c.args.self.now.places.now in
    let xs = map place_view ps in
    let k = c.args.self.now.k in
    let d = c.args.d in
    let a = get_or ps k c.index-self-self.result in
    let b = get_or ps d c.index-self-d.result in
    let here = nth place_view ps k a c.requires.ready.here (ap (get_or ps k) c.index-self-self.is) in
    let there = nth place_view ps d b c.requires.there (ap (get_or ps d) c.index-self-d.is) in
    subst (λ z. false ≡ ungiven p xs k u z) (same_item xs k (place_view a) x here got)
    (missing_nowhere p xs k d u (place_view a) (place_view b)
    (record { all = c.requires.ready.suits.names.all; there = there; first = first; once = c.requires.ready.suits.once }) c.if-d-self.false
    (λ n l. inside (path_of (guards (places p)) n) (take k xs) d (place_view a) (place_view b)
    (sym c.if-not-is_delayed.ensures) (c.if-is_inside.ensures (path_of (guards (places p)) n) refl)))

pub returns-then-is_missing_on : goal.returns-then-is_missing_on
returns-then-is_missing_on c u x first got =
    let p = pipe_view c.args.self.now.pipe.now in
    let ps = c.args.self.now.places.now in
    let xs = map place_view ps in
    let k = c.args.self.now.k in
    let d = c.args.d in
    let a = get_or ps k c.index-self-self.result in
    let b = get_or ps d c.index-self-d.result in
    let here = nth place_view ps k a c.requires.ready.here (ap (get_or ps k) c.index-self-self.is) in
    let there = nth place_view ps d b c.requires.there (ap (get_or ps d) c.index-self-d.is) in
    subst (λ z. true ≡ ungiven p xs k u z) (same_item xs k (place_view a) x here got)
    (missing_on p xs k d u (place_view a) (place_view b) c.loop-b.b
    (record { all = c.requires.ready.suits.names.all; there = there; first = first; once = c.requires.ready.suits.once }) c.if-d-self.false
    (sym c.is_missing_on.ensures ∙ c.if-is_missing_on.true))

pub is_missing_on-requires-clause-path : goal.is_missing_on-requires-clause-path
is_missing_on-requires-clause-path c = omega (arith, c.loop-b-test.true, c.requires.ready.last.count)

pub is_missing_on-requires-clause-masked : goal.is_missing_on-requires-clause-masked
is_missing_on-requires-clause-masked c = c.requires.ready.suits.masks c.args.self.now.k _ c.requires.ready.here

pub is_missing_on-requires-clause-defined : goal.is_missing_on-requires-clause-defined
is_missing_on-requires-clause-defined c = c.requires.ready.suits.masks c.args.d _ c.requires.there

pub loop-b-init : goal.loop-b-init
loop-b-init c = λ b l. absurd (omega (arith, l))

pub loop-b-preserved : goal.loop-b-preserved
loop-b-preserved c =
    let gs = guards (places (pipe_view c.args.self.now.pipe.now)) in
    let ps = c.args.self.now.places.now in
    let a = get_or ps c.args.self.now.k c.index-self-self.result in
    let b = get_or ps c.args.d c.index-self-d.result in
    let test : ℕ → Bool =
    λ n. on_path (path_of gs n) (place_view a) && not (given_on (path_of gs n) (take c.args.self.now.k (map place_view ps)) c.args.d (place_view b)) in
    one_place test c.loop-b.b c.loop-b.invariant (sym {b = test c.loop-b.b} c.is_missing_on.ensures ∙ c.if-is_missing_on.false)

pub returns : goal.returns
returns c u x first got =
    let p = pipe_view c.args.self.now.pipe.now in
    let ps = c.args.self.now.places.now in
    let xs = map place_view ps in
    let k = c.args.self.now.k in
    let d = c.args.d in
    let a = get_or ps k c.index-self-self.result in
    let b = get_or ps d c.index-self-d.result in
    let here = nth place_view ps k a c.requires.ready.here (ap (get_or ps k) c.index-self-self.is) in
    let there = nth place_view ps d b c.requires.there (ap (get_or ps d) c.index-self-d.is) in
    subst (λ z. false ≡ ungiven p xs k u z) (same_item xs k (place_view a) x here got)
    (missing_nowhere p xs k d u (place_view a) (place_view b)
    (record { all = c.requires.ready.suits.names.all; there = there; first = first; once = c.requires.ready.suits.once }) c.if-d-self.false
    (λ n l. c.loop-b.invariant n (omega (arith, l, c.loop-b-test.false, c.requires.ready.last.count))))

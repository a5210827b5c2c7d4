use Rattle.std.proofs.Common.{ap, sym, ◌∙◌, length, map, take, ◌<◌, ◌^◌, arith}
use Rattle.pdl_syntax_tree.specs.View.{pipe_view}
use Rattle.pdl_rules.specs.Places.{places, guards, on_path}
use Rattle.pdl_paths.specs.Actions.{place_view}
use Rattle.pdl_paths.specs.Masks.{path_of}
use Rattle.pdl_paths.proofs.DistinctGuards.{guards_distinct}
use Rattle.pdl_rules_names.proofs.GivenNames.{given_off, given_at_once, given_later}
use Rattle.pdl_rules_names.proofs.early.Early.is_given_on.Goals as goal

pub returns-then-not-is_on : goal.returns-then-not-is_on
returns-then-not-is_on c =
    let xs = places (pipe_view c.args.self.now.pipe.now) in
    let gs = guards xs in
    let y = place_view c.args.definition.now in
    let below : c.args.path.bits < 2 ^ length gs = omega (arith, c.requires.bits, c.requires.path) in
    let is_on =
    c.is_on.ensures gs c.requires.defined (guards_distinct xs) c.requires.ready.suits.few below ∙ ap (λ n. on_path (path_of gs n) y) c.requires.bits in
    given_off (path_of gs c.args.b) (take c.args.self.now.k (map place_view c.args.self.now.places.now)) c.args.d y (sym is_on ∙ c.if-not-is_on.true)

pub returns-then-not-is_delayed : goal.returns-then-not-is_delayed
returns-then-not-is_delayed c =
    let xs = places (pipe_view c.args.self.now.pipe.now) in
    let gs = guards xs in
    let y = place_view c.args.definition.now in
    let below : c.args.path.bits < 2 ^ length gs = omega (arith, c.requires.bits, c.requires.path) in
    let is_on =
    c.is_on.ensures gs c.requires.defined (guards_distinct xs) c.requires.ready.suits.few below ∙ ap (λ n. on_path (path_of gs n) y) c.requires.bits in
    given_at_once (path_of gs c.args.b) (take c.args.self.now.k (map place_view c.args.self.now.places.now)) c.args.d y (sym is_on ∙ c.if-not-is_on.false)
    (sym c.is_delayed.ensures ∙ c.if-not-is_delayed.true)

pub returns : goal.returns
returns c =
    let xs = places (pipe_view c.args.self.now.pipe.now) in
    let gs = guards xs in
    let y = place_view c.args.definition.now in
    let below : c.args.path.bits < 2 ^ length gs = omega (arith, c.requires.bits, c.requires.path) in
    let is_on =
    c.is_on.ensures gs c.requires.defined (guards_distinct xs) c.requires.ready.suits.few below ∙ ap (λ n. on_path (path_of gs n) y) c.requires.bits in
    given_later (path_of gs c.args.b) (take c.args.self.now.k (map place_view c.args.self.now.places.now)) c.args.d y _ (sym is_on ∙ c.if-not-is_on.false)
    (sym c.is_delayed.ensures ∙ c.if-not-is_delayed.false) (c.requires.ready.last.each c.args.b c.requires.path c.args.d)

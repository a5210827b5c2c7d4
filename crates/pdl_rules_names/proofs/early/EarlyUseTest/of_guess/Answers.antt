use Rattle.std.proofs.Common.{sym, ◌∙◌, subst, map, ◌<◌}
use Rattle.std.proofs.lemmas.List.{length-map}
use Rattle.pdl_syntax_tree.specs.View.{pipe_view}
use Rattle.pdl_rules.specs.Names.{OfGuess, defines_use}
use Rattle.pdl_paths.specs.Actions.{place_view}
use Rattle.pdl_rules_on_texts.proofs.Nth.{kth}
use Rattle.pdl_rules_names.proofs.Firsts.{first_below}
use Rattle.pdl_rules_names.proofs.Needs.{guess_nowhere, guess_somewhere}
use Rattle.pdl_rules_names.proofs.early.EarlyUseTest.of_guess.Goals as goal

pub returns-in-None : goal.returns-in-None
returns-in-None c =
    let h = kth place_view c.args.self.now.places.now c.args.self.now.k c.requires.here in
    guess_nowhere (pipe_view c.args.self.now.pipe.now) (map place_view c.args.self.now.places.now) c.args.self.now.k h.item c.args.name.now h.is
    (sym (c.requires.suits.names.first.guesses c.args.name.now) ∙ sym c.in-None.ensures)

pub is_ungiven-requires-clause-there : goal.is_ungiven-requires-clause-there
is_ungiven-requires-clause-there c =
    let xs = map place_view c.args.self.now.places.now in
    subst (λ n. c.in-Some.d < n) (length-map c.args.self.now.places.now place_view)
    (first_below (defines_use (OfGuess c.args.name.now)) xs c.in-Some.d (sym (c.requires.suits.names.first.guesses c.args.name.now) ∙ sym c.in-Some.ensures))

pub returns-in-Some : goal.returns-in-Some
returns-in-Some c =
    let h = kth place_view c.args.self.now.places.now c.args.self.now.k c.requires.here in
    let first = sym (c.requires.suits.names.first.guesses c.args.name.now) ∙ sym c.in-Some.ensures in
    c.is_ungiven.ensures (OfGuess c.args.name.now) h.item first h.is
    ∙ guess_somewhere (pipe_view c.args.self.now.pipe.now) (map place_view c.args.self.now.places.now) c.args.self.now.k h.item c.args.name.now h.is

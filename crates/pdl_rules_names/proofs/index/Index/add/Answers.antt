use Rattle.std.proofs.Common.{map}
use Rattle.pdl_rules.specs.Names.{variable_at, memory_at, guess_at, name_at}
use Rattle.pdl_paths.specs.Actions.{place_view}
use Rattle.pdl_rules_names.proofs.Firsts.{added_at}
use Rattle.pdl_rules_names.proofs.index.Index.add.Goals as goal
use Rattle.pdl_rules_on_paths.proofs.Nth.{nth}

pub returns : goal.returns
returns c =
    let xs = map place_view c.args.places.now in
    let y = place_view c.index-places-k.result in
    let got = nth place_view c.args.places.now c.args.k c.index-places-k.result c.requires.here c.index-places-k.is in
    record {
      variables = added_at variable_at xs c.args.k y _ _ _ got c.variable_at.ensures c.in_ok-add.ensures c.requires.stands.variables;
      memories = added_at memory_at xs c.args.k y _ _ _ got c.memory_at.ensures c.in_ok-add-2.ensures c.requires.stands.memories;
      guesses = added_at guess_at xs c.args.k y _ _ _ got c.guess_at.ensures c.in_ok-add-3.ensures c.requires.stands.guesses;
      names = added_at name_at xs c.args.k y _ _ _ got c.name_at.ensures c.in_ok-add-4.ensures c.requires.stands.names;
    }

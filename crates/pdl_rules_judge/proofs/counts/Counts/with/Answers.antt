use Rattle.std.proofs.Common.{map}
use Rattle.pdl_rules.specs.Limits.{is_statement, is_separator, is_memory, is_binding}
use Rattle.pdl_paths.specs.Actions.{place_view}
use Rattle.pdl_rules_judge.proofs.CountSteps.{count_next, count_below}
use Rattle.pdl_rules_judge.proofs.counts.Counts.with.Goals as goal
use Rattle.pdl_rules_on_paths.proofs.Nth.{nth}

pub one_more-requires : goal.one_more-requires
one_more-requires c =
    count_below is_statement (map place_view c.args.places.now) c.args.k _ _ (place_view c.index-places-k.result)
    (nth place_view c.args.places.now c.args.k c.index-places-k.result c.requires.here c.index-places-k.is) c.requires.here c.requires.counts.statements

pub one_more-requires-2 : goal.one_more-requires-2
one_more-requires-2 c =
    count_below is_separator (map place_view c.args.places.now) c.args.k _ _ (place_view c.index-places-k.result)
    (nth place_view c.args.places.now c.args.k c.index-places-k.result c.requires.here c.index-places-k.is) c.requires.here c.requires.counts.separators

pub one_more-requires-3 : goal.one_more-requires-3
one_more-requires-3 c =
    count_below is_memory (map place_view c.args.places.now) c.args.k _ _ (place_view c.index-places-k.result)
    (nth place_view c.args.places.now c.args.k c.index-places-k.result c.requires.here c.index-places-k.is) c.requires.here c.requires.counts.memories

pub one_more-requires-4 : goal.one_more-requires-4
one_more-requires-4 c =
    count_below is_binding (map place_view c.args.places.now) c.args.k _ _ (place_view c.index-places-k.result)
    (nth place_view c.args.places.now c.args.k c.index-places-k.result c.requires.here c.index-places-k.is) c.requires.here c.requires.counts.bindings

pub returns : goal.returns
returns c =
    let xs = map place_view c.args.places.now in
    let y = place_view c.index-places-k.result in
    let got = nth place_view c.args.places.now c.args.k c.index-places-k.result c.requires.here c.index-places-k.is in
    record {
      statements = count_next is_statement xs c.args.k y _ _ _ got c.is_statement.ensures c.one_more.ensures c.requires.counts.statements;
      separators = count_next is_separator xs c.args.k y _ _ _ got c.is_separator.ensures c.one_more-2.ensures c.requires.counts.separators;
      memories = count_next is_memory xs c.args.k y _ _ _ got c.is_memory.ensures c.one_more-3.ensures c.requires.counts.memories;
      bindings = count_next is_binding xs c.args.k y _ _ _ got c.is_binding.ensures c.one_more-4.ensures c.requires.counts.bindings;
    }

use Rattle.std.proofs.Common.{◌∙◌, sym, ap, ◌≤◌, map, length, Some, option_map, arith}
use Rattle.std.proofs.lemmas.List.{length-map}
use Rattle.std.proofs.lemmas.Option.{slice_get_past}
use Rattle.pdl_rules.specs.Places.{line_of}
use Rattle.pdl_paths.specs.Actions.{place_view}
use Rattle.pdl_rules_on_paths.proofs.Lines.{lowest_line}
use Rattle.pdl_rules_stages.specs.Astray.{is_astray}
use Rattle.pdl_rules_stages.proofs.astray.astray_line.Goals as goal
use Rattle.pdl_rules_on_paths.proofs.Nth.{nth}

pub returns-then-is_astray : goal.returns-then-is_astray
returns-then-is_astray c =
    let xs = map place_view c.args.places.now in
    let k = c.loop-k.k in
    let got = nth place_view c.args.places.now k c.index-places-k.result (omega arith) c.index-places-k.is in
    let within : k ≤ length xs = omega (arith, length-map c.args.places.now place_view) in
    ap Some c.line.ensures
    ∙ sym (ap (option_map line_of) got)
    ∙ lowest_line (is_astray c.args.kinds) xs k
    (record { within = within; found = λ l. sym c.is_astray.ensures ∙ c.if-is_astray.true; others = c.loop-k.invariant })

pub returns : goal.returns
returns c =
    let xs = map place_view c.args.places.now in
    let k = c.loop-k.k in
    let past : length xs ≤ k = omega (arith, length-map c.args.places.now place_view) in
    let within : k ≤ length xs = omega (arith, length-map c.args.places.now place_view) in
    sym (ap (option_map line_of) (slice_get_past xs k past))
    ∙ lowest_line (is_astray c.args.kinds) xs k (record { within = within; found = λ l. absurd (omega arith); others = c.loop-k.invariant })

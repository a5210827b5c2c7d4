use Rattle.std.proofs.Common.{◌≡◌, ◌∙◌, ap, List, map, arith}
use Rattle.pdl_machine_run.specs.declared.place.LocationNumbers as r_place
use Rattle.pdl_machine_run.specs.View.{place_view}
use Rattle.pdl_machine_run.specs.Places.{place_index}
use Rattle.pdl_machine_run.proofs.Places.{gone, kept}
use Rattle.pdl_machine_run.proofs.place.let_go.Goals as goal

pub returns-then-i-len-clause-held : goal.returns-then-i-len-clause-held
returns-then-i-len-clause-held c =
    let xs = c.args.held.now.items in
    let same : c.index_of-i.result ≡ place_index (map place_view xs) c.args.mem c.args.var =
    c.index_of-i.ensures ∙ ap (λ (ys : List r_place.LocationNumbers). place_index (map place_view ys) c.args.mem c.args.var) c.as_slice.ensures.value in
    let long = c.args.held.now.ok.0 in
    ap (map place_view) c.remove.ensures.by_index.2 ∙ gone xs c.args.mem c.args.var c.index_of-i.result same (omega arith)

pub returns-else-i-len-clause-held : goal.returns-else-i-len-clause-held
returns-else-i-len-clause-held c =
    let xs = c.args.held.now.items in
    let same : c.index_of-i.result ≡ place_index (map place_view xs) c.args.mem c.args.var =
    c.index_of-i.ensures ∙ ap (λ (ys : List r_place.LocationNumbers). place_index (map place_view ys) c.args.mem c.args.var) c.as_slice.ensures.value in
    let long = c.args.held.now.ok.0 in
    kept xs c.args.mem c.args.var c.index_of-i.result same (omega arith)

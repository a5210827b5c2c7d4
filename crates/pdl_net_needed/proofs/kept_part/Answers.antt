use Rattle.pdl_net_needed.proofs.PrunedFacts.{all_pruned, all_well, all_show, all_framed, all_need, all_distinct}
use Rattle.pdl_net_needed.proofs.kept_part.Goals as goal

pub returns-clause-well : goal.returns-clause-well
returns-clause-well c =
    let n = c.args.net.now in
    all_well n c.pruned_netlist.result c.requires.well (all_pruned n c.args.kept.now c.pruned_netlist.result c.requires.kept c.pruned_netlist.ensures)

pub returns-clause-shows : goal.returns-clause-shows
returns-clause-shows c =
    let n = c.args.net.now in
    all_show n c.pruned_netlist.result c.requires.well (all_pruned n c.args.kept.now c.pruned_netlist.result c.requires.kept c.pruned_netlist.ensures)

pub returns-clause-frame : goal.returns-clause-frame
returns-clause-frame c =
    let n = c.args.net.now in
    all_framed n c.pruned_netlist.result (all_pruned n c.args.kept.now c.pruned_netlist.result c.requires.kept c.pruned_netlist.ensures)

pub returns-clause-needed : goal.returns-clause-needed
returns-clause-needed c =
    let n = c.args.net.now in
    all_need n c.pruned_netlist.result (all_pruned n c.args.kept.now c.pruned_netlist.result c.requires.kept c.pruned_netlist.ensures)

pub returns-clause-distinct : goal.returns-clause-distinct
returns-clause-distinct c =
    let n = c.args.net.now in
    all_distinct n c.pruned_netlist.result (all_pruned n c.args.kept.now c.pruned_netlist.result c.requires.kept c.pruned_netlist.ensures)

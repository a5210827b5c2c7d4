use Rattle.std.proofs.Common.{◌≡◌, ◌++◌, ◌+◌, List, drop, sym, subst}
use Rattle.pdl_word.proofs.Each.{each_get}
use Rattle.pdl_net_needed.specs.Marks.{IsWithin}
use Rattle.pdl_pipe.specs.declared.names.NamedNet.{NamedNet}
use Rattle.pdl_pipe.specs.Names.{names_kept}
use Rattle.pdl_pipe.proofs.KeptNames.{names_step}
use Rattle.pdl_pipe.proofs.netlist.kept_names.Goals as goal

pub keep_name-requires : goal.keep_name-requires
keep_name-requires c =
    each_get (λ (y : NamedNet). IsWithin c.args.kept.now y.net) c.args.names.now c.loop-x.x-index _ c.loop-x-test.true c.requires

pub loop-x-preserved : goal.loop-x-preserved
loop-x-preserved c =
    let k = c.args.kept.now in
    let all = c.args.names.now in
    let i = c.loop-x.x-index in
    subst (λ (ys : List NamedNet). ys ++ names_kept k (drop (i + 1) all) ≡ names_kept k all) (sym c.in_ok-keep_name.ensures)
    (names_step k all c.loop-x.found.items (names_kept k all) i _ c.loop-x-test.true c.loop-x.invariant)

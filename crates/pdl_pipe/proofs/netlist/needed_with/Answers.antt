use Rattle.std.proofs.Common.{List, sym, ap, ◌∙◌, subst}
use Rattle.pdl_word.specs.Each.{Each}
use Rattle.pdl_syntax_tree.specs.View.{pipe_view}
use Rattle.pdl_net_needed.specs.Marks.{IsWithin}
use Rattle.pdl_pipe_walk.specs.Locked.{members}
use Rattle.pdl_pipe.specs.declared.names.NamedNet.{NamedNet}
use Rattle.pdl_pipe.specs.Names.{names_kept}
use Rattle.pdl_pipe.proofs.NeededPart.{needed_follows}
use Rattle.pdl_pipe.proofs.NeededFolded.{needed_folded}
use Rattle.pdl_pipe.proofs.KeptNames.{are_names, names_within}
use Rattle.pdl_pipe.proofs.KeptPlaces.{places_of}
use Rattle.pdl_pipe.proofs.netlist.needed_with.Goals as goal

pub needed-requires : goal.needed-requires
needed-requires g c = c.in_ok-whole.ensures.follows.well_formed

pub kept_part-requires-clause-well : goal.kept_part-requires-clause-well
kept_part-requires-clause-well g c = c.in_ok-whole.ensures.follows.well_formed

pub kept_names-requires : goal.kept_names-requires
kept_names-requires g c =
    subst (λ (xs : List NamedNet). Each (λ x. IsWithin c.in_ok-kept.kept x.net) xs) (sym c.as_slice.ensures.value)
    (names_within (pipe_view c.args.accepted.now.typed.pipe) c.in_ok-whole.whole.netlist c.in_ok-kept.kept
    c.in_ok-whole.whole.names.items c.in_ok-whole.ensures.names c.in_ok-kept.ensures)

pub returns-clause-follows : goal.returns-clause-follows
returns-clause-follows g c =
    let e = c.in_ok-netlist.ensures in
    needed_follows (pipe_view c.args.accepted.now.typed.pipe) c.in_ok-whole.whole.netlist c.in_ok-netlist.netlist
    c.in_ok-whole.ensures.follows e.well e.shows e.frame

pub returns-clause-locks : goal.returns-clause-locks
returns-clause-locks g c = record {
  whole = c.in_ok-whole.whole.netlist;
  locks = c.in_ok-whole.ensures.locks;
  part = record { kept = c.in_ok-kept.kept; needed = c.in_ok-kept.ensures; same = c.in_ok-netlist.ensures.same };
}

pub returns-clause-places : goal.returns-clause-places
returns-clause-places g c =
    places_of (members g.L.LockModule) (pipe_view c.args.accepted.now.typed.pipe) c.in_ok-netlist.netlist
    (record {
      whole = c.in_ok-whole.whole.netlist;
      locks = c.in_ok-whole.ensures.locks;
      part = record { kept = c.in_ok-kept.kept; needed = c.in_ok-kept.ensures; same = c.in_ok-netlist.ensures.same };
    })
    c.in_ok-whole.ensures.follows.well_formed.well

pub returns-clause-names : goal.returns-clause-names
returns-clause-names g c =
    are_names (pipe_view c.args.accepted.now.typed.pipe) c.in_ok-whole.whole.netlist c.in_ok-netlist.netlist c.in_ok-kept.kept
    c.in_ok-whole.whole.names.items c.in_ok-names.names.items c.in_ok-whole.ensures.follows.well_formed.well
    c.in_ok-whole.ensures.names c.in_ok-kept.ensures c.in_ok-netlist.ensures.same
    (c.in_ok-names.ensures ∙ ap (names_kept c.in_ok-kept.kept) c.as_slice.ensures.value)

pub returns-clause-different : goal.returns-clause-different
returns-clause-different g c = c.in_ok-netlist.ensures.distinct c.in_ok-whole.ensures.different

pub returns-clause-folded : goal.returns-clause-folded
returns-clause-folded g c =
    needed_folded c.in_ok-whole.whole.netlist c.in_ok-netlist.netlist
    (record { kept = c.in_ok-kept.kept; needed = c.in_ok-kept.ensures; same = c.in_ok-netlist.ensures.same }) c.in_ok-whole.ensures.folded

use Rattle.std.proofs.Common.{◌∙◌, List, ap, sym, subst}
use Rattle.pdl_net.specs.declared.Net.{Net}
use Rattle.pdl_net.specs.Meaning.{Means}
use Rattle.pdl_pipe_walk.specs.declared.nets.MarkNet.{MarkNet}
use Rattle.pdl_pipe_walk.specs.MarkLookups.{mark_net}
use Rattle.pdl_pipe_walk.specs.Parts.{parts_in, mark_of}
use Rattle.pdl_pipe_walk.proofs.NetGrowth.{mark_means}
use Rattle.pdl_pipe_walk.proofs.nets.WalkNets.is_marked.Goals as goal

pub returns : goal.returns
returns c =
    subst (λ (x : Net). Means c.args.b.now x (mark_of (parts_in c.args.b.now c.args.self.now).marks c.args.mark c.args.mem c.args.var))
    (sym (c.mark_net.ensures ∙ ap (λ (hs : List MarkNet). mark_net hs c.args.bits.zero c.args.mark c.args.mem c.args.var) c.as_slice.ensures.value))
    (mark_means c.args.b.now c.args.bits c.requires.bits c.args.self.now.marks.items c.args.mark c.args.mem c.args.var c.requires.there.marks)

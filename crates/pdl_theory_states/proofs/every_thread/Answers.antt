use Rattle.pdl_theory_states.proofs.EveryState.{order, chain_here, certain, requests, owners, pending, blocks, paths}
use Rattle.pdl_theory_states.proofs.every_thread.Goals as goal

pub returns : goal.returns
returns c =
    record {
      order = order;
      chain = chain_here;
      certain = certain;
      requests = requests;
      outstanding = owners;
      pending = pending;
      blocks = blocks;
      paths = paths;
    }

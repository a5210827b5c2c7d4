use Rattle.std.proofs.Common.{◌≡◌, ◌∙◌, ℕ, List, length, sym, subst, ap, ap₂}
use Rattle.std.proofs.lemmas.Result.{IfOk-weaker}
use Rattle.pdl_semantics.specs.SecondWrites.{all_twice}
use Rattle.pdl_form.specs.FormView.{form}
use Rattle.pdl_form.specs.View.{mem_names}
use Rattle.pdl_net.specs.Signal.{Signal}
use Rattle.pdl_law_parts.specs.Views.{View, Gates}
use Rattle.pdl_law_sides.specs.WholeNetlist.{whole_shown}
use Rattle.pdl_pipe_ports.specs.declared.outputs.OutNet.{OutNet}
use Rattle.pdl_law_parts.proofs.TwiceFlags.{flag_count}
use Rattle.pdl_pipe_locks.specs.Stepped.{commits_in}
use Rattle.pdl_pipe_ports.specs.ToldOutputs.{AreOf, OutsThere, asks_in, shown_by}
use Rattle.pdl_pipe_ports.specs.OutputList.{all_outs}
use Rattle.pdl_pipe_ports.proofs.OutLists.{all_there, all_show}
use Rattle.pdl_pipe_ports.proofs.outputs.all_outputs.Goals as goal
use Rattle.pdl_pipe_locks.proofs.MadeMemories.{mem_count, name_count}

pub all-requires : goal.all-requires
all-requires c =
    let count = mem_count (form c.args.pipe.now).pipe c.mems.result.now c.mems.ensures.mems in
    let p = (form c.args.pipe.now).pipe in
    record {
      twice = ap length c.requires.twice ∙ flag_count p.stmts 0 p.mems ∙ sym count;
      nets = c.requires.mems ∙ sym count;
      asks = c.requires.asks ∙ sym count;
    }

pub returns-clause-there : goal.returns-clause-there
returns-clause-there c b told =
    let f = form c.args.pipe.now in
    let ss = c.args.stages.now in
    let ns = c.args.nets.now in
    let rs = c.args.requests.now in
    let named = name_count f.names f.pipe c.mems.result.now c.mems.ensures.names c.mems.ensures.mems in
    let ts = all_twice f.pipe.stmts 0 f.pipe.mems in
    let os = all_outs (mem_names c.mems.result.now) c.args.twice.now ss ns rs c.args.squash in
    let list : os ≡ all_outs f.names ts ss ns rs c.args.squash = ap₂ (λ names bs. all_outs names bs ss ns rs c.args.squash) c.mems.ensures.names c.requires.twice in
    IfOk-weaker c.all.result (λ (x : List OutNet). x ≡ os) (λ (x : List OutNet). OutsThere b x)
    (λ (x : List OutNet) e. subst (OutsThere b) (sym (e ∙ list))
    (all_there b f.pipe f.names ss ns rs c.args.squash c.requires.some c.requires.count named told))
    c.all.ensures

pub returns-clause-shown : goal.returns-clause-shown
returns-clause-shown c b told =
    let f = form c.args.pipe.now in
    let ss = c.args.stages.now in
    let ns = c.args.nets.now in
    let rs = c.args.requests.now in
    let named = name_count f.names f.pipe c.mems.result.now c.mems.ensures.names c.mems.ensures.mems in
    let ts = all_twice f.pipe.stmts 0 f.pipe.mems in
    let os = all_outs (mem_names c.mems.result.now) c.args.twice.now ss ns rs c.args.squash in
    let list : os ≡ all_outs f.names ts ss ns rs c.args.squash = ap₂ (λ names bs. all_outs names bs ss ns rs c.args.squash) c.mems.ensures.names c.requires.twice in
    IfOk-weaker c.all.result (λ (x : List OutNet). x ≡ os)
    (λ (x : List OutNet). (vs : ℕ → View) (gates : Gates) (moves : ℕ → Signal) (names : ℕ → List ℕ) → AreOf b ss c.args.squash f.names vs gates moves names
    → shown_by b x ≡ whole_shown f.pipe names (commits_in b ns) (asks_in b rs) vs gates moves)
    (λ (x : List OutNet) e vs gates moves names h. ap (shown_by b) (e ∙ list)
    ∙ all_show b f.pipe f.names ss ns rs c.args.squash c.requires.some c.requires.count named told vs gates moves names h)
    c.all.ensures

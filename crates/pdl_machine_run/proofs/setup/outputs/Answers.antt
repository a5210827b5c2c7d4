use Rattle.std.proofs.Common.{◌∙◌, sym, ap, Bool, List, length}
use Rattle.std.proofs.lemmas.List.{length-map}
use Rattle.pdl_semantics.specs.Flat.{Mem}
use Rattle.pdl_form.specs.View.{mem_view}
use Rattle.pdl_form.specs.FormView.{form}
use Rattle.pdl_machine_facts.proofs.TwiceFlags.{flag_count}
use Rattle.pdl_machine_run.proofs.setup.outputs.Goals as goal

pub memory_outputs-requires : goal.memory_outputs-requires
memory_outputs-requires c =
    let p = (form c.args.pipe.now).pipe in
    ap (λ (ts : List Bool). length ts) c.requires ∙ flag_count p.stmts 0 p.mems
    ∙ sym (ap (λ (ds : List Mem). length ds) c.mems.ensures.mems) ∙ length-map c.mems.result.now mem_view

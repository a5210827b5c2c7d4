use Rattle.std.proofs.Common.{sym, ◌∙◌, inr}
use Rattle.pdl_form.specs.FormView.{form}
use Rattle.pdl_pipe_exprs.specs.Nets.{signals_in}
use Rattle.std.proofs.Common.{refl}
use Rattle.pdl_pipe_registers.specs.Begun.{earlier_views, earlier_count}
use Rattle.pdl_pipe_registers.proofs.SettledItems.{common_width, common_settled}
use Rattle.pdl_pipe_registers.proofs.entry.begin_item.Goals as goal

pub returns-in-Some-clause-may : goal.returns-in-Some-clause-may
returns-in-Some-clause-may c =
    let b = c.args.b.now in
    let f = form c.args.pipe.now in
    let x = c.args.earlier.now in
    let common = c.in-Some.ensures in
    inr record {
      regs = refl;
      wide = record {
        there = common.there;
        width =
            common_width b f (signals_in b c.args.shared.now.next) x c.args.item c.in-Some.net c.requires.earlier c.requires.item common ∙ sym c.requires.wide;
      };
      settled =
          common_settled b f.pipe (earlier_views b x)
          (earlier_count x) x.ways.now c.args.item c.in-Some.net c.requires.after c.requires.earlier.ways
          (sym c.is_answered.ensures ∙ c.if-not-is_answered.true) common;
    }

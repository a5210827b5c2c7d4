use Rattle.pdl_machine_run.proofs.cycle.step_stages.Goals as goal

pub returns-clause-wide : goal.returns-clause-wide
returns-clause-wide c f h w = c.come_in.ensures.wide f (c.remove_all.ensures.wide f (c.move_on.ensures.wide f h)) w

pub returns-clause-way : goal.returns-clause-way
returns-clause-way c f h w = c.come_in.ensures.place f (c.remove_all.ensures.wide f (c.move_on.ensures.wide f h)) w

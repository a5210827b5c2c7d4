use Rattle.pdl_cli_args.proofs.app.command.Goals as goal

pub returns : goal.returns
returns c =
    let one = c.joined-one.ensures _ _ c.bare_command.ensures c.check_command.ensures in
    let two = c.joined-two.ensures _ _ one c.run_command.ensures in
    let three = c.joined-three.ensures _ _ two c.seq_command.ensures in
    let four = c.joined-four.ensures _ _ three c.asm_command.ensures in
    let five = c.joined-five.ensures _ _ four c.gen_command.ensures in
    let six = c.joined-six.ensures _ _ five c.build_command.ensures in
    let seven = c.joined-seven.ensures _ _ six c.sim_command.ensures in
    let eight = c.joined-eight.ensures _ _ seven c.wave_command.ensures in
    c.joined.ensures _ _ eight c.view_command.ensures

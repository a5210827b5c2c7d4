use Rattle.std.proofs.Common.{◌≢◌, ◌≤◌, All, AllPairs, subst, sym}
use Rattle.pdl_vread.proofs.Memories.{mems_differ, mems_wide}
use Rattle.pdl_cli_commands.proofs.start.read_words.Goals as goal
use Rattle.pdl_word.specs.Words.{widest}

pub read_image-requires-clause-names : goal.read_image-requires-clause-names
read_image-requires-clause-names g c = subst (AllPairs (λ a b. a.name ≢ b.name)) (sym c.as_slice.ensures) (mems_differ c.args.netlist.now c.requires.well)

pub read_image-requires-clause-low : goal.read_image-requires-clause-low
read_image-requires-clause-low g c = subst (All (λ m. 1 ≤ m.width)) (sym c.as_slice.ensures) (λ k d l. (mems_wide c.args.netlist.now c.requires.well k d l).0)

pub read_image-requires-clause-high : goal.read_image-requires-clause-high
read_image-requires-clause-high g c = subst (All (λ m. m.width ≤ widest)) (sym c.as_slice.ensures) (λ k d l. (mems_wide c.args.netlist.now c.requires.well k d l).1)

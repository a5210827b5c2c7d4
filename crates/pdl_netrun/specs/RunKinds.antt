-- The kind of a run's cells.
use Rattle.std.specs.Prelude.{Bool, true, false}
use Rattle.pdl_netrun.specs.declared.operation.CellKind.{CellKind}
use Rattle.pdl_netrun.specs.declared.operation.CellKind.TheVariants as kinds
use Rattle.pdl_netrun.specs.declared.run_kind.RunKind.{RunKind}
use Rattle.pdl_netrun.specs.declared.run_kind.RunKind.TheVariants.{Taking, Testing, Counting}
use Rattle.pdl_netrun.specs.declared.run_kind.TakingKind.{TakingKind}
use Rattle.pdl_netrun.specs.declared.run_kind.TakingKind.TheVariants.{Word, Part}
use Rattle.pdl_netrun.specs.declared.run_kind.TestingKind.{TestingKind}
use Rattle.pdl_netrun.specs.declared.run_kind.TestingKind.TheVariants.{Compare, Combine}
use Rattle.pdl_netrun.specs.declared.run_kind.CountingKind.{CountingKind}
use Rattle.pdl_netrun.specs.declared.run_kind.CountingKind.TheVariants.{Count, Turn}
use Rattle.pdl_netrun.specs.declared.run_kind.WordKind.{WordKind}
use Rattle.pdl_netrun.specs.declared.run_kind.WordKind.TheVariants as word
use Rattle.pdl_netrun.specs.declared.run_kind.PartKind.{PartKind}
use Rattle.pdl_netrun.specs.declared.run_kind.PartKind.TheVariants as part
use Rattle.pdl_netrun.specs.declared.run_kind.CompareKind.{CompareKind}
use Rattle.pdl_netrun.specs.declared.run_kind.CompareKind.TheVariants as compare
use Rattle.pdl_netrun.specs.declared.run_kind.CombineKind.{CombineKind}
use Rattle.pdl_netrun.specs.declared.run_kind.CombineKind.TheVariants as combine
use Rattle.pdl_netrun.specs.declared.run_kind.CountKind.{CountKind}
use Rattle.pdl_netrun.specs.declared.run_kind.CountKind.TheVariants as count
use Rattle.pdl_netrun.specs.declared.run_kind.TurnKind.{TurnKind}
use Rattle.pdl_netrun.specs.declared.run_kind.TurnKind.TheVariants as turn

-- the kind of the cells of a run of this kind
abbrev pub kind_in : RunKind → CellKind
kind_in (Taking (Word word.Constant)) = kinds.Constant
kind_in (Taking (Word word.Choose)) = kinds.Choose
kind_in (Taking (Word word.Look)) = kinds.Look
kind_in (Taking (Part part.Slice)) = kinds.Slice
kind_in (Taking (Part part.Join)) = kinds.Join
kind_in (Taking (Part part.Repeat)) = kinds.Repeat
kind_in (Testing (Compare compare.Equal)) = kinds.Equal
kind_in (Testing (Compare compare.Differ)) = kinds.Differ
kind_in (Testing (Compare compare.Less)) = kinds.Less
kind_in (Testing (Combine combine.And)) = kinds.And
kind_in (Testing (Combine combine.Or)) = kinds.Or
kind_in (Testing (Combine combine.Xor)) = kinds.Xor
kind_in (Counting (Count count.Add)) = kinds.Add
kind_in (Counting (Count count.Sub)) = kinds.Sub
kind_in (Counting (Count count.Mul)) = kinds.Mul
kind_in (Counting (Turn turn.Complement)) = kinds.Complement
kind_in (Counting (Turn turn.ShiftLeft)) = kinds.ShiftLeft
kind_in (Counting (Turn turn.ShiftRight)) = kinds.ShiftRight

-- whether the cells of a run of this kind are constants
abbrev pub is_constant : RunKind → Bool
is_constant (Taking (Word word.Constant)) = true
is_constant _ = false

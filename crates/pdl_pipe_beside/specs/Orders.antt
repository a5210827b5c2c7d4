-- The orders of forks.
use Rattle.std.specs.Prelude.{◌≡◌, ℕ, ◌<◌, ◌≤◌, ◌==◌, Bool, List, length, Option, Some, is_some, count_by}
use Rattle.pdl_semantics.specs.Flat.{Stage, Pipe}
use Rattle.pdl_semantics.specs.Stages.{stage_at, list_any, merges_fork}
use Rattle.pdl_net.specs.Circuit.{Circuit}
use Rattle.pdl_net.specs.Meaning.{signal}
use Rattle.pdl_order.specs.declared.OrderRegs.{OrderRegs}
use Rattle.pdl_order.specs.Laws.{HasOrderNets, StartLaw, FirstLaw, own}
use Rattle.pdl_order.specs.Words.{ArePlaced, stands}
use Rattle.pdl_machine_inflight.specs.Readings.{branch_stages}
use Rattle.pdl_law_sides.specs.HasSides.{HasOwn}
use Rattle.pdl_pipe_walk.specs.Locked.{some_at}

-- whether some stage merges a fork
abbrev pub merged_in : List Stage → ℕ → Bool
merged_in ss f = list_any (λ (s : Stage). merges_fork s.merges f) ss

-- whether some stage of a pipe merges a fork
abbrev pub is_merged : Pipe → ℕ → Bool
is_merged p f = merged_in p.stages f

-- how many of these stages stand in the branches of a fork
abbrev pub branches_in : List Stage → ℕ → ℕ
branches_in ss f = count_by (λ (s : Stage). list_any (λ b. b.fork == f) s.branches) ss

-- the branches of a fork that is merged have no more than 64 stages
pub record ForksFit (p : Pipe) : Type 0 where
  pub few : (f q : ℕ) → (stage_at p q).merges ≡ Some f → branch_stages p f ≤ 64

-- the order of a fork: its registers are there, and the laws of its start and of its first entry hold
pub record IsOrder (c : Circuit) (p : Pipe) (f : ℕ) (r : OrderRegs) : Type 0 where
  pub stages : branch_stages p f ≤ r.stages
  pub nets : HasOrderNets c r
  pub placed : ArePlaced c r
  pub owned : HasOwn c (own r)
  pub starts : StartLaw (stands r) c (own r)
  pub first : FirstLaw (stands r) (signal c r.first) (signal c r.empty)

-- a stage has one where another stage merges its fork
pub record HasOrderOf (c : Circuit) (p : Pipe) (f : ℕ) (o : Option OrderRegs) : Type 0 where
  pub some : is_some o ≡ is_merged p f
  pub order : (r : OrderRegs) → o ≡ Some r → IsOrder c p f r

-- each fork that is merged has an order, with registers of its own
pub record StandOrders (c : Circuit) (p : Pipe) (rs : List (Option OrderRegs)) : Type 0 where
  pub count : length rs ≡ length p.stages
  pub some : (f : ℕ) → f < length p.stages → is_some (some_at rs f) ≡ is_merged p f
  pub each : (f : ℕ) (r : OrderRegs) → f < length p.stages → some_at rs f ≡ Some r → IsOrder c p f r
  pub apart : (i j : ℕ) (x y : OrderRegs) → i < j → j < length p.stages → some_at rs i ≡ Some x → some_at rs j ≡ Some y → (own x).to ≤ (own y).from

-- The two oldest pending writes, and the commits, as nets.
use Rattle.std.specs.Prelude.{◌≡◌}
use Rattle.pdl_net.specs.Circuit.{Circuit}
use Rattle.pdl_net.specs.Signal.{const_signal, mux_signal}
use Rattle.pdl_net.specs.Meaning.{Means, signal}
use Rattle.pdl_lockapi.specs.declared.LockNets.{LockNets}
use Rattle.pdl_lockapi.specs.Laws.{StepSignals}
use Rattle.pdl_lock_ring.specs.declared.layout.RingLayout.{RingLayout}
use Rattle.pdl_lock_ring.specs.declared.step.Oldest.{Oldest}
use Rattle.pdl_lock_ring.specs.Steps.{oldest_addr, oldest_value, next_addr, next_value}

-- these nets mean the oldest pending writes after a cycle's reservations and writes
pub record AreOldest (c : Circuit) (l : RingLayout) (f : StepSignals) (o : Oldest) : Type 0 where
  pub addr : Means c o.first.addr (oldest_addr l f)
  pub content : Means c o.first.content (oldest_value l f)
  pub addr2 : Means c o.second.addr (next_addr l f)
  pub content2 : Means c o.second.content (next_value l f)
  pub addr_wide : (signal c o.first.addr).width ≡ l.bits
  pub content_wide : (signal c o.first.content).width ≡ l.kept
  pub addr2_wide : (signal c o.second.addr).width ≡ l.bits
  pub content2_wide : (signal c o.second.content).width ≡ l.kept

-- the nets of the commit ports, where the slots keep values
pub record AreCommits (c : Circuit) (l : RingLayout) (f : StepSignals) (n : LockNets) : Type 0 where
  pub commit : Means c n.commit f.release
  pub addr : Means c n.addr (mux_signal f.release (oldest_addr l f) (const_signal l.bits 0))
  pub value : Means c n.value (mux_signal f.release (oldest_value l f) (const_signal l.width 0))
  pub commit2 : Means c n.commit2 f.release2
  pub addr2 : Means c n.addr2 (mux_signal f.release2 (next_addr l f) (const_signal l.bits 0))
  pub value2 : Means c n.value2 (mux_signal f.release2 (next_value l f) (const_signal l.width 0))
  pub addr_wide : (signal c n.addr).width ≡ l.bits
  pub value_wide : (signal c n.value).width ≡ l.width
  pub addr2_wide : (signal c n.addr2).width ≡ l.bits
  pub value2_wide : (signal c n.value2).width ≡ l.width
